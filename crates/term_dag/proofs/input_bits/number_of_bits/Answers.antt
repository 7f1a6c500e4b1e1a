-- No sum passes the type: it is the number of at most 128 bits.
use Rattle.std.proofs.Common.{rules, slice_index_or, false}
use mir.Val.{bool_byte}
use Rattle.term_dag.proofs.InputBitsLemmas.{bit_is_small, room_for_bit, room_for_double}
use Rattle.term_dag.proofs.input_bits.number_of_bits.Goals as goal

pub overflow_mul-number : goal.overflow_mul-number
overflow_mul-number c =
    let h = room_for_double c.args.bits.now c.loop-bit.bit-index c.loop-bit.number c.loop-bit.invariant (search rules) c.requires in
    search (h, rules)

pub overflow_add-number : goal.overflow_add-number
overflow_add-number c =
    let bit = slice_index_or c.args.bits.now c.loop-bit.bit-index false in
    let h = room_for_bit c.args.bits.now c.loop-bit.bit-index c.loop-bit.number c.loop-bit.invariant (search rules) c.requires (bool_byte bit) (bit_is_small bit) in
    search (h, rules)
