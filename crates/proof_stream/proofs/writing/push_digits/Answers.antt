use Rattle.std.proofs.Common.{◌-◌, arith, string_bytes, ◌++◌, subst}
use Rattle.std.specs.Fmt.{AppendsText}
use Rattle.proof_stream.specs.Words.{hex_digits}
use Rattle.proof_stream.proofs.HexLemmas.{power_below, digits_go_on, high_digit}
use Rattle.proof_stream.proofs.writing.push_digits.Goals as goal

pub pow-unit-requires : goal.pow-unit-requires
pow-unit-requires c = power_below (c.loop-places.places - 1) (omega arith)

pub overflow_cast-digit : goal.overflow_cast-digit
overflow_cast-digit c =
    let small = high_digit c.loop-places.rest c.loop-places.places c.pow-unit.result c.loop-places-test.true c.pow-unit.ensures c.loop-places.invariant.1 in
    omega arith

pub loop-places-preserved : goal.loop-places-preserved
loop-places-preserved c =
    let old = string_bytes c.loop-places.text in
    let new = string_bytes c.write.new.self in
    let written = subst (λ o. AppendsText old new o) c.in_radix.ensures (c.in_ok-write.ensures.bytes) in
    let both = digits_go_on old new (string_bytes c.args.text.now ++ hex_digits c.args.h.digits c.args.h.value) c.loop-places.places c.loop-places.rest c.pow-unit.result c.loop-places-test.true c.pow-unit.ensures c.loop-places.invariant.1 written c.loop-places.invariant.0 in
    (both.0, both.1, omega arith)
