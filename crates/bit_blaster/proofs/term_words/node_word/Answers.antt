-- Each node's word, from its operands' words.
use Rattle.std.proofs.Common.{◌<◌, length, arith, inl, inr, refl, subst}
use Rattle.term_dag.specs.Width.{OperandsBelow, WidthsAllow, width_of}
use Rattle.term_dag.specs.declared.node.Node.TheVariants.{One, Two, Slice, Extend, Choose}
use Rattle.bit_blaster.proofs.NodeWordLemmas.{ok_along, operand_word, some_wire}
use Rattle.bit_blaster.proofs.TermWordLemmas.{constant_word_right, input_word_right, read_word_right, one_word_right, two_word_right, slice_word_right, extend_word_right, choose_word_right}
use Rattle.bit_blaster.proofs.term_words.node_word.Goals as goal

pub operate-requires-clause-first : goal.operate-requires-clause-first
operate-requires-clause-first c =
    (operand_word c.args.dag.now c.args.variables.now c.args.circuit.now c.args.node c.args.table.now.items c.requires.words
    (One c.in-One.op c.in-One.a) c.in-One.is c.in-One.a c.word_at-word.result.now refl c.word_at-word.ensures).has

pub operate-requires-clause-second : goal.operate-requires-clause-second
operate-requires-clause-second c = operate-requires-clause-first c

pub extend-requires-clause-word : goal.extend-requires-clause-word
extend-requires-clause-word c =
    (operand_word c.args.dag.now c.args.variables.now c.args.circuit.now c.args.node c.args.table.now.items c.requires.words
    (Extend c.in-Extend.a c.in-Extend.width c.in-Extend.signed) c.in-Extend.is c.in-Extend.a c.word_at-in-Extend.result.now refl
    c.word_at-in-Extend.ensures).has

pub extend-requires-clause-some_bit : goal.extend-requires-clause-some_bit
extend-requires-clause-some_bit c =
    let below : c.in-Extend.a.number < length c.args.table.now.items =
    subst (OperandsBelow (length c.args.table.now.items)) c.in-Extend.is c.requires.operands in
    some_wire c.args.dag.now c.len.ensures.dag c.args.variables.now c.args.circuit.now c.in-Extend.a c.word_at-in-Extend.result.now
    (omega arith)
    (operand_word c.args.dag.now c.args.variables.now c.args.circuit.now c.args.node c.args.table.now.items c.requires.words
    (Extend c.in-Extend.a c.in-Extend.width c.in-Extend.signed) c.in-Extend.is c.in-Extend.a c.word_at-in-Extend.result.now refl
    c.word_at-in-Extend.ensures)

pub returns-in-Constant-clause-word : goal.returns-in-Constant-clause-word
returns-in-Constant-clause-word c =
    rw c.in-Constant.is (ok_along c.constant_word.result _ _
    (λ word is. constant_word_right c.args.dag.now c.args.circuit.now c.args.variables.now c.requires.inputs c.in-Constant.bits word.items is)
    c.constant_word.ensures)

pub returns-in-Input-clause-word : goal.returns-in-Input-clause-word
returns-in-Input-clause-word c =
    rw c.in-Input.is (ok_along c.input_word.result _ _
    (λ word are. input_word_right c.args.dag.now c.args.circuit.now c.args.variables.now c.requires.inputs word.items c.in-Input.first
    c.in-Input.width are)
    c.input_word.ensures)

pub returns-in-Read-clause-word : goal.returns-in-Read-clause-word
returns-in-Read-clause-word c =
    rw c.in-Read.is (ok_along c.read_word.result _ _
    (λ word are. read_word_right c.args.dag.now c.args.circuit.now c.args.variables.now c.requires.inputs word.items c.in-Read.read
    c.in-Read.width are)
    c.read_word.ensures)

pub returns-in-One-clause-word : goal.returns-in-One-clause-word
returns-in-One-clause-word c =
    let is = operand_word c.args.dag.now c.args.variables.now c.args.circuit.now c.args.node c.args.table.now.items c.requires.words
    (One c.in-One.op c.in-One.a) c.in-One.is c.in-One.a c.word_at-word.result.now refl c.word_at-word.ensures in
    rw c.in-One.is (ok_along c.operate.result _ _
    (λ word computes. one_word_right c.args.dag.now c.len.ensures.dag c.args.variables.now c.args.circuit.now c.operate.new.circuit
    c.in-One.op c.in-One.a c.word_at-word.result.now word.items
    (subst (WidthsAllow (width_of c.args.dag.now)) c.in-One.is c.requires.widths) is computes)
    c.operate.ensures.computes)

pub returns-in-Two-clause-word : goal.returns-in-Two-clause-word
returns-in-Two-clause-word c =
    let made = Two c.in-Two.op c.in-Two.a c.in-Two.b in
    let first = operand_word c.args.dag.now c.args.variables.now c.args.circuit.now c.args.node c.args.table.now.items c.requires.words
    made c.in-Two.is c.in-Two.a c.word_at.result.now (inl refl) c.word_at.ensures in
    let second = operand_word c.args.dag.now c.args.variables.now c.args.circuit.now c.args.node c.args.table.now.items c.requires.words
    made c.in-Two.is c.in-Two.b c.word_at-in-Two.result.now (inr refl) c.word_at-in-Two.ensures in
    rw c.in-Two.is (ok_along c.operate-in-Two.result _ _
    (λ word computes. two_word_right c.args.dag.now c.len.ensures.dag c.args.variables.now c.args.circuit.now c.operate-in-Two.new.circuit
    c.in-Two.op c.in-Two.a c.in-Two.b c.word_at.result.now c.word_at-in-Two.result.now word.items first second computes)
    c.operate-in-Two.ensures.computes)

pub returns-in-Slice-clause-word : goal.returns-in-Slice-clause-word
returns-in-Slice-clause-word c =
    let is = operand_word c.args.dag.now c.args.variables.now c.args.circuit.now c.args.node c.args.table.now.items c.requires.words
    (Slice c.in-Slice.a c.in-Slice.high c.in-Slice.low) c.in-Slice.is c.in-Slice.a c.word_at-in-Slice.result.now refl c.word_at-in-Slice.ensures in
    rw c.in-Slice.is (ok_along c.slice.result _ _
    (λ word computes. slice_word_right c.args.dag.now c.len.ensures.dag c.args.variables.now c.args.circuit.now c.args.circuit.now
    c.in-Slice.a c.in-Slice.high c.in-Slice.low c.word_at-in-Slice.result.now word.items is computes)
    c.slice.ensures)

pub returns-in-Extend-clause-word : goal.returns-in-Extend-clause-word
returns-in-Extend-clause-word c =
    let is = operand_word c.args.dag.now c.args.variables.now c.args.circuit.now c.args.node c.args.table.now.items c.requires.words
    (Extend c.in-Extend.a c.in-Extend.width c.in-Extend.signed) c.in-Extend.is c.in-Extend.a c.word_at-in-Extend.result.now refl
    c.word_at-in-Extend.ensures in
    rw c.in-Extend.is (ok_along c.extend.result _ _
    (λ word computes. extend_word_right c.args.dag.now c.len.ensures.dag c.args.variables.now c.args.circuit.now c.args.circuit.now
    c.in-Extend.a c.in-Extend.width c.in-Extend.signed c.word_at-in-Extend.result.now word.items is computes)
    c.extend.ensures)

pub returns-in-Choose-clause-word : goal.returns-in-Choose-clause-word
returns-in-Choose-clause-word c =
    let made = Choose c.in-Choose.condition c.in-Choose.a c.in-Choose.b in
    let condition = operand_word c.args.dag.now c.args.variables.now c.args.circuit.now c.args.node c.args.table.now.items c.requires.words
    made c.in-Choose.is c.in-Choose.condition c.word_at-in-Choose.result.now (inl refl) c.word_at-in-Choose.ensures in
    let first = operand_word c.args.dag.now c.args.variables.now c.args.circuit.now c.args.node c.args.table.now.items c.requires.words
    made c.in-Choose.is c.in-Choose.a c.word_at-in-Choose-2.result.now (inr (inl refl)) c.word_at-in-Choose-2.ensures in
    let second = operand_word c.args.dag.now c.args.variables.now c.args.circuit.now c.args.node c.args.table.now.items c.requires.words
    made c.in-Choose.is c.in-Choose.b c.word_at-in-Choose-3.result.now (inr (inr refl)) c.word_at-in-Choose-3.ensures in
    rw c.in-Choose.is (ok_along c.choose.result _ _
    (λ word computes. choose_word_right c.args.dag.now c.len.ensures.dag c.args.variables.now c.args.circuit.now c.choose.new.circuit
    c.in-Choose.condition c.in-Choose.a c.in-Choose.b c.word_at-in-Choose.result.now c.word_at-in-Choose-2.result.now
    c.word_at-in-Choose-3.result.now word.items (subst (WidthsAllow (width_of c.args.dag.now)) c.in-Choose.is c.requires.widths).1
    condition first second computes)
    c.choose.ensures.computes)
