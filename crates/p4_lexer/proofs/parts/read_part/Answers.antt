use Rattle.std.proofs.Common.{None, sym, ◌∙◌, ◌∷◌, length, length-append, length-drop, ap, arith}
use Rattle.p4_lexer.specs.Bytes.{hash}
use Rattle.p4_lexer.proofs.FaultReadLemmas.{part_reads}
use Rattle.p4_lexer.proofs.parts.read_part.Goals as goal

pub read_line-requires-clause-within : goal.read_line-requires-clause-within
read_line-requires-clause-within c =
    let begins = c.in-Some.ensures.1.0 in
    omega (arith, c.in-Some.ensures.1.1, ap length begins.spelled, length-append begins.lead (hash ∷ begins.rest), length-drop c.args.at c.args.text.now)

pub returns-in_ok-read-2 : goal.returns-in_ok-read-2
returns-in_ok-read-2 c = λ in_force st.
    let read = c.in_ok-read-2.read in
    part_reads c.args.text.now c.args.at read.len in_force c.args.scope.now c.args.events.now c.read_piece.new.events read.fault st
    (c.in_ok-read-2.ensures in_force (sym st.taken ∙ c.if-scope.true) c.in_default.ensures c.requires.placed)

pub returns-else-scope : goal.returns-else-scope
returns-else-scope c = λ in_force st.
    let (p, stood, told, same, first) = c.skipped_len-len.ensures in_force (sym st.taken ∙ c.if-scope.false) c.in_default.ensures in
    part_reads c.args.text.now c.args.at c.skipped_len-len.result in_force c.args.scope.now c.args.events.now c.args.events.now None st
    (p, stood, told c.args.events.now, same, first)
