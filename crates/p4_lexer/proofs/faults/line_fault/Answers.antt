use Rattle.p4_lexer.specs.PartFaults.{IsBadWhereTaken, IsStray}
use Rattle.p4_lexer.proofs.FirstFaultLemmas.{first_of_both}
use Rattle.p4_lexer.proofs.faults.line_fault.Goals as goal

pub returns : goal.returns
returns c =
    first_of_both (IsBadWhereTaken c.args.text.now c.args.pieces.now c.args.taken) (IsStray c.args.belongs c.args.hash_place) c.taken_fault-bad.result c.stray_fault.result c.first_of.result
    c.taken_fault-bad.ensures c.stray_fault.ensures c.first_of.ensures
