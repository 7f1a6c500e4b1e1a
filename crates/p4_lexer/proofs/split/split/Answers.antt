use Rattle.std.proofs.Common.{subst}
use Rattle.p4_lexer.specs.Scanning.{IsFirstOf}
use Rattle.p4_lexer.specs.PartFaults.{IsOpenAt}
use Rattle.p4_lexer.proofs.FaultReadLemmas.{split_is}
use Rattle.p4_lexer.proofs.split.split.Goals as goal

pub returns : goal.returns
returns c =
    let read = c.in_ok-read.read in
    split_is c.args.text.now read.scope read.events read.fault c.open_fault-open.result c.text_fault.result c.first_of-parts.result c.first_of-fault.result c.in_ok-read.ensures
    (subst (λ cs. IsFirstOf (IsOpenAt cs) c.open_fault-open.result) c.as_slice.ensures c.open_fault-open.ensures) c.text_fault.ensures c.first_of-parts.ensures c.first_of-fault.ensures
