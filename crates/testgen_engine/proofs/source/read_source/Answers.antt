use Rattle.std.proofs.Common.{sym, ◌∙◌, subst}
use Rattle.testgen_engine.specs.Source.{ReadsSource}
use Rattle.testgen_engine.proofs.SourceLemmas.{truncated, cause_err, cause_ok}
use Rattle.testgen_engine.proofs.source.read_source.Goals as goal

pub read_into-requires : goal.read_into-requires
read_into-requires g c = c.as_mut_slice.ensures.len ∙ c.in_ok-bytes.ensures.len

pub returns-clause-read : goal.returns-clause-read
returns-clause-read g c =
    let whole = c.read_into.auto.buffer ∙ c.as_mut_slice.ensures.len in
    let bytes = c.truncate.ensures.items ∙ truncated c.in_ok-len.len c.in_ok-bytes.bytes.len c.read_into.new.buffer c.in_ok-bytes.bytes.items whole in
    subst (ReadsSource (g.D.Desk.moment c.args.desk.now) (g.D.Desk.moment c.read_into.new.desk) c.args.name.now) (sym bytes) c.in_ok-len.ensures.read

pub returns-clause-faults : goal.returns-clause-faults
returns-clause-faults g c = cause_ok _ _ c.in_ok-len.len c.truncate.new.self c.in_ok-len.ensures.faults

pub returns-in_err-len-clause-faults : goal.returns-in_err-len-clause-faults
returns-in_err-len-clause-faults g c =
    cause_err _ _ c.read_into.result c.from_residual-in_err-len.result c.in_err-len.field-0.0 c.read_into.ensures.faults c.in_err-len.was c.from_residual-in_err-len.ensures.1
