use Rattle.std.proofs.Common.{MatchResult, Err, ap, sym, subst}
use Rattle.testgen_engine.specs.Skeleton.{StandsFor, IsRefused}
use Rattle.testgen_engine.specs.Source.{ReadsSource, StopsReading}
use Rattle.testgen_engine.proofs.EndLemmas.{program_ends, refused_ends, fault_ends, met_fault, cut_at_once, ended_at_once}
use Rattle.testgen_engine.proofs.SourceLemmas.{reads_only, fails_only, nothing_written}
use Rattle.testgen_engine.proofs.generate.generate.Goals as goal

pub returns-in-Err-Failed-clause-ends : goal.returns-in-Err-Failed-clause-ends
returns-in-Err-Failed-clause-ends g c words asks =
    let stopped = c.in-Err-Failed.ensures in
    let name = c.args.job.name.now in
    let failed = subst (StopsReading (g.D.Desk.moment c.args.desk.now) (g.D.Desk.moment c.read_source.new.desk) name) c.in-Err-Failed.field-0-is stopped.read in
    let rose = stopped.faults.failed (ap Err c.in-Err-Failed.field-0-is) in
    fault_ends _ (g.D.Desk.moment c.read_source.new.desk) _ words stopped.stays (met_fault _ _ _ words name c.args.job.bounds asks failed rose c.tell_fault.ensures.stays)
    c.tell_fault.result c.tell_fault.ensures.told c.tell_fault.ensures.writes

pub returns-in-Err-Failed-clause-reads : goal.returns-in-Err-Failed-clause-reads
returns-in-Err-Failed-clause-reads g c =
    let name = c.args.job.name.now in
    let failed = subst (StopsReading (g.D.Desk.moment c.args.desk.now) (g.D.Desk.moment c.read_source.new.desk) name) c.in-Err-Failed.field-0-is c.in-Err-Failed.ensures.read in
    fails_only _ (g.D.Desk.moment c.read_source.new.desk) _ name failed c.tell_fault.ensures.stays

pub returns-in-Err-Memory-clause-ends : goal.returns-in-Err-Memory-clause-ends
returns-in-Err-Memory-clause-ends g c words asks = cut_at_once _ _ words c.in-Err-Memory.ensures.stays

pub returns-in-Err-Memory-clause-reads : goal.returns-in-Err-Memory-clause-reads
returns-in-Err-Memory-clause-reads g c =
    subst (StopsReading (g.D.Desk.moment c.args.desk.now) (g.D.Desk.moment c.read_source.new.desk) c.args.job.name.now) c.in-Err-Memory.field-0-is c.in-Err-Memory.ensures.read

pub returns-in-Ok-2-clause-ends : goal.returns-in-Ok-2-clause-ends
returns-in-Ok-2-clause-ends g c words asks =
    let name = c.args.job.name.now in
    let bytes = c.as_slice.result.now in
    let source = subst (ReadsSource (g.D.Desk.moment c.args.desk.now) (g.D.Desk.moment c.read_source.new.desk) name) (sym c.as_slice.ensures.value) c.in-Ok.ensures.read in
    let stands = subst (λ r. MatchResult r (StandsFor bytes) (IsRefused bytes)) c.in-Ok-2.is c.in_ok-program.ensures in
    program_ends _ _ _ words name bytes c.args.job.bounds c.in-Ok-2.program asks source c.in-Ok.ensures.stays c.finish.ensures.stays stands
    c.finish.result c.finish.ensures.told c.finish.ensures.writes

pub returns-in-Ok-2-clause-reads : goal.returns-in-Ok-2-clause-reads
returns-in-Ok-2-clause-reads g c = reads_only _ _ _ c.args.job.name.now _ c.in-Ok.ensures.read c.finish.ensures.stays

pub returns-clause-ends : goal.returns-clause-ends
returns-clause-ends g c words asks =
    let name = c.args.job.name.now in
    let bytes = c.as_slice.result.now in
    let source = subst (ReadsSource (g.D.Desk.moment c.args.desk.now) (g.D.Desk.moment c.read_source.new.desk) name) (sym c.as_slice.ensures.value) c.in-Ok.ensures.read in
    let refused = subst (λ r. MatchResult r (StandsFor bytes) (IsRefused bytes)) c.in-Err.is c.in_ok-program.ensures in
    refused_ends _ _ _ words name bytes c.args.job.bounds c.in-Err.refusal asks source c.in-Ok.ensures.stays c.refuse.ensures.stays refused
    c.refuse.result c.refuse.ensures.told c.refuse.ensures.writes

pub returns-clause-reads : goal.returns-clause-reads
returns-clause-reads g c = reads_only _ _ _ c.args.job.name.now _ c.in-Ok.ensures.read c.refuse.ensures.stays

pub returns-in_err-program-clause-ends : goal.returns-in_err-program-clause-ends
returns-in_err-program-clause-ends g c words asks = ended_at_once _ _ words c.from_residual.result c.in-Ok.ensures.stays c.from_residual.ensures.0

pub returns-in_err-program-clause-reads : goal.returns-in_err-program-clause-reads
returns-in_err-program-clause-reads g c = reads_only _ _ _ c.args.job.name.now _ c.in-Ok.ensures.read (nothing_written _)
