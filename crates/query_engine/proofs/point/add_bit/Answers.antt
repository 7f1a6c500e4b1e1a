-- By the lemma of a read that has grown.
use Rattle.std.proofs.Common.{refl, sym, subst}
use Rattle.cnf_core.specs.declared.derivation.Var.{Var}
use Rattle.query_engine.specs.Blank.{Adds}
use Rattle.query_engine.proofs.BlankLemmas.{adds_read}
use Rattle.query_engine.proofs.point.add_bit.Goals as goal

pub returns-in_ok-add_read-in-Read : goal.returns-in_ok-add_read-in-Read
returns-in_ok-add_read-in-Read c =
    subst (λ (v : Var). Adds v c.args.point.now record { inputs = c.args.point.now.inputs; reads = c.widen.new.reads }) (sym c.in-Read.is)
    (adds_read c.in-Read.read c.in-Read.bit c.args.point.now record { inputs = c.args.point.now.inputs; reads = c.widen.new.reads }
    c.add_read.new.reads c.requires.zeros c.in_ok-add_read-in-Read.ensures.pads c.widen.ensures refl)
