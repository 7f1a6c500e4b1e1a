-- By the lemmas of a bit that is set.
use Rattle.std.proofs.Common.{false, true, refl, sym, subst}
use Rattle.std.proofs.lemmas.Option.{slice_get_within}
use Rattle.cnf_core.specs.declared.derivation.Var.{Var}
use Rattle.bit_blaster.specs.Vars.{HasBit}
use Rattle.query_engine.specs.Blank.{Sets}
use Rattle.query_engine.proofs.BlankLemmas.{sets_input, sets_read}
use Rattle.query_engine.proofs.ListLemmas.{index_is}
use Rattle.query_engine.proofs.point.set_bit.Goals as goal

pub returns-in-Input : goal.returns-in-Input
returns-in-Input c =
    subst (λ (v : Var). Sets v true c.args.point.now record { inputs = c.set.new.self; reads = c.args.point.now.reads }) (sym c.in-Input.is)
    (sets_input c.in-Input.bit c.args.point.now record { inputs = c.set.new.self; reads = c.args.point.now.reads }
    (subst (λ (v : Var). HasBit c.args.point.now v false) c.in-Input.is c.requires) c.set.ensures refl)

pub returns-in-Read : goal.returns-in-Read
returns-in-Read c =
    let has = subst (λ (v : Var). HasBit c.args.point.now v false) c.in-Read.is c.requires in
    subst (λ (v : Var). Sets v true c.args.point.now record { inputs = c.args.point.now.inputs; reads = c.set-in-Read.new.self })
    (sym c.in-Read.is)
    (sets_read c.in-Read.read c.in-Read.bit c.args.point.now record { inputs = c.args.point.now.inputs; reads = c.set-in-Read.new.self }
    c.index-as_slice-read.result c.with_bit-bits.result
    (index_is c.args.point.now.reads c.as_slice.result.now c.in-Read.read c.index-as_slice-read.result c.as_slice.ensures
    (slice_get_within c.args.point.now.reads c.in-Read.read has.0 has.1) c.index-as_slice-read.is)
    has c.set-in-Read.ensures refl c.with_bit-bits.ensures.width c.with_bit-bits.ensures.bits)
