-- By the lemmas of bits that are set in turn.
use Rattle.std.proofs.Common.{◌≡◌, ℕ, length, arith, subst}
use Rattle.std.proofs.lemmas.Option.{slice_get-get_or}
use Rattle.query_engine.proofs.BlankLemmas.{AreSet, all_set, set_one}
use Rattle.query_engine.proofs.point.set_bits.Goals as goal

pub loop-place-preserved : goal.loop-place-preserved
loop-place-preserved c =
    set_one c.args.vars.now c.args.values.now c.loop-place.place c.args.point.now c.loop-place.point c.give_bit.new.point _ _ c.requires.rising
    (slice_get-get_or c.args.vars.now c.loop-place.place _ c.loop-place-test.true)
    (slice_get-get_or c.args.values.now c.loop-place.place _ (omega (arith, c.loop-place-test.true, c.requires.long)))
    c.loop-place.invariant c.give_bit.ensures

pub returns-clause-bits : goal.returns-clause-bits
returns-clause-bits c =
    let end : c.loop-place.place ≡ length c.args.vars.now = omega arith in
    all_set c.args.vars.now c.args.values.now c.args.point.now c.loop-place.point c.requires.long
    (subst (λ (n : ℕ). AreSet c.args.vars.now c.args.values.now n c.args.point.now c.loop-place.point) end c.loop-place.invariant)
