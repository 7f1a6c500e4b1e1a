-- A literal that has a reason follows by it.
use Rattle.std.proofs.Common.{◌≡◌, ◌<◌, ℕ, Option, Some, None, List, length, get_or, ap, sym, ◌∙◌, subst}
use Rattle.std.specs.Prelude.{IfSome, slice_get}
use Rattle.std.proofs.lemmas.List.{get_or-map}
use Rattle.std.proofs.lemmas.Option.{get_or_from_slice_get, slice_get_within}
use Rattle.unit_propagation.specs.declared.assignment.Cause.{Cause}
use Rattle.unit_propagation.specs.Trail.{IsJustified, reasons_of}
use Rattle.unit_propagation.specs.Propagation.{Propagation, ExplainsPlace}
use Rattle.unit_propagation.proofs.propagator.Propagator.reason.Goals as goal

explains : (p : Propagation) (place : ℕ) (r : Option ℕ) → IsJustified p.clauses p.trail p.reasons → place < length p.trail → get_or p.reasons place None ≡ r →
    IfSome r (λ c. ExplainsPlace p place c)
explains p place None justified inside is = tt
explains p place (Some c) justified inside is = λ l. justified place c l inside is

read : (causes : List Cause) (place : ℕ) (c : Cause) → slice_get causes place ≡ Some c → get_or (reasons_of causes) place None ≡ c.reason
read causes place c at = get_or-map (λ (k : Cause). k.reason) causes place c None (slice_get_within causes place c at) ∙ ap (λ (k : Cause). k.reason) (get_or_from_slice_get causes place c c at)

pub returns-clause-explains : goal.returns-clause-explains
returns-clause-explains c =
    let justified = subst (λ (p : Propagation). IsJustified p.clauses p.trail p.reasons) c.self.view_is c.self.invariant.state.justified in
    let is = ap (λ (p : Propagation). get_or p.reasons c.args.place None) (sym c.self.view_is) ∙ read c.self.inside.assignment.causes c.args.place c.cause.result c.cause.ensures in
    explains c.args.self.now c.args.place c.cause.result.reason justified c.requires is
