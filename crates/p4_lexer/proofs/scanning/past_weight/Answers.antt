use Rattle.std.proofs.Common.{◌∙◌, Option, Some, None, subst, ap, refl}
use Rattle.tg_base.specs.declared.place.Span.{Span}
use Rattle.tg_base.specs.declared.place.Code.TheVariants.{Limit}
use Rattle.p4_lexer.specs.declared.limits.TheConstants.{MAX_WEIGHT}
use Rattle.p4_lexer.specs.Weight.{within}
use Rattle.p4_lexer.specs.Events.{IsNextPlace}
use Rattle.p4_lexer.specs.Tokens.{refusal_at}
use Rattle.p4_lexer.proofs.HeavyLemmas.{weight_decides}
use Rattle.p4_lexer.proofs.scanning.past_weight.Goals as goal

pub returns-in-Some : goal.returns-in-Some
returns-in-Some c all next =
    weight_decides all (Some c.in-Some.place) (Some c.refusal_at.result) (subst (λ (place : Option Span). IsNextPlace all (within MAX_WEIGHT all) place) c.in-Some.is next)
    (λ p same. ap Some (c.refusal_at.ensures ∙ ap (refusal_at Limit) cc)) (λ none. absurd (cc))

pub returns-in-None : goal.returns-in-None
returns-in-None c all next =
    weight_decides all None None (subst (λ (place : Option Span). IsNextPlace all (within MAX_WEIGHT all) place) c.in-None.is next)
    (λ p same. absurd (cc)) (λ none. refl)
