use Rattle.std.proofs.Common.{List, [], map, refl, subst, Option}
use Rattle.tg_base.specs.declared.place.Refusal.{Refusal}
use Rattle.p4_lexer.specs.declared.extents.Bare.{Bare}
use Rattle.p4_lexer.specs.Extents.{bare_at}
use Rattle.p4_lexer.specs.Marks.{Become}
use Rattle.p4_lexer.specs.Scanning.{IsUnmarked}
use Rattle.p4_lexer.proofs.ScanningLemmas.{refused, has_tokens}
use Rattle.p4_lexer.proofs.scanning.tokens_or_refusal.Goals as goal

pub returns-in-Some-clause-refused : goal.returns-in-Some-clause-refused
returns-in-Some-clause-refused c =
    refused c.args.text.now c.in_ok-unmarked.unmarked.bare c.in-Some.refusal c.in-Some.refusal
    (subst (λ (fault : Option Refusal). IsUnmarked c.args.text.now c.in_ok-unmarked.unmarked.bare fault) c.in-Some.is c.in_ok-unmarked.ensures) refl

pub returns-clause-tokens : goal.returns-clause-tokens
returns-clause-tokens c =
    has_tokens c.args.text.now c.in_ok-unmarked.unmarked.bare (record { tokens = c.in_ok-marked-in-None.field-0; end = c.place_behind.result })
    (subst (λ (fault : Option Refusal). IsUnmarked c.args.text.now c.in_ok-unmarked.unmarked.bare fault) c.in-None.is c.in_ok-unmarked.ensures)
    (subst (λ (bare : List Bare). Become [] (map (bare_at c.args.text.now) bare) c.in_ok-marked-in-None.field-0) c.as_slice.ensures c.in_ok-marked-in-None.ensures.are)
    (c.place_behind.ensures [] refl)
