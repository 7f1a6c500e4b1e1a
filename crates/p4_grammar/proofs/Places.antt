-- Forms of which each derivation has a token, and so a place.
use Rattle.std.proofs.Common.{◌≡◌, ℕ, List, [], ◌∷◌, ◌++◌, Option, Some, refl, sym, ◌∙◌, subst}
use Rattle.std.specs.Prelude.{IsSome}
use Rattle.tg_base.specs.declared.place.Span.{Span}
use Rattle.p4_lexer.specs.declared.token.Token.{Token}
use Rattle.ll1_engine.specs.declared.grammar.Row.{Row}
use Rattle.p4_grammar.specs.Parses.{Parse, End, Word, Node, tokens_in, first_span, place_of}
use Rattle.p4_grammar.specs.Ahead.{below}

pub record HasPlace (p : Parse) : Type 0 where
  pub span : Span
  pub is : place_of p ≡ Some span

-- the place of a node is that of what is below it
pub record HasPlaces (p : Parse) : Type 0 where
  pub span : Span
  pub here : place_of p ≡ Some span
  pub under : place_of (below p) ≡ Some span

place_first : (ts us : List Token) (s : Span) → first_span ts ≡ Some s → first_span (ts ++ us) ≡ Some s
place_first [] us s e = absurd (cc)
place_first (t ∷ ts) us s e = e

pub places : (k : ℕ) (r : Row) (u a : Parse) → HasPlace u → HasPlaces (Node k r u a)
places k r u a h = record { span = h.span; here = place_first (tokens_in u) (tokens_in a) h.span h.is; under = h.is }

pub node_place : (p : Parse) → HasPlaces p → HasPlace p
node_place p h = record { span = h.span; is = h.here }

-- a place that there is, before a node and below it
pub seen : (p : Parse) → HasPlaces p → IsSome (place_of p) × (place_of (below p) ≡ place_of p)
seen p h = (subst (λ (o : Option Span). IsSome o) (sym h.here) refl, h.under ∙ sym h.here)
