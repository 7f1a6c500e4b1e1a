-- A definition that is obeyed.
use Rattle.std.proofs.Common.{◌≡◌, ℕ, ◌-◌, Bool, true, List, [], ◌∷◌, ◌++◌, All, length, take, drop, map, sym, refl, ap, ◌∙◌, subst, if◌then◌else◌}
use Rattle.std.proofs.lemmas.List.Elements.{All-nil, All-cons}
use Rattle.tg_base.specs.declared.place.Span.{Span}
use Rattle.p4_lexer.specs.declared.extents.Extent.{Extent}
use Rattle.p4_lexer.specs.declared.extents.PieceAt.{PieceAt}
use Rattle.p4_lexer.specs.declared.extents.Event.{Event}
use Rattle.p4_lexer.specs.declared.extents.Event.TheVariants.{Define as DefineEvent}
use Rattle.p4_lexer.specs.declared.directives.DirectiveAt.{DirectiveAt}
use Rattle.p4_lexer.specs.declared.directives.DirectiveAt.TheVariants.{Define as DefineAt}
use Rattle.p4_lexer.specs.declared.scope.ScopeAt.{ScopeAt}
use Rattle.p4_lexer.specs.Directives.{Define}
use Rattle.p4_lexer.specs.Scope.{Scope, is_taken}
use Rattle.p4_lexer.specs.ScopeState.{StandsFor, defined_scope}
use Rattle.p4_lexer.specs.Extents.{bytes_at, cut_at, IsIn, words_of}
use Rattle.p4_lexer.specs.DirectiveExtents.{IsPieceAt, directive_at}
use Rattle.p4_lexer.specs.PartSteps.{EventFits, Obeys}
use Rattle.p4_lexer.proofs.DirectiveStepLemmas.{rest_of_pieces}

pub defines : (text : List ℕ) (scope : Scope) (place : Span) (name : Extent) (words : List PieceAt) (s n : ScopeAt) (old new : List Event) → s.taken ≡ true → StandsFor s scope
    → StandsFor n (defined_scope scope (bytes_at text name) (map (cut_at text) words)) → new ≡ old ++ DefineEvent name words ∷ [] → IsIn text name → All (IsPieceAt text) words
    → Obeys text scope place (Define (bytes_at text name) (map (cut_at text) words)) n old new true
defines text scope place name words s n old new taken st stands added within fit =
    let t : true ≡ is_taken scope = sym taken ∙ st.taken in
    record {
      answered = refl;
      stands = subst (λ b. StandsFor n (if b then defined_scope scope (bytes_at text name) (map (cut_at text) words) else scope)) t stands;
      told = record {
        more = DefineEvent name words ∷ [];
        added = added;
        fit = All-cons (EventFits text) (DefineEvent name words) [] (within, fit) (All-nil (EventFits text));
        words = λ tail. ap (λ b. words_of text (if b then defined_scope scope (bytes_at text name) (map (cut_at text) words) else scope).macros tail) t;
      };
    }

-- by the directive that the code has
pub obeys_define : (text : List ℕ) (scope : Scope) (place : Span) (pieces : List PieceAt) (d : DirectiveAt) (name : Extent) (first : ℕ) (n : ScopeAt) (old new : List Event) → d ≡ DefineAt name first
    → Obeys text scope place (Define (bytes_at text name) (map (cut_at text) (take (length pieces - first) (drop first pieces)))) n old new true → Obeys text scope place (directive_at text pieces d) n old new true
obeys_define text scope place pieces d name first n old new e o =
    subst (λ x. Obeys text scope place (directive_at text pieces x) n old new true) (sym e)
    (subst (λ ps. Obeys text scope place (Define (bytes_at text name) (map (cut_at text) ps)) n old new true) (rest_of_pieces pieces first) o)

pub obeys_as : (text : List ℕ) (scope : Scope) (place : Span) (pieces : List PieceAt) (d e : DirectiveAt) (n : ScopeAt) (old new : List Event) (answer : Bool) → d ≡ e
    → Obeys text scope place (directive_at text pieces e) n old new answer → Obeys text scope place (directive_at text pieces d) n old new answer
obeys_as text scope place pieces d e n old new answer same o = subst (λ x. Obeys text scope place (directive_at text pieces x) n old new answer) (sym same) o
