-- A form that is not nullable begins with a token, and so has a place.
use Rattle.std.proofs.Common.{◌≡◌, ℕ, Bool, true, false, ◌&&◌, List, [], ◌∷◌, ◌++◌, refl, sym, ap, ◌∙◌, subst}
use Rattle.std.specs.Prelude.{IsSome}
use Rattle.p4_lexer.specs.declared.token.Token.{Token}
use Rattle.ll1_engine.specs.declared.grammar.Row.{Row}
use Rattle.ll1_engine.specs.Table.{IsRow}
use Rattle.ll1_engine.specs.Marks.{all_in}
use Rattle.ll1_engine.specs.Trees.{roots, AreTrees}
use Rattle.p4_grammar.specs.Rows.{top_rows, types_rows, expressions_rows, operations_rows, keys_rows, statements_rows, parser_rows, control_rows, tables_rows, grammar_rows}
use Rattle.p4_grammar.specs.Parses.{Parse, End, Word, Node, trees_of, tokens_in, first_span, place_of}
use Rattle.p4_grammar.specs.Ahead.{IsForm, Begins, below}
use Rattle.p4_grammar.proofs.TableTests.{nullable_in, null_ok, all_from}
use Rattle.p4_grammar.proofs.TableTestsLemmas.{at_row_zero}
use Rattle.p4_grammar.proofs.Certificate.{certificate}

nullables_pass : all_from (λ i r. null_ok certificate r) 0 grammar_rows ≡ true
unfolding grammar_rows top_rows types_rows expressions_rows operations_rows keys_rows statements_rows parser_rows control_rows tables_rows
nullables_pass = refl

-- a set that has each form with a row of such forms
abbrev HasNullables : (ℕ → Bool) → Type 0
HasNullables p = (k : ℕ) (r : Row) → IsRow grammar_rows k r → all_in p r.right ≡ true → p r.left ≡ true

left_of_empty : (p : ℕ → Bool) (xs : List ℕ) (b : Bool) → elim (all_in p xs) [ true ↦ b | false ↦ true ] ≡ true → all_in p xs ≡ true → b ≡ true
left_of_empty p xs b h e = rw e at h

nullables : HasNullables (nullable_in certificate)
nullables k r e h = left_of_empty (nullable_in certificate) r.right (nullable_in certificate r.left) (at_row_zero (λ i q. null_ok certificate q) grammar_rows k r nullables_pass e) h

both_empty : (a b : List Token) → a ++ b ≡ [] → (a ≡ []) × (b ≡ [])
both_empty [] b e = (refl, e)
both_empty (t ∷ a) b e = absurd (cc)

both_true : (a b : Bool) → a ≡ true → b ≡ true → (a && b) ≡ true
both_true a b e f = rw (e, f) refl

empty_roots : (p : ℕ → Bool) → HasNullables p → (b : Parse) → AreTrees grammar_rows (trees_of b) → tokens_in b ≡ [] → all_in p (roots (trees_of b)) ≡ true
empty_roots p c End v e = refl
empty_roots p c (Word t a) v e = absurd (cc)
empty_roots p c (Node k r u a) v e =
    let parts = both_empty (tokens_in u) (tokens_in a) e in
    let under : all_in p r.right ≡ true = subst (λ (xs : List ℕ). all_in p xs ≡ true) v.1 (empty_roots p c u v.2 parts.0) in
    both_true (p r.left) (all_in p (roots (trees_of a))) (c k r v.0 under) (empty_roots p c a v.3 parts.1)

first_of_more : (us more : List Token) → (us ≡ [] → ⊥) → IsSome (first_span (us ++ more)) × (first_span us ≡ first_span (us ++ more))
first_of_more [] more n = absurd (n refl)
first_of_more (t ∷ us) more n = (refl, refl)

-- the first tree has a place, which is that of what is below it
abbrev pub IsPlaced : Parse → Type 0
IsPlaced p = IsSome (place_of p) × (place_of (below p) ≡ place_of p)

not_empty_by : (p : ℕ → Bool) → HasNullables p → (form k : ℕ) (r : Row) (u : Parse) → IsForm form k r u → p form ≡ false → tokens_in u ≡ [] → ⊥
not_empty_by p c form k r u h e none =
    let under : all_in p r.right ≡ true = subst (λ (xs : List ℕ). all_in p xs ≡ true) h.right (empty_roots p c u h.valid none) in
    let here : p r.left ≡ true = c k r h.row under in
    let there : p form ≡ true = subst (λ (x : ℕ). p x ≡ true) h.left here in
    cc

-- what is below a node of a form that is not nullable
pub not_empty : (form k : ℕ) (r : Row) (u : Parse) → IsForm form k r u → nullable_in certificate form ≡ false → tokens_in u ≡ [] → ⊥
not_empty form k r u h e none = not_empty_by (nullable_in certificate) nullables form k r u h e none

pub is_placed : (form : ℕ) (p : Parse) → Begins form p → nullable_in certificate form ≡ false → IsPlaced p
is_placed form End h e = absurd h
is_placed form (Word t a) h e = absurd h
is_placed form (Node k r u a) h e = first_of_more (tokens_in u) (tokens_in a) (not_empty form k r u h e)

-- The first of several tokens, of which the second part has one.

pub same_first : (a b more others : List Token) → (b ≡ [] → ⊥) → first_span (a ++ (b ++ more)) ≡ first_span (a ++ (b ++ others))
same_first (t ∷ a) b more others n = refl
same_first [] [] more others n = absurd (n refl)
same_first [] (t ∷ b) more others n = refl

pub some_first : (a b more : List Token) → (b ≡ [] → ⊥) → IsSome (first_span (a ++ (b ++ more)))
some_first (t ∷ a) b more n = refl
some_first [] [] more n = absurd (n refl)
some_first [] (t ∷ b) more n = refl
