-- The way along rows, step by step.
use Rattle.std.proofs.Common.{◌≡◌, ℕ, ◌+◌, ◌<◌, ◌≤◌, List, [], ◌∷◌, ◌++◌, Bool, true, false, cond, Option, None, Some, refl, sym, ap, ◌∙◌, subst, arith, reverse, length, drop, get_or}
use Rattle.std.specs.Prelude.{slice_get, map}
use Rattle.std.specs.List.{AllByRecursion}
use Rattle.std.proofs.lemmas.Bool.{cond-true, cond-false, lt-ltb, le-ltb}
use Rattle.std.proofs.lemmas.List.{reverse-append, drop_more, drop_all}
use Rattle.std.proofs.lemmas.Option.{slice_get-get_or, slice_get_past}
use Rattle.std.proofs.Math.Dec.{ltb}
use Rattle.ll1_engine.specs.declared.grammar.Row.{Row}
use Rattle.p4_grammar.specs.declared.depth.Part.{Part}
use Rattle.p4_grammar.specs.declared.symbols.TheConstants.{FORM_COUNT}
use Rattle.p4_grammar.specs.Rows.{grammar_rows}
use Rattle.p4_grammar.specs.Depth.{counts_in}
use Rattle.p4_grammar.specs.Descent.{part_in, parts_below, row_then, node_depths}

-- a word gives its count
pub word_first : (rows : List ℕ) (p : Part) (ps : List Part) → FORM_COUNT ≤ p.symbol → node_depths rows (p ∷ ps) ≡ p.depth ∷ node_depths rows ps
unfolding node_depths
word_first [] p ps h = cond-false (ltb p.symbol FORM_COUNT) _ _ (le-ltb p.symbol FORM_COUNT h)
word_first (k ∷ rows) p ps h = cond-false (ltb p.symbol FORM_COUNT) _ _ (le-ltb p.symbol FORM_COUNT h)

-- a form takes a row
pub form_first : (rows : List ℕ) (k : ℕ) (r : Row) (p : Part) (ps : List Part) → p.symbol < FORM_COUNT → slice_get grammar_rows k ≡ Some r →
    node_depths (k ∷ rows) (p ∷ ps) ≡ node_depths rows (parts_below r p.depth ++ ps)
unfolding node_depths
form_first rows k r p ps h e =
    cond-true (ltb p.symbol FORM_COUNT) _ _ (lt-ltb p.symbol FORM_COUNT h) ∙ ap (λ (o : Option Row). row_then (node_depths rows) o p ps) e

-- where there is none, nothing more is told
pub form_last : (p : Part) (ps : List Part) → p.symbol < FORM_COUNT → node_depths [] (p ∷ ps) ≡ []
unfolding node_depths
form_last p ps h = cond-true (ltb p.symbol FORM_COUNT) _ _ (lt-ltb p.symbol FORM_COUNT h)

pub form_without : (rows : List ℕ) (k : ℕ) (p : Part) (ps : List Part) → p.symbol < FORM_COUNT → slice_get grammar_rows k ≡ None → node_depths (k ∷ rows) (p ∷ ps) ≡ []
unfolding node_depths
form_without rows k p ps h e =
    cond-true (ltb p.symbol FORM_COUNT) _ _ (lt-ltb p.symbol FORM_COUNT h) ∙ ap (λ (o : Option Row). row_then (node_depths rows) o p ps) e

pub no_parts : (rows : List ℕ) → node_depths rows [] ≡ []
unfolding node_depths
no_parts [] = refl
no_parts (k ∷ rows) = refl

-- a step enters one node more
pub entered_below : (left depth next : ℕ) (symbols : List ℕ) (ps : List Part) → depth ≤ next → AllByRecursion (λ p. p.depth ≤ next) ps →
    AllByRecursion (λ p. p.depth ≤ next + 1) (map (part_in left depth) symbols ++ ps)
entered_below left depth next [] [] h a = a
entered_below left depth next [] (p ∷ ps) h a = (let b : p.depth ≤ next = a.0 in omega arith, entered_below left depth next [] ps h a.1)
entered_below left depth next (x ∷ symbols) ps h a = (
  one_more (counts_in left x),
  entered_below left depth next symbols ps h a,
)
  where
    one_more : (b : Bool) → cond b (depth + 1) depth ≤ next + 1
    one_more true = omega arith
    one_more false = omega arith

-- The stack of parts lies in its list from the bottom on: the last of the list is on top.
pub on_top : (before behind : List Part) (p : Part) → before ≡ behind ++ p ∷ [] → reverse before ≡ p ∷ reverse behind
on_top before behind p e = ap reverse e ∙ reverse-append behind (p ∷ [])

pub told_nothing : (rows : List ℕ) (before : List Part) → length before ≡ 0 → node_depths rows (reverse before) ≡ []
told_nothing rows [] e = no_parts rows
told_nothing rows (p ∷ before) e = absurd (omega (arith, e))

module _ (rows : List ℕ) (next : ℕ) (before behind : List Part) (p : Part) (top : before ≡ behind ++ p ∷ []) where
  pub told_word : FORM_COUNT ≤ p.symbol → node_depths (drop next rows) (reverse before) ≡ p.depth ∷ node_depths (drop next rows) (reverse behind)
  told_word h = ap (node_depths (drop next rows)) (on_top before behind p top) ∙ word_first (drop next rows) p (reverse behind) h

  pub told_last : p.symbol < FORM_COUNT → length rows ≤ next → node_depths (drop next rows) (reverse before) ≡ []
  told_last h past = ap (node_depths (drop next rows)) (on_top before behind p top) ∙ (ap (λ (ks : List ℕ). node_depths ks (p ∷ reverse behind)) (drop_all next rows past) ∙ form_last p (reverse behind) h)

  -- row number k stands next
  module _ (k : ℕ) (lt : next < length rows) (read : k ≡ get_or rows next k) where
    next_row : drop next rows ≡ k ∷ drop (next + 1) rows
    next_row = drop_more rows next k lt ∙ ap (λ (n : ℕ). n ∷ drop (next + 1) rows) (sym read)

    at_row : node_depths (drop next rows) (reverse before) ≡ node_depths (k ∷ drop (next + 1) rows) (p ∷ reverse behind)
    at_row = ap (node_depths (drop next rows)) (on_top before behind p top) ∙ ap (λ (ks : List ℕ). node_depths ks (p ∷ reverse behind)) next_row

    pub told_without : (grammar : List Row) → grammar ≡ grammar_rows → p.symbol < FORM_COUNT → length grammar ≤ k → node_depths (drop next rows) (reverse before) ≡ []
    told_without grammar known h past =
        at_row ∙ form_without (drop (next + 1) rows) k p (reverse behind) h (ap (λ (g : List Row). slice_get g k) (sym known) ∙ slice_get_past grammar k past)

    pub told_form : (grammar : List Row) (r : Row) (new : List Part) → grammar ≡ grammar_rows → p.symbol < FORM_COUNT → k < length grammar → r ≡ get_or grammar k r → reverse new ≡ parts_below r p.depth ++ reverse behind →
        node_depths (drop (next + 1) rows) (reverse new) ≡ node_depths (drop next rows) (reverse before)
    told_form grammar r new known h within got pushed =
        ap (node_depths (drop (next + 1) rows)) pushed
        ∙ sym (at_row ∙ form_first (drop (next + 1) rows) k r p (reverse behind) h
        (ap (λ (g : List Row). slice_get g k) (sym known) ∙ (slice_get-get_or grammar k r within ∙ ap (λ (q : Row). Some q) (sym got))))

  module _ (entered : AllByRecursion (λ q. q.depth ≤ next) (reverse before)) where
    entered_top : AllByRecursion (λ q. q.depth ≤ next) (p ∷ reverse behind)
    entered_top = subst (AllByRecursion (λ (q : Part). q.depth ≤ next)) (on_top before behind p top) entered

    pub entered_behind : AllByRecursion (λ q. q.depth ≤ next) (reverse behind)
    entered_behind = entered_top.1

    pub top_is_within : p.depth ≤ next
    top_is_within = entered_top.0

    pub entered_node : (r : Row) (new : List Part) → reverse new ≡ parts_below r p.depth ++ reverse behind → AllByRecursion (λ q. q.depth ≤ next + 1) (reverse new)
    entered_node r new pushed =
        subst (AllByRecursion (λ (q : Part). q.depth ≤ next + 1)) (sym pushed) (entered_below r.left p.depth next r.right (reverse behind) entered_top.0 entered_top.1)
