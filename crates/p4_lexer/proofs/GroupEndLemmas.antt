-- The ends of groups by their indices, from the right to the left.
use Rattle.std.proofs.Common.{◌≡◌, ℕ, ◌+◌, ◌-◌, ◌<◌, ◌≤◌, List, [], ◌∷◌, ◌++◌, length, take, drop, reverse, get_or, map, MatchOption, Option, Some, None, codes, length-drop, refl, sym, ap, ◌∙◌, subst, arith, inl, inr}
use Rattle.std.proofs.lemmas.List.{length-map, reverse-append, length-append, get_or-set_same, get_or-set_other, length-set, get_or-map, drop_more}
use Rattle.std.proofs.lemmas.Bool.{cases_lt}
use Rattle.std.proofs.Math.ListN.{set, drop_of_length-le}
use Rattle.std.proofs.Math.Seq.{take-append_seam}
use Rattle.p4_lexer.specs.declared.groups.Parenthesis.{Parenthesis}
use Rattle.p4_lexer.specs.declared.groups.Parenthesis.TheVariants.{Opening, Closing, Neither}
use Rattle.p4_lexer.specs.declared.extents.Item.{Item as ItemAt}
use Rattle.p4_lexer.specs.SourceWords.{Placed}
use Rattle.p4_lexer.specs.Extents.{item_at}
use Rattle.p4_lexer.specs.Replacement.{Item, Word, Replaced}
use Rattle.p4_lexer.specs.Annotations.{IsGroup, IsSignOf}
use Rattle.p4_lexer.specs.Groups.{IsParenthesis, EndsAt, GroupFrom, AreEnds}
use Rattle.p4_lexer.proofs.ParenthesisLemmas.{parenthesis, parenthesis_is, is_parenthesis}
use Rattle.p4_lexer.proofs.GroupLemmas.{Begun, begun, no_group, group_rest, partner_rest, closers, closers_with}

-- the items from an index on
abbrev IsRest : List Item → ℕ → List Item → Type 0
IsRest all k rest = (k ≤ length all) × (rest ≡ drop k all)

abbrev AreRests : List Item → List ℕ → List (List Item) → Type 0
AreRests all [] [] = Unit {0}
AreRests all [] (r ∷ rests) = ⊥
AreRests all (k ∷ ks) [] = ⊥
AreRests all (k ∷ ks) (r ∷ rests) = IsRest all k r × AreRests all ks rests

abbrev IsEnd : List Item → Option ℕ → Option (List Item) → Type 0
IsEnd all None None = Unit {0}
IsEnd all None (Some rest) = ⊥
IsEnd all (Some k) None = ⊥
IsEnd all (Some k) (Some rest) = IsRest all k rest

-- what is known of the items from an index on
pub record Stands (all : List Item) (at : ℕ) (end : Option ℕ) (closed : List ℕ) : Type 0 where
  pub ended : IsEnd all end (group_rest (drop at all))
  pub rests : AreRests all (reverse closed) (closers (drop at all))

pub stands_last : (all : List Item) → Stands all (length all) None []
stands_last all = let none : drop (length all) all ≡ [] = drop_of_length-le all (omega arith) in record { ended = rw none tt; rests = rw none tt }

pub stands_name : (all : List Item) (at : ℕ) (name : Placed) (end found : Option ℕ) (closed new : List ℕ) → drop at all ≡ Replaced name ∷ drop (at + 1) all
    → found ≡ end → new ≡ closed → Stands all (at + 1) end closed → Stands all at found new
stands_name all at name end found closed new first e f s = record {
  ended = rw (first, e) s.ended;
  rests = rw (first, f) s.rests;
}

-- a word in front of what is known
record WordStands (all behind : List Item) (w : Placed) (end : Option ℕ) (closed : List ℕ) : Type 0 where
  ended : IsEnd all end (group_rest (Word w ∷ behind))
  rests : AreRests all (reverse closed) (closers (Word w ∷ behind))

word_stands : (all : List Item) (at : ℕ) (w : Placed) (end : Option ℕ) (closed : List ℕ) → drop at all ≡ Word w ∷ drop (at + 1) all → WordStands all (drop (at + 1) all) w end closed → Stands all at end closed
word_stands all at w end closed first s = record { ended = rw first s.ended; rests = rw first s.rests }

by_parenthesis : (p : Parenthesis) (all behind : List Item) (w : Placed) (end : Option ℕ) (closed : List ℕ) → IsParenthesis p w
    → IsEnd all end (partner_rest p (closers behind)) → AreRests all (reverse closed) (closers_with p behind (closers behind)) → WordStands all behind w end closed
by_parenthesis p all behind w end closed is e r = record {
  ended = subst (λ q. IsEnd all end (partner_rest q (closers behind))) (sym (is_parenthesis p w is)) e;
  rests = subst (λ q. AreRests all (reverse closed) (closers_with q behind (closers behind))) (sym (is_parenthesis p w is)) r;
}

pub stands_neither : (all : List Item) (at : ℕ) (w : Placed) (end found : Option ℕ) (closed new : List ℕ) → drop at all ≡ Word w ∷ drop (at + 1) all → IsParenthesis Neither w
    → found ≡ None → new ≡ closed → Stands all (at + 1) end closed → Stands all at found new
stands_neither all at w end found closed new first is e f s =
    word_stands all at w found new first (by_parenthesis Neither all (drop (at + 1) all) w found new is (rw e tt) (rw f s.rests))

pub stands_closing : (all : List Item) (at : ℕ) (w : Placed) (end found : Option ℕ) (closed new : List ℕ) → at < length all → drop at all ≡ Word w ∷ drop (at + 1) all → IsParenthesis Closing w
    → found ≡ None → new ≡ closed ++ (at + 1) ∷ [] → Stands all (at + 1) end closed → Stands all at found new
stands_closing all at w end found closed new below first is e f s =
    let last : reverse new ≡ (at + 1) ∷ reverse closed = ap reverse f ∙ reverse-append closed ((at + 1) ∷ []) in
    let here : at + 1 ≤ length all = omega arith in
    word_stands all at w found new first
    (by_parenthesis Closing all (drop (at + 1) all) w found new is (rw e tt) (subst (λ ks. AreRests all ks (drop (at + 1) all ∷ closers (drop (at + 1) all))) (sym last) ((here, refl), s.rests)))

-- the indices without the last, and what that is
abbrev Popped : Option ℕ → List ℕ → List ℕ → Type 0
Popped None closed new = (closed ≡ []) × (new ≡ [])
Popped (Some last) closed new = closed ≡ new ++ last ∷ []

record Taken (all behind : List Item) (found : Option ℕ) (new : List ℕ) (rests : List (List Item)) : Type 0 where
  ended : IsEnd all found (partner_rest Opening rests)
  rests_are : AreRests all (reverse new) (closers_with Opening behind rests)

taken : (all behind : List Item) (found : Option ℕ) (closed new : List ℕ) (rests : List (List Item)) → Popped found closed new → AreRests all (reverse closed) rests → Taken all behind found new rests
taken all behind None closed new [] (e, f) are = record { ended = tt; rests_are = rw f tt }
taken all behind None closed new (r ∷ rests) (e, f) are = absurd (let h : AreRests all [] (r ∷ rests) = subst (λ ks. AreRests all (reverse ks) (r ∷ rests)) e are in h)
taken all behind (Some last) closed new rests e are = by rests (subst (λ ks. AreRests all ks rests) (ap reverse e ∙ reverse-append new (last ∷ [])) are) where
  by : (rests : List (List Item)) → AreRests all (last ∷ reverse new) rests → Taken all behind (Some last) new rests
  by [] h = absurd h
  by (r ∷ rests) h = record { ended = h.0; rests_are = h.1 }

pub stands_opening : (all : List Item) (at : ℕ) (w : Placed) (end found : Option ℕ) (closed new : List ℕ) → drop at all ≡ Word w ∷ drop (at + 1) all → IsParenthesis Opening w
    → Popped found closed new → Stands all (at + 1) end closed → Stands all at found new
stands_opening all at w end found closed new first is popped s =
    let t = taken all (drop (at + 1) all) found closed new (closers (drop (at + 1) all)) popped s.rests in
    word_stands all at w found new first (by_parenthesis Opening all (drop (at + 1) all) w found new is t.ended t.rests_are)

-- a group that ends where the rest begins
group_from : (all : List Item) (at end : ℕ) → at ≤ length all → end ≤ length all → Begun (drop at all) (drop end all) → GroupFrom all at end
group_from all at end from within b =
    let lengths : length (drop at all) ≡ length b.group + length (drop end all) = ap length b.spelled ∙ length-append b.group (drop end all) in
    let first : at ≤ end = omega (arith, lengths, length-drop at all, length-drop end all) in
    let size : end - at ≡ length b.group = omega (arith, lengths, length-drop at all, length-drop end all) in
    let group : take (end - at) (drop at all) ≡ b.group = ap (λ n. take n (drop at all)) size ∙ ap (take (length b.group)) b.spelled ∙ take-append_seam b.group (drop end all) in
    (first, within, b.inside, subst (λ is. IsGroup is b.inside) (sym group) b.is_group)

pub ends_at : (all : List Item) (at : ℕ) (end : Option ℕ) (closed : List ℕ) → at ≤ length all → Stands all at end closed → EndsAt all at end
ends_at all at end closed from s = by end (group_rest (drop at all)) refl s.ended where
  by : (end : Option ℕ) (rest : Option (List Item)) → group_rest (drop at all) ≡ rest → IsEnd all end rest → EndsAt all at end
  by None None e is = no_group (drop at all) e
  by None (Some rest) e is = absurd is
  by (Some k) None e is = absurd is
  by (Some k) (Some rest) e is = group_from all at k from is.0 (begun (drop at all) (drop k all) (e ∙ ap Some is.1))

-- the table, as far as it is filled from the right
pub record Filled (all : List Item) (at : ℕ) (ends : List (Option ℕ)) : Type 0 where
  pub sized : length ends ≡ length all
  pub filled : (k : ℕ) → at ≤ k → k < length all → EndsAt all k (get_or ends k None)

pub filled_more : (all : List Item) (at : ℕ) (end : Option ℕ) (ends : List (Option ℕ)) → at < length all → EndsAt all at end → Filled all (at + 1) ends → Filled all at (set ends at end)
filled_more all at end ends below here f = record {
  sized = length-set ends at end ∙ f.sized;
  filled = λ k from within. elim (cases_lt at k) [
    | inl later ↦ subst (EndsAt all k) (sym (get_or-set_other ends at k end None (λ e. absurd (omega arith)))) (f.filled k (omega arith) within)
    | inr not_later ↦
        let same : at ≡ k = omega arith in
        let there : at < length ends = omega (arith, f.sized) in
        subst (λ j. EndsAt all j (get_or (set ends at end) j None)) same (subst (EndsAt all at) (sym (get_or-set_same ends at end None there)) here)
  ];
}

-- what the loop knows behind an index
pub record Known (all : List Item) (at : ℕ) (end : Option ℕ) (closed : List ℕ) (ends : List (Option ℕ)) : Type 0 where
  pub within : at ≤ length all
  pub stands : Stands all at end closed
  pub filled : Filled all at ends

-- an item in front of what is known
pub record Steps (text : List ℕ) (item : ItemAt) (behind : ℕ) (end found : Option ℕ) (closed new : List ℕ) : Type 0 where
  pub name : (name : Placed) → item_at text item ≡ Replaced name → (found ≡ end) × (new ≡ closed)
  pub opening : (w : Placed) → item_at text item ≡ Word w → IsSignOf (codes "(") w → MatchOption found ((closed ≡ []) × (new ≡ [])) (λ last. closed ≡ new ++ last ∷ [])
  pub closing : (w : Placed) → item_at text item ≡ Word w → IsSignOf (codes ")") w → (found ≡ None) × (new ≡ closed ++ behind ∷ [])
  pub neither : (w : Placed) → item_at text item ≡ Word w → (IsSignOf (codes "(") w → ⊥) → (IsSignOf (codes ")") w → ⊥) → (found ≡ None) × (new ≡ closed)

popped : (found : Option ℕ) (closed new : List ℕ) → MatchOption found ((closed ≡ []) × (new ≡ [])) (λ last. closed ≡ new ++ last ∷ []) → Popped found closed new
popped None closed new m = m
popped (Some last) closed new m = m

stands_more : (text : List ℕ) (all : List Item) (at : ℕ) (item : ItemAt) (end found : Option ℕ) (closed new : List ℕ) → at < length all → drop at all ≡ item_at text item ∷ drop (at + 1) all
    → Steps text item (at + 1) end found closed new → Stands all (at + 1) end closed → Stands all at found new
stands_more text all at item end found closed new below first steps s = by (item_at text item) refl where
  word : (p : Parenthesis) (w : Placed) → item_at text item ≡ Word w → IsParenthesis p w → Stands all at found new
  word Opening w e is = stands_opening all at w end found closed new (first ∙ ap (λ i. i ∷ drop (at + 1) all) e) is (popped found closed new (steps.opening w e is)) s
  word Closing w e is = let h = steps.closing w e is in stands_closing all at w end found closed new below (first ∙ ap (λ i. i ∷ drop (at + 1) all) e) is h.0 h.1 s
  word Neither w e is = let h = steps.neither w e is.0 is.1 in stands_neither all at w end found closed new (first ∙ ap (λ i. i ∷ drop (at + 1) all) e) is h.0 h.1 s

  by : (i : Item) → item_at text item ≡ i → Stands all at found new
  by (Replaced name) e = let h = steps.name name e in stands_name all at name end found closed new (first ∙ ap (λ i. i ∷ drop (at + 1) all) e) h.0 h.1 s
  by (Word w) e = word (parenthesis w) w e (parenthesis_is w)

pub first_item : (text : List ℕ) (items : List ItemAt) (at : ℕ) (d : ItemAt) → at < length items → drop at (map (item_at text) items) ≡ item_at text (get_or items at d) ∷ drop (at + 1) (map (item_at text) items)
first_item text items at d below =
    let there : at < length (map (item_at text) items) = omega (arith, length-map items (item_at text)) in
    drop_more (map (item_at text) items) at (item_at text d) there ∙ ap (λ i. i ∷ drop (at + 1) (map (item_at text) items)) (get_or-map (item_at text) items at d (item_at text d) below)

known_before : (text : List ℕ) (items : List ItemAt) (at : ℕ) (d : ItemAt) (end found : Option ℕ) (closed new : List ℕ) (ends : List (Option ℕ)) → Steps text (get_or items at d) (at + 1) end found closed new
    → Known (map (item_at text) items) (at + 1) end closed ends → Known (map (item_at text) items) at found new (set ends at found)
known_before text items at d end found closed new ends steps k =
    let all : List Item = map (item_at text) items in
    let below : at < length all = omega (arith, k.within) in
    let within : at < length items = omega (arith, k.within, length-map items (item_at text)) in
    let stands : Stands all at found new = stands_more text all at (get_or items at d) end found closed new below (first_item text items at d within) steps k.stands in
    record { within = omega arith; stands = stands; filled = filled_more all at found ends below (ends_at all at found new (omega arith) stands) k.filled }

pub known_more : (text : List ℕ) (items : List ItemAt) (at : ℕ) (d : ItemAt) (end found : Option ℕ) (closed new : List ℕ) (ends more : List (Option ℕ)) → 0 < at → more ≡ set ends (at - 1) found → Steps text (get_or items (at - 1) d) at end found closed new
    → Known (map (item_at text) items) at end closed ends → Known (map (item_at text) items) (at - 1) found new more
known_more text items at d end found closed new ends more some e steps k =
    let same : at ≡ at - 1 + 1 = omega arith in
    subst (Known (map (item_at text) items) (at - 1) found new) (sym e)
    (known_before text items (at - 1) d end found closed new ends (subst (λ n. Steps text (get_or items (at - 1) d) n end found closed new) same steps) (subst (λ n. Known (map (item_at text) items) n end closed ends) same k))

pub known_first : (text : List ℕ) (items : List ItemAt) (closed : List ℕ) (ends : List (Option ℕ)) → closed ≡ [] → length ends ≡ length items → Known (map (item_at text) items) (length items) None closed ends
known_first text items closed ends none sized =
    let all : List Item = map (item_at text) items in
    let size : length all ≡ length items = length-map items (item_at text) in
    record {
      within = omega (arith, size);
      stands = subst (λ n. Stands all n None closed) size (subst (Stands all (length all) None) (sym none) (stands_last all));
      filled = record { sized = sized ∙ sym size; filled = λ k from below. absurd (omega (arith, size)) };
    }

pub known_all : (all : List Item) (at : ℕ) (end : Option ℕ) (closed : List ℕ) (ends : List (Option ℕ)) → at ≤ 0 → Known all at end closed ends → AreEnds all ends
known_all all at end closed ends none k = (k.filled.sized, λ i below. k.filled.filled i (omega arith) below)
