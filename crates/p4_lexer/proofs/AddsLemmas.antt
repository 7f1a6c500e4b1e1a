-- What a word and the group behind it add.
use Rattle.std.proofs.Common.{◌≡◌, ℕ, List, [], ◌∷◌, ◌++◌, length, drop, map, refl, sym, ap, ◌∙◌, subst, arith, Contains, inl, inr, None}
use Rattle.std.specs.List.{All}
use Rattle.std.proofs.lemmas.List.{length-map}
use Rattle.std.proofs.lemmas.List.Elements.{All-nil, All-cons, All-head, All-contains_itself}
use Rattle.std.proofs.Math.Seq.{drop-append_seam}
use Rattle.p4_lexer.specs.declared.annotations.Sort.TheVariants as s
use Rattle.p4_lexer.specs.declared.extents.Extent.{Extent}
use Rattle.p4_lexer.specs.declared.extents.WordAt.{WordAt}
use Rattle.p4_lexer.specs.declared.extents.Item.{Item as ItemAt}
use Rattle.p4_lexer.specs.declared.extents.Item.TheVariants.{Word as WordItem, Replaced as ReplacedItem}
use Rattle.p4_lexer.specs.declared.extents.Bare.TheVariants.{Plain as PlainAt, Named as NamedAt, DefaultOnly as DefaultOnlyAt, TableOnly as TableOnlyAt}
use Rattle.p4_lexer.specs.declared.extents.Entry.{Entry as EntryAt}
use Rattle.p4_lexer.specs.declared.extents.Entry.TheVariants.{Token as TokenAt, Name as NameAt}
use Rattle.p4_lexer.specs.SourceWords.{Placed}
use Rattle.p4_lexer.specs.Replacement.{Item, Word}
use Rattle.p4_lexer.specs.Annotations as a
use Rattle.p4_lexer.specs.Annotations.{Entry, Leaves, IsString, IsGroup, IsDropped, NoGroup, words_among, names_among}
use Rattle.p4_lexer.specs.Extents.{IsIn, bytes_at, placed_at, item_at, entry_at}
use Rattle.p4_lexer.specs.Groups.{IsSort}
use Rattle.p4_lexer.specs.Entries.{names_in, IsEntryIn, IsWordOf, HoldsString, AddsNamed, BeginWith, Adds}
use Rattle.p4_lexer.proofs.EntryLemmas.{names_stand}
use Rattle.p4_lexer.proofs.GroupLemmas.{Begun}
use Rattle.p4_lexer.proofs.LeadLemmas.{alone, named, dropped, lead_into, token_of}
use Rattle.p4_lexer.proofs.SortLemmas.{sort, is_sort}

names_in_text : (text : List ℕ) (group : List ItemAt) → All (IsEntryIn text) (names_in group)
names_in_text text [] = All-nil (IsEntryIn text)
names_in_text text (WordItem w ∷ group) = names_in_text text group
names_in_text text (ReplacedItem n ∷ group) = All-cons (IsEntryIn text) (NameAt n.place) (names_in group) tt (names_in_text text group)

names_no_words : (items group : List ItemAt) → All (IsWordOf items) (names_in group)
names_no_words items [] = All-nil (IsWordOf items)
names_no_words items (WordItem w ∷ group) = names_no_words items group
names_no_words items (ReplacedItem n ∷ group) = All-cons (IsWordOf items) (NameAt n.place) (names_in group) tt (names_no_words items group)

one_of : {X : Type 0} (P : X → Type 0) (x : X) → P x → All P (x ∷ [])
one_of P x p = All-cons P x [] p (All-nil P)

pub adds_plain : (text : List ℕ) (w : WordAt) (group : List ItemAt) (entries added : List EntryAt) → IsIn text w.piece.extent → IsSort s.Plain (placed_at text w) → added ≡ entries ++ TokenAt (PlainAt w) ∷ [] → Adds text w group 0 entries added
adds_plain text w group entries added within is e = record {
  more = TokenAt (PlainAt w) ∷ [];
  spelled = e;
  within = omega arith;
  leaves = λ items begins rest l. a.plain (placed_at text w) items rest is l;
  in_text = one_of (IsEntryIn text) (TokenAt (PlainAt w)) within;
  words = one_of (IsWordOf (WordItem w ∷ [])) (TokenAt (PlainAt w)) (All-head (Contains (WordItem w ∷ [])) (WordItem w) [] (All-contains_itself (WordItem w ∷ [])), is);
}

pub adds_default : (text : List ℕ) (w : WordAt) (group : List ItemAt) (entries added : List EntryAt) → IsSort s.DefaultOnly (placed_at text w) → added ≡ entries ++ TokenAt (DefaultOnlyAt w.place) ∷ [] → Adds text w group 0 entries added
adds_default text w group entries added is e = record {
  more = TokenAt (DefaultOnlyAt w.place) ∷ [];
  spelled = e;
  within = omega arith;
  leaves = λ items begins rest l. a.default_only (placed_at text w) items rest is l;
  in_text = one_of (IsEntryIn text) (TokenAt (DefaultOnlyAt w.place)) tt;
  words = one_of (IsWordOf (WordItem w ∷ [])) (TokenAt (DefaultOnlyAt w.place)) tt;
}

pub adds_table : (text : List ℕ) (w : WordAt) (group : List ItemAt) (entries added : List EntryAt) → IsSort s.TableOnly (placed_at text w) → added ≡ entries ++ TokenAt (TableOnlyAt w.place) ∷ [] → Adds text w group 0 entries added
adds_table text w group entries added is e = record {
  more = TokenAt (TableOnlyAt w.place) ∷ [];
  spelled = e;
  within = omega arith;
  leaves = λ items begins rest l. a.table_only (placed_at text w) items rest is l;
  in_text = one_of (IsEntryIn text) (TokenAt (TableOnlyAt w.place)) tt;
  words = one_of (IsWordOf (WordItem w ∷ [])) (TokenAt (TableOnlyAt w.place)) tt;
}

-- the items behind a group
abbrev begun_with : (text : List ℕ) (items rest : List Item) (group : List ItemAt) (inside : List Placed) → items ≡ map (item_at text) group ++ rest → IsGroup (map (item_at text) group) inside → Begun items (drop (length group) items)
begun_with text items rest group inside e g =
    let size : length group ≡ length (map (item_at text) group) = sym (length-map group (item_at text)) in
    let behind : rest ≡ drop (length group) items = sym (drop-append_seam (map (item_at text) group) rest) ∙ ap (drop (length (map (item_at text) group))) (sym e) ∙ ap (λ n. drop n items) (sym size) in
    record { group = map (item_at text) group; inside = inside; spelled = e ∙ ap (λ is. map (item_at text) group ++ is) behind; is_group = g }

-- an annotation that is no token by itself, whose group holds no string where it is `@name`
drops : (text : List ℕ) (w : WordAt) (group : List ItemAt) (items : List Item) (rest : List Entry) → token_of (sort (placed_at text w)) (placed_at text w) ≡ None
    → (sort (placed_at text w) ≡ s.AtName → (string : List ℕ) → HoldsString (words_among (map (item_at text) group)) string → ⊥)
    → BeginWith text items group → Leaves (drop (length group) items) rest → Leaves (Word (placed_at text w) ∷ items) (names_among (map (item_at text) group) ++ rest)
drops text w [] items rest none no_string begins l = lead_into (placed_at text w) items [] items rest (alone none begins refl refl) l
drops text w (i ∷ group) items rest none no_string (inside, more, e, g) l =
    lead_into (placed_at text w) items (names_among (map (item_at text) (i ∷ group))) (drop (length (i ∷ group)) items) rest
    (dropped (begun_with text items more (i ∷ group) inside e g) none (λ name string is. no_string name string (g.open_, is.0, g.close, g.spelled ∙ ap (λ ws. g.open_ ∷ ws ++ g.close ∷ []) is.1, (is.0, refl, is.2))) refl) l

-- the names of the group are added
adds_names : (text : List ℕ) (w : WordAt) (group : List ItemAt) (entries added : List EntryAt) → token_of (sort (placed_at text w)) (placed_at text w) ≡ None
    → (sort (placed_at text w) ≡ s.AtName → (string : List ℕ) → HoldsString (words_among (map (item_at text) group)) string → ⊥) → added ≡ entries ++ names_in group → Adds text w group (length group) entries added
adds_names text w group entries added none no_string e = record {
  more = names_in group;
  spelled = e;
  within = omega arith;
  leaves = λ items begins rest l.
      subst (λ es. Leaves (Word (placed_at text w) ∷ items) (es ++ rest)) (sym (names_stand text group)) (drops text w group items rest none no_string begins l);
  in_text = names_in_text text group;
  words = names_no_words (WordItem w ∷ []) group;
}

pub adds_dropped : (text : List ℕ) (w : WordAt) (group : List ItemAt) (entries added : List EntryAt) → IsSort s.Other (placed_at text w) → added ≡ entries ++ names_in group → Adds text w group (length group) entries added
adds_dropped text w group entries added is e =
    let other = is_sort s.Other (placed_at text w) is in
    adds_names text w group entries added (ap (λ k. token_of k (placed_at text w)) other) (λ name. absurd (let h : s.Other ≡ s.AtName = sym other ∙ name in cc)) e

-- between the parentheses of a group stands the string
string_inside : (items : List Item) (inside : List Placed) (string : List ℕ) → IsGroup items inside → HoldsString (words_among items) string → IsString inside string
string_inside items inside string g (first, w, last, e, is) = by inside (sym g.spelled ∙ e) where
  by : (inside : List Placed) → g.open_ ∷ inside ++ g.close ∷ [] ≡ first ∷ w ∷ last ∷ [] → IsString inside string
  by [] h = absurd cc
  by (v ∷ []) h = let same : v ≡ w = cc in subst (λ u. IsString (u ∷ []) string) (sym same) is
  by (v ∷ u ∷ []) h = absurd cc
  by (v ∷ u ∷ x ∷ more) h = absurd cc

names : (text : List ℕ) (w : WordAt) (e : Extent) (group : List ItemAt) (items : List Item) (rest : List Entry) → sort (placed_at text w) ≡ s.AtName → HoldsString (words_among (map (item_at text) group)) (bytes_at text e)
    → BeginWith text items group → Leaves (drop (length group) items) rest → Leaves (Word (placed_at text w) ∷ items) (entry_at text (TokenAt (NamedAt e w.place)) ∷ names_among (map (item_at text) group) ++ rest)
names text w e [] items rest is (first, v, last, h, string) begins l = absurd cc
names text w e (i ∷ group) items rest is string (inside, more, h, g) l =
    lead_into (placed_at text w) items (entry_at text (TokenAt (NamedAt e w.place)) ∷ names_among (map (item_at text) (i ∷ group))) (drop (length (i ∷ group)) items) rest
    (named (begun_with text items more (i ∷ group) inside h g) (bytes_at text e) is (string_inside (map (item_at text) (i ∷ group)) inside (bytes_at text e) g string) refl) l

adds_token : (text : List ℕ) (w : WordAt) (e : Extent) (group : List ItemAt) (entries added : List EntryAt) → sort (placed_at text w) ≡ s.AtName → IsIn text e → HoldsString (words_among (map (item_at text) group)) (bytes_at text e)
    → added ≡ entries ++ TokenAt (NamedAt e w.place) ∷ names_in group → Adds text w group (length group) entries added
adds_token text w e group entries added is within string h = record {
  more = TokenAt (NamedAt e w.place) ∷ names_in group;
  spelled = h;
  within = omega arith;
  leaves = λ items begins rest l.
      subst (λ es. Leaves (Word (placed_at text w) ∷ items) (entry_at text (TokenAt (NamedAt e w.place)) ∷ es ++ rest)) (sym (names_stand text group)) (names text w e group items rest is string begins l);
  in_text = All-cons (IsEntryIn text) (TokenAt (NamedAt e w.place)) (names_in group) within (names_in_text text group);
  words = All-cons (IsWordOf (WordItem w ∷ [])) (TokenAt (NamedAt e w.place)) (names_in group) tt (names_no_words (WordItem w ∷ []) group);
}

pub adds_named : (text : List ℕ) (w : WordAt) (group : List ItemAt) (entries added : List EntryAt) → IsSort s.AtName (placed_at text w) → AddsNamed text w.place group entries added → Adds text w group (length group) entries added
adds_named text w group entries added is (inl (e, no_string)) =
    let name = is_sort s.AtName (placed_at text w) is in
    adds_names text w group entries added (ap (λ k. token_of k (placed_at text w)) name) (λ _. no_string) e
adds_named text w group entries added is (inr (e, within, string, h)) = adds_token text w e group entries added (is_sort s.AtName (placed_at text w) is) within string h
