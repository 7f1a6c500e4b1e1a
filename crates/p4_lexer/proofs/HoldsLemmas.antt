-- The string that stands alone between the first and the last of the words.
use Rattle.std.proofs.Common.{◌≡◌, ◌≢◌, ℕ, ◌<◌, List, [], ◌∷◌, length, map, get_or, refl, sym, ap, ◌∙◌, subst, arith, MatchOption, Option, None, Some}
use Rattle.std.specs.List.{All}
use Rattle.std.proofs.lemmas.List.{length-map}
use Rattle.std.proofs.lemmas.List.Elements.{All-nil, All-cons, All-head, All-tail}
use Rattle.p4_lexer.specs.declared.extents.Extent.{Extent}
use Rattle.p4_lexer.specs.declared.extents.WordAt.{WordAt}
use Rattle.p4_lexer.specs.declared.extents.Item.{Item as ItemAt}
use Rattle.p4_lexer.specs.declared.extents.Item.TheVariants.{Word as WordItem, Replaced as ReplacedItem}
use Rattle.p4_lexer.specs.Annotations.{IsString, words_among}
use Rattle.p4_lexer.specs.Extents.{IsIn, bytes_at, placed_at, item_at}
use Rattle.p4_lexer.specs.Groups.{IsItemIn}
use Rattle.p4_lexer.specs.Entries.{words_in, HoldsString}
use Rattle.p4_lexer.proofs.EntryLemmas.{words_stand}

abbrev IsWordIn : List ℕ → WordAt → Type 0
IsWordIn text w = IsIn text w.piece.extent

words_within : (text : List ℕ) (items : List ItemAt) → All (IsItemIn text) items → All (IsWordIn text) (words_in items)
words_within text [] all = All-nil (IsWordIn text)
words_within text (WordItem w ∷ items) all = All-cons (IsWordIn text) w (words_in items) (All-head (IsItemIn text) (WordItem w) items all) (words_within text items (All-tail (IsItemIn text) (WordItem w) items all))
words_within text (ReplacedItem n ∷ items) all = words_within text items (All-tail (IsItemIn text) (ReplacedItem n) items all)

pub second_within : (text : List ℕ) (items : List ItemAt) (words : List WordAt) (d : WordAt) → words ≡ words_in items → 1 < length words → All (IsItemIn text) items → IsIn text (get_or words 1 d).piece.extent
second_within text items words d e below all = subst (All (IsWordIn text)) (sym e) (words_within text items all) 1 d below

three : (words : List WordAt) (d : WordAt) → length words ≡ 3 → words ≡ get_or words 0 d ∷ get_or words 1 d ∷ get_or words 2 d ∷ []
three [] d e = absurd (omega arith)
three (u ∷ []) d e = absurd (omega arith)
three (u ∷ v ∷ []) d e = absurd (omega arith)
three (u ∷ v ∷ w ∷ []) d e = refl
three (u ∷ v ∷ w ∷ x ∷ words) d e = absurd (omega arith)

words_are : (text : List ℕ) (items : List ItemAt) (words : List WordAt) → words ≡ words_in items → words_among (map (item_at text) items) ≡ map (placed_at text) words
words_are text items words e = words_stand text items ∙ ap (map (placed_at text)) (sym e)

-- where there are three words the string is the second
pub second_is : (text : List ℕ) (items : List ItemAt) (words : List WordAt) (d : WordAt) (found : Option Extent) → words ≡ words_in items → length words ≡ 3
    → MatchOption found ((t : List ℕ) → IsString (placed_at text (get_or words 1 d) ∷ []) t → ⊥) (λ e. IsIn text e × IsString (placed_at text (get_or words 1 d) ∷ []) (bytes_at text e))
    → MatchOption found ((t : List ℕ) → HoldsString (words_among (map (item_at text) items)) t → ⊥) (λ e. IsIn text e × HoldsString (words_among (map (item_at text) items)) (bytes_at text e))
second_is text items words d found e size m = by found m where
  all : words_among (map (item_at text) items) ≡ placed_at text (get_or words 0 d) ∷ placed_at text (get_or words 1 d) ∷ placed_at text (get_or words 2 d) ∷ []
  all = words_are text items words e ∙ ap (map (placed_at text)) (three words d size)

  by : (found : Option Extent) → MatchOption found ((t : List ℕ) → IsString (placed_at text (get_or words 1 d) ∷ []) t → ⊥) (λ e. IsIn text e × IsString (placed_at text (get_or words 1 d) ∷ []) (bytes_at text e))
      → MatchOption found ((t : List ℕ) → HoldsString (words_among (map (item_at text) items)) t → ⊥) (λ e. IsIn text e × HoldsString (words_among (map (item_at text) items)) (bytes_at text e))
  by None none = λ t h.
      let lists : placed_at text (get_or words 0 d) ∷ placed_at text (get_or words 1 d) ∷ placed_at text (get_or words 2 d) ∷ [] ≡ h.0 ∷ h.1 ∷ h.2 ∷ [] = sym all ∙ h.3 in
      let same : placed_at text (get_or words 1 d) ≡ h.1 = cc in
      none t (subst (λ v. IsString (v ∷ []) t) (sym same) h.4)
  by (Some x) some = (some.0, (placed_at text (get_or words 0 d), placed_at text (get_or words 1 d), placed_at text (get_or words 2 d), all, some.1))

-- and where there are not three there is none
pub not_three : (text : List ℕ) (items : List ItemAt) (words : List WordAt) → words ≡ words_in items → length words ≢ 3 → (t : List ℕ) → HoldsString (words_among (map (item_at text) items)) t → ⊥
not_three text items words e other t h =
    let size : length words ≡ length (h.0 ∷ h.1 ∷ h.2 ∷ []) = sym (length-map words (placed_at text)) ∙ ap length (sym (words_are text items words e)) ∙ ap length h.3 in
    other (omega arith)
