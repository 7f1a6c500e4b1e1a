-- What items weigh, and the first of them within a weight.
use Rattle.std.proofs.Common.{◌≡◌, ℕ, suc, ◌+◌, ◌-◌, ◌<◌, ◌≤◌, List, [], ◌∷◌, ◌++◌, length, drop, map, refl, ap, arith, length-drop}
use Rattle.std.proofs.lemmas.Bool.{le-leb, lt-leb}
use Rattle.std.proofs.lemmas.List.{length-take-le}
use Rattle.std.specs.List.{All}
use Rattle.p4_lexer.specs.declared.extents.Extent.{Extent}
use Rattle.p4_lexer.specs.declared.extents.Item.{Item as ItemAt}
use Rattle.p4_lexer.specs.declared.extents.Item.TheVariants.{Word as WordItem, Replaced as ReplacedItem}
use Rattle.p4_lexer.specs.Extents.{IsIn, item_at, bytes_at}
use Rattle.p4_lexer.specs.Replacement.{Item}
use Rattle.p4_lexer.specs.Stack.{word_of_item, weight_at, total_at}
use Rattle.p4_lexer.specs.Weight.{weight, total_weight, within}

-- an extent of the text has so many bytes
bytes_len : (text : List ℕ) (e : Extent) → IsIn text e → length (bytes_at text e) ≡ e.len
bytes_len text e inside = length-take-le e.len (drop e.at text) (omega (arith, length-drop e.at text))

pub weight_is : (text : List ℕ) (i : ItemAt) → IsIn text (word_of_item i).piece.extent → weight (item_at text i) ≡ weight_at i
weight_is text (WordItem w) inside = ap (λ n. 16 + n) (bytes_len text w.piece.extent inside)
weight_is text (ReplacedItem w) inside = ap (λ n. 16 + n) (bytes_len text w.piece.extent inside)

pub total_is : (text : List ℕ) (items : List ItemAt) → All (λ i. IsIn text (word_of_item i).piece.extent) items → total_weight (map (item_at text) items) ≡ total_at items
total_is text [] all = refl
total_is text (i ∷ items) all = rw (weight_is text i (all 0 i (omega arith)), total_is text items (λ k d h. all (suc k) d (omega arith))) refl

-- items that fit, and then one that does not
pub within_stops : (items : List Item) (next : Item) (more : List Item) (most left : ℕ) → left + total_weight items ≡ most → left < weight next → within most (items ++ next ∷ more) ≡ items
within_stops [] next more most left e heavy = rw (lt-leb (weight next) most (omega arith)) refl
within_stops (i ∷ items) next more most left e heavy =
    rw (le-leb (weight i) most (omega arith)) (ap (λ is. i ∷ is) (within_stops items next more (most - weight i) left (omega arith) heavy))

-- items that all fit
pub within_all : (items : List Item) (most : ℕ) → total_weight items ≤ most → within most items ≡ items
within_all [] most fits = refl
within_all (i ∷ items) most fits = rw (le-leb (weight i) most (omega arith)) (ap (λ is. i ∷ is) (within_all items (most - weight i) (omega arith)))
