-- Words and names among items by their extents.
use Rattle.std.proofs.Common.{◌≡◌, ℕ, ◌+◌, ◌-◌, ◌<◌, ◌≤◌, List, [], ◌∷◌, ◌++◌, length, take, drop, map, get_or, add-one, append_assoc, length-append, length-drop, length-take-le, take-append-drop, drop-drop, refl, sym, ap, ◌∙◌, arith}
use Rattle.std.proofs.Math.Seq.{take-suc, take-append_seam}
use Rattle.p4_lexer.specs.declared.piece.Kind.TheVariants.{Text as TextPiece}
use Rattle.p4_lexer.specs.declared.extents.WordAt.{WordAt}
use Rattle.p4_lexer.specs.declared.extents.Item.{Item as ItemAt}
use Rattle.p4_lexer.specs.declared.extents.Item.TheVariants.{Word as WordItem, Replaced as ReplacedItem}
use Rattle.p4_lexer.specs.declared.extents.Entry.TheVariants.{Name as NameAt}
use Rattle.p4_lexer.specs.Bytes.{quotation_mark}
use Rattle.p4_lexer.specs.Annotations.{IsString, words_among, names_among}
use Rattle.p4_lexer.specs.Extents.{IsIn, bytes_at, placed_at, item_at, entry_at}
use Rattle.p4_lexer.specs.Entries.{words_in, names_in}
use Rattle.p4_lexer.proofs.ParenthesisLemmas.{cut_of}

words_in-append : (a b : List ItemAt) → words_in (a ++ b) ≡ words_in a ++ words_in b
words_in-append [] b = refl
words_in-append (WordItem w ∷ a) b = ap (λ ws. w ∷ ws) (words_in-append a b)
words_in-append (ReplacedItem n ∷ a) b = words_in-append a b

names_in-append : (a b : List ItemAt) → names_in (a ++ b) ≡ names_in a ++ names_in b
names_in-append [] b = refl
names_in-append (WordItem w ∷ a) b = names_in-append a b
names_in-append (ReplacedItem n ∷ a) b = ap (λ ns. NameAt n.place ∷ ns) (names_in-append a b)

take_one : (items : List ItemAt) (i : ℕ) (d item : ItemAt) → i < length items → get_or items i d ≡ item → take (i + 1) items ≡ take i items ++ item ∷ []
take_one items i d item below is =
    let more : take (i + 1) items ≡ take i items ++ get_or items i d ∷ [] = rw (add-one, take-suc items i d) refl in
    more ∙ ap (λ j. take i items ++ j ∷ []) is

-- one item more
pub words_more : (items : List ItemAt) (i : ℕ) (d item : ItemAt) → i < length items → get_or items i d ≡ item → words_in (take (i + 1) items) ≡ words_in (take i items) ++ words_in (item ∷ [])
words_more items i d item below is = ap words_in (take_one items i d item below is) ∙ words_in-append (take i items) (item ∷ [])

pub names_more : (items : List ItemAt) (i : ℕ) (d item : ItemAt) → i < length items → get_or items i d ≡ item → names_in (take (i + 1) items) ≡ names_in (take i items) ++ names_in (item ∷ [])
names_more items i d item below is = ap names_in (take_one items i d item below is) ∙ names_in-append (take i items) (item ∷ [])

-- they stand for the words and names in a text
pub words_stand : (text : List ℕ) (items : List ItemAt) → words_among (map (item_at text) items) ≡ map (placed_at text) (words_in items)
words_stand text [] = refl
words_stand text (WordItem w ∷ items) = ap (λ ws. placed_at text w ∷ ws) (words_stand text items)
words_stand text (ReplacedItem n ∷ items) = words_stand text items

pub names_stand : (text : List ℕ) (items : List ItemAt) → map (entry_at text) (names_in items) ≡ names_among (map (item_at text) items)
names_stand text [] = refl
names_stand text (WordItem w ∷ items) = names_stand text items
names_stand text (ReplacedItem n ∷ items) = ap (λ ns. entry_at text (NameAt n.place) ∷ ns) (names_stand text items)

-- the text of a string between its quotation marks
between : (xs : List ℕ) (len : ℕ) (t : List ℕ) → len ≤ length xs → take len xs ≡ quotation_mark ∷ t ++ quotation_mark ∷ [] → (2 ≤ len) × (take (len - 2) (drop 1 xs) ≡ t)
between xs len t within e =
    let taken : length (take len xs) ≡ len = length-take-le len xs within in
    let size : length (take len xs) ≡ length (quotation_mark ∷ t ++ quotation_mark ∷ []) = ap length e in
    let inside : length (t ++ quotation_mark ∷ []) ≡ length t + 1 = omega (arith, length-append t (quotation_mark ∷ [])) in
    let whole : xs ≡ quotation_mark ∷ t ++ quotation_mark ∷ drop len xs =
    sym (take-append-drop len xs) ∙ ap (λ ys. ys ++ drop len xs) e ∙ ap (λ ys. quotation_mark ∷ ys) (append_assoc t (quotation_mark ∷ []) (drop len xs)) in
    let inner : len - 2 ≡ length t = omega arith in (
      omega arith,
      ap (λ n. take n (drop 1 xs)) inner ∙ ap (λ ys. take (length t) (drop 1 ys)) whole ∙ take-append_seam t (quotation_mark ∷ drop len xs),
    )

pub inside_of : (text : List ℕ) (w : WordAt) (t : List ℕ) → IsIn text w.piece.extent → w.piece.kind ≡ TextPiece → bytes_at text w.piece.extent ≡ quotation_mark ∷ t ++ quotation_mark ∷ []
    → IsIn text (record { at = w.piece.extent.at + 1; len = w.piece.extent.len - 2 }) × IsString (placed_at text w ∷ []) (take (w.piece.extent.len - 2) (drop (w.piece.extent.at + 1) text))
inside_of text w t within kind e =
    let at = w.piece.extent.at in
    let len = w.piece.extent.len in
    let b = between (drop at text) len t (omega (arith, length-drop at text)) e in
    let there : take (len - 2) (drop (at + 1) text) ≡ t = ap (take (len - 2)) (sym (drop-drop 1 at text)) ∙ b.1 in
    let cut : cut_of w.piece.kind (bytes_at text w.piece.extent) ≡ cut_of TextPiece (quotation_mark ∷ t ++ quotation_mark ∷ []) = ap (λ k. cut_of k (bytes_at text w.piece.extent)) kind ∙ ap (cut_of TextPiece) e in
    (omega (arith, b.0), (placed_at text w, refl, cut ∙ ap (λ s. cut_of TextPiece (quotation_mark ∷ s ++ quotation_mark ∷ [])) (sym there)))
