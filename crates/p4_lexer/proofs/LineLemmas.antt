-- The pieces of a line, one more at a time.
use Rattle.std.proofs.Common.{◌≡◌, ℕ, Bool, true, false, ◌-◌, drop-drop, length-drop, ◌+◌, ◌<◌, ◌≤◌, List, [], ◌∷◌, ◌++◌, length, take, drop, map, Contains, take-append-drop, append_assoc, sym, refl, ap, ◌∙◌, arith, subst, inl, inr}
use Rattle.std.proofs.lemmas.List.{length-take-le, append-nil}
use Rattle.std.proofs.Math.ListN.{drop_of_length-le}
use Rattle.std.proofs.Math.Seq.{take-append_seam, drop-append_seam}
use Rattle.p4_lexer.specs.declared.piece.Kind.{Kind}
use Rattle.p4_lexer.specs.declared.piece.Kind.TheVariants.{Stray}
use Rattle.p4_lexer.specs.declared.piece.Piece.{Piece}
use Rattle.p4_lexer.specs.Bytes.{line_feed}
use Rattle.p4_lexer.specs.Pieces.{Begins}
use Rattle.p4_lexer.specs.Cuts.{Cut, CutsInto, PassesLine, AreLine}
use Rattle.p4_lexer.specs.Lines.{without_bytes, AreFirstLine}
use Rattle.p4_lexer.proofs.BeginsLemmas.{no_piece_of_none}
use Rattle.p4_lexer.proofs.TextLemmas.{rest_from}

-- the only piece that begins the text
abbrev pub IsOnly : List ℕ → Piece → Type 0
IsOnly text p = (kind : Kind) (len : ℕ) → Begins text kind len → (kind ≡ p.kind) × (len ≡ p.len)

-- a text that is not empty begins with a piece of some bytes
pub some_bytes : (text : List ℕ) (kind : Kind) (len : ℕ) → 0 < length text → Begins text kind len → 0 < len
some_bytes [] kind len some b = absurd (omega arith)
some_bytes (c ∷ text) kind len some b = omega (arith, b.longest Stray 1 (omega arith) refl)

abbrev cut_of : List ℕ → Piece → Cut
cut_of text p = record { kind = p.kind; bytes = take p.len text }

cut_bare : (text : List ℕ) (p : Piece) → p.len ≤ length text → without_bytes (cut_of text p) ≡ p
cut_bare text p within = rw (length-take-le p.len text within) refl

cut_more : (text : List ℕ) (p : Piece) (cuts : List Cut) (left : List ℕ) → Begins text p.kind p.len → CutsInto (drop p.len text) cuts left → CutsInto text (cut_of text p ∷ cuts) left
cut_more text p cuts left b more =
    (drop p.len text, sym (take-append-drop p.len text), subst (λ n. Begins text p.kind n) (sym (length-take-le p.len text b.within)) b, more)

line_more : (c : Cut) (cuts : List Cut) (left : List ℕ) → ¬ PassesLine c → AreLine cuts left → AreLine (c ∷ cuts) left
line_more c [] left inside line = inr line
line_more c (d ∷ cuts) left inside line = (inside, line)

line_less : (c : Cut) (cuts : List Cut) (left : List ℕ) → ¬ PassesLine c → AreLine (c ∷ cuts) left → AreLine cuts left
line_less c [] left inside (inl passes) = absurd (inside passes)
line_less c [] left inside (inr ended) = ended
line_less c (d ∷ cuts) left inside line = line.1

line_ends : (c : Cut) (cuts : List Cut) (left : List ℕ) → PassesLine c → AreLine (c ∷ cuts) left → cuts ≡ []
line_ends c [] left passes line = refl
line_ends c (d ∷ cuts) left passes line = absurd (line.0 passes)

-- a piece that does not pass the line, before the line that is left
pub line_with : (text : List ℕ) (p : Piece) (more : List Piece) → Begins text p.kind p.len → ¬ Contains (take p.len text) line_feed → AreFirstLine (drop p.len text) more → AreFirstLine text (p ∷ more)
line_with text p more b inside line = record {
  cuts = cut_of text p ∷ line.cuts;
  left = line.left;
  spelled = rw (line.spelled, cut_bare text p b.within) refl;
  cut = cut_more text p line.cuts line.left b line.cut;
  line = line_more (cut_of text p) line.cuts line.left inside line.line;
}

-- a piece that passes the line ends it
pub line_ended : (text : List ℕ) (p : Piece) → Begins text p.kind p.len → Contains (take p.len text) line_feed → AreFirstLine text (p ∷ [])
line_ended text p b passes = record {
  cuts = cut_of text p ∷ [];
  left = drop p.len text;
  spelled = rw (cut_bare text p b.within) refl;
  cut = cut_more text p [] (drop p.len text) b refl;
  line = inl passes;
}

pub line_of_none : AreFirstLine [] []
line_of_none = record { cuts = []; left = []; spelled = refl; cut = refl; line = refl }

pub only_line_of_none : (all : List Piece) → AreFirstLine [] all → all ≡ []
only_line_of_none all line = no_cuts line.cuts line.left line.cut line.spelled where
  no_cuts : (cuts : List Cut) (left : List ℕ) → CutsInto [] cuts left → all ≡ map without_bytes cuts → all ≡ []
  no_cuts [] left cut spelled = spelled
  no_cuts (c ∷ cuts) left (rest, same, b, more) spelled = absurd (no_piece_of_none c.kind (length c.bytes) b)

-- the first cut of a text is its only piece
first_cut : (text : List ℕ) (p : Piece) (c : Cut) (rest : List ℕ) → IsOnly text p → text ≡ c.bytes ++ rest → Begins text c.kind (length c.bytes)
    → (without_bytes c ≡ p) × (take p.len text ≡ c.bytes) × (drop p.len text ≡ rest)
first_cut text p c rest only spelled b =
    let same = only c.kind (length c.bytes) b in
    let kinds : record { kind = c.kind; len = length c.bytes } ≡ p = ap (λ k. record { kind = k; len = length c.bytes }) same.0 ∙ ap (λ n. record { kind = p.kind; len = n }) same.1 in (
      kinds,
      ap (λ n. take n text) (sym same.1) ∙ ap (take (length c.bytes)) spelled ∙ take-append_seam c.bytes rest,
      ap (λ n. drop n text) (sym same.1) ∙ ap (drop (length c.bytes)) spelled ∙ drop-append_seam c.bytes rest,
    )

abbrev Behind : List ℕ → Piece → List Piece → Type 0
Behind text p all = (more : List Piece) × AreFirstLine (drop p.len text) more × (all ≡ p ∷ more)

-- the line behind a piece that does not pass it
pub line_behind : (text : List ℕ) (p : Piece) (all : List Piece) → 0 < length text → IsOnly text p → ¬ Contains (take p.len text) line_feed → AreFirstLine text all → Behind text p all
line_behind text p all some only inside line = behind line.cuts line.left line.cut line.line line.spelled where
  behind : (cuts : List Cut) (left : List ℕ) → CutsInto text cuts left → AreLine cuts left → all ≡ map without_bytes cuts → Behind text p all
  behind [] left cut ended spelled = absurd (omega (arith, some, ap length (cut ∙ ended)))
  behind (c ∷ cuts) left (rest, same, b, more) ended spelled =
      let first = first_cut text p c rest only same b in
      let line_left : AreFirstLine (drop p.len text) (map without_bytes cuts) = record {
        cuts = cuts;
        left = left;
        spelled = refl;
        cut = subst (λ xs. CutsInto xs cuts left) (sym first.2) more;
        line = line_less c cuts left (λ passes. inside (subst (λ xs. Contains xs line_feed) (sym first.1) passes)) ended;
      } in
      (map without_bytes cuts, line_left, spelled ∙ ap (λ q. q ∷ map without_bytes cuts) first.0)

-- nothing is behind a piece that passes the line
pub line_alone : (text : List ℕ) (p : Piece) (all : List Piece) → 0 < length text → IsOnly text p → Contains (take p.len text) line_feed → AreFirstLine text all → all ≡ p ∷ []
line_alone text p all some only passes line = alone line.cuts line.left line.cut line.line line.spelled where
  alone : (cuts : List Cut) (left : List ℕ) → CutsInto text cuts left → AreLine cuts left → all ≡ map without_bytes cuts → all ≡ p ∷ []
  alone [] left cut ended spelled = absurd (omega (arith, some, ap length (cut ∙ ended)))
  alone (c ∷ cuts) left (rest, same, b, more) ended spelled =
      let first = first_cut text p c rest only same b in
      spelled ∙ ap (λ q. q ∷ map without_bytes cuts) first.0
      ∙ ap (λ ds. p ∷ map without_bytes ds) (line_ends c cuts left (subst (λ xs. Contains xs line_feed) first.1 passes) ended)

-- The first pieces of the line go up to a place: with those from there on they are its pieces, and in no other way.
abbrev pub Reaches : List ℕ → ℕ → List Piece → Type 0
Reaches text at pieces =
    (at ≤ length text)
    × ((more : List Piece) → AreFirstLine (drop at text) more → AreFirstLine text (pieces ++ more))
    × ((all : List Piece) → AreFirstLine text all → (more : List Piece) × AreFirstLine (drop at text) more × (all ≡ pieces ++ more))

-- the piece that stands at a place
pub record StandsAt (text : List ℕ) (at : ℕ) (p : Piece) : Type 0 where
  pub below : at < length text
  pub begins : Begins (drop at text) p.kind p.len
  pub only : IsOnly (drop at text) p

pub stands_at : (text : List ℕ) (at : ℕ) (p : Piece) → at < length text → Begins (take (length text - at) (drop at text)) p.kind p.len → IsOnly (take (length text - at) (drop at text)) p → StandsAt text at p
stands_at text at p below begins only = record {
  below = below;
  begins = subst (λ xs. Begins xs p.kind p.len) (rest_from text at) begins;
  only = subst (λ xs. IsOnly xs p) (rest_from text at) only;
}

some_left : (text : List ℕ) (at : ℕ) → at < length text → 0 < length (drop at text)
some_left text at below = omega (arith, length-drop at text)

pub moves_on : (text : List ℕ) (at : ℕ) (p : Piece) → StandsAt text at p → 0 < p.len
moves_on text at p stands = some_bytes (drop at text) p.kind p.len (some_left text at stands.below) stands.begins

-- the bytes of a slice by its two ends
pub slice_bytes : (at n : ℕ) (xs : List ℕ) → take (at + n - at) xs ≡ take n xs
slice_bytes at n xs = let same : at + n - at ≡ n = omega arith in ap (λ k. take k xs) same

pub reaches_more : (text : List ℕ) (at : ℕ) (pieces : List Piece) (p : Piece) → StandsAt text at p → ¬ Contains (take p.len (drop at text)) line_feed → Reaches text at pieces → Reaches text (at + p.len) (pieces ++ p ∷ [])
reaches_more text at pieces p stands inside (within, into, back) = (
  omega (arith, stands.begins.within, length-drop at text),
  λ more line. subst (AreFirstLine text) (sym (append_assoc pieces (p ∷ []) more)) (into (p ∷ more) (line_with (drop at text) p more stands.begins inside (subst (λ xs. AreFirstLine xs more) (sym (drop-drop p.len at text)) line))),
  λ all line.
      let from = back all line in
      let rest = line_behind (drop at text) p from.0 (some_left text at stands.below) stands.only inside from.1 in
      (rest.0, subst (λ xs. AreFirstLine xs rest.0) (drop-drop p.len at text) rest.1, from.2 ∙ ap (λ xs. pieces ++ xs) rest.2 ∙ sym (append_assoc pieces (p ∷ []) rest.0)),
)

pub line_is : (text : List ℕ) (at : ℕ) (pieces : List Piece) (p : Piece) → StandsAt text at p → Contains (take p.len (drop at text)) line_feed → Reaches text at pieces → AreFirstLine text (pieces ++ p ∷ [])
line_is text at pieces p stands passes reaches = reaches.1 (p ∷ []) (line_ended (drop at text) p stands.begins passes)

pub line_is_only : (text : List ℕ) (at : ℕ) (pieces : List Piece) (p : Piece) → StandsAt text at p → Contains (take p.len (drop at text)) line_feed → Reaches text at pieces → (others : List Piece) → AreFirstLine text others → others ≡ pieces ++ p ∷ []
line_is_only text at pieces p stands passes reaches others line =
    let from = reaches.2 others line in
    from.2 ∙ ap (λ xs. pieces ++ xs) (line_alone (drop at text) p from.0 (some_left text at stands.below) stands.only passes from.1)

pub whole_is_line : (text : List ℕ) (at : ℕ) (pieces : List Piece) → length text ≤ at → Reaches text at pieces → AreFirstLine text pieces
whole_is_line text at pieces past reaches =
    subst (AreFirstLine text) (append-nil pieces) (reaches.1 [] (subst (λ xs. AreFirstLine xs []) (sym (drop_of_length-le text past)) line_of_none))

pub whole_is_only_line : (text : List ℕ) (at : ℕ) (pieces : List Piece) → length text ≤ at → Reaches text at pieces → (others : List Piece) → AreFirstLine text others → others ≡ pieces
whole_is_only_line text at pieces past reaches others line =
    let from = reaches.2 others line in
    from.2 ∙ ap (λ xs. pieces ++ xs) (only_line_of_none from.0 (subst (λ xs. AreFirstLine xs from.0) (drop_of_length-le text past) from.1)) ∙ append-nil pieces

pub not_true : (b : Bool) → b ≡ false → b ≡ true → ⊥
not_true true fails holds = cc
not_true false fails holds = cc
