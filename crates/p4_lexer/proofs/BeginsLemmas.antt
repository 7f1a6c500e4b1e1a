-- The piece at the start of a text begins it, and no other does.
use Rattle.std.proofs.Common.{◌≡◌, ◌≢◌, ℕ, ◌<◌, ◌≤◌, List, [], ◌∷◌, length, take, drop, take-append-drop, sym, refl, ap, ◌∙◌, arith, subst, ◌⊎◌, inl, inr}
use Rattle.std.proofs.lemmas.List.{length-take-le}
use Rattle.p4_lexer.specs.declared.piece.Kind.{Kind}
use Rattle.p4_lexer.specs.declared.piece.Kind.TheVariants.{Blank, Comment, Name, Number, Text, Sign, Annotation, OpenComment, OpenText, Stray}
use Rattle.p4_lexer.specs.declared.piece.Piece.{Piece}
use Rattle.p4_lexer.specs.Pieces.{IsPiece, Begins}
use Rattle.p4_lexer.specs.Lengths.{piece_of}
use Rattle.p4_lexer.proofs.PieceLemmas.{Fits, fits}
use Rattle.p4_lexer.proofs.SpelledLemmas.{spells}

stray_or : (k : Kind) → (k ≡ Stray) ⊎ (k ≢ Stray)
stray_or Stray = inl refl
stray_or Blank = inr (λ e. cc)
stray_or Comment = inr (λ e. cc)
stray_or Name = inr (λ e. cc)
stray_or Number = inr (λ e. cc)
stray_or Text = inr (λ e. cc)
stray_or Sign = inr (λ e. cc)
stray_or Annotation = inr (λ e. cc)
stray_or OpenComment = inr (λ e. cc)
stray_or OpenText = inr (λ e. cc)

-- a front of the text, of so many bytes, against its piece
front_fits : (k : Kind) (text : List ℕ) (n : ℕ) → n ≤ length text → IsPiece k (take n text) → k ≢ Stray → (n < (piece_of text).len) ⊎ ((n ≡ (piece_of text).len) × (k ≡ (piece_of text).kind))
front_fits k text n within p other =
    let f : Fits k (take n text) (piece_of text) = subst (λ xs. Fits k (take n text) (piece_of xs)) (take-append-drop n text) (fits k (take n text) (drop n text) p other) in
    subst (λ m. (m < (piece_of text).len) ⊎ ((m ≡ (piece_of text).len) × (k ≡ (piece_of text).kind))) (length-take-le n text within) f

no_longer : (c : ℕ) (text : List ℕ) (k : Kind) (n : ℕ) → n ≤ length (c ∷ text) → IsPiece k (take n (c ∷ text)) → (k ≡ Stray) ⊎ (k ≢ Stray) → n ≤ (piece_of (c ∷ text)).len
no_longer c text k n within p (inl stray) =
    let one : length (take n (c ∷ text)) ≡ 1 = subst (λ z. IsPiece z (take n (c ∷ text))) stray p in
    omega (arith, length-take-le n (c ∷ text) within, one, (spells c text).0)
no_longer c text k n within p (inr other) = elim (front_fits k (c ∷ text) n within p other) [ inl less ↦ omega arith | inr same ↦ omega (arith, same.0) ]

begins : (c : ℕ) (text : List ℕ) (p : Piece) → p ≡ piece_of (c ∷ text) → p.len ≤ length (c ∷ text) → Begins (c ∷ text) p.kind p.len
begins c text p e within = subst (λ q. q.len ≤ length (c ∷ text) → Begins (c ∷ text) q.kind q.len) (sym e) (begins_of c text) within where
  begins_of : (d : ℕ) (rest : List ℕ) → (piece_of (d ∷ rest)).len ≤ length (d ∷ rest) → Begins (d ∷ rest) (piece_of (d ∷ rest)).kind (piece_of (d ∷ rest)).len
  begins_of d rest inside = record {
    within = inside;
    piece = (spells d rest).1;
    longest = λ other more short here. no_longer d rest other more short here (stray_or other);
    nothing = λ stray other differs here. elim (front_fits other (d ∷ rest) (piece_of (d ∷ rest)).len inside here differs) [
      | inl less ↦ omega arith
      | inr same ↦ differs (same.1 ∙ stray)
    ];
  }

pub begins_text : (text : List ℕ) (p : Piece) → 0 < length text → p ≡ piece_of text → p.len ≤ length text → Begins text p.kind p.len
begins_text [] p some e within = absurd (omega arith)
begins_text (c ∷ text) p some e within = begins c text p e within

same_kind : (text : List ℕ) (k : Kind) (n : ℕ) (p : Piece) → p ≡ piece_of text → Begins text p.kind p.len → Begins text k n → n ≡ p.len → (k ≡ Stray) ⊎ (k ≢ Stray) → (p.kind ≡ Stray) ⊎ (p.kind ≢ Stray) → k ≡ p.kind
same_kind text k n p e own b len (inr other) any = elim (front_fits k text n b.within b.piece other) [
  | inl less ↦ absurd (omega (arith, ap (λ (q : Piece). q.len) e))
  | inr same ↦ same.1 ∙ sym (ap (λ (q : Piece). q.kind) e)
]
same_kind text k n p e own b len (inl stray) (inl own_stray) = stray ∙ sym own_stray
same_kind text k n p e own b len (inl stray) (inr own_other) = absurd (b.nothing stray p.kind own_other (subst (λ m. IsPiece p.kind (take m text)) (sym len) own.piece))

-- what begins the text is its piece
pub only : (text : List ℕ) (p : Piece) → p ≡ piece_of text → Begins text p.kind p.len → (k : Kind) (n : ℕ) → Begins text k n → (k ≡ p.kind) × (n ≡ p.len)
only text p e own k n b =
    let up : p.len ≤ n = b.longest p.kind p.len own.within own.piece in
    let down : n ≤ p.len = own.longest k n b.within b.piece in
    let len : n ≡ p.len = omega arith in
    (same_kind text k n p e own b len (stray_or k) (stray_or p.kind), len)

-- no piece begins a text of no bytes
pub no_piece_of_none : (k : Kind) (n : ℕ) → Begins [] k n → ⊥
no_piece_of_none k n b = elim (stray_or k) [
  | inl stray ↦ let one : length (take n []) ≡ 1 = subst (λ z. IsPiece z (take n [])) stray b.piece in omega (arith, length-take-le {A = ℕ} n [] b.within, b.within)
  | inr other ↦ elim (front_fits k [] n b.within b.piece other) [ inl less ↦ omega arith | inr same ↦ other same.1 ]
]
