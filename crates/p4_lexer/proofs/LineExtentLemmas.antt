-- Pieces in a row from a place on are the cuts that stand there.
use Rattle.std.proofs.Common.{◌≡◌, ℕ, ◌+◌, ◌<◌, ◌≤◌, List, [], ◌∷◌, ◌++◌, length, take, drop, map, get_or, All, drop-drop, drop-cons, length-drop, length-append, append_assoc, add-one, sym, refl, ap, ◌∙◌, subst, arith}
use Rattle.std.proofs.Math.Seq.{take-append_seam, drop-append_seam}
use Rattle.std.proofs.lemmas.List.Elements.{All-nil, All-cons}
use Rattle.p4_lexer.specs.declared.piece.Piece.{Piece}
use Rattle.p4_lexer.specs.declared.extents.PieceAt.{PieceAt}
use Rattle.p4_lexer.specs.Pieces.{Begins}
use Rattle.p4_lexer.specs.Cuts.{Cut, CutsInto, AreLine}
use Rattle.p4_lexer.specs.Lines.{without_bytes, AreFirstLine}
use Rattle.p4_lexer.specs.Extents.{cut_at}
use Rattle.p4_lexer.specs.DirectiveExtents.{IsPieceAt}
use Rattle.p4_lexer.specs.BadPieces.{AreInRow}
use Rattle.p4_lexer.specs.LineExtents.{placed_from, end_from, IsLineAt}
use Rattle.p4_lexer.proofs.BeginsLemmas.{no_piece_of_none}
use Rattle.p4_lexer.proofs.LineLemmas.{some_bytes}

pub from_end : (at : ℕ) (pieces : List Piece) → at ≤ end_from at pieces
from_end at [] = omega arith
from_end at (p ∷ pieces) = omega (arith, from_end (at + p.len) pieces)

-- What is known of a text from a place on, where these cuts stand: the same pieces by extents
pub record Placed (text : List ℕ) (at : ℕ) (cuts : List Cut) (left : List ℕ) : Type 0 where
  pub cuts_are : map (cut_at text) (placed_from at (map without_bytes cuts)) ≡ cuts
  pub fit : All (IsPieceAt text) (placed_from at (map without_bytes cuts))
  pub within : end_from at (map without_bytes cuts) ≤ length text
  pub few : at + length (placed_from at (map without_bytes cuts)) ≤ end_from at (map without_bytes cuts)
  pub left_is : left ≡ drop (end_from at (map without_bytes cuts)) text

some_there : (bytes rest : List ℕ) (c : Cut) → c.bytes ≡ bytes → Begins (bytes ++ rest) c.kind (length bytes) → 0 < length bytes
some_there [] [] c e b = absurd (no_piece_of_none c.kind 0 b)
some_there [] (x ∷ rest) c e b = some_bytes (x ∷ rest) c.kind 0 (omega arith) b
some_there (x ∷ bytes) rest c e b = omega arith

pub placed : (text : List ℕ) (at : ℕ) (cuts : List Cut) (left : List ℕ) → at ≤ length text → CutsInto (drop at text) cuts left → Placed text at cuts left
placed text at [] left within cut = record { cuts_are = refl; fit = All-nil (IsPieceAt text); within = within; few = omega arith; left_is = sym cut }
placed text at (c ∷ cuts) left within (rest, same, b, more) =
    let bytes : take (length c.bytes) (drop at text) ≡ c.bytes = ap (take (length c.bytes)) same ∙ take-append_seam c.bytes rest in
    let behind : rest ≡ drop (at + length c.bytes) text = sym (drop-append_seam c.bytes rest) ∙ ap (drop (length c.bytes)) (sym same) ∙ drop-drop (length c.bytes) at text in
    let long : length c.bytes + length rest + at ≡ length text = omega (arith, ap length same, length-append c.bytes rest, length-drop at text) in
    let next = placed text (at + length c.bytes) cuts left (omega (arith, long)) (subst (λ xs. CutsInto xs cuts left) behind more) in
    let some : 0 < length c.bytes = some_there c.bytes rest c refl (subst (λ xs. Begins xs c.kind (length c.bytes)) same b) in
    let here : PieceAt = record { kind = c.kind; extent = record { at = at; len = length c.bytes } } in
    let is : IsPieceAt text here = record { within = omega (arith, long); some = some; piece = b.piece } in
    record {
      cuts_are = ap (λ w. record { kind = c.kind; bytes = w } ∷ map (cut_at text) (placed_from (at + length c.bytes) (map without_bytes cuts))) bytes ∙ ap (λ cs. c ∷ cs) next.cuts_are;
      fit = All-cons (IsPieceAt text) here (placed_from (at + length c.bytes) (map without_bytes cuts)) is next.fit;
      within = next.within;
      few = omega (arith, next.few, some);
      left_is = next.left_is;
    }

-- pieces in a row from a place on stand directly behind one another
in_row : (at : ℕ) (pieces : List Piece) → AreInRow at (placed_from at pieces)
in_row at [] = tt
in_row at (p ∷ pieces) = (refl, in_row (at + p.len) pieces)

-- the first line from a place on
pub line_from : (text : List ℕ) (start : ℕ) (pieces : List Piece) → start ≤ length text → AreFirstLine (drop start text) pieces → IsLineAt text start (placed_from start pieces) (end_from start pieces)
line_from text start pieces within line =
    let p = placed text start line.cuts line.left within line.cut in
    subst (λ ps. IsLineAt text start (placed_from start ps) (end_from start ps)) (sym line.spelled)
    (record {
      from = from_end start (map without_bytes line.cuts);
      within = p.within;
      few = omega (arith, p.few, p.within);
      row = in_row start (map without_bytes line.cuts);
      fit = p.fit;
      cut = subst (λ l. CutsInto (drop start text) (map (cut_at text) (placed_from start (map without_bytes line.cuts))) l) p.left_is (subst (λ cs. CutsInto (drop start text) cs line.left) (sym p.cuts_are) line.cut);
      line = subst (λ l. AreLine (map (cut_at text) (placed_from start (map without_bytes line.cuts))) l) p.left_is (subst (λ cs. AreLine cs line.left) (sym p.cuts_are) line.line);
    })

pub end_within : (text : List ℕ) (start : ℕ) (pieces : List Piece) → start ≤ length text → AreFirstLine (drop start text) pieces → end_from start pieces ≤ length text
end_within text start pieces within line = (line_from text start pieces within line).within

-- the loop's step
pub placed_more : (whole placed : List PieceAt) (at i : ℕ) (pieces : List Piece) (d : Piece) → i < length pieces → placed ++ placed_from at (drop i pieces) ≡ whole
    → (placed ++ record { kind = (get_or pieces i d).kind; extent = record { at = at; len = (get_or pieces i d).len } } ∷ []) ++ placed_from (at + (get_or pieces i d).len) (drop (i + 1) pieces) ≡ whole
placed_more whole placed at i pieces d below e =
    append_assoc placed (record { kind = (get_or pieces i d).kind; extent = record { at = at; len = (get_or pieces i d).len } } ∷ []) (placed_from (at + (get_or pieces i d).len) (drop (i + 1) pieces))
    ∙ ap (λ k. placed ++ record { kind = (get_or pieces i d).kind; extent = record { at = at; len = (get_or pieces i d).len } } ∷ placed_from (at + (get_or pieces i d).len) (drop k pieces)) (add-one i)
    ∙ sym (ap (λ ps. placed ++ placed_from at ps) (drop-cons pieces i d below)) ∙ e

pub end_more : (at i end : ℕ) (pieces : List Piece) (d : Piece) → i < length pieces → end_from at (drop i pieces) ≡ end → end_from (at + (get_or pieces i d).len) (drop (i + 1) pieces) ≡ end
end_more at i end pieces d below e =
    ap (λ k. end_from (at + (get_or pieces i d).len) (drop k pieces)) (add-one i) ∙ sym (ap (end_from at) (drop-cons pieces i d below)) ∙ e

pub line_by : (text : List ℕ) (start : ℕ) (pieces placed : List PieceAt) (end last : ℕ) → pieces ≡ placed → end ≡ last → IsLineAt text start placed last → IsLineAt text start pieces end
line_by text start pieces placed end last e f line = subst (λ ps. IsLineAt text start ps end) (sym e) (subst (λ n. IsLineAt text start placed n) (sym f) line)
