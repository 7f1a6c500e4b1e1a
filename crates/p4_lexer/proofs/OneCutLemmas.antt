-- A text begins with one piece, and with one line, and with one rest of a line.
use Rattle.std.proofs.Common.{◌≡◌, ℕ, ◌≤◌, true, IsTrue, not, ◌&&◌, ◌==◌, List, [], ◌∷◌, ◌++◌, length, take, sym, refl, ap, ◌∙◌, arith, subst, inl, inr}
use Rattle.std.specs.List.{AllByRecursion, prefix_len}
use Rattle.std.proofs.lemmas.Bool.{and_parts, cases_lt}
use Rattle.std.proofs.lemmas.List.{append_cancel_left}
use Rattle.std.proofs.lemmas.List.Sums.{prefix_len-le-length}
use Rattle.std.proofs.Math.Seq.{take-append_seam}
use Rattle.p4_lexer.specs.declared.piece.Kind.{Kind}
use Rattle.p4_lexer.specs.declared.classes.Class.TheVariants.{InLine}
use Rattle.p4_lexer.specs.Bytes.{hash, line_feed, is_blank}
use Rattle.p4_lexer.specs.Pieces.{IsPiece, Begins}
use Rattle.p4_lexer.specs.Cuts.{Cut, CutsInto, PassesLine, AreLine}
use Rattle.p4_lexer.specs.Lengths.{has, piece_of}
use Rattle.p4_lexer.specs.Parts.{is_lead, IsRestOfLine}
use Rattle.p4_lexer.proofs.BeginsLemmas.{begins_text, only, no_piece_of_none}
use Rattle.p4_lexer.proofs.PieceLenLemmas.{piece_within}
use Rattle.p4_lexer.proofs.LineLemmas.{some_bytes}
use Rattle.p4_lexer.proofs.RestLemmas.{rest_is_ended, rest_is_whole}
use Rattle.p4_lexer.proofs.DirectiveLemmas.{IsCut}

-- the bytes of two fronts that are as long are the same
pub same_front : (w v left more : List ℕ) → w ++ left ≡ v ++ more → length w ≡ length v → w ≡ v
same_front w v left more e long =
    sym (take-append_seam w left) ∙ ap (take (length w)) e ∙ ap (λ n. take n (v ++ more)) long ∙ take-append_seam v more

-- and what is behind them is the same
pub same_left : (w v left more : List ℕ) → w ++ left ≡ v ++ more → w ≡ v → left ≡ more
same_left w v left more e same = append_cancel_left v left more (ap (λ x. x ++ left) (sym same) ∙ e)

-- one piece begins a text
pub one_piece : (text : List ℕ) (k l : Kind) (m n : ℕ) → Begins text k m → Begins text l n → (k ≡ l) × (m ≡ n)
one_piece [] k l m n a b = absurd (no_piece_of_none k m a)
one_piece (c ∷ text) k l m n a b =
    let own : Begins (c ∷ text) (piece_of (c ∷ text)).kind (piece_of (c ∷ text)).len = begins_text (c ∷ text) (piece_of (c ∷ text)) (omega arith) refl (piece_within c text) in
    let first = only (c ∷ text) (piece_of (c ∷ text)) refl own k m a in
    let second = only (c ∷ text) (piece_of (c ∷ text)) refl own l n b in
    (first.0 ∙ sym second.0, first.1 ∙ sym second.1)

pub one_cut : (text : List ℕ) (c d : Cut) (left more : List ℕ) → text ≡ c.bytes ++ left → text ≡ d.bytes ++ more → Begins text c.kind (length c.bytes) → Begins text d.kind (length d.bytes)
    → (c ≡ d) × (left ≡ more)
one_cut text c d left more e f a b =
    let same = one_piece text c.kind d.kind (length c.bytes) (length d.bytes) a b in
    let bytes : c.bytes ≡ d.bytes = same_front c.bytes d.bytes left more (sym e ∙ f) same.1 in
    (ap (λ k. record { kind = k; bytes = c.bytes }) same.0 ∙ ap (λ w. record { kind = d.kind; bytes = w }) bytes, same_left c.bytes d.bytes left more (sym e ∙ f) bytes)

-- no pieces are cut from a text of no bytes
no_cut_of_none : (text : List ℕ) (c : Cut) (cuts : List Cut) (left : List ℕ) → text ≡ [] → CutsInto text (c ∷ cuts) left → ⊥
no_cut_of_none text c cuts left none (rest, same, b, more) = no_piece_of_none c.kind (length c.bytes) (subst (λ xs. Begins xs c.kind (length c.bytes)) none b)

-- one line begins a text
pub one_line : (text : List ℕ) (cuts others : List Cut) (left more : List ℕ) → CutsInto text cuts left → AreLine cuts left → CutsInto text others more → AreLine others more
    → (cuts ≡ others) × (left ≡ more)
one_line text [] [] left more a line b other = (refl, sym a ∙ b)
one_line text [] (d ∷ others) left more a line b other = absurd (no_cut_of_none text d others more (a ∙ line) b)
one_line text (c ∷ cuts) [] left more a line b other = absurd (no_cut_of_none text c cuts left (b ∙ other) a)
one_line text (c ∷ []) (d ∷ []) left more (rest, e, a, behind) line (rest_too, f, b, behind_too) other =
    let same = one_cut text c d rest rest_too e f a b in
    (ap (λ x. x ∷ []) same.0, sym behind ∙ same.1 ∙ behind_too)
one_line text (c ∷ []) (d ∷ g ∷ others) left more (rest, e, a, behind) (inl passes) (rest_too, f, b, behind_too) other =
    absurd (other.0 (subst PassesLine (one_cut text c d rest rest_too e f a b).0 passes))
one_line text (c ∷ []) (d ∷ g ∷ others) left more (rest, e, a, behind) (inr ended) (rest_too, f, b, behind_too) other =
    absurd (no_cut_of_none rest_too g others more (sym (one_cut text c d rest rest_too e f a b).1 ∙ behind ∙ ended) behind_too)
one_line text (c ∷ g ∷ cuts) (d ∷ []) left more (rest, e, a, behind) line (rest_too, f, b, behind_too) (inl passes) =
    absurd (line.0 (subst PassesLine (sym (one_cut text c d rest rest_too e f a b).0) passes))
one_line text (c ∷ g ∷ cuts) (d ∷ []) left more (rest, e, a, behind) line (rest_too, f, b, behind_too) (inr ended) =
    absurd (no_cut_of_none rest g cuts left ((one_cut text c d rest rest_too e f a b).1 ∙ behind_too ∙ ended) behind)
one_line text (c ∷ g ∷ cuts) (d ∷ h ∷ others) left more (rest, e, a, behind) line (rest_too, f, b, behind_too) other =
    let same = one_cut text c d rest rest_too e f a b in
    let behind_same : CutsInto rest (h ∷ others) more = subst (λ xs. CutsInto xs (h ∷ others) more) (sym same.1) behind_too in
    let later = one_line rest (g ∷ cuts) (h ∷ others) left more behind line.1 behind_same other.1 in
    (ap (λ x. x ∷ g ∷ cuts) same.0 ∙ ap (λ xs. d ∷ xs) later.0, later.1)

-- pieces cut from a text have bytes
pub cuts_are : (text : List ℕ) (cuts : List Cut) (left : List ℕ) → CutsInto text cuts left → AllByRecursion IsCut cuts
cuts_are text [] left cut = tt
cuts_are [] (c ∷ cuts) left (rest, e, b, more) = absurd (no_piece_of_none c.kind (length c.bytes) b)
cuts_are (x ∷ text) (c ∷ cuts) left (rest, e, b, more) =
    let bytes : take (length c.bytes) (x ∷ text) ≡ c.bytes = ap (take (length c.bytes)) e ∙ take-append_seam c.bytes rest in
    (record { some = some_bytes (x ∷ text) c.kind (length c.bytes) (omega arith) b; piece = subst (IsPiece c.kind) bytes b.piece }, cuts_are rest cuts left more)

-- the first byte of a lead is no `#`
no_hash : (c : ℕ) (lead : List ℕ) → c ≡ hash → IsTrue (is_lead (c ∷ lead)) → ⊥
no_hash c lead e blank =
    let first : is_blank c && not (c == line_feed) ≡ true = (and_parts (is_blank c && not (c == line_feed)) (is_lead lead) blank).0 in
    let none : is_blank hash && not (hash == line_feed) ≡ true = subst (λ x. is_blank x && not (x == line_feed) ≡ true) e first in
    cc

head_same : (c d : ℕ) (xs ys : List ℕ) → c ∷ xs ≡ d ∷ ys → (c ≡ d) × (xs ≡ ys)
head_same c d xs ys e = (cc, cc)

-- the blanks before the `#` of a line
pub one_lead : (lead other rest more : List ℕ) → IsTrue (is_lead lead) → IsTrue (is_lead other) → lead ++ hash ∷ rest ≡ other ++ hash ∷ more → (lead ≡ other) × (rest ≡ more)
one_lead [] [] rest more blank too e = (refl, (head_same hash hash rest more e).1)
one_lead [] (d ∷ other) rest more blank too e = absurd (no_hash d other (sym (head_same hash d rest (other ++ hash ∷ more) e).0) too)
one_lead (c ∷ lead) [] rest more blank too e = absurd (no_hash c lead (head_same c hash (lead ++ hash ∷ rest) more e).0 blank)
one_lead (c ∷ lead) (d ∷ other) rest more blank too e =
    let heads = head_same c d (lead ++ hash ∷ rest) (other ++ hash ∷ more) e in
    let later = one_lead lead other rest more (and_parts (is_blank c && not (c == line_feed)) (is_lead lead) blank).1 (and_parts (is_blank d && not (d == line_feed)) (is_lead other) too).1 heads.1 in
    (ap (λ x. x ∷ lead) heads.0 ∙ ap (λ xs. d ∷ xs) later.0, later.1)

-- the rest of a line
pub one_rest : (text bytes others left more : List ℕ) → text ≡ bytes ++ left → text ≡ others ++ more → IsRestOfLine bytes left → IsRestOfLine others more → (bytes ≡ others) × (left ≡ more)
one_rest text bytes others left more e f a b =
    let run : ℕ = prefix_len (has InLine) text in
    let within : run ≤ length text = prefix_len-le-length (has InLine) text in
    let long : length bytes ≡ length others = elim (cases_lt run (length text)) [
      | inl below ↦ rest_is_ended text run refl below bytes left e a ∙ sym (rest_is_ended text run refl below others more f b)
      | inr past ↦ rest_is_whole text run refl within past bytes left e a ∙ sym (rest_is_whole text run refl within past others more f b)
    ] in
    let same : bytes ≡ others = same_front bytes others left more (sym e ∙ f) long in
    (same, same_left bytes others left more (sym e ∙ f) same)
