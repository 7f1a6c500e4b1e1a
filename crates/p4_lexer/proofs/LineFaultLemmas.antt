-- Bad pieces of a line by their extents are its bad pieces by their bytes.
use Rattle.std.proofs.Common.{◌≡◌, ℕ, zero, suc, ◌+◌, ◌-◌, ◌<◌, Bool, IsTrue, List, [], ◌∷◌, ◌++◌, Option, Some, length, take, drop, map, get_or, All, Contains, drop-drop, length-drop, length-append, append_assoc, ◌⊎◌, inl, inr, refl, sym, ap, ◌∙◌, subst, arith}
use Rattle.std.proofs.Math.Seq.{take-add, take-append_seam, drop-append_seam}
use Rattle.std.proofs.lemmas.List.{append-nil, map-append, length-take-le}
use Rattle.std.proofs.lemmas.List.Elements.{All-head, All-tail, Contains-append_right}
use Rattle.tg_base.specs.declared.place.Code.TheVariants.{Lex, Directive as DirectiveCode}
use Rattle.tg_base.specs.declared.place.Refusal.{Refusal}
use Rattle.tg_base.specs.declared.place.Span.{Span}
use Rattle.p4_lexer.specs.declared.extents.PieceAt.{PieceAt}
use Rattle.p4_lexer.specs.Bytes.{hash}
use Rattle.p4_lexer.specs.Places.{place_after}
use Rattle.p4_lexer.specs.Cuts.{CutsInto, bytes_of}
use Rattle.p4_lexer.specs.Directives.{Directive}
use Rattle.p4_lexer.specs.Scope.{Scope, is_taken, belongs}
use Rattle.p4_lexer.specs.Parts.{Line, BeginsWithHash, scope_behind}
use Rattle.p4_lexer.specs.Extents.{cut_at, bytes_at}
use Rattle.p4_lexer.specs.DirectiveExtents.{IsPieceAt}
use Rattle.p4_lexer.specs.BadPieces.{AreInRow, HasBadAt}
use Rattle.p4_lexer.specs.LineExtents.{IsLineAt}
use Rattle.p4_lexer.specs.Tokens.{IsBadPiece, refusal_at}
use Rattle.p4_lexer.specs.Scanning.{IsFirstOf}
use Rattle.p4_lexer.specs.PartFaults.{IsBadInLine, FaultHere, IsBadWhereTaken, IsStray}
use Rattle.p4_lexer.proofs.LinePartLemmas.{cut_bytes}
use Rattle.p4_lexer.proofs.FirstFaultLemmas.{first_same}

head_is : {X : Type 0} (x y : X) (xs ys : List X) → x ∷ xs ≡ y ∷ ys → x ≡ y
head_is x y xs ys same = cc

tail_is : {X : Type 0} (x y : X) (xs ys : List X) → x ∷ xs ≡ y ∷ ys → xs ≡ ys
tail_is x y xs ys same = cc

nil_is_not_cons : {X : Type 0} (y : X) (ys : List X) → [] ≡ y ∷ ys → ⊥
nil_is_not_cons y ys same = cc

contained_at : {X : Type 0} (xs : List X) (i : ℕ) (x : X) → i < length xs → get_or xs i x ≡ x → (earlier : List X) × (later : List X) × (xs ≡ earlier ++ x ∷ later)
contained_at [] i x below e = absurd (omega (arith, below))
contained_at (y ∷ xs) zero x below e = ([], xs, ap (λ z. z ∷ xs) e)
contained_at (y ∷ xs) (suc i) x below e =
    let (earlier, later, spelled) = contained_at xs i x (omega (arith, below)) e in
    (y ∷ earlier, later, ap (λ zs. y ∷ zs) spelled)

-- what stands before and behind an element
pub contained : {X : Type 0} (xs : List X) (x : X) → Contains xs x → (earlier : List X) × (later : List X) × (xs ≡ earlier ++ x ∷ later)
contained xs x (i, below, e) = contained_at xs i x below e

pub contains_middle : {X : Type 0} (earlier : List X) (x : X) (later : List X) → Contains (earlier ++ x ∷ later) x
contains_middle earlier x later = Contains-append_right earlier (x ∷ later) x (0, omega arith, refl)

-- a list of which another is made element by element, where this has an element in the middle
pub record Unmapped {A B : Type 0} (f : A → B) (xs : List A) (a : List B) (y : B) (b : List B) : Type 0 where
  pub front : List A
  pub middle : A
  pub back : List A
  pub spelled : xs ≡ front ++ middle ∷ back
  pub fronts : map f front ≡ a
  pub same : f middle ≡ y
  pub backs : map f back ≡ b

pub unmap : {A B : Type 0} (f : A → B) (xs : List A) (a : List B) (y : B) (b : List B) → map f xs ≡ a ++ y ∷ b → Unmapped f xs a y b
unmap f [] [] y b e = absurd (nil_is_not_cons y b e)
unmap f [] (z ∷ a) y b e = absurd (nil_is_not_cons z (a ++ y ∷ b) e)
unmap f (x ∷ xs) [] y b e = record {
  front = [];
  middle = x;
  back = xs;
  spelled = refl;
  fronts = refl;
  same = head_is (f x) y (map f xs) b e;
  backs = tail_is (f x) y (map f xs) b e;
}
unmap f (x ∷ xs) (z ∷ a) y b e =
    let u = unmap f xs a y b (tail_is (f x) z (map f xs) (a ++ y ∷ b) e) in
    record {
      front = x ∷ u.front;
      middle = u.middle;
      back = u.back;
      spelled = ap (λ zs. x ∷ zs) u.spelled;
      fronts = ap (λ k. k ∷ map f u.front) (head_is (f x) z (map f xs) (a ++ y ∷ b) e) ∙ ap (λ ks. z ∷ ks) u.fronts;
      same = u.same;
      backs = u.backs;
    }

behind : (text : List ℕ) (start : ℕ) (p : PieceAt) (rest : List ℕ) → IsPieceAt text p → drop start text ≡ bytes_at text p.extent ++ rest → drop (start + p.extent.len) text ≡ rest
behind text start p rest is same =
    let bytes = bytes_at text p.extent in
    let long : length bytes ≡ p.extent.len = length-take-le p.extent.len (drop p.extent.at text) (omega (arith, is.within, length-drop p.extent.at text)) in
    sym (drop-drop p.extent.len start text) ∙ ap (drop p.extent.len) same ∙ ap (λ n. drop n (bytes ++ rest)) (sym long) ∙ drop-append_seam bytes rest

-- the bytes before a piece of a line and behind it
reached : (text : List ℕ) (start : ℕ) (earlier : List PieceAt) (p : PieceAt) (later : List PieceAt) (left : List ℕ) → All (IsPieceAt text) (earlier ++ p ∷ later) → AreInRow start (earlier ++ p ∷ later)
    → CutsInto (drop start text) (map (cut_at text) (earlier ++ p ∷ later)) left
    → (take p.extent.at text ≡ take start text ++ bytes_of (map (cut_at text) earlier)) × (drop (p.extent.at + p.extent.len) text ≡ bytes_of (map (cut_at text) later) ++ left)
reached text start [] p later left fit row (rest, same, b, more) = (
  ap (λ n. take n text) row.0 ∙ sym (append-nil (take start text)),
  ap (λ n. drop (n + p.extent.len) text) row.0 ∙ behind text start p rest (All-head (IsPieceAt text) p later fit) same ∙ cut_bytes rest (map (cut_at text) later) left more,
)
reached text start (q ∷ earlier) p later left fit row (rest, same, b, more) =
    let next = behind text start q rest (All-head (IsPieceAt text) q (earlier ++ p ∷ later) fit) same in
    let inside = bytes_of (map (cut_at text) earlier) in
    let r = reached text (start + q.extent.len) earlier p later left (All-tail (IsPieceAt text) q (earlier ++ p ∷ later) fit) row.1
    (subst (λ xs. CutsInto xs (map (cut_at text) (earlier ++ p ∷ later)) left) (sym next) more) in (
      r.0 ∙ ap (λ xs. xs ++ inside) (take-add start q.extent.len text) ∙ append_assoc (take start text) (take q.extent.len (drop start text)) inside
          ∙ ap (λ n. take start text ++ (take q.extent.len (drop n text) ++ inside)) (sym row.0),
      r.1,
    )

behind_the_hash : (before lead inside : List ℕ) → (before ++ lead ++ hash ∷ []) ++ inside ≡ before ++ lead ++ hash ∷ inside
behind_the_hash before lead inside = append_assoc (before ++ lead) (hash ∷ []) inside

module _ (text : List ℕ) (start : ℕ) (pieces : List PieceAt) (left before lead : List ℕ) (fit : All (IsPieceAt text) pieces) (row : AreInRow start pieces)
    (cut : CutsInto (drop start text) (map (cut_at text) pieces) left) (base : take start text ≡ before ++ lead ++ hash ∷ [])
  where
    around : (earlier : List PieceAt) (p : PieceAt) (later : List PieceAt) → pieces ≡ earlier ++ p ∷ later
        → (take p.extent.at text ≡ before ++ lead ++ hash ∷ bytes_of (map (cut_at text) earlier)) × (drop (p.extent.at + p.extent.len) text ≡ bytes_of (map (cut_at text) later) ++ left)
    around earlier p later spelled =
        let r = reached text start earlier p later left (subst (All (IsPieceAt text)) spelled fit) (subst (AreInRow start) spelled row)
        (subst (λ ps. CutsInto (drop start text) (map (cut_at text) ps) left) spelled cut) in
        let inside = bytes_of (map (cut_at text) earlier) in
        (r.0 ∙ ap (λ xs. xs ++ inside) base ∙ behind_the_hash before lead inside, r.1)

    pub bad_in_line : (f : Refusal) → HasBadAt text pieces f → IsBadInLine before lead (map (cut_at text) pieces) left f
    bad_in_line f h =
        let (earlier, later, spelled) = contained pieces h.piece h.there in
        let r = around earlier h.piece later spelled in
        record {
          inside = bytes_of (map (cut_at text) earlier);
          bad = record {
            earlier = map (cut_at text) earlier;
            bad = cut_at text h.piece;
            later = map (cut_at text) later;
            spelled = ap (map (cut_at text)) spelled ∙ map-append (cut_at text) earlier (h.piece ∷ later);
            place = refl;
            is_bad = subst (IsBadPiece (cut_at text h.piece)) r.1 h.bad;
          };
          refusal = h.refusal ∙ ap (λ xs. refusal_at Lex (place_after xs)) r.0;
        }

    pub bad_by_extents : (f : Refusal) → IsBadInLine before lead (map (cut_at text) pieces) left f → HasBadAt text pieces f
    bad_by_extents f h =
        let u = unmap (cut_at text) pieces h.bad.earlier h.bad.bad h.bad.later h.bad.spelled in
        let r = around u.front u.middle u.back u.spelled in
        record {
          piece = u.middle;
          there = subst (λ ps. Contains ps u.middle) (sym u.spelled) (contains_middle u.front u.middle u.back);
          bad = subst (IsBadPiece (cut_at text u.middle)) (sym r.1)
              (subst (λ c. IsBadPiece c (bytes_of (map (cut_at text) u.back) ++ left)) (sym u.same)
              (subst (λ cs. IsBadPiece h.bad.bad (bytes_of cs ++ left)) (sym u.backs) h.bad.is_bad));
          refusal = h.refusal ∙ ap (λ xs. refusal_at Lex (place_after (before ++ lead ++ hash ∷ xs))) (h.bad.place ∙ ap bytes_of (sym u.fronts))
              ∙ ap (λ xs. refusal_at Lex (place_after xs)) (sym r.0);
        }

-- the bytes up to behind the `#`
up_to_hash : (text : List ℕ) (at lead : ℕ) (begins : BeginsWithHash (drop at text)) → length begins.lead ≡ lead → take (at + lead + 1) text ≡ take at text ++ begins.lead ++ hash ∷ []
up_to_hash text at lead begins long =
    let front = begins.lead ++ hash ∷ [] in
    let n : at + lead + 1 ≡ at + length front = omega (arith, long, length-append begins.lead (hash ∷ [])) in
    ap (λ k. take k text) n ∙ take-add at (length front) text
    ∙ ap (λ xs. take at text ++ take (length front) xs) (begins.spelled ∙ sym (append_assoc begins.lead (hash ∷ []) begins.rest))
    ∙ ap (λ xs. take at text ++ xs) (take-append_seam front begins.rest) ∙ sym (append_assoc (take at text) begins.lead (hash ∷ []))

-- the faults of the line of a directive, as the code finds them
pub line_faults : (text : List ℕ) (at lead end : ℕ) (pieces : List PieceAt) (scope : Scope) (d : Directive) (taken answer : Bool) (place : Span) (fault : Option Refusal)
    → (begins : BeginsWithHash (drop at text)) → length begins.lead ≡ lead → IsLineAt text (at + lead + 1) pieces end
    → taken ≡ is_taken (scope_behind (take at text) scope (Line begins.lead (map (cut_at text) pieces) (Some d)))
    → answer ≡ belongs scope d → place ≡ place_after (take at text ++ begins.lead)
    → IsFirstOf (λ f. IsBadWhereTaken text pieces taken f ⊎ IsStray answer place f) fault
    → IsFirstOf (FaultHere (take at text) scope (Line begins.lead (map (cut_at text) pieces) (Some d)) (drop (at + (end - at)) text)) fault
line_faults text at lead end pieces scope d taken answer place fault begins long line takes answers there first =
    let to : end ≡ at + (end - at) = omega (arith, line.from) in
    let part = Line begins.lead (map (cut_at text) pieces) (Some d) in
    let base = up_to_hash text at lead begins long in
    subst (λ n. IsFirstOf (FaultHere (take at text) scope part (drop n text)) fault) to
    (first_same (λ f. IsBadWhereTaken text pieces taken f ⊎ IsStray answer place f) (FaultHere (take at text) scope part (drop end text)) fault
    (λ f found. elim found [
      | inl bad ↦ inl (subst IsTrue takes bad.0, bad_in_line text (at + lead + 1) pieces (drop end text) (take at text) begins.lead line.fit line.row line.cut base f bad.1)
      | inr stray ↦ inr (sym answers ∙ stray.0, subst (λ q. f ≡ refusal_at DirectiveCode q) there stray.1)
    ])
    (λ f found. elim found [
      | inl bad ↦ inl (subst IsTrue (sym takes) bad.0, bad_by_extents text (at + lead + 1) pieces (drop end text) (take at text) begins.lead line.fit line.row line.cut base f bad.1)
      | inr stray ↦ inr (answers ∙ stray.0, subst (λ q. f ≡ refusal_at DirectiveCode q) (sym there) stray.1)
    ]) first)
