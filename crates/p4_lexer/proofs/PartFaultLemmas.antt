-- What is wrong in a text is what is found in its parts, at its bytes and behind its parts.
use Rattle.std.proofs.Common.{◌≡◌, ℕ, List, [], ◌∷◌, ◌++◌, Some, None, ◌⊎◌, inl, inr, append_assoc, refl, sym, ap, ◌∙◌, subst}
use Rattle.std.proofs.lemmas.List.{append-nil}
use Rattle.tg_base.specs.declared.place.Refusal.{Refusal}
use Rattle.p4_lexer.specs.Scope.{Scope, outermost}
use Rattle.p4_lexer.specs.Parts.{Part, Piece, Line, Skipped, part_bytes, scope_behind}
use Rattle.p4_lexer.specs.Tokens.{scope_of, text_of, scope_before, IsPartOf, IsPartFault}
use Rattle.p4_lexer.specs.PartFaults.{FaultHere, FaultsOf, IsNoText, IsNotEnded}

-- a fault of one of the parts, with the parts before it and behind it
record SomeFault (before : List ℕ) (scope : Scope) (parts : List Part) (left : List ℕ) (f : Refusal) : Type 0 where
  earlier : List Part
  part : Part
  later : List Part
  spelled : parts ≡ earlier ++ part ∷ later
  fault : FaultHere (before ++ text_of earlier) (scope_of before scope earlier) part (text_of later ++ left) f

found_part : (before : List ℕ) (scope : Scope) (parts : List Part) (left : List ℕ) (f : Refusal) → FaultsOf before scope parts left f → SomeFault before scope parts left f
found_part before scope [] left f none = absurd none
found_part before scope (p ∷ parts) left f (inl here) = record {
  earlier = [];
  part = p;
  later = parts;
  spelled = refl;
  fault = subst (λ xs. FaultHere xs scope p (text_of parts ++ left) f) (sym (append-nil before)) here;
}
found_part before scope (p ∷ parts) left f (inr there) =
    let s = found_part (before ++ part_bytes p) (scope_behind before scope p) parts left f there in
    record {
      earlier = p ∷ s.earlier;
      part = s.part;
      later = s.later;
      spelled = ap (λ ps. p ∷ ps) s.spelled;
      fault = subst (λ xs. FaultHere xs (scope_of (before ++ part_bytes p) (scope_behind before scope p) s.earlier) s.part (text_of s.later ++ left) f)
          (append_assoc before (part_bytes p) (text_of s.earlier)) s.fault;
    }

at_part : (before : List ℕ) (scope : Scope) (earlier : List Part) (p : Part) (later : List Part) (left : List ℕ) (f : Refusal)
    → FaultHere (before ++ text_of earlier) (scope_of before scope earlier) p (text_of later ++ left) f → FaultsOf before scope (earlier ++ p ∷ later) left f
at_part before scope [] p later left f h = inl (subst (λ xs. FaultHere xs scope p (text_of later ++ left) f) (append-nil before) h)
at_part before scope (q ∷ earlier) p later left f h =
    inr (at_part (before ++ part_bytes q) (scope_behind before scope q) earlier p later left f
    (subst (λ xs. FaultHere xs (scope_of (before ++ part_bytes q) (scope_behind before scope q) earlier) p (text_of later ++ left) f)
    (sym (append_assoc before (part_bytes q) (text_of earlier))) h))

-- the bytes of parts and of one more
pub text_more : (parts : List Part) (p : Part) (left : List ℕ) → text_of (parts ++ p ∷ []) ++ left ≡ text_of parts ++ (part_bytes p ++ left)
text_more [] p left = ap (λ xs. xs ++ left) (append-nil (part_bytes p))
text_more (q ∷ parts) p left =
    append_assoc (part_bytes q) (text_of (parts ++ p ∷ [])) left ∙ ap (λ xs. part_bytes q ++ xs) (text_more parts p left)
    ∙ sym (append_assoc (part_bytes q) (text_of parts) (part_bytes p ++ left))

-- the faults of parts and of one more
pub one_part_more : (before : List ℕ) (scope : Scope) (parts : List Part) (p : Part) (left : List ℕ) (f : Refusal) → FaultsOf before scope (parts ++ p ∷ []) left f
    → FaultsOf before scope parts (part_bytes p ++ left) f ⊎ FaultHere (before ++ text_of parts) (scope_of before scope parts) p left f
one_part_more before scope [] p left f (inl here) = inr (subst (λ xs. FaultHere xs scope p left f) (sym (append-nil before)) here)
one_part_more before scope [] p left f (inr none) = absurd none
one_part_more before scope (q ∷ parts) p left f (inl here) = inl (inl (subst (λ xs. FaultHere before scope q xs f) (text_more parts p left) here))
one_part_more before scope (q ∷ parts) p left f (inr there) =
    elim (one_part_more (before ++ part_bytes q) (scope_behind before scope q) parts p left f there) [
      | inl earlier ↦ inl (inr earlier)
      | inr last ↦ inr (subst (λ xs. FaultHere xs (scope_of (before ++ part_bytes q) (scope_behind before scope q) parts) p left f) (append_assoc before (part_bytes q) (text_of parts)) last)
    ]

in_parts_before : (before : List ℕ) (scope : Scope) (parts : List Part) (p : Part) (left : List ℕ) (f : Refusal)
    → FaultsOf before scope parts (part_bytes p ++ left) f → FaultsOf before scope (parts ++ p ∷ []) left f
in_parts_before before scope [] p left f none = absurd none
in_parts_before before scope (q ∷ parts) p left f (inl here) = inl (subst (λ xs. FaultHere before scope q xs f) (sym (text_more parts p left)) here)
in_parts_before before scope (q ∷ parts) p left f (inr there) = inr (in_parts_before (before ++ part_bytes q) (scope_behind before scope q) parts p left f there)

pub or_one_part_more : (before : List ℕ) (scope : Scope) (parts : List Part) (p : Part) (left : List ℕ) (f : Refusal)
    → FaultsOf before scope parts (part_bytes p ++ left) f ⊎ FaultHere (before ++ text_of parts) (scope_of before scope parts) p left f
    → FaultsOf before scope (parts ++ p ∷ []) left f
or_one_part_more before scope parts p left f (inl earlier) = in_parts_before before scope parts p left f earlier
or_one_part_more before scope parts p left f (inr last) = at_part before scope parts p [] left f last

-- the three sources of faults
abbrev pub ByParts : List ℕ → List Part → Refusal → Type 0
ByParts text parts f = IsNoText text f ⊎ (FaultsOf [] outermost parts [] f ⊎ IsNotEnded (scope_before parts).conditions f)

placed : (text : List ℕ) (parts earlier : List Part) (p : Part) (later : List Part) (f : Refusal) → IsPartOf parts earlier p later
    → FaultHere (text_of earlier) (scope_before earlier) p (text_of later) f → ByParts text parts f
placed text parts earlier p later f is h =
    inr (inl (subst (λ ps. FaultsOf [] outermost ps [] f) (sym is.spelled)
    (at_part [] outermost earlier p later [] f (subst (λ xs. FaultHere (text_of earlier) (scope_before earlier) p xs f) (sym (append-nil (text_of later))) h))))

pub by_parts : (text : List ℕ) (parts : List Part) (f : Refusal) → IsPartFault text parts f → ByParts text parts f
by_parts text parts f (IsPartFault.not_text n valid) = inl (record { at = n; first = valid; refusal = refl })
by_parts text parts f (IsPartFault.lex earlier c later is bad) = placed text parts earlier (Piece c) later f is (bad, refl)
by_parts text parts f (IsPartFault.lex_in_line earlier lead pieces d later inside is taken bad) =
    placed text parts earlier (Line lead pieces (Some d)) later f is (inl (taken, record { inside = inside; bad = bad; refusal = refl }))
by_parts text parts f (IsPartFault.no_directive earlier lead pieces later is) = placed text parts earlier (Line lead pieces None) later f is refl
by_parts text parts f (IsPartFault.stray_directive earlier lead pieces d later is not_so) = placed text parts earlier (Line lead pieces (Some d)) later f is (inr (not_so, refl))
by_parts text parts f (IsPartFault.not_ended inner outer c spelled) = inr (inr (record { inner = inner; condition = c; outer = outer; spelled = spelled; refusal = refl }))

of_part : (text : List ℕ) (parts earlier : List Part) (p : Part) (later : List Part) (f : Refusal) → IsPartOf parts earlier p later
    → FaultHere (text_of earlier) (scope_before earlier) p (text_of later) f → IsPartFault text parts f
of_part text parts earlier (Piece c) later f is (bad, e) = subst (IsPartFault text parts) (sym e) (IsPartFault.lex earlier c later is bad)
of_part text parts earlier (Line lead pieces None) later f is e = subst (IsPartFault text parts) (sym e) (IsPartFault.no_directive earlier lead pieces later is)
of_part text parts earlier (Line lead pieces (Some d)) later f is (inl (taken, bad)) =
    subst (IsPartFault text parts) (sym bad.refusal) (IsPartFault.lex_in_line earlier lead pieces d later bad.inside is taken bad.bad)
of_part text parts earlier (Line lead pieces (Some d)) later f is (inr (not_so, e)) =
    subst (IsPartFault text parts) (sym e) (IsPartFault.stray_directive earlier lead pieces d later is not_so)
of_part text parts earlier (Skipped bytes) later f is none = absurd none

pub of_parts : (text : List ℕ) (parts : List Part) (f : Refusal) → ByParts text parts f → IsPartFault text parts f
of_parts text parts f (inl bytes) = subst (IsPartFault text parts) (sym bytes.refusal) (IsPartFault.not_text bytes.at bytes.first)
of_parts text parts f (inr (inl found)) =
    let s = found_part [] outermost parts [] f found in
    of_part text parts s.earlier s.part s.later f (record { spelled = s.spelled })
    (subst (λ xs. FaultHere (text_of s.earlier) (scope_before s.earlier) s.part xs f) (append-nil (text_of s.later)) s.fault)
of_parts text parts f (inr (inr open_one)) =
    subst (IsPartFault text parts) (sym open_one.refusal) (IsPartFault.not_ended open_one.inner open_one.outer open_one.condition open_one.spelled)
