-- The lines of a record come in one order, and every front of them can be ended.
use Rattle.std.proofs.Common.{◌≡◌, ◌≢◌, Bool, true, false, cond, ◌&&◌, List, [], ◌∷◌, ◌++◌, map, refl, sym, ap, ◌∙◌, subst, append_assoc, arith}
use Rattle.std.specs.Prelude.{Option, None, Some, not}
use Rattle.std.specs.List.{AllByRecursion}
use Rattle.std.proofs.lemmas.Bool.{and_parts, eqb-true, eq-eqb}
use Rattle.std.proofs.lemmas.List.{append-nil, map-append}
use Rattle.cnf_core.specs.declared.derivation.Derived.{Derived}
use Rattle.cnf_core.specs.declared.derivation.Var.{Var}
use Rattle.cnf_core.specs.declared.derivation.Var.TheVariants.{Input}
use Rattle.cnf_core.specs.declared.formula.Lit.{Lit}
use Rattle.proof_stream.specs.declared.draft.Draft.{Draft}
use Rattle.proof_stream.specs.declared.draft.Draft.TheVariants as draft
use Rattle.proof_stream.specs.declared.draft.Question.{Question}
use Rattle.proof_stream.specs.declared.line.Line.{Line}
use Rattle.proof_stream.specs.declared.line.Line.TheVariants as line
use Rattle.proof_stream.specs.declared.record.End.{End}
use Rattle.proof_stream.specs.declared.record.End.TheVariants.{Sat, Unsat, Spent}
use Rattle.proof_stream.specs.declared.record.Kind.{Kind}
use Rattle.proof_stream.specs.declared.record.Kind.TheVariants.{Reach, Steady, Break, Nibble}
use Rattle.proof_stream.specs.declared.record.Record.{Record}
use Rattle.proof_stream.specs.declared.record.Record.TheVariants.{Asked, Broken}
use Rattle.proof_stream.specs.Drafts.{is_about_input, is_given, is_nil, is_right_at, opened, ended_record, takes_at, takes_var, takes_clause, takes_more, is_end_of, next_of, next}
use Rattle.proof_stream.specs.Reading.{◌>>=◌}
use Rattle.proof_stream.specs.Spelling.{at_lines, lines_of}
use Rattle.proof_stream.specs.Valid.{IsLine, Fits, IsAtOf, IsEndOf, IsOrderly}
use Rattle.proof_stream.proofs.NumberLemmas.{some_is}

-- the draft with more lines
abbrev pub run : Draft → List Line → Option Draft
run d [] = Some d
run d (l ∷ ls) = next d l >>= λ e. run e ls

pub run-append : (d : Draft) (ls ms : List Line) → run d (ls ++ ms) ≡ (run d ls >>= λ e. run e ms)
run-append d [] ms = refl
run-append d (l ∷ ls) ms =
    elim (next d l) as (λ o. (o >>= λ e. run e (ls ++ ms)) ≡ ((o >>= λ e. run e ls) >>= λ e. run e ms)) [
      | None ↦ refl
      | Some e ↦ run-append e ls ms
    ]

abbrev asked : Kind → Option (List Bool) → List Var → List (List Lit) → List Derived → Question
asked kind at vars clauses derived = record { kind = kind; at = at; vars = vars; clauses = clauses; derived = derived }

-- ---- the lines of a record make it

run_vars : (kind : Kind) (at : Option (List Bool)) (vars more : List Var) (rest : List Line) → is_right_at kind at ≡ true
    → run (draft.Asked (asked kind at vars [] [])) (map line.Var more ++ rest) ≡ run (draft.Asked (asked kind at (vars ++ more) [] [])) rest
unfolding next
run_vars kind at vars [] rest right = ap (λ (vs : List Var). run (draft.Asked (asked kind at vs [] [])) rest) (sym (append-nil vars))
run_vars kind at vars (v ∷ more) rest right =
    rw right (run_vars kind at (vars ++ v ∷ []) more rest right
    ∙ ap (λ (vs : List Var). run (draft.Asked (asked kind at vs [] [])) rest) (append_assoc vars (v ∷ []) more))

run_clauses : (kind : Kind) (at : Option (List Bool)) (vars : List Var) (clauses more : List (List Lit)) (rest : List Line) → is_nil vars ≡ false
    → run (draft.Asked (asked kind at vars clauses [])) (map line.Clause more ++ rest) ≡ run (draft.Asked (asked kind at vars (clauses ++ more) [])) rest
unfolding next
run_clauses kind at vars clauses [] rest some = ap (λ (cs : List (List Lit)). run (draft.Asked (asked kind at vars cs [])) rest) (sym (append-nil clauses))
run_clauses kind at vars clauses (c ∷ more) rest some =
    rw some (run_clauses kind at vars (clauses ++ c ∷ []) more rest some
    ∙ ap (λ (cs : List (List Lit)). run (draft.Asked (asked kind at vars cs [])) rest) (append_assoc clauses (c ∷ []) more))

run_derived : (kind : Kind) (at : Option (List Bool)) (vars : List Var) (clauses : List (List Lit)) (derived more : List Derived) (rest : List Line) → is_nil vars ≡ false
    → run (draft.Asked (asked kind at vars clauses derived)) (map line.Derived more ++ rest) ≡ run (draft.Asked (asked kind at vars clauses (derived ++ more))) rest
unfolding next
run_derived kind at vars clauses derived [] rest some = ap (λ (ds : List Derived). run (draft.Asked (asked kind at vars clauses ds)) rest) (sym (append-nil derived))
run_derived kind at vars clauses derived (d ∷ more) rest some =
    rw some (run_derived kind at vars clauses (derived ++ d ∷ []) more rest some
    ∙ ap (λ (ds : List Derived). run (draft.Asked (asked kind at vars clauses ds)) rest) (append_assoc derived (d ∷ []) more))

run_end : (kind : Kind) (at : Option (List Bool)) (vars : List Var) (clauses : List (List Lit)) (derived : List Derived) (end : End) → is_nil vars ≡ false → is_end_of vars end ≡ true
    → run (draft.Asked (asked kind at vars clauses derived)) (line.End end ∷ []) ≡ Some (draft.Whole (Asked kind at vars clauses derived end))
unfolding next
run_end kind at vars clauses derived end some ends = rw (some, ends) refl

run_at : (kind : Kind) (at : Option (List Bool)) (rest : List Line) → IsAtOf kind at
    → run (draft.Asked (opened kind)) (at_lines at ++ rest) ≡ run (draft.Asked (asked kind at [] [] [])) rest
unfolding next
run_at (Reach s) None rest right = refl
run_at (Reach s) (Some bits) rest right = absurd cc
run_at (Steady s) None rest right = refl
run_at (Steady s) (Some bits) rest right = absurd cc
run_at (Break s) None rest right = refl
run_at (Break s) (Some bits) rest right = refl
run_at (Nibble t n) None rest right = refl
run_at (Nibble t n) (Some bits) rest right = refl

right_is : (kind : Kind) (at : Option (List Bool)) → IsAtOf kind at → is_right_at kind at ≡ true
right_is (Reach s) None right = refl
right_is (Reach s) (Some bits) right = absurd cc
right_is (Steady s) None right = refl
right_is (Steady s) (Some bits) right = absurd cc
right_is (Break s) None right = absurd (right refl)
right_is (Break s) (Some bits) right = refl
right_is (Nibble t n) None right = absurd (right refl)
right_is (Nibble t n) (Some bits) right = refl

right_again : (kind : Kind) (at : Option (List Bool)) → is_right_at kind at ≡ true → IsAtOf kind at
right_again (Reach s) None right = refl
right_again (Reach s) (Some bits) right = absurd cc
right_again (Steady s) None right = refl
right_again (Steady s) (Some bits) right = absurd cc
right_again (Break s) None right = absurd cc
right_again (Break s) (Some bits) right = λ e. absurd cc
right_again (Nibble t n) None right = absurd cc
right_again (Nibble t n) (Some bits) right = λ e. absurd cc

some_vars : (vars : List Var) → vars ≢ [] → is_nil vars ≡ false
some_vars [] some = absurd (some refl)
some_vars (v ∷ vars) some = refl

not_nil : (vars : List Var) → is_nil vars ≡ false → vars ≢ []
not_nil [] some = absurd cc
not_nil (v ∷ vars) some = λ e. absurd cc

end_is : (vars : List Var) (end : End) → IsEndOf vars end → is_end_of vars end ≡ true
end_is vars (Sat bits) same = eq-eqb _ _ same
end_is vars Unsat same = refl
end_is vars Spent same = refl

end_again : (vars : List Var) (end : End) → is_end_of vars end ≡ true → IsEndOf vars end
end_again vars (Sat bits) same = eqb-true _ _ same
end_again vars Unsat same = tt
end_again vars Spent same = tt

pub run_record : (r : Record) → IsOrderly r → run draft.Empty (lines_of r) ≡ Some (draft.Whole r)
unfolding next
run_record (Asked kind at vars clauses derived end) h =
    let some = some_vars vars h.1 in
    run_at kind at (map line.Var vars ++ (map line.Clause clauses ++ (map line.Derived derived ++ line.End end ∷ []))) h.0
    ∙ run_vars kind at [] vars (map line.Clause clauses ++ (map line.Derived derived ++ line.End end ∷ [])) (right_is kind at h.0)
    ∙ run_clauses kind at vars [] clauses (map line.Derived derived ++ line.End end ∷ []) some
    ∙ run_derived kind at vars clauses [] derived (line.End end ∷ []) some
    ∙ run_end kind at vars clauses derived end some (end_is vars end h.2)
run_record (Broken target at runs breaks) h = refl

-- ---- what a draft has

-- a draft that lines led to
pub record IsReached (q : Question) : Type 0 where
  pub right : is_nil q.vars ≡ false → is_right_at q.kind q.at ≡ true
  pub given : is_given q.at ≡ true → is_about_input q.kind ≡ true
  pub clauses : is_nil q.vars ≡ true → q.clauses ≡ []
  pub derived : is_nil q.vars ≡ true → q.derived ≡ []

abbrev pub IsGood : Draft → Type 0
IsGood draft.Empty = Unit {0}
IsGood (draft.Asked q) = IsReached q
IsGood (draft.Target target) = Unit {0}
IsGood (draft.TargetAt target at) = Unit {0}
IsGood (draft.TargetRuns target at runs) = Unit {0}
IsGood (draft.Whole r) = IsOrderly r

abbrev question_lines : Question → List Line
question_lines q = line.Head q.kind ∷ (at_lines q.at ++ (map line.Var q.vars ++ (map line.Clause q.clauses ++ map line.Derived q.derived)))

-- the lines so far
abbrev pub so_far : Draft → List Line
so_far draft.Empty = []
so_far (draft.Asked q) = question_lines q
so_far (draft.Target target) = line.Broken target ∷ []
so_far (draft.TargetAt target at) = line.Broken target ∷ line.At at ∷ []
so_far (draft.TargetRuns target at runs) = line.Broken target ∷ line.At at ∷ line.Runs runs ∷ []
so_far (draft.Whole r) = lines_of r

-- one line more
abbrev IsNext : Draft → Line → Draft → Type 0
IsNext d l e = IsGood e × (so_far e ≡ so_far d ++ l ∷ [])

none_given : (at : Option (List Bool)) → not (is_given at) ≡ true → at ≡ None
none_given None h = refl
none_given (Some bits) h = absurd cc

nil_is : {A : Type 0} (xs : List A) → is_nil xs ≡ true → xs ≡ []
nil_is [] h = refl
nil_is (x ∷ xs) h = absurd cc

pushed : (vars : List Var) (v : Var) → is_nil (vars ++ v ∷ []) ≡ false
pushed [] v = refl
pushed (x ∷ vars) v = refl

not_true : (b : Bool) → not b ≡ true → b ≡ false
not_true true h = absurd cc
not_true false h = refl

at_next : (q : Question) (bits : List Bool) → IsReached q → takes_at q ≡ true → IsNext (draft.Asked q) (line.At bits) (draft.Asked (record q { at = Some bits }))
at_next q bits good takes =
    let a = and_parts (is_about_input q.kind) (not (is_given q.at) && is_nil q.vars) takes in
    let b = and_parts (not (is_given q.at)) (is_nil q.vars) a.1 in
    let none = none_given q.at b.0 in
    let vars = nil_is q.vars b.1 in
    let clauses = good.clauses b.1 in
    let derived = good.derived b.1 in (
      record {
        right = λ some. let bad : true ≡ false = sym b.1 ∙ some in absurd cc;
        given = λ h. a.0;
        clauses = good.clauses;
        derived = good.derived;
      },
      rw (none, vars, clauses, derived) refl,
    )

var_lines : (front : List Line) (vars : List Var) (v : Var) → front ++ (map line.Var (vars ++ v ∷ []) ++ []) ≡ (front ++ (map line.Var vars ++ [])) ++ line.Var v ∷ []
var_lines front vars v = simp (map-append, append-nil, append_assoc)

clause_lines : (front vars : List Line) (clauses : List (List Lit)) (c : List Lit)
    → front ++ (vars ++ (map line.Clause (clauses ++ c ∷ []) ++ [])) ≡ (front ++ (vars ++ (map line.Clause clauses ++ []))) ++ line.Clause c ∷ []
clause_lines front vars clauses c = simp (map-append, append-nil, append_assoc)

var_next : (q : Question) (v : Var) → IsReached q → takes_var q ≡ true → IsNext (draft.Asked q) (line.Var v) (draft.Asked (record q { vars = q.vars ++ v ∷ [] }))
var_next q v good takes =
    let a = and_parts (is_right_at q.kind q.at) (is_nil q.clauses && is_nil q.derived) takes in
    let b = and_parts (is_nil q.clauses) (is_nil q.derived) a.1 in
    let clauses = nil_is q.clauses b.0 in
    let derived = nil_is q.derived b.1 in (
      record {
        right = λ some. a.0;
        given = good.given;
        clauses = λ h. clauses;
        derived = λ h. derived;
      },
      rw (clauses, derived) (ap (λ ls. line.Head q.kind ∷ ls) (var_lines (at_lines q.at) q.vars v)),
    )

clause_next : (q : Question) (c : List Lit) → IsReached q → takes_clause q ≡ true → IsNext (draft.Asked q) (line.Clause c) (draft.Asked (record q { clauses = q.clauses ++ c ∷ [] }))
clause_next q c good takes =
    let a = and_parts (not (is_nil q.vars)) (is_nil q.derived) takes in
    let some = not_true (is_nil q.vars) a.0 in
    let derived = nil_is q.derived a.1 in (
      record {
        right = good.right;
        given = good.given;
        clauses = λ h. let bad : true ≡ false = sym h ∙ some in absurd cc;
        derived = λ h. derived;
      },
      rw derived (ap (λ ls. line.Head q.kind ∷ ls) (clause_lines (at_lines q.at) (map line.Var q.vars) q.clauses c)),
    )

derived_next : (q : Question) (d : Derived) → IsReached q → takes_more q ≡ true → IsNext (draft.Asked q) (line.Derived d) (draft.Asked (record q { derived = q.derived ++ d ∷ [] }))
derived_next q d good takes =
    let some = not_true (is_nil q.vars) takes in (
      record {
        right = good.right;
        given = good.given;
        clauses = good.clauses;
        derived = λ h. let bad : true ≡ false = sym h ∙ some in absurd cc;
      },
      ap (λ ls. line.Head q.kind ∷ ls) (simp (map-append, append-nil, append_assoc)),
    )

end_next : (q : Question) (end : End) → IsReached q → (takes_more q && is_end_of q.vars end) ≡ true → IsNext (draft.Asked q) (line.End end) (draft.Whole (ended_record q end))
end_next q end good takes =
    let a = and_parts (takes_more q) (is_end_of q.vars end) takes in
    let some = not_true (is_nil q.vars) a.0 in (
      (right_again q.kind q.at (good.right some), not_nil q.vars some, end_again q.vars end a.1),
      ap (λ ls. line.Head q.kind ∷ ls) (simp append_assoc),
    )

guarded : {A : Type 0} (b : Bool) (x y : A) (P : A → Type 0) → cond b (Some x) None ≡ Some y → (b ≡ true → P x) → P y
guarded true x y P e h = subst P (some_is x y e) (h refl)
guarded false x y P e h = absurd cc

question_next : (q : Question) (l : Line) (e : Draft) → IsReached q → next_of q l ≡ Some e → IsNext (draft.Asked q) l e
question_next q (line.At bits) e good h = guarded (takes_at q) _ e (λ x. IsNext (draft.Asked q) (line.At bits) x) h (at_next q bits good)
question_next q (line.Var v) e good h = guarded (takes_var q) _ e (λ x. IsNext (draft.Asked q) (line.Var v) x) h (var_next q v good)
question_next q (line.Clause c) e good h = guarded (takes_clause q) _ e (λ x. IsNext (draft.Asked q) (line.Clause c) x) h (clause_next q c good)
question_next q (line.Derived d) e good h = guarded (takes_more q) _ e (λ x. IsNext (draft.Asked q) (line.Derived d) x) h (derived_next q d good)
question_next q (line.End end) e good h = guarded (takes_more q && is_end_of q.vars end) _ e (λ x. IsNext (draft.Asked q) (line.End end) x) h (end_next q end good)
question_next q other e good h = absurd cc

opened_is : (kind : Kind) → IsReached (opened kind)
opened_is kind = record { right = λ h. absurd cc; given = λ h. absurd cc; clauses = λ h. refl; derived = λ h. refl }

pub next_is : (d : Draft) (l : Line) (e : Draft) → IsGood d → next d l ≡ Some e → IsNext d l e
unfolding next
next_is draft.Empty (line.Head kind) e good h = subst (λ x. IsNext draft.Empty (line.Head kind) x) (some_is _ e h) (opened_is kind, refl)
next_is draft.Empty (line.Broken target) e good h = subst (λ x. IsNext draft.Empty (line.Broken target) x) (some_is (draft.Target target) e h) (tt, refl)
next_is (draft.Asked q) l e good h = question_next q l e good h
next_is (draft.Target target) (line.At bits) e good h = subst (λ x. IsNext (draft.Target target) (line.At bits) x) (some_is (draft.TargetAt target bits) e h) (tt, refl)
next_is (draft.TargetAt target bits) (line.Runs runs) e good h = subst (λ x. IsNext (draft.TargetAt target bits) (line.Runs runs) x) (some_is (draft.TargetRuns target bits runs) e h) (tt, refl)
next_is (draft.TargetRuns target bits runs) (line.Breaks breaks) e good h = subst (λ x. IsNext (draft.TargetRuns target bits runs) (line.Breaks breaks) x) (some_is (draft.Whole (Broken target bits runs breaks)) e h) (tt, refl)
next_is other l e good h = absurd cc

-- ---- a draft can be ended

pub record Ends (d : Draft) : Type 0 where
  pub more : List Line
  pub of_record : Record
  pub leads : run d more ≡ Some (draft.Whole of_record)
  pub lines : AllByRecursion IsLine more
  pub fits : AllByRecursion Fits more

ends_at : (kind : Kind) (at : Option (List Bool)) → is_right_at kind at ≡ true → Ends (draft.Asked (asked kind at [] [] []))
unfolding next
ends_at kind at right = record {
  more = line.Var (Input 0) ∷ line.End Unsat ∷ [];
  of_record = Asked kind at (Input 0 ∷ []) [] [] Unsat;
  leads = rw right refl;
  lines = (tt, (tt, tt));
  fits = (omega arith, (tt, tt));
}

ends_open : (kind : Kind) → is_about_input kind ≡ true → is_right_at kind (Some (true ∷ [])) ≡ true → Ends (draft.Asked (asked kind None [] [] []))
unfolding next
ends_open kind about right = record {
  more = line.At (true ∷ []) ∷ line.Var (Input 0) ∷ line.End Unsat ∷ [];
  of_record = Asked kind (Some (true ∷ [])) (Input 0 ∷ []) [] [] Unsat;
  leads = rw (about, right) refl;
  lines = ((λ e. absurd cc), (tt, (tt, tt)));
  fits = (tt, (omega arith, (tt, tt)));
}

ends_empty : (kind : Kind) (at : Option (List Bool)) → (is_given at ≡ true → is_about_input kind ≡ true) → Ends (draft.Asked (asked kind at [] [] []))
ends_empty (Reach s) None given = ends_at (Reach s) None refl
ends_empty (Reach s) (Some bits) given = let bad : false ≡ true = given refl in absurd cc
ends_empty (Steady s) None given = ends_at (Steady s) None refl
ends_empty (Steady s) (Some bits) given = let bad : false ≡ true = given refl in absurd cc
ends_empty (Break s) None given = ends_open (Break s) refl refl
ends_empty (Break s) (Some bits) given = ends_at (Break s) (Some bits) refl
ends_empty (Nibble t n) None given = ends_open (Nibble t n) refl refl
ends_empty (Nibble t n) (Some bits) given = ends_at (Nibble t n) (Some bits) refl

ends_question : (kind : Kind) (at : Option (List Bool)) (vars : List Var) (clauses : List (List Lit)) (derived : List Derived) → IsReached (asked kind at vars clauses derived) → Ends (draft.Asked (asked kind at vars clauses derived))
unfolding next
ends_question kind at [] clauses derived good =
    subst (λ (cs : List (List Lit)). Ends (draft.Asked (asked kind at [] cs derived))) (sym (good.clauses refl))
    (subst (λ (ds : List Derived). Ends (draft.Asked (asked kind at [] [] ds))) (sym (good.derived refl)) (ends_empty kind at good.given))
ends_question kind at (v ∷ vars) clauses derived good = record {
  more = line.End Unsat ∷ [];
  of_record = Asked kind at (v ∷ vars) clauses derived Unsat;
  leads = refl;
  lines = (tt, tt);
  fits = (tt, tt);
}

pub ends : (d : Draft) → IsGood d → Ends d
unfolding next
ends draft.Empty good = record {
  more = line.Head (Reach 0) ∷ line.Var (Input 0) ∷ line.End Unsat ∷ [];
  of_record = Asked (Reach 0) None (Input 0 ∷ []) [] [] Unsat;
  leads = refl;
  lines = (tt, (tt, (tt, tt)));
  fits = (omega arith, (omega arith, (tt, tt)));
}
ends (draft.Asked q) good = ends_question q.kind q.at q.vars q.clauses q.derived good
ends (draft.Target target) good = record {
  more = line.At (true ∷ []) ∷ line.Runs [] ∷ line.Breaks [] ∷ [];
  of_record = Broken target (true ∷ []) [] [];
  leads = refl;
  lines = ((λ e. absurd cc), (tt, (tt, tt)));
  fits = (tt, (tt, (tt, tt)));
}
ends (draft.TargetAt target at) good = record {
  more = line.Runs [] ∷ line.Breaks [] ∷ [];
  of_record = Broken target at [] [];
  leads = refl;
  lines = (tt, (tt, tt));
  fits = (tt, (tt, tt));
}
ends (draft.TargetRuns target at runs) good = record {
  more = line.Breaks [] ∷ [];
  of_record = Broken target at runs [];
  leads = refl;
  lines = (tt, tt);
  fits = (tt, tt);
}
ends (draft.Whole r) good = record { more = []; of_record = r; leads = refl; lines = tt; fits = tt }
