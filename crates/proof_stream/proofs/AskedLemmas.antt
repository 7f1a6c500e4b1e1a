-- A record of a question has a text where its literals and hints are numbered and its lists are not empty.
use Rattle.std.proofs.Common.{◌≡◌, ◌≢◌, ℕ, zero, suc, ◌+◌, ◌<◌, Bool, List, [], ◌∷◌, ◌++◌, Option, None, Some, length, map, slice_get, get_or, refl, sym, ap, subst, ◌∙◌, arith}
use Rattle.std.specs.List.{All, AllByRecursion}
use Rattle.std.proofs.lemmas.List.Elements.{All-head, All-tail}
use Rattle.cnf_core.specs.Literal.{IsApart}
use Rattle.cnf_core.specs.declared.derivation.Derived.{Derived}
use Rattle.cnf_core.specs.declared.derivation.Derived.TheVariants.{Cube, Step}
use Rattle.cnf_core.specs.declared.derivation.Var.{Var}
use Rattle.cnf_core.specs.declared.formula.Lit.{Lit}
use Rattle.proof_stream.specs.Spelling.{at_lines}
use Rattle.proof_stream.specs.Valid.{HasText, IsAtOf, IsEndOf, IsLine}
use Rattle.proof_stream.specs.declared.line.Line.TheVariants as line
use Rattle.proof_stream.specs.declared.record.End.{End}
use Rattle.proof_stream.specs.declared.record.End.TheVariants as end
use Rattle.proof_stream.specs.declared.record.Kind.{Kind}
use Rattle.proof_stream.specs.declared.record.Record.TheVariants.{Asked}

module _ {X Y : Type 0} (P : Y → Type 0) (Q : X → Type 0) (f : X → Y) (along : (x : X) → Q x → P (f x)) where
  each_mapped : (xs : List X) → All Q xs → AllByRecursion P (map f xs)
  each_mapped [] all = tt
  each_mapped (x ∷ xs) all = (along x (All-head Q x xs all), each_mapped xs (All-tail Q x xs all))

by_recursion : {X : Type 0} (P : X → Type 0) (xs : List X) → All P xs → AllByRecursion P xs
by_recursion P [] all = tt
by_recursion P (x ∷ xs) all = (All-head P x xs all, by_recursion P xs (All-tail P x xs all))

both : {X : Type 0} (P : X → Type 0) (xs ys : List X) → AllByRecursion P xs → AllByRecursion P ys → AllByRecursion P (xs ++ ys)
both P [] ys h k = k
both P (x ∷ xs) ys h k = (h.0, both P xs ys h.1 k)

-- literals have variables, which are numbered from 1
abbrev pub HasVars : List Lit → Type 0
HasVars lits = All (λ (l : Lit). 0 < l.var) lits

-- and so have hints clauses
abbrev pub IsNumberedLine : Derived → Type 0
IsNumberedLine (Cube cube) = HasVars cube
IsNumberedLine (Step step) = HasVars step.clause × All (λ (hint : ℕ). 0 < hint) step.hints

derived_line : (d : Derived) → IsNumberedLine d → IsLine (line.Derived d)
derived_line (Cube cube) h = by_recursion (λ (l : Lit). 0 < l.var) cube h
derived_line (Step step) h = (by_recursion (λ (l : Lit). 0 < l.var) step.clause h.0, by_recursion (λ (n : ℕ). 0 < n) step.hints h.1)

clause_line : (c : List Lit) → HasVars c × IsApart c → IsLine (line.Clause c)
clause_line c h = (by_recursion (λ (l : Lit). 0 < l.var) c h.0, h.1)

at_line : (at : Option (List Bool)) → (at ≡ Some [] → ⊥) → AllByRecursion IsLine (at_lines at)
at_line None some = tt
at_line (Some bits) some = (λ e. some (ap Some e), tt)

end_line : (vars : List Var) (last : End) → vars ≢ [] → IsEndOf vars last → IsLine (line.End last)
end_line vars (end.Sat bits) some long = λ e. some (by vars (sym long ∙ ap length e)) where
  by : (vs : List Var) → length vs ≡ 0 → vs ≡ []
  by [] e = refl
  by (v ∷ vs) e = absurd (omega arith)
end_line vars end.Unsat some long = tt
end_line vars end.Spent some long = tt

pub asked_has_text : (kind : Kind) (at : Option (List Bool)) (vars : List Var) (clauses : List (List Lit)) (derived : List Derived) (last : End) →
    IsAtOf kind at → vars ≢ [] → IsEndOf vars last → at ≢ Some [] → All HasVars clauses → All IsApart clauses → All IsNumberedLine derived →
    HasText (Asked kind at vars clauses derived last)
asked_has_text kind at vars clauses derived last is_at some ends bits numbered apart lines = record {
  orderly = (is_at, some, ends);
  lines = (
    tt,
    both IsLine (at_lines at) _ (at_line at bits)
        (both IsLine (map line.Var vars) _ (each_mapped IsLine (λ (v : Var). Unit {0}) line.Var (λ v h. tt) vars (λ k d l. tt))
        (both IsLine (map line.Clause clauses) _
        (each_mapped IsLine (λ (c : List Lit). HasVars c × IsApart c) line.Clause clause_line clauses (λ k d l. (numbered k d l, apart k d l)))
        (both IsLine (map line.Derived derived) (line.End last ∷ []) (each_mapped IsLine IsNumberedLine line.Derived derived_line derived lines)
        (end_line vars last some ends, tt)))),
  );
}
