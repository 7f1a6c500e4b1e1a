-- A question's record has a text.
use Rattle.std.proofs.Common.{◌≢◌, ℕ, ◌<◌, inl, inr, List, [], Some, length, get_or, sym, subst, arith}
use Rattle.std.specs.List.{All}
use Rattle.std.proofs.lemmas.Option.{slice_get-get_or}
use Rattle.std.proofs.lemmas.List.Elements.{All-push}
use Rattle.cnf_core.specs.Determined.{AreNumbered}
use Rattle.cnf_core.specs.Literal.{IsApart}
use Rattle.cnf_core.specs.declared.derivation.Derived.{Derived}
use Rattle.cnf_core.specs.declared.derivation.Derived.TheVariants.{Cube, Step}
use Rattle.cnf_core.specs.declared.derivation.Var.{Var}
use Rattle.cnf_core.specs.declared.formula.Lit.{Lit}
use Rattle.proof_stream.specs.Valid.{HasText, IsAtOf, IsEndOf}
use Rattle.proof_stream.specs.declared.record.End.{End}
use Rattle.proof_stream.specs.declared.record.End.TheVariants as end
use Rattle.proof_stream.specs.declared.record.Record.TheVariants.{Asked}
use Rattle.proof_stream.proofs.AskedLemmas.{IsNumberedLine, asked_has_text}
use Rattle.refutation_checker.specs.Acceptance.{IsAccepted, MayFollow}
use Rattle.refutation_checker.specs.Derivation.{IsInput, IsVariable, before}
use Rattle.bit_blaster.specs.Vars.{HasBit}
use Rattle.sat_solver.specs.Answers.{EndsInEmptyStep, IsCube}
use Rattle.query_engine.specs.Logged.{HasNumbers, SaysAnswer, derivation}
use Rattle.query_engine.specs.declared.question.Decided.{Decided}
use Rattle.query_engine.specs.declared.question.Decided.TheVariants.{Yes, No, Spent}
use Rattle.query_engine.specs.declared.question.Question.{Question}
use Rattle.query_engine.proofs.ListLemmas.{zip_long}

weaken : {X : Type 0} (P Q : X → Type 0) (xs : List X) → ((x : X) → P x → Q x) → All P xs → All Q xs
weaken P Q xs along all k d l = along (get_or xs k d) (all k d l)

module _ (vars : List Var) (clauses : List (List Lit)) (derived : List Derived) (numbered : AreNumbered clauses)
    (accepted : IsAccepted (derivation vars clauses derived)) (hints : All HasNumbers derived) where
  numbered_var : (var : ℕ) → IsVariable (length vars) clauses var → 0 < var
  numbered_var var (inl input) = input.0
  numbered_var var (inr h) =
      let all : All (λ (m : Lit). 0 < m.var) h.1 = subst (All (λ (m : Lit). 0 < m.var)) h.3 (numbered h.0 h.1 h.2) in
      let some : 0 < h.4.1.var = subst (λ (m : Lit). 0 < m.var) h.4.3 (all h.4.0 h.4.1 h.4.2) in
      omega (arith, some, h.4.4)

  numbered_line : (k : ℕ) (d : Derived) → MayFollow (before (derivation vars clauses derived) k) d → HasNumbers d → IsNumberedLine d
  numbered_line k (Cube cube) may numbers =
      weaken (λ (l : Lit). IsInput (length vars) l.var) (λ (l : Lit). 0 < l.var) cube (λ l is. is.0) may.decides_inputs
  numbered_line k (Step step) may numbers = (
    weaken (λ (l : Lit). IsVariable (length vars) clauses l.var) (λ (l : Lit). 0 < l.var) step.clause (λ l is. numbered_var l.var is) may.variables,
    numbers,
  )

  numbered_lines : All IsNumberedLine derived
  numbered_lines k d l =
      numbered_line k (get_or derived k d) (accepted k (get_or derived k d) (slice_get-get_or derived k d l)) (hints k d l)

end_of : (vars : List Var) (clauses : List (List Lit)) (derived : List Derived) (allowance : ℕ) (decided : Decided) (last : End) →
    SaysAnswer vars clauses derived allowance decided last → IsEndOf vars last
end_of vars clauses derived allowance (Yes p) (end.Sat bits) says = zip_long (HasBit p) vars bits says.0.each
end_of vars clauses derived allowance (Yes p) end.Unsat says = tt
end_of vars clauses derived allowance (Yes p) end.Spent says = tt
end_of vars clauses derived allowance No (end.Sat bits) says = absurd says
end_of vars clauses derived allowance No end.Unsat says = tt
end_of vars clauses derived allowance No end.Spent says = tt
end_of vars clauses derived allowance Spent (end.Sat bits) says = absurd says
end_of vars clauses derived allowance Spent end.Unsat says = tt
end_of vars clauses derived allowance Spent end.Spent says = tt

pub has_text : (q : Question) (vars : List Var) (clauses : List (List Lit)) (derived : List Derived) (allowance : ℕ) (decided : Decided) (last : End) →
    IsAtOf q.kind q.at → vars ≢ [] → q.at ≢ Some [] → AreNumbered clauses → All IsApart clauses → IsAccepted (derivation vars clauses derived) →
    All HasNumbers derived → SaysAnswer vars clauses derived allowance decided last → HasText (Asked q.kind q.at vars clauses derived last)
has_text q vars clauses derived allowance decided last is_at some bits numbered apart accepted hints says =
    asked_has_text q.kind q.at vars clauses derived last is_at some (end_of vars clauses derived allowance decided last says) bits numbered apart
    (numbered_lines vars clauses derived numbered accepted hints)

-- ---- the lines of the solver

pub cubes_numbers : (lines : List Derived) → All IsCube lines → All HasNumbers lines
cubes_numbers lines all = weaken IsCube HasNumbers lines by all where
  by : (d : Derived) → IsCube d → HasNumbers d
  by (Cube cube) is = tt
  by (Step step) is = absurd is

pub ends_numbers : (lines : List Derived) → EndsInEmptyStep lines → All HasNumbers lines
ends_numbers lines h = subst (All HasNumbers) (sym h.parts) (All-push HasNumbers h.cubes (Step h.step) (cubes_numbers h.cubes h.are_cubes) h.hints)
