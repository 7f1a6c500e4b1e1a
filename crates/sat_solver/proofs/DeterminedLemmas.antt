-- Where all variables are inputs, a choice of the inputs sets each.
use Rattle.std.proofs.Common.{◌≡◌, ℕ, ◌-◌, ◌<◌, ◌≤◌, List, length, get_or, take, inl, inr, ap, sym, ◌∙◌, subst, arith}
use Rattle.std.specs.Prelude.{All, Contains}
use Rattle.std.proofs.lemmas.List.{take_all}
use Rattle.std.proofs.lemmas.List.Elements.{Contains-get_or}
use Rattle.cnf_core.specs.declared.formula.Lit.{Lit}
use Rattle.cnf_core.specs.Literal.{negation}
use Rattle.cnf_core.specs.Propagation.{Sets}
use Rattle.cnf_core.proofs.Literals.{same_var-cases, negation_negation}
use Rattle.unit_propagation.proofs.PropagationLaws.{sets_decided}
use Rattle.refutation_checker.specs.Derivation.{IsInput}
use Rattle.cnf_core.specs.Determined.{Chooses, SetsVariable, IsDetermined, AreNumbered}

sets_input : (inputs : ℕ) (clauses : List (List Lit)) (chosen : List Lit) (l : Lit) → Chooses inputs chosen → IsInput inputs l.var → SetsVariable clauses chosen l
sets_input inputs clauses chosen l chooses is = elim (same_var-cases l k var) [
  | inl same ↦ inl (subst (Sets clauses chosen) (sym same) (sets_decided clauses chosen k there))
  | inr other ↦ inr (subst (Sets clauses chosen) (sym (ap negation other ∙ negation_negation k)) (sets_decided clauses chosen k there))
] where
  k : Lit
  k = get_or chosen (l.var - 1) l

  below : l.var - 1 < inputs
  below = omega (arith, is.0, is.1)

  there : Contains chosen k
  there = Contains-get_or chosen (l.var - 1) l (omega (arith, below, chooses.one_each))

  var : l.var ≡ k.var
  var = omega (arith, chooses.in_order (l.var - 1) l below, is.0)

pub determined_inputs : (inputs : ℕ) (clauses : List (List Lit)) → All (All (λ l. IsInput inputs l.var)) clauses → IsDetermined inputs clauses
determined_inputs inputs clauses are chosen chooses = inr (λ i c inside k d within. sets_input inputs clauses chosen (get_or (get_or clauses i c) k d) chooses (are i c inside k d within))

pub numbered_inputs : (inputs : ℕ) (clauses : List (List Lit)) → All (All (λ l. IsInput inputs l.var)) clauses → AreNumbered clauses
numbered_inputs inputs clauses are i c inside k d within = (are i c inside k d within).0

-- the loop has gone over all clauses
pub all_inputs : (inputs n : ℕ) (items clauses : List (List Lit)) → length items ≤ n → items ≡ clauses → All (All (λ l. IsInput inputs l.var)) (take n items) → All (All (λ l. IsInput inputs l.var)) clauses
all_inputs inputs n items clauses past same all = subst (All (All (λ l. IsInput inputs l.var))) (take_all n items past ∙ same) all
