-- Clauses of a circuit are determined by its inputs, numbered from 1, and have no variable twice.
use Rattle.std.proofs.Common.{◌≡◌, ℕ, ◌-◌, ◌≤◌, inl, inr, List, get_or, sym, ap, ◌∙◌, subst, arith}
use Rattle.std.specs.Prelude.{All}
use Rattle.std.proofs.lemmas.List.Elements.{Contains-get_or}
use Rattle.cnf_core.specs.declared.formula.Lit.{Lit}
use Rattle.cnf_core.specs.Determined.{Chooses, SetsVariable, IsDetermined, AreNumbered}
use Rattle.cnf_core.specs.Literal.{IsApart, negation}
use Rattle.cnf_core.specs.Propagation.{Sets}
use Rattle.cnf_core.proofs.Literals.{same_var-cases, negation_negation}
use Rattle.bit_blaster.specs.Clauses.{DecidesFirst, IsClauseOf, IsSettled}
use Rattle.bit_blaster.specs.Netlist.{Netlist, variable_count}
use Rattle.bit_blaster.specs.Tseitin.{variable}

decides_first : (inputs : ℕ) (chosen : List Lit) → Chooses inputs chosen → DecidesFirst inputs chosen
decides_first inputs chosen chooses var from upto =
    let there = Contains-get_or chosen (var - 1) (variable 0) (omega (arith, from, upto, chooses.one_each)) in (
      there.0,
      get_or chosen (var - 1) (variable 0),
      there.1,
      there.2,
      omega (arith, from, chooses.in_order (var - 1) (variable 0) (omega (arith, from, upto))),
    )

module _ (net : Netlist) (clauses : List (List Lit)) (are : All (IsClauseOf (variable_count net)) clauses) where
  pub clauses_determined : (inputs : ℕ) → net.inputs ≡ inputs → IsSettled net clauses → IsDetermined inputs clauses
  clauses_determined inputs count settled chosen chooses =
      inr (λ i c inside k d within. by (get_or (get_or clauses i c) k d) ((are i c inside).within k d within)) where
        decided : DecidesFirst net.inputs chosen
        decided = decides_first net.inputs chosen (subst (λ (n : ℕ). Chooses n chosen) (sym count) chooses)

        by : (l : Lit) → (1 ≤ l.var) × (l.var ≤ variable_count net) → SetsVariable clauses chosen l
        by l within = one_way l (settled.each chosen decided l.var within.0 within.1) where
          one_way : (l : Lit) → (m : Lit) × (m.var ≡ l.var) × Sets clauses chosen m → SetsVariable clauses chosen l
          one_way l (m, same, sets) = elim (same_var-cases l m (sym same)) [
            | inl is ↦ inl (subst (Sets clauses chosen) (sym is) sets)
            | inr other ↦ inr (subst (Sets clauses chosen) (sym (ap negation other ∙ negation_negation m)) sets)
          ]

  pub clauses_numbered : AreNumbered clauses
  clauses_numbered i c inside k d within = ((are i c inside).within k d within).0

  pub clauses_apart : All IsApart clauses
  clauses_apart i c inside = (are i c inside).apart
