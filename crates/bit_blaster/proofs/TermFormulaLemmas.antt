-- The clauses of a term's circuit are its formula.
use Rattle.std.proofs.Common.{◌≡◌, ℕ, ◌<◌, Bool, true, false, List, [], ◌∷◌, length, get_or, refl, sym, ap, ◌∙◌, subst, true≢false, arith}
use Rattle.std.specs.Prelude.{◌↔◌, IsTrue, if◌then◌else◌}
use Rattle.std.specs.List.{AllZip}
use Rattle.bits_core.specs.BitList.{bit_value, number_of}
use Rattle.bits_core.specs.declared.number.Bits.{Bits}
use Rattle.cnf_core.specs.declared.derivation.Var.{Var}
use Rattle.cnf_core.specs.declared.formula.Lit.{Lit}
use Rattle.term_dag.specs.Width.{IsDag, width_of}
use Rattle.term_dag.specs.declared.node.Node.{Node}
use Rattle.term_dag.specs.declared.node.Term.{Term}
use Rattle.term_dag.proofs.StandingLemmas.{has_mentioned, term_stands}
use Rattle.bit_blaster.specs.declared.wire.Wire.{Wire}
use Rattle.bit_blaster.specs.declared.wire.Wire.TheVariants.{Known}
use Rattle.bit_blaster.specs.Clauses.{IsExact, IsExtendable}
use Rattle.bit_blaster.specs.Netlist.{Netlist, StandsFor, Carries, HasWire}
use Rattle.bit_blaster.specs.TermWord.{IsWordOf}
use Rattle.bit_blaster.specs.Vars.{AreVarsOf, AsksOneWidth, IsFormulaOf, IsOneSomewhere}
use Rattle.bit_blaster.proofs.PointLemmas.{point_with}
use Rattle.bit_blaster.proofs.ReadWidthLemmas.{no_bit_past, one_width_at}

-- a word of one bit, as its wire
abbrev pub only_wire : List Wire → Wire
only_wire word = get_or word 0 (Known false)

pub record IsTruth (net : Netlist) (inputs : List Bool) (w : Wire) (x : ℕ) : Type 0 where
  pub truth : Bool
  pub stands : StandsFor net inputs w truth
  pub is : x ≡ bit_value truth

carries_truth : (net : Netlist) (inputs : List Bool) (word : List Wire) (x : ℕ) → length word ≡ 1 → Carries net inputs word x →
    IsTruth net inputs (only_wire word) x
carries_truth net inputs word x long c = by word c.bits long c.carries.each c.is where
  by : (word : List Wire) (bits : List Bool) → length word ≡ 1 → AllZip (StandsFor net inputs) word bits → number_of bits ≡ x →
      IsTruth net inputs (only_wire word) x
  by [] bits one each is = absurd (omega (arith, one))
  by (w ∷ u ∷ ws) bits one each is = absurd (omega (arith, one))
  by (w ∷ []) [] one each is = absurd each
  by (w ∷ []) (b ∷ c ∷ bs) one each is = absurd each.1
  by (w ∷ []) (b ∷ []) one each is = record { truth = b; stands = each.0; is = omega (arith, is) }

one_is_true : (b : Bool) → bit_value b ≡ 1 → b ≡ true
one_is_true true e = refl
one_is_true false e = absurd (omega arith)

same_truth : (net : Netlist) (inputs : List Bool) (w : Wire) (a b : Bool) → StandsFor net inputs w a → StandsFor net inputs w b → a ≡ b
same_truth net inputs w a b s t = sym s.is ∙ t.is

module _ (nodes : List Node) (dag : IsDag nodes) (t : Term) (within : t.number < length nodes) (one_bit : width_of nodes t ≡ 1) (vars : List Var)
    (are : AreVarsOf nodes t vars) (net : Netlist) (count : net.inputs ≡ length vars) (word : List Wire) (is_word : IsWordOf nodes vars net t word)
    (clauses : List (List Lit)) where
  one_wire : length word ≡ 1
  one_wire = is_word.long ∙ one_bit

  module _ (exact : IsExact net (only_wire word) clauses) (one : AsksOneWidth nodes t) where
    one_extends : (values : List Bool) → length values ≡ length vars → IsOneSomewhere nodes t vars values → IsExtendable clauses values
    one_extends values long o = (exact.each values (long ∙ sym count)).0 (by (carries_truth net values word o.number.value one_wire
        (is_word.value values o.point o.number o.bits o.stands))) where
          by : IsTruth net values (only_wire word) o.number.value → StandsFor net values (only_wire word) true
          by h = subst (StandsFor net values (only_wire word)) (one_is_true h.truth (sym h.is ∙ o.is_one)) h.stands

    extends_one : (values : List Bool) → length values ≡ length vars → IsExtendable clauses values → IsOneSomewhere nodes t vars values
    extends_one values long x =
        let p = point_with nodes dag t vars are (no_bit_past nodes t vars are one) values long in
        let b = term_stands nodes dag p.0 t within p.2 in
        record {
          point = p.0;
          bits = p.1;
          number = b.0;
          stands = b.1;
          is_one = by b.0 (carries_truth net values word b.0.value one_wire (is_word.value values p.0 b.0 p.1 b.1));
        } where
          holds : StandsFor net values (only_wire word) true
          holds = (exact.each values (long ∙ sym count)).1 x

          by : (b : Bits) → IsTruth net values (only_wire word) b.value → b.value ≡ 1
          by b h = h.is ∙ ap bit_value (same_truth net values (only_wire word) h.truth true h.stands holds)

    formula_of_one_width : IsFormulaOf nodes t vars clauses
    formula_of_one_width = record { each = λ values long. (one_extends values long, extends_one values long) }

  formula_of_none : IsExact net (Known false) clauses → (AsksOneWidth nodes t → ⊥) → IsFormulaOf nodes t vars clauses
  formula_of_none exact not_one = record {
    each = λ values long. (
      (λ o. absurd (not_one (one_width_at nodes t o.point (has_mentioned nodes dag o.point t o.number o.stands)))),
      (λ x. absurd (true≢false (sym ((exact.each values (long ∙ sym count)).1 x).is))),
    );
  }

  pub formula_of_term : (one_width : Bool) (goal : Wire) → IsTrue one_width ↔ AsksOneWidth nodes t →
      goal ≡ (if one_width then only_wire word else Known false) → IsExact net goal clauses → IsFormulaOf nodes t vars clauses
  formula_of_term true goal decides is exact =
      formula_of_one_width (subst (λ (w : Wire). IsExact net w clauses) is exact) (decides.0 refl)
  formula_of_term false goal decides is exact =
      formula_of_none (subst (λ (w : Wire). IsExact net w clauses) is exact) (λ one. true≢false (sym (decides.1 one)))

  pub has_goal : (one_width : Bool) (goal : Wire) → goal ≡ (if one_width then only_wire word else Known false) → HasWire net goal
  has_goal true goal is = subst (HasWire net) (sym is) (is_word.has.each 0 (Known false) (omega (arith, one_wire)))
  has_goal false goal is = subst (HasWire net) (sym is) tt
