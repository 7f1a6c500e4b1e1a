-- What an answer of the solver says of the question.
use Rattle.std.proofs.Common.{◌≡◌, ◌≢◌, ℕ, ◌<◌, inl, inr, Bool, List, [], ◌∷◌, ◌++◌, Option, None, Some, length, take, drop, refl, sym, ap, subst, ◌∙◌, arith}
use Rattle.std.proofs.Common.{Result, Ok, Err}
use Rattle.std.specs.Prelude.{IfOk}
use Rattle.std.specs.List.{Contains}
use Rattle.cnf_core.specs.declared.derivation.Derived.{Derived}
use Rattle.proof_stream.specs.Valid.{HasText}
use Rattle.proof_stream.specs.declared.record.End.{End}
use Rattle.proof_stream.specs.declared.record.Record.{Record}
use Rattle.proof_stream.specs.declared.record.Record.TheVariants.{Asked}
use Rattle.refutation_checker.specs.Acceptance.{IsAccepted}
use Rattle.query_engine.specs.Logged.{AddsRecord, Logs, SaysAnswer, derivation}
use Rattle.query_engine.specs.declared.question.Decided.{Decided}
use Rattle.std.proofs.lemmas.List.{take-append-drop}
use Rattle.bits_core.specs.declared.number.Bits.{Bits}
use Rattle.bits_core.specs.declared.points.Point.{Point}
use Rattle.cnf_core.specs.Truth.{IsUnsatisfiable, SatisfiesAll}
use Rattle.cnf_core.specs.declared.derivation.Var.{Var}
use Rattle.cnf_core.specs.declared.formula.Lit.{Lit}
use Rattle.term_dag.specs.Mention.{HasMentioned}
use Rattle.term_dag.specs.Width.{IsDag}
use Rattle.term_dag.specs.declared.node.Node.{Node}
use Rattle.term_dag.specs.declared.node.Term.{Term}
use Rattle.term_dag.proofs.StandingLemmas.{has_mentioned, term_stands}
use Rattle.bit_blaster.specs.Clauses.{IsExtendable}
use Rattle.bit_blaster.specs.Vars.{AreVarsOf, AsksOneWidth, HasBits}
use Rattle.query_engine.specs.About.{AreBitsOf, AreFree, GoesBy, IsAbout, IsTrueWith}
use Rattle.query_engine.specs.Question.{IfSpent, IsAt, IsConstant, IsLeft, IsOne, IsYesAt}
use Rattle.query_engine.specs.declared.question.Question.{Question}
use Rattle.query_engine.proofs.AboutLemmas.{stands_one_width, values_of}
use Rattle.query_engine.proofs.PointLemmas.{contains_at}

module _ (nodes : List Node) (dag : IsDag nodes) (q : Question) (within : q.term.number < length nodes) where
  -- where the question is true with the values, it is so at each point that has them
  one_there : (vars : List Var) (values : List Bool) → GoesBy nodes q vars → (point : Point) → IsAt q.at point → HasMentioned nodes q.term point →
      HasBits point vars values → IsTrueWith nodes q vars values → IsOne nodes q.term point
  one_there vars values goes point at has bits h =
      let c = term_stands nodes dag point q.term within has in
      let e : h.one.number ≡ c.0 = goes h.point point values h.one.number c.0 h.at at h.bits bits h.one.stands c.1 in
      record { number = c.0; stands = c.1; is_one = ap (λ (x : Bits). x.value) (sym e) ∙ h.one.is_one }

  pub constant_no : GoesBy nodes q [] → (point : Point) → IsAt q.at point → (AsksOneWidth nodes q.term → HasMentioned nodes q.term point) →
      (IsOne nodes q.term point → ⊥) → (p : Point) → ¬ IsYesAt nodes q p
  constant_no goes point at has not_one p answer =
      let one_width = stands_one_width nodes dag q.term p answer.one.number answer.one.stands in
      not_one (one_there [] [] goes point at (has one_width) record { each = tt } record {
        point = p;
        at = answer.at;
        bits = record { each = tt };
        one = answer.one;
      })

  module _ (vars : List Var) (clauses : List (List Lit)) (about : IsAbout nodes q vars clauses) where
    pub extends : (valuation bits : List Bool) → bits ≡ take (length vars) valuation → SatisfiesAll valuation clauses → IsExtendable clauses bits
    extends valuation bits is sat = record {
      more = drop (length vars) valuation;
      satisfies = subst (λ (l : List Bool). SatisfiesAll l clauses)
          (sym (ap (λ (l : List Bool). l ++ drop (length vars) valuation) is ∙ take-append-drop (length vars) valuation)) sat;
    }

    pub sat_yes : (bits : List Bool) (point : Point) → length bits ≡ length vars → IsExtendable clauses bits → IsAt q.at point →
        (AsksOneWidth nodes q.term → HasMentioned nodes q.term point) → HasBits point vars bits → IsYesAt nodes q point
    sat_yes bits point long sat at has given =
        let h = (about.exact bits long).1 sat in
        let one_width = stands_one_width nodes dag q.term h.point h.one.number h.one.stands in
        record { at = at; one = one_there vars bits about.goes_by point at (has one_width) given h }

    pub unsat_no : IsUnsatisfiable clauses → (p : Point) → ¬ IsYesAt nodes q p
    unsat_no unsat p answer =
        let has = has_mentioned nodes dag p q.term answer.one.number answer.one.stands in
        let v = values_of nodes q.term p has vars about.bits.mentioned in
        let h : IsExtendable clauses v.0 = (about.exact v.0 v.1).0 record { point = p; at = answer.at; bits = v.2; one = answer.one } in
        unsat (v.0 ++ h.more) h.satisfies

-- what is left is a constant exactly where it has no variable
pub constant_if : (nodes : List Node) (left : Term) (vars : List Var) → AreVarsOf nodes left vars → vars ≡ [] → IsConstant nodes left
constant_if nodes left vars are none v m =
    let there : Contains vars v = (are.mentioned v).1 m in
    omega (arith, there.1, ap length none)

pub not_constant : (nodes : List Node) (left : Term) (vars : List Var) → AreVarsOf nodes left vars → vars ≢ [] → ¬ IsConstant nodes left
not_constant nodes left [] are some constant = some refl
not_constant nodes left (v ∷ vars) are some constant = constant v ((are.mentioned v).0 (contains_at (v ∷ vars) v 0 refl))

-- no variables are those of any question
pub none_are_bits : (nodes : List Node) (q : Question) → AreBitsOf nodes q []
none_are_bits nodes q = record {
  rising = λ i j d l m. absurd (omega arith);
  mentioned = λ k d l. absurd (omega arith);
  free = by q.at;
} where
  by : (at : Option (List Bool)) → AreFree at []
  by None = tt
  by (Some bits) = λ bit there. omega (arith, there.1)

-- ---- what comes into the log

pub adds_record : (nodes : List Node) (q : Question) (allowance : ℕ) (decided : Decided) (old new : List Record) (at : Option (List Bool))
    (vars : List Var) (clauses : List (List Lit)) (derived : List Derived) (last : End) → at ≡ q.at →
    new ≡ old ++ Asked q.kind at vars clauses derived last ∷ [] → vars ≢ [] → IsAbout nodes q vars clauses →
    IsAccepted (derivation vars clauses derived) → SaysAnswer vars clauses derived allowance decided last →
    (q.at ≢ Some [] → HasText (Asked q.kind q.at vars clauses derived last)) → AddsRecord nodes q allowance decided old new
adds_record nodes q allowance decided old new at vars clauses derived last copied added some about accepted says text = record {
  added = Asked q.kind at vars clauses derived last;
  is_last = added;
  of_question = record {
    vars = vars;
    clauses = clauses;
    derived = derived;
    last = last;
    is = ap (λ (bits : Option (List Bool)). Asked q.kind bits vars clauses derived last) copied;
    some_var = some;
    about = about;
    accepted = accepted;
    says = says;
    text = λ bits. subst HasText (ap (λ (o : Option (List Bool)). Asked q.kind o vars clauses derived last) (sym copied)) (text bits);
  };
}

module _ {E : Type 0} (nodes : List Node) (q : Question) (allowance : ℕ) (left : Term) (is_left : IsLeft nodes q left) (r : Result Decided E) where
  pub ok_asked : (old new : List Record) → ¬ IsConstant nodes left → IfOk r (λ d. AddsRecord nodes q allowance d old new) →
      IfOk r (λ d. Logs nodes q allowance d old new)
  ok_asked old new some adds = by r adds where
    by : (s : Result Decided E) → IfOk s (λ d. AddsRecord nodes q allowance d old new) → IfOk s (λ d. Logs nodes q allowance d old new)
    by (Ok d) h = record { left = left; is_left = is_left; adds = inr (some, h) }
    by (Err e) h = tt

  pub ok_constant : (log : List Record) → IsConstant nodes left → IfOk r (λ d. IfSpent d ⊥) → IfOk r (λ d. Logs nodes q allowance d log log)
  ok_constant log constant answered = by r answered where
    by : (s : Result Decided E) → IfOk s (λ d. IfSpent d ⊥) → IfOk s (λ d. Logs nodes q allowance d log log)
    by (Ok d) h = record {
      left = left;
      is_left = is_left;
      adds = inl (record { constant = constant; same = refl; answered = h });
    }
    by (Err e) h = tt
