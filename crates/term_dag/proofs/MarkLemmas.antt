-- Terms are marked from the greatest number down: each marked one marks its operands, whose numbers are smaller.
use Rattle.std.proofs.Common.{◌≡◌, ℕ, zero, suc, ◌+◌, ◌<◌, ◌≤◌, ◌⊎◌, inl, inr, Bool, true, false, true≢false, List, [], ◌∷◌, Some, length, slice_get, refl, sym, ap, subst, ◌∙◌, arith}
use Rattle.std.specs.Prelude.{slice_set, replicate}
use Rattle.std.proofs.lemmas.Option.{slice_get_within}
use Rattle.term_dag.specs.declared.node.Node.{Node}
use Rattle.term_dag.specs.declared.node.Term.{Term}
use Rattle.term_dag.specs.Marks.{IsMarked, MarksOperands, AreMarks}
use Rattle.term_dag.specs.Mention.{IsOperand, IsPartOf}
use Rattle.term_dag.specs.Mention.IsPartOf.{of_operand}
use Rattle.term_dag.specs.Width.{IsDag}
use Rattle.term_dag.proofs.MentionLemmas.{operand_below}

some_same : {X : Type 0} (x y : X) → Some x ≡ Some y → x ≡ y
some_same x y e = grind arith

same_term : (a b : Term) → a.number ≡ b.number → a ≡ b
same_term a b e = λ i. record { number = e i }

-- the marks once so many terms have been looked at, from the greatest down
pub record AreMarksSoFar (nodes : List Node) (t : Term) (marks : List Bool) (done : ℕ) : Type 0 where
  pub long : length marks ≡ suc t.number
  pub itself : IsMarked marks t
  pub operands : (u a : Term) (node : Node) → t.number < u.number + done → IsMarked marks u → slice_get nodes u.number ≡ Some node
      → IsOperand node a → IsMarked marks a
  pub parts : (u : Term) (part : Node) → IsMarked marks u → IsPartOf nodes part u → IsPartOf nodes part t

set_there : (marks : List Bool) (k : ℕ) → k < length marks → slice_get (slice_set marks k true) k ≡ Some true
set_there [] k l = absurd (omega arith)
set_there (x ∷ xs) zero l = refl
set_there (x ∷ xs) (suc k) l = set_there xs k (omega arith)

set_length : (marks : List Bool) (k : ℕ) → length (slice_set marks k true) ≡ length marks
set_length [] k = refl
set_length (x ∷ xs) zero = refl
set_length (x ∷ xs) (suc k) = ap suc (set_length xs k)

none_marked : (n k : ℕ) → slice_get (replicate n false) k ≡ Some true → ⊥
none_marked zero k e = grind arith
none_marked (suc n) zero e = grind arith
none_marked (suc n) (suc k) e = none_marked n k e

one_marked : (n k j : ℕ) → slice_get (slice_set (replicate n false) k true) j ≡ Some true → j ≡ k
one_marked zero k j e = absurd (none_marked zero j e)
one_marked (suc n) zero zero e = refl
one_marked (suc n) zero (suc j) e = absurd (none_marked n j e)
one_marked (suc n) (suc k) zero e = grind arith
one_marked (suc n) (suc k) (suc j) e = ap suc (one_marked n k j e)

length_replicate : (n : ℕ) (b : Bool) → length (replicate n b) ≡ n
length_replicate zero b = refl
length_replicate (suc n) b = ap suc (length_replicate n b)

module _ (nodes : List Node) (t : Term) where
  pub first_marks : (n : ℕ) → n ≡ suc t.number → AreMarksSoFar nodes t (slice_set (replicate n false) t.number true) 0
  first_marks n is = record {
    long = long;
    itself = set_there (replicate n false) t.number (omega (arith, length_replicate n false));
    operands = λ u a node l m at o. absurd (omega (arith, long, slice_get_within _ u.number true m));
    parts = λ u part m h. subst (λ (x : Term). IsPartOf nodes part x) (same_term u t (one_marked n t.number u.number m)) h;
  }
    where
      long : length (slice_set (replicate n false) t.number true) ≡ suc t.number
      long = set_length (replicate n false) t.number ∙ length_replicate n false ∙ is

  module _ (dag : IsDag nodes) (marks : List Bool) (done number : ℕ) (here : number + done ≡ t.number)
      (far : AreMarksSoFar nodes t marks done) where
    pub unmarked : slice_get marks number ≡ Some false → AreMarksSoFar nodes t marks (done + 1)
    unmarked none = record {
      long = far.long;
      itself = far.itself;
      operands = λ u a node l m at o. far.operands u a node (later u m (omega arith)) m at o;
      parts = far.parts;
    }
      where
        differs : (u : Term) → IsMarked marks u → u.number ≡ number → ⊥
        differs u m e = true≢false (some_same true false (sym m ∙ ap (slice_get marks) e ∙ none))

        later : (u : Term) → IsMarked marks u → number ≤ u.number → t.number < u.number + done
        later u m l = by (differs u m)
          where
            by : (u.number ≡ number → ⊥) → t.number < u.number + done
            by other = omega (arith, other)

    module _ (new : List Bool) (node : Node) (at : slice_get nodes number ≡ Some node) (marked : slice_get marks number ≡ Some true)
        (step : MarksOperands node marks new) where
      was_or_is : (u : Term) → number ≤ u.number → (u.number ≡ number) ⊎ (number < u.number)
      was_or_is u l = grind arith

      before : (u : Term) → number < u.number → IsMarked new u → IsMarked marks u
      before u l m =
          elim (step.only u m) [
            | inl was ↦ was
            | inr o ↦ absurd (omega (arith, operand_below number node u (dag.ordered number node at) o))
          ]

      pub operands_marked : AreMarksSoFar nodes t new (done + 1)
      operands_marked = record {
        long = step.long ∙ far.long;
        itself = step.kept t far.itself;
        operands = λ u a other l m is o.
            elim (was_or_is u (omega arith)) [
              | inl e ↦ step.operands a (subst (λ (n : Node). IsOperand n a) (some_same other node (sym is ∙ ap (slice_get nodes) e ∙ at)) o)
              | inr later ↦ step.kept a (far.operands u a other (omega arith) (before u later m) is o)
            ];
        parts = λ u part m h.
            elim (step.only u m) [
              | inl was ↦ far.parts u part was h
              | inr o ↦ far.parts record { number = number } part marked (of_operand record { number = number } u node at o h)
            ];
      }

  pub marks_are_done : (marks : List Bool) (done : ℕ) → done ≡ suc t.number → AreMarksSoFar nodes t marks done → AreMarks nodes t marks
  marks_are_done marks done all far = record {
    long = far.long;
    itself = far.itself;
    operands = λ u a node m at o. far.operands u a node (omega arith) m at o;
    parts = far.parts;
  }
