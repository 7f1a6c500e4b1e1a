-- A dag that grows keeps what the domain's values and flags are and stand for.
use Rattle.std.proofs.Common.{◌≡◌, ℕ, List, ◌++◌, sym, subst, ◌∙◌}
use Rattle.bits_core.specs.BitList.{bit_value}
use Rattle.bits_core.specs.declared.points.Point.{Point}
use Rattle.term_dag.specs.declared.node.Node.{Node}
use Rattle.term_dag.specs.declared.node.Term.{Term}
use Rattle.term_dag.specs.Width.{width_of, IsDag}
use Rattle.term_dag.proofs.InsertLemmas.{kept_older}
use Rattle.term_dag.proofs.ValueLemmas.{values_kept, values_were}
use Rattle.value_domain.specs.Extends.{Extends}
use Rattle.symbolic_domain.specs.Meaning.{IsTerm, StandsFor, symbolic_meaning}

module _ (old more : List Node) (t : Term) (p : Point) (x : ℕ) where
  stands_kept : IsDag old → StandsFor old t p x → StandsFor (old ++ more) t p x
  stands_kept dag s = record { b = s.b; value = values_kept old dag p more t s.b s.value; is = s.is }

  stands_were : IsTerm old t → StandsFor (old ++ more) t p x → StandsFor old t p x
  stands_were known s = record { b = s.b; value = values_were old known.dag p more t s.b known.within s.value; is = s.is }

module _ (old new : List Node) (grown : IsDag new) (keeps : (more : List Node) × (new ≡ old ++ more)) where
  there : (v : Term) → IsTerm old v → IsTerm new v
  there v known = record { dag = grown; within = (kept_older old new known.dag keeps v known.within).0 }

  wide : (v : Term) → IsTerm old v → width_of new v ≡ width_of old v
  wide v known = (kept_older old new known.dag keeps v known.within).1

  to_old : (v : Term) (p : Point) (x : ℕ) → IsTerm old v → StandsFor new v p x → StandsFor old v p x
  to_old v p x known s = stands_were old keeps.0 v p x known (subst (λ (l : List Node). StandsFor l v p x) keeps.1 s)

  to_new : (v : Term) (p : Point) (x : ℕ) → IsTerm old v → StandsFor old v p x → StandsFor new v p x
  to_new v p x known s = subst (λ (l : List Node). StandsFor l v p x) (sym keeps.1) (stands_kept old keeps.0 v p x known.dag s)

  pub grown_extends : Extends (symbolic_meaning old) (symbolic_meaning new)
  grown_extends = record {
    reads = λ read width. ((λ h. h), (λ h. h));
    points = λ p. ((λ h. h), (λ h. h));
    values = there;
    widths = wide;
    numbers = λ v p x known. ((λ s. to_old v p x known s), (λ s. to_new v p x known s));
    flags = λ f known. record { term = there f known.term; one_bit = wide f known.term ∙ known.one_bit };
    truths = λ f p b known. ((λ s. to_old f p (bit_value b) known.term s), (λ s. to_new f p (bit_value b) known.term s));
  }
