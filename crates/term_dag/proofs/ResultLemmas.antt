-- The table of what stands in the place of each term so far, and what is told of the last.
use Rattle.std.proofs.Common.{◌≡◌, Bool, true, false, true≢false, ℕ, ◌+◌, ◌<◌, ◌≤◌, inl, inr, List, [], ◌∷◌, ◌++◌, Some, length, slice_get, sym, subst, ◌∙◌, arith}
use Rattle.std.proofs.lemmas.List.{append-nil}
use Rattle.std.proofs.lemmas.Option.{slice_get_within}
use Rattle.bits_core.specs.declared.number.Bits.{Bits}
use Rattle.bits_core.specs.declared.points.Point.{Point}
use Rattle.term_dag.specs.declared.fixed.Fixed.{Fixed}
use Rattle.term_dag.specs.declared.node.Term.{Term}
use Rattle.term_dag.specs.declared.node.Node.{Node}
use Rattle.term_dag.specs.declared.node.Node.TheVariants.{Read}
use Rattle.term_dag.specs.Made.{AddsTo}
use Rattle.term_dag.specs.Marks.{IsMarked, AreMarks}
use Rattle.term_dag.specs.Mention.{MentionsBit, MentionsRead}
use Rattle.term_dag.specs.Substitute.{IsSubstitute, AreOperandsDone}
use Rattle.term_dag.specs.Substitution.{IsOverlaid, ReadsFit}
use Rattle.term_dag.specs.Value.{Values}
use Rattle.term_dag.specs.Width.{width_of, IsDag}
use Rattle.term_dag.proofs.InsertLemmas.{kept_older}
use Rattle.term_dag.proofs.NodeListLemmas.{slice_get_append, before_or_last}
use Rattle.term_dag.proofs.SubstituteLemmas.{adds_both, bits_were, reads_were, substitute_kept}
use Rattle.term_dag.proofs.TableLemmas.{length_pushed}
use Rattle.term_dag.proofs.ValueLemmas.{values_kept}

some_same : {X : Type 0} (x y : X) → Some x ≡ Some y → x ≡ y
some_same x y e = grind arith

-- what stands in the place of each marked term below a number
pub record AreResultsSoFar (start now : List Node) (fixed : Fixed) (marks : List Bool) (results : List Term) (number : ℕ) : Type 0 where
  pub adds : AddsTo start now
  pub dag : IsDag now
  pub long : length results ≡ number
  pub done : (u r : Term) → IsMarked marks u → slice_get results u.number ≡ Some r → IsSubstitute now fixed u r

module _ (start : List Node) (dag : IsDag start) (fixed : Fixed) (t : Term) (within : t.number < length start) (fit : ReadsFit start t fixed)
    (marks : List Bool) (marked : AreMarks start t marks) (now : List Node) (results : List Term) (number : ℕ)
    (so_far : AreResultsSoFar start now fixed marks results number) where
  at_start : (u : Term) → u.number ≤ t.number → (node : Node) → slice_get now u.number ≡ Some node → slice_get start u.number ≡ Some node
  at_start u l node at =
      sym (slice_get_append start so_far.adds.0 u.number (omega arith))
      ∙ subst (λ (n : List Node). slice_get n u.number ≡ Some node) so_far.adds.1 at

  pub term_within : (u : Term) → u.number ≤ t.number → u.number < length now
  term_within u l = (kept_older start now dag so_far.adds u (omega arith)).0

  pub term_operands : (u : Term) → u.number ≤ t.number → IsMarked marks u → AreOperandsDone now fixed u results
  term_operands u l m =
      record { each = λ node a r at is there. so_far.done a r (marked.operands u a node m (at_start u l node at) is) there }

  pub term_reads : (u : Term) → u.number ≤ t.number → IsMarked marks u → ReadsFit now u fixed
  term_reads u l m = record { widths = λ read w b asked is. fit.widths read w b (marked.parts u (Read read w) m (was read w asked)) is }
    where
      was : (read w : ℕ) → MentionsRead now u read w → MentionsRead start u read w
      was read w h =
          reads_were start so_far.adds.0 dag u (omega arith) read w
          (subst (λ (n : List Node). MentionsRead n u read w) so_far.adds.1 h)

  module _ (new : List Node) (grown : IsDag new) (adds : AddsTo now new) (r : Term) (below : number ≤ t.number)
      (is : IsMarked marks record { number = number } → IsSubstitute new fixed record { number = number } r) where
    more_done : (u s : Term) → IsMarked marks u → slice_get (results ++ r ∷ []) u.number ≡ Some s → IsSubstitute new fixed u s
    more_done u s m there =
        elim (before_or_last results r s u.number there) [
          | inl h ↦ substitute_kept now new so_far.dag adds fixed u s
              (term_within u (omega (arith, so_far.long, slice_get_within results u.number s h))) (so_far.done u s m h)
          | inr h ↦ last u s m (h.0 ∙ so_far.long) (some_same r s h.1)
        ]
      where
        last : (u s : Term) → IsMarked marks u → u.number ≡ number → r ≡ s → IsSubstitute new fixed u s
        last u s m e f =
            let same : u ≡ record { number = number } = λ i. record { number = e i } in
            subst (IsSubstitute new fixed u) f
            (subst (λ (x : Term). IsSubstitute new fixed x r) (sym same) (is (subst (IsMarked marks) same m)))

    pub next_results : AreResultsSoFar start new fixed marks (results ++ r ∷ []) (number + 1)
    next_results = record {
      adds = adds_both start now new so_far.adds adds;
      dag = grown;
      long = length_pushed results r ∙ omega (arith, so_far.long);
      done = more_done;
    }

-- what is told of the result in the dag as it was
module _ (old new : List Node) (dag : IsDag old) (adds : AddsTo old new) (fixed : Fixed) (t r : Term) (within : t.number < length old)
    (is : IsSubstitute new fixed t r) where
  pub told_width : width_of new r ≡ width_of old t
  told_width = is.width ∙ (kept_older old new dag adds t within).1

  pub told_value : (p q : Point) (b : Bits) → IsOverlaid fixed p q → Values old q t b → Values new p r b
  told_value p q b o v =
      is.value p q b o (subst (λ (n : List Node). Values n q t b) (sym adds.1) (values_kept old dag q adds.0 t b v))

  pub told_bits : (bit : ℕ) → MentionsBit new r bit → MentionsBit old t bit
  told_bits bit m =
      bits_were old adds.0 dag t within bit (subst (λ (n : List Node). MentionsBit n t bit) adds.1 (is.bits bit m))

  pub told_reads : (read w : ℕ) → MentionsRead new r read w → MentionsRead old t read w
  told_reads read w m =
      reads_were old adds.0 dag t within read w (subst (λ (n : List Node). MentionsRead n t read w) adds.1 (is.reads read w m))

pub nothing_added : (nodes : List Node) → AddsTo nodes nodes
nothing_added nodes = ([], sym (append-nil nodes))

pub not_both : (marks : List Bool) (k : ℕ) → slice_get marks k ≡ Some true → slice_get marks k ≡ Some false → ⊥
not_both marks k e f = true≢false (some_same true false (sym e ∙ f))
