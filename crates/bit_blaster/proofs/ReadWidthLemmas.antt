-- The bits of a marked node are variables, and a read that is asked for in two widths has a bit past the narrower one.
use Rattle.std.proofs.Common.{◌≡◌, ℕ, ◌+◌, ◌<◌, ◌⊎◌, inl, inr, Bool, true, false, List, Some, length, slice_get, sym, ap, ◌∙◌, subst, true≢false, arith}
use Rattle.std.specs.List.{Contains}
use Rattle.std.proofs.lemmas.Option.{slice_get_within}
use Rattle.bits_core.specs.declared.points.Point.{Point}
use Rattle.cnf_core.specs.declared.derivation.Var.{Var}
use Rattle.cnf_core.specs.declared.derivation.Var.TheVariants.{Read}
use Rattle.term_dag.specs.Marks.{IsMarked, AreMarks}
use Rattle.term_dag.specs.Mention.{MentionsRead, HasMentioned}
use Rattle.term_dag.specs.Mention.IsPartOf.{own}
use Rattle.term_dag.specs.declared.node.Node.{Node}
use Rattle.term_dag.specs.declared.node.Node.TheVariants.{Constant, Input as InputNode, Read as ReadNode, One, Two, Slice, Extend, Choose}
use Rattle.term_dag.specs.declared.node.Term.{Term}
use Rattle.bit_blaster.specs.Vars.{Mentions, Names, AreVarsOf, AsksOneWidth, IsCutRead}
use Rattle.bit_blaster.proofs.VariableLemmas.{IsOwn, names_mention, part_marked}

some_same : {X : Type 0} (x y : X) → Some x ≡ Some y → x ≡ y
some_same x y e = grind arith

below_or_last : (b n : ℕ) → b < n + 1 → (b < n) ⊎ (b ≡ n)
below_or_last b n l = grind arith

-- no marked node below a number is a read with a bit past it
pub record NoneCut (nodes : List Node) (marks : List Bool) (vars : List Var) (number : ℕ) : Type 0 where
  pub each : (u : Term) (node : Node) → u.number < number → IsMarked marks u → slice_get nodes u.number ≡ Some node → IsCutRead vars node → ⊥

module _ (nodes : List Node) (marks : List Bool) (vars : List Var) where
  pub none_cut_yet : NoneCut nodes marks vars 0
  none_cut_yet = record { each = λ u node l m at cut. absurd (omega arith) }

  module _ (number : ℕ) (none : NoneCut nodes marks vars number) where
    next_by : ((u : Term) (node : Node) → u.number ≡ number → IsMarked marks u → slice_get nodes u.number ≡ Some node → IsCutRead vars node → ⊥) →
        NoneCut nodes marks vars (number + 1)
    next_by here = record { each = each } where
      each : (u : Term) (node : Node) → u.number < number + 1 → IsMarked marks u → slice_get nodes u.number ≡ Some node → IsCutRead vars node → ⊥
      each u node l m at cut = elim (below_or_last u.number number l) [
        | inl less ↦ none.each u node less m at cut
        | inr is ↦ here u node is m at cut
      ]

    pub none_cut_unmarked : slice_get marks number ≡ Some false → NoneCut nodes marks vars (number + 1)
    none_cut_unmarked unmarked =
        next_by (λ u node is m at cut. true≢false (some_same true false (sym m ∙ ap (slice_get marks) is ∙ unmarked)))

    pub none_cut_whole : (node : Node) → slice_get nodes number ≡ Some node → (IsCutRead vars node → ⊥) → NoneCut nodes marks vars (number + 1)
    none_cut_whole node at whole =
        next_by (λ u other is m here cut. whole (subst (IsCutRead vars) (some_same other node (sym here ∙ ap (slice_get nodes) is ∙ at)) cut))

module _ (nodes : List Node) (t : Term) (marks : List Bool) (are : AreMarks nodes t marks) (vars : List Var) (vars_are : AreVarsOf nodes t vars) where
  pub names_contained : (u : Term) (node : Node) → IsMarked marks u → slice_get nodes u.number ≡ Some node → (v : Var) → Names node v →
      Contains vars v
  names_contained u node m at v h = (vars_are.mentioned v).1 (names_mention nodes t node v h (are.parts u node m (own u at)))

  pub cut_read_wider : (number : ℕ) (node : Node) → slice_get marks number ≡ Some true → slice_get nodes number ≡ Some node →
      IsCutRead vars node → AsksOneWidth nodes t → ⊥
  cut_read_wider number (ReadNode read w) m at cut one =
      let wider : Mentions nodes t (Read read w) = (vars_are.mentioned (Read read w)).0 cut in
      let here : Term = record { number = number } in
      let same : w ≡ wider.0 = one.each read w wider.0 (are.parts here (ReadNode read w) m (own here at)) wider.1 in
      absurd (omega (arith, wider.2, same))
  cut_read_wider number (InputNode first w) m at cut one = cut
  cut_read_wider number (Constant c) m at cut one = cut
  cut_read_wider number (One op a) m at cut one = cut
  cut_read_wider number (Two op a b) m at cut one = cut
  cut_read_wider number (Slice a high low) m at cut one = cut
  cut_read_wider number (Extend a w signed) m at cut one = cut
  cut_read_wider number (Choose c a b) m at cut one = cut

  -- no read has a bit past a width in which it is asked for, once no marked node is cut
  none_past : (number : ℕ) → number ≡ length marks → NoneCut nodes marks vars number → (read w : ℕ) → MentionsRead nodes t read w →
      Contains vars (Read read w) → ⊥
  none_past number all none read w m there = by (part_marked nodes t marks are (ReadNode read w) are.itself m) where
    by : IsOwn nodes marks (ReadNode read w) → ⊥
    by o =
        let inside = slice_get_within marks o.of.number true o.marked in
        none.each o.of (ReadNode read w) (omega (arith, inside, all)) o.marked o.at there

  pub one_width_from_none : (number : ℕ) → number ≡ length marks → NoneCut nodes marks vars number → AsksOneWidth nodes t
  one_width_from_none number all none = record { each = each } where
    not_wider : (read v w : ℕ) → MentionsRead nodes t read v → MentionsRead nodes t read w → v < w → ⊥
    not_wider read v w m n less = none_past number all none read v m ((vars_are.mentioned (Read read v)).1 (w, n, less))

    same : (v w : ℕ) → (v < w → ⊥) → (w < v → ⊥) → v ≡ w
    same v w less more = omega arith

    each : (read v w : ℕ) → MentionsRead nodes t read v → MentionsRead nodes t read w → v ≡ w
    each read v w m n = same v w (not_wider read v w m n) (not_wider read w v n m)

module _ (nodes : List Node) (t : Term) where
  -- a term that asks for each read in one width has no bit past that width
  pub no_bit_past : (vars : List Var) → AreVarsOf nodes t vars → AsksOneWidth nodes t → (read w : ℕ) → MentionsRead nodes t read w →
      Contains vars (Read read w) → ⊥
  no_bit_past vars are one read w m there =
      let wider : Mentions nodes t (Read read w) = (are.mentioned (Read read w)).0 there in
      let same : w ≡ wider.0 = one.each read w wider.0 m wider.1 in
      omega (arith, wider.2, same)

  -- a point that has all that the term mentions has each read in one width
  pub one_width_at : (p : Point) → HasMentioned nodes t p → AsksOneWidth nodes t
  one_width_at p has = record { each = each } where
    each : (read v w : ℕ) → MentionsRead nodes t read v → MentionsRead nodes t read w → v ≡ w
    each read v w m n =
        let g = has.reads read v m in
        let h = has.reads read w n in
        sym g.1.width ∙ ap (λ b. b.width) (some_same g.0 h.0 (sym g.1.there ∙ h.1.there)) ∙ h.1.width
