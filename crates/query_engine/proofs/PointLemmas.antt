-- The point that is made has what the question's term mentions, and the bits that it was given.
use Rattle.std.proofs.Common.{◌≡◌, ℕ, ◌-◌, ◌<◌, ◌≤◌, ◌⊎◌, inl, inr, Bool, false, List, Option, Some, None, length, slice_get, get_or, refl, ap, subst, ◌∙◌, arith}
use Rattle.std.specs.Prelude.{IfOk}
use Rattle.std.proofs.Common.{Result, Ok, Err}
use Rattle.std.specs.List.{All, Contains}
use Rattle.std.proofs.lemmas.Option.{slice_get_within, get_or_from_slice_get, slice_get-get_or}
use Rattle.bits_core.specs.declared.number.Bits.{Bits}
use Rattle.bits_core.specs.declared.number.TheConstants.{MAX_WIDTH}
use Rattle.bits_core.specs.declared.points.Point.{Point}
use Rattle.cnf_core.specs.declared.derivation.Var.{Var}
use Rattle.cnf_core.specs.declared.derivation.Var.TheVariants.{Input, Read}
use Rattle.term_dag.specs.Mention.{IsPartOf, MentionsBit, MentionsRead, HasMentioned}
use Rattle.term_dag.specs.Mention.IsPartOf.{own, of_operand}
use Rattle.term_dag.specs.Value.{ReadGives}
use Rattle.term_dag.specs.Width.{IsDag}
use Rattle.term_dag.specs.declared.node.Node.{Node}
use Rattle.term_dag.specs.declared.node.Node.TheVariants.{Read as ReadNode}
use Rattle.term_dag.specs.declared.node.Term.{Term}
use Rattle.bit_blaster.specs.Vars.{AreVarsOf, AsksOneWidth, HasBit, HasBits, Mentions}
use Rattle.query_engine.specs.About.{AreFree}
use Rattle.query_engine.specs.Blank.{HasWidth, IsBlank, IsPlace, KeepsBits}
use Rattle.query_engine.specs.Question.{FixesInputs, IsAt}
use Rattle.query_engine.proofs.BitLemmas.{bit_within}
use Rattle.query_engine.proofs.ListLemmas.{zip_at, zip_from, zip_long}

pub contains_at : {X : Type 0} (xs : List X) (x : X) (k : ℕ) → slice_get xs k ≡ Some x → Contains xs x
contains_at xs x k at = (k, slice_get_within xs k x at, get_or_from_slice_get xs k x x at)

pub place_of : {X : Type 0} (xs : List X) (x : X) → Contains xs x → (k : ℕ) × (slice_get xs k ≡ Some x)
place_of xs x (k, inside, at) = (k, slice_get-get_or xs k x inside ∙ ap Some at)

-- what holds of each element holds of the one at a place
pub all_at : {X : Type 0} (P : X → Type 0) (xs : List X) (x : X) (k : ℕ) → All P xs → slice_get xs k ≡ Some x → P x
all_at P xs x k all at = subst P (get_or_from_slice_get xs k x x at) (all k x (slice_get_within xs k x at))

module _ (nodes : List Node) (dag : IsDag nodes) (r w : ℕ) where
  pub read_is_width : {t : Term} → IsPartOf nodes (ReadNode r w) t → (1 ≤ w) × (w ≤ MAX_WIDTH)
  read_is_width (own t at) = dag.fit t.number (ReadNode r w) at
  read_is_width (of_operand t a node at is h) = read_is_width h

module _ (nodes : List Node) (dag : IsDag nodes) (t : Term) where
  place_if : (v : Var) → Mentions nodes t v → IsPlace v
  place_if (Input bit) m = tt
  place_if (Read r k) m = omega (arith, m.2, (read_is_width nodes dag r m.0 m.1).1)

  pub are_places : (all : List Var) → AreVarsOf nodes t all → All IsPlace all
  are_places all are k d inside =
      place_if (get_or all k d) ((are.mentioned (get_or all k d)).0 (contains_at all (get_or all k d) k (slice_get-get_or all k d inside)))

  -- bits of the term are 0 in the blank point
  pub are_zeros : (all vars : List Var) (p : Point) → AreVarsOf nodes t all → All (Mentions nodes t) vars → IsBlank (Contains all) p →
      All (λ v. HasBit p v false) vars
  are_zeros all vars p are mentioned blank k d inside =
      blank.zeros (get_or vars k d) ((are.mentioned (get_or vars k d)).1 (mentioned k d inside))

  module _ (one_width : AsksOneWidth nodes t) (at : Option (List Bool)) (fixes : FixesInputs nodes t at)
      (all : List Var) (are : AreVarsOf nodes t all) (blank now point : Point) (is_blank : IsBlank (Contains all) blank)
      (keeps : KeepsBits blank now) (is_at : IsAt at point) (same_reads : point.reads ≡ now.reads)
      (same_inputs : at ≡ None → point.inputs ≡ now.inputs) where
    has_bit : (v : Var) → Mentions nodes t v → (b : Bool) × HasBit now v b
    has_bit v m = keeps.bits v false (is_blank.zeros v ((are.mentioned v).1 m))

    inputs : (o : Option (List Bool)) → at ≡ o → (bit : ℕ) → MentionsBit nodes t bit → bit < length point.inputs
    inputs None e bit m =
        let b = has_bit (Input bit) m in
        let l : bit < length now.inputs = slice_get_within now.inputs bit b.0 b.1 in
        omega (arith, l, ap length (same_inputs e))
    inputs (Some bits) e bit m =
        let fixed : FixesInputs nodes t (Some bits) = subst (FixesInputs nodes t) e fixes in
        let here : IsAt (Some bits) point = subst (λ (o : Option (List Bool)). IsAt o point) e is_at in
        omega (arith, fixed bit m, ap length here)

    -- a read is as wide as the term asks for
    width_is : (r w width : ℕ) → MentionsRead nodes t r w → w - 1 < width → HasWidth blank r width → width ≡ w
    width_is r w width m above has = by (is_blank.tight r width has) where
      by : (width ≡ 1) ⊎ Contains all (Read r (width - 1)) → width ≡ w
      by (inl one) = omega (arith, one, above, (read_is_width nodes dag r w m).0)
      by (inr there) =
          let n : Mentions nodes t (Read r (width - 1)) = (are.mentioned (Read r (width - 1))).0 there in
          let e : n.0 ≡ w = one_width.each r n.0 w n.1 m in
          omega (arith, e, above, n.2, (read_is_width nodes dag r w m).0)

    reads : (r w : ℕ) → MentionsRead nodes t r w → (b : Bits) × ReadGives point r w b
    reads r w m =
        let some : 1 ≤ w = (read_is_width nodes dag r w m).0 in
        let b = has_bit (Read r (w - 1)) (w, m, omega arith) in
        let x : Bits = b.1.0 in
        let above : w - 1 < x.width = bit_within x.width x.value (w - 1) b.0 b.1.2 in (
          x,
          record {
            there = ap (λ (l : List Bits). slice_get l r) same_reads ∙ b.1.1;
            width = width_is r w x.width m above (keeps.widths r x.width (x, b.1.1, refl));
          },
        )

    pub has_all : HasMentioned nodes t point
    has_all = record { inputs = inputs at refl; reads = reads }

-- bits that are not fixed are those of the point before the fixed ones came into it
module _ (at : Option (List Bool)) (now point : Point) (vars : List Var) (values : List Bool) (free : AreFree at vars)
    (same_reads : point.reads ≡ now.reads) (same_inputs : at ≡ None → point.inputs ≡ now.inputs) (bits : HasBits now vars values) where
  one : (o : Option (List Bool)) → at ≡ o → (k : ℕ) (v : Var) (b : Bool) → slice_get vars k ≡ Some v → HasBit now v b → HasBit point v b
  one None e k (Input bit) b there has = ap (λ (l : List Bool). slice_get l bit) (same_inputs e) ∙ has
  one (Some fixed) e k (Input bit) b there has =
      let none : AreFree (Some fixed) vars = subst (λ (o : Option (List Bool)). AreFree o vars) e free in
      absurd (none bit (contains_at vars (Input bit) k there))
  one o e k (Read r bit) b there has = (has.0, ap (λ (l : List Bits). slice_get l r) same_reads ∙ has.1, has.2)

  pub has_given : HasBits point vars values
  has_given = record {
    each = zip_from (HasBit point) vars values (zip_long (HasBit now) vars values bits.each)
        (λ k v b atv atb. one at refl k v b atv (zip_at (HasBit now) vars values k v b bits.each atv atb));
  }

-- what the calls say together, where they succeed
module _ {E : Type 0} (at : Option (List Bool)) (now : Point) (r : Result Point E) (is_at : IfOk r (IsAt at)) (reads : IfOk r (λ p. p.reads ≡ now.reads))
    (inputs : at ≡ None → IfOk r (λ p. p.inputs ≡ now.inputs)) where
  pub ok_has : (nodes : List Node) → IsDag nodes → (t : Term) → FixesInputs nodes t at → (all : List Var) →
      AreVarsOf nodes t all → (blank : Point) → IsBlank (Contains all) blank → KeepsBits blank now →
      IfOk r (λ p. AsksOneWidth nodes t → HasMentioned nodes t p)
  ok_has nodes dag t fixes all are blank is_blank keeps = by r is_at reads inputs where
    by : (s : Result Point E) → IfOk s (IsAt at) → IfOk s (λ p. p.reads ≡ now.reads) → (at ≡ None → IfOk s (λ p. p.inputs ≡ now.inputs)) →
        IfOk s (λ p. AsksOneWidth nodes t → HasMentioned nodes t p)
    by (Ok p) a b e = λ one_width. has_all nodes dag t one_width at fixes all are blank now p is_blank keeps a b e
    by (Err f) a b e = tt

  pub ok_bits : (vars : List Var) (values : List Bool) → AreFree at vars → HasBits now vars values → IfOk r (λ p. HasBits p vars values)
  ok_bits vars values free bits = by r is_at reads inputs where
    by : (s : Result Point E) → IfOk s (IsAt at) → IfOk s (λ p. p.reads ≡ now.reads) → (at ≡ None → IfOk s (λ p. p.inputs ≡ now.inputs)) →
        IfOk s (λ p. HasBits p vars values)
    by (Ok p) a b e = has_given at now p vars values free b e bits
    by (Err f) a b e = tt
