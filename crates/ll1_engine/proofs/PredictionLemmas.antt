-- In an accepted table the predicted row is the one that each derivation takes, but for an empty row that stands
-- where the row with the rank can be taken.
use Rattle.std.proofs.Common.{◌≡◌, ℕ, ◌<◌, List, [], ◌∷◌, ◌++◌, Option, None, Some, refl, sym, ap, ◌∙◌, subst, inl, inr, ◌⊎◌, arith}
use Rattle.std.proofs.lemmas.Bool.{cases_eq}
use Rattle.ll1_engine.specs.declared.grammar.Row.{Row}
use Rattle.ll1_engine.specs.declared.fault.Break.TheVariants.{Rank, Nullable as NullableTwice, First, Follow}
use Rattle.ll1_engine.specs.Table.{IsRow, IsToken}
use Rattle.ll1_engine.specs.Trees.{Trees, Node, roots, leaves, AreTrees, Nullable}
use Rattle.ll1_engine.specs.First.{BeginsWith, InFollow}
use Rattle.ll1_engine.specs.Conditions.{IsOther, IsGood}
use Rattle.ll1_engine.specs.Prediction.{PredictsNullable, Predicts}
use Rattle.ll1_engine.specs.Parse.{first_or, TakesRank}
use Rattle.ll1_engine.proofs.TreesLemmas.{same_row, no_parts}
use Rattle.ll1_engine.proofs.FirstLemmas.{Follows, begins_trees, nullable_trees, BeginsWith_token, BeginsWith_head, InFirst_itself}

-- row k is empty, the row with the rank is predicted in its place, and its first token stands next
pub record Yields (g : List Row) (k : ℕ) (r : Row) (next choice : Option ℕ) : Type 0 where
  pub j : ℕ
  pub s : Row
  pub other : IsOther g k r j s
  pub chosen : choice ≡ Some j
  pub token : ℕ
  pub rest : List ℕ
  pub begins : s.right ≡ token ∷ rest
  pub ranked : 0 < s.rank
  pub stands : next ≡ Some token
  pub empty : r.right ≡ []

-- two rows of a symbol that derive the empty list are one
pub one_nullable : (g : List Row) (good : IsGood g) (k j : ℕ) (r s : Row) → IsRow g k r → IsRow g j s → s.left ≡ r.left → Nullable g r.right → Nullable g s.right → j ≡ k
one_nullable g good k j r s h i left n m =
    elim (cases_eq j k) [
      | inl same ↦ same
      | inr apart ↦ absurd (good k r NullableTwice h (record { j = j; s = s; other = record { row = i; left = left; apart = apart }; here = n; there = m }))
    ]

-- two rows of a symbol that begin with one token are one
pub one_first : (g : List Row) (good : IsGood g) (k j : ℕ) (r s : Row) (t : ℕ) → IsRow g k r → IsRow g j s → s.left ≡ r.left → BeginsWith g r.right t → BeginsWith g s.right t → j ≡ k
one_first g good k j r s t h i left b c =
    elim (cases_eq j k) [
      | inl same ↦ same
      | inr apart ↦ absurd (good k r First h (record { token = t; j = j; s = s; other = record { row = i; left = left; apart = apart }; here = b; there = c }))
    ]

-- a row that begins with t beside an empty row k, where t follows their symbol: the row has a rank
pub rank_or_none : (n : ℕ) → (n ≡ 0) ⊎ (0 < n)
rank_or_none n = grind arith

pub nullable_beside_first : (g : List Row) (good : IsGood g) (k j : ℕ) (r s : Row) (t : ℕ) (choice : Option ℕ) → IsRow g k r → IsRow g j s → s.left ≡ r.left → Nullable g r.right → BeginsWith g s.right t → InFollow g r.left (Some t) → choice ≡ Some j → (choice ≡ Some k) ⊎ Yields g k r (Some t) choice
nullable_beside_first g good k j r s t choice h i left n b f e =
    elim (cases_eq j k) [
      | inl same ↦ inl (e ∙ ap (λ (z : ℕ). Some z) same)
      | inr apart ↦ (
          let other : IsOther g k r j s = record { row = i; left = left; apart = apart } in
          let back : IsOther g j s k r = record { row = h; left = sym left; apart = λ same. apart (sym same) } in
          elim (rank_or_none s.rank) [
            | inl plain ↦ absurd (good j s Follow i (record { plain = plain; token = t; j = k; s = r; other = back; empty = n; here = b; behind = subst (λ (x : ℕ). InFollow g x (Some t)) (sym left) f }))
            | inr ranked ↦ (
                let m = good j s Rank i ranked in
                let same_token : m.token ≡ t = BeginsWith_token g m.token m.rest t m.terminal (subst (λ (xs : List ℕ). BeginsWith g xs t) m.begins b) in
                let same_other : k ≡ m.j = m.only k r back in
                let one : r ≡ m.s = same_row g m.j r m.s (subst (λ (z : ℕ). IsRow g z r) same_other h) m.other.row in
                inr (record { j = j; s = s; other = other; chosen = e; token = m.token; rest = m.rest; begins = m.begins; ranked = ranked; stands = ap (λ (z : ℕ). Some z) (sym same_token); empty = ap (λ (q : Row). q.right) one ∙ m.empty }))
          ])
    ]

-- a derivation whose first node is by row k
pub choice_at_end : (g : List Row) (good : IsGood g) (k : ℕ) (r : Row) (choice : Option ℕ) → IsRow g k r → Nullable g r.right → PredictsNullable g r.left choice → choice ≡ Some k
choice_at_end g good k r None h n p = absurd (p k r h refl n)
choice_at_end g good k r (Some j) h n p = ap (λ (z : ℕ). Some z) (one_nullable g good k j r p.0 h p.1 p.2 n p.3)

pub choice_by_first : (g : List Row) (good : IsGood g) (k : ℕ) (r : Row) (t : ℕ) (choice : Option ℕ) → IsRow g k r → BeginsWith g r.right t → Predicts g r.left (Some t) choice → choice ≡ Some k
choice_by_first g good k r t choice h b (inl p) = p.1 ∙ ap (λ (z : ℕ). Some z) (one_first g good k p.0 r p.2.0 t h p.2.1 p.2.2 b p.2.3)
choice_by_first g good k r t choice h b (inr p) = absurd (p.0 k r h refl b)

pub choice_by_follow : (g : List Row) (good : IsGood g) (k : ℕ) (r : Row) (t : ℕ) (choice : Option ℕ) → IsRow g k r → Nullable g r.right → InFollow g r.left (Some t) → Predicts g r.left (Some t) choice → (choice ≡ Some k) ⊎ Yields g k r (Some t) choice
choice_by_follow g good k r t choice h n f (inl p) = nullable_beside_first g good k p.0 r p.2.0 t choice h p.2.1 p.2.2 n p.2.3 f p.1
choice_by_follow g good k r t choice h n f (inr p) = inl (choice_at_end g good k r choice h n p.1)

module _ (g : List Row) (good : IsGood g) (k : ℕ) (r : Row) (c f : Trees) (valid : AreTrees g (Node k r c f)) (behind : Follows g (r.left ∷ roots f)) where
  by_leaves : (choice : Option ℕ) (t : ℕ) (ts ls : List ℕ) → IsToken g t → leaves c ≡ ls → ls ++ leaves f ≡ t ∷ ts → Predicts g r.left (Some t) choice → (choice ≡ Some k) ⊎ Yields g k r (Some t) choice
  by_leaves choice t ts [] h e l p =
      choice_by_follow g good k r t choice valid.0 (subst (Nullable g) valid.1 (nullable_trees g c valid.2 e)) (behind.0 t (begins_trees g f t ts valid.3 l h)) p
  by_leaves choice t ts (u ∷ us) h e l p =
      inl (choice_by_first g good k r t choice valid.0 (subst (λ (xs : List ℕ). BeginsWith g xs t) valid.1 (begins_trees g c t us valid.2 (let same : u ≡ t = cc in cc) h)) p)

  -- the token that the leaves begin with is the one that stands next
  pub choice_of : (choice : Option ℕ) (ts : List ℕ) → ((t : ℕ) (us : List ℕ) → ts ≡ t ∷ us → IsToken g t) → leaves c ++ leaves f ≡ ts → Predicts g r.left (first_or ts None) choice → (choice ≡ Some k) ⊎ Yields g k r (first_or ts None) choice
  choice_of choice [] h l p =
      inl (choice_at_end g good k r choice valid.0 (subst (Nullable g) valid.1 (nullable_trees g c valid.2 (no_parts (leaves c) (leaves f) l).0)) p)
  choice_of choice (t ∷ ts) h l p = by_leaves choice t ts (leaves c) (h t ts refl) refl l p

-- the predicted row is the one that a rank asks for
pub TakesRank_predicted : (g : List Row) (good : IsGood g) (x k : ℕ) (r : Row) (next : Option ℕ) → IsRow g k r → r.left ≡ x → Predicts g x next (Some k) → TakesRank g k r next
TakesRank_predicted g good x k r None h left p = λ j s t rest i same ranked begins stands. absurd (cc)
TakesRank_predicted g good x k r (Some u) h left p = λ j s t rest i same ranked begins stands.
    let m = good j s Rank i ranked in
    let e : m.token ≡ t = (let b : m.token ∷ m.rest ≡ t ∷ rest = sym m.begins ∙ begins in cc) in
    let ut : u ≡ t = cc in
    let b : BeginsWith g s.right u = subst (λ (z : ℕ). BeginsWith g s.right z) (e ∙ sym ut) (subst (λ (xs : List ℕ). BeginsWith g xs m.token) (sym m.begins) (BeginsWith_head g m.token m.rest m.token (InFirst_itself g m.token m.terminal))) in
    taken j s i same b p
  where
    taken : (j : ℕ) (s : Row) → IsRow g j s → s.left ≡ r.left → BeginsWith g s.right u → Predicts g x (Some u) (Some k) → j ≡ k
    taken j s i same b (inl q) = let e : k ≡ q.0 = cc in sym (e ∙ one_first g good j q.0 s q.2.0 u i q.2.1 (q.2.2 ∙ sym (same ∙ left)) b q.2.3)
    taken j s i same b (inr q) = absurd (q.0 j s i (same ∙ left) b)
