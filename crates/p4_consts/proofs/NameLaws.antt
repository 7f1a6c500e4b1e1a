-- Names found by their bytes among entries whose keys have these bytes.
use Rattle.std.specs.Prelude.{◌≡◌, ℕ, ◌+◌, List, [], ◌∷◌, ◌++◌, map, Bool, true, false, cond, not, nat_eq, nat_lt, length, None, Some, is_some}
use Rattle.std.proofs.Common.{refl, ap, sym, ◌∙◌, true≢false, if◌then◌else◌}
use Rattle.std.proofs.lemmas.List.{length-map}
use Rattle.std.proofs.lemmas.Cmp.{nat_list_eq_equiv}
use Rattle.std.specs.Cmp.Lexicographic.{pointwise}
use Rattle.std.specs.Map.{lookup}
use Rattle.std.specs.List.{position, position_or_len, prefix_len}
use Rattle.std.specs.Str.{bytes_eq}
use Rattle.indexmap.specs.IndexMap.{insert_entry}

module _ {X Y Z : Type 0} (f : X → Y) (g : X → Z) (p : Y → Bool) (r : Z → Bool) (alike : (x : X) → p (f x) ≡ r (g x)) where
  prefix_alike : (xs : List X) → prefix_len (λ y. not (p y)) (map f xs) ≡ prefix_len (λ z. not (r z)) (map g xs)
  prefix_alike [] = refl
  prefix_alike (x ∷ xs) = ap (λ b. cond (not b) (1 + prefix_len (λ y. not (p y)) (map f xs)) 0) (alike x) ∙ ap (λ n. cond (not (r (g x))) (1 + n) 0) (prefix_alike xs)

  position_alike : (xs : List X) → position p (map f xs) ≡ position r (map g xs)
  position_alike xs =
      ap (λ n. cond (nat_lt n (length (map f xs))) (Some n) None) (prefix_alike xs)
      ∙ ap (λ m. cond (nat_lt (position_or_len r (map g xs)) m) (Some (position_or_len r (map g xs))) None) (length-map xs f ∙ sym (length-map xs g))

module _ {K V : Type 0} (items : K → List ℕ) where
  -- entries as names and values
  abbrev pub shown : List (K × V) → List (List ℕ × V)
  shown es = map (λ e. (items e.0, e.1)) es

  pub shown_lookup : (q : List ℕ) (es : List (K × V)) → lookup (λ other. bytes_eq other q) (map (λ e. (items e.0, e.1)) es) ≡ lookup (λ k. pointwise nat_eq q (items k)) es
  shown_lookup q [] = refl
  shown_lookup q (e ∷ es) =
      ap (λ b. cond b (Some e.1) (lookup (λ other. bytes_eq other q) (shown es))) (nat_list_eq_equiv.symm (items e.0) q)
      ∙ ap (λ r. cond (pointwise nat_eq q (items e.0)) (Some e.1) r) (shown_lookup q es)

  pub shown_position : (q : List ℕ) (es : List (K × V)) → position {X = List ℕ × V} (λ e. bytes_eq e.0 q) (map (λ e. (items e.0, e.1)) es) ≡ position (λ k. pointwise nat_eq q (items k)) (map (λ e. e.0) es)
  shown_position q es = position_alike (λ e. (items e.0, e.1)) (λ e. e.0) (λ e. bytes_eq e.0 q) (λ k. pointwise nat_eq q (items k)) (λ e. nat_list_eq_equiv.symm (items e.0) q) es

  -- a name that is not there goes last
  inserted : (q : K) (v : V) (e : K × V) (es : List (K × V)) (b : Bool) → pointwise nat_eq (items q) (items e.0) ≡ b →
      (is_some (lookup (λ k. pointwise nat_eq (items q) (items k)) es) ≡ false →
      shown (insert_entry (λ x y. pointwise nat_eq (items x) (items y)) es q v) ≡ shown es ++ (items q, v) ∷ []) →
      is_some (lookup (λ k. pointwise nat_eq (items q) (items k)) (e ∷ es)) ≡ false →
      shown (insert_entry (λ x y. pointwise nat_eq (items x) (items y)) (e ∷ es) q v) ≡ shown (e ∷ es) ++ (items q, v) ∷ []
  inserted q v e es true t rest h = absurd (true≢false (sym (ap (λ b. is_some (cond b (Some e.1) (lookup (λ k. pointwise nat_eq (items q) (items k)) es))) t) ∙ h))
  inserted q v e es false t rest h =
      ap (λ b. shown (cond b ((e.0, v) ∷ es) (e ∷ insert_entry (λ x y. pointwise nat_eq (items x) (items y)) es q v))) t
      ∙ ap (λ l. (items e.0, e.1) ∷ l) (rest (sym (ap (λ b. is_some (cond b (Some e.1) (lookup (λ k. pointwise nat_eq (items q) (items k)) es))) t) ∙ h))

  pub shown_insert : (q : K) (v : V) (es : List (K × V)) → is_some (lookup (λ k. pointwise nat_eq (items q) (items k)) es) ≡ false →
      shown (insert_entry (λ x y. pointwise nat_eq (items x) (items y)) es q v) ≡ shown es ++ (items q, v) ∷ []
  shown_insert q v [] h = refl
  shown_insert q v (e ∷ es) h = inserted q v e es (pointwise nat_eq (items q) (items e.0)) refl (shown_insert q v es) h

pub kept : {X : Type 0} (b : Bool) (x y : X) → b ≡ true → x ≡ (if b then x else y)
kept b x y h = sym (ap (λ c. if c then x else y) h)

pub joined : {X : Type 0} (b : Bool) (x y z : X) → b ≡ false → z ≡ y → z ≡ (if b then x else y)
joined b x y z h e = e ∙ sym (ap (λ c. if c then x else y) h)
