-- The names of a set, looked up in their order and one by one.
use Rattle.std.proofs.Common.{◌≡◌, ℕ, Bool, true, false, ◌||◌, List, [], ◌∷◌, refl, sym, ap, ◌∙◌}
use Rattle.std.specs.List.{list_any}
use Rattle.std.specs.Str.{bytes_eq}
use Rattle.std.specs.Ordering.{is_eq, nat_cmp, match_ordering}
use Rattle.std.specs.declared.cmp.Ordering.{Ordering}
use Rattle.std.specs.declared.cmp.Ordering.TheVariants.{Less, Equal, Greater}
use Rattle.std.specs.Cmp.Lexicographic.{slice_cmp}
use Rattle.std.specs.BTreeSet.{insert_key}
use Rattle.std.proofs.lemmas.Slice.Eq.{bytes_eq-Decides}
use Rattle.std.proofs.lemmas.Map.Text.{is_eq-slice_cmp}

pub any_by_cmp : {K : Type 0} (bytes : K → List ℕ) (name : List ℕ) (keys : List K) → list_any (λ k. is_eq (slice_cmp nat_cmp name (bytes k))) keys ≡ list_any (λ k. bytes_eq name (bytes k)) keys
any_by_cmp bytes name [] = refl
any_by_cmp bytes name (k ∷ keys) = rw (is_eq-slice_cmp name (bytes k), any_by_cmp bytes name keys) refl

or_again : (a b : Bool) → (a || b) ≡ (a || (a || b))
or_again true b = refl
or_again false b = refl

or_swap : (a b c : Bool) → (a || (b || c)) ≡ (b || (a || c))
or_swap true true c = refl
or_swap true false c = refl
or_swap false b c = refl

insert_by : {K : Type 0} (bytes : K → List ℕ) (name : List ℕ) (new k : K) (keys inserted : List K) (order : Ordering) → slice_cmp nat_cmp (bytes new) (bytes k) ≡ order
    → list_any (λ x. bytes_eq name (bytes x)) inserted ≡ (bytes_eq name (bytes new) || list_any (λ x. bytes_eq name (bytes x)) keys)
    → list_any (λ x. bytes_eq name (bytes x)) (match_ordering order (new ∷ k ∷ keys) (k ∷ keys) (k ∷ inserted)) ≡ (bytes_eq name (bytes new) || list_any (λ x. bytes_eq name (bytes x)) (k ∷ keys))
insert_by bytes name new k keys inserted Less e rest = refl
insert_by bytes name new k keys inserted Equal e rest =
    let same : bytes new ≡ bytes k = (bytes_eq-Decides (bytes new) (bytes k)).0 (sym (is_eq-slice_cmp (bytes new) (bytes k)) ∙ ap is_eq e) in
    rw same (or_again (bytes_eq name (bytes k)) (list_any (λ x. bytes_eq name (bytes x)) keys))
insert_by bytes name new k keys inserted Greater e rest =
    rw rest (or_swap (bytes_eq name (bytes k)) (bytes_eq name (bytes new)) (list_any (λ x. bytes_eq name (bytes x)) keys))

pub any_insert : {K : Type 0} (bytes : K → List ℕ) (name : List ℕ) (new : K) (keys : List K)
    → list_any (λ x. bytes_eq name (bytes x)) (insert_key (λ x y. slice_cmp nat_cmp (bytes x) (bytes y)) keys new) ≡ (bytes_eq name (bytes new) || list_any (λ x. bytes_eq name (bytes x)) keys)
any_insert bytes name new [] = refl
any_insert bytes name new (k ∷ keys) =
    insert_by bytes name new k keys (insert_key (λ x y. slice_cmp nat_cmp (bytes x) (bytes y)) keys new) (slice_cmp nat_cmp (bytes new) (bytes k)) refl (any_insert bytes name new keys)
