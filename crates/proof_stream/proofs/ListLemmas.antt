-- Variables that are apart.
use Rattle.std.proofs.Common.{◌≡◌, ℕ, List}
use Rattle.std.proofs.lemmas.Map.Views.{btree_set_len-from_list}
use Rattle.std.specs.BTreeSet.{BTreeSet, btree_set_len}
use Rattle.std.specs.BTreeSet as sorted
use Rattle.std.specs.Cmp.{nat_cmp_total}
use Rattle.std.specs.Ordering.{nat_cmp, eq_by_cmp}
use Rattle.std.specs.Set.{distinct_count}

pub set_len : (xs : List ℕ) (n : BTreeSet ℕ) → sorted.IsFromIterResult nat_cmp xs n → btree_set_len n ≡ distinct_count (eq_by_cmp nat_cmp) xs
set_len xs n h = btree_set_len-from_list nat_cmp_total xs n h
