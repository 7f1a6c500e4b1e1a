-- A well-formed built program has no tables, so that its bounded inputs have no entries. Its statements have the numbers from
-- 1 on.
use Rattle.std.proofs.Common.{◌≡◌, ℕ, zero, suc, ◌+◌, ◌-◌, ◌<◌, ◌≤◌, ◌⊎◌, List, [], ◌∷◌, ◌++◌, length, Some, inl, inr, ⊎_elim, refl, sym, ap, ◌∙◌, subst, ap₂, arith}
use Rattle.std.specs.Prelude.{flat_map, slice_get, option_and_then, Contains, IsSomeAnd}
use Rattle.std.proofs.Math.Logic.{∥∥₁_elim}
use Rattle.std.specs.Coded.{Coded-set, coded_list, coded_ℕ}
use Rattle.std.proofs.lemmas.List.{length-map}
use Rattle.std.proofs.lemmas.List.Sorted.{IsPermutation-sym, Contains-permutation, length_permutation}
use Rattle.std.proofs.lemmas.Option.{same_Some, slice_get_within}
use Rattle.p4_program.specs.declared.typed.input.Entry.{Entry}
use Rattle.p4_program.specs.declared.typed.instances.Instance.{Instance}
use Rattle.p4_program.specs.declared.typed.instances.NamedTable.{NamedTable}
use Rattle.p4_program.specs.BoundedInput.{BoundedEntries}
use Rattle.p4_program.specs.Built.{Built, DeclaresNothing, EmptyControl, BuiltIngress}
use Rattle.p4_program.specs.Entries.{FitsTable}
use Rattle.p4_program.specs.Numbered.{numbers_from}
use Rattle.p4_program.specs.Syntax.Callables.{CoreControl}
use Rattle.p4_program.specs.Syntax.Lookup.{control_at, table_in}
use Rattle.p4_program.specs.Syntax.Numbering.{statements_numbered}
use Rattle.p4_program.specs.Syntax.Programs.{CoreProgram}
use Rattle.p4_program.specs.WellFormed.Programs.{WellFormed, InstancesFit, InstanceFits, control_of_instance, block_instances}
use Rattle.p4_meaning.specs.Runs.BuiltRuns.{numbers_of}
use Rattle.p4_meaning.proofs.BuiltBlocks.{some_and, Found, found_control, ingress_of}
use Rattle.p4_meaning.proofs.ListLaws.{Each, each_all, each_in, first_in, later_in, none_in, none_long, first_or_later}

-- ---- lists

in_either : {A : Type 0} (xs ys : List A) (y : A) → Contains (xs ++ ys) y → Contains xs y ⊎ Contains ys y
in_either [] ys y c = inr c
in_either (x ∷ xs) ys y c = ⊎_elim
    (λ (e : x ≡ y). inl (subst (λ z. Contains (x ∷ xs) z) e (first_in x xs)))
    (λ (later : Contains (xs ++ ys) y). ⊎_elim (λ (l : Contains xs y). inl (later_in x y xs l)) (λ (r : Contains ys y). inr r) (in_either xs ys y later))
    (first_or_later x (xs ++ ys) y c)

-- what stands in one of the lists
record InOne {A B : Type 0} (f : A → List B) (xs : List A) (y : B) : Type 0 where
  at : ℕ
  item : A
  is : slice_get xs at ≡ Some item
  has : Contains (f item) y

in_one : {A B : Type 0} (f : A → List B) (xs : List A) (y : B) → Contains (flat_map f xs) y → InOne f xs y
in_one f [] y c = none_in y c
in_one f (x ∷ xs) y c = ⊎_elim
    (λ (here : Contains (f x) y). record { at = 0; item = x; is = refl; has = here })
    (λ (later : Contains (flat_map f xs) y). let found = in_one f xs y later in record { at = suc found.at; item = found.item; is = found.is; has = found.has })
    (in_either (f x) (flat_map f xs) y c)

all_empty : {A B : Type 0} (f : A → List B) (xs : List A) → ((n : ℕ) (x : A) → slice_get xs n ≡ Some x → f x ≡ []) → flat_map f xs ≡ []
all_empty f [] h = refl
all_empty f (x ∷ xs) h = ap₂ (λ ys zs. ys ++ zs) (h 0 x refl) (all_empty f xs (λ n y e. h (suc n) y e))

numbers_have : (first count n : ℕ) → first ≤ n → n < first + count → Contains (numbers_from first count) n
numbers_have first zero n low high = absurd (omega arith)
numbers_have first (suc count) n low high = at_place first count n (n - first) (omega arith) (omega arith)
  where
    at_place : (first count n k : ℕ) → first + k ≡ n → k < suc count → Contains (numbers_from first (suc count)) n
    at_place first count n zero e low = subst (λ m. Contains (first ∷ numbers_from (suc first) count) m) (omega (arith, e)) (first_in first (numbers_from (suc first) count))
    at_place first zero n (suc k) e low = absurd (omega (arith, low))
    at_place first (suc count) n (suc k) e low = later_in first n (numbers_from (suc first) (suc count)) (at_place (suc first) count n k (omega (arith, e)) (omega (arith, low)))

numbers_many : (first count : ℕ) → length (numbers_from first count) ≡ count
numbers_many first zero = refl
numbers_many first (suc count) = ap suc (numbers_many (suc first) count)

-- ---- instances

-- an instance of a control that declares nothing
record Bare (i : Instance) : Type 0 where
  no_child : i.children ≡ []
  no_table : i.tables ≡ []

module _ (p : CoreProgram) (fits : InstancesFit p) where
  abbrev BareAt : ℕ → Type 0
  BareAt n = (i : Instance) → slice_get p.instances n ≡ Some i → Bare i

  bare : (n : ℕ) (P : ℕ → CoreControl → Type 0) → (f : Found p n P) → DeclaresNothing p f.instance.control f.control → BareAt n
  bare n P f declares i e =
      let same : f.instance ≡ i = same_Some f.instance i (sym f.instance_is ∙ e) in
      let fit = some_and (control_at p i.control) (InstanceFits p n i) (fits.each_fits n i e) in
      let control : fit.0 ≡ f.control = same_Some fit.0 f.control (sym fit.1 ∙ ap (λ (j : Instance). control_at p j.control) (sym same) ∙ f.control_is) in
      record {
        no_child = none_long i.children (
            sym (length-map i.children (control_of_instance p)) ∙ ap length fit.2.children_are
            ∙ length-map fit.0.children (λ k. Some k) ∙ ap (λ (c : CoreControl). length c.children) control
            ∙ ap length declares.no_child);
        no_table = none_long i.tables (
            fit.2.tables_fit.as_many ∙ ap (λ (c : CoreControl). length c.tables) control ∙ ap length declares.no_table);
      }

  empty_bare : (n : ℕ) → (f : Found p n (EmptyControl p)) → BareAt n
  empty_bare n f = bare n (EmptyControl p) f f.holds.declares_nothing

  module _ (built : Built p) where
    blocks_bare : Each BareAt (block_instances p)
    blocks_bare =
        let f = ingress_of p built in
        let verify = empty_bare p.blocks.verify (found_control p p.blocks.verify (EmptyControl p) built.verify) in
        let ingress = bare p.blocks.ingress (BuiltIngress p) f f.holds.declares_nothing in
        let egress = empty_bare p.blocks.egress (found_control p p.blocks.egress (EmptyControl p) built.egress) in
        let compute = empty_bare p.blocks.compute (found_control p p.blocks.compute (EmptyControl p) built.compute) in
        let deparser = empty_bare p.blocks.deparser (found_control p p.blocks.deparser (EmptyControl p) built.deparser) in
        (verify, (ingress, (egress, (compute, (deparser, tt)))))

    block_bare : (n : ℕ) → Contains (block_instances p) n → BareAt n
    block_bare n c = each_in BareAt (block_instances p) n blocks_bare c

    abbrev children : List ℕ
    children = flat_map (λ (i : Instance). i.children) p.instances

    -- a child stands before its parent, which is a block; but blocks have no children
    no_child : (k n : ℕ) → ((m : ℕ) → m < length p.instances → length p.instances ≤ m + k → Contains (block_instances p) m)
        → length p.instances ≤ n + suc k → Contains children n → Contains (block_instances p) n
    no_child k n later high c =
        let parent = in_one (λ (i : Instance). i.children) p.instances n c in
        let fit = some_and (control_at p parent.item.control) (InstanceFits p parent.at parent.item) (fits.each_fits parent.at parent.item parent.is) in
        let earlier : n < parent.at = each_in (λ j. j < parent.at) parent.item.children n (each_all (λ j. j < parent.at) parent.item.children fit.2.children_earlier) parent.has in
        let within : parent.at < length p.instances = slice_get_within p.instances parent.at parent.item parent.is in
        let childless = block_bare parent.at (later parent.at within (omega (arith, earlier, high))) parent.item parent.is in
        none_in n (subst (λ ks. Contains ks n) childless.no_child parent.has)

    -- from the last instance on
    is_block : (k n : ℕ) → n < length p.instances → length p.instances ≤ n + k → Contains (block_instances p) n
    is_block zero n low high = absurd (omega (arith, low, high))
    is_block (suc k) n low high =
        let moved = IsPermutation-sym (block_instances p ++ children) (numbers_from 0 (length p.instances)) fits.each_once in
        let among = Contains-permutation (numbers_from 0 (length p.instances)) (block_instances p ++ children) n moved
        (numbers_have 0 (length p.instances) n (omega arith) (omega (arith, low))) in
        ⊎_elim (λ (c : Contains (block_instances p) n). c) (no_child k n (is_block k) high)
        (in_either (block_instances p) children n among)

    each_bare : (n : ℕ) → BareAt n
    each_bare n i e = block_bare n (is_block (length p.instances) n (slice_get_within p.instances n i e) (omega arith)) i e

    no_tables : p.tables ≡ []
    no_tables =
        let none = all_empty (λ (i : Instance). i.tables) p.instances (λ n i e. (each_bare n i e).no_table) in
        let as_many = length_permutation (flat_map (λ (i : Instance). i.tables) p.instances) (numbers_from 0 (length p.tables)) fits.tables_once in
        none_long p.tables (sym (numbers_many 0 (length p.tables)) ∙ as_many ∙ ap length none)

pub tables_are : (p : CoreProgram) → ∥ WellFormed p ∥₁ → Built p → p.tables ≡ []
tables_are p well built =
    none_long p.tables (∥∥₁_elim well (Coded-set coded_ℕ _ _) (λ w. ap length (no_tables p w.instances_fit built)))

-- ---- entries

pub entries_are : (p : CoreProgram) → ∥ WellFormed p ∥₁ → Built p → (limit : ℕ) (es : List Entry) → BoundedEntries p limit es → es ≡ []
entries_are p well built limit [] h = refl
entries_are p well built limit (e ∷ es) h =
    let of_none = subst (λ (ts : List NamedTable). IsSomeAnd (option_and_then (table_in p.callables) (slice_get ts e.table)) (FitsTable p e))
    (tables_are p well built) (h.each_fits 0 e (omega arith)) in
    absurd of_none

-- ---- the numbers of statements

numbers_within : (first count n : ℕ) → Contains (numbers_from first count) n → (first ≤ n) × (n < first + count)
numbers_within first zero n c = none_in n c
numbers_within first (suc count) n c = ⊎_elim
    (λ (e : first ≡ n). (omega (arith, e), omega (arith, e)))
    (λ (later : Contains (numbers_from (suc first) count) n). let found = numbers_within (suc first) count n later in (omega (arith, found.0), omega (arith, found.1)))
    (first_or_later first (numbers_from (suc first) count) n c)

numbers_are : (p : CoreProgram) → ∥ WellFormed p ∥₁ → numbers_of p ≡ numbers_from 1 (length (statements_numbered p))
numbers_are p well = ∥∥₁_elim well (Coded-set (coded_list coded_ℕ) _ _) (λ w. w.numbered)

pub numbered_only : (p : CoreProgram) → ∥ WellFormed p ∥₁ → (n : ℕ) → Contains (numbers_of p) n → (1 ≤ n) × (n ≤ length (statements_numbered p))
numbered_only p well n c =
    let found = numbers_within 1 (length (statements_numbered p)) n (subst (λ ns. Contains ns n) (numbers_are p well) c) in
    (found.0, omega (arith, found.1))

pub numbered_when : (p : CoreProgram) → ∥ WellFormed p ∥₁ → (n : ℕ) → 1 ≤ n → n ≤ length (statements_numbered p) → Contains (numbers_of p) n
numbered_when p well n low high =
    subst (λ ns. Contains ns n) (sym (numbers_are p well)) (numbers_have 1 (length (statements_numbered p)) n low (omega (arith, high)))
