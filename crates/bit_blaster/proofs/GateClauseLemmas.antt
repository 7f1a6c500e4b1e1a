-- A gate's clauses: they are true where the output has the gate's value, they set the output once the operands are set, and
-- no variable stands in one twice.
use Rattle.std.proofs.Common.{◌≡◌, ◌≢◌, ℕ, suc, Bool, true, false, List, [], ◌∷◌, length, refl, ap, ◌∙◌, arith}
use Rattle.std.specs.Prelude.{not, ◌&&◌, ◌||◌, if◌then◌else◌}
use Rattle.std.specs.List.{All}
use Rattle.std.proofs.lemmas.List.Elements.{All-from_recursion}
use Rattle.std.proofs.lemmas.List.Kept.{AllPairs-cons}
use Rattle.bits_core.specs.Circuit.{exclusive_or, carry_bit}
use Rattle.cnf_core.specs.declared.formula.Lit.{Lit}
use Rattle.cnf_core.specs.Literal.{negation, LitSet, IsApart}
use Rattle.bit_blaster.specs.declared.gate.Gate.{Gate}
use Rattle.bit_blaster.specs.declared.gate.Gate.TheVariants.{And, Xor, Choose, Majority}
use Rattle.bit_blaster.specs.Gate.{literal_value, gate_value, IsLiteralOf, GateFits}
use Rattle.bit_blaster.specs.Clauses.{IsClauseOf}
use Rattle.bit_blaster.specs.Tseitin.{gate_clauses}
use Rattle.bit_blaster.proofs.TruthLemmas.{value_of_negation, any_true, Has, has_negation, Closes, second_is_set, third_is_set}

-- ---- they are true

for_two : (f : Bool → Bool → Bool) → f true true ≡ true → f true false ≡ true → f false true ≡ true → f false false ≡ true →
    (a b : Bool) → f a b ≡ true
for_two f tt' tf ft ff true true = tt'
for_two f tt' tf ft ff true false = tf
for_two f tt' tf ft ff false true = ft
for_two f tt' tf ft ff false false = ff

for_three : (f : Bool → Bool → Bool → Bool) → f true true true ≡ true → f true true false ≡ true → f true false true ≡ true →
    f true false false ≡ true → f false true true ≡ true → f false true false ≡ true → f false false true ≡ true →
    f false false false ≡ true → (a b c : Bool) → f a b c ≡ true
for_three f e0 e1 e2 e3 e4 e5 e6 e7 true b c = for_two (f true) e0 e1 e2 e3 b c
for_three f e0 e1 e2 e3 e4 e5 e6 e7 false b c = for_two (f false) e4 e5 e6 e7 b c

module _ (values : List Bool) where
  any_of_two : (k l : Lit) (x y : Bool) → literal_value values k ≡ x → literal_value values l ≡ y → (x || (y || false)) ≡ true →
      any_true values (k ∷ l ∷ []) ≡ true
  any_of_two k l x y ek el e =
      ap (λ (b : Bool). b || (literal_value values l || false)) ek ∙ ap (λ (b : Bool). x || (b || false)) el ∙ e

  any_of_three : (j k l : Lit) (x y z : Bool) → literal_value values j ≡ x → literal_value values k ≡ y → literal_value values l ≡ z →
      (x || (y || (z || false))) ≡ true → any_true values (j ∷ k ∷ l ∷ []) ≡ true
  any_of_three j k l x y z ej ek el e =
      ap (λ (b : Bool). b || (literal_value values k || (literal_value values l || false))) ej
      ∙ ap (λ (b : Bool). x || (b || (literal_value values l || false))) ek
      ∙ ap (λ (b : Bool). x || (y || (b || false))) el
      ∙ e

  negated : (l : Lit) (x : Bool) → literal_value values l ≡ x → literal_value values (negation l) ≡ not x
  negated l x e = value_of_negation values l ∙ ap not e

  pub gate_holds : (gate : Gate) (output : Lit) → literal_value values output ≡ gate_value values gate →
      All (λ clause. any_true values clause ≡ true) (gate_clauses gate output)
  gate_holds (And a b) output e = All-from_recursion (λ clause. any_true values clause ≡ true) (gate_clauses (And a b) output) (
    any_of_two a (negation output) _ _ refl (negated output _ e)
        (for_two (λ x y. x || (not (x && y) || false)) refl refl refl refl (literal_value values a) (literal_value values b)),
    (
      any_of_two b (negation output) _ _ refl (negated output _ e)
          (for_two (λ x y. y || (not (x && y) || false)) refl refl refl refl (literal_value values a) (literal_value values b)),
      (
        any_of_three (negation a) (negation b) output _ _ _ (negated a _ refl) (negated b _ refl) e
            (for_two (λ x y. not x || (not y || ((x && y) || false))) refl refl refl refl (literal_value values a) (literal_value values b)),
        tt,
      ),
    ),
  )
  gate_holds (Xor a b) output e = All-from_recursion (λ clause. any_true values clause ≡ true) (gate_clauses (Xor a b) output) (
    any_of_three (negation a) (negation b) (negation output) _ _ _ (negated a _ refl) (negated b _ refl) (negated output _ e)
        (for_two (λ x y. not x || (not y || (not (exclusive_or x y) || false))) refl refl refl refl (literal_value values a) (literal_value values b)),
    (
      any_of_three (negation a) b output _ _ _ (negated a _ refl) refl e
          (for_two (λ x y. not x || (y || ((exclusive_or x y) || false))) refl refl refl refl (literal_value values a) (literal_value values b)),
      (
        any_of_three a (negation b) output _ _ _ refl (negated b _ refl) e
            (for_two (λ x y. x || (not y || ((exclusive_or x y) || false))) refl refl refl refl (literal_value values a) (literal_value values b)),
        (
          any_of_three a b (negation output) _ _ _ refl refl (negated output _ e)
              (for_two (λ x y. x || (y || (not (exclusive_or x y) || false))) refl refl refl refl (literal_value values a) (literal_value values b)),
          tt,
        ),
      ),
    ),
  )
  gate_holds (Choose c a b) output e = All-from_recursion (λ clause. any_true values clause ≡ true) (gate_clauses (Choose c a b) output) (
    any_of_three (negation c) (negation a) output _ _ _ (negated c _ refl) (negated a _ refl) e
        (for_three (λ x y z. not x || (not y || ((if x then y else z) || false))) refl refl refl refl refl refl refl refl (literal_value values c) (literal_value values a) (literal_value values b)),
    (
      any_of_three (negation c) a (negation output) _ _ _ (negated c _ refl) refl (negated output _ e)
          (for_three (λ x y z. not x || (y || (not (if x then y else z) || false))) refl refl refl refl refl refl refl refl (literal_value values c) (literal_value values a) (literal_value values b)),
      (
        any_of_three c (negation b) output _ _ _ refl (negated b _ refl) e
            (for_three (λ x y z. x || (not z || ((if x then y else z) || false))) refl refl refl refl refl refl refl refl (literal_value values c) (literal_value values a) (literal_value values b)),
        (
          any_of_three c b (negation output) _ _ _ refl refl (negated output _ e)
              (for_three (λ x y z. x || (z || (not (if x then y else z) || false))) refl refl refl refl refl refl refl refl (literal_value values c) (literal_value values a) (literal_value values b)),
          tt,
        ),
      ),
    ),
  )
  gate_holds (Majority a b c) output e = All-from_recursion (λ clause. any_true values clause ≡ true) (gate_clauses (Majority a b c) output) (
    any_of_three (negation a) (negation b) output _ _ _ (negated a _ refl) (negated b _ refl) e
        (for_three (λ x y z. not x || (not y || ((carry_bit x y z) || false))) refl refl refl refl refl refl refl refl (literal_value values a) (literal_value values b) (literal_value values c)),
    (
      any_of_three a b (negation output) _ _ _ refl refl (negated output _ e)
          (for_three (λ x y z. x || (y || (not (carry_bit x y z) || false))) refl refl refl refl refl refl refl refl (literal_value values a) (literal_value values b) (literal_value values c)),
      (
        any_of_three (negation a) (negation c) output _ _ _ (negated a _ refl) (negated c _ refl) e
            (for_three (λ x y z. not x || (not z || ((carry_bit x y z) || false))) refl refl refl refl refl refl refl refl (literal_value values a) (literal_value values b) (literal_value values c)),
        (
          any_of_three a c (negation output) _ _ _ refl refl (negated output _ e)
              (for_three (λ x y z. x || (z || (not (carry_bit x y z) || false))) refl refl refl refl refl refl refl refl (literal_value values a) (literal_value values b) (literal_value values c)),
          (
            any_of_three (negation b) (negation c) output _ _ _ (negated b _ refl) (negated c _ refl) e
                (for_three (λ x y z. not y || (not z || ((carry_bit x y z) || false))) refl refl refl refl refl refl refl refl (literal_value values a) (literal_value values b) (literal_value values c)),
            (
              any_of_three b c (negation output) _ _ _ refl refl (negated output _ e)
                  (for_three (λ x y z. y || (z || (not (carry_bit x y z) || false))) refl refl refl refl refl refl refl refl (literal_value values a) (literal_value values b) (literal_value values c)),
              tt,
            ),
          ),
        ),
      ),
    ),
  )

-- ---- they set the output

module _ (set : LitSet) where
  and_sets : (a b output : Lit) → Closes (gate_clauses (And a b) output) set → (x y : Bool) → Has set a x → Has set b y →
      Has set output (x && y)
  and_sets a b output closes true true h i =
      third_is_set set (gate_clauses (And a b) output) closes (negation a) (negation b) output (2, omega arith, refl) (has_negation set a true h) (has_negation set b true i)
  and_sets a b output closes true false h i =
      second_is_set set (gate_clauses (And a b) output) closes b (negation output) (1, omega arith, refl) i
  and_sets a b output closes false y h i =
      second_is_set set (gate_clauses (And a b) output) closes a (negation output) (0, omega arith, refl) h

  xor_sets : (a b output : Lit) → Closes (gate_clauses (Xor a b) output) set → (x y : Bool) → Has set a x → Has set b y →
      Has set output (exclusive_or x y)
  xor_sets a b output closes true true h i =
      third_is_set set (gate_clauses (Xor a b) output) closes (negation a) (negation b) (negation output) (0, omega arith, refl) (has_negation set a true h) (has_negation set b true i)
  xor_sets a b output closes true false h i =
      third_is_set set (gate_clauses (Xor a b) output) closes (negation a) b output (1, omega arith, refl) (has_negation set a true h) i
  xor_sets a b output closes false true h i =
      third_is_set set (gate_clauses (Xor a b) output) closes a (negation b) output (2, omega arith, refl) h (has_negation set b true i)
  xor_sets a b output closes false false h i =
      third_is_set set (gate_clauses (Xor a b) output) closes a b (negation output) (3, omega arith, refl) h i

  choose_sets : (c a b output : Lit) → Closes (gate_clauses (Choose c a b) output) set → (x y z : Bool) → Has set c x → Has set a y → Has set b z →
      Has set output (if x then y else z)
  choose_sets c a b output closes true true z h i j =
      third_is_set set (gate_clauses (Choose c a b) output) closes (negation c) (negation a) output (0, omega arith, refl) (has_negation set c true h) (has_negation set a true i)
  choose_sets c a b output closes true false z h i j =
      third_is_set set (gate_clauses (Choose c a b) output) closes (negation c) a (negation output) (1, omega arith, refl) (has_negation set c true h) i
  choose_sets c a b output closes false y true h i j =
      third_is_set set (gate_clauses (Choose c a b) output) closes c (negation b) output (2, omega arith, refl) h (has_negation set b true j)
  choose_sets c a b output closes false y false h i j =
      third_is_set set (gate_clauses (Choose c a b) output) closes c b (negation output) (3, omega arith, refl) h j

  majority_sets : (a b c output : Lit) → Closes (gate_clauses (Majority a b c) output) set → (x y z : Bool) → Has set a x → Has set b y → Has set c z →
      Has set output (carry_bit x y z)
  majority_sets a b c output closes true true z h i j =
      third_is_set set (gate_clauses (Majority a b c) output) closes (negation a) (negation b) output (0, omega arith, refl) (has_negation set a true h) (has_negation set b true i)
  majority_sets a b c output closes false false z h i j =
      third_is_set set (gate_clauses (Majority a b c) output) closes a b (negation output) (1, omega arith, refl) h i
  majority_sets a b c output closes true false true h i j =
      third_is_set set (gate_clauses (Majority a b c) output) closes (negation a) (negation c) output (2, omega arith, refl) (has_negation set a true h) (has_negation set c true j)
  majority_sets a b c output closes false true false h i j =
      third_is_set set (gate_clauses (Majority a b c) output) closes a c (negation output) (3, omega arith, refl) h j
  majority_sets a b c output closes false true true h i j =
      third_is_set set (gate_clauses (Majority a b c) output) closes (negation b) (negation c) output (4, omega arith, refl) (has_negation set b true i) (has_negation set c true j)
  majority_sets a b c output closes true false false h i j =
      third_is_set set (gate_clauses (Majority a b c) output) closes b c (negation output) (5, omega arith, refl) i j

  -- where the set has the literals of the values, it has the gate's
  pub gate_sets : (values : List Bool) (gate : Gate) (output : Lit) → Closes (gate_clauses gate output) set →
      GateFits (length values) gate → ((l : Lit) → IsLiteralOf (length values) l → Has set l (literal_value values l)) →
      Has set output (gate_value values gate)
  gate_sets values (And a b) output closes fits has =
      and_sets a b output closes (literal_value values a) (literal_value values b) (has a fits.0) (has b fits.1)
  gate_sets values (Xor a b) output closes fits has =
      xor_sets a b output closes (literal_value values a) (literal_value values b) (has a fits.0) (has b fits.1)
  gate_sets values (Choose c a b) output closes fits has =
      choose_sets c a b output closes (literal_value values c) (literal_value values a) (literal_value values b)
      (has c fits.0) (has a fits.1) (has b fits.2)
  gate_sets values (Majority a b c) output closes fits has =
      majority_sets a b c output closes (literal_value values a) (literal_value values b) (literal_value values c)
      (has a fits.0) (has b fits.1) (has c fits.2)

-- ---- no variable stands in one twice

pub apart_of_one : (l : Lit) → IsApart (l ∷ [])
apart_of_one l i j d before inside = absurd (omega arith)

apart_of_two : (k l : Lit) → k.var ≢ l.var → IsApart (k ∷ l ∷ [])
apart_of_two k l differ =
    AllPairs-cons (λ k l. k.var ≢ l.var) k (l ∷ [])
    (All-from_recursion (λ (m : Lit). k.var ≢ m.var) (l ∷ []) (differ, tt)) (apart_of_one l)

module _ (n : ℕ) where
  two_apart : (k l : Lit) → IsLiteralOf n k → IsLiteralOf n l → k.var ≢ l.var → IsClauseOf n (k ∷ l ∷ [])
  two_apart k l in_k in_l differ = record {
    within = All-from_recursion (IsLiteralOf n) (k ∷ l ∷ []) (in_k, (in_l, tt));
    apart = apart_of_two k l differ;
  }

  three_apart : (j k l : Lit) → IsLiteralOf n j → IsLiteralOf n k → IsLiteralOf n l → j.var ≢ k.var → j.var ≢ l.var → k.var ≢ l.var →
      IsClauseOf n (j ∷ k ∷ l ∷ [])
  three_apart j k l in_j in_k in_l jk jl kl = record {
    within = All-from_recursion (IsLiteralOf n) (j ∷ k ∷ l ∷ []) (in_j, (in_k, (in_l, tt)));
    apart =
        AllPairs-cons (λ k l. k.var ≢ l.var) j (k ∷ l ∷ [])
        (All-from_recursion (λ (m : Lit). j.var ≢ m.var) (k ∷ l ∷ []) (jk, (jl, tt))) (apart_of_two k l kl);
  }

  older : (l : Lit) → IsLiteralOf n l → IsLiteralOf (suc n) l
  older l within = (within.0, omega (arith, within.1))

  is_new : (l output : Lit) → output.var ≡ suc n → IsLiteralOf n l → l.var ≢ output.var
  is_new l output new within same = absurd (omega (arith, within.1, new, same))

  new_within : (output : Lit) → output.var ≡ suc n → IsLiteralOf (suc n) output
  new_within output new = (omega (arith, new), omega (arith, new))

module _ (n : ℕ) (output : Lit) (new : output.var ≡ suc n) where
  with_one : (k l : Lit) → IsLiteralOf n k → l.var ≡ output.var → IsClauseOf (suc n) (k ∷ l ∷ [])
  with_one k l in_k same =
      two_apart (suc n) k l (older n k in_k) (new_within n l (same ∙ new)) (is_new n k l (same ∙ new) in_k)

  with_two : (j k l : Lit) → IsLiteralOf n j → IsLiteralOf n k → j.var ≢ k.var → l.var ≡ output.var → IsClauseOf (suc n) (j ∷ k ∷ l ∷ [])
  with_two j k l in_j in_k differ same =
      three_apart (suc n) j k l (older n j in_j) (older n k in_k) (new_within n l (same ∙ new)) differ (is_new n j l (same ∙ new) in_j)
      (is_new n k l (same ∙ new) in_k)

  pub gate_is_apart : (gate : Gate) → GateFits n gate → All (IsClauseOf (suc n)) (gate_clauses gate output)
  gate_is_apart (And a b) fits = All-from_recursion (IsClauseOf (suc n)) (gate_clauses (And a b) output) (
    with_one a (negation output) fits.0 refl,
    (
      with_one b (negation output) fits.1 refl,
      (
        with_two (negation a) (negation b) output fits.0 fits.1 fits.2 refl,
        tt,
      ),
    ),
  )
  gate_is_apart (Xor a b) fits = All-from_recursion (IsClauseOf (suc n)) (gate_clauses (Xor a b) output) (
    with_two (negation a) (negation b) (negation output) fits.0 fits.1 fits.2 refl,
    (
      with_two (negation a) b output fits.0 fits.1 fits.2 refl,
      (
        with_two a (negation b) output fits.0 fits.1 fits.2 refl,
        (
          with_two a b (negation output) fits.0 fits.1 fits.2 refl,
          tt,
        ),
      ),
    ),
  )
  gate_is_apart (Choose c a b) fits = All-from_recursion (IsClauseOf (suc n)) (gate_clauses (Choose c a b) output) (
    with_two (negation c) (negation a) output fits.0 fits.1 fits.3 refl,
    (
      with_two (negation c) a (negation output) fits.0 fits.1 fits.3 refl,
      (
        with_two c (negation b) output fits.0 fits.2 fits.4 refl,
        (
          with_two c b (negation output) fits.0 fits.2 fits.4 refl,
          tt,
        ),
      ),
    ),
  )
  gate_is_apart (Majority a b c) fits = All-from_recursion (IsClauseOf (suc n)) (gate_clauses (Majority a b c) output) (
    with_two (negation a) (negation b) output fits.0 fits.1 fits.3 refl,
    (
      with_two a b (negation output) fits.0 fits.1 fits.3 refl,
      (
        with_two (negation a) (negation c) output fits.0 fits.2 fits.4 refl,
        (
          with_two a c (negation output) fits.0 fits.2 fits.4 refl,
          (
            with_two (negation b) (negation c) output fits.1 fits.2 fits.5 refl,
            (
              with_two b c (negation output) fits.1 fits.2 fits.5 refl,
              tt,
            ),
          ),
        ),
      ),
    ),
  )
