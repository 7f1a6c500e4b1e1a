-- The first of several faults, whatever the order in which they are told, and what is told of a whole.
use Rattle.std.specs.Prelude.{◌≡◌, ℕ, List, [], ◌∷◌, ◌++◌, Bool, true, false, length, if◌then◌else◌, Ok, Err}
use Rattle.std.proofs.Common.{refl, ap, sym, ◌∙◌}
use Rattle.std.proofs.lemmas.Grind.{common_steps}
use Rattle.std.proofs.lemmas.Bool.{true≢false}
use native.Mathlib.Omega.{arith}
use Rattle.p4_rules.specs.declared.faults.Fault.{Fault}
use Rattle.p4_rules.specs.Faults.{Checked, Right, Wrong, both, and_then, made_of, joined, order_of, comes_first, earlier, least, told}
use Rattle.p4_rules.specs.Told.{both_told, then_told}

-- the order of a dictionary goes through, among words of one length
through : (xs ys zs : List ℕ) → length xs ≡ length ys → length ys ≡ length zs →
    comes_first xs ys ≡ true → comes_first ys zs ≡ true → comes_first xs zs ≡ true
through [] [] [] p q r s = refl
through [] [] (z ∷ zs) p q r s = grind arith
through [] (y ∷ ys) zs p q r s = grind arith
through (x ∷ xs) [] zs p q r s = grind arith
through (x ∷ xs) (y ∷ ys) [] p q r s = grind arith
through (x ∷ xs) (y ∷ ys) (z ∷ zs) p q r s =
    let next : comes_first xs ys ≡ true → comes_first ys zs ≡ true → comes_first xs zs ≡ true
    = through xs ys zs (grind arith) (grind arith)
    in grind (arith, common_steps)

-- of two words one comes first
pub either : (xs ys : List ℕ) → comes_first xs ys ≡ false → comes_first ys xs ≡ true
either [] ys p = grind arith
either (x ∷ xs) [] p = grind arith
either (x ∷ xs) (y ∷ ys) p =
    let next : comes_first xs ys ≡ false → comes_first ys xs ≡ true = either xs ys
    in grind (arith, common_steps)

pub one_first : (f g : Fault) → comes_first (order_of f) (order_of g) ≡ true → earlier f g ≡ f
one_first f g p = ap (λ b. if b then f else g) p

pub other_first : (f g : Fault) → comes_first (order_of f) (order_of g) ≡ false → earlier f g ≡ g
other_first f g p = ap (λ b. if b then f else g) p

before_both : (f g h : Fault) → comes_first (order_of f) (order_of g) ≡ true → comes_first (order_of g) (order_of h) ≡ true →
    earlier f (earlier g h) ≡ earlier (earlier f g) h
before_both f g h p q =
    ap (earlier f) (one_first g h q) ∙ one_first f g p
    ∙ sym (one_first f h (through (order_of f) (order_of g) (order_of h) refl refl p q))
    ∙ ap (λ d. earlier d h) (sym (one_first f g p))

behind_last : (f g h : Fault) (b : Bool) → comes_first (order_of f) (order_of g) ≡ false → comes_first (order_of g) (order_of h) ≡ false →
    comes_first (order_of f) (order_of h) ≡ b → earlier f (earlier g h) ≡ earlier (earlier f g) h
behind_last f g h false p q r =
    ap (earlier f) (other_first g h q) ∙ other_first f h r ∙ sym (other_first g h q) ∙ ap (λ d. earlier d h) (sym (other_first f g p))
behind_last f g h true p q r =
    absurd (true≢false (sym (through (order_of f) (order_of h) (order_of g) refl refl r (either (order_of g) (order_of h) q)) ∙ p))

by_cases : (f g h : Fault) (a b : Bool) → comes_first (order_of f) (order_of g) ≡ a → comes_first (order_of g) (order_of h) ≡ b →
    earlier f (earlier g h) ≡ earlier (earlier f g) h
by_cases f g h true true p q = before_both f g h p q
by_cases f g h true false p q = ap (earlier f) (other_first g h q) ∙ ap (λ d. earlier d h) (sym (one_first f g p))
by_cases f g h false true p q =
    ap (earlier f) (one_first g h q) ∙ other_first f g p ∙ sym (one_first g h q) ∙ ap (λ d. earlier d h) (sym (other_first f g p))
by_cases f g h false false p q = behind_last f g h (comes_first (order_of f) (order_of h)) p q refl

pub earlier_apart : (f g h : Fault) → earlier f (earlier g h) ≡ earlier (earlier f g) h
earlier_apart f g h = by_cases f g h (comes_first (order_of f) (order_of g)) (comes_first (order_of g) (order_of h)) refl refl

pub least_joined : (f : Fault) (more : List Fault) (g : Fault) (others : List Fault) → least f (more ++ g ∷ others) ≡ earlier (least f more) (least g others)
least_joined f [] g others = refl
least_joined f (h ∷ more) g others = ap (earlier f) (least_joined h more g others) ∙ earlier_apart f (least h more) (least g others)

-- ---- what is told

pub told_both : {A B C : Type 0} (make : A → B → C) (a : Checked A) (b : Checked B) → told (both make a b) ≡ both_told make (told a) (told b)
told_both make (Right x) (Right y) = refl
told_both make (Right x) (Wrong fault more) = refl
told_both make (Wrong fault more) (Right y) = refl
told_both make (Wrong fault more) (Wrong other others) = ap Err (least_joined fault more other others)

pub told_then : {A B : Type 0} (a : Checked A) (whole : A → Checked B) → told (and_then a whole) ≡ then_told (told a) (λ x. told (whole x))
told_then (Right x) whole = refl
told_then (Wrong fault more) whole = refl

pub told_made : {A B : Type 0} (make : A → B) (a : Checked A) → told (made_of make a) ≡ then_told (told a) (λ x. Ok (make x))
told_made make (Right x) = refl
told_made make (Wrong fault more) = refl

pub told_joined : {A : Type 0} (c : Checked (Checked A)) → told (joined c) ≡ then_told (told c) told
told_joined (Right x) = refl
told_joined (Wrong fault more) = refl
