-- Parts side by side, noted one after the other.
use Rattle.std.specs.Prelude.{◌≡◌, List, [], ◌∷◌, ◌++◌, Option, None, Some}
use Rattle.std.specs.List.{fold}
use Rattle.std.proofs.Common.{refl, ap, sym, ◌∙◌}
use Rattle.std.proofs.lemmas.Grind.{common_steps}
use Rattle.std.proofs.lemmas.List.Sums.{fold-append}
use native.Mathlib.Omega.{arith}
use Rattle.p4_rules.specs.declared.faults.Fault.{Fault}
use Rattle.p4_rules.specs.Faults.{Checked, Right, Wrong, faults_of, and_then, made_of, both, all_three, joined, with_both, with_three, all_of}
use Rattle.p4_consts.specs.Noted.{noted, right_of, first_with}

-- what two right parts make
pub with_both_right : {X Y Z : Type 0} (whole : X → Y → Checked Z) (p : Checked X) (q : Checked Y) (x : X) (y : Y) →
    right_of p ≡ Some x → right_of q ≡ Some y → with_both whole p q ≡ whole x y
with_both_right whole p q x y = grind (arith, common_steps)

pub both_faults : {X Y Z : Type 0} (make : X → Y → Z) (p : Checked X) (q : Checked Y) → faults_of (both make p q) ≡ faults_of p ++ faults_of q
both_faults make p q = grind (arith, common_steps)

pub both_noted : {X Y Z : Type 0} (make : X → Y → Z) (p : Checked X) (q : Checked Y) (first : Option Fault) →
    noted first (both make p q) ≡ noted (noted first p) q
both_noted make p q first = ap (fold first_with first) (both_faults make p q) ∙ fold-append first_with first (faults_of p) (faults_of q)

pub joined_wrong : {X : Type 0} (p : Checked (Checked X)) (first : Option Fault) → right_of p ≡ None → noted first (joined p) ≡ noted first p
joined_wrong (Right x) first e = grind (arith, common_steps)
joined_wrong (Wrong fault more) first e = refl

pub both_first : {X Y Z : Type 0} (make : X → Y → Z) (p : Checked X) (q : Checked Y) → right_of p ≡ None → right_of (both make p q) ≡ None
both_first make p q e = grind (arith, common_steps)

pub both_second : {X Y Z : Type 0} (make : X → Y → Z) (p : Checked X) (q : Checked Y) → right_of q ≡ None → right_of (both make p q) ≡ None
both_second make p q e = grind (arith, common_steps)

joined_none : {X : Type 0} (p : Checked (Checked X)) → right_of p ≡ None → right_of (joined p) ≡ None
joined_none p e = grind (arith, common_steps)

-- where one of two parts is wrong, their faults are noted and the whole has no value
pub with_both_first : {X Y Z : Type 0} (whole : X → Y → Checked Z) (p : Checked X) (q : Checked Y) (first : Option Fault) →
    right_of p ≡ None → (right_of (with_both whole p q) ≡ None) × (noted first (with_both whole p q) ≡ noted (noted first p) q)
with_both_first whole p q first e = (
  joined_none (both whole p q) (both_first whole p q e),
  joined_wrong (both whole p q) first (both_first whole p q e) ∙ both_noted whole p q first,
)

pub with_both_second : {X Y Z : Type 0} (whole : X → Y → Checked Z) (p : Checked X) (q : Checked Y) (first : Option Fault) →
    right_of q ≡ None → (right_of (with_both whole p q) ≡ None) × (noted first (with_both whole p q) ≡ noted (noted first p) q)
with_both_second whole p q first e = (
  joined_none (both whole p q) (both_second whole p q e),
  joined_wrong (both whole p q) first (both_second whole p q e) ∙ both_noted whole p q first,
)

-- what is right notes nothing
pub right_noted : {X : Type 0} (p : Checked X) (x : X) (first : Option Fault) → right_of p ≡ Some x → noted first p ≡ first
right_noted (Right y) x first e = refl
right_noted (Wrong fault more) x first e = grind (arith, common_steps)

-- where both parts are right, the whole notes its own faults after theirs, which are none
pub with_both_noted : {X Y Z : Type 0} (whole : X → Y → Checked Z) (p : Checked X) (q : Checked Y) (x : X) (y : Y) (first : Option Fault) →
    right_of p ≡ Some x → right_of q ≡ Some y → noted first (with_both whole p q) ≡ noted (noted (noted first p) q) (whole x y)
with_both_noted whole p q x y first e f =
    ap (noted first) (with_both_right whole p q x y e f)
    ∙ ap (λ g. noted g (whole x y)) (sym (right_noted q y (noted first p) f ∙ right_noted p x first e))

-- ---- three parts

pub with_three_right : {X Y Z W : Type 0} (whole : X → Y → Z → Checked W) (p : Checked X) (q : Checked Y) (r : Checked Z) (x : X) (y : Y) (z : Z) →
    right_of p ≡ Some x → right_of q ≡ Some y → right_of r ≡ Some z → with_three whole p q r ≡ whole x y z
with_three_right whole p q r x y z = grind (arith, common_steps)

pub all_three_noted : {X Y Z W : Type 0} (make : X → Y → Z → W) (p : Checked X) (q : Checked Y) (r : Checked Z) (first : Option Fault) →
    noted first (all_three make p q r) ≡ noted (noted (noted first p) q) r
all_three_noted make p q r first =
    both_noted (λ f z. f z) (both make p q) r first ∙ ap (λ g. noted g r) (both_noted make p q first)

pub with_three_noted : {X Y Z W : Type 0} (whole : X → Y → Z → Checked W) (p : Checked X) (q : Checked Y) (r : Checked Z) (x : X) (y : Y) (z : Z)
    (first : Option Fault) → right_of p ≡ Some x → right_of q ≡ Some y → right_of r ≡ Some z →
    noted first (with_three whole p q r) ≡ noted (noted (noted (noted first p) q) r) (whole x y z)
with_three_noted whole p q r x y z first e f g =
    ap (noted first) (with_three_right whole p q r x y z e f g)
    ∙ ap (λ h. noted h (whole x y z)) (sym (right_noted r z (noted (noted first p) q) g ∙ right_noted q y (noted first p) f ∙ right_noted p x first e))

three_wrong : {X Y Z W : Type 0} (whole : X → Y → Z → Checked W) (p : Checked X) (q : Checked Y) (r : Checked Z) (first : Option Fault) →
    right_of (all_three whole p q r) ≡ None →
    (right_of (with_three whole p q r) ≡ None) × (noted first (with_three whole p q r) ≡ noted (noted (noted first p) q) r)
three_wrong whole p q r first e = (
  joined_none (all_three whole p q r) e,
  joined_wrong (all_three whole p q r) first e ∙ all_three_noted whole p q r first,
)

-- where one of three parts is wrong, their faults are noted and the whole has no value
pub with_three_first : {X Y Z W : Type 0} (whole : X → Y → Z → Checked W) (p : Checked X) (q : Checked Y) (r : Checked Z) (first : Option Fault) →
    right_of p ≡ None →
    (right_of (with_three whole p q r) ≡ None) × (noted first (with_three whole p q r) ≡ noted (noted (noted first p) q) r)
with_three_first whole p q r first e =
    three_wrong whole p q r first (both_first (λ f z. f z) (both whole p q) r (both_first whole p q e))

pub with_three_second : {X Y Z W : Type 0} (whole : X → Y → Z → Checked W) (p : Checked X) (q : Checked Y) (r : Checked Z) (first : Option Fault) →
    right_of q ≡ None →
    (right_of (with_three whole p q r) ≡ None) × (noted first (with_three whole p q r) ≡ noted (noted (noted first p) q) r)
with_three_second whole p q r first e =
    three_wrong whole p q r first (both_first (λ f z. f z) (both whole p q) r (both_second whole p q e))

pub with_three_third : {X Y Z W : Type 0} (whole : X → Y → Z → Checked W) (p : Checked X) (q : Checked Y) (r : Checked Z) (first : Option Fault) →
    right_of r ≡ None →
    (right_of (with_three whole p q r) ≡ None) × (noted first (with_three whole p q r) ≡ noted (noted (noted first p) q) r)
with_three_third whole p q r first e = three_wrong whole p q r first (both_second (λ f z. f z) (both whole p q) r e)

-- ---- one part

pub and_then_right : {X Y : Type 0} (p : Checked X) (whole : X → Checked Y) (x : X) → right_of p ≡ Some x → and_then p whole ≡ whole x
and_then_right p whole x = grind (arith, common_steps)

pub and_then_noted : {X Y : Type 0} (p : Checked X) (whole : X → Checked Y) (x : X) (first : Option Fault) →
    right_of p ≡ Some x → noted first (and_then p whole) ≡ noted (noted first p) (whole x)
and_then_noted p whole x first e =
    ap (noted first) (and_then_right p whole x e) ∙ ap (λ g. noted g (whole x)) (sym (right_noted p x first e))

pub and_then_wrong : {X Y : Type 0} (p : Checked X) (whole : X → Checked Y) (first : Option Fault) → right_of p ≡ None →
    (right_of (and_then p whole) ≡ None) × (noted first (and_then p whole) ≡ noted first p)
and_then_wrong (Right x) whole first e = grind (arith, common_steps)
and_then_wrong (Wrong fault more) whole first e = (refl, refl)

pub made_of_right : {X Y : Type 0} (make : X → Y) (p : Checked X) (x : X) → right_of p ≡ Some x → right_of (made_of make p) ≡ Some (make x)
made_of_right make p x = grind (arith, common_steps)

pub made_of_wrong : {X Y : Type 0} (make : X → Y) (p : Checked X) → right_of p ≡ None → right_of (made_of make p) ≡ None
made_of_wrong make p = grind (arith, common_steps)

pub made_of_noted : {X Y : Type 0} (make : X → Y) (p : Checked X) (first : Option Fault) → noted first (made_of make p) ≡ noted first p
made_of_noted make (Right x) first = refl
made_of_noted make (Wrong fault more) first = refl

-- ---- parts in a row

pub both_right : {X Y Z : Type 0} (make : X → Y → Z) (p : Checked X) (q : Checked Y) (x : X) (y : Y) →
    right_of p ≡ Some x → right_of q ≡ Some y → right_of (both make p q) ≡ Some (make x y)
both_right make p q x y = grind (arith, common_steps)

pub all_of_first : {X : Type 0} (p : Checked X) (parts : List (Checked X)) → right_of p ≡ None → right_of (all_of (p ∷ parts)) ≡ None
all_of_first p parts e = both_first (λ x xs. x ∷ xs) p (all_of parts) e

pub all_of_rest : {X : Type 0} (p : Checked X) (parts : List (Checked X)) → right_of (all_of parts) ≡ None → right_of (all_of (p ∷ parts)) ≡ None
all_of_rest p parts e = both_second (λ x xs. x ∷ xs) p (all_of parts) e

pub all_of_right : {X : Type 0} (p : Checked X) (parts : List (Checked X)) (x : X) (xs : List X) →
    right_of p ≡ Some x → right_of (all_of parts) ≡ Some xs → right_of (all_of (p ∷ parts)) ≡ Some (x ∷ xs)
all_of_right p parts x xs e f = both_right (λ y ys. y ∷ ys) p (all_of parts) x xs e f

pub all_of_noted : {X : Type 0} (p : Checked X) (parts : List (Checked X)) (first : Option Fault) →
    noted first (all_of (p ∷ parts)) ≡ noted (noted first p) (all_of parts)
all_of_noted p parts first = both_noted (λ x xs. x ∷ xs) p (all_of parts) first

-- one more part behind a row
pub all_of_pushed_noted : {X : Type 0} (parts : List (Checked X)) (p : Checked X) (first : Option Fault) →
    noted first (all_of (parts ++ p ∷ [])) ≡ noted (noted first (all_of parts)) p
all_of_pushed_noted [] p first = all_of_noted p [] first
all_of_pushed_noted (q ∷ parts) p first =
    all_of_noted q (parts ++ p ∷ []) first ∙ all_of_pushed_noted parts p (noted first q)
    ∙ ap (λ g. noted g p) (sym (all_of_noted q parts first))

pushed_step : {X : Type 0} (q : Checked X) (row pushed : Checked (List X)) (xs : List X) (x : X) →
    ((ys : List X) → right_of row ≡ Some ys → right_of pushed ≡ Some (ys ++ x ∷ [])) →
    right_of (both (λ y ys. y ∷ ys) q row) ≡ Some xs → right_of (both (λ y ys. y ∷ ys) q pushed) ≡ Some (xs ++ x ∷ [])
pushed_step (Right y) (Right ys) pushed xs x h e =
    let whole : y ∷ ys ≡ xs = cc in
    both_right (λ z zs. z ∷ zs) (Right y) pushed y (ys ++ x ∷ []) refl (h ys refl) ∙ ap (λ zs. Some (zs ++ x ∷ [])) whole
pushed_step (Right y) (Wrong fault more) pushed xs x h e = absurd (cc)
pushed_step (Wrong fault more) (Right ys) pushed xs x h e = absurd (cc)
pushed_step (Wrong fault more) (Wrong other others) pushed xs x h e = absurd (cc)

pub all_of_pushed_right : {X : Type 0} (parts : List (Checked X)) (p : Checked X) (xs : List X) (x : X) →
    right_of (all_of parts) ≡ Some xs → right_of p ≡ Some x → right_of (all_of (parts ++ p ∷ [])) ≡ Some (xs ++ x ∷ [])
all_of_pushed_right [] p xs x e f =
    let none : [] ≡ xs = cc in
    all_of_right p [] x [] f refl ∙ ap (λ zs. Some (zs ++ x ∷ [])) none
all_of_pushed_right (q ∷ parts) p xs x e f =
    pushed_step q (all_of parts) (all_of (parts ++ p ∷ [])) xs x (λ ys g. all_of_pushed_right parts p ys x g f) e

pub all_of_pushed_last : {X : Type 0} (parts : List (Checked X)) (p : Checked X) → right_of p ≡ None → right_of (all_of (parts ++ p ∷ [])) ≡ None
all_of_pushed_last [] p e = all_of_first p [] e
all_of_pushed_last (q ∷ parts) p e = all_of_rest q (parts ++ p ∷ []) (all_of_pushed_last parts p e)

wrong_step : {X : Type 0} (q : Checked X) (row pushed : Checked (List X)) → (right_of row ≡ None → right_of pushed ≡ None) →
    right_of (both (λ y ys. y ∷ ys) q row) ≡ None → right_of (both (λ y ys. y ∷ ys) q pushed) ≡ None
wrong_step (Right y) (Right ys) pushed h e = absurd (cc)
wrong_step (Right y) (Wrong fault more) pushed h e = both_second (λ z zs. z ∷ zs) (Right y) pushed (h refl)
wrong_step (Wrong fault more) row pushed h e = both_first (λ z zs. z ∷ zs) (Wrong fault more) pushed refl

pub all_of_pushed_first : {X : Type 0} (parts : List (Checked X)) (p : Checked X) →
    right_of (all_of parts) ≡ None → right_of (all_of (parts ++ p ∷ [])) ≡ None
all_of_pushed_first [] p e = absurd (cc)
all_of_pushed_first (q ∷ parts) p e = wrong_step q (all_of parts) (all_of (parts ++ p ∷ [])) (all_of_pushed_first parts p) e
