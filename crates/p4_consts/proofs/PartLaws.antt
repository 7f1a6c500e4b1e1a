-- What a whole gives after its parts, by the value and the faults of each part.
use Rattle.std.specs.Prelude.{◌≡◌, Option, None, Some, option_map}
use Rattle.std.proofs.Common.{refl, ap, sym, ◌∙◌}
use Rattle.p4_rules.specs.declared.faults.Fault.{Fault}
use Rattle.p4_rules.specs.Faults.{Checked, Right, Wrong, and_then, made_of, both}
use Rattle.p4_consts.specs.Noted.{noted, right_of}
use Rattle.p4_consts.proofs.NotedLaws.{and_then_right, and_then_noted, and_then_wrong, made_of_right, made_of_wrong, made_of_noted, both_right, both_first, both_second, both_noted}

-- a value, and the first of the faults before and behind a part that has this value and notes these faults
abbrev pub Gives : {X : Type 0} → Checked X → Option X → Option Fault → Option Fault → Type 0
Gives p v old new = (v ≡ right_of p) × (new ≡ noted old p)

-- a whole after a part that is wrong, and after one that is right
pub stops : {X Y : Type 0} (p : Checked X) (whole : X → Checked Y) {v : Option X} (old new : Option Fault) →
    v ≡ right_of p → v ≡ None → new ≡ noted old p → Gives (and_then p whole) None old new
stops p whole old new h e n = (
  sym ((and_then_wrong p whole old (sym h ∙ e)).0),
  n ∙ sym ((and_then_wrong p whole old (sym h ∙ e)).1),
)

pub goes_on : {X Y : Type 0} (p : Checked X) (whole : X → Checked Y) (x : X) {v : Option X} {w : Option Y} (old middle new : Option Fault) →
    v ≡ right_of p → v ≡ Some x → middle ≡ noted old p → Gives (whole x) w middle new → Gives (and_then p whole) w old new
goes_on p whole x old middle new h e n g = (
  g.0 ∙ ap right_of (sym (and_then_right p whole x (sym h ∙ e))),
  g.1 ∙ ap (λ first. noted first (whole x)) n ∙ sym (and_then_noted p whole x old (sym h ∙ e)),
)

-- what is made of a part
pub made_stops : {X Y : Type 0} (make : X → Y) (p : Checked X) {v : Option X} (old new : Option Fault) →
    v ≡ right_of p → v ≡ None → new ≡ noted old p → Gives (made_of make p) None old new
made_stops make p old new h e n = (sym (made_of_wrong make p (sym h ∙ e)), n ∙ sym (made_of_noted make p old))

pub made_goes_on : {X Y : Type 0} (make : X → Y) (p : Checked X) (x : X) {v : Option X} (old new : Option Fault) →
    v ≡ right_of p → v ≡ Some x → new ≡ noted old p → Gives (made_of make p) (Some (make x)) old new
made_goes_on make p x old new h e n = (sym (made_of_right make p x (sym h ∙ e)), n ∙ sym (made_of_noted make p old))

-- two parts side by side
pub both_give : {X Y Z : Type 0} (make : X → Y → Z) (p : Checked X) (q : Checked Y) (x : X) (y : Y) {v : Option X} {w : Option Y} (old middle new : Option Fault) →
    v ≡ right_of p → v ≡ Some x → middle ≡ noted old p → w ≡ right_of q → w ≡ Some y → new ≡ noted middle q →
    Gives (both make p q) (Some (make x y)) old new
both_give make p q x y old middle new h e n i f m = (
  sym (both_right make p q x y (sym h ∙ e) (sym i ∙ f)),
  m ∙ ap (λ first. noted first q) n ∙ sym (both_noted make p q old),
)

pub first_stops : {X Y Z : Type 0} (make : X → Y → Z) (p : Checked X) (q : Checked Y) {v : Option X} (old middle new : Option Fault) →
    v ≡ right_of p → v ≡ None → middle ≡ noted old p → new ≡ noted middle q → Gives (both make p q) None old new
first_stops make p q old middle new h e n m = (
  sym (both_first make p q (sym h ∙ e)),
  m ∙ ap (λ first. noted first q) n ∙ sym (both_noted make p q old),
)

pub second_stops : {X Y Z : Type 0} (make : X → Y → Z) (p : Checked X) (q : Checked Y) {w : Option Y} (old middle new : Option Fault) →
    middle ≡ noted old p → w ≡ right_of q → w ≡ None → new ≡ noted middle q → Gives (both make p q) None old new
second_stops make p q old middle new n i f m = (
  sym (both_second make p q (sym i ∙ f)),
  m ∙ ap (λ first. noted first q) n ∙ sym (both_noted make p q old),
)

-- the value of what is made of a part
pub made_of_value : {X Y : Type 0} (make : X → Y) (p : Checked X) → right_of (made_of make p) ≡ option_map make (right_of p)
made_of_value make (Right x) = refl
made_of_value make (Wrong fault more) = refl
