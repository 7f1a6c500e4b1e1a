-- What is judged of a part that is right.
use Rattle.std.proofs.Common.{◌≡◌, sym, ap, ◌∙◌, Option, Some}
use Rattle.p4_rules.specs.declared.faults.Fault.{Fault}
use Rattle.p4_rules.specs.Faults.{Checked, and_then}
use Rattle.p4_consts.specs.Noted.{noted, right_of}
use Rattle.p4_consts.proofs.NotedLaws.{and_then_right, and_then_noted}

pub guarded : {X Y : Type 0} (p : Checked X) (whole : X → Checked Y) (x : X) (y : Checked Y) →
    right_of p ≡ Some x → y ≡ whole x → y ≡ and_then p whole
guarded p whole x y e f = f ∙ sym (and_then_right p whole x e)

pub guarded_noted : {X Y : Type 0} (p : Checked X) (whole : X → Checked Y) (x : X) (y : Checked Y) (first now : Option Fault) →
    right_of p ≡ Some x → y ≡ whole x → now ≡ noted first p → noted now y ≡ noted first (and_then p whole)
guarded_noted p whole x y first now e f g =
    ap (noted now) f ∙ ap (λ h. noted h (whole x)) g ∙ sym (and_then_noted p whole x first e)
