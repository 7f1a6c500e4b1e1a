-- What is checked is right, or some refusal of it decides: that of the fault that is told.
use Rattle.std.specs.Prelude.{◌≡◌, ℕ, ◌⊎◌, [], ◌∷◌, Contains, Ok, Err}
use Rattle.std.proofs.Common.{refl, ap, subst, inl, inr}
use Rattle.std.proofs.Math.Nat.{not-suc-le-zero}
use Rattle.tg_base.specs.declared.place.Refusal.{Refusal}
use Rattle.p4_rules.specs.declared.faults.Fault.{Fault}
use Rattle.p4_rules.specs.Faults.{Checked, Right, Wrong, faults_of, Decides, pass_number, refusal_of, least, told}
use Rattle.p4_rules.proofs.DecidingLaws.{least_decides}

pub value_or_refusal : {X : Type 0} (c : Checked X) → ((x : X) × (c ≡ Right x)) ⊎ ((pass : ℕ) × (refusal : Refusal) × Decides (faults_of c) pass refusal)
value_or_refusal (Right x) = inl (x, refl)
value_or_refusal (Wrong fault more) =
    inr (pass_number (least fault more).pass, refusal_of (least fault more), least_decides fault more)

none_there : (fault : Fault) → ¬ Contains [] fault
none_there fault (k, within, is) = not-suc-le-zero within

-- what is right has no refusal
pub none_of_right : {X : Type 0} (c : Checked X) (x : X) (pass : ℕ) (refusal : Refusal) → c ≡ Right x → ¬ Decides (faults_of c) pass refusal
none_of_right c x pass refusal right decides =
    let none : faults_of c ≡ [] = ap faults_of right in
    let there = decides.1.found in
    none_there there.fault (subst (λ fs. Contains fs there.fault) none there.found)

-- what is told is what it is
pub right_told : {X : Type 0} (c : Checked X) (x : X) → told c ≡ Ok x → c ≡ Right x
right_told (Right y) x is = let same : y ≡ x = cc in ap (λ z. Right z) same
right_told (Wrong fault more) x is = absurd cc

pub fault_told : {X : Type 0} (c : Checked X) (fault : Fault) → told c ≡ Err fault → Decides (faults_of c) (pass_number fault.pass) (refusal_of fault)
fault_told (Right x) fault is = absurd cc
fault_told (Wrong f more) fault is =
    let same : least f more ≡ fault = cc in
    subst (λ g. Decides (f ∷ more) (pass_number g.pass) (refusal_of g)) same (least_decides f more)
