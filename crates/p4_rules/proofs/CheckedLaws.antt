-- What is checked is right or wrong.
use Rattle.std.specs.Prelude.{◌≡◌, ◌⊎◌, Contains}
use Rattle.std.proofs.Common.{refl, suc-le-suc, zero-le, inl, inr}
use Rattle.p4_rules.specs.declared.faults.Fault.{Fault}
use Rattle.p4_rules.specs.Faults.{Checked, Right, Wrong, faults_of}

-- the value of what is right, or the first fault of what is wrong
pub value_or_fault : {X : Type 0} (c : Checked X) → ((x : X) × (c ≡ Right x)) ⊎ ((fault : Fault) × Contains (faults_of c) fault)
value_or_fault (Right x) = inl (x, refl)
value_or_fault (Wrong fault more) = inr (fault, (0, suc-le-suc zero-le, refl))
