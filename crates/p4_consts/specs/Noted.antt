-- What a judgement in code gives of a part of a source: its value where it is right, and its faults noted.
use Rattle.std.specs.Prelude.{Option, None, Some}
use Rattle.std.specs.List.{fold}
use Rattle.p4_rules.specs.declared.faults.Fault.{Fault}
use Rattle.p4_rules.specs.Faults.{Checked, Right, Wrong, earlier, faults_of}

-- the first of the faults so far and one more
abbrev pub first_with : Option Fault → Fault → Option Fault
first_with None fault = Some fault
first_with (Some first) fault = Some (earlier first fault)

-- the first of the faults so far and those of a part
abbrev pub noted : {X : Type 0} → Option Fault → Checked X → Option Fault
noted first part = fold first_with first (faults_of part)

-- the value of what is right
abbrev pub right_of : {X : Type 0} → Checked X → Option X
right_of (Right x) = Some x
right_of (Wrong fault more) = None
