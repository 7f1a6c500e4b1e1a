-- What is told of a whole, by what is told of its parts.
use Rattle.std.specs.Prelude.{Result, Ok, Err}
use Rattle.p4_rules.specs.declared.faults.Fault.{Fault}
use Rattle.p4_rules.specs.Faults.{earlier}

-- of two parts side by side the first fault is told
abbrev pub both_told : {A B C : Type 0} → (A → B → C) → Result A Fault → Result B Fault → Result C Fault
both_told make (Ok a) (Ok b) = Ok (make a b)
both_told make (Ok a) (Err fault) = Err fault
both_told make (Err fault) (Ok b) = Err fault
both_told make (Err fault) (Err other) = Err (earlier fault other)

-- of a whole behind a part, the fault of the part or what is told of the whole
abbrev pub then_told : {A B : Type 0} → Result A Fault → (A → Result B Fault) → Result B Fault
then_told (Ok a) whole = whole a
then_told (Err fault) whole = Err fault
