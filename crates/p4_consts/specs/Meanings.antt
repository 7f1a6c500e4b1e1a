-- What names in code stand for by the rules.
use Rattle.std.specs.Prelude.{Result, Ok, Err}
use Rattle.p4_rules.specs.declared.faults.Fault.{Fault}
use Rattle.p4_rules.specs.Scopes as rules
use Rattle.p4_consts.specs.declared.meanings.Meaning.{Meaning}
use Rattle.p4_consts.specs.declared.meanings.Meaning.TheVariants as meaning
use Rattle.p4_consts.specs.Integers.{integer_of}

abbrev pub meaning_of : Meaning → rules.Meaning
meaning_of (meaning.TypeOf t) = rules.TypeOf t
meaning_of (meaning.IntegerOf i) = rules.IntegerOf (integer_of i)
meaning_of (meaning.ConstantOf c) = rules.ConstantOf c.type_of c.value
meaning_of (meaning.VariableOf t writable root) = rules.VariableOf t writable root
meaning_of (meaning.ObjectOf o) = rules.ObjectOf o
meaning_of (meaning.ActionOf n) = rules.ActionOf n
meaning_of (meaning.TableOf n) = rules.TableOf n
meaning_of (meaning.InstanceOf n control) = rules.InstanceOf n control
meaning_of (meaning.FunctionOf f) = rules.FunctionOf f
meaning_of (meaning.StateOf n) = rules.StateOf n

-- a name's meaning, or the fault of its declaration
abbrev pub told_meaning : Result Meaning Fault → Result rules.Meaning Fault
told_meaning (Ok m) = Ok (meaning_of m)
told_meaning (Err fault) = Err fault
