-- What expressions in code stand for by the rules.
use Rattle.std.specs.Prelude.{map, Result, Ok, Err}
use Rattle.p4_program.specs.Trees.Statements.{work_of}
use Rattle.tg_base.specs.declared.place.Code.{Code}
use Rattle.tg_base.specs.declared.place.Code.TheVariants as code
use Rattle.p4_rules.specs.declared.faults.Fault.{Fault}
use Rattle.p4_rules.specs.Operands as operands
use Rattle.p4_rules.specs.Things as rules
use Rattle.p4_consts.specs.declared.operands.Placed.{Placed}
use Rattle.p4_consts.specs.declared.things.Method.{Method}
use Rattle.p4_consts.specs.declared.things.Method.TheVariants as method
use Rattle.p4_consts.specs.declared.things.Thing.{Thing}
use Rattle.p4_consts.specs.declared.things.Thing.TheVariants as thing
use Rattle.p4_consts.specs.declared.things.Judged.{Judged}
use Rattle.p4_consts.specs.Operands.{operand_of, placed_of}
use Rattle.p4_consts.specs.Meanings.{meaning_of}

abbrev pub method_of : Method → rules.Method
method_of (method.IsValid x) = rules.IsValid (operand_of x)
method_of (method.SetValid x) = rules.SetValid (operand_of x)
method_of (method.SetInvalid x) = rules.SetInvalid (operand_of x)
method_of (method.PushFront x) = rules.PushFront (operand_of x)
method_of (method.PopFront x) = rules.PopFront (operand_of x)
method_of method.Extract = rules.Extract
method_of method.Advance = rules.Advance
method_of (method.Lookahead t) = rules.Lookahead t
method_of method.Emit = rules.Emit
method_of method.Count = rules.Count
method_of method.CountDirect = rules.CountDirect
method_of method.ExecuteMeter = rules.ExecuteMeter
method_of (method.ApplyTable n) = rules.ApplyTable n
method_of (method.ApplyControl n control) = rules.ApplyControl n control

abbrev pub told_value : Result Placed Fault → Result operands.Placed Fault
told_value (Ok p) = Ok (placed_of p)
told_value (Err fault) = Err fault

abbrev pub thing_of : Thing → rules.Thing
thing_of (thing.Value x) = rules.Value (operand_of x)
thing_of (thing.TypeName t) = rules.TypeName t
thing_of thing.Errors = rules.Errors
thing_of (thing.Named m) = rules.Named (meaning_of m)
thing_of (thing.MethodOf m) = rules.MethodOf (method_of m)
thing_of (thing.NextOf t writable path) = rules.NextOf t writable path
thing_of (thing.Applied n) = rules.Applied n
thing_of (thing.ActionRun n) = rules.ActionRun n
thing_of (thing.WorkOf w) = rules.WorkOf (work_of w)
thing_of thing.Text = rules.Text
thing_of (thing.Braced values) = rules.Braced (map told_value values)

abbrev pub judged_of : Judged → rules.Judged
judged_of j = record { thing = thing_of j.thing; place = j.place }

-- the code of what stands where it cannot
abbrev pub code_of_misfit : rules.Thing → Code
code_of_misfit (rules.Braced values) = code.Unsupported
code_of_misfit _ = code.Typing
