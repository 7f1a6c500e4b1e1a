use Rattle.std.proofs.Common.{◌≡◌, map, reverse, length}
use Rattle.std.specs.Option.{option_map}
use Rattle.p4_program.specs.Trees.Statements.{argument_of}
use Rattle.p4_rules.specs.Callees.{arguments_for, those_there}
use Rattle.p4_rules.specs.Faults.{made_of}
use Rattle.p4_consts.specs.Noted.{noted, right_of}
use Rattle.p4_consts.specs.Scopes.{scope_in}
use Rattle.p4_consts.specs.Things.{judged_of}
use Rattle.p4_consts.proofs.ArgumentLaws.{joined_to}
use Rattle.p4_consts.proofs.argument_lists.arguments_for.Given as goal

-- what the arguments that are left make of those that are done, all make
abbrev pub invariant-loop-shape : goal.invariant-loop-shape
invariant-loop-shape l =
    (right_of (made_of those_there (arguments_for (scope_in l.pass l.scope) l.place l.shapes (map judged_of l.fn.passed)))
    ≡ joined_to (option_map (map argument_of) l.done) (right_of (arguments_for (scope_in l.pass l.scope) l.place l.rest (map judged_of (reverse l.left.items)))))
    × (noted l.initial.faults.first (arguments_for (scope_in l.pass l.scope) l.place l.shapes (map judged_of l.fn.passed))
    ≡ noted l.faults.first (arguments_for (scope_in l.pass l.scope) l.place l.rest (map judged_of (reverse l.left.items))))

abbrev pub decreases-loop-shape : goal.decreases-loop-shape
decreases-loop-shape l = length l.rest
