use Rattle.std.proofs.Common.{◌≡◌, take}
use Rattle.p4_program.specs.Syntax.Numbering.{numbered_in_callable}
use Rattle.p4_program.specs.Trees.Callables.{callable_of}
use Rattle.p4_program.proofs.Numbers.{places_in}
use Rattle.p4_program.proofs.typed.numbered_places.statement_places.Given as goal

abbrev pub invariant-loop-callable : goal.invariant-loop-callable
invariant-loop-callable l =
    l.places ≡ places_in (λ c. numbered_in_callable (callable_of c)) (take l.callable-index l.callable-items)
