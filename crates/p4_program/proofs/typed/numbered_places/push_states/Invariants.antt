use Rattle.std.proofs.Common.{◌≡◌, ◌++◌, take}
use Rattle.p4_program.specs.Syntax.Numbering.{numbered_in_state}
use Rattle.p4_program.specs.Trees.Callables.{state_of}
use Rattle.p4_program.proofs.Numbers.{places_in}
use Rattle.p4_program.proofs.typed.numbered_places.push_states.Given as goal

abbrev pub invariant-loop-state : goal.invariant-loop-state
invariant-loop-state l =
    l.places ≡ l.initial.places ++ places_in (λ s. numbered_in_state (state_of s)) (take l.state-index l.states)
