-- The clauses of the gates so far.
use Rattle.std.proofs.Common.{◌≡◌, take}
use Rattle.bit_blaster.specs.Tseitin.{gates_clauses}
use Rattle.bit_blaster.proofs.circuit.Circuit.gate_clauses.Given as goal

abbrev pub invariant-loop-place : goal.invariant-loop-place
invariant-loop-place l = l.clauses.items ≡ gates_clauses l.self.inputs (take l.place l.self.gates)
