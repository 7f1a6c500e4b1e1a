-- The codes of the literals before the index.
use Rattle.std.proofs.Common.{◌≡◌, take}
use Rattle.unit_propagation.proofs.lit_code.codes.Given as goal

abbrev pub invariant-loop-l : goal.invariant-loop-l
invariant-loop-l l = l.codes.items ≡ take l.l-index l.lits
