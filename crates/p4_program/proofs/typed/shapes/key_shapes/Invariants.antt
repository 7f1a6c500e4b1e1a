use Rattle.std.proofs.Common.{◌≡◌, map, take}
use Rattle.p4_program.specs.Shapes.{key_shape}
use Rattle.p4_program.specs.Trees.Callables.{key_of}
use Rattle.p4_program.proofs.typed.shapes.key_shapes.Given as goal

abbrev pub invariant-loop-key : goal.invariant-loop-key
invariant-loop-key l = l.shapes ≡ map (λ k. key_shape (key_of k)) (take l.key-index l.keys)
