use Rattle.std.proofs.Common.{◌≡◌, ◌+◌, ◌≤◌, ◌*◌, take}
use Rattle.std.specs.List.{All}
use Rattle.p4_program.specs.Placed.{IsPlaced}
use Rattle.testgen_engine.specs.Skeleton.{head_text, words_in, placed_from}
use Rattle.testgen_engine.proofs.PlacedLemmas.{words_of}
use Rattle.testgen_engine.proofs.built.placed.Given as goal

abbrev pub invariant-loop-kind : goal.invariant-loop-kind
invariant-loop-kind l = record {
  done : l.statements ≡ placed_from l.tokens 1 (words_in head_text) (take l.kind-index l.kinds);
  placed : All IsPlaced l.statements;
  number : l.number ≡ 1 + l.kind-index;
  at : l.at ≡ words_in head_text + words_of (take l.kind-index l.kinds);
  few : l.at ≤ 1000 + 30 * l.kind-index;
}
