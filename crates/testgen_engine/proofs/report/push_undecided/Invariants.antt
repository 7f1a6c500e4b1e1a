use Rattle.std.proofs.Common.{◌≡◌, ◌+◌, ◌*◌, ◌^◌, ◌≤◌, ◌++◌, drop, string_bytes}
use Prim.Native.Nat.{suc}
use Rattle.testgen_engine.specs.Report.{undecided_lines, undecided_nibbles}
use Rattle.testgen_engine.proofs.report.push_undecided.Given as goal

abbrev pub invariant-loop-index : goal.invariant-loop-index
invariant-loop-index l = record {
  lines : string_bytes l.text ++ undecided_lines (suc l.index) (drop l.index l.tests) ≡ string_bytes l.initial.text ++ undecided_lines 1 l.tests;
  count : l.count + undecided_nibbles (drop l.index l.tests) ≡ undecided_nibbles l.tests;
  small : l.count + l.index ≤ l.index * 2 ^ 64;
}
