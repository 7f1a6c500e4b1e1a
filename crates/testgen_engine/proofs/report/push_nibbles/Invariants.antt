use Rattle.std.proofs.Common.{◌≡◌, ◌+◌, ◌≤◌, ◌++◌, drop, count_by, string_bytes}
use Rattle.testgen_engine.specs.Report.{is_undecided_nibble, nibble_lines}
use Rattle.testgen_engine.proofs.report.push_nibbles.Given as goal

abbrev pub invariant-loop-place : goal.invariant-loop-place
invariant-loop-place l = record {
  lines : string_bytes l.text ++ nibble_lines l.test l.place (drop l.place l.nibbles) ≡ string_bytes l.initial.text ++ nibble_lines l.test 0 l.nibbles;
  count : l.count + count_by is_undecided_nibble (drop l.place l.nibbles) ≡ count_by is_undecided_nibble l.nibbles;
  small : l.count ≤ l.place;
}
