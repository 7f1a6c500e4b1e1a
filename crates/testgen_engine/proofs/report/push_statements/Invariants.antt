use Rattle.std.proofs.Common.{◌≡◌, ◌++◌, drop, length, map, string_bytes}
use Prim.Native.Nat.{suc}
use Rattle.p4_program.specs.Blocks.{place_of}
use Rattle.p4_program.specs.Numbered.{number_of, numbers_from}
use Rattle.testgen_engine.specs.Report.{statement_lines}
use Rattle.testgen_engine.proofs.report.push_statements.Given as goal

abbrev pub invariant-loop-index : goal.invariant-loop-index
invariant-loop-index l = record {
  lines : string_bytes l.text ++ statement_lines (suc l.index) (map place_of (drop l.index l.statements)) (drop l.index l.verdicts)
      ≡ string_bytes l.initial.text ++ statement_lines 1 (map place_of l.statements) l.verdicts;
  numbers : map number_of (drop l.index l.statements) ≡ numbers_from (suc l.index) (length (drop l.index l.statements));
}
