-- What each output has taken: the bytes of the history that are that output's.
use Rattle.std.specs.Prelude.{ℕ, List, map, filter}
use Rattle.tg_base.specs.declared.desk.Out.{Out}
use Rattle.testgen_engine.specs.Outputs.{is_same}
use Rattle.testgen_program.specs.declared.taken.Taken.{Taken}

-- the bytes of an output among pairs of an output and a byte
abbrev pub bytes_for : Out → List (Out × ℕ) → List ℕ
bytes_for out pairs = map (λ pair. pair.1) (filter (λ pair. is_same pair.0 out) pairs)

abbrev pub taken_by : Taken → Out → List ℕ
taken_by taken out = bytes_for out taken.bytes.items
