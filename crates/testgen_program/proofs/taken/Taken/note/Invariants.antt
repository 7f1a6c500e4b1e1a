use Rattle.std.proofs.Common.{◌≡◌, ◌++◌, map, take}
use Rattle.testgen_program.proofs.taken.Taken.note.Given as goal

-- the bytes so far are noted
abbrev pub invariant-loop-byte : goal.invariant-loop-byte
invariant-loop-byte l = l.self.bytes.items ≡ l.initial.self.bytes.items ++ map (λ byte. (l.out, byte)) (take l.byte-index l.piece)
