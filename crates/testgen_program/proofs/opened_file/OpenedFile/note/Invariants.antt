use Rattle.std.proofs.Common.{◌≡◌, ◌++◌, map, take}
use Rattle.testgen_program.proofs.opened_file.OpenedFile.note.Given as goal

-- the bytes so far are noted, and the name stays
abbrev pub invariant-loop-byte : goal.invariant-loop-byte
invariant-loop-byte l =
    (map (λ pair. pair.1) l.self-inside.moved.items ≡ map (λ pair. pair.1) l.initial.self-inside.moved.items ++ take l.byte-index l.bytes)
    × (l.self-inside.name ≡ l.initial.self-inside.name)
