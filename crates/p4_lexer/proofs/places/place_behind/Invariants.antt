use Rattle.std.proofs.Common.{◌≡◌, ℕ, ◌+◌, ◌≤◌, List, ◌++◌, take}
use Rattle.p4_lexer.specs.Places.{place_after}
use Rattle.p4_lexer.proofs.places.place_behind.Given as goal

abbrev pub invariant-loop-c : goal.invariant-loop-c
invariant-loop-c l =
    (l.behind.line ≤ l.fn.place.line + l.c-index)
    × (l.behind.column ≤ l.fn.place.column + l.c-index)
    × ((before : List ℕ) → l.fn.place ≡ place_after before → l.behind ≡ place_after (before ++ take l.c-index l.bytes))
