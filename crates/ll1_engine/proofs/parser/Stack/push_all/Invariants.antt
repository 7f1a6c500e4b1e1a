use Rattle.std.proofs.Common.{◌≡◌, ◌++◌, drop, reverse}
use Rattle.ll1_engine.proofs.parser.Stack.push_all.Given as goal

-- the symbols from i on are on top, in order
abbrev pub invariant-loop-i : goal.invariant-loop-i
invariant-loop-i l = reverse l.self-inside.symbols.items ≡ drop l.i l.symbols ++ l.fn.self
