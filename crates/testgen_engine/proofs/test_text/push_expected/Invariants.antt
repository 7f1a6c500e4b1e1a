use Rattle.std.proofs.Common.{◌≡◌, ◌++◌, drop, map, string_bytes}
use Rattle.testgen_engine.specs.TestText.{glyph_of}
use Rattle.testgen_engine.proofs.test_text.push_expected.Given as goal

abbrev pub invariant-loop-nibble : goal.invariant-loop-nibble
invariant-loop-nibble l =
    string_bytes l.text ++ map glyph_of (drop l.nibble-index l.nibble-items) ≡ string_bytes l.initial.text ++ map glyph_of l.nibble-items
