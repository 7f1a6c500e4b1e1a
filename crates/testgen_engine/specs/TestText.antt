-- The text of a test, in the profile of STF (the simple test framework of p4c) that docs/FORMATS.md gives.
use Rattle.std.specs.Prelude.{ℕ, false, List, [], ◌∷◌, ◌++◌, Option, None, Some, map, codes}
use Rattle.std.specs.Fmt.{decimal, digit_glyph}
use Rattle.std.specs.List.{concat, flat_map}
use Rattle.hex.specs.Hex.{encode_lower}
use Rattle.p4_program.specs.declared.input.Input.{Input}
use Rattle.p4_program.specs.declared.program.Program.{Program}
use Rattle.p4_meaning.specs.declared.test.Expected.{Expected}
use Rattle.p4_meaning.specs.declared.test.Expected.TheVariants.{Drop, Packet}
use Rattle.p4_meaning.specs.declared.test.Nibble.{Nibble}
use Rattle.p4_meaning.specs.declared.test.Nibble.TheVariants.{Fixed, Masked, Undecided}
use Rattle.p4_meaning.specs.declared.test.Test.{Test}
use Rattle.p4_meaning.specs.declared.verdict.Verdict.{Verdict}
use Rattle.p4_meaning.specs.Verdicts.{credits}

-- `# test K covers N1 N2 ..`
abbrev pub title_line : ℕ → List ℕ → List ℕ
title_line number statements = concat (codes "# test " ∷ decimal number ∷ codes " covers"
    ∷ flat_map (λ statement. codes " " ++ decimal statement) statements ∷ codes "\n" ∷ [])

-- `packet PORT HEX`
abbrev pub packet_line : Input → List ℕ
packet_line x = concat (codes "packet " ∷ decimal x.port ∷ codes " " ∷ encode_lower x.packet ∷ codes "\n" ∷ [])

-- a nibble's digit, or a star where any digit may stand
abbrev pub glyph_of : Nibble → ℕ
glyph_of (Fixed digit) = digit_glyph false digit
glyph_of Masked = 42
glyph_of Undecided = 42

-- `expect PORT HEX$`, and no line where no packet is expected
abbrev pub expect_line : Expected → List ℕ
expect_line Drop = []
expect_line (Packet port nibbles) = concat (codes "expect " ∷ decimal port ∷ codes " " ∷ map glyph_of nibbles ∷ codes "$\n" ∷ [])

-- The text of a test of the program, with its number and its credits. No table takes entries yet, so it names nothing of
-- the program.
abbrev pub test_text : Program → ℕ → List ℕ → Test → List ℕ
test_text p number statements t = title_line number statements ++ (packet_line t.input ++ expect_line t.expected)

-- the text of the test of this number, where there is one
abbrev pub text_of_test : Program → List Verdict → ℕ → Option Test → List ℕ
text_of_test p verdicts number None = []
text_of_test p verdicts number (Some t) = test_text p number (credits verdicts number) t
