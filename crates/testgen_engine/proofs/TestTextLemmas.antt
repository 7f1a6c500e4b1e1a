-- The text of a test is told apart line by line: the title, the packet, what is expected.
use Rattle.std.proofs.Common.{◌≡◌, ℕ, nat_le, ◌/◌, ◌%◌, ◌^◌, ◌<◌, ◌≤◌, true, false, IsTrue, List, [], ◌∷◌, ◌++◌, Some, map, get_or, refl, ap, sym, ◌∙◌, append_assoc, arith}
use Prim.Native.Nat.{suc}
use lib.Chars.{codes}
use mathlib.Core.HLevel.{is_prop→PathP}
use Rattle.std.proofs.Math.Bool.{Bool-set}
use Rattle.std.proofs.lemmas.Bool.{and_parts, leb-true}
use Rattle.std.proofs.lemmas.List.Elements.{recursion_from_All}
use Rattle.std.proofs.lemmas.Bool.Decides.{nat_tests}
use Rattle.std.specs.Fmt.{decimal, digit_glyph}
use Rattle.std.specs.List.{AllByRecursion, All, flat_map, list_all, slice_index}
use Rattle.hex.specs.Hex.{encode_with, encode_lower, lower_digits, hex_digit_value}
use Rattle.hex.proofs.HexLemmas.{IsDigits-lower_digits}
use Rattle.p4_program.specs.declared.input.Input.{Input}
use Rattle.p4_program.specs.declared.input.TheConstants.{MAX_PORT}
use Rattle.p4_program.specs.declared.program.Program.{Program}
use Rattle.p4_meaning.specs.Expected.{is_digit, is_printable}
use Rattle.p4_meaning.specs.declared.test.Expected.{Expected}
use Rattle.p4_meaning.specs.declared.test.Expected.TheVariants.{Drop, Packet}
use Rattle.p4_meaning.specs.declared.test.Nibble.{Nibble}
use Rattle.p4_meaning.specs.declared.test.Nibble.TheVariants.{Fixed, Masked, Undecided}
use Rattle.p4_meaning.specs.declared.test.Test.{Test}
use Rattle.testgen_engine.specs.Statements.{StartsNoDigit}
use Rattle.testgen_engine.specs.Report.{nibbles_of}
use Rattle.testgen_engine.specs.Telling.{TestFits, shown_nibble, shown_expected, SameTest, undecided_from, undecided_places}
use Rattle.testgen_engine.specs.TestText.{title_line, packet_line, glyph_of, expect_line, test_text}
use Rattle.testgen_engine.proofs.Digits.{same_decimal_behind}
use Rattle.testgen_engine.proofs.Lists.{append_left_injective, same_pieces, differ_at}

-- a credit in the title
abbrev credit_text : ℕ → List ℕ
credit_text statement = codes " " ++ decimal statement

-- what follows a number of the title is no digit
no_digit-credits : (ss : List ℕ) (x : List ℕ) → StartsNoDigit (flat_map credit_text ss ++ (codes "\n" ++ x))
no_digit-credits [] x = refl
no_digit-credits (s ∷ ss) x = refl

-- the credits are told apart up to the end of the line
same_credits : (ss ts : List ℕ) (x y : List ℕ) → AllByRecursion (λ s. s < 2 ^ 32) ss → AllByRecursion (λ s. s < 2 ^ 32) ts
    → flat_map credit_text ss ++ (codes "\n" ++ x) ≡ flat_map credit_text ts ++ (codes "\n" ++ y) → (ss ≡ ts) × (x ≡ y)
same_credits [] [] x y p q e = (refl, append_left_injective (codes "\n") x y e)
same_credits [] (t ∷ ts) x y p q e = absurd (differ_at 0 _ _ e refl)
same_credits (s ∷ ss) [] x y p q e = absurd (differ_at 0 _ _ e refl)
same_credits (s ∷ ss) (t ∷ ts) x y p q e =
    let left = flat_map credit_text ss in
    let right = flat_map credit_text ts in
    let whole : codes " " ++ (decimal s ++ (left ++ (codes "\n" ++ x))) ≡ codes " " ++ (decimal t ++ (right ++ (codes "\n" ++ y))) =
    sym (append_assoc (credit_text s) left (codes "\n" ++ x)) ∙ e ∙ append_assoc (credit_text t) right (codes "\n" ++ y) in
    let first = same_decimal_behind (codes " ") s t _ _ whole (let h = p.0 in omega arith) (let h = q.0 in omega arith) (no_digit-credits ss x) (no_digit-credits ts y) in
    let others = same_credits ss ts x y p.1 q.1 first.1 in
    (cc (first.0, others.0), others.1)

-- the pieces of a title
abbrev title_pieces : ℕ → List ℕ → List (List ℕ)
title_pieces number statements = codes "# test " ∷ decimal number ∷ codes " covers" ∷ flat_map credit_text statements ∷ codes "\n" ∷ []

-- one title stands at the front
same_title : (m n : ℕ) (ss ts : List ℕ) (x y : List ℕ) → m < 2 ^ 32 → n < 2 ^ 32 → AllByRecursion (λ s. s < 2 ^ 32) ss → AllByRecursion (λ s. s < 2 ^ 32) ts
    → title_line m ss ++ x ≡ title_line n ts ++ y → (m ≡ n) × (ss ≡ ts) × (x ≡ y)
same_title m n ss ts x y h k p q e =
    let number = same_decimal_behind (codes "# test ") m n _ _ (same_pieces (title_pieces m ss) (title_pieces n ts) x y e) (omega arith) (omega arith) refl refl in
    let statements = same_credits ss ts x y p q (append_left_injective (codes " covers") _ _ number.1) in
    (number.0, statements.0, statements.1)

-- a hexadecimal digit is read as what it stands for
same_hex_digit : (a b : ℕ) → a < 16 → b < 16 → slice_index lower_digits a ≡ slice_index lower_digits b → a ≡ b
same_hex_digit a b p q e =
    let same : Some a ≡ Some b = sym (IsDigits-lower_digits a p) ∙ ap hex_digit_value e ∙ IsDigits-lower_digits b q in
    cc

-- and is no line feed
hex_digit_no_end : (a : ℕ) → a < 16 → slice_index lower_digits a ≡ 10 → ⊥
hex_digit_no_end a p e =
    let same : Some a ≡ hex_digit_value 10 = sym (IsDigits-lower_digits a p) ∙ ap hex_digit_value e in
    cc

-- bytes are told apart up to the end of the line
same_bytes : (xs ys : List ℕ) (x y : List ℕ) → AllByRecursion (λ b. b < 256) xs → AllByRecursion (λ b. b < 256) ys
    → encode_lower xs ++ (codes "\n" ++ x) ≡ encode_lower ys ++ (codes "\n" ++ y) → (xs ≡ ys) × (x ≡ y)
unfolding encode_with
same_bytes [] [] x y p q e = (refl, append_left_injective (codes "\n") x y e)
same_bytes [] (b ∷ ys) x y p q e = let small = q.0 in absurd (hex_digit_no_end (b / 16) (omega arith) (sym (ap (λ zs. get_or zs 0 0) e)))
same_bytes (a ∷ xs) [] x y p q e = let small = p.0 in absurd (hex_digit_no_end (a / 16) (omega arith) (ap (λ zs. get_or zs 0 0) e))
same_bytes (a ∷ xs) (b ∷ ys) x y p q e =
    let small = p.0 in
    let other_small = q.0 in
    let high = same_hex_digit (a / 16) (b / 16) (omega arith) (omega arith) (ap (λ zs. get_or zs 0 0) e) in
    let low = same_hex_digit (a % 16) (b % 16) (omega arith) (omega arith) (ap (λ zs. get_or zs 1 0) e) in
    let others = same_bytes xs ys x y p.1 q.1 (cc) in
    let first : a ≡ b = omega arith in
    (cc (first, others.0), others.1)

-- the pieces of a packet's line
abbrev packet_pieces : Input → List (List ℕ)
packet_pieces x = codes "packet " ∷ decimal x.port ∷ codes " " ∷ encode_lower x.packet ∷ codes "\n" ∷ []

-- one input stands at the front
same_packet : (a b : Input) (x y : List ℕ) → a.port < 2 ^ 16 → b.port < 2 ^ 16 → AllByRecursion (λ c. c < 256) a.packet → AllByRecursion (λ c. c < 256) b.packet
    → packet_line a ++ x ≡ packet_line b ++ y → (a ≡ b) × (x ≡ y)
same_packet a b x y h k p q e =
    let port = same_decimal_behind (codes "packet ") a.port b.port _ _ (same_pieces (packet_pieces a) (packet_pieces b) x y e) (omega arith) (omega arith) refl refl in
    let packet = same_bytes a.packet b.packet x y p q (append_left_injective (codes " ") _ _ port.1) in
    ((λ i. record { port = port.0 i; packet = packet.0 i }), packet.1)

-- a digit is told from other digits, from a star and from the end
same_digit : (a b : ℕ) → is_digit (Fixed a) ≡ true → is_digit (Fixed b) ≡ true → digit_glyph false a ≡ digit_glyph false b → a ≡ b
same_digit a b p q e = grind (arith, nat_tests)

digit_no_star : (a : ℕ) → is_digit (Fixed a) ≡ true → digit_glyph false a ≡ 42 → ⊥
digit_no_star a p e = grind (arith, nat_tests)

digit_no_end : (a : ℕ) → is_digit (Fixed a) ≡ true → digit_glyph false a ≡ 36 → ⊥
digit_no_end a p e = grind (arith, nat_tests)

same_glyph : (n m : Nibble) → is_digit n ≡ true → is_digit m ≡ true → glyph_of n ≡ glyph_of m → shown_nibble n ≡ shown_nibble m
same_glyph (Fixed a) (Fixed b) p q e = ap Fixed (same_digit a b p q e)
same_glyph (Fixed a) Masked p q e = absurd (digit_no_star a p e)
same_glyph (Fixed a) Undecided p q e = absurd (digit_no_star a p e)
same_glyph Masked (Fixed b) p q e = absurd (digit_no_star b q (sym e))
same_glyph Undecided (Fixed b) p q e = absurd (digit_no_star b q (sym e))
same_glyph Masked Masked p q e = refl
same_glyph Masked Undecided p q e = refl
same_glyph Undecided Masked p q e = refl
same_glyph Undecided Undecided p q e = refl

glyph_no_end : (n : Nibble) → is_digit n ≡ true → glyph_of n ≡ 36 → ⊥
glyph_no_end (Fixed a) p e = digit_no_end a p e
glyph_no_end Masked p e = omega arith
glyph_no_end Undecided p e = omega arith

-- nibbles are told apart up to the end of the packet, but for which of the open ones are undecided
same_glyphs : (ns ms : List Nibble) (x y : List ℕ) → list_all is_digit ns ≡ true → list_all is_digit ms ≡ true
    → map glyph_of ns ++ 36 ∷ x ≡ map glyph_of ms ++ 36 ∷ y → map shown_nibble ns ≡ map shown_nibble ms
same_glyphs [] [] x y p q e = refl
same_glyphs [] (m ∷ ms) x y p q e = absurd (glyph_no_end m (and_parts (is_digit m) (list_all is_digit ms) q).0 (sym (ap (λ zs. get_or zs 0 0) e)))
same_glyphs (n ∷ ns) [] x y p q e = absurd (glyph_no_end n (and_parts (is_digit n) (list_all is_digit ns) p).0 (ap (λ zs. get_or zs 0 0) e))
same_glyphs (n ∷ ns) (m ∷ ms) x y p q e =
    let left = and_parts (is_digit n) (list_all is_digit ns) p in
    let right = and_parts (is_digit m) (list_all is_digit ms) q in
    cc (same_glyph n m left.0 right.0 (ap (λ zs. get_or zs 0 0) e), same_glyphs ns ms x y left.1 right.1 cc)

-- the port that is expected is one that a packet can leave at, and the nibbles are of digits
printable_port : (port : ℕ) (ns : List Nibble) → is_printable (Packet port ns) ≡ true → port ≤ MAX_PORT
printable_port port ns p =
    let some = and_parts _ (list_all is_digit ns) p in
    leb-true port MAX_PORT (and_parts (nat_le port MAX_PORT) _ some.0).0

printable_digits : (port : ℕ) (ns : List Nibble) → is_printable (Packet port ns) ≡ true → list_all is_digit ns ≡ true
printable_digits port ns p = (and_parts _ (list_all is_digit ns) p).1

-- what is expected is told, but for which of the open nibbles are undecided
same_expected : (a b : Expected) → is_printable a ≡ true → is_printable b ≡ true → expect_line a ≡ expect_line b → shown_expected a ≡ shown_expected b
same_expected Drop Drop p q e = refl
same_expected Drop (Packet n ms) p q e = cc
same_expected (Packet m ns) Drop p q e = cc
same_expected (Packet m ns) (Packet n ms) p q e =
    let low = printable_port m ns p in
    let other_low = printable_port n ms q in
    let port = same_decimal_behind (codes "expect ") m n _ _ e (omega arith) (omega arith) refl refl in
    let nibbles = same_glyphs ns ms _ _ (printable_digits m ns p) (printable_digits n ms q) (append_left_injective (codes " ") _ _ port.1) in
    cc (port.0, nibbles)

-- the text of a test tells all but that
pub same_test_text : (f g : Program) (m n : ℕ) (ss ts : List ℕ) (t u : Test) → m < 2 ^ 32 → n < 2 ^ 32 → All (λ s. s < 2 ^ 32) ss → All (λ s. s < 2 ^ 32) ts → TestFits t → TestFits u
    → test_text f m ss t ≡ test_text g n ts u → SameTest m n ss ts t u
same_test_text f g m n ss ts t u h k p q a b e =
    let title = same_title m n ss ts _ _ h k (recursion_from_All (λ s. s < 2 ^ 32) ss p) (recursion_from_All (λ s. s < 2 ^ 32) ts q) e in
    let packet = same_packet t.input u.input _ _ a.port b.port
    (recursion_from_All (λ c. c < 256) t.input.packet a.packet) (recursion_from_All (λ c. c < 256) u.input.packet b.packet) title.2 in
    record { number = title.0; credits = title.1; input = packet.0; expected = same_expected t.expected u.expected t.printable u.printable packet.1 }

-- behind one title the input and what is expected are told
pub same_behind_title : (f g : Program) (number : ℕ) (statements : List ℕ) (t u : Test) → TestFits t → TestFits u → test_text f number statements t ≡ test_text g number statements u
    → (t.input ≡ u.input) × (shown_expected t.expected ≡ shown_expected u.expected)
same_behind_title f g number statements t u a b e =
    let packet = same_packet t.input u.input _ _ a.port b.port
    (recursion_from_All (λ c. c < 256) t.input.packet a.packet) (recursion_from_All (λ c. c < 256) u.input.packet b.packet)
    (append_left_injective (title_line number statements) _ _ e) in
    (packet.0, same_expected t.expected u.expected t.printable u.printable packet.1)

-- places of undecided nibbles from one on begin with no earlier one
later_places : (place from : ℕ) (ns : List Nibble) (others : List ℕ) → place < from → undecided_from from ns ≡ place ∷ others → ⊥
later_places place from [] others h e = cc
later_places place from (Fixed a ∷ ns) others h e = later_places place (suc from) ns others (omega arith) e
later_places place from (Masked ∷ ns) others h e = later_places place (suc from) ns others (omega arith) e
later_places place from (Undecided ∷ ns) others h e = let same : from ≡ place = cc in omega arith

-- what a test shows of nibbles, and the places of the undecided ones, tell the nibbles
same_nibbles : (place : ℕ) (ns ms : List Nibble) → map shown_nibble ns ≡ map shown_nibble ms → undecided_from place ns ≡ undecided_from place ms → ns ≡ ms
same_nibbles place [] [] e h = refl
same_nibbles place [] (m ∷ ms) e h = cc
same_nibbles place (n ∷ ns) [] e h = cc
same_nibbles place (Fixed a ∷ ns) (Fixed b ∷ ms) e h = cc (same_nibbles (suc place) ns ms (cc) h)
same_nibbles place (Fixed a ∷ ns) (Masked ∷ ms) e h = cc
same_nibbles place (Fixed a ∷ ns) (Undecided ∷ ms) e h = cc
same_nibbles place (Masked ∷ ns) (Fixed b ∷ ms) e h = cc
same_nibbles place (Undecided ∷ ns) (Fixed b ∷ ms) e h = cc
same_nibbles place (Masked ∷ ns) (Masked ∷ ms) e h = cc (same_nibbles (suc place) ns ms (cc) h)
same_nibbles place (Masked ∷ ns) (Undecided ∷ ms) e h = absurd (later_places place (suc place) ns _ (omega arith) h)
same_nibbles place (Undecided ∷ ns) (Masked ∷ ms) e h = absurd (later_places place (suc place) ms _ (omega arith) (sym h))
same_nibbles place (Undecided ∷ ns) (Undecided ∷ ms) e h = cc (same_nibbles (suc place) ns ms (cc) (cc))

same_whole_expected : (a b : Expected) → shown_expected a ≡ shown_expected b → undecided_from 0 (nibbles_of a) ≡ undecided_from 0 (nibbles_of b) → a ≡ b
same_whole_expected Drop Drop e h = refl
same_whole_expected Drop (Packet n ms) e h = cc
same_whole_expected (Packet m ns) Drop e h = cc
same_whole_expected (Packet m ns) (Packet n ms) e h = cc (same_nibbles 0 ns ms (cc) h)

-- a test is its input and what is expected
same_test : (t u : Test) → t.input ≡ u.input → t.expected ≡ u.expected → t ≡ u
same_test t u p q =
    λ i. record {
      input = p i;
      expected = q i;
      printable = is_prop→PathP (λ j. IsTrue (is_printable (q j))) (λ j. Bool-set (is_printable (q j)) true) t.printable u.printable i;
    }

-- so what a test shows and the places of its undecided nibbles tell the test
pub same_shown_test : (t u : Test) → t.input ≡ u.input → shown_expected t.expected ≡ shown_expected u.expected → undecided_places t ≡ undecided_places u → t ≡ u
same_shown_test t u p q h = same_test t u p (same_whole_expected t.expected u.expected q h)
