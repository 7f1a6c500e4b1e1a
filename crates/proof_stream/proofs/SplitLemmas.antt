-- A line is cut at its blanks into its words, and the text of lines at its line feeds into the lines.
use Rattle.std.proofs.Common.{◌≡◌, ℕ, zero, suc, ◌/◌, ◌%◌, ◌≤◌, ◌^◌, Bool, true, false, ◌&&◌, List, [], ◌∷◌, ◌++◌, map, refl, sym, ap, ◌∙◌, append_assoc, arith, ltb-true}
use Rattle.std.specs.Prelude.{◌==◌, nat_lt}
use Rattle.std.specs.Char.{is_ascii_digit}
use Rattle.std.specs.Fmt.{decimal, digit_glyph}
use Rattle.std.specs.List.{AllByRecursion, slice_split, join_with_byte, flat_map}
use Rattle.std.specs.Str.{all_ascii_digits}
use Rattle.std.proofs.lemmas.Bool.{and_parts, and_from}
use Rattle.std.proofs.lemmas.Bool.Decides.{nat_tests}
use Rattle.std.proofs.lemmas.List.{append-nil}
use Rattle.std.proofs.lemmas.List.Elements.{All-from_recursion}
use Rattle.std.proofs.lemmas.List.Splits.{slice_split_none, slice_split_at, join_with_byte-slice_split}
use Rattle.cnf_core.specs.declared.derivation.Derived.TheVariants.{Cube, Step}
use Rattle.cnf_core.specs.declared.derivation.Var.TheVariants.{Input, Read}
use Rattle.cnf_core.specs.declared.formula.Lit.{Lit}
use Rattle.proof_stream.specs.declared.hex_value.HexValue.{HexValue}
use Rattle.proof_stream.specs.declared.line.Line.{Line}
use Rattle.proof_stream.specs.declared.line.Line.TheVariants as line
use Rattle.proof_stream.specs.declared.record.End.TheVariants.{Sat, Unsat, Spent}
use Rattle.proof_stream.specs.declared.record.Kind.TheVariants.{Reach, Steady, Break, Nibble}
use Rattle.proof_stream.specs.Spelling.{keyword, operands, blank, line_feed, spaced, line_text, ended, text_of_lines}
use Rattle.proof_stream.specs.Valid.{Is32, Fits}
use Rattle.proof_stream.specs.Words.{Word, sign, literal_word, clause_words, hint_words, bits_word, hex_digits, hex_word}
use Rattle.proof_stream.proofs.NumberLemmas.{decimal_digits}

-- each byte is above the blank
abbrev all_above : Word → Bool
all_above [] = true
all_above (c ∷ w) = nat_lt 32 c && all_above w

above-append : (v w : Word) → all_above v ≡ true → all_above w ≡ true → all_above (v ++ w) ≡ true
above-append [] w p q = q
above-append (c ∷ v) w p q = let a = and_parts (nat_lt 32 c) (all_above v) p in and_from (nat_lt 32 c) (all_above (v ++ w)) a.0 (above-append v w a.1 q)

above_digits : (w : Word) → all_ascii_digits w ≡ true → all_above w ≡ true
above_digits [] h = refl
above_digits (c ∷ w) h =
    let a = and_parts (is_ascii_digit c) (all_ascii_digits w) h in
    let digit = a.0 in
    let above : nat_lt 32 c ≡ true = grind (arith, nat_tests) in
    and_from (nat_lt 32 c) (all_above w) above (above_digits w a.1)

above_decimal : (n : ℕ) → Is32 n → all_above (decimal n) ≡ true
above_decimal n small = above_digits (decimal n) (decimal_digits n small)

above_sign : (b : Bool) → all_above (sign b) ≡ true
above_sign true = refl
above_sign false = refl

above_literal : (l : Lit) → Is32 l.var → all_above (literal_word l) ≡ true
above_literal l small = above-append (sign l.positive) (decimal l.var) (above_sign l.positive) (above_decimal l.var small)

above_bits : (bits : List Bool) → all_above (bits_word bits) ≡ true
above_bits [] = refl
above_bits (true ∷ bits) = above_bits bits
above_bits (false ∷ bits) = above_bits bits

above_glyph : (d : ℕ) → nat_lt 32 (digit_glyph false d) ≡ true
above_glyph d = grind (arith, nat_tests)

above_hex : (places value : ℕ) → all_above (hex_digits places value) ≡ true
above_hex zero value = refl
above_hex (suc places) value =
    and_from (nat_lt 32 (digit_glyph false (value / 16 ^ places))) (all_above (hex_digits places (value % 16 ^ places)))
    (above_glyph (value / 16 ^ places)) (above_hex places (value % 16 ^ places))

-- words with no byte up to the blank
abbrev AreClear : List Word → Type 0
AreClear words = AllByRecursion (λ w. all_above w ≡ true) words

clear-append : (v w : List Word) → AreClear v → AreClear w → AreClear (v ++ w)
clear-append [] w p q = q
clear-append (x ∷ v) w p q = (p.0, clear-append v w p.1 q)

clear_literals : (lits : List Lit) → AllByRecursion (λ l. Is32 l.var) lits → AreClear (clause_words lits)
clear_literals [] fits = (refl, tt)
clear_literals (l ∷ lits) fits = (above_literal l fits.0, clear_literals lits fits.1)

clear_hints : (hints : List ℕ) → AllByRecursion Is32 hints → AreClear (hint_words hints)
clear_hints [] fits = (refl, tt)
clear_hints (n ∷ hints) fits = (above_decimal n fits.0, clear_hints hints fits.1)

clear_values : (values : List HexValue) → AreClear (map hex_word values)
clear_values [] = tt
clear_values (h ∷ values) = (above_hex h.digits h.value, clear_values values)

clear_line : (l : Line) → Fits l → AreClear (keyword l ∷ operands l)
clear_line (line.Head (Reach s)) fits = (refl, (refl, (above_decimal s fits, tt)))
clear_line (line.Head (Steady s)) fits = (refl, (refl, (above_decimal s fits, tt)))
clear_line (line.Head (Break s)) fits = (refl, (refl, (above_decimal s fits, tt)))
clear_line (line.Head (Nibble t n)) fits = (refl, (refl, (above_decimal t fits.0, (above_decimal n fits.1, tt))))
clear_line (line.At bits) fits = (refl, (above_bits bits, tt))
clear_line (line.Var (Input n)) fits = (refl, (refl, (above_decimal n fits, tt)))
clear_line (line.Var (Read t n)) fits = (refl, (refl, (above_decimal t fits.0, (above_decimal n fits.1, tt))))
clear_line (line.Clause lits) fits = (refl, clear_literals lits fits)
clear_line (line.Derived (Cube lits)) fits = (refl, clear_literals lits fits)
clear_line (line.Derived (Step step)) fits = (refl, clear-append (clause_words step.clause) (hint_words step.hints) (clear_literals step.clause fits.0) (clear_hints step.hints fits.1))
clear_line (line.End (Sat bits)) fits = (refl, (above_bits bits, tt))
clear_line (line.End Unsat) fits = (refl, tt)
clear_line (line.End Spent) fits = (refl, tt)
clear_line (line.Broken target) fits = (refl, (above_decimal target fits, tt))
clear_line (line.Runs values) fits = (refl, clear_values values)
clear_line (line.Breaks values) fits = (refl, clear_values values)

-- bytes that are not this one
abbrev Lacks : ℕ → List ℕ → Type 0
Lacks s bytes = AllByRecursion (λ byte. (byte == s) ≡ false) bytes

lacks-append : (s : ℕ) (v w : List ℕ) → Lacks s v → Lacks s w → Lacks s (v ++ w)
lacks-append s [] w p q = q
lacks-append s (c ∷ v) w p q = (p.0, lacks-append s v w p.1 q)

lacks_above : (s : ℕ) (w : Word) → s ≤ 32 → all_above w ≡ true → Lacks s w
lacks_above s [] low h = tt
lacks_above s (c ∷ w) low h =
    let a = and_parts (nat_lt 32 c) (all_above w) h in
    let above = ltb-true 32 c a.0 in
    let other : (c == s) ≡ false = grind (arith, nat_tests) in
    (other, lacks_above s w low a.1)

cut : (s : ℕ) (bytes rest : List ℕ) → Lacks s bytes → slice_split (λ b. b == s) (bytes ++ s ∷ rest) ≡ bytes ∷ slice_split (λ b. b == s) rest
cut s bytes rest lacks =
    let here : (s == s) ≡ true = grind (arith, nat_tests) in
    slice_split_at (λ b. b == s) bytes s rest (All-from_recursion (λ b. (b == s) ≡ false) bytes lacks) here

uncut : (s : ℕ) (bytes : List ℕ) → Lacks s bytes → slice_split (λ b. b == s) bytes ≡ bytes ∷ []
uncut s bytes lacks = slice_split_none (λ b. b == s) bytes (All-from_recursion (λ b. (b == s) ≡ false) bytes lacks)

cut_words : (w : Word) (ws : List Word) → AreClear (w ∷ ws) → slice_split (λ b. b == blank) (w ++ flat_map spaced ws) ≡ w ∷ ws
cut_words w [] clear = rw append-nil (uncut 32 w (lacks_above 32 w (omega arith) clear.0))
cut_words w (v ∷ ws) clear = cut 32 w (v ++ flat_map spaced ws) (lacks_above 32 w (omega arith) clear.0) ∙ ap (λ x. w ∷ x) (cut_words v ws clear.1)

-- a line is cut into its words
pub words_of_line : (l : Line) → Fits l → slice_split (λ b. b == blank) (line_text l) ≡ keyword l ∷ operands l
words_of_line l fits = cut_words (keyword l) (operands l) (clear_line l fits)

joined_words : (w : Word) (ws : List Word) → join_with_byte blank (w ∷ ws) ≡ w ++ flat_map spaced ws
joined_words w [] = sym (append-nil w)
joined_words w (v ∷ ws) = ap (λ x. w ++ (blank ∷ x)) (joined_words v ws)

-- bytes that are cut into the words of a line are the line
pub line_of_words : (bytes : List ℕ) (l : Line) → slice_split (λ b. b == blank) bytes ≡ keyword l ∷ operands l → bytes ≡ line_text l
line_of_words bytes l e = sym (join_with_byte-slice_split blank bytes) ∙ ap (λ ws. join_with_byte blank ws) e ∙ joined_words (keyword l) (operands l)

lacks_words : (ws : List Word) → AreClear ws → Lacks line_feed (flat_map spaced ws)
lacks_words [] clear = tt
lacks_words (w ∷ ws) clear =
    let other : (blank == line_feed) ≡ false = refl in
    (other, lacks-append 10 w (flat_map spaced ws) (lacks_above 10 w (omega arith) clear.0) (lacks_words ws clear.1))

-- a line has no line feed
lacks_line : (l : Line) → Fits l → Lacks line_feed (line_text l)
lacks_line l fits =
    let clear = clear_line l fits in
    lacks-append 10 (keyword l) (flat_map spaced (operands l)) (lacks_above 10 (keyword l) (omega arith) clear.0) (lacks_words (operands l) clear.1)

-- the text of lines is cut into the lines, and nothing is left behind them
pub pieces_of_lines : (ls : List Line) → AllByRecursion Fits ls → slice_split (λ b. b == line_feed) (text_of_lines ls) ≡ map line_text ls ++ [] ∷ []
pieces_of_lines [] fits = refl
pieces_of_lines (l ∷ ls) fits =
    ap (λ (t : List ℕ). slice_split (λ b. b == line_feed) t) (append_assoc (line_text l) (line_feed ∷ []) (text_of_lines ls))
    ∙ cut 10 (line_text l) (text_of_lines ls) (lacks_line l fits.0)
    ∙ ap (λ ps. line_text l ∷ ps) (pieces_of_lines ls fits.1)

joined_lines : (ls : List Line) → join_with_byte line_feed (map line_text ls ++ [] ∷ []) ≡ text_of_lines ls
joined_lines [] = refl
joined_lines (l ∷ []) = sym (append-nil (ended (line_text l)))
joined_lines (l ∷ m ∷ ls) =
    ap (λ x. line_text l ++ (line_feed ∷ x)) (joined_lines (m ∷ ls)) ∙ sym (append_assoc (line_text l) (line_feed ∷ []) (text_of_lines (m ∷ ls)))

-- a text that is cut into these lines is theirs
pub lines_of_pieces_are : (text : List ℕ) (ls : List Line) → slice_split (λ b. b == line_feed) text ≡ map line_text ls ++ [] ∷ [] → text ≡ text_of_lines ls
lines_of_pieces_are text ls e = sym (join_with_byte-slice_split line_feed text) ∙ ap (λ ps. join_with_byte line_feed ps) e ∙ joined_lines ls
