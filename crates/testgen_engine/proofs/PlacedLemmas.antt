-- Statements at their places: how many, how they are numbered, and what one more is.
use Rattle.std.proofs.Common.{◌≡◌, ℕ, ◌+◌, ◌<◌, ◌≤◌, ◌^◌, ◌%◌, Bool, false, List, [], ◌∷◌, ◌++◌, length, map, refl, ap, ◌∙◌, length-append, arith, if◌then◌else◌}
use Prim.Native.Nat.{suc}
use Rattle.std.proofs.lemmas.Bool.{ne_eqb}
use Rattle.std.proofs.lemmas.Fmt.{decimal_by_steps, length-decimal-le}
use Rattle.std.proofs.lemmas.List.Sums.{count_by-le-length, sum_by-append}
use Rattle.std.specs.Fmt.{decimal}
use Rattle.std.specs.List.{flat_map}
use Rattle.p4_lexer.specs.declared.token.Tokens.{Tokens}
use Rattle.p4_program.specs.Numbered.{number_of, numbers_from}
use Rattle.p4_program.specs.declared.program.Statement.{Statement}
use Rattle.p4_program.specs.declared.program.StatementKind.{StatementKind}
use Rattle.p4_program.specs.declared.program.StatementKind.TheVariants.{AssignEgressSpec, MarkToDrop}
use Rattle.testgen_engine.specs.Skeleton.{head_text, assign_text, drop_text, end_text, statement_text, place_of, placed_from, words_in, FitsNineBits}
use Rattle.testgen_engine.specs.Written.{is_blank}

-- words are counted part by part
pub words_append : (xs ys : List ℕ) → words_in (xs ++ ys) ≡ words_in xs + words_in ys
words_append xs ys = sum_by-append (λ byte. if is_blank byte then 1 else 0) xs ys

-- a digit is no blank
digit_word : (digit : ℕ) → words_in ((48 + digit) ∷ []) ≡ 0
digit_word digit =
    let weight : Bool → ℕ = λ b. if b then 1 else 0 in
    let none : weight (is_blank (48 + digit)) ≡ weight false = ap weight (ne_eqb (48 + digit) 32 (λ e. absurd (omega arith))) in
    omega (arith, none)

-- a number ends no word
decimal_words : (value : ℕ) → value < 2 ^ 64 → words_in (decimal value) ≡ 0
decimal_words value fits =
    decimal_by_steps (λ n text. words_in text ≡ 0)
    (λ n few. digit_word n)
    (λ n text many none. words_append text ((48 + n % 10) ∷ []) ∙ omega (arith, none, digit_word (n % 10)))
    value fits

-- an assignment has the words before its number and those behind it, the number among these
pub assignment_words : (value : ℕ) → FitsNineBits (AssignEgressSpec value) → words_in (statement_text (AssignEgressSpec value)) ≡ words_in assign_text + words_in end_text
assignment_words value fits =
    omega (arith, words_append assign_text (decimal value ++ end_text), words_append (decimal value) end_text, decimal_words value (omega arith))

parts_short : (length assign_text ≤ 20) × (length end_text ≤ 5)
unfolding assign_text end_text
parts_short = (omega arith, omega arith)

-- the parts of an assignment have few words
pub parts_few : words_in assign_text + words_in end_text ≤ 30
parts_few = omega (arith, count_by-le-length is_blank assign_text, count_by-le-length is_blank end_text, parts_short)

-- a statement has at most 30 characters
statement_short : (kind : StatementKind) → FitsNineBits kind → length (statement_text kind) ≤ 30
unfolding assign_text drop_text end_text
statement_short (AssignEgressSpec value) fits =
    let number = length-decimal-le 3 value (omega arith) (omega arith) (omega arith) in
    let small : length (assign_text ++ (decimal value ++ end_text)) ≤ 30 = omega (arith, length-append assign_text (decimal value ++ end_text), length-append (decimal value) end_text) in
    small
statement_short MarkToDrop fits = omega arith

-- so it has few words
pub statement_words_few : (kind : StatementKind) → FitsNineBits kind → words_in (statement_text kind) ≤ 30
statement_words_few kind fits = omega (arith, count_by-le-length is_blank (statement_text kind), statement_short kind fits)

head_short : length head_text ≤ 1000
unfolding head_text
head_short = omega arith

pub head_words_few : words_in head_text ≤ 1000
head_words_few = omega (arith, count_by-le-length is_blank head_text, head_short)

-- statements at their places are as many as their kinds
pub length_placed : (tokens : Tokens) (number at : ℕ) (kinds : List StatementKind) → length (placed_from tokens number at kinds) ≡ length kinds
length_placed tokens number at [] = refl
length_placed tokens number at (kind ∷ kinds) = ap suc (length_placed tokens (suc number) (at + words_in (statement_text kind)) kinds)

-- and are numbered in order
pub numbers_placed : (tokens : Tokens) (number at : ℕ) (kinds : List StatementKind)
    → map number_of (placed_from tokens number at kinds) ≡ numbers_from number (length (placed_from tokens number at kinds))
numbers_placed tokens number at [] = refl
numbers_placed tokens number at (kind ∷ kinds) = ap (λ ns. number ∷ ns) (numbers_placed tokens (suc number) (at + words_in (statement_text kind)) kinds)

-- a statement at its place
abbrev pub placed_at : Tokens → ℕ → ℕ → StatementKind → Statement
placed_at tokens number at kind = record { number = number; place = place_of tokens at; kind = kind }

-- how many words statements have
abbrev pub words_of : List StatementKind → ℕ
words_of kinds = words_in (flat_map statement_text kinds)

-- one more statement at its place
pub placed_push : (tokens : Tokens) (number at : ℕ) (kinds : List StatementKind) (kind : StatementKind)
    → placed_from tokens number at (kinds ++ kind ∷ []) ≡ placed_from tokens number at kinds ++ placed_at tokens (number + length kinds) (at + words_of kinds) kind ∷ []
placed_push tokens number at [] kind =
    let e : number + 0 ≡ number = omega arith in
    let f : at + 0 ≡ at = omega arith in
    rw e (rw f refl)
placed_push tokens number at (k ∷ kinds) kind =
    let e : number + suc (length kinds) ≡ suc number + length kinds = omega arith in
    let f : at + words_of (k ∷ kinds) ≡ (at + words_in (statement_text k)) + words_of kinds = omega (arith, words_append (statement_text k) (flat_map statement_text kinds)) in
    rw e (rw f (ap (λ xs. placed_at tokens number at k ∷ xs) (placed_push tokens (suc number) (at + words_in (statement_text k)) kinds kind)))

-- one more statement has its words more
pub words_push : (kinds : List StatementKind) (kind : StatementKind) → words_of (kinds ++ kind ∷ []) ≡ words_of kinds + words_in (statement_text kind)
words_push [] kind = omega (arith, words_append (statement_text kind) [])
words_push (k ∷ kinds) kind =
    omega (arith, words_append (statement_text k) (flat_map statement_text (kinds ++ kind ∷ [])), words_append (statement_text k) (flat_map statement_text kinds), words_push kinds kind)
