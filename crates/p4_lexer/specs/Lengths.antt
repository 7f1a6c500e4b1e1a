-- How long the piece at the start of a text is, found byte by byte: plain functions that meet the definition of a piece.
use Rattle.std.specs.Prelude.{ℕ, ◌+◌, Bool, false, not, ◌&&◌, ◌||◌, ◌==◌, nat_le, nat_lt, List, [], ◌∷◌, Option, None, Some, length, take, drop, if◌then◌else◌}
use Rattle.std.specs.List.{prefix_len, list_any}
use Rattle.std.specs.Option.{option_map}
use Rattle.tg_base.specs.declared.literal.IntType.{IntType}
use Rattle.tg_base.specs.declared.literal.IntType.TheVariants.{Integer, Unsigned, Signed}
use Rattle.p4_lexer.specs.declared.piece.Kind.{Kind}
use Rattle.p4_lexer.specs.declared.piece.Kind.TheVariants.{Blank, Comment, Name, Number, Text, Sign, Annotation, OpenComment, OpenText, Stray}
use Rattle.p4_lexer.specs.declared.piece.Piece.{Piece}
use Rattle.p4_lexer.specs.declared.classes.Class.{Class}
use Rattle.p4_lexer.specs.declared.classes.Class.TheVariants.{InName, InDigits, InLine, InLead}
use Rattle.p4_lexer.specs.declared.classes.Head.{Head}
use Rattle.p4_lexer.specs.declared.classes.Head.TheVariants.{NameHead, DigitHead, BlankHead, QuotationMark, Slash, AtSign, OtherHead}
use Rattle.p4_lexer.specs.Bytes.{line_feed, quotation_mark, star, slash, at_sign, backslash, underscore, is_blank, begins_name, is_in_name}
use Rattle.p4_lexer.specs.Digits.{is_digit_of, is_in_digits, base_of, value_of}
use Rattle.p4_lexer.specs.Numbers.{widest}

-- the bytes of which a run may consist
abbrev pub has : Class → ℕ → Bool
has InName c = is_in_name c
has (InDigits base) c = is_in_digits base c
has InLine c = not (c == line_feed)
has InLead c = is_blank c && not (c == line_feed)

-- what begins with a byte
abbrev pub head_of : ℕ → Head
head_of c =
    if begins_name c then NameHead
    else (if is_digit_of 10 c then DigitHead
    else (if is_blank c then BlankHead
    else (if c == quotation_mark then QuotationMark
    else (if c == slash then Slash
    else (if c == at_sign then AtSign
    else OtherHead)))))

-- a name, or 0 where none begins
abbrev pub name_len : List ℕ → ℕ
name_len [] = 0
name_len (c ∷ text) = if begins_name c then named (prefix_len (has InName) text) else 0 where
  named : ℕ → ℕ
  named more = if (more == 0) && (c == underscore) then 0 else more + 1

-- digits of a base, of which one at least is no `_`, or 0
abbrev pub digits_len : ℕ → List ℕ → ℕ
digits_len base text = if list_any (is_digit_of base) (take (prefix_len (has (InDigits base)) text) text) then prefix_len (has (InDigits base)) text else 0

abbrev pub decimal_len : List ℕ → ℕ
decimal_len [] = 0
decimal_len (c ∷ text) = if is_digit_of 10 c then prefix_len (has (InDigits 10)) text + 1 else 0

abbrev pub based_by : ℕ → Option ℕ → List ℕ → ℕ
based_by c None text = 0
based_by c (Some base) text = if (c == 48) && nat_lt 0 (digits_len base text) then digits_len base text + 2 else 0

abbrev pub based_len : List ℕ → ℕ
based_len [] = 0
based_len (c ∷ []) = 0
based_len (c ∷ letter ∷ text) = based_by c (base_of letter) text

-- a number with no prefix, or 0
abbrev pub plain_len : List ℕ → ℕ
plain_len text = if nat_lt 0 (based_len text) then based_len text else decimal_len text

-- the letter of a prefix
abbrev pub is_sort : ℕ → Bool
is_sort c = (c == 119) || (c == 115)

abbrev pub begins_sort : List ℕ → Bool
begins_sort [] = false
begins_sort (c ∷ text) = is_sort c

-- the prefix of a number, or 0
abbrev pub is_width : ℕ → Bool
is_width n = nat_le 1 n && nat_le n widest

abbrev pub width_len : List ℕ → ℕ
width_len text = if begins_sort (drop (prefix_len (is_digit_of 10) text) text) && is_width (value_of 10 (take (prefix_len (is_digit_of 10) text) text)) then prefix_len (is_digit_of 10) text + 1 else 0

-- a number, or 0
abbrev pub number_len : List ℕ → ℕ
number_len text =
    if nat_lt 0 (width_len text) && nat_lt 0 (plain_len (drop (width_len text) text)) then width_len text + plain_len (drop (width_len text) text)
    else plain_len text

-- a character of a string, or 0 where none begins
abbrev pub character_len : List ℕ → ℕ
character_len [] = 0
character_len (c ∷ []) = if (c == quotation_mark) || ((c == backslash) || (c == line_feed)) then 0 else 1
character_len (c ∷ d ∷ text) =
    if (c == quotation_mark) || (c == line_feed) then 0
    else (if c == backslash then 2 else 1)

-- characters of a string
abbrev pub characters_len : List ℕ → ℕ
characters_len [] = 0
characters_len (c ∷ []) = if (c == quotation_mark) || ((c == backslash) || (c == line_feed)) then 0 else 1
characters_len (c ∷ d ∷ text) =
    if (c == quotation_mark) || (c == line_feed) then 0
    else (if c == backslash then 2 + characters_len text
    else 1 + characters_len (d ∷ text))

abbrev pub begins_with : ℕ → List ℕ → Bool
begins_with b [] = false
begins_with b (c ∷ text) = c == b

abbrev pub begins_close : List ℕ → Bool
begins_close [] = false
begins_close (c ∷ text) = (c == star) && begins_with slash text

-- where the first `*/` stands
abbrev pub close_at : List ℕ → Option ℕ
close_at [] = None
close_at (c ∷ text) = if begins_close (c ∷ text) then Some 0 else option_map (λ n. n + 1) (close_at text)

-- a sign, or 0
abbrev pub is_sign_of_three : ℕ → ℕ → ℕ → Bool
is_sign_of_three a b c = ((a == 38) && ((b == 38) && (c == 38))) || ((a == 124) && (((b == 43) || (b == 45)) && (c == 124)))

abbrev pub is_sign_of_two : ℕ → ℕ → Bool
is_sign_of_two a b =
    ((a == b) && list_any (λ s. s == a) (60 ∷ 62 ∷ 61 ∷ 38 ∷ 124 ∷ 43 ∷ 46 ∷ []))
    || ((b == 61) && list_any (λ s. s == a) (60 ∷ 62 ∷ 33 ∷ []))

abbrev pub is_sign_of_one : ℕ → Bool
is_sign_of_one a = list_any (λ s. s == a) (43 ∷ 45 ∷ 42 ∷ 47 ∷ 37 ∷ 38 ∷ 124 ∷ 94 ∷ 126 ∷ 33 ∷ 60 ∷ 62 ∷ 61 ∷ 40 ∷ 41 ∷ 123 ∷ 125 ∷ 91 ∷ 93 ∷ 44 ∷ 59 ∷ 58 ∷ 46 ∷ 63 ∷ 95 ∷ [])

abbrev pub sign_len : List ℕ → ℕ
sign_len [] = 0
sign_len (a ∷ []) = if is_sign_of_one a then 1 else 0
sign_len (a ∷ b ∷ []) = if is_sign_of_two a b then 2 else (if is_sign_of_one a then 1 else 0)
sign_len (a ∷ b ∷ c ∷ text) = if is_sign_of_three a b c then 3 else (if is_sign_of_two a b then 2 else (if is_sign_of_one a then 1 else 0))

-- the piece that begins with a quotation mark, before this text
abbrev pub quoted : List ℕ → Piece
quoted text =
    if begins_with quotation_mark (drop (characters_len text) text) then record { kind = Text; len = characters_len text + 2 }
    else record { kind = OpenText; len = characters_len text + 1 }

-- a comment that is ended by the `*/` at this place, if it is
abbrev pub closed : ℕ → Option ℕ → Piece
closed len None = record { kind = OpenComment; len = len + 2 }
closed len (Some n) = record { kind = Comment; len = n + 4 }

-- the piece that begins with a slash, before this text
abbrev pub slashed : List ℕ → Piece
slashed [] = record { kind = Sign; len = 1 }
slashed (c ∷ text) =
    if c == slash then record { kind = Comment; len = prefix_len (has InLine) text + 2 }
    else (if c == star then closed (length text) (close_at text)
    else record { kind = Sign; len = 1 })

-- the annotation whose name is so long, or a stray byte
abbrev pub annotated : ℕ → Piece
annotated len = if len == 0 then record { kind = Stray; len = 1 } else record { kind = Annotation; len = len + 1 }

-- a piece of this kind, or a single byte of the other where it has no bytes
abbrev pub piece_or : Kind → ℕ → Kind → Piece
piece_or kind len other = if len == 0 then record { kind = other; len = 1 } else record { kind = kind; len = len }

-- the piece at the start of a text
abbrev pub piece_by : Head → ℕ → List ℕ → Piece
piece_by NameHead c text = piece_or Name (name_len (c ∷ text)) Sign
piece_by DigitHead c text = record { kind = Number; len = number_len (c ∷ text) }
piece_by BlankHead c text = record { kind = Blank; len = 1 }
piece_by QuotationMark c text = quoted text
piece_by Slash c text = slashed text
piece_by AtSign c text = annotated (name_len text)
piece_by OtherHead c text = piece_or Sign (sign_len (c ∷ text)) Stray

abbrev pub piece_of : List ℕ → Piece
piece_of [] = record { kind = Stray; len = 0 }
piece_of (c ∷ text) = piece_by (head_of c) c text

-- the type that digits before this text give as its prefix
abbrev pub type_by : ℕ → ℕ → IntType
type_by letter width = if letter == 119 then Unsigned width else Signed width

abbrev pub width_by : ℕ → Option ℕ
width_by n = if is_width n then Some n else None

abbrev pub typed : ℕ → Option ℕ → IntType
typed letter None = Integer
typed letter (Some width) = type_by letter width

abbrev pub type_behind : List ℕ → List ℕ → IntType
type_behind digits [] = Integer
type_behind digits (c ∷ rest) = if is_sort c then typed c (width_by (value_of 10 digits)) else Integer

-- the type of a number
abbrev pub literal_type : List ℕ → IntType
literal_type text = type_behind (take (prefix_len (is_digit_of 10) text) text) (drop (prefix_len (is_digit_of 10) text) text)
