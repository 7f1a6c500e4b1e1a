-- Bytes that the language names, and classes of bytes. Letters and digits are those of ASCII.
use Rattle.std.specs.Prelude.{ℕ, Bool, ◌||◌, ◌==◌}
use Rattle.std.specs.Char.{is_ascii_digit, is_ascii_alphabetic}

abbrev pub tab : ℕ
tab = 9

abbrev pub line_feed : ℕ
line_feed = 10

abbrev pub carriage_return : ℕ
carriage_return = 13

abbrev pub space : ℕ
space = 32

abbrev pub quotation_mark : ℕ
quotation_mark = 34

abbrev pub hash : ℕ
hash = 35

abbrev pub star : ℕ
star = 42

abbrev pub slash : ℕ
slash = 47

abbrev pub greater : ℕ
greater = 62

abbrev pub at_sign : ℕ
at_sign = 64

abbrev pub backslash : ℕ
backslash = 92

abbrev pub underscore : ℕ
underscore = 95

-- a blank: a space, a tab, a carriage return or a line feed
abbrev pub is_blank : ℕ → Bool
is_blank c = (c == space) || ((c == tab) || ((c == carriage_return) || (c == line_feed)))

-- a name begins with a letter or `_`
abbrev pub begins_name : ℕ → Bool
begins_name c = is_ascii_alphabetic c || (c == underscore)

-- and goes on with letters, digits and `_`
abbrev pub is_in_name : ℕ → Bool
is_in_name c = begins_name c || is_ascii_digit c
