-- How tokens are written again: each word, and a blank behind it.
use Rattle.std.specs.Prelude.{ℕ, Bool, ◌==◌, List, [], ◌∷◌, ◌++◌, codes}
use Rattle.std.specs.List.{flat_map}
use Rattle.p4_lexer.specs.declared.token.Token.{Token}
use Rattle.p4_lexer.specs.declared.token.Word.{Word}
use Rattle.p4_lexer.specs.declared.token.Word.TheVariants as word
use Rattle.p4_lexer.specs.Spellings.{keyword_spelling, reserved_spelling, sign_spelling}

abbrev pub blank : ℕ
blank = 32

abbrev pub is_blank : ℕ → Bool
is_blank byte = byte == blank

-- A word in its shortest spelling; a number as it was written.
abbrev pub spelling : Word → List ℕ
spelling (word.Keyword k) = keyword_spelling k
spelling (word.Reserved r) = reserved_spelling r
spelling (word.Sign s) = sign_spelling s
spelling (word.Id text) = text
spelling (word.TypeName text) = text
spelling (word.Base text) = text
spelling (word.Int literal) = literal.spelling
spelling (word.Text text) = codes "\"" ++ (text ++ codes "\"")
spelling (word.Named text) = codes "@name(\"" ++ (text ++ codes "\")")
spelling word.DefaultOnly = codes "@defaultonly"
spelling word.TableOnly = codes "@tableonly"
spelling word.Lookahead = codes "lookahead"
spelling word.OpenArguments = codes "<"
spelling word.CloseArguments = codes ">"

abbrev pub written_token : Token → List ℕ
written_token t = spelling t.word ++ blank ∷ []

abbrev pub written : List Token → List ℕ
written tokens = flat_map written_token tokens
