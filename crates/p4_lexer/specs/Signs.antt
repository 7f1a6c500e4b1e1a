-- A sign is spelled as one of the table.
use Rattle.std.specs.Prelude.{◌≡◌, ℕ, List}
use Rattle.p4_lexer.specs.declared.token.Sign.{Sign}
use Rattle.p4_lexer.specs.Spellings.{sign_spelling}

abbrev pub IsSign : List ℕ → Type 0
IsSign w = (sign : Sign) × (w ≡ sign_spelling sign)
