-- The brackets that are open behind tokens, among them the `<` of a type's arguments.
use Rattle.std.specs.Prelude.{◌≡◌, List, [], ◌∷◌}
use Rattle.p4_lexer.specs.declared.token.Token.{Token}
use Rattle.p4_lexer.specs.declared.token.Word.{Word}
use Rattle.p4_lexer.specs.declared.token.Word.TheVariants.{Sign, OpenArguments, CloseArguments}
use Rattle.p4_lexer.specs.declared.token.Sign.{Sign as SignName}
use Rattle.p4_lexer.specs.declared.token.Sign.TheVariants.{LeftParen, RightParen, LeftBrace, RightBrace, LeftBracket, RightBracket}

pub data Bracket : Type 0 where
  Arguments : Bracket
  Other : Bracket

-- a closing bracket ends the innermost of its sort, unless the arguments of a type were opened behind that
abbrev pub end_other : List Bracket → List Bracket
end_other (Other ∷ outer) = outer
end_other brackets = brackets

abbrev pub end_arguments : List Bracket → List Bracket
end_arguments (Arguments ∷ outer) = outer
end_arguments brackets = brackets

abbrev pub behind_sign : List Bracket → SignName → List Bracket
behind_sign brackets LeftParen = Other ∷ brackets
behind_sign brackets LeftBrace = Other ∷ brackets
behind_sign brackets LeftBracket = Other ∷ brackets
behind_sign brackets RightParen = end_other brackets
behind_sign brackets RightBrace = end_other brackets
behind_sign brackets RightBracket = end_other brackets
behind_sign brackets _ = brackets

abbrev pub behind_word : List Bracket → Word → List Bracket
behind_word brackets (Sign s) = behind_sign brackets s
behind_word brackets OpenArguments = Arguments ∷ brackets
behind_word brackets CloseArguments = end_arguments brackets
behind_word brackets _ = brackets

-- the brackets that are open behind the tokens, the innermost first, where these are open before them
abbrev pub open_behind : List Bracket → List Token → List Bracket
open_behind brackets [] = brackets
open_behind brackets (t ∷ tokens) = open_behind (behind_word brackets t.word) tokens

-- the arguments of a type are the innermost bracket
abbrev pub InArguments : List Token → Type 0
InArguments before = (outer : List Bracket) × (open_behind [] before ≡ Arguments ∷ outer)
