-- The symbol that each word of a source is in the grammar. The words that the language keeps for forms that are left out are
-- one symbol, which stands in no row.
use Rattle.std.specs.Prelude.{ℕ, List, map}
use Rattle.p4_lexer.specs.declared.token.Keyword.{Keyword}
use Rattle.p4_lexer.specs.declared.token.Keyword.TheVariants as keyword
use Rattle.p4_lexer.specs.declared.token.Sign.{Sign}
use Rattle.p4_lexer.specs.declared.token.Sign.TheVariants as sign
use Rattle.p4_lexer.specs.declared.token.Word.{Word}
use Rattle.p4_lexer.specs.declared.token.Word.TheVariants as word
use Rattle.p4_lexer.specs.declared.token.Token.{Token}
use Rattle.p4_grammar.specs.declared.symbols.TheConstants.{BASE, CLOSE_ARGUMENTS, DEFAULT_ONLY, ID, INT_LITERAL, KEYWORD_ACTION, KEYWORD_ACTIONS, KEYWORD_APPLY, KEYWORD_BIT, KEYWORD_BOOL, KEYWORD_CONST, KEYWORD_CONTROL, KEYWORD_DEFAULT, KEYWORD_ELSE, KEYWORD_ENTRIES, KEYWORD_ENUM, KEYWORD_ERROR, KEYWORD_EXIT, KEYWORD_FALSE, KEYWORD_HEADER, KEYWORD_IF, KEYWORD_IN, KEYWORD_INOUT, KEYWORD_INT, KEYWORD_KEY, KEYWORD_OUT, KEYWORD_PARSER, KEYWORD_RETURN, KEYWORD_SELECT, KEYWORD_STATE, KEYWORD_STRUCT, KEYWORD_SWITCH, KEYWORD_TABLE, KEYWORD_TRANSITION, KEYWORD_TRUE, KEYWORD_TYPEDEF, LOOKAHEAD, NAMED, OPEN_ARGUMENTS, SIGN_AMPERSAND, SIGN_AND, SIGN_ASSIGN, SIGN_AT_LEAST, SIGN_AT_MOST, SIGN_BAR, SIGN_CARET, SIGN_COLON, SIGN_COMMA, SIGN_CONCAT, SIGN_DOT, SIGN_EQUAL, SIGN_GREATER, SIGN_LEFT_BRACE, SIGN_LEFT_BRACKET, SIGN_LEFT_PAREN, SIGN_LESS, SIGN_MASK, SIGN_MINUS, SIGN_NOT, SIGN_NOT_EQUAL, SIGN_OR, SIGN_PERCENT, SIGN_PLUS, SIGN_QUESTION, SIGN_RANGE, SIGN_RIGHT_BRACE, SIGN_RIGHT_BRACKET, SIGN_RIGHT_PAREN, SIGN_SATURATING_MINUS, SIGN_SATURATING_PLUS, SIGN_SEMICOLON, SIGN_SHIFT_LEFT, SIGN_SHIFT_RIGHT, SIGN_SLASH, SIGN_STAR, SIGN_TILDE, SIGN_UNDERSCORE, TABLE_ONLY, TEXT, TYPE_NAME, RESERVED}

abbrev pub keyword_symbol : Keyword → ℕ
keyword_symbol keyword.Action = KEYWORD_ACTION
keyword_symbol keyword.Actions = KEYWORD_ACTIONS
keyword_symbol keyword.Apply = KEYWORD_APPLY
keyword_symbol keyword.Bit = KEYWORD_BIT
keyword_symbol keyword.Bool = KEYWORD_BOOL
keyword_symbol keyword.Const = KEYWORD_CONST
keyword_symbol keyword.Control = KEYWORD_CONTROL
keyword_symbol keyword.Default = KEYWORD_DEFAULT
keyword_symbol keyword.Else = KEYWORD_ELSE
keyword_symbol keyword.Entries = KEYWORD_ENTRIES
keyword_symbol keyword.Enum = KEYWORD_ENUM
keyword_symbol keyword.Error = KEYWORD_ERROR
keyword_symbol keyword.Exit = KEYWORD_EXIT
keyword_symbol keyword.False = KEYWORD_FALSE
keyword_symbol keyword.Header = KEYWORD_HEADER
keyword_symbol keyword.If = KEYWORD_IF
keyword_symbol keyword.In = KEYWORD_IN
keyword_symbol keyword.Inout = KEYWORD_INOUT
keyword_symbol keyword.Int = KEYWORD_INT
keyword_symbol keyword.Key = KEYWORD_KEY
keyword_symbol keyword.Out = KEYWORD_OUT
keyword_symbol keyword.Parser = KEYWORD_PARSER
keyword_symbol keyword.Return = KEYWORD_RETURN
keyword_symbol keyword.Select = KEYWORD_SELECT
keyword_symbol keyword.State = KEYWORD_STATE
keyword_symbol keyword.Struct = KEYWORD_STRUCT
keyword_symbol keyword.Switch = KEYWORD_SWITCH
keyword_symbol keyword.Table = KEYWORD_TABLE
keyword_symbol keyword.Transition = KEYWORD_TRANSITION
keyword_symbol keyword.True = KEYWORD_TRUE
keyword_symbol keyword.Typedef = KEYWORD_TYPEDEF

abbrev pub sign_symbol : Sign → ℕ
sign_symbol sign.Mask = SIGN_MASK
sign_symbol sign.SaturatingPlus = SIGN_SATURATING_PLUS
sign_symbol sign.SaturatingMinus = SIGN_SATURATING_MINUS
sign_symbol sign.ShiftLeft = SIGN_SHIFT_LEFT
sign_symbol sign.ShiftRight = SIGN_SHIFT_RIGHT
sign_symbol sign.AtMost = SIGN_AT_MOST
sign_symbol sign.AtLeast = SIGN_AT_LEAST
sign_symbol sign.Equal = SIGN_EQUAL
sign_symbol sign.NotEqual = SIGN_NOT_EQUAL
sign_symbol sign.And = SIGN_AND
sign_symbol sign.Or = SIGN_OR
sign_symbol sign.Concat = SIGN_CONCAT
sign_symbol sign.Range = SIGN_RANGE
sign_symbol sign.Plus = SIGN_PLUS
sign_symbol sign.Minus = SIGN_MINUS
sign_symbol sign.Star = SIGN_STAR
sign_symbol sign.Slash = SIGN_SLASH
sign_symbol sign.Percent = SIGN_PERCENT
sign_symbol sign.Ampersand = SIGN_AMPERSAND
sign_symbol sign.Bar = SIGN_BAR
sign_symbol sign.Caret = SIGN_CARET
sign_symbol sign.Tilde = SIGN_TILDE
sign_symbol sign.Not = SIGN_NOT
sign_symbol sign.Less = SIGN_LESS
sign_symbol sign.Greater = SIGN_GREATER
sign_symbol sign.Assign = SIGN_ASSIGN
sign_symbol sign.LeftParen = SIGN_LEFT_PAREN
sign_symbol sign.RightParen = SIGN_RIGHT_PAREN
sign_symbol sign.LeftBrace = SIGN_LEFT_BRACE
sign_symbol sign.RightBrace = SIGN_RIGHT_BRACE
sign_symbol sign.LeftBracket = SIGN_LEFT_BRACKET
sign_symbol sign.RightBracket = SIGN_RIGHT_BRACKET
sign_symbol sign.Comma = SIGN_COMMA
sign_symbol sign.Semicolon = SIGN_SEMICOLON
sign_symbol sign.Colon = SIGN_COLON
sign_symbol sign.Dot = SIGN_DOT
sign_symbol sign.Question = SIGN_QUESTION
sign_symbol sign.Underscore = SIGN_UNDERSCORE

abbrev pub terminal_of : Word → ℕ
terminal_of (word.Keyword k) = keyword_symbol k
terminal_of (word.Sign s) = sign_symbol s
terminal_of (word.Reserved reserved) = RESERVED
terminal_of (word.Id text) = ID
terminal_of (word.TypeName text) = TYPE_NAME
terminal_of (word.Base text) = BASE
terminal_of (word.Int literal) = INT_LITERAL
terminal_of (word.Text text) = TEXT
terminal_of (word.Named text) = NAMED
terminal_of word.DefaultOnly = DEFAULT_ONLY
terminal_of word.TableOnly = TABLE_ONLY
terminal_of word.Lookahead = LOOKAHEAD
terminal_of word.OpenArguments = OPEN_ARGUMENTS
terminal_of word.CloseArguments = CLOSE_ARGUMENTS

-- the symbols of a list of tokens
abbrev pub terminals_of : List Token → List ℕ
terminals_of tokens = map (λ t. terminal_of t.word) tokens
