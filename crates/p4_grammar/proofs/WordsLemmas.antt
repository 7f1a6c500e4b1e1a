-- Each word is a symbol behind the forms, and so a token of the grammar.
use Rattle.std.proofs.Common.{◌≡◌, ℕ, ◌<◌, ◌&&◌, Bool, true, leb, ltb, List, [], ◌∷◌, refl}
use Rattle.std.specs.List.{AllByRecursion}
use Rattle.std.proofs.lemmas.Bool.{and_parts, ltb-true, leb-true}
use Rattle.p4_lexer.specs.declared.token.Keyword.{Keyword}
use Rattle.p4_lexer.specs.declared.token.Keyword.TheVariants as keyword
use Rattle.p4_lexer.specs.declared.token.Sign.{Sign}
use Rattle.p4_lexer.specs.declared.token.Sign.TheVariants as sign
use Rattle.p4_lexer.specs.declared.token.Word.{Word}
use Rattle.p4_lexer.specs.declared.token.Word.TheVariants as word
use Rattle.p4_lexer.specs.declared.token.Token.{Token}
use Rattle.ll1_engine.specs.Table.{IsToken}
use Rattle.p4_grammar.specs.declared.symbols.TheConstants.{FORM_COUNT, SYMBOL_COUNT}
use Rattle.p4_grammar.specs.Rows.{grammar_rows}
use Rattle.p4_grammar.specs.Words.{keyword_symbol, sign_symbol, terminal_of, terminals_of}
use Rattle.p4_grammar.proofs.GoodTable.{word_is_token_here}

abbrev pub is_word : ℕ → Bool
is_word x = leb FORM_COUNT x && ltb x SYMBOL_COUNT

keyword_is_word : (k : Keyword) → is_word (keyword_symbol k) ≡ true
keyword_is_word keyword.Action = refl
keyword_is_word keyword.Actions = refl
keyword_is_word keyword.Apply = refl
keyword_is_word keyword.Bit = refl
keyword_is_word keyword.Bool = refl
keyword_is_word keyword.Const = refl
keyword_is_word keyword.Control = refl
keyword_is_word keyword.Default = refl
keyword_is_word keyword.Else = refl
keyword_is_word keyword.Entries = refl
keyword_is_word keyword.Enum = refl
keyword_is_word keyword.Error = refl
keyword_is_word keyword.Exit = refl
keyword_is_word keyword.False = refl
keyword_is_word keyword.Header = refl
keyword_is_word keyword.If = refl
keyword_is_word keyword.In = refl
keyword_is_word keyword.Inout = refl
keyword_is_word keyword.Int = refl
keyword_is_word keyword.Key = refl
keyword_is_word keyword.Out = refl
keyword_is_word keyword.Parser = refl
keyword_is_word keyword.Return = refl
keyword_is_word keyword.Select = refl
keyword_is_word keyword.State = refl
keyword_is_word keyword.Struct = refl
keyword_is_word keyword.Switch = refl
keyword_is_word keyword.Table = refl
keyword_is_word keyword.Transition = refl
keyword_is_word keyword.True = refl
keyword_is_word keyword.Typedef = refl

sign_is_word : (s : Sign) → is_word (sign_symbol s) ≡ true
sign_is_word sign.Mask = refl
sign_is_word sign.SaturatingPlus = refl
sign_is_word sign.SaturatingMinus = refl
sign_is_word sign.ShiftLeft = refl
sign_is_word sign.ShiftRight = refl
sign_is_word sign.AtMost = refl
sign_is_word sign.AtLeast = refl
sign_is_word sign.Equal = refl
sign_is_word sign.NotEqual = refl
sign_is_word sign.And = refl
sign_is_word sign.Or = refl
sign_is_word sign.Concat = refl
sign_is_word sign.Range = refl
sign_is_word sign.Plus = refl
sign_is_word sign.Minus = refl
sign_is_word sign.Star = refl
sign_is_word sign.Slash = refl
sign_is_word sign.Percent = refl
sign_is_word sign.Ampersand = refl
sign_is_word sign.Bar = refl
sign_is_word sign.Caret = refl
sign_is_word sign.Tilde = refl
sign_is_word sign.Not = refl
sign_is_word sign.Less = refl
sign_is_word sign.Greater = refl
sign_is_word sign.Assign = refl
sign_is_word sign.LeftParen = refl
sign_is_word sign.RightParen = refl
sign_is_word sign.LeftBrace = refl
sign_is_word sign.RightBrace = refl
sign_is_word sign.LeftBracket = refl
sign_is_word sign.RightBracket = refl
sign_is_word sign.Comma = refl
sign_is_word sign.Semicolon = refl
sign_is_word sign.Colon = refl
sign_is_word sign.Dot = refl
sign_is_word sign.Question = refl
sign_is_word sign.Underscore = refl

pub terminal_is_word : (w : Word) → is_word (terminal_of w) ≡ true
terminal_is_word (word.Keyword k) = keyword_is_word k
terminal_is_word (word.Sign s) = sign_is_word s
terminal_is_word (word.Reserved reserved) = refl
terminal_is_word (word.Id text) = refl
terminal_is_word (word.TypeName text) = refl
terminal_is_word (word.Base text) = refl
terminal_is_word (word.Int literal) = refl
terminal_is_word (word.Text text) = refl
terminal_is_word (word.Named text) = refl
terminal_is_word word.DefaultOnly = refl
terminal_is_word word.TableOnly = refl
terminal_is_word word.Lookahead = refl
terminal_is_word word.OpenArguments = refl
terminal_is_word word.CloseArguments = refl

pub terminal_is_token : (w : Word) → (terminal_of w < SYMBOL_COUNT) × IsToken grammar_rows (terminal_of w)
terminal_is_token w =
    let a = and_parts (leb FORM_COUNT (terminal_of w)) (ltb (terminal_of w) SYMBOL_COUNT) (terminal_is_word w) in
    (ltb-true (terminal_of w) SYMBOL_COUNT a.1, word_is_token_here (terminal_of w) (leb-true FORM_COUNT (terminal_of w) a.0))

pub terminals_are_tokens : (tokens : List Token) → AllByRecursion (λ t. (t < SYMBOL_COUNT) × IsToken grammar_rows t) (terminals_of tokens)
terminals_are_tokens [] = tt
terminals_are_tokens (t ∷ tokens) = (terminal_is_token t.word, terminals_are_tokens tokens)
