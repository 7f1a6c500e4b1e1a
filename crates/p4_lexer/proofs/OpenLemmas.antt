-- The brackets that are kept are those that are open, and the innermost of them tells whether the arguments of a type are.
use Rattle.std.proofs.Common.{◌≡◌, List, [], ◌∷◌, ◌++◌, map, Decides, refl, sym, ap, ◌∙◌}
use Rattle.std.proofs.lemmas.Bool.{false≢true}
use Rattle.p4_lexer.specs.declared.token.Token.{Token}
use Rattle.p4_lexer.specs.declared.token.Word.{Word}
use Rattle.p4_lexer.specs.declared.token.Word.TheVariants.{Sign, OpenArguments, CloseArguments}
use Rattle.p4_lexer.specs.declared.token.Sign.{Sign as SignName}
use Rattle.p4_lexer.specs.declared.token.Sign.TheVariants.{LeftParen, RightParen, LeftBrace, RightBrace, LeftBracket, RightBracket}
use Rattle.p4_lexer.specs.declared.behind.Last.{Last}
use Rattle.p4_lexer.specs.declared.behind.Last.TheVariants.{EnumBit}
use Rattle.p4_lexer.specs.declared.behind.Open.{Open}
use Rattle.p4_lexer.specs.declared.behind.Open.TheVariants.{Arguments, Width, Other}
use Rattle.p4_lexer.specs.Brackets.{Bracket, Arguments as ArgumentsBracket, Other as OtherBracket, end_other, end_arguments, behind_sign, behind_word, open_behind, InArguments}
use Rattle.p4_lexer.specs.Behind.{in_arguments, Behind, behind, behind_from, step, start, close_other, close_arguments, opened_by, with_sign, with_word}

abbrev pub bracket_of : Open → Bracket
bracket_of Arguments = ArgumentsBracket
bracket_of Width = ArgumentsBracket
bracket_of Other = OtherBracket

abbrev pub brackets_of : List Open → List Bracket
brackets_of open_ = map bracket_of open_

pub close_other_brackets : (open_ : List Open) → brackets_of (close_other open_) ≡ end_other (brackets_of open_)
close_other_brackets [] = refl
close_other_brackets (Arguments ∷ outer) = refl
close_other_brackets (Width ∷ outer) = refl
close_other_brackets (Other ∷ outer) = refl

pub close_arguments_brackets : (open_ : List Open) → brackets_of (close_arguments open_) ≡ end_arguments (brackets_of open_)
close_arguments_brackets [] = refl
close_arguments_brackets (Arguments ∷ outer) = refl
close_arguments_brackets (Width ∷ outer) = refl
close_arguments_brackets (Other ∷ outer) = refl

opened_bracket : (last : Last) → bracket_of (opened_by last) ≡ ArgumentsBracket
opened_bracket EnumBit = refl
opened_bracket _ = refl

pub with_sign_brackets : (open_ : List Open) (s : SignName) → brackets_of (with_sign open_ s) ≡ behind_sign (brackets_of open_) s
with_sign_brackets open_ LeftParen = refl
with_sign_brackets open_ LeftBrace = refl
with_sign_brackets open_ LeftBracket = refl
with_sign_brackets open_ RightParen = close_other_brackets open_
with_sign_brackets open_ RightBrace = close_other_brackets open_
with_sign_brackets open_ RightBracket = close_other_brackets open_
with_sign_brackets open_ _ = refl

pub with_word_brackets : (last : Last) (open_ : List Open) (w : Word) → brackets_of (with_word last open_ w) ≡ behind_word (brackets_of open_) w
with_word_brackets last open_ (Sign s) = with_sign_brackets open_ s
with_word_brackets last open_ OpenArguments = ap (λ b. b ∷ brackets_of open_) (opened_bracket last)
with_word_brackets last open_ CloseArguments = close_arguments_brackets open_
with_word_brackets last open_ _ = refl

behind_from_brackets : (b : Behind) (tokens : List Token) → brackets_of (behind_from b tokens).open_ ≡ open_behind (brackets_of b.open_) tokens
behind_from_brackets b [] = refl
behind_from_brackets b (t ∷ tokens) = behind_from_brackets (step b t.word) tokens ∙ ap (λ o. open_behind o tokens) (with_word_brackets b.last b.open_ t.word)

pub behind_brackets : (tokens : List Token) → brackets_of (behind tokens).open_ ≡ open_behind [] tokens
behind_brackets tokens = behind_from_brackets start tokens

pub behind_from_push : (b : Behind) (tokens : List Token) (t : Token) → behind_from b (tokens ++ t ∷ []) ≡ step (behind_from b tokens) t.word
behind_from_push b [] t = refl
behind_from_push b (x ∷ tokens) t = behind_from_push (step b x.word) tokens t

pub behind_push : (tokens : List Token) (t : Token) → behind (tokens ++ t ∷ []) ≡ step (behind tokens) t.word
behind_push tokens t = behind_from_push start tokens t

pub open_behind_push : (o : List Bracket) (tokens : List Token) (t : Token) → open_behind o (tokens ++ t ∷ []) ≡ behind_word (open_behind o tokens) t.word
open_behind_push o [] t = refl
open_behind_push o (x ∷ tokens) t = open_behind_push (behind_word o x.word) tokens t

top_decides : (open_ : List Open) → Decides (in_arguments open_) ((outer : List Bracket) × (brackets_of open_ ≡ ArgumentsBracket ∷ outer))
top_decides [] = (λ e. absurd (false≢true e), λ h. absurd (cc h.1))
top_decides (Arguments ∷ outer) = (λ _. (brackets_of outer, refl), λ _. refl)
top_decides (Width ∷ outer) = (λ _. (brackets_of outer, refl), λ _. refl)
top_decides (Other ∷ outer) = (λ e. absurd (false≢true e), λ h. absurd (cc h.1))

pub in_arguments_decides : (tokens : List Token) → Decides (in_arguments (behind tokens).open_) (InArguments tokens)
in_arguments_decides tokens =
    let both = top_decides (behind tokens).open_ in
    let same = behind_brackets tokens in
    (λ e. ((both.0 e).0, sym same ∙ (both.0 e).1), λ h. both.1 (h.0, same ∙ h.1))
