-- What the reading of a list of tokens answers.
use Rattle.std.specs.Prelude.{◌⊎◌}
use Rattle.tg_base.specs.declared.place.Refusal.{Refusal}
use Rattle.p4_lexer.specs.declared.token.Tokens.{Tokens}
use Rattle.p4_tree.specs.declared.declarations.Source.{Source}
use Rattle.p4_grammar.specs.Derivation.{IsSyntaxFault}
use Rattle.p4_grammar.specs.Depth.{IsDepthFault, IsShallow}
use Rattle.p4_grammar.specs.Sources.{IsSourceOf}

-- the tree of the tokens, where none of them has too much open around it
pub record IsReading (source : Source) (tokens : Tokens) : Type 0 where
  pub tree : IsSourceOf source tokens
  pub shallow : IsShallow tokens.tokens

-- Of the two refusals the first place decides. Only tokens before the place of Syntax have a depth, so TooDeep decides where
-- a token has too much open around it.
abbrev pub IsReadFault : Tokens → Refusal → Type 0
IsReadFault tokens refusal = IsDepthFault tokens refusal ⊎ (IsShallow tokens.tokens × IsSyntaxFault tokens refusal)
