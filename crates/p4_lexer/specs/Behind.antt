-- What is kept of the tokens so far while words are marked from left to right.
use Rattle.std.specs.Prelude.{ℕ, Bool, true, false, List, [], ◌∷◌, codes, Option, Some, None, reverse, if◌then◌else◌}
use Rattle.std.specs.Str.{bytes_eq}
use Rattle.std.specs.List.{list_any}
use Rattle.p4_lexer.specs.Spellings.{first_types}
use Rattle.p4_lexer.specs.declared.token.Token.{Token}
use Rattle.p4_lexer.specs.declared.token.Word.{Word}
use Rattle.p4_lexer.specs.declared.token.Word.TheVariants.{Keyword, Sign, Id, TypeName, Base, Lookahead, OpenArguments, CloseArguments}
use Rattle.p4_lexer.specs.declared.token.Keyword.{Keyword as KeywordName}
use Rattle.p4_lexer.specs.declared.token.Keyword.TheVariants.{Bit, Int as IntWord, Struct, Header, Parser, Control, Enum as EnumWord, Typedef}
use Rattle.p4_lexer.specs.declared.token.Sign.{Sign as SignName}
use Rattle.p4_lexer.specs.declared.token.Sign.TheVariants.{Dot as DotSign, Semicolon, LeftParen, RightParen, LeftBrace, RightBrace, LeftBracket, RightBracket}
use Rattle.p4_lexer.specs.declared.behind.Last.{Last}
use Rattle.p4_lexer.specs.declared.behind.Last.TheVariants.{Other as OtherLast, Dot, TakesArguments, Declares, Enum, EnumBit, Width as WidthLast}
use Rattle.p4_lexer.specs.declared.behind.Definition.{Definition}
use Rattle.p4_lexer.specs.declared.behind.Definition.TheVariants.{Outside, Inside, Named}
use Rattle.p4_lexer.specs.declared.behind.Kept.{Kept}
use Rattle.p4_lexer.specs.declared.behind.Open.{Open}
use Rattle.p4_lexer.specs.declared.behind.Open.TheVariants.{Arguments, Width, Other}

-- what a word makes of the next one, where `last` stands for the word before it and these brackets are open before it
abbrev pub behind_bit : Last → Last
behind_bit Enum = EnumBit
behind_bit _ = TakesArguments

abbrev pub behind_keyword : Last → KeywordName → Last
behind_keyword last Bit = behind_bit last
behind_keyword last IntWord = TakesArguments
behind_keyword last Struct = Declares
behind_keyword last Header = Declares
behind_keyword last Parser = Declares
behind_keyword last Control = Declares
behind_keyword last EnumWord = Enum
behind_keyword last _ = OtherLast

abbrev pub innermost : List Open → Option Open
innermost [] = None
innermost (o ∷ outer) = Some o

abbrev pub closed : Option Open → Last
closed (Some Width) = WidthLast
closed _ = OtherLast

abbrev pub behind_close : List Open → Last
behind_close open_ = closed (innermost open_)

abbrev pub behind_dot : SignName → Last
behind_dot DotSign = Dot
behind_dot _ = OtherLast

abbrev pub behind_type : List ℕ → Last
behind_type name = if bytes_eq name (codes "register") then TakesArguments else OtherLast

abbrev pub last_behind : Last → List Open → Word → Last
last_behind last open_ (Keyword k) = behind_keyword last k
last_behind last open_ (Sign s) = behind_dot s
last_behind last open_ (TypeName name) = behind_type name
last_behind last open_ Lookahead = TakesArguments
last_behind last open_ CloseArguments = behind_close open_
last_behind last open_ _ = OtherLast

-- the brackets that are open behind a word, the innermost first
abbrev pub close_other : List Open → List Open
close_other (Other ∷ outer) = outer
close_other open_ = open_

abbrev pub close_arguments : List Open → List Open
close_arguments (Arguments ∷ outer) = outer
close_arguments (Width ∷ outer) = outer
close_arguments open_ = open_

abbrev pub opened_by : Last → Open
opened_by EnumBit = Width
opened_by _ = Arguments

abbrev pub with_sign : List Open → SignName → List Open
with_sign open_ LeftParen = Other ∷ open_
with_sign open_ LeftBrace = Other ∷ open_
with_sign open_ LeftBracket = Other ∷ open_
with_sign open_ RightParen = close_other open_
with_sign open_ RightBrace = close_other open_
with_sign open_ RightBracket = close_other open_
with_sign open_ _ = open_

abbrev pub with_word : Last → List Open → Word → List Open
with_word last open_ (Sign s) = with_sign open_ s
with_word last open_ OpenArguments = opened_by last ∷ open_
with_word last open_ CloseArguments = close_arguments open_
with_word last open_ _ = open_

-- a `typedef` that is not ended, with the last name in it
abbrev pub begun : Definition → Definition
begun Outside = Inside
begun d = d

abbrev pub with_name : Definition → List ℕ → Definition
with_name Outside name = Outside
with_name _ name = Named name

abbrev pub definition_keyword : Definition → KeywordName → Definition
definition_keyword d Typedef = begun d
definition_keyword d _ = d

abbrev pub definition_sign : Definition → SignName → Definition
definition_sign d Semicolon = Outside
definition_sign d _ = d

abbrev pub definition_behind : Definition → Word → Definition
definition_behind d (Keyword k) = definition_keyword d k
definition_behind d (Sign s) = definition_sign d s
definition_behind d (Id name) = with_name d name
definition_behind d (TypeName name) = with_name d name
definition_behind d (Base name) = with_name d name
definition_behind d _ = d

pub record Behind : Type 0 where
  pub last : Last
  pub open_ : List Open
  pub definition : Definition

abbrev pub step : Behind → Word → Behind
step b w = record { last = last_behind b.last b.open_ w; open_ = with_word b.last b.open_ w; definition = definition_behind b.definition w }

abbrev pub start : Behind
start = record { last = OtherLast; open_ = []; definition = Outside }

abbrev pub behind_from : Behind → List Token → Behind
behind_from b [] = b
behind_from b (t ∷ tokens) = behind_from (step b t.word) tokens

-- what is kept behind these tokens
abbrev pub behind : List Token → Behind
behind tokens = behind_from start tokens

-- the name behind this is a type
abbrev pub names_next : Last → Bool
names_next Declares = true
names_next Enum = true
names_next WidthLast = true
names_next _ = false

abbrev pub named_type : Bool → List ℕ → Option (List ℕ)
named_type true name = Some name
named_type false name = None

abbrev pub ended : Definition → Option (List ℕ)
ended (Named name) = Some name
ended _ = None

abbrev pub sign_type : Definition → SignName → Option (List ℕ)
sign_type d Semicolon = ended d
sign_type d _ = None

-- the name that a word makes a type
abbrev pub new_type : Behind → Word → Option (List ℕ)
new_type b (Id name) = named_type (names_next b.last) name
new_type b (TypeName name) = named_type (names_next b.last) name
new_type b (Base name) = named_type (names_next b.last) name
new_type b (Sign s) = sign_type b.definition s
new_type b _ = None

-- the word makes the name a type
abbrev pub is_name : Option (List ℕ) → List ℕ → Bool
is_name (Some n) name = bytes_eq name n
is_name None name = false

abbrev pub is_first_type : List ℕ → Bool
is_first_type name = list_any (λ t. bytes_eq t name) first_types

abbrev pub is_dot : Last → Bool
is_dot Dot = true
is_dot _ = false

-- a `<` opens the arguments of a type
abbrev pub takes_arguments : Last → Bool
takes_arguments TakesArguments = true
takes_arguments EnumBit = true
takes_arguments _ = false

-- the innermost bracket is the `<` of a type's arguments
abbrev pub in_arguments : List Open → Bool
in_arguments (Arguments ∷ outer) = true
in_arguments (Width ∷ outer) = true
in_arguments _ = false

-- what the code keeps: the brackets with the innermost last
abbrev pub behind_of : Kept → Behind
behind_of kept = record { last = kept.last; open_ = reverse kept.open_; definition = kept.definition }
