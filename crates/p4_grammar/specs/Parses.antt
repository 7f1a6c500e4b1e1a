-- Derivations with their tokens, from which the tree of a source is read.
use Rattle.std.specs.Prelude.{◌≡◌, ℕ, List, [], ◌∷◌, ◌++◌, Option, None, Some}
use Rattle.tg_base.specs.declared.place.Span.{Span}
use Rattle.p4_lexer.specs.declared.token.Token.{Token}
use Rattle.ll1_engine.specs.declared.grammar.Row.{Row}
use Rattle.ll1_engine.specs.Trees.{Trees, End as TreesEnd, Leaf, Node as TreesNode}
use Rattle.p4_grammar.specs.Words.{terminal_of}
use Rattle.p4_grammar.specs.Derivation.{IsDerivation}

-- a list of derivation trees: empty; or a token, and the trees after it; or a node by row k, which is r, with the trees below
-- it, and the trees after it
pub data Parse : Type 0 where
  End : Parse
  Word : (token : Token) (after : Parse) → Parse
  Node : (k : ℕ) (r : Row) (below after : Parse) → Parse

-- its tokens, from left to right
abbrev pub tokens_in : Parse → List Token
tokens_in End = []
tokens_in (Word t after) = t ∷ tokens_in after
tokens_in (Node k r below after) = tokens_in below ++ tokens_in after

-- the same trees with symbols for tokens
abbrev pub trees_of : Parse → Trees
trees_of End = TreesEnd
trees_of (Word t after) = Leaf (terminal_of t.word) (trees_of after)
trees_of (Node k r below after) = TreesNode k r (trees_of below) (trees_of after)

-- a derivation of these tokens, which bears them as its leaves
pub record IsParseOf (parse : Parse) (tokens : List Token) : Type 0 where
  pub derives : IsDerivation (trees_of parse) tokens
  pub bears : tokens_in parse ≡ tokens

abbrev pub first_span : List Token → Option Span
first_span [] = None
first_span (t ∷ ts) = Some t.span

-- the place of the first token
abbrev pub place_of : Parse → Option Span
place_of parse = first_span (tokens_in parse)

abbrev pub option_map : {X Y : Type 0} → (X → Y) → Option X → Option Y
option_map f None = None
option_map f (Some x) = Some (f x)

-- of parts that are all there
abbrev pub both : {X Y Z : Type 0} → (X → Y → Z) → Option X → Option Y → Option Z
both f None y = None
both f (Some x) y = option_map (f x) y

abbrev pub all_three : {X Y Z W : Type 0} → (X → Y → Z → W) → Option X → Option Y → Option Z → Option W
all_three f None y z = None
all_three f (Some x) y z = both (f x) y z

abbrev pub all_four : {X Y Z V W : Type 0} → (X → Y → Z → V → W) → Option X → Option Y → Option Z → Option V → Option W
all_four f None y z v = None
all_four f (Some x) y z v = all_three (f x) y z v
