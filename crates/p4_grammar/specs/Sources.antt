-- The declarations at the top of a source, by the rows of their forms, and the tree of a list of tokens.
use Rattle.std.specs.Prelude.{◌≡◌, ◌==◌, List, [], ◌∷◌, Option, None, Some, if◌then◌else◌}
use Rattle.tg_base.specs.declared.place.Span.{Span}
use Rattle.p4_lexer.specs.declared.token.Keyword.TheVariants as keyword
use Rattle.p4_lexer.specs.declared.token.Word.{Word}
use Rattle.p4_lexer.specs.declared.token.Word.TheVariants as word
use Rattle.p4_lexer.specs.declared.token.Tokens.{Tokens}
use Rattle.p4_tree.specs.declared.names.Name.{Name}
use Rattle.p4_tree.specs.declared.names.Annotation.{Annotation}
use Rattle.p4_tree.specs.declared.expressions.BaseType.TheVariants as base
use Rattle.p4_tree.specs.declared.expressions.TypeForm.{TypeForm}
use Rattle.p4_tree.specs.declared.expressions.Width.{Width}
use Rattle.p4_tree.specs.declared.declarations.Source.{Source}
use Rattle.p4_tree.specs.declared.declarations.TopPart.{TopPart}
use Rattle.p4_tree.specs.declared.declarations.TopPart.TheVariants as top
use Rattle.p4_tree.specs.declared.declarations.DeclarationKind.{DeclarationKind}
use Rattle.p4_tree.specs.declared.declarations.DeclarationKind.TheVariants as declared
use Rattle.p4_tree.specs.declared.declarations.Field.{Field}
use Rattle.p4_tree.specs.declared.declarations.Member.{Member}
use Rattle.p4_tree.specs.declared.declarations.Enumeration.{Enumeration}
use Rattle.p4_grammar.specs.declared.symbols.TheConstants.{CONSTANT, ENUMERATION, ACTION, PARSER}
use Rattle.p4_grammar.specs.Parses.{Parse, End, Word as Leaf, Node, IsParseOf, place_of, option_map, both, all_three, all_four}
use Rattle.p4_grammar.specs.Names.{name_at, name_of, annotations}
use Rattle.p4_grammar.specs.Expressions.{type_at, type_form, width_of, type_arguments}
use Rattle.p4_grammar.specs.Statements.{initial_value, constant}
use Rattle.p4_grammar.specs.Parsers.{parser}
use Rattle.p4_grammar.specs.Controls.{action, control, instance_arguments, instance_at}

abbrev pub field_at : List Annotation → TypeForm → Name → Span → Field
field_at notes form name span = record { annotations = notes; type_form = form; name = name; span = span }

-- FIELDS_LIST
unfoldable pub fields_list : Parse → Option (List Field)
fields_list End = Some []
fields_list (Node k r notes (Node j s form (Node i q name (Leaf end (Node l u rest End))))) =
    both (λ one more. one ∷ more) (all_four field_at (annotations notes) (type_form form) (name_of name) (place_of form)) (fields_list rest)
fields_list _ = None

-- FIELDS
unfoldable pub fields : Parse → Option (List Field)
fields (Leaf begin (Node k r below (Leaf close End))) = fields_list below
fields _ = None

-- MEMBER
unfoldable pub member : Parse → Option Member
member (Node k r name (Node j s value End)) = all_three (λ n v span. record { name = n; value = v; span = span }) (name_of name) (initial_value value) (place_of name)
member _ = None

unfoldable mutual
  -- MEMBERS_TAIL
  pub members_tail : Parse → Option (List Member)
  members_tail End = Some []
  members_tail (Leaf comma (Node k r more End)) = members_more more
  members_tail _ = None

  -- MEMBERS_MORE: none behind a last comma
  pub members_more : Parse → Option (List Member)
  members_more End = Some []
  members_more (Node k r below (Node j s rest End)) = both (λ one more. one ∷ more) (member below) (members_tail rest)
  members_more _ = None

-- MEMBERS
unfoldable pub members : Parse → Option (List Member)
members (Leaf begin (Node k r below (Node j s rest (Leaf close End)))) = both (λ one more. one ∷ more) (member below) (members_tail rest)
members _ = None

-- ENUMERATION_WIDTH
unfoldable pub enumeration_width : Parse → Option (Option Width)
enumeration_width End = Some None
enumeration_width (Leaf bit (Leaf begin (Node k r below (Leaf close End)))) = option_map (λ w. Some w) (width_of below)
enumeration_width _ = None

-- ENUMERATION
unfoldable pub enumeration : Parse → Option Enumeration
enumeration (Leaf begin (Node k r width (Node j s name (Node i q below End)))) =
    all_three (λ w n ms. record { width = w; name = n; members = ms }) (enumeration_width width) (name_of name) (members below)
enumeration _ = None

-- a struct or a header, by its first word
abbrev pub fielded : Word → Option (Name → List Field → DeclarationKind)
fielded (word.Keyword keyword.Struct) = Some (λ n fs. declared.Struct n fs)
fielded (word.Keyword keyword.Header) = Some (λ n fs. declared.Header n fs)
fielded _ = None

abbrev pub fielded_at : (Name → List Field → DeclarationKind) → Name → List Field → DeclarationKind
fielded_at made name fields = made name fields

-- DECLARATION
unfoldable pub declaration : Parse → Option DeclarationKind
declaration (Node k r below End) =
    if r.left == CONSTANT then option_map (λ c. declared.Constant c) (constant below)
    else (if r.left == ENUMERATION then option_map (λ e. declared.Enumeration e) (enumeration below)
    else (if r.left == ACTION then option_map (λ a. declared.Action a) (action below)
    else (if r.left == PARSER then option_map (λ p. declared.Parser p) (parser below)
    else option_map (λ c. declared.Control c) (control below))))
declaration (Leaf begin (Node k r below End)) = option_map (λ ms. declared.Errors ms) (members below)
declaration (Leaf begin (Node k r name (Node j s below End))) = all_three fielded_at (fielded begin.word) (name_of name) (fields below)
declaration (Leaf begin (Node k r form (Node j s name (Leaf end End)))) =
    both (λ t n. declared.Typedef (record { type_form = t; name = n })) (type_form form) (name_of name)
declaration (Leaf begin (Node k r below (Node j s given (Node i q name (Leaf end End))))) =
    option_map (λ made. declared.Instance made)
    (all_four instance_at (both (λ n of_it. type_at begin.span (base.Named n of_it) None) (name_at begin) (type_arguments below))
    (Some begin.span) (instance_arguments given) (name_of name))
declaration _ = None

-- PROGRAM: a declaration's place is that of its first token without annotations
unfoldable pub program : Parse → Option (List TopPart)
program End = Some []
program (Leaf t (Node k r rest End)) = option_map (λ more. top.Empty t.span ∷ more) (program rest)
program (Node k r notes (Node j s below (Node i q rest End))) =
    both (λ one more. top.Declaration one ∷ more)
    (all_three (λ ns kind span. record { annotations = ns; kind = kind; span = span }) (annotations notes) (declaration below) (place_of below))
    (program rest)
program _ = None

-- what a whole derivation declares
abbrev pub parts_of : Parse → Option (List TopPart)
parts_of (Node k r below End) = program below
parts_of _ = None

-- The source is the tree of a derivation of the tokens, with the place behind them.
pub record IsSourceOf (source : Source) (tokens : Tokens) : Type 0 where
  pub parse : Parse
  pub derives : IsParseOf parse tokens.tokens
  pub parts : parts_of parse ≡ Some source.parts
  pub end : source.end ≡ tokens.end
