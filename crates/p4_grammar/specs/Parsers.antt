-- The parsers of a source with their states, and the parameters that several kinds of declarations share, by the rows of
-- their forms.
use Rattle.std.specs.Prelude.{◌==◌, List, [], ◌∷◌, Option, None, Some, if◌then◌else◌}
use Rattle.tg_base.specs.declared.place.Span.{Span}
use Rattle.p4_lexer.specs.declared.token.Keyword.TheVariants as keyword
use Rattle.p4_lexer.specs.declared.token.Word.{Word}
use Rattle.p4_lexer.specs.declared.token.Word.TheVariants as word
use Rattle.p4_tree.specs.declared.names.Name.{Name}
use Rattle.p4_tree.specs.declared.names.Annotation.{Annotation}
use Rattle.p4_tree.specs.declared.expressions.TypeForm.{TypeForm}
use Rattle.p4_tree.specs.declared.declarations.Parameter.{Parameter}
use Rattle.p4_tree.specs.declared.declarations.Direction.{Direction}
use Rattle.p4_tree.specs.declared.declarations.Direction.TheVariants as direction
use Rattle.p4_tree.specs.declared.parsers.Parser.{Parser}
use Rattle.p4_tree.specs.declared.parsers.ParserPart.{ParserPart}
use Rattle.p4_tree.specs.declared.parsers.ParserPartKind.{ParserPartKind}
use Rattle.p4_tree.specs.declared.parsers.ParserPartKind.TheVariants as part
use Rattle.p4_tree.specs.declared.parsers.State.{State}
use Rattle.p4_tree.specs.declared.parsers.Transition.{Transition}
use Rattle.p4_tree.specs.declared.parsers.TransitionKind.{TransitionKind}
use Rattle.p4_tree.specs.declared.parsers.TransitionKind.TheVariants.{To, Select}
use Rattle.p4_tree.specs.declared.parsers.SelectCase.{SelectCase}
use Rattle.p4_grammar.specs.declared.symbols.TheConstants.{VARIABLE}
use Rattle.p4_grammar.specs.Parses.{Parse, End, Word as Leaf, Node, first_span, tokens_in, place_of, option_map, both, all_three, all_four}
use Rattle.p4_grammar.specs.Names.{name_of, annotations}
use Rattle.p4_grammar.specs.Expressions.{expressions, type_form}
use Rattle.p4_grammar.specs.Keys.{key_set}
use Rattle.p4_grammar.specs.Statements.{variable, block_parts}

abbrev pub direction_at : Word → Option Direction
direction_at (word.Keyword keyword.In) = Some direction.In
direction_at (word.Keyword keyword.Out) = Some direction.Out
direction_at (word.Keyword keyword.Inout) = Some direction.InOut
direction_at _ = None

-- DIRECTION
unfoldable pub direction_of : Parse → Option (Option Direction)
direction_of End = Some None
direction_of (Leaf t End) = option_map (λ d. Some d) (direction_at t.word)
direction_of _ = None

abbrev pub parameter_at : List Annotation → Option Direction → TypeForm → Name → Span → Parameter
parameter_at notes way form name span = record { annotations = notes; direction = way; type_form = form; name = name; span = span }

-- PARAMETER: its place is that of its direction, or of its type where it has none
unfoldable pub parameter : Parse → Option Parameter
parameter (Node k r notes (Node j s way (Node i q form (Node l u name End)))) =
    both (λ f span. f span) (all_four parameter_at (annotations notes) (direction_of way) (type_form form) (name_of name))
    (first_span (tokens_in (Node j s way (Node i q form End))))
parameter _ = None

-- PARAMETERS_TAIL
unfoldable pub parameters_tail : Parse → Option (List Parameter)
parameters_tail End = Some []
parameters_tail (Leaf comma (Node k r below (Node j s rest End))) = both (λ one more. one ∷ more) (parameter below) (parameters_tail rest)
parameters_tail _ = None

-- PARAMETERS_LIST
unfoldable pub parameters_list : Parse → Option (List Parameter)
parameters_list End = Some []
parameters_list (Node k r below (Node j s rest End)) = both (λ one more. one ∷ more) (parameter below) (parameters_tail rest)
parameters_list _ = None

-- PARAMETERS
unfoldable pub parameters : Parse → Option (List Parameter)
parameters (Leaf left (Node k r below (Leaf right End))) = parameters_list below
parameters _ = None

-- SELECT_CASES
unfoldable pub select_cases : Parse → Option (List SelectCase)
select_cases End = Some []
select_cases (Node k r keys (Leaf colon (Node j s name (Leaf end (Node i q rest End))))) =
    both (λ one more. one ∷ more) (all_three (λ set target span. record { key_set = set; target = target; span = span }) (key_set keys) (name_of name) (place_of keys)) (select_cases rest)
select_cases _ = None

-- TRANSITION_TARGET
unfoldable pub transition_target : Parse → Option TransitionKind
transition_target (Node k r name (Leaf end End)) = option_map (λ n. To n) (name_of name)
transition_target (Leaf begin (Leaf left (Node k r values (Leaf right (Leaf open_brace (Node j s cases (Leaf close End))))))) =
    both (λ es cs. Select es cs) (expressions values) (select_cases cases)
transition_target _ = None

-- TRANSITION
unfoldable pub transition : Parse → Option Transition
transition (Leaf begin (Node k r target End)) = option_map (λ kind. record { kind = kind; span = begin.span }) (transition_target target)
transition _ = None

-- STATE_END
unfoldable pub state_end : Parse → Option (Option Transition)
state_end End = Some None
state_end (Node k r below End) = option_map (λ t. Some t) (transition below)
state_end _ = None

-- STATE
unfoldable pub state : Parse → Option State
state (Leaf begin (Node k r name (Leaf open_brace (Node j s below (Node i q behind (Leaf close End)))))) =
    all_three (λ n ps t. record { name = n; parts = ps; transition = t; span = begin.span }) (name_of name) (block_parts below) (state_end behind)
state _ = None

-- PARSER_PART
unfoldable pub parser_part : Parse → Option ParserPartKind
parser_part (Node k r below End) =
    if r.left == VARIABLE then variable (λ c. part.Constant c) (λ v. part.Variable v) below else option_map (λ s. part.State s) (state below)
parser_part _ = None

-- PARSER_PARTS
unfoldable pub parser_parts : Parse → Option (List ParserPart)
parser_parts End = Some []
parser_parts (Node k r notes (Node j s below (Node i q rest End))) =
    both (λ one more. one ∷ more) (both (λ ns kind. record { annotations = ns; kind = kind }) (annotations notes) (parser_part below)) (parser_parts rest)
parser_parts _ = None

-- PARSER
unfoldable pub parser : Parse → Option Parser
parser (Leaf begin (Node k r name (Node j s below (Leaf open_brace (Node i q body (Leaf close End)))))) =
    all_three (λ n ps parts. record { name = n; parameters = ps; parts = parts; span = begin.span }) (name_of name) (parameters below) (parser_parts body)
parser _ = None
