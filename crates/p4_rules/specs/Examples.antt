-- Small sources as trees: the skeleton of the switch, with its ingress and what stands before it left open.
use Rattle.std.specs.Prelude.{ℕ, List, [], ◌∷◌, ◌++◌, Option, None, Some, codes}
use Rattle.tg_base.specs.declared.literal.IntType.TheVariants as int
use Rattle.tg_base.specs.declared.literal.IntValue.TheVariants as exact
use Rattle.tg_base.specs.declared.literal.Literal.{Literal}
use Rattle.tg_base.specs.declared.place.Span.{Span}
use Rattle.p4_tree.specs.declared.names.Name.{Name}
use Rattle.p4_tree.specs.declared.expressions.BaseType.TheVariants as base
use Rattle.p4_tree.specs.declared.expressions.WidthKind.TheVariants as width
use Rattle.p4_tree.specs.declared.expressions.BaseType.{BaseType-Bit-0-Some', BaseType-Named-1-None'}
use Rattle.p4_tree.specs.declared.expressions.TypeForm.{TypeForm, TypeForm', TypeForm-size-None'}
use Rattle.p4_tree.specs.declared.expressions.Expression.{Expression}
use Rattle.p4_tree.specs.declared.expressions.ExpressionKind.{ExpressionKind, more_of-Expression, end_of-Expression, more_of-PostfixPart, end_of-PostfixPart}
use Rattle.p4_tree.specs.declared.expressions.ExpressionKind.TheVariants as kind
use Rattle.p4_tree.specs.declared.expressions.PostfixKind.{PostfixKind}
use Rattle.p4_tree.specs.declared.expressions.PostfixKind.TheVariants as postfix
use Rattle.p4_tree.specs.declared.statements.Block.{Block, Block', more_of-BlockPart, end_of-BlockPart}
use Rattle.p4_tree.specs.declared.statements.BlockPartKind.TheVariants as part
use Rattle.p4_tree.specs.declared.statements.StatementKind.{StatementKind}
use Rattle.p4_tree.specs.declared.statements.StatementKind.TheVariants as statement
use Rattle.p4_tree.specs.declared.declarations.DeclarationKind.{DeclarationKind}
use Rattle.p4_tree.specs.declared.declarations.DeclarationKind.TheVariants as declaration
use Rattle.p4_tree.specs.declared.declarations.Direction.{Direction}
use Rattle.p4_tree.specs.declared.declarations.Direction.TheVariants as way
use Rattle.p4_tree.specs.declared.declarations.Parameter.{Parameter}
use Rattle.p4_tree.specs.declared.declarations.Source.{Source}
use Rattle.p4_tree.specs.declared.declarations.TopPart.{TopPart}
use Rattle.p4_tree.specs.declared.declarations.TopPart.TheVariants as top
use Rattle.p4_tree.specs.declared.controls.InstanceArgument.{InstanceArgument}
use Rattle.p4_tree.specs.declared.controls.InstanceArgumentKind.TheVariants as argument
use Rattle.p4_tree.specs.declared.parsers.ParserPartKind.TheVariants as parser
use Rattle.p4_tree.specs.declared.parsers.TransitionKind.TheVariants as transition

abbrev pub at : ℕ → ℕ → Span
at line column = record { line = line; column = column }

abbrev pub name : List ℕ → Span → Name
name text place = record { text = text; span = place }

abbrev pub type_named : List ℕ → Span → TypeForm
type_named text place = TypeForm' (base.Named' (name text place) BaseType-Named-1-None') TypeForm-size-None' place

abbrev pub expression : Span → ExpressionKind → Expression
expression place k = record { kind = k; span = place }

-- a number without a prefix
abbrev pub literal : ℕ → List ℕ → Literal
literal value text = record { int_type = int.Integer; value = exact.Exact value; spelling = text }

abbrev pub number_kind : ℕ → List ℕ → ExpressionKind
number_kind value text = kind.Literal (literal value text)

abbrev pub number : ℕ → List ℕ → Span → Expression
number value text place = expression place (number_kind value text)

-- a name with one part behind it, at this place
abbrev pub path : ExpressionKind → Span → PostfixKind → Span → Expression
path head place part behind = expression place (kind.Postfix' tt (more_of-Expression head place end_of-Expression)
    (tt ∷ []) (more_of-PostfixPart part behind end_of-PostfixPart))

abbrev pub member : List ℕ → Span → PostfixKind
member text place = postfix.Member (name text place)

abbrev pub parameter : Option Direction → Span → TypeForm → Name → Parameter
parameter direction place form own = record { annotations = []; direction = direction; type_form = form; name = own; span = place }

abbrev pub declared : Span → DeclarationKind → TopPart
declared place k = top.Declaration (record { annotations = []; kind = k; span = place })

-- a block without statements, and one with a statement on line 11
abbrev pub no_statements : Span → Block
no_statements place = Block' [] end_of-BlockPart place

abbrev pub one_statement : Span → StatementKind → Block
one_statement place k = Block' (tt ∷ []) (more_of-BlockPart [] (part.Statement' k (at 11 5)) end_of-BlockPart) place

-- the parameters of the blocks on this line, at these columns
abbrev pub headers_at : Option Direction → ℕ → ℕ → ℕ → ℕ → Parameter
headers_at direction line first form own = parameter direction (at line first) (type_named (codes "H") (at line form)) (name (codes "h") (at line own))

abbrev pub metadata_at : ℕ → ℕ → ℕ → ℕ → Parameter
metadata_at line first form own =
    parameter (Some way.InOut) (at line first) (type_named (codes "M") (at line form)) (name (codes "m") (at line own))

abbrev pub standard_at : ℕ → ℕ → ℕ → ℕ → Parameter
standard_at line first form own = parameter (Some way.InOut) (at line first)
    (type_named (codes "standard_metadata_t") (at line form)) (name (codes "s") (at line own))

-- a control on this line with these parameters and this body
abbrev pub control : List ℕ → ℕ → List Parameter → Block → TopPart
control text line parameters body = declared (at line 1) (declaration.Control
    (record { name = name text (at line 9); parameters = parameters; parts = []; body = body; span = at line 1 }))

abbrev pub parser_part : TopPart
parser_part = declared (at 5 1) (declaration.Parser (record {
  name = name (codes "P") (at 5 8);
  parameters =
      parameter None (at 5 10) (type_named (codes "packet_in") (at 5 10)) (name (codes "b") (at 5 20))
      ∷ headers_at (Some way.Out) 5 23 27 29 ∷ metadata_at 5 32 38 40 ∷ standard_at 5 43 49 69 ∷ [];
  parts = record {
    annotations = [];
    kind = parser.State (record {
      name = name (codes "start") (at 6 9);
      parts = [];
      transition = Some (record { kind = transition.To (name (codes "accept") (at 6 28)); span = at 6 17 });
      span = at 6 3;
    });
  } ∷ [];
  span = at 5 1;
}))

abbrev pub block_named : List ℕ → ℕ → InstanceArgument
block_named text column = record { kind = argument.Constructed (name text (at 17 column)); span = at 17 column }

abbrev pub main_part : TopPart
main_part = declared (at 17 1) (declaration.Instance (record {
  type_form = type_named (codes "V1Switch") (at 17 1);
  arguments = block_named (codes "P") 10 ∷ block_named (codes "V") 15 ∷ block_named (codes "I") 20 ∷ block_named (codes "E") 25
      ∷ block_named (codes "C") 30 ∷ block_named (codes "D") 35 ∷ [];
  name = name (codes "main") (at 17 40);
  span = at 17 1;
}))

-- the skeleton with this statement in its ingress, and this in front of its parser
abbrev pub skeleton_of : List TopPart → StatementKind → Source
skeleton_of front k = record {
  parts =
      declared (at 3 1) (declaration.Struct (name (codes "H") (at 3 8)) [])
      ∷ declared (at 4 1) (declaration.Struct (name (codes "M") (at 4 8)) [])
      ∷ (front ++ (parser_part
      ∷ control (codes "V") 8 (headers_at (Some way.InOut) 8 11 17 19 ∷ metadata_at 8 22 28 30 ∷ []) (no_statements (at 8 41))
      ∷ control (codes "I") 9 (headers_at (Some way.InOut) 9 11 17 19 ∷ metadata_at 9 22 28 30 ∷ standard_at 9 33 39 59 ∷ [])
      (one_statement (at 10 9) k)
      ∷ control (codes "E") 14 (headers_at (Some way.InOut) 14 11 17 19 ∷ metadata_at 14 22 28 30 ∷ standard_at 14 33 39 59 ∷ [])
      (no_statements (at 14 70))
      ∷ control (codes "C") 15 (headers_at (Some way.InOut) 15 11 17 19 ∷ metadata_at 15 22 28 30 ∷ []) (no_statements (at 15 41))
      ∷ control (codes "D") 16 (parameter None (at 16 11) (type_named (codes "packet_out") (at 16 11)) (name (codes "b") (at 16 22))
      ∷ headers_at (Some way.In) 16 25 28 30 ∷ []) (no_statements (at 16 41))
      ∷ main_part ∷ []));
  end = at 18 1;
}

-- `s.FIELD = e;` on line 11
abbrev pub assigns : List ℕ → Expression → StatementKind
assigns field e = statement.Assign (path (kind.Name (name (codes "s") (at 11 5))) (at 11 5) (member field (at 11 7)) (at 11 6)) e

-- the skeleton whose ingress sends to port 3
abbrev pub skeleton : Source
skeleton = skeleton_of [] (assigns (codes "egress_spec") (number 3 (codes "3") (at 11 21)))

-- `s.priority = 256;`, where 3 bits have no such number
abbrev pub too_large : Source
too_large = skeleton_of [] (assigns (codes "priority") (number 256 (codes "256") (at 11 18)))

-- `s.nothing = 1;`, which is no field
abbrev pub no_field : Source
no_field = skeleton_of [] (assigns (codes "nothing") (number 1 (codes "1") (at 11 17)))

-- `s.priority = HashAlgorithm.csum16;`, of another type
abbrev pub another_type : Source
another_type = skeleton_of [] (assigns (codes "priority")
    (path (kind.Base (name (codes "HashAlgorithm") (at 11 18))) (at 11 18) (member (codes "csum16") (at 11 32)) (at 11 31)))

-- `truncate(1);`, which is left out
abbrev pub truncated : Source
truncated = skeleton_of [] (statement.Call (path (kind.Name (name (codes "truncate") (at 11 5))) (at 11 5)
    (postfix.Call' (tt ∷ []) (more_of-Expression (number_kind 1 (codes "1")) (at 11 14) end_of-Expression)) (at 11 13)))

-- `typedef bit<129> w;` on line 4 behind the struct, wider than a value may be
abbrev pub too_wide : Source
too_wide = skeleton_of (declared (at 4 14) (declaration.Typedef (record {
  type_form = TypeForm' (base.Bit' (BaseType-Bit-0-Some' (width.Literal (literal 129 (codes "129"))) (at 4 26))) TypeForm-size-None' (at 4 22);
  name = name (codes "w") (at 4 31);
})) ∷ []) (assigns (codes "egress_spec") (number 3 (codes "3") (at 11 21)))

-- nothing at all
abbrev pub empty : Source
empty = record { parts = []; end = at 1 1 }
