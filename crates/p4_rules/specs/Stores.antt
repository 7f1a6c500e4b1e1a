-- The limit of a store: the scalars, structs, headers and stacks in the headers of the packet, in the user's metadata and in the
-- variables of one parser or control are counted together, each as one.
use Rattle.std.specs.Prelude.{ℕ, ◌+◌, ◌==◌, nat_le, List, [], ◌∷◌, ◌++◌, length, map, Bool, true, false, Option, None, Some, if◌then◌else◌}
use Rattle.std.specs.Str.{bytes_eq}
use Rattle.tg_base.specs.declared.place.Span.{Span}
use Rattle.p4_tree.specs.declared.declarations.DeclarationKind.{DeclarationKind}
use Rattle.p4_tree.specs.declared.declarations.DeclarationKind.TheVariants as kind
use Rattle.p4_tree.specs.declared.declarations.TopPart.{TopPart}
use Rattle.p4_tree.specs.declared.declarations.TopPart.TheVariants as top
use Rattle.p4_tree.specs.declared.declarations.Variable.{Variable}
use Rattle.p4_tree.specs.declared.controls.Control.{Control}
use Rattle.p4_tree.specs.declared.controls.ControlPart.{ControlPart}
use Rattle.p4_tree.specs.declared.controls.Local.{Local}
use Rattle.p4_tree.specs.declared.controls.Local.TheVariants as local
use Rattle.p4_tree.specs.declared.parsers.ParserPart.{ParserPart}
use Rattle.p4_tree.specs.declared.parsers.ParserPartKind.{ParserPartKind}
use Rattle.p4_tree.specs.declared.parsers.ParserPartKind.TheVariants as parser
use Rattle.p4_tree.specs.declared.statements.Block.{Block, Block', Row_of-BlockPart, end_of-BlockPart, more_of-BlockPart}
use Rattle.p4_tree.specs.declared.statements.BlockPart.{BlockPart}
use Rattle.p4_tree.specs.declared.statements.BlockPartKind.{BlockPartKind}
use Rattle.p4_tree.specs.declared.statements.BlockPartKind.TheVariants as part
use Rattle.p4_tree.specs.declared.statements.StatementKind.{StatementKind, end_of-Statement, more_of-Statement, Held-StatementKind-If-2, StatementKind-If-2-None', StatementKind-If-2-Some', Row_of-SwitchCase, end_of-SwitchCase, more_of-SwitchCase}
use Rattle.p4_tree.specs.declared.statements.StatementKind.TheVariants as statement
use Rattle.p4_tree.specs.declared.statements.SwitchCase.{SwitchCase', SwitchCase-body-None', SwitchCase-body-Some'}
use Rattle.p4_program.specs.WellFormed.Stores.{paths_in}
use Rattle.p4_rules.specs.Faults.{Checked, Right, Wrong, beside}
use Rattle.p4_rules.specs.declared.types.SourceType.{SourceType}
use Rattle.p4_rules.specs.declared.types.FieldOf.{FieldOf}
use Rattle.p4_rules.specs.declared.types.SourceType.TheVariants.{Structure, Header, Stack}
use Rattle.p4_rules.specs.declared.scopes.Allowed.{Allowed}
use Rattle.p4_rules.specs.declared.scopes.ParameterShape.{ParameterShape}
use Rattle.p4_rules.specs.Scopes.{Scope, within, or_else, value_type, header_type, struct_type}
use Rattle.p4_rules.specs.Variables.{variable_type, with_constant, with_variable}
use Rattle.p4_rules.specs.Statements.{behind_part}
use Rattle.p4_rules.specs.Callables.{with_parameters, action_scope}
use Rattle.p4_rules.specs.Parsers.{parser_scope, parser_shapes, number_behind, scope_behind as behind_parser_part}
use Rattle.p4_rules.specs.Controls.{control_number, inner_scope, behind_locals, scope_behind}
use Rattle.p4_rules.specs.Tops.{Roles, outside, struct_fields, header_fields, behind_declaration, behind_tops}
use Rattle.p4_rules.specs.Packages.{Six, Stores, stores_of}
use Rattle.p4_rules.specs.Limits.{refused_beyond}

abbrev pub most_places : ℕ
most_places = 4096

-- how many there are in a value of a type: itself, and its parts
abbrev pub places_in : Scope → SourceType → ℕ
places_in Γ t = paths_in (map header_type Γ.headers) (map (struct_type Γ) Γ.structs) (value_type Γ t)

-- a declaration that a store holds something for
pub record Holding : Type 0 where
  pub place : Span
  pub count : ℕ

abbrev pub holding_of : Scope → Span → Checked SourceType → List Holding
holding_of Γ place (Right t) = record { place = place; count = places_in Γ t } ∷ []
holding_of Γ place (Wrong fault more) = []

abbrev pub of_variable : Scope → Variable → List Holding
of_variable Γ v = holding_of Γ v.span (variable_type Γ v)

abbrev mutual
  -- what is held for the variables of statements, in their order
  pub of_statement : Scope → StatementKind → List Holding
  of_statement Γ statement.Empty = []
  of_statement Γ (statement.Block (Block' count row s)) = of_parts (within Γ) row
  of_statement Γ statement.Exit = []
  of_statement Γ statement.Return = []
  of_statement Γ (statement.If' e one (more_of-Statement k s end_of-Statement) other) = of_statement Γ k ++ of_else Γ other
  of_statement Γ (statement.Switch' e count row) = of_cases Γ row
  of_statement Γ (statement.Assign target e) = []
  of_statement Γ (statement.Call e) = []

  pub of_else : Scope → Held-StatementKind-If-2 → List Holding
  of_else Γ StatementKind-If-2-None' = []
  of_else Γ (StatementKind-If-2-Some' one (more_of-Statement k s end_of-Statement)) = of_statement Γ k

  pub of_cases : Scope → {n : _} → Row_of-SwitchCase n → List Holding
  of_cases Γ end_of-SwitchCase = []
  of_cases Γ (more_of-SwitchCase (SwitchCase' label SwitchCase-body-None' s) rest) = of_cases Γ rest
  of_cases Γ (more_of-SwitchCase (SwitchCase' label (SwitchCase-body-Some' (Block' count row t)) s) rest) =
      of_parts (within Γ) row ++ of_cases Γ rest

  pub of_parts : Scope → {n : _} → Row_of-BlockPart n → List Holding
  of_parts Γ end_of-BlockPart = []
  of_parts Γ (more_of-BlockPart notes (part.Statement' k s) rest) = of_statement Γ k ++ of_parts Γ rest
  of_parts Γ (more_of-BlockPart notes (part.Constant c) rest) = of_parts (with_constant Γ c) rest
  of_parts Γ (more_of-BlockPart notes (part.Variable v) rest) = of_variable Γ v ++ of_parts (with_variable Γ v) rest

abbrev pub of_block : Scope → Block → List Holding
of_block Γ (Block' count row place) = of_parts Γ row

abbrev pub of_part : Scope → BlockPartKind → List Holding
of_part Γ (part.Statement' k s) = of_statement Γ k
of_part Γ (part.Constant c) = []
of_part Γ (part.Variable v) = of_variable Γ v

abbrev pub of_list : Scope → List BlockPart → List Holding
of_list Γ [] = []
of_list Γ (p ∷ ps) = of_part Γ p.kind ++ of_list (behind_part Γ p.kind) ps

-- a parser with its states
abbrev pub of_parser_part : Scope → ParserPartKind → List Holding
of_parser_part Γ (parser.Constant c) = []
of_parser_part Γ (parser.Variable v) = of_variable Γ v
of_parser_part Γ (parser.State s) = of_list (within Γ) s.parts

abbrev pub of_parser_parts : Scope → ℕ → List ParserPart → List Holding
of_parser_parts Γ k [] = []
of_parser_parts Γ k (p ∷ ps) = of_parser_part Γ p.kind ++ of_parser_parts (behind_parser_part Γ k p.kind) (number_behind k p.kind) ps

-- a control with its actions
abbrev pub of_local : Scope → Local → List Holding
of_local Γ (local.Variable v) = of_variable Γ v
of_local Γ (local.Action a) = of_block (with_parameters (action_scope Γ) false a.parameters) a.body
of_local Γ _ = []

abbrev pub of_locals : Scope → ℕ → List ControlPart → List Holding
of_locals Γ control [] = []
of_locals Γ control (p ∷ ps) = of_local Γ p.local ++ of_locals (scope_behind Γ control p.local) control ps

abbrev pub of_control : Scope → Allowed → Control → List Holding
of_control Γ allowed c =
    of_locals (inner_scope Γ allowed c) (control_number Γ c) c.parts ++ of_block (within (behind_locals Γ allowed c)) c.body

abbrev pub of_declaration : Roles → Scope → DeclarationKind → List Holding
of_declaration roles Γ (kind.Parser p) =
    of_parser_parts (with_parameters (parser_scope (outside roles Γ)) true p.parameters) 0 p.parts
of_declaration roles Γ (kind.Control c) = of_control Γ (roles.allowed_in c.name.text) c
of_declaration roles Γ _ = []

-- the declaration that gives a type its number
abbrev pub is_next : ℕ → ℕ → Checked (List FieldOf) → Bool
is_next n number (Right fields) = n == number
is_next n number (Wrong fault more) = false

abbrev pub declares : Scope → SourceType → DeclarationKind → Bool
declares Γ (Structure n) (kind.Struct name fields) = is_next n (length Γ.structs) (struct_fields Γ fields)
declares Γ (Header n) (kind.Header name fields) = is_next n (length Γ.headers) (header_fields Γ name fields)
declares Γ (Stack n size) (kind.Header name fields) = is_next n (length Γ.headers) (header_fields Γ name fields)
declares Γ t k = false

abbrev pub of_type : Scope → Scope → SourceType → Span → DeclarationKind → List Holding
of_type whole Γ t place k = if declares Γ t k then record { place = place; count = places_in whole t } ∷ [] else []

-- the headers and the metadata, each where its type is declared
abbrev pub of_stores : Roles → Scope → Stores → Scope → List TopPart → List Holding
of_stores roles whole stores Γ [] = []
of_stores roles whole stores Γ (top.Empty place ∷ ps) = of_stores roles whole stores Γ ps
of_stores roles whole stores Γ (top.Declaration d ∷ ps) =
    of_type whole Γ stores.headers d.span d.kind ++ of_type whole Γ stores.metadata d.span d.kind
    ++ of_stores roles whole stores (behind_declaration roles Γ d.kind) ps

-- what is of a type that no source declares has no place, and is counted first
abbrev pub undeclared_places : Scope → SourceType → ℕ
undeclared_places Γ (Structure n) = if n == 0 then places_in Γ (Structure n) else 0
undeclared_places Γ (Header n) = 0
undeclared_places Γ (Stack n size) = 0
undeclared_places Γ t = places_in Γ t

-- The types of the headers and of the metadata are those of the parser that `main` names, by its parameters.
abbrev pub stores_by : Checked (List ParameterShape) → Option Stores
stores_by (Right shapes) = stores_of shapes
stores_by (Wrong fault more) = None

abbrev pub stores_at : Roles → List ℕ → Scope → DeclarationKind → Option Stores
stores_at roles name Γ (kind.Parser p) = if bytes_eq p.name.text name then stores_by (parser_shapes (outside roles Γ) p) else None
stores_at roles name Γ k = None

abbrev pub stores_named : Roles → List ℕ → Scope → List TopPart → Option Stores
stores_named roles name Γ [] = None
stores_named roles name Γ (top.Empty place ∷ ps) = stores_named roles name Γ ps
stores_named roles name Γ (top.Declaration d ∷ ps) =
    or_else (stores_at roles name Γ d.kind) (stores_named roles name (behind_declaration roles Γ d.kind) ps)

abbrev pub stores_in : Roles → Scope → Option Six → List TopPart → Option Stores
stores_in roles Γ None ps = None
stores_in roles Γ (Some six) ps = stores_named roles six.parser Γ ps

-- what every block holds: so many without a place, and the others
pub record Shared : Type 0 where
  pub first : ℕ
  pub holdings : List Holding

abbrev pub shared_by : Roles → Scope → Scope → Option Stores → List TopPart → Shared
shared_by roles whole Γ None ps = record { first = 0; holdings = [] }
shared_by roles whole Γ (Some stores) ps =
    record { first = undeclared_places whole stores.headers + undeclared_places whole stores.metadata; holdings = of_stores roles whole stores Γ ps }

-- the first that is beyond the limit with those before it
abbrev pub first_beyond : ℕ → List Holding → Option Span
first_beyond count [] = None
first_beyond count (h ∷ more) = if nat_le (count + h.count) most_places then first_beyond (count + h.count) more else Some h.place

abbrev pub blocks_within : Roles → Shared → Scope → List TopPart → Checked Bool
blocks_within roles common Γ [] = refused_beyond (first_beyond common.first common.holdings)
blocks_within roles common Γ (top.Empty place ∷ ps) = blocks_within roles common Γ ps
blocks_within roles common Γ (top.Declaration d ∷ ps) =
    beside (refused_beyond (first_beyond common.first (common.holdings ++ of_declaration roles Γ d.kind)))
    (blocks_within roles common (behind_declaration roles Γ d.kind) ps)

-- Each parser and each control of a source, with the headers and the metadata where six blocks are named.
abbrev pub stores_within : Roles → Scope → Option Six → List TopPart → Checked Bool
stores_within roles Γ six ps = blocks_within roles (shared_by roles (behind_tops roles Γ ps) Γ (stores_in roles Γ six ps) ps) Γ ps
