-- The values of expressions (P4-16, "Expressions"), which are evaluated from left to right ("Expression evaluation order").
use Rattle.std.specs.Prelude.{ℕ, ◌+◌, ◌-◌, not, List, [], ◌∷◌, ◌++◌, Bool, false, Option, Some, None, slice_get, ⊤, if◌then◌else◌}
use Rattle.bits_core.specs.declared.operator.Op.{Op}
use Rattle.bits_core.specs.declared.operator.Op.TheVariants as op
use Rattle.bits_core.specs.Number.{slice_value, extend_value}
use Rattle.bits_core.specs.Operator.{shape_of, result_width, operator_value, test_value}
use Rattle.p4_program.specs.declared.typed.callables.Parameter.{Parameter}
use Rattle.p4_program.specs.declared.typed.expressions.Operator.{Operator}
use Rattle.p4_program.specs.declared.typed.expressions.Operator.TheVariants.{Plain, NotEqual, GreaterU, GreaterS, AtLeastU, AtLeastS, LogicalAnd, LogicalOr}
use Rattle.p4_program.specs.declared.typed.paths.Path.{Path}
use Rattle.p4_program.specs.declared.typed.paths.Step.{Step}
use Rattle.p4_program.specs.declared.typed.types.ValueType.{ValueType}
use Rattle.p4_program.specs.Syntax.Expressions.{CoreExpression, CoreOperations, Constant, Read, IsValid, Lookahead, Unary, Operations, Slice, Resize, Choice, PartOf, ValidityOf, Hit, NoOperations, Behind}
use Rattle.p4_meaning.specs.Runs.Acts.{Environment, Act, Store, gives, stops, taking, told, at_path, value_of, Raised, stack_out_of_bounds, ◌>>=◌, ◌>>◌}
use Rattle.p4_meaning.specs.Runs.Acts as act
use Rattle.p4_meaning.specs.Runs.Contents.{Content, Cell, HeaderOf, bits, truth, number_in, bits_in, is_true}
use Rattle.p4_meaning.specs.Runs.Packets.{looks_ahead}
use Rattle.p4_meaning.specs.Runs.Paths.{part, is_last_of_none}

-- what was called: the types of its frame, and what its body does
pub record Callee : Type 0 where
  pub parameters : List Parameter
  pub variables : List ValueType
  pub body : Act ⊤

-- "Match-action unit invocation": whether the key matched an entry, and the place in the table's list of the action that ran,
-- where it is listed
pub record Applied : Type 0 where
  pub hit : Bool
  pub ran : Option ℕ

-- What a body can reach: what stays in a run, and what the numbers of actions, of tables and of instances stand for there.
pub record Reach : Type 0 where
  pub environment : Environment
  pub actions : List Callee
  pub tables : List (Act Applied)
  pub children : List Callee

abbrev pub not_applied : Act Applied
not_applied = gives (record { hit = false; ran = None })

abbrev pub found_table : Option (Act Applied) → Act Applied
found_table None = not_applied
found_table (Some act) = act

-- the table of this number is applied
abbrev pub applies : Reach → ℕ → Act Applied
applies Γ n = found_table (slice_get Γ.tables n)

-- ---- operators ("Operations on fixed-width bit types", "Operations on fixed-width signed integers", "Operations on Booleans",
-- and equality on errors and enums)

abbrev pub of_one : Op → Content → Content
of_one o x = bits (bits_in x) (operator_value o (bits_in x) (number_in x) 0 0)

abbrev pub of_two : Op → Content → Content → Content
of_two o x y =
    bits (result_width (shape_of o) (bits_in x) (bits_in y)) (operator_value o (bits_in x) (number_in x) (bits_in y) (number_in y))

-- a comparison of two values of the width of the first
abbrev pub compared : Op → Content → Content → Bool
compared o x y = test_value o (bits_in x) (number_in x) (number_in y)

abbrev pub operated : Operator → Content → Content → Content
operated (Plain o) x y = of_two o x y
operated NotEqual x y = truth (not (compared op.Eq x y))
operated GreaterU x y = truth (compared op.LtU y x)
operated GreaterS x y = truth (compared op.LtS y x)
operated AtLeastU x y = truth (compared op.LeU y x)
operated AtLeastS x y = truth (compared op.LeS y x)
operated LogicalAnd x y = y
operated LogicalOr x y = y

-- "Operations on Booleans": the right side is not evaluated where the left one decides
abbrev pub is_decided : Operator → Content → Bool
is_decided LogicalAnd x = not (is_true x)
is_decided LogicalOr x = is_true x
is_decided _ x = false

abbrev pub with_operand : Operator → Content → Act Content → Act Content
with_operand operator x operand = if is_decided operator x then gives x else (operand >>= λ y. gives (operated operator x y))

-- "Operations on headers": `isValid`
abbrev pub validity : Content → Bool
validity (HeaderOf valid fields) = valid
validity _ = false

-- A part of a value that was read whole: a field of an invalid header is unspecified here too, and no element of the value of a
-- stack was extracted.
abbrev pub part_read : Step → Content → Act Content
part_read step x = if is_last_of_none step x then stops (Raised stack_out_of_bounds) else taking (value_of (part step x))

-- ---- evaluation

abbrev mutual
  pub evaluate : Reach → CoreExpression → Act Content
  evaluate Γ (Constant scalar value) = gives (Cell scalar (Some value))
  evaluate Γ (Read path) = act.read path
  evaluate Γ (IsValid path) = told (λ store. truth (validity (at_path path store)))
  evaluate Γ (Lookahead width) = looks_ahead Γ.environment width
  evaluate Γ (Unary o e) = evaluate Γ e >>= λ x. gives (of_one o x)
  evaluate Γ (Operations e rest) = evaluate Γ e >>= λ x. evaluate_behind Γ rest x
  evaluate Γ (Slice e high low) = evaluate Γ e >>= λ x. gives (bits (high - low + 1) (slice_value (number_in x) high low))
  evaluate Γ (Resize signed width e) =
      evaluate Γ e >>= λ x. gives (bits width (extend_value signed (bits_in x) (number_in x) width))
  -- "Conditional operator": the other side is not evaluated
  evaluate Γ (Choice c a b) = evaluate Γ c >>= λ x. if is_true x then evaluate Γ a else evaluate Γ b
  evaluate Γ (PartOf e step) = evaluate Γ e >>= λ x. part_read step x
  evaluate Γ (ValidityOf e) = evaluate Γ e >>= λ x. gives (truth (validity x))
  evaluate Γ (Hit table) = applies Γ table >>= λ applied. gives (truth applied.hit)

  -- operators of one level behind a value
  pub evaluate_behind : Reach → CoreOperations → Content → Act Content
  evaluate_behind Γ NoOperations x = gives x
  evaluate_behind Γ (Behind operator e rest) x = with_operand operator x (evaluate Γ e) >>= λ y. evaluate_behind Γ rest y

abbrev pub evaluate_all : Reach → List CoreExpression → Act (List Content)
evaluate_all Γ [] = gives []
evaluate_all Γ (e ∷ es) = evaluate Γ e >>= λ value. evaluate_all Γ es >>= λ values. gives (value ∷ values)

-- ---- the paths in an expression, whether or not they are evaluated

abbrev mutual
  pub paths_in : CoreExpression → List Path
  paths_in (Constant scalar value) = []
  paths_in (Read path) = path ∷ []
  paths_in (IsValid path) = path ∷ []
  paths_in (Lookahead width) = []
  paths_in (Unary o e) = paths_in e
  paths_in (Operations e rest) = paths_in e ++ paths_behind rest
  paths_in (Slice e high low) = paths_in e
  paths_in (Resize signed width e) = paths_in e
  paths_in (Choice c a b) = paths_in c ++ paths_in a ++ paths_in b
  paths_in (PartOf e step) = paths_in e
  paths_in (ValidityOf e) = paths_in e
  paths_in (Hit table) = []

  pub paths_behind : CoreOperations → List Path
  paths_behind NoOperations = []
  paths_behind (Behind operator e rest) = paths_in e ++ paths_behind rest

abbrev pub paths_in_all : List CoreExpression → List Path
paths_in_all [] = []
paths_in_all (e ∷ es) = paths_in e ++ paths_in_all es

-- ---- the tables that an expression applies

abbrev mutual
  -- P holds of the number of each
  pub EachTable : (ℕ → Type 0) → CoreExpression → Type 0
  EachTable P (Constant scalar value) = ⊤
  EachTable P (Read path) = ⊤
  EachTable P (IsValid path) = ⊤
  EachTable P (Lookahead width) = ⊤
  EachTable P (Unary o e) = EachTable P e
  EachTable P (Operations e rest) = EachTable P e × EachTableBehind P rest
  EachTable P (Slice e high low) = EachTable P e
  EachTable P (Resize signed width e) = EachTable P e
  EachTable P (Choice c a b) = EachTable P c × EachTable P a × EachTable P b
  EachTable P (PartOf e step) = EachTable P e
  EachTable P (ValidityOf e) = EachTable P e
  EachTable P (Hit table) = P table

  pub EachTableBehind : (ℕ → Type 0) → CoreOperations → Type 0
  EachTableBehind P NoOperations = ⊤
  EachTableBehind P (Behind operator e rest) = EachTable P e × EachTableBehind P rest

abbrev pub AppliesNoTable : CoreExpression → Type 0
AppliesNoTable e = EachTable (λ table. ⊥) e
