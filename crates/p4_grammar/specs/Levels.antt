-- The levels of operators: the form of each, the levels that stand tighter, and levels in a row behind an operand.
use Rattle.std.specs.Prelude.{◌≡◌, ℕ, ◌<◌, Bool, true, false, List, [], ◌∷◌, Option, None, Some}
use Rattle.tg_base.specs.declared.place.Span.{Span}
use Rattle.p4_tree.specs.declared.expressions.Operator.{Operator}
use Rattle.p4_tree.specs.declared.expressions.Expression.{Expression}
use Rattle.p4_tree.specs.declared.expressions.Operation.{Operation, roll-Operation}
use Rattle.p4_grammar.specs.declared.levels.Level.{Level}
use Rattle.p4_grammar.specs.declared.levels.Level.TheVariants as level
use Rattle.p4_grammar.specs.declared.symbols.TheConstants.{ANDS, CONJUNCTIONS, DISJUNCTIONS, EQUALITIES, EXCLUSIONS, ORDERS, ORS, PRODUCTS, SHIFTS, SUMS, UNARY}
use Rattle.p4_grammar.specs.Parses.{Parse, option_map, both}
use Rattle.p4_grammar.specs.Ahead.{Begins, below, after, opened, nodes}
use Rattle.p4_grammar.specs.Expressions.{run, level as level_of, unary_of}

abbrev pub level_form : Level → ℕ
level_form level.Products = PRODUCTS
level_form level.Sums = SUMS
level_form level.Shifts = SHIFTS
level_form level.Conjunctions = CONJUNCTIONS
level_form level.Exclusions = EXCLUSIONS
level_form level.Disjunctions = DISJUNCTIONS
level_form level.Orders = ORDERS
level_form level.Equalities = EQUALITIES
level_form level.Ands = ANDS
level_form level.Ors = ORS

-- the levels before this one
abbrev pub tighter : Level → List Level
tighter level.Products = []
tighter level.Sums = level.Products ∷ []
tighter level.Shifts = level.Products ∷ level.Sums ∷ []
tighter level.Conjunctions = level.Products ∷ level.Sums ∷ level.Shifts ∷ []
tighter level.Exclusions = level.Products ∷ level.Sums ∷ level.Shifts ∷ level.Conjunctions ∷ []
tighter level.Disjunctions = level.Products ∷ level.Sums ∷ level.Shifts ∷ level.Conjunctions ∷ level.Exclusions ∷ []
tighter level.Orders = level.Products ∷ level.Sums ∷ level.Shifts ∷ level.Conjunctions ∷ level.Exclusions ∷ level.Disjunctions ∷ []
tighter level.Equalities =
    level.Products ∷ level.Sums ∷ level.Shifts ∷ level.Conjunctions ∷ level.Exclusions ∷ level.Disjunctions ∷ level.Orders ∷ []
tighter level.Ands =
    level.Products ∷ level.Sums ∷ level.Shifts ∷ level.Conjunctions ∷ level.Exclusions ∷ level.Disjunctions ∷ level.Orders ∷ level.Equalities ∷ []
tighter level.Ors =
    level.Products ∷ level.Sums ∷ level.Shifts ∷ level.Conjunctions ∷ level.Exclusions ∷ level.Disjunctions ∷ level.Orders ∷ level.Equalities ∷ level.Ands ∷ []

-- whether the operators of a level are a form of their own
abbrev pub has_operator_form : Level → Bool
has_operator_form level.Products = true
has_operator_form level.Sums = true
has_operator_form level.Shifts = true
has_operator_form level.Conjunctions = false
has_operator_form level.Exclusions = false
has_operator_form level.Disjunctions = false
has_operator_form level.Orders = true
has_operator_form level.Equalities = true
has_operator_form level.Ands = false
has_operator_form level.Ors = false

-- where a level's operator stands, once the level is entered
abbrev pub operator_word : Bool → Parse → Parse
operator_word true p = opened p
operator_word false p = p

-- from the tightest on
abbrev pub all_levels : List Level
all_levels =
    level.Products ∷ level.Sums ∷ level.Shifts ∷ level.Conjunctions ∷ level.Exclusions ∷ level.Disjunctions ∷ level.Orders ∷ level.Equalities ∷ level.Ands ∷ level.Ors ∷ []

-- p begins with trees of these levels
abbrev pub LevelsStand : List Level → Parse → Type 0
LevelsStand [] p = Unit {0}
LevelsStand (x ∷ xs) p = Begins (level_form x) p × LevelsStand xs (after p)

-- what is behind these levels
abbrev pub skipped : List Level → Parse → Parse
skipped [] p = p
skipped (x ∷ xs) p = skipped xs (after p)

-- an operand with these levels behind it
abbrev pub with_levels : List Level → Option Expression → Parse → Option Expression
with_levels [] e p = e
with_levels (x ∷ xs) e p = with_levels xs (both run e (level_of (below p))) (after p)

abbrev pub operation_at : Operator → Span → Expression → Operation
operation_at operator span operand = roll-Operation (record { operator = operator; operand = operand; span = span })

-- The level at the head of p has no more operators, and q is behind it.
pub record LevelEnds (p q : Parse) : Type 0 where
  pub value : level_of (below p) ≡ Some []
  pub rest : q ≡ after p

-- The level at the head of p begins with this operator. Its operand, with the tighter levels, and the rest of the level are at q.
pub record OperatorStands (x : Level) (operator : Operator) (span : Span) (p q : Parse) : Type 0 where
  pub operand : Begins UNARY q
  pub levels : LevelsStand (tighter x) (after q)
  pub again : Begins (level_form x) (skipped (tighter x) (after q))
  pub rest : after (skipped (tighter x) (after q)) ≡ after p
  pub value : level_of (below p) ≡ both (λ one more. one ∷ more)
      (option_map (λ e. operation_at operator span e) (with_levels (tighter x) (unary_of (below q)) (after q)))
      (level_of (below (skipped (tighter x) (after q))))
  pub fewer : nodes q < nodes p
