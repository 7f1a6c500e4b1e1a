-- What an assignment stands for: the literals that were set, in order, each with its cause.
use Rattle.std.specs.Prelude.{◌≡◌, ℕ, Bool, true, false, List, length, Contains, count_by, slice_index_or}
use Rattle.cnf_core.specs.declared.formula.Lit.{Lit}
use Rattle.cnf_core.specs.Literal.{negation, IsApart}
use Rattle.unit_propagation.specs.Units.{IsOpen}
use Rattle.unit_propagation.specs.declared.assignment.Truth.{Truth}
use Rattle.unit_propagation.specs.declared.assignment.Truth.TheVariants.{True, False, Open}
use Rattle.unit_propagation.specs.declared.assignment.Cause.{Cause}

-- variable numbers are below `width`
pub record Assigned : Type 0 where
  pub width : ℕ
  pub trail : List Lit
  pub causes : List Cause

-- how a literal stands after these were set
abbrev pub StandsAs : List Lit → Lit → Truth → Type 0
StandsAs trail l True = Contains trail l × ¬ Contains trail (negation l)
StandsAs trail l False = Contains trail (negation l) × ¬ Contains trail l
StandsAs trail l Open = IsOpen trail l

-- the truth of a variable whose literal of this sign is true
abbrev pub truth_of : Bool → Truth
truth_of true = True
truth_of false = False

abbrev pub is_set : Truth → Bool
is_set Open = false
is_set _ = true

-- the values are exactly those of the literals of the trail, which has no variable twice
pub record Agrees (values : List Truth) (trail : List Lit) : Type 0 where
  pub holds_trail : (l : Lit) → Contains trail l → slice_index_or values l.var Open ≡ truth_of l.positive
  pub on_trail : (l : Lit) → slice_index_or values l.var Open ≡ truth_of l.positive → Contains trail l
  pub counted : length trail ≡ count_by is_set values
  pub apart : IsApart trail
