-- Chains of calls: each call of a chain is made while the one before it runs.
use Rattle.std.specs.Prelude.{ℕ, zero, suc, ◌≡◌, List, [], ◌∷◌, ◌++◌, map, flat_map, slice_get, All, Option}
use Rattle.std.specs.Option.{option_map_or}
use Rattle.p4_program.specs.Syntax.Calls.{CoreCall, ToAction, ToTable, ToChild, calls_of, calls_in_keys}
use Rattle.p4_program.specs.Syntax.Callables.{CoreControl, CoreTable}
use Rattle.p4_program.specs.Syntax.Lookup.{control_at}
use Rattle.p4_program.specs.Syntax.Programs.{CoreProgram}

-- a call, and the number of the callable that makes it
pub record Call : Type 0 where
  pub caller : ℕ
  pub callee : CoreCall

abbrev pub made_by : ℕ → CoreCall → Call
made_by n callee = record { caller = n; callee = callee }

-- the calls in the body of the callable of this number
abbrev pub calls_at : CoreProgram → ℕ → List Call
calls_at p n = option_map_or (λ c. map (made_by n) (calls_of c)) (slice_get p.callables n) []

-- what the application of a table of this control makes: the calls of its keys, and those of its actions
abbrev pub below_table : CoreProgram → ℕ → CoreTable → List Call
below_table p n t =
    map (made_by n) (calls_in_keys t) ++ flat_map (calls_at p) (t.default_action ∷ map (λ listed. listed.action) t.actions)

-- something of the control of this number, where it is one
abbrev pub in_control : {X : Type 0} → CoreProgram → ℕ → (CoreControl → Option X) → (X → List Call) → List Call
in_control p n part calls = option_map_or (λ c. option_map_or calls (part c) []) (control_at p n) []

-- the calls that are made while a call runs, one call below it
abbrev pub below : CoreProgram → ℕ → CoreCall → List Call
below p n (ToAction action) = calls_at p action
below p n (ToTable table) = in_control p n (λ c. slice_get c.tables table) (below_table p n)
below p n (ToChild child) = in_control p n (λ c. slice_get c.children child) (calls_at p)

-- no chain of more than so many calls begins with one of these
unfoldable pub ChainsWithin : CoreProgram → ℕ → List Call → Type 0
ChainsWithin p zero calls = calls ≡ []
ChainsWithin p (suc n) calls = All (λ call. ChainsWithin p n (below p call.caller call.callee)) calls
