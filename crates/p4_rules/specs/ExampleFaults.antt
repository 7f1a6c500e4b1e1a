-- What the small sources are refused for.
use Rattle.std.specs.Prelude.{ℕ}
use Rattle.tg_base.specs.declared.place.Code.{Code}
use Rattle.p4_tree.specs.declared.declarations.Source.{Source}
use Rattle.p4_rules.specs.declared.faults.Pass.TheVariants.{Checking}
use Rattle.p4_rules.specs.Faults.{pass_number}
use Rattle.p4_rules.specs.Typed.{IsRefusedIn}

-- the source is refused when it is checked, with this code at this place
abbrev pub RefusedAt : Source → Code → ℕ → ℕ → Type 0
RefusedAt s code line column = IsRefusedIn s (pass_number Checking) (record { code = code; line = line; column = column })
