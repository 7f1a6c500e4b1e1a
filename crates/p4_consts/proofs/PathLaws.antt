-- The validity of a header to which no path leads.
use Rattle.std.proofs.Common.{◌≡◌, ◌≢◌, Bool, refl}
use Rattle.tg_base.specs.declared.place.Span.{Span}
use Rattle.p4_program.specs.declared.typed.paths.Path.{Path}
use Rattle.p4_program.specs.Syntax.Expressions as core
use Rattle.p4_rules.specs.declared.types.SourceType.{SourceType}
use Rattle.p4_rules.specs.Operands.{core_of}
use Rattle.p4_rules.specs.Scopes.{Scope}
use Rattle.p4_rules.specs.Things.{validity_of}
use Rattle.p4_consts.specs.declared.operands.Operand.{Operand}
use Rattle.p4_consts.specs.declared.operands.Operand.TheVariants as operand
use Rattle.p4_consts.specs.Operands.{operand_of}

pub validity_of_value : (Γ : Scope) (x : Operand) → ((t : SourceType) (writable : Bool) (path : Path) (at : Span) → x ≢ operand.Stored t writable path at)
    → validity_of Γ (operand_of x) ≡ core.ValidityOf (core_of Γ (operand_of x))
validity_of_value Γ (operand.Whole i) other = refl
validity_of_value Γ (operand.Fixed c) other = refl
validity_of_value Γ (operand.Stored t writable path at) other = absurd (other t writable path at refl)
validity_of_value Γ (operand.Sliced writable path p at) other = refl
validity_of_value Γ (operand.Computed t e at) other = refl
