use Rattle.std.proofs.Common.{◌≡◌, sym, ◌∙◌, subst}
use Rattle.std.specs.Prelude.{IfOk}
use Rattle.p4_rules.specs.Casts.{as_bits_of}
use Rattle.p4_consts.specs.Operands.{operand_of}
use Rattle.p4_consts.proofs.casts.as_bits.Goals as goal

pub returns-in-BitEnumeration : goal.returns-in-BitEnumeration
returns-in-BitEnumeration c = λ Γ.
    subst (λ t. IfOk c.retyped.result (λ x. operand_of x ≡ as_bits_of Γ t (operand_of c.args.operand)))
    (sym c.in-BitEnumeration.is ∙ c.type_of.ensures) (c.retyped.ensures Γ)
