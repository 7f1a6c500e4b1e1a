use Rattle.std.proofs.Common.{◌≡◌, ap, sym, ◌∙◌, subst}
use Rattle.std.specs.Prelude.{IfOk, OnOk, option_map}
use Rattle.p4_rules.specs.declared.types.SourceType.TheVariants.{Bit, BitEnumeration}
use Rattle.p4_consts.specs.Noted.{noted, right_of}
use Rattle.p4_consts.specs.Pairs.{pair_of, operands_of}
use Rattle.p4_consts.proofs.UnifyLaws.{bits_with_enumeration, enumeration_with_bits, bits_beside, enumeration_beside, others_beside, unified_alike}
use Rattle.p4_consts.proofs.unify.values_unified.Goals as goal

pub returns-in-BitEnumeration-u-clause-value : goal.returns-in-BitEnumeration-u-clause-value
returns-in-BitEnumeration-u-clause-value c = λ Γ.
    subst (λ q. IfOk c.provided_bits.result (λ v. option_map operands_of v ≡ right_of q))
    (bits_with_enumeration Γ c.in-Bit.w c.in-BitEnumeration-u.field-0 c.in-BitEnumeration-u.v (pair_of c.args.pair)
    (sym c.type_of-t.ensures ∙ c.in-Bit.is) (sym c.type_of-u.ensures ∙ c.in-BitEnumeration-u.is))
    (c.provided_bits.ensures.value Γ)

pub returns-in-BitEnumeration-u-clause-faults : goal.returns-in-BitEnumeration-u-clause-faults
returns-in-BitEnumeration-u-clause-faults c = λ Γ.
    subst (λ q. OnOk c.provided_bits.result (c.provided_bits.new.faults.first ≡ noted c.args.faults.now.first q))
    (bits_with_enumeration Γ c.in-Bit.w c.in-BitEnumeration-u.field-0 c.in-BitEnumeration-u.v (pair_of c.args.pair)
    (sym c.type_of-t.ensures ∙ c.in-Bit.is) (sym c.type_of-u.ensures ∙ c.in-BitEnumeration-u.is))
    (c.provided_bits.ensures.faults Γ)

pub returns-in-Bit-u-clause-value : goal.returns-in-Bit-u-clause-value
returns-in-Bit-u-clause-value c = λ Γ.
    subst (λ q. IfOk c.provided_bits-in-Bit-u.result (λ v. option_map operands_of v ≡ right_of q))
    (enumeration_with_bits Γ c.in-BitEnumeration.field-0 c.in-BitEnumeration.v c.in-Bit-u.w (pair_of c.args.pair)
    (sym c.type_of-t.ensures ∙ c.in-BitEnumeration.is) (sym c.type_of-u.ensures ∙ c.in-Bit-u.is))
    (c.provided_bits-in-Bit-u.ensures.value Γ)

pub returns-in-Bit-u-clause-faults : goal.returns-in-Bit-u-clause-faults
returns-in-Bit-u-clause-faults c = λ Γ.
    subst (λ q. OnOk c.provided_bits-in-Bit-u.result (c.provided_bits-in-Bit-u.new.faults.first ≡ noted c.args.faults.now.first q))
    (enumeration_with_bits Γ c.in-BitEnumeration.field-0 c.in-BitEnumeration.v c.in-Bit-u.w (pair_of c.args.pair)
    (sym c.type_of-t.ensures ∙ c.in-BitEnumeration.is) (sym c.type_of-u.ensures ∙ c.in-Bit-u.is))
    (c.provided_bits-in-Bit-u.ensures.faults Γ)

-- two types of which neither is cast
pub returns-in_default-u-clause-value : goal.returns-in_default-u-clause-value
returns-in_default-u-clause-value c = λ Γ.
    let alike = unified_alike Γ (Bit c.in-Bit.w) c.type_of-u.result (pair_of c.args.pair) c.same_type.result c.same_type.ensures (sym c.in-Bit.is ∙ c.type_of-t.ensures) c.type_of-u.ensures
    (bits_beside Γ c.in-Bit.w c.type_of-u.result (pair_of c.args.pair) (λ e. c.requires.right (sym c.type_of-u.ensures ∙ e)) c.in_default-u.not-BitEnumeration) in
    c.provided_both.ensures.value ∙ ap right_of alike

pub returns-in_default-u-clause-faults : goal.returns-in_default-u-clause-faults
returns-in_default-u-clause-faults c = λ Γ.
    let alike = unified_alike Γ (Bit c.in-Bit.w) c.type_of-u.result (pair_of c.args.pair) c.same_type.result c.same_type.ensures (sym c.in-Bit.is ∙ c.type_of-t.ensures) c.type_of-u.ensures
    (bits_beside Γ c.in-Bit.w c.type_of-u.result (pair_of c.args.pair) (λ e. c.requires.right (sym c.type_of-u.ensures ∙ e)) c.in_default-u.not-BitEnumeration) in
    c.provided_both.ensures.faults ∙ ap (noted c.args.faults.now.first) alike

pub returns-in_default-u-2-clause-value : goal.returns-in_default-u-2-clause-value
returns-in_default-u-2-clause-value c = λ Γ.
    let alike = unified_alike Γ (BitEnumeration c.in-BitEnumeration.field-0 c.in-BitEnumeration.v) c.type_of-u.result (pair_of c.args.pair) c.same_type-in_default-u-2.result c.same_type-in_default-u-2.ensures (sym c.in-BitEnumeration.is ∙ c.type_of-t.ensures) c.type_of-u.ensures
    (enumeration_beside Γ c.in-BitEnumeration.field-0 c.in-BitEnumeration.v c.type_of-u.result (pair_of c.args.pair) (λ e. c.requires.right (sym c.type_of-u.ensures ∙ e)) c.in_default-u-2.not-Bit) in
    c.provided_both-in_default-u-2.ensures.value ∙ ap right_of alike

pub returns-in_default-u-2-clause-faults : goal.returns-in_default-u-2-clause-faults
returns-in_default-u-2-clause-faults c = λ Γ.
    let alike = unified_alike Γ (BitEnumeration c.in-BitEnumeration.field-0 c.in-BitEnumeration.v) c.type_of-u.result (pair_of c.args.pair) c.same_type-in_default-u-2.result c.same_type-in_default-u-2.ensures (sym c.in-BitEnumeration.is ∙ c.type_of-t.ensures) c.type_of-u.ensures
    (enumeration_beside Γ c.in-BitEnumeration.field-0 c.in-BitEnumeration.v c.type_of-u.result (pair_of c.args.pair) (λ e. c.requires.right (sym c.type_of-u.ensures ∙ e)) c.in_default-u-2.not-Bit) in
    c.provided_both-in_default-u-2.ensures.faults ∙ ap (noted c.args.faults.now.first) alike

pub returns-in_default-clause-value : goal.returns-in_default-clause-value
returns-in_default-clause-value c = λ Γ.
    let alike = unified_alike Γ c.type_of-t.result c.type_of-u.result (pair_of c.args.pair) c.same_type-in_default.result c.same_type-in_default.ensures c.type_of-t.ensures c.type_of-u.ensures
    (others_beside Γ c.type_of-t.result c.type_of-u.result (pair_of c.args.pair) (λ e. c.requires.left (sym c.type_of-t.ensures ∙ e)) (λ e. c.requires.right (sym c.type_of-u.ensures ∙ e)) c.in_default.not-Bit c.in_default.not-BitEnumeration) in
    c.provided_both-in_default.ensures.value ∙ ap right_of alike

pub returns-in_default-clause-faults : goal.returns-in_default-clause-faults
returns-in_default-clause-faults c = λ Γ.
    let alike = unified_alike Γ c.type_of-t.result c.type_of-u.result (pair_of c.args.pair) c.same_type-in_default.result c.same_type-in_default.ensures c.type_of-t.ensures c.type_of-u.ensures
    (others_beside Γ c.type_of-t.result c.type_of-u.result (pair_of c.args.pair) (λ e. c.requires.left (sym c.type_of-t.ensures ∙ e)) (λ e. c.requires.right (sym c.type_of-u.ensures ∙ e)) c.in_default.not-Bit c.in_default.not-BitEnumeration) in
    c.provided_both-in_default.ensures.faults ∙ ap (noted c.args.faults.now.first) alike
