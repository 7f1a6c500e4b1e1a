-- An operator of one operand has the operand's width, and ignores what stands in the place of a second.
use Rattle.std.proofs.Common.{◌≡◌, ℕ, refl, ap, ◌∙◌, arith}
use Rattle.bits_core.specs.Operator.{operator_value, result_width, shape_of}
use Rattle.bits_core.specs.declared.number.Bits.{Bits}
use Rattle.bits_core.specs.declared.operator.Op.{Op}
use Rattle.bits_core.specs.declared.operator.Op.TheVariants.{Not, Neg}
use Rattle.bits_core.specs.declared.operator.OpShape.TheVariants.{One as OneOperand}
use Rattle.term_dag.specs.declared.node.Term.{Term}
use Rattle.term_dag.specs.Value.{OneGives}

second_ignored : (op : Op) (w x v y : ℕ) → shape_of op ≡ OneOperand → operator_value op w x v y ≡ operator_value op w x 0 0
second_ignored Not w x v y e = refl
second_ignored Neg w x v y e = refl
second_ignored op w x v y e = grind arith

pub one_gives : (S : Term → Bits → Type 0) (op : Op) (a : Term) (x b : Bits) → shape_of op ≡ OneOperand → S a x
    → b.width ≡ result_width (shape_of op) x.width x.width → b.value ≡ operator_value op x.width x.value x.width x.value
    → OneGives S op a b
one_gives S op a x b one s w v =
    record {
      x = x;
      operand = s;
      width = w ∙ ap (λ o. result_width o x.width x.width) one;
      value = v ∙ second_ignored op x.width x.value x.width x.value one;
    }
