-- A node gives what its case does on the operands' values, and nothing where an operand has none.
use Rattle.std.proofs.Common.{subst}
use Rattle.std.specs.Prelude.{Option, Some, None, IfNone}
use Rattle.term_dag.specs.Value.{Values}
use Rattle.term_dag.specs.Width.{WidthsAllow, width_of}
use Rattle.term_dag.proofs.FoldingLemmas.{first_where_one, second_where_not}
use Rattle.term_dag.proofs.OneOperandLemmas.{one_gives}
use Rattle.term_dag.proofs.dag.Dag.node_value.Goals as goal

if_none : {A : Type 0} (r : Option A) (P : Type 0) → P → IfNone r P
if_none None P h = h
if_none (Some a) P h = tt

pub returns-in_err-bits-in-One-clause-none : goal.returns-in_err-bits-in-One-clause-none
returns-in_err-bits-in-One-clause-none c =
    if_none c.from_residual.result _ (rw c.in-One.is (λ b h. c.in_err-bits-in-One.ensures.none h.x h.operand))

pub returns-in_err-x-in-Two-clause-none : goal.returns-in_err-x-in-Two-clause-none
returns-in_err-x-in-Two-clause-none c =
    if_none c.from_residual-in_err-x-in-Two.result _ (rw c.in-Two.is (λ b h. c.in_err-x-in-Two.ensures.none h.x h.first))

pub returns-in_err-y-in-Two-clause-none : goal.returns-in_err-y-in-Two-clause-none
returns-in_err-y-in-Two-clause-none c =
    if_none c.from_residual-in_err-y-in-Two.result _ (rw c.in-Two.is (λ b h. c.in_err-y-in-Two.ensures.none h.y h.second))

pub returns-in_err-known-in-Slice-clause-none : goal.returns-in_err-known-in-Slice-clause-none
returns-in_err-known-in-Slice-clause-none c =
    if_none c.from_residual-in_err-known-in-Slice.result _ (rw c.in-Slice.is (λ b h. c.in_err-known-in-Slice.ensures.none h.x h.operand))

pub returns-in_err-known-in-Extend-clause-none : goal.returns-in_err-known-in-Extend-clause-none
returns-in_err-known-in-Extend-clause-none c =
    if_none c.from_residual-in_err-known-in-Extend.result _ (rw c.in-Extend.is (λ b h. c.in_err-known-in-Extend.ensures.none h.x h.operand))

pub returns-in_err-test-in-Choose-clause-none : goal.returns-in_err-test-in-Choose-clause-none
returns-in_err-test-in-Choose-clause-none c =
    if_none c.from_residual-in_err-test-in-Choose.result _ (rw c.in-Choose.is (λ b h. c.in_err-test-in-Choose.ensures.none h.test h.condition))

pub returns-in_err-x-in-Choose-clause-none : goal.returns-in_err-x-in-Choose-clause-none
returns-in_err-x-in-Choose-clause-none c =
    if_none c.from_residual-in_err-x-in-Choose.result _ (rw c.in-Choose.is (λ b h. c.in_err-x-in-Choose.ensures.none h.x h.first))

pub returns-in_err-y-in-Choose-clause-none : goal.returns-in_err-y-in-Choose-clause-none
returns-in_err-y-in-Choose-clause-none c =
    if_none c.from_residual-in_err-y-in-Choose.result _ (rw c.in-Choose.is (λ b h. c.in_err-y-in-Choose.ensures.none h.y h.second))

pub returns-in_ok-bits-in-One-clause-some : goal.returns-in_ok-bits-in-One-clause-some
returns-in_ok-bits-in-One-clause-some c =
    rw c.in-One.is (one_gives (Values c.args.self.now c.args.point.now) c.in-One.op c.in-One.a c.in_ok-bits-in-One.bits c.apply.result
    (subst (WidthsAllow (width_of c.args.self.now)) c.in-One.is c.requires.widths)
    c.in_ok-bits-in-One.ensures.some c.apply.ensures.width c.apply.ensures.value)

pub returns-in_ok-y-in-Two-clause-some : goal.returns-in_ok-y-in-Two-clause-some
returns-in_ok-y-in-Two-clause-some c =
    rw c.in-Two.is record {
      x = c.in_ok-x-in-Two.x;
      y = c.in_ok-y-in-Two.y;
      first = c.in_ok-x-in-Two.ensures.some;
      second = c.in_ok-y-in-Two.ensures.some;
      width = c.apply-in-Two.ensures.width;
      value = c.apply-in-Two.ensures.value;
    }

pub returns-in_ok-known-in-Slice-clause-some : goal.returns-in_ok-known-in-Slice-clause-some
returns-in_ok-known-in-Slice-clause-some c =
    rw c.in-Slice.is record {
      x = c.in_ok-known-in-Slice.field-0;
      operand = c.in_ok-known-in-Slice.ensures.some;
      width = c.slice.ensures.width;
      value = c.slice.ensures.value;
    }

pub returns-in_ok-known-in-Extend-clause-some : goal.returns-in_ok-known-in-Extend-clause-some
returns-in_ok-known-in-Extend-clause-some c =
    rw c.in-Extend.is record {
      x = c.in_ok-known-in-Extend.field-0;
      operand = c.in_ok-known-in-Extend.ensures.some;
      width = c.extend.ensures.width;
      value = c.extend.ensures.value;
    }

pub returns-then-test-eq1-clause-some : goal.returns-then-test-eq1-clause-some
returns-then-test-eq1-clause-some c =
    rw c.in-Choose.is record {
      test = c.in_ok-test-in-Choose.test;
      x = c.in_ok-x-in-Choose.x;
      y = c.in_ok-y-in-Choose.y;
      condition = c.in_ok-test-in-Choose.ensures.some;
      first = c.in_ok-x-in-Choose.ensures.some;
      second = c.in_ok-y-in-Choose.ensures.some;
      value = first_where_one c.in_ok-test-in-Choose.test.value c.in_ok-x-in-Choose.x c.in_ok-y-in-Choose.y c.if-test-eq1.true;
    }

pub returns-else-test-eq1-clause-some : goal.returns-else-test-eq1-clause-some
returns-else-test-eq1-clause-some c =
    rw c.in-Choose.is record {
      test = c.in_ok-test-in-Choose.test;
      x = c.in_ok-x-in-Choose.x;
      y = c.in_ok-y-in-Choose.y;
      condition = c.in_ok-test-in-Choose.ensures.some;
      first = c.in_ok-x-in-Choose.ensures.some;
      second = c.in_ok-y-in-Choose.ensures.some;
      value = second_where_not c.in_ok-test-in-Choose.test.value c.in_ok-x-in-Choose.x c.in_ok-y-in-Choose.y c.if-test-eq1.false;
    }
