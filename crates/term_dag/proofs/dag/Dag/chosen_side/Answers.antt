-- The side is that of the constant.
use Rattle.term_dag.proofs.FoldingLemmas.{first_where_one, second_where_not}
use Rattle.term_dag.proofs.dag.Dag.chosen_side.Goals as goal

pub returns-then-bits-eq1-clause-side : goal.returns-then-bits-eq1-clause-side
returns-then-bits-eq1-clause-side c =
    rw c.in-Choose.is record {
      x = c.in_ok-bits-in-Choose.bits;
      condition = c.in_ok-bits-in-Choose.ensures.some;
      is = first_where_one c.in_ok-bits-in-Choose.bits.value c.in-Choose.a c.in-Choose.b c.if-bits-eq1.true;
    }

pub returns-else-bits-eq1-clause-side : goal.returns-else-bits-eq1-clause-side
returns-else-bits-eq1-clause-side c =
    rw c.in-Choose.is record {
      x = c.in_ok-bits-in-Choose.bits;
      condition = c.in_ok-bits-in-Choose.ensures.some;
      is = second_where_not c.in_ok-bits-in-Choose.bits.value c.in-Choose.a c.in-Choose.b c.if-bits-eq1.false;
    }
