use Rattle.std.proofs.Common.{sym, subst, rules}
use Rattle.ll1_engine.specs.Marks.{AllDerive}
use Rattle.ll1_engine.proofs.MarksLemmas.{AllDerive_set}
use Rattle.ll1_engine.proofs.sets.widen_row.Goals as goal

pub returns-then-all_marked-clause-derives : goal.returns-then-all_marked-clause-derives
returns-then-all_marked-clause-derives c = λ g k seed h d.
    subst (AllDerive g seed) (sym c.mark.ensures.after)
    (AllDerive_set g seed c.args.marks.now k c.args.row.now h (search rules) d)
