-- The table grows by what the next node gives, and the term stands for what its node gives.
use Rattle.std.proofs.Common.{sym, ap, subst, ◌∙◌, length, slice_get, arith}
use Rattle.term_dag.specs.Table.{IsTable}
use Rattle.term_dag.proofs.TableLemmas.{next_table, length_pushed, stands_as_node, none_as_node}
use Rattle.term_dag.proofs.dag.Dag.value_at.Goals as goal

pub loop-number-preserved : goal.loop-number-preserved
loop-number-preserved c =
    let grown = c.in_ok-push.ensures.items in
    let long = c.loop-number.invariant.1 in (
      subst (IsTable c.args.self.now c.args.point.now) (sym grown)
          (next_table c.args.self.now c.len.ensures.dag c.args.point.now c.loop-number.table.items c.loop-number.invariant.0
          c.node.result (ap (slice_get c.args.self.now) long ∙ c.node.ensures) c.node_value-value.result
          c.node_value-value.ensures.some c.node_value-value.ensures.none),
      ap length grown ∙ length_pushed c.loop-number.table.items c.node_value-value.result ∙ omega (arith, long),
    )

pub returns-clause-some : goal.returns-clause-some
returns-clause-some c =
    stands_as_node c.args.self.now c.len.ensures.dag c.args.point.now c.args.t c.node-2.result c.node-2.ensures
    c.node_value.result c.node_value.ensures.some

pub returns-clause-none : goal.returns-clause-none
returns-clause-none c =
    none_as_node c.args.self.now c.len.ensures.dag c.args.point.now c.args.t c.node-2.result c.node-2.ensures
    c.node_value.result c.node_value.ensures.none
