-- The node stands at its number in a dag again.
use Rattle.std.proofs.Common.{sym, subst, List}
use Rattle.term_dag.specs.declared.node.Node.{Node}
use Rattle.term_dag.specs.Width.{IsDag, Fits}
use Rattle.term_dag.proofs.EqualityLemmas.{stored_is}
use Rattle.term_dag.proofs.InsertLemmas.{new_is_dag, new_width, new_value}
use Rattle.term_dag.proofs.dag.Dag.number.Goals as goal
use Rattle.term_dag.proofs.dag.Dag.number.Goals.{in-Ok, in-Err}

fits : (c : goal.Joined-insert_full) → Fits c.self.inside.nodes.keys c.args.node
fits c = subst (λ (l : List Node). Fits l c.args.node) (sym c.self.view_is) c.requires

pub invariant_of-self : goal.invariant_of-self
invariant_of-self c =
    elim c.match-insert_full.branch [
      | in-Ok w ↦ new_is_dag c.self.inside.nodes.keys c.insert_full.new.self.keys c.self.invariant c.args.node (fits c) w.in-Ok.ensures.keys
      | in-Err w ↦ subst IsDag (sym w.in-Err.ensures.err) c.self.invariant
    ]

pub returns-clause-dag : goal.returns-clause-dag
returns-clause-dag c = invariant_of-self c

pub returns-clause-at : goal.returns-clause-at
returns-clause-at c =
    elim c.match-insert_full.branch [
      | in-Ok w ↦ rw w.result-is (let s = w.in-Ok.ensures.stored in stored_is c.insert_full.new.self.keys w.in-Ok.number c.args.node s.0 s.1 s.2)
      | in-Err w ↦ rw w.result-is tt
    ]

pub returns-clause-width : goal.returns-clause-width
returns-clause-width c =
    elim c.match-insert_full.branch [
      | in-Ok w ↦ rw w.result-is
          (let s = w.in-Ok.ensures.stored in
          rw c.self.view_is at (new_width c.self.inside.nodes.keys c.insert_full.new.self.keys c.self.invariant c.args.node (fits c) w.in-Ok.ensures.keys
          record { number = w.in-Ok.number } (stored_is c.insert_full.new.self.keys w.in-Ok.number c.args.node s.0 s.1 s.2)))
      | in-Err w ↦ rw w.result-is tt
    ]

pub returns-clause-value : goal.returns-clause-value
returns-clause-value c =
    elim c.match-insert_full.branch [
      | in-Ok w ↦ rw w.result-is
          (let s = w.in-Ok.ensures.stored in
          rw c.self.view_is at (new_value c.self.inside.nodes.keys c.insert_full.new.self.keys c.self.invariant c.args.node (fits c) w.in-Ok.ensures.keys
          record { number = w.in-Ok.number } (stored_is c.insert_full.new.self.keys w.in-Ok.number c.args.node s.0 s.1 s.2)))
      | in-Err w ↦ rw w.result-is tt
    ]
