-- An input and a read go by what is fixed, and another node by its operands.
use Rattle.std.proofs.Common.{Some, slice_index_or, ap, subst, ◌∙◌}
use Rattle.term_dag.specs.declared.node.Term.{Term}
use Rattle.term_dag.specs.Made.{IsMade}
use Rattle.term_dag.proofs.FoldingLemmas.{ok_along}
use Rattle.term_dag.proofs.SubstituteLemmas.{input_substitute, fixed_read, free_read, changed_fits, changed_substitute, is_inner, operands_done}
use Rattle.term_dag.proofs.InputSubstituteLemmas.{no_bit_of_constant, no_read_of_constant}
use Rattle.term_dag.proofs.WidthLemmas.{operands_within}
use Rattle.term_dag.proofs.dag.Dag.substitute_term.Goals as goal

pub substitute_input-requires : goal.substitute_input-requires
substitute_input-requires c =
    let w = c.len.ensures.dag.fit c.args.t.number c.node.result c.node.ensures in
    let v = rw c.in-Input.is at w in
    record { some_bit = v.0; at_most_widest = v.1; few = c.requires.few }

pub with_operands-requires : goal.with_operands-requires
with_operands-requires c =
    operands_within c.args.t.number _ c.requires.long c.node.result
    (c.len.ensures.dag.ordered c.args.t.number c.node.result c.node.ensures)

pub returns-in-Input-clause-done : goal.returns-in-Input-clause-done
returns-in-Input-clause-done c =
    ok_along c.substitute_input.result _ _ (λ r done. input_substitute c.args.self.now c.substitute_input.new.self c.len.ensures.dag
    c.substitute_input.ensures.dag c.substitute_input.ensures.keeps c.args.fixed.now c.args.t c.in-Input.first c.in-Input.width
    (c.node.ensures ∙ ap Some c.in-Input.is) r done) c.substitute_input.ensures.done

pub returns-in-Some-clause-done : goal.returns-in-Some-clause-done
returns-in-Some-clause-done c =
    ok_along c.made.result _ _ (λ r made. fixed_read c.args.self.now c.made.new.self c.len.ensures.dag c.made.ensures.dag
    c.made.ensures.keeps c.args.fixed.now c.args.t c.in-Read.read c.in-Read.field-1 (c.node.ensures ∙ ap Some c.in-Read.is)
    c.in-Some.bits c.in-Some.ensures.some c.requires.reads r made.within made.width made.value
    (no_bit_of_constant c.args.self.now c.made.new.self c.len.ensures.dag c.made.ensures.keeps c.in-Some.bits r made)
    (no_read_of_constant c.args.self.now c.made.new.self c.len.ensures.dag c.made.ensures.keeps c.in-Some.bits r made)) c.made.ensures.made

pub returns-in-None-clause-done : goal.returns-in-None-clause-done
returns-in-None-clause-done c =
    free_read c.args.self.now c.len.ensures.dag c.args.fixed.now c.args.t c.in-Read.read c.in-Read.field-1
    (c.node.ensures ∙ ap Some c.in-Read.is) c.in-None.ensures.none

pub made-requires-in_default : goal.made-requires-in_default
made-requires-in_default c =
    rw c.with_operands.ensures
    (changed_fits c.args.self.now c.len.ensures.dag c.args.fixed.now c.args.t c.node.result c.node.ensures
    (λ a. slice_index_or c.args.results.now.items a.number a) (operands_done c.args.self.now c.len.ensures.dag c.args.fixed.now c.args.t c.node.result
    c.node.ensures c.args.results.now.items c.requires.long c.requires.operands))

pub returns-in_default-clause-done : goal.returns-in_default-clause-done
returns-in_default-clause-done c =
    let f : Term → Term = λ a. slice_index_or c.args.results.now.items a.number a in
    ok_along c.made-in_default.result _ _ (λ r made.
    let m = subst (λ n. IsMade c.args.self.now c.made-in_default.new.self n r) c.with_operands.ensures made in
    changed_substitute c.args.self.now c.len.ensures.dag c.args.fixed.now c.args.t c.node.result c.node.ensures f
    (operands_done c.args.self.now c.len.ensures.dag c.args.fixed.now c.args.t c.node.result
    c.node.ensures c.args.results.now.items c.requires.long c.requires.operands) c.made-in_default.new.self
    c.made-in_default.ensures.dag c.made-in_default.ensures.keeps (is_inner c.node.result c.in_default.not-Input c.in_default.not-Read) r
    m.within m.width m.value m.side m.constant m.node_stands) c.made-in_default.ensures.made
