-- A marked node finds its operands' words in the table, which grows by its own.
use Rattle.std.proofs.Common.{rules, arith, Some, refl, ap, ◌∙◌}
use Rattle.std.proofs.lemmas.Option.{slice_get_read}
use Rattle.bit_blaster.proofs.NetlistLemmas.{extends_along, extends_itself}
use Rattle.bit_blaster.proofs.NodeWordLemmas.{words_marked, words_unmarked}
use Rattle.bit_blaster.proofs.ReadWidthLemmas.{names_contained}
use Rattle.bit_blaster.proofs.TermWordLemmas.{no_words, operand_words}
use Rattle.bit_blaster.proofs.term_words.words_of.Goals as goal
use Rattle.bit_blaster.proofs.term_words.words_of.Goals.{then-index+in_ok-word, else-index}

pub loop-number-init : goal.loop-number-init
loop-number-init c = record {
  extends = extends_itself c.args.circuit.now;
  long = search rules;
  words = rw c.new-table.ensures.items (no_words c.args.dag.now c.len.ensures.dag c.args.variables.now c.args.circuit.now c.args.marks.now.items);
}

pub node_word-requires-clause-named : goal.node_word-requires-clause-named
node_word-requires-clause-named c =
    let read = slice_get_read c.args.marks.now.items _ c.loop-number.number c.index.result.now refl (omega (arith, c.requires.marks.long)) (search rules) in
    names_contained c.args.dag.now c.args.t c.args.marks.now.items c.requires.marks c.args.variables.now c.requires.vars
    record { number = c.loop-number.number } c.node.result (read ∙ ap Some c.if-index.true) c.node.ensures

pub node_word-requires-clause-words : goal.node_word-requires-clause-words
node_word-requires-clause-words c =
    let read = slice_get_read c.args.marks.now.items _ c.loop-number.number c.index.result.now refl (omega (arith, c.requires.marks.long)) (search rules) in
    operand_words c.args.dag.now c.len.ensures.dag c.args.variables.now c.loop-number.circuit c.args.marks.now.items c.loop-number.table.items
    record { number = c.loop-number.number } c.node.result c.args.t c.requires.marks (read ∙ ap Some c.if-index.true) c.node.ensures
    c.loop-number.invariant.words

pub returns-in_err-word-clause-extends : goal.returns-in_err-word-clause-extends
returns-in_err-word-clause-extends c =
    extends_along c.args.circuit.now c.loop-number.circuit c.node_word.new.circuit c.loop-number.invariant.extends c.node_word.ensures.extends

pub returns-in_err-push-clause-extends : goal.returns-in_err-push-clause-extends
returns-in_err-push-clause-extends c = elim c.if-index.branch [
  | then-index+in_ok-word w ↦ rw w.circuit-is
      (extends_along c.args.circuit.now c.loop-number.circuit _ c.loop-number.invariant.extends w.in_ok-word.ensures.extends)
  | else-index w ↦ rw w.circuit-is c.loop-number.invariant.extends
]

pub loop-number-preserved : goal.loop-number-preserved
loop-number-preserved c =
    let read = slice_get_read c.args.marks.now.items _ c.loop-number.number c.index.result.now refl (omega (arith, c.requires.marks.long)) (search rules) in
    elim c.if-index.branch [
      | then-index+in_ok-word w ↦ rw w.circuit-is (words_marked c.args.dag.now c.len.ensures.dag c.args.variables.now c.args.circuit.now
          c.loop-number.circuit _ c.args.marks.now.items c.loop-number.table.items _ c.loop-number.number c.loop-number.invariant
          w.in_ok-word.ensures.extends c.from_vec.result w.in_ok-word.word.items c.in_ok-push.ensures.items w.node.result w.node.ensures
          (rw w.word-is at c.from_vec.ensures) w.in_ok-word.ensures.word)
      | else-index w ↦ rw w.circuit-is (words_unmarked c.args.dag.now c.len.ensures.dag c.args.variables.now c.args.circuit.now
          c.loop-number.circuit c.loop-number.circuit c.args.marks.now.items c.loop-number.table.items _ c.loop-number.number
          c.loop-number.invariant (extends_itself c.loop-number.circuit) c.from_vec.result c.from_vec.result c.in_ok-push.ensures.items
          (read ∙ ap Some w.if-index.false))
    ]
