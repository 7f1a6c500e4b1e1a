-- Each marked term has its substitute where its operands have theirs.
use Rattle.std.proofs.Common.{rules, arith, Some, refl, ap, ◌∙◌}
use Rattle.std.proofs.lemmas.Option.{slice_get_read}
use Rattle.term_dag.proofs.FoldingLemmas.{ok_along}
use Rattle.term_dag.proofs.InsertLemmas.{kept_older}
use Rattle.term_dag.proofs.SubstituteLemmas.{adds_both}
use Rattle.term_dag.proofs.ResultLemmas.{term_operands, term_reads, next_results, told_width, told_value, told_bits, told_reads, nothing_added, not_both}
use Rattle.term_dag.proofs.dag.Dag.substitute.Goals as goal
use Rattle.term_dag.proofs.dag.Dag.substitute.Goals.{then-index+in_ok-result, else-index}

pub substitute_term-requires-clause-operands : goal.substitute_term-requires-clause-operands
substitute_term-requires-clause-operands c =
    term_operands c.args.self.now c.len.ensures.dag c.args.fixed.now c.args.t c.requires.within c.requires.reads c.in_ok-marks.marks.items c.in_ok-marks.ensures
    c.loop-number.self c.loop-number.results.items c.loop-number.number c.loop-number.invariant
    _ (omega arith) (slice_get_read c.in_ok-marks.marks.items _ c.loop-number.number c.index.result.now refl
    (omega (arith, c.in_ok-marks.ensures.long)) (search rules) ∙ ap Some c.if-index.true)

pub substitute_term-requires-clause-reads : goal.substitute_term-requires-clause-reads
substitute_term-requires-clause-reads c =
    term_reads c.args.self.now c.len.ensures.dag c.args.fixed.now c.args.t c.requires.within c.requires.reads c.in_ok-marks.marks.items c.in_ok-marks.ensures
    c.loop-number.self c.loop-number.results.items c.loop-number.number c.loop-number.invariant
    _ (omega arith) (slice_get_read c.in_ok-marks.marks.items _ c.loop-number.number c.index.result.now refl
    (omega (arith, c.in_ok-marks.ensures.long)) (search rules) ∙ ap Some c.if-index.true)

pub returns-in_err-result-clause-older : goal.returns-in_err-result-clause-older
returns-in_err-result-clause-older c =
    kept_older c.args.self.now c.substitute_term.new.self c.len.ensures.dag
    (adds_both c.args.self.now c.loop-number.self c.substitute_term.new.self c.loop-number.invariant.adds c.substitute_term.ensures.keeps)

pub returns-in_err-push-clause-older : goal.returns-in_err-push-clause-older
returns-in_err-push-clause-older c =
    elim c.if-index.branch [
      | then-index+in_ok-result w ↦ rw w.self-is (kept_older c.args.self.now w.substitute_term.new.self c.len.ensures.dag
          (adds_both c.args.self.now c.loop-number.self w.substitute_term.new.self c.loop-number.invariant.adds w.substitute_term.ensures.keeps))
      | else-index w ↦ rw w.self-is (kept_older c.args.self.now c.loop-number.self c.len.ensures.dag c.loop-number.invariant.adds)
    ]

pub loop-number-preserved : goal.loop-number-preserved
loop-number-preserved c =
    let read = slice_get_read c.in_ok-marks.marks.items _ c.loop-number.number c.index.result.now refl
    (omega (arith, c.in_ok-marks.ensures.long)) (search rules) in
    rw c.in_ok-push.ensures.items (elim c.if-index.branch [
      | then-index+in_ok-result w ↦ rw w.self-is (rw w.result-is
          (next_results c.args.self.now c.len.ensures.dag c.args.fixed.now c.args.t c.requires.within c.requires.reads c.in_ok-marks.marks.items c.in_ok-marks.ensures
          c.loop-number.self c.loop-number.results.items c.loop-number.number c.loop-number.invariant
          w.substitute_term.new.self w.substitute_term.ensures.dag w.substitute_term.ensures.keeps w.in_ok-result.result (omega arith)
          (λ _. w.in_ok-result.ensures.done)))
      | else-index w ↦ rw w.self-is (rw w.result-is
          (next_results c.args.self.now c.len.ensures.dag c.args.fixed.now c.args.t c.requires.within c.requires.reads c.in_ok-marks.marks.items c.in_ok-marks.ensures
          c.loop-number.self c.loop-number.results.items c.loop-number.number c.loop-number.invariant
          c.loop-number.self c.loop-number.invariant.dag (nothing_added c.loop-number.self) _ (omega arith)
          (λ m. absurd (not_both c.in_ok-marks.marks.items c.loop-number.number m (read ∙ ap Some w.if-index.false)))))
    ])

pub substitute_term-requires-2-clause-operands : goal.substitute_term-requires-2-clause-operands
substitute_term-requires-2-clause-operands c =
    term_operands c.args.self.now c.len.ensures.dag c.args.fixed.now c.args.t c.requires.within c.requires.reads c.in_ok-marks.marks.items c.in_ok-marks.ensures
    c.loop-number.self c.loop-number.results.items c.loop-number.number c.loop-number.invariant
    c.args.t (omega arith) c.in_ok-marks.ensures.itself

pub substitute_term-requires-2-clause-reads : goal.substitute_term-requires-2-clause-reads
substitute_term-requires-2-clause-reads c =
    term_reads c.args.self.now c.len.ensures.dag c.args.fixed.now c.args.t c.requires.within c.requires.reads c.in_ok-marks.marks.items c.in_ok-marks.ensures
    c.loop-number.self c.loop-number.results.items c.loop-number.number c.loop-number.invariant
    c.args.t (omega arith) c.in_ok-marks.ensures.itself

pub returns-clause-older : goal.returns-clause-older
returns-clause-older c =
    kept_older c.args.self.now c.substitute_term-2.new.self c.len.ensures.dag
    (adds_both c.args.self.now c.loop-number.self c.substitute_term-2.new.self c.loop-number.invariant.adds c.substitute_term-2.ensures.keeps)

pub returns-clause-width : goal.returns-clause-width
returns-clause-width c =
    ok_along c.substitute_term-2.result _ _ (λ r is. told_width c.args.self.now c.substitute_term-2.new.self c.len.ensures.dag
    (adds_both c.args.self.now c.loop-number.self c.substitute_term-2.new.self c.loop-number.invariant.adds c.substitute_term-2.ensures.keeps)
    c.args.fixed.now c.args.t r c.requires.within is) c.substitute_term-2.ensures.done

pub returns-clause-value : goal.returns-clause-value
returns-clause-value c =
    ok_along c.substitute_term-2.result _ _ (λ r is. told_value c.args.self.now c.substitute_term-2.new.self c.len.ensures.dag
    (adds_both c.args.self.now c.loop-number.self c.substitute_term-2.new.self c.loop-number.invariant.adds c.substitute_term-2.ensures.keeps)
    c.args.fixed.now c.args.t r c.requires.within is) c.substitute_term-2.ensures.done

pub returns-clause-bits : goal.returns-clause-bits
returns-clause-bits c =
    ok_along c.substitute_term-2.result _ _ (λ r is. told_bits c.args.self.now c.substitute_term-2.new.self c.len.ensures.dag
    (adds_both c.args.self.now c.loop-number.self c.substitute_term-2.new.self c.loop-number.invariant.adds c.substitute_term-2.ensures.keeps)
    c.args.fixed.now c.args.t r c.requires.within is) c.substitute_term-2.ensures.done

pub returns-clause-reads : goal.returns-clause-reads
returns-clause-reads c =
    ok_along c.substitute_term-2.result _ _ (λ r is. told_reads c.args.self.now c.substitute_term-2.new.self c.len.ensures.dag
    (adds_both c.args.self.now c.loop-number.self c.substitute_term-2.new.self c.loop-number.invariant.adds c.substitute_term-2.ensures.keeps)
    c.args.fixed.now c.args.t r c.requires.within is) c.substitute_term-2.ensures.done

pub returns-clause-no_fixed_bit : goal.returns-clause-no_fixed_bit
returns-clause-no_fixed_bit c = ok_along c.substitute_term-2.result _ _ (λ r is. is.free_bits) c.substitute_term-2.ensures.done
