use Rattle.std.proofs.Common.{refl, sym, subst, arith}
use Rattle.p4_program.specs.Built.{CallableUnnumbered}
use Rattle.p4_program.specs.Trees.Callables.{callable_of}
use Rattle.p4_program.proofs.Bodies.{others_from, others_each}
use Rattle.p4_program.proofs.typed.built_program.others_unnumbered.Goals as goal

pub returns-then-not-callable_unnumbered : goal.returns-then-not-callable_unnumbered
returns-then-not-callable_unnumbered c = (
  λ h. absurd (cc),
  λ none.
      c.if-not-callable_unnumbered.ensures.1
      (subst (λ d. CallableUnnumbered (callable_of d)) (sym c.index-callables-k.is)
      (others_each c.args.number c.args.callables.now none c.loop-k.k c.index-callables-k.result c.loop-k-test.true
      c.if-k-number.true)),
)

pub returns : goal.returns
returns c = (
  λ h.
      others_from c.args.number c.args.callables.now
      (λ j d within other. c.loop-k.invariant j d (omega arith) other),
  λ none. refl,
)
