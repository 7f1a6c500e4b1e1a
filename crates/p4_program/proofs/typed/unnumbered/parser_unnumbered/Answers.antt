use Rattle.std.proofs.Common.{refl, sym, ap, subst, All}
use Rattle.p4_program.specs.declared.typed.callables.State.{State}
use Rattle.p4_program.specs.Built.{AllUnnumbered}
use Rattle.p4_program.specs.Trees.Callables.{state_of}
use Rattle.p4_program.specs.Trees.Statements.{statements_of}
use Rattle.p4_program.proofs.Bodies.{all_mapped, all_unmapped}
use Rattle.p4_program.proofs.typed.unnumbered.parser_unnumbered.Goals as goal

abbrev IsUnnumbered : State → Type 0
IsUnnumbered s = AllUnnumbered (state_of s).statements

pub returns-then-all_unnumbered : goal.returns-then-all_unnumbered
returns-then-all_unnumbered c =
    let before = ap statements_of c.as_slice.ensures.value in
    let states = c.as_slice-then-all_unnumbered.ensures in (
      λ h.
          record {
            beginning = subst AllUnnumbered before (c.if-all_unnumbered.ensures.0 refl);
            states =
                all_mapped (λ s. AllUnnumbered s.statements) state_of c.args.parser.now.states
                (subst (All IsUnnumbered) states (c.states_unnumbered.ensures.0 h));
          },
      λ u.
          c.states_unnumbered.ensures.1
          (subst (All IsUnnumbered) (sym states)
          (all_unmapped (λ s. AllUnnumbered s.statements) state_of c.args.parser.now.states u.states)),
    )
