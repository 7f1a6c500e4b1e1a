use Rattle.std.proofs.Common.{sym, subst, All}
use Rattle.p4_program.specs.declared.typed.callables.State.{State}
use Rattle.p4_program.specs.Built.{AcceptsAtOnce}
use Rattle.p4_program.specs.Trees.Callables.{state_of}
use Rattle.p4_program.proofs.Bodies.{all_mapped, all_unmapped}
use Rattle.p4_program.proofs.typed.built_program.states_accept.Goals as goal

abbrev Accepts : State → Type 0
Accepts s = AcceptsAtOnce (state_of s)

pub returns : goal.returns
returns c =
    let same = c.as_slice.ensures in (
      λ h. all_mapped AcceptsAtOnce state_of c.args.parser.now.states (subst (All Accepts) same (c.all_accept.ensures.0 h)),
      λ all.
          c.all_accept.ensures.1
          (subst (All Accepts) (sym same) (all_unmapped AcceptsAtOnce state_of c.args.parser.now.states all)),
    )
