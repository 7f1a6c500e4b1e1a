use Rattle.std.proofs.Common.{ℕ, sym, subst, All}
use Rattle.p4_program.specs.declared.typed.callables.Callable.{Callable}
use Rattle.p4_program.specs.Built.{IsNotOf}
use Rattle.p4_program.specs.Trees.Callables.{callable_of}
use Rattle.p4_program.proofs.Bodies.{all_mapped, all_unmapped}
use Rattle.p4_program.proofs.typed.built_program.no_action_of.Goals as goal

abbrev IsOther : ℕ → Callable → Type 0
IsOther n c = IsNotOf n (callable_of c)

pub returns : goal.returns
returns c =
    let n = c.args.number in
    let same = c.as_slice.ensures in (
      λ h. all_mapped (IsNotOf n) callable_of c.args.program.now.callables (subst (All (IsOther n)) same (c.none_of.ensures.0 h)),
      λ all.
          c.none_of.ensures.1
          (subst (All (IsOther n)) (sym same) (all_unmapped (IsNotOf n) callable_of c.args.program.now.callables all)),
    )
