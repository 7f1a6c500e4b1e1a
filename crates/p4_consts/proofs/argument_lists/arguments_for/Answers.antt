use Rattle.std.proofs.Common.{◌≡◌, ◌++◌, ◌∷◌, [], ◌∙◌, ap, sym, map, reverse}
use Rattle.std.specs.Option.{option_map}
use Rattle.p4_program.specs.Trees.Statements.{argument_of}
use Rattle.p4_rules.specs.Callees.{arguments_for}
use Rattle.p4_consts.specs.Noted.{right_of}
use Rattle.p4_consts.specs.Scopes.{scope_in}
use Rattle.p4_consts.specs.Things.{judged_of}
use Rattle.p4_consts.proofs.ArgumentLaws.{arguments_step, joined_to}
use Rattle.p4_consts.proofs.argument_lists.arguments_for.Goals as goal

pub loop-shape-preserved : goal.loop-shape-preserved
loop-shape-preserved c =
    let Γ = scope_in c.args.pass c.args.scope.now in
    let p : c.loop-shape.rest.now ≡ c.in-Some.shape.now ∷ c.in-Some.more.now = cc (c.in-Some.ensures.cases.0) in
    let q : c.loop-shape.left.items ≡ c.pop.new.self.items ++ c.in-Some-pop.judged ∷ [] = c.in-Some-pop.ensures.items in
    let step = arguments_step Γ c.args.place c.in-Some.shape.now c.in-Some.more.now c.loop-shape.rest.now
    c.in-Some-pop.judged c.pop.new.self.items c.loop-shape.left.items
    (option_map (map argument_of) c.loop-shape.done) (option_map (option_map argument_of) c.in_ok-argument.argument)
    c.loop-shape.faults.first c.directed.new.faults.first p q c.in_ok-argument.ensures.value c.in_ok-argument.ensures.faults in
    let rest = right_of (arguments_for Γ c.args.place c.in-Some.more.now (map judged_of (reverse c.pop.new.self.items))) in (
      c.loop-shape.invariant.0 ∙ step.0 ∙ ap (λ done. joined_to done rest) (sym c.in_ok-done.ensures),
      c.loop-shape.invariant.1 ∙ step.1,
    )
