use Rattle.std.proofs.Common.{◌≡◌, ◌+◌, ◌<◌, List, [], ◌∷◌, ◌++◌, cond, reverse, MatchBool}
use Rattle.p4_lexer.specs.declared.extents.Item.TheVariants.{Word as WordItem}
use Rattle.p4_lexer.specs.MacroTable.{AreInForce}
use Rattle.p4_lexer.specs.Scope.{Macro}
use Rattle.p4_lexer.specs.Stack.{AreFrames, AreMarks, Overfills, Reaches, WordGives, weight_at}
use Rattle.p4_lexer.proofs.ReplacingLemmas.{both_ok, kept_comes, put_reaches, overfills_put}
use Rattle.p4_lexer.proofs.replacing.Replacing.give.Goals as goal

pub returns-then-not-branch-clause-gives : goal.returns-then-not-branch-clause-gives
returns-then-not-branch-clause-gives c = λ macros all frames marks.
    overfills_put c.args.table.now macros c.args.word c.args.self.now c.push-in-Some.new.self c.in-Some.number c.in_ok-push-in-Some.field-0 c.if-not-branch.true c.requires
    (c.in-Some.ensures.names macros (reverse c.args.self.now.frames) all marks) c.in_ok-push-in-Some.ensures.items c.in_ok-push-in-Some.ensures.left

pub returns-in-None-clause-gives : goal.returns-in-None-clause-gives
returns-in-None-clause-gives c =
    let t = c.args.table.now in
    let s = c.args.self.now in
    let n = c.push.new.self in
    let w = c.args.word in
    both_ok c.push.result (λ fits. n.items ≡ cond fits (s.items ++ WordItem w ∷ []) s.items)
    (λ fits. MatchBool fits (n.left + weight_at (WordItem w) ≡ s.left) ((n.left ≡ s.left) × (s.left < weight_at (WordItem w))))
    (λ fits. (macros : List Macro) → AreInForce t macros → AreFrames t (reverse s.frames) → AreMarks t s.marks (reverse s.frames)
    → MatchBool fits (Reaches t macros w.place (WordGives t macros (reverse s.frames) w) s n) (Overfills t w.place (WordGives t macros (reverse s.frames) w) s n))
    (λ fits items left macros all frames marks. kept_comes t macros w s n fits c.requires (c.in-None.ensures.names macros (reverse s.frames) all marks) frames marks c.push.ensures.marks c.push.ensures.frames items left)
    c.push.ensures.items c.push.ensures.left

pub returns-in_ok-open-in-Some-clause-gives : goal.returns-in_ok-open-in-Some-clause-gives
returns-in_ok-open-in-Some-clause-gives c = λ macros all frames marks.
    put_reaches c.args.table.now macros c.args.word c.args.self.now c.push-in-Some.new.self c.open.new.self c.in-Some.number c.in_ok-push-in-Some.field-0 c.if-not-branch.false all
    (c.in-Some.ensures.names macros (reverse c.args.self.now.frames) all marks) c.in-Some.ensures.number c.in-Some.ensures.unmarked frames marks
    c.push-in-Some.ensures.marks c.push-in-Some.ensures.frames c.in_ok-push-in-Some.ensures.items c.in_ok-push-in-Some.ensures.left
    c.open.ensures.marks c.in_ok-open-in-Some.ensures.frames c.open.ensures.items c.open.ensures.left
