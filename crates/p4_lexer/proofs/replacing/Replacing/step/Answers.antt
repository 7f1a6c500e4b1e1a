use Rattle.std.proofs.Common.{List, ◌∷◌, reverse, sym, refl, MatchBool}
use Rattle.std.proofs.lemmas.Result.{IfOk-weaker}
use Rattle.p4_lexer.specs.MacroTable.{AreInForce}
use Rattle.p4_lexer.specs.Scope.{Macro}
use Rattle.p4_lexer.specs.Stack.{AreFrames, AreMarks, Overfills, Reaches, FramesGive, WordGives, inside_word}
use Rattle.p4_lexer.proofs.ReplacingLemmas.{reaches_end, frames_behind, marks_behind, step_reaches}
use Rattle.p4_lexer.proofs.replacing.Replacing.step.Goals as goal

pub give-requires : goal.give-requires
give-requires c = c.requires c.in-Some.piece (c.args.frame.number, c.args.frame.next, sym c.in-Some.ensures.word)

pub returns-in-None-clause-gives : goal.returns-in-None-clause-gives
returns-in-None-clause-gives c = λ macros all frames marks.
    reaches_end c.args.table.now macros c.args.place c.args.frame c.args.self.now c.close.new.self all (sym c.in-None.ensures.word) frames marks
    c.close.ensures.marks c.close.ensures.frames c.close.ensures.items c.close.ensures.left

pub returns-in_ok-push-in-Some-clause-gives : goal.returns-in_ok-push-in-Some-clause-gives
returns-in_ok-push-in-Some-clause-gives c =
    let t = c.args.table.now in
    let s = c.args.self.now in
    let f = c.args.frame in
    let p = c.in-Some.piece in
    let m = record s { frames = c.push.new.self } in
    let n = c.give.new.self in
    let place = c.args.place in
    IfOk-weaker c.give.result
    (λ fits. (macros : List Macro) → AreInForce t macros → AreFrames t (reverse m.frames) → AreMarks t m.marks (reverse m.frames)
    → MatchBool fits (Reaches t macros place (WordGives t macros (reverse m.frames) (inside_word place p)) m n) (Overfills t place (WordGives t macros (reverse m.frames) (inside_word place p)) m n))
    (λ fits. (macros : List Macro) → AreInForce t macros → AreFrames t (f ∷ reverse s.frames) → AreMarks t s.marks (f ∷ reverse s.frames)
    → MatchBool fits (Reaches t macros place (FramesGive t macros place (f ∷ reverse s.frames)) s n) (Overfills t place (FramesGive t macros place (f ∷ reverse s.frames)) s n))
    (λ fits h macros all frames marks. step_reaches t macros place f p s m n (sym c.in-Some.ensures.word) c.in_ok-push-in-Some.ensures.ok refl refl fits
    (h macros all (frames_behind t f s m c.in_ok-push-in-Some.ensures.ok frames) (marks_behind t f s m c.in_ok-push-in-Some.ensures.ok refl marks)))
    c.give.ensures.gives
