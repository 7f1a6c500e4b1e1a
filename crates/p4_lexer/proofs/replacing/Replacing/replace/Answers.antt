use Rattle.std.proofs.Common.{◌≡◌, [], ◌∷◌, ◌⊎◌, inl, inr, refl, ◌∙◌}
use Rattle.p4_lexer.specs.Extents.{placed_at}
use Rattle.p4_lexer.specs.MacroTable.{IsWordOf}
use Rattle.p4_lexer.specs.Replacement.{Gives}
use Rattle.p4_lexer.proofs.WordLemmas.{no_frames, bare_marks, first_reaches, first_overfills, next_reaches, next_overfills, adds_first, adds_more}
use Rattle.p4_lexer.proofs.replacing.Replacing.replace.Goals as goal

pub returns-then-not-branch-clause-gives : goal.returns-then-not-branch-clause-gives
returns-then-not-branch-clause-gives c = λ macros all marks.
    let t = c.args.table.now in
    let s = c.args.self.now in
    first_overfills t macros c.args.word s c.give.new.self c.in_ok-give.field-0 c.if-not-branch.true c.requires.frames
    (c.in_ok-give.ensures.gives macros all (no_frames t s c.requires.frames) (bare_marks t s c.requires.frames marks))

pub loop-frame-init : goal.loop-frame-init
loop-frame-init c = record {
  reaches = λ macros all marks.
      let t = c.args.table.now in
      let s = c.args.self.now in
      first_reaches t macros c.args.word s c.give.new.self c.in_ok-give.field-0 c.if-not-branch.false c.requires.frames
      (c.in_ok-give.ensures.gives macros all (no_frames t s c.requires.frames) (bare_marks t s c.requires.frames marks));
  adds = adds_first (λ p. p ≡ c.args.word.piece) (λ p. (p ≡ c.args.word.piece) ⊎ IsWordOf c.args.table.now p) c.args.self.now.items c.give.new.self.items (λ p e. inl e) c.in_ok-give.ensures.adds;
  same_length = c.in_ok-give.ensures.length;
}

pub returns-then-not-branch-2-clause-gives : goal.returns-then-not-branch-2-clause-gives
returns-then-not-branch-2-clause-gives c = λ macros all marks.
    let t = c.args.table.now in
    let m = c.loop-frame.self in
    next_overfills t macros c.args.word.place (Gives macros [] (placed_at t.text.now c.args.word ∷ [])) c.in-Some.frame c.args.self.now m (record m { frames = c.pop.new.self }) c.step.new.self
    c.in_ok-step.field-0 c.if-not-branch-2.true (c.loop-frame.invariant.reaches macros all marks) c.in-Some.ensures refl refl refl (c.in_ok-step.ensures.gives macros all)

pub returns-then-not-branch-2-clause-adds : goal.returns-then-not-branch-2-clause-adds
returns-then-not-branch-2-clause-adds c =
    adds_more (IsWordOf c.args.table.now) (λ p. (p ≡ c.args.word.piece) ⊎ IsWordOf c.args.table.now p) c.args.self.now.items c.loop-frame.self.items c.step.new.self.items (λ p h. inr h)
    c.loop-frame.invariant.adds c.in_ok-step.ensures.adds

pub loop-frame-preserved : goal.loop-frame-preserved
loop-frame-preserved c = record {
  reaches = λ macros all marks.
      let t = c.args.table.now in
      let m = c.loop-frame.self in
      next_reaches t macros c.args.word.place (Gives macros [] (placed_at t.text.now c.args.word ∷ [])) c.in-Some.frame c.args.self.now m (record m { frames = c.pop.new.self }) c.step.new.self
      c.in_ok-step.field-0 c.if-not-branch-2.false (c.loop-frame.invariant.reaches macros all marks) c.in-Some.ensures refl refl refl (c.in_ok-step.ensures.gives macros all);
  adds = adds_more (IsWordOf c.args.table.now) (λ p. (p ≡ c.args.word.piece) ⊎ IsWordOf c.args.table.now p) c.args.self.now.items c.loop-frame.self.items c.step.new.self.items (λ p h. inr h)
      c.loop-frame.invariant.adds c.in_ok-step.ensures.adds;
  same_length = c.in_ok-step.ensures.length ∙ c.loop-frame.invariant.same_length;
}
