use Rattle.std.proofs.Common.{◌≡◌, ◌+◌, ◌∷◌, [], ◌++◌, subst, sym, Some, None}
use Rattle.std.specs.List.{All, filter}
use Rattle.p4_lexer.specs.declared.extents.Event.TheVariants.{Word, Define, Undefine}
use Rattle.p4_lexer.specs.SourceWords.{is_word}
use Rattle.p4_lexer.specs.Events.{IsPieceOf}
use Rattle.p4_lexer.specs.Extents.{IsIn}
use Rattle.p4_lexer.specs.Stack.{word_of_item}
use Rattle.p4_lexer.proofs.EventLemmas.{Comes, IsAll}
use Rattle.p4_lexer.proofs.StepLemmas.{IsHere, here, word_step, word_stops, stopped_pieces, stopped_inside, define_step, undefine_step, at_end}
use Rattle.p4_lexer.proofs.replacement.items_of.Goals as goal
use Rattle.p4_lexer.proofs.replacement.items_of.Goals.{in-Word+in_ok-replace-in-Word+else-not-branch, in-Define+in_ok-define-in-Define+in_ok-add_mark-in-Define, in-Undefine}

word_here : (c : goal.After-drop-table-then-not-branch-2) → IsHere c.args.events.now c.loop-event.event-index (Word c.in-Word.word)
word_here c = here c.args.events.now c.loop-event.event-index c.event-item.result (Word c.in-Word.word) c.loop-event-test.true c.event-item.is c.in-Word.is

pub returns-then-not-branch-clause-items : goal.returns-then-not-branch-clause-items
returns-then-not-branch-clause-items c =
    subst (λ items. IsAll c.args.text.now c.args.events.now items (Some c.in-Word.word.place)) (sym c.into_items.ensures)
    (word_stops c.args.text.now c.args.events.now c.loop-event.event-index c.loop-event.table c.loop-event.replacing c.replace.new.self c.in-Word.word c.in_ok-replace-in-Word.field-0 c.if-not-branch.true
    c.loop-event.invariant c.requires (word_here c) c.in_ok-replace-in-Word.ensures.gives c.in_ok-replace-in-Word.ensures.adds)

pub returns-then-not-branch-clause-pieces : goal.returns-then-not-branch-clause-pieces
returns-then-not-branch-clause-pieces c =
    subst (All (λ i. IsPieceOf c.args.events.now (word_of_item i).piece)) (sym c.into_items.ensures)
    (stopped_pieces c.args.text.now c.args.events.now c.loop-event.event-index c.loop-event.table c.loop-event.replacing c.replace.new.self c.in-Word.word c.loop-event.invariant (word_here c) c.in_ok-replace-in-Word.ensures.adds)

pub returns-then-not-branch-clause-within : goal.returns-then-not-branch-clause-within
returns-then-not-branch-clause-within c =
    subst (All (λ i. IsIn c.args.text.now (word_of_item i).piece.extent)) (sym c.into_items.ensures)
    (stopped_inside c.args.text.now c.args.events.now c.loop-event.event-index c.loop-event.table c.loop-event.replacing c.replace.new.self c.in-Word.word c.loop-event.invariant c.requires (word_here c) c.in_ok-replace-in-Word.ensures.adds)

pub loop-event-preserved : goal.loop-event-preserved
loop-event-preserved c =
    let text = c.args.text.now in
    let events = c.args.events.now in
    let at = c.loop-event.event-index in
    let t = c.loop-event.table in
    let s = c.loop-event.replacing in
    elim c.match-event.branch [
      | in-Word+in_ok-replace-in-Word+else-not-branch w ↦
          subst (λ u. Comes text events (at + 1) u c.match-event.replacing) (sym w.table-is)
          (subst (Comes text events (at + 1) t) (sym w.replacing-is)
          (word_step text events at t s w.replace.new.self w.in-Word.word w.in_ok-replace-in-Word.field-0 w.if-not-branch.false c.loop-event.invariant c.requires
          (here events at c.event-item.result (Word w.in-Word.word) c.loop-event-test.true c.event-item.is w.in-Word.is)
          w.in_ok-replace-in-Word.ensures.gives w.in_ok-replace-in-Word.ensures.adds w.in_ok-replace-in-Word.ensures.frames w.in_ok-replace-in-Word.ensures.length))
      | in-Define+in_ok-define-in-Define+in_ok-add_mark-in-Define w ↦
          let name = w.in-Define.name in
          let ps = w.in-Define.pieces in
          subst (λ u. Comes text events (at + 1) u c.match-event.replacing) (sym w.table-is)
          (subst (Comes text events (at + 1) w.define.new.self) (sym w.replacing-is)
          (define_step text events at t w.define.new.self s w.add_mark.new.self name ps c.loop-event.invariant c.requires
          (here events at c.event-item.result (Define name ps) c.loop-event-test.true c.event-item.is w.in-Define.is)
          w.define.ensures.text
          (subst (λ qs. w.define.new.self.definitions ≡ t.definitions ++ record { name = name; words = filter (λ p. is_word p.kind) qs } ∷ []) w.as_slice.ensures w.in_ok-define-in-Define.ensures.definitions)
          w.in_ok-define-in-Define.ensures.numbers w.in_ok-add_mark-in-Define.ensures))
      | in-Undefine w ↦
          let name = w.in-Undefine.name in
          subst (λ u. Comes text events (at + 1) u c.match-event.replacing) (sym w.table-is)
          (subst (Comes text events (at + 1) w.undefine.new.self) (sym w.replacing-is)
          (undefine_step text events at t w.undefine.new.self s name c.loop-event.invariant
          (here events at c.event-item.result (Undefine name) c.loop-event-test.true c.event-item.is w.in-Undefine.is)
          w.undefine.ensures.text w.undefine.ensures.definitions w.undefine.ensures.numbers))
    ]

pub returns-clause-items : goal.returns-clause-items
returns-clause-items c =
    subst (λ items. IsAll c.args.text.now c.args.events.now items None) (sym c.into_items-2.ensures)
    (at_end c.args.text.now c.args.events.now c.loop-event.event-index c.loop-event.table c.loop-event.replacing c.loop-event.invariant c.loop-event-test.false)

pub returns-clause-pieces : goal.returns-clause-pieces
returns-clause-pieces c = subst (All (λ i. IsPieceOf c.args.events.now (word_of_item i).piece)) (sym c.into_items-2.ensures) c.loop-event.invariant.pieces
