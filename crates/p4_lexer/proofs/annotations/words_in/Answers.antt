use Rattle.std.proofs.Common.{[], ◌∷◌, ◌++◌, ◌∙◌, ap, sym, take}
use Rattle.std.proofs.lemmas.List.{append-nil}
use Rattle.p4_lexer.specs.declared.extents.Item.TheVariants.{Word, Replaced}
use Rattle.p4_lexer.specs.Entries.{words_in}
use Rattle.p4_lexer.proofs.EntryLemmas.{words_more}
use Rattle.p4_lexer.proofs.annotations.words_in.Goals as goal
use Rattle.p4_lexer.proofs.annotations.words_in.Goals.{in-Word+in_ok-push, in_default}

pub loop-item-preserved : goal.loop-item-preserved
loop-item-preserved c =
    let items = c.args.items.now in
    let i = c.loop-item.item-index in
    elim c.match-item.branch [
      | in-Word+in_ok-push w ↦
          w.words-is ∙ w.in_ok-push.ensures.ok ∙ ap (λ ws. ws ++ w.in-Word.word ∷ []) c.loop-item.invariant ∙ sym (words_more items i _ (Word w.in-Word.word) c.loop-item-test.true w.in-Word.is)
      | in_default w ↦
          w.words-is ∙ c.loop-item.invariant ∙ sym (append-nil (words_in (take i items))) ∙ sym (words_more items i _ (Replaced w.in_default.field-0) c.loop-item-test.true w.in_default.is)
    ]
