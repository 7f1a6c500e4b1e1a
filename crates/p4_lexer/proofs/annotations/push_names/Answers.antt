use Rattle.std.proofs.Common.{[], ◌∷◌, ◌++◌, ◌∙◌, ap, sym, take, append_assoc}
use Rattle.std.proofs.lemmas.List.{append-nil}
use Rattle.p4_lexer.specs.declared.extents.Item.TheVariants.{Word, Replaced}
use Rattle.p4_lexer.specs.declared.extents.Entry.TheVariants.{Name}
use Rattle.p4_lexer.specs.Entries.{names_in}
use Rattle.p4_lexer.proofs.EntryLemmas.{names_more}
use Rattle.p4_lexer.proofs.annotations.push_names.Goals as goal
use Rattle.p4_lexer.proofs.annotations.push_names.Goals.{in-Replaced+in_ok-push, in_default}

pub loop-item-preserved : goal.loop-item-preserved
loop-item-preserved c =
    let items = c.args.items.now in
    let i = c.loop-item.item-index in
    let old = c.args.entries.now in
    elim c.match-item.branch [
      | in-Replaced+in_ok-push w ↦
          let one = Name w.in-Replaced.name.place ∷ [] in
          w.entries-is ∙ w.in_ok-push.ensures.ok ∙ ap (λ es. es ++ one) c.loop-item.invariant ∙ append_assoc old (names_in (take i items)) one
          ∙ ap (λ es. old ++ es) (sym (names_more items i _ (Replaced w.in-Replaced.name) c.loop-item-test.true w.in-Replaced.is))
      | in_default w ↦
          w.entries-is ∙ c.loop-item.invariant ∙ ap (λ es. old ++ es) (sym (append-nil (names_in (take i items))))
          ∙ ap (λ es. old ++ es) (sym (names_more items i _ (Word w.in_default.field-0) c.loop-item-test.true w.in_default.is))
    ]
