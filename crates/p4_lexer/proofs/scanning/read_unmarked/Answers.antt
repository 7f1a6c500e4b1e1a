use Rattle.std.proofs.Common.{◌≡◌, List, map, subst}
use Rattle.std.specs.List.{All}
use Rattle.p4_lexer.specs.declared.extents.Event.{Event}
use Rattle.p4_lexer.specs.declared.extents.Item.{Item}
use Rattle.p4_lexer.specs.declared.extents.Entry.{Entry}
use Rattle.p4_lexer.specs.Annotations.{Leaves}
use Rattle.p4_lexer.specs.Entries.{IsWordOf}
use Rattle.p4_lexer.specs.Events.{IsPieceOf}
use Rattle.p4_lexer.specs.Extents.{item_at, entry_at}
use Rattle.p4_lexer.specs.Stack.{word_of_item}
use Rattle.p4_lexer.specs.Tokens.{IsPastCount}
use Rattle.p4_lexer.specs.Scanning.{IsReplaced, IsFirstOf, tokens_in}
use Rattle.p4_lexer.proofs.UnmarkedLemmas.{replaced_of, unmarked}
use Rattle.p4_lexer.proofs.scanning.read_unmarked.Goals as goal

pub returns : goal.returns
returns c =
    let text = c.args.text.now in
    let events = c.in_ok-split.split.events in
    let items = c.in_ok-replacement.replacement.items in
    let heavy = c.in_ok-replacement.replacement.too_heavy in
    let entries = c.in_ok-entries.entries in
    unmarked text c.requires events c.in_ok-split.split.fault c.in_ok-split.ensures
    items heavy (subst (λ (es : List Event). IsReplaced text es items heavy) c.as_slice.ensures (replaced_of text c.as_slice.result.now items heavy c.in_ok-replacement.ensures.items))
    (subst (λ (es : List Event). All (λ i. IsPieceOf es (word_of_item i).piece) items) c.as_slice.ensures c.in_ok-replacement.ensures.pieces)
    entries
    (subst (λ (xs : List Item). Leaves (map (item_at text) xs) (map (entry_at text) entries)) c.as_slice-2.ensures c.in_ok-entries.ensures.leaves)
    c.in_ok-entries.ensures.in_text
    (subst (λ (xs : List Item). All (IsWordOf xs) entries) c.as_slice-2.ensures c.in_ok-entries.ensures.words)
    c.in_ok-tokens_among.field-0 c.past_count.result c.past_weight.result c.first_of-limit.result c.first_of.result
    (subst (λ (xs : List Entry). c.in_ok-tokens_among.field-0 ≡ tokens_in xs) c.as_slice-4.ensures c.in_ok-tokens_among.ensures)
    (subst (λ (xs : List Entry). IsFirstOf (IsPastCount (map (entry_at text) xs)) c.past_count.result) c.as_slice-3.ensures (c.past_count.ensures text))
    c.past_weight.ensures c.first_of-limit.ensures c.first_of.ensures
