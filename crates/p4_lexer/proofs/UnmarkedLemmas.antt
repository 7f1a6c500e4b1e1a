-- A text read through all layers but the marks, from what each layer answers.
use Rattle.std.proofs.Common.{◌≡◌, ℕ, ◌-◌, ◌^◌, ◌<◌, List, [], map, Option, ◌⊎◌, sym, ap, ◌∙◌, subst, arith, length}
use Rattle.std.specs.List.{All, AllByRecursion}
use Rattle.tg_base.specs.declared.place.Span.{Span}
use Rattle.tg_base.specs.declared.place.Refusal.{Refusal}
use Rattle.p4_lexer.specs.declared.limits.TheConstants.{MAX_WEIGHT}
use Rattle.p4_lexer.specs.declared.extents.Event.{Event}
use Rattle.p4_lexer.specs.declared.extents.Item.{Item as ItemAt}
use Rattle.p4_lexer.specs.declared.extents.Bare.{Bare as BareAt}
use Rattle.p4_lexer.specs.declared.extents.Entry.{Entry as EntryAt}
use Rattle.p4_lexer.specs.Scope.{outermost}
use Rattle.p4_lexer.specs.Replacement.{Item, AreItems}
use Rattle.p4_lexer.specs.Annotations.{Leaves}
use Rattle.p4_lexer.specs.Weight.{word_of, within}
use Rattle.p4_lexer.specs.Extents.{item_at, bare_at, entry_at, words_of}
use Rattle.p4_lexer.specs.Stack.{word_of_item}
use Rattle.p4_lexer.specs.Events.{IsPieceOf, IsNextPlace}
use Rattle.p4_lexer.specs.Entries.{IsEntryIn, IsWordOf}
use Rattle.p4_lexer.specs.Marking.{IsBareOf, HasRoom}
use Rattle.p4_lexer.specs.Tokens.{IsPartFault, IsPastCount, IsPastWeight}
use Rattle.p4_lexer.specs.Scanning.{IsFirstOf, IsSplit, IsReplaced, IsUnmarked, tokens_in}
use Rattle.p4_lexer.specs.PartFaults.{IsOneOf}
use Rattle.p4_lexer.proofs.FirstFaultLemmas.{first_of_both}
use Rattle.p4_lexer.proofs.ScanningLemmas.{reading_of, tokens_of_entries}
use Rattle.p4_lexer.proofs.ProperLemmas.{IsAt, items_at, items_of_text, words_from_at, bare_are}

-- what the replacement answers, as one fact
pub replaced_of : (text : List ℕ) (events : List Event) (items : List ItemAt) (too_heavy : Option Span)
    → ((all : List Item) × AreItems (words_of text [] events) all × (map (item_at text) items ≡ within MAX_WEIGHT all) × IsNextPlace all (within MAX_WEIGHT all) too_heavy)
    → IsReplaced text events items too_heavy
replaced_of text events items too_heavy (all, are, same, next) = record { all = all; are_items = are; within_limit = same; next = next }

module _ (text : List ℕ) (small : length text < 2 ^ 32 - 1) (events : List Event) (part_fault : Option Refusal) (s : IsSplit text events part_fault)
    (items : List ItemAt) (too_heavy : Option Span) (r : IsReplaced text events items too_heavy)
    (pieces : All (λ i. IsPieceOf events (word_of_item i).piece) items)
    (entries : List EntryAt) (leaves : Leaves (map (item_at text) items) (map (entry_at text) entries))
    (entries_in : All (IsEntryIn text) entries) (words : All (IsWordOf items) entries)
  where
    stand : All (λ i. IsAt (length text) (word_of (item_at text i))) items
    stand = items_of_text text (length text) r.all MAX_WEIGHT items r.within_limit
        (items_at (length text) (words_of text [] events) r.all r.are_items
        (subst (AllByRecursion (λ w. IsAt (length text) w.word)) (sym s.words) (words_from_at (length text) [] outermost text s.parts (omega arith) s.are_parts)))

    pub unmarked : (bare : List BareAt) (count_fault weight_fault limit fault : Option Refusal) → bare ≡ tokens_in entries
        → IsFirstOf (IsPastCount (map (entry_at text) entries)) count_fault
        → ((all : List Item) → IsNextPlace all (within MAX_WEIGHT all) too_heavy → IsFirstOf (IsPastWeight all) weight_fault)
        → IsOneOf count_fault weight_fault limit → IsOneOf part_fault limit fault
        → IsUnmarked text bare fault
    unmarked bare count_fault weight_fault limit fault are count weight both all =
        let proper = bare_are text (length text) (omega (arith, small)) events s.fit items pieces stand entries entries_in words in
        record {
          reading = reading_of text events part_fault items too_heavy entries s r leaves;
          tokens = ap (map (bare_at text)) are ∙ tokens_of_entries text entries;
          are_bare = subst (AllByRecursion (IsBareOf text)) (sym are) proper.0;
          have_room = subst (AllByRecursion HasRoom) (sym are) proper.1;
          first = first_of_both (IsPartFault text s.parts) (λ f. IsPastCount (map (entry_at text) entries) f ⊎ IsPastWeight r.all f) part_fault limit fault s.first
              (first_of_both (IsPastCount (map (entry_at text) entries)) (IsPastWeight r.all) count_fault weight_fault limit count (weight r.all r.next) both) all;
        }
