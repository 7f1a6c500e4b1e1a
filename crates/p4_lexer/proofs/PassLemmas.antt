-- The items from the left to the right.
use Rattle.std.proofs.Common.{◌≡◌, ℕ, ◌+◌, ◌-◌, ◌<◌, ◌≤◌, List, [], ◌∷◌, ◌++◌, length, take, drop, map, get_or, append_assoc, length-drop, length-take, take-append-drop, drop-drop, inl, inr, refl, sym, ap, ◌∙◌, subst, arith, Contains, Option, None, Some}
use Rattle.std.specs.List.{All}
use Rattle.std.proofs.lemmas.List.{append-nil, length-map, map-append, take-map, drop-map}
use Rattle.std.proofs.lemmas.List.Elements.{All-nil, All-cons, All-append, All-contains, All-contains_itself}
use Rattle.std.specs.Option.{unwrap_or}
use Rattle.std.proofs.lemmas.Bool.{cases_lt}
use Rattle.std.proofs.Math.ListN.{drop_of_length-le, get_or-eq_default}
use Rattle.p4_lexer.specs.declared.extents.Bare.TheVariants.{Plain as PlainAt, Named as NamedAt, DefaultOnly as DefaultOnlyAt, TableOnly as TableOnlyAt}
use Rattle.p4_lexer.specs.declared.extents.Entry.TheVariants.{Token as TokenAt, Name as NameAt}
use Rattle.p4_lexer.specs.SourceWords.{Placed}
use Rattle.p4_lexer.specs.Annotations as a
use Rattle.p4_lexer.specs.declared.extents.WordAt.{WordAt}
use Rattle.p4_lexer.specs.declared.extents.Item.{Item as ItemAt}
use Rattle.p4_lexer.specs.declared.extents.Item.TheVariants.{Word as WordItem, Replaced as ReplacedItem}
use Rattle.p4_lexer.specs.declared.extents.Entry.{Entry as EntryAt}
use Rattle.p4_lexer.specs.Replacement.{Item, Word}
use Rattle.p4_lexer.specs.Annotations.{Entry, Name, Leaves, IsGroup, NoGroup}
use Rattle.p4_lexer.specs.Extents.{placed_at, item_at, entry_at}
use Rattle.p4_lexer.specs.Groups.{EndsAt, AreEnds}
use Rattle.p4_lexer.specs.Entries.{IsEntryIn, IsWordOf, BeginWith, Adds}
use Rattle.p4_lexer.proofs.GroupLemmas.{group_rest, no_group}
use Rattle.p4_lexer.proofs.GroupEndLemmas.{first_item}

-- the items up to an index have left these entries, whatever those behind leave
pub record Passed (text : List ℕ) (items : List ItemAt) (at : ℕ) (entries : List EntryAt) : Type 0 where
  pub within : at ≤ length items
  pub leaves : (rest : List Entry) → Leaves (drop at (map (item_at text) items)) rest → Leaves (map (item_at text) items) (map (entry_at text) entries ++ rest)
  pub in_text : All (IsEntryIn text) entries
  pub words : All (IsWordOf items) entries

all_weaker : {X : Type 0} (P Q : X → Type 0) (xs : List X) → ((x : X) → P x → Q x) → All P xs → All Q xs
all_weaker P Q xs f all k d below = f (get_or xs k d) (all k d below)

pub passed_none : (text : List ℕ) (items : List ItemAt) (entries : List EntryAt) → entries ≡ [] → Passed text items 0 entries
passed_none text items entries e = record {
  within = omega arith;
  leaves = λ rest l. rw e l;
  in_text = rw e (All-nil (IsEntryIn text));
  words = rw e (All-nil (IsWordOf items));
}

passed_on : (text : List ℕ) (items : List ItemAt) (at next : ℕ) (entries more added : List EntryAt) → added ≡ entries ++ more → next ≤ length items
    → ((rest : List Entry) → Leaves (drop next (map (item_at text) items)) rest → Leaves (drop at (map (item_at text) items)) (map (entry_at text) more ++ rest))
    → All (IsEntryIn text) more → All (IsWordOf items) more → Passed text items at entries → Passed text items next added
passed_on text items at next entries more added e within step in_text words p = record {
  within = within;
  leaves = λ rest l.
      let mapped : map (entry_at text) added ≡ map (entry_at text) entries ++ map (entry_at text) more = ap (map (entry_at text)) e ∙ map-append (entry_at text) entries more in
      let whole : map (entry_at text) added ++ rest ≡ map (entry_at text) entries ++ (map (entry_at text) more ++ rest) = ap (λ es. es ++ rest) mapped ∙ append_assoc (map (entry_at text) entries) (map (entry_at text) more) rest in
      subst (Leaves (map (item_at text) items)) (sym whole) (p.leaves (map (entry_at text) more ++ rest) (step rest l));
  in_text = subst (All (IsEntryIn text)) (sym e) (All-append (IsEntryIn text) entries more p.in_text in_text);
  words = subst (All (IsWordOf items)) (sym e) (All-append (IsWordOf items) entries more p.words words);
}

first_is : (text : List ℕ) (items : List ItemAt) (at : ℕ) (d item : ItemAt) → at < length items → get_or items at d ≡ item → drop at (map (item_at text) items) ≡ item_at text item ∷ drop (at + 1) (map (item_at text) items)
first_is text items at d item below is = first_item text items at d below ∙ ap (λ i. item_at text i ∷ drop (at + 1) (map (item_at text) items)) is

-- a name is passed
pub passed_name : (text : List ℕ) (items : List ItemAt) (at : ℕ) (d : ItemAt) (name : WordAt) (entries added : List EntryAt) → at < length items → get_or items at d ≡ ReplacedItem name → added ≡ entries ++ NameAt name.place ∷ []
    → Passed text items at entries → Passed text items (at + 1) added
passed_name text items at d name entries added below is e p =
    passed_on text items at (at + 1) entries (NameAt name.place ∷ []) added e (omega arith)
    (λ rest l. subst (λ is. Leaves is (Name name.place ∷ rest)) (sym (first_is text items at d (ReplacedItem name) below is)) (a.name (placed_at text name) (drop (at + 1) (map (item_at text) items)) rest l))
    (All-cons (IsEntryIn text) (NameAt name.place) [] tt (All-nil (IsEntryIn text)))
    (All-cons (IsWordOf items) (NameAt name.place) [] tt (All-nil (IsWordOf items))) p

no_items : (inside : List Placed) → IsGroup [] inside → ⊥
no_items inside g = empty g.front g.last where
  empty : (front : List Item) → [] ≡ front ++ Word g.close ∷ [] → ⊥
  empty [] e = cc
  empty (i ∷ front) e = cc

begin_with : (text : List ℕ) (all rest : List Item) (group : List ItemAt) (inside : List Placed) → all ≡ map (item_at text) group ++ rest → IsGroup (map (item_at text) group) inside → BeginWith text all group
begin_with text all rest [] inside e g = absurd (no_items inside g)
begin_with text all rest (i ∷ group) inside e g = (inside, rest, e, g)

-- the slice up to the end of a group
slice_is : (text : List ℕ) (items : List ItemAt) (n at : ℕ) → map (item_at text) (take n (drop at items)) ≡ take n (drop at (map (item_at text) items))
slice_is text items n at = sym (take-map (item_at text) n (drop at items)) ∙ ap (take n) (sym (drop-map (item_at text) at items))

begins_at : (text : List ℕ) (items : List ItemAt) (at : ℕ) (end : Option ℕ) → EndsAt (map (item_at text) items) at end → BeginWith text (drop at (map (item_at text) items)) (take (unwrap_or end at - at) (drop at items))
begins_at text items at None nothing =
    let none : take (at - at) (drop at items) ≡ [] = (let zero_is : at - at ≡ 0 = omega arith in rw zero_is refl) in
    subst (BeginWith text (drop at (map (item_at text) items))) (sym none) nothing
begins_at text items at (Some end) (from, within, inside, g) =
    let n : ℕ = end - at in
    begin_with text (drop at (map (item_at text) items)) (drop n (drop at (map (item_at text) items))) (take n (drop at items)) inside
    (sym (take-append-drop n (drop at (map (item_at text) items))) ∙ ap (λ is. is ++ drop n (drop at (map (item_at text) items))) (sym (slice_is text items n at)))
    (subst (λ is. IsGroup is inside) (sym (slice_is text items n at)) g)

ends_behind : (all : List Item) (ends : List (Option ℕ)) (at : ℕ) → AreEnds all ends → EndsAt all at (get_or ends at None)
ends_behind all ends at are = elim (cases_lt at (length all)) [
  | inl below ↦ are.1 at below
  | inr past ↦
      let none : get_or ends at None ≡ None = get_or-eq_default ends None (let h : length ends ≤ at = omega (arith, are.0) in h) in
      subst (EndsAt all at) (sym none) (no_group (drop at all) (ap group_rest (drop_of_length-le all past)))
]

contains_one : (items : List ItemAt) (w : WordAt) → Contains items (WordItem w) → (e : EntryAt) → IsWordOf (WordItem w ∷ []) e → IsWordOf items e
contains_one items w has (TokenAt (PlainAt v)) is = (All-contains (Contains items) (WordItem w ∷ []) (WordItem v) (All-cons (Contains items) (WordItem w) [] has (All-nil (Contains items))) is.0, is.1)
contains_one items w has (TokenAt (NamedAt e place)) is = tt
contains_one items w has (TokenAt (DefaultOnlyAt place)) is = tt
contains_one items w has (TokenAt (TableOnlyAt place)) is = tt
contains_one items w has (NameAt place) is = tt

-- a word is passed, with what it takes
pub passed_word : (text : List ℕ) (items : List ItemAt) (at : ℕ) (d : ItemAt) (w : WordAt) (ends : List (Option ℕ)) (end taken : ℕ) (entries added : List EntryAt) → at < length items → get_or items at d ≡ WordItem w
    → AreEnds (map (item_at text) items) ends → end ≡ unwrap_or (get_or ends (at + 1) None) (at + 1) → Adds text w (take (end - (at + 1)) (drop (at + 1) items)) taken entries added
    → Passed text items at entries → Passed text items (at + (1 + taken)) added
passed_word text items at d w ends end taken entries added below is are e adds p =
    let all : List Item = map (item_at text) items in
    let begins : BeginWith text (drop (at + 1) all) (take (end - (at + 1)) (drop (at + 1) items)) =
    subst (λ n. BeginWith text (drop (at + 1) all) (take (n - (at + 1)) (drop (at + 1) items))) (sym e) (begins_at text items (at + 1) (get_or ends (at + 1) None) (ends_behind all ends (at + 1) are)) in
    let has : Contains items (WordItem w) = subst (Contains items) is (All-contains_itself items at d below) in
    let next : at + 1 + taken ≡ at + (1 + taken) = omega arith in
    passed_on text items at (at + (1 + taken)) entries adds.more added adds.spelled (omega (arith, adds.within, length-take (end - (at + 1)) (drop (at + 1) items), length-drop (at + 1) items))
    (λ rest l. subst (λ is. Leaves is (map (entry_at text) adds.more ++ rest)) (sym (first_is text items at d (WordItem w) below is))
    (adds.leaves (drop (at + 1) all) begins rest (subst (λ is. Leaves is rest) (sym (drop-drop taken (at + 1) all ∙ ap (λ n. drop n all) next)) l)))
    adds.in_text (all_weaker (IsWordOf (WordItem w ∷ [])) (IsWordOf items) adds.more (contains_one items w has) adds.words) p

-- all are passed
pub passed_all : (text : List ℕ) (items : List ItemAt) (at : ℕ) (entries : List EntryAt) → length items ≤ at → Passed text items at entries → Leaves (map (item_at text) items) (map (entry_at text) entries)
passed_all text items at entries past p =
    let none : drop at (map (item_at text) items) ≡ [] = drop_of_length-le (map (item_at text) items) (let h : length (map (item_at text) items) ≤ at = omega (arith, length-map items (item_at text)) in h) in
    subst (Leaves (map (item_at text) items)) (append-nil (map (entry_at text) entries)) (p.leaves [] (subst (λ is. Leaves is []) (sym none) a.none))
