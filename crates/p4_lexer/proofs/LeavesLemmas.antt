-- What items leave is there and determined.
use Rattle.std.proofs.Common.{◌≡◌, ℕ, zero, suc, ◌≤◌, List, [], ◌∷◌, ◌++◌, length, None, refl, sym, ap, ◌∙◌, subst, arith}
use Rattle.p4_lexer.specs.declared.annotations.Sort.{Sort}
use Rattle.p4_lexer.specs.declared.annotations.Sort.TheVariants as s
use Rattle.p4_lexer.specs.SourceWords.{Placed}
use Rattle.p4_lexer.specs.Replacement.{Item, Word, Replaced}
use Rattle.p4_lexer.specs.Annotations as a
use Rattle.p4_lexer.specs.Annotations.{Bare, Plain, Named, DefaultOnly, TableOnly, Entry, Token, Name, IsString, IsDropped, IsGroup, IsAnnotationOf, NoGroup, Leaves, names_among}
use Rattle.p4_lexer.specs.Groups.{IsSort}
use Rattle.p4_lexer.proofs.GroupLemmas.{Begun}
use Rattle.p4_lexer.proofs.SortLemmas.{sort, sort_is, is_sort}
use Rattle.p4_lexer.proofs.LeadLemmas.{Lead, one, alone, named, dropped, token_of, lead_same, lead_is, lead_into, lead_shorter}

-- a step and what the rest leaves
record Led (w : Placed) (items : List Item) (entries : List Entry) : Type 0 where
  front : List Entry
  rest : List Item
  more : List Entry
  lead : Lead w items front rest
  leaves : Leaves rest more
  spelled : entries ≡ front ++ more

-- the first step of items
abbrev First : List Item → List Entry → Type 0
First [] entries = entries ≡ []
First (Replaced name ∷ items) entries = (more : List Entry) × Leaves items more × (entries ≡ Name name.place ∷ more)
First (Word w ∷ items) entries = Led w items entries

token_is : (k : Sort) (w : Placed) → IsSort k w → token_of (sort w) w ≡ token_of k w
token_is k w is = ap (λ s. token_of s w) (is_sort k w is)

abbrev group_is : (group rest : List Item) (inside : List Placed) → IsGroup group inside → Begun (group ++ rest) rest
group_is group rest inside g = record { group = group; inside = inside; spelled = refl; is_group = g }

none_of : (w : Placed) → IsDropped w → token_of (sort w) w ≡ None
none_of w is = by (sort w) refl where
  by : (k : Sort) → sort w ≡ k → token_of (sort w) w ≡ None
  by s.Plain e = absurd (subst (λ k. IsSort k w) e (sort_is w) is.0)
  by s.AtName e = ap (λ k. token_of k w) e
  by s.DefaultOnly e = absurd (is.1 (ap (λ c. c.bytes) (subst (λ k. IsSort k w) e (sort_is w))))
  by s.TableOnly e = absurd (is.2 (ap (λ c. c.bytes) (subst (λ k. IsSort k w) e (sort_is w))))
  by s.Other e = ap (λ k. token_of k w) e

first : (items : List Item) (entries : List Entry) → Leaves items entries → First items entries
first items entries a.none = refl
first items entries (a.name w rest more l) = (more, l, refl)
first items entries (a.plain w rest more differs l) = record { front = Token (Plain w) ∷ []; rest = rest; more = more; lead = one (Plain w) (token_is s.Plain w differs) refl refl; leaves = l; spelled = refl }
first items entries (a.named w group rest inside text more is g string l) = record {
  front = Token (Named text w.place) ∷ names_among group;
  rest = rest;
  more = more;
  lead = named (group_is group rest inside g) text (is_sort s.AtName w is) string refl;
  leaves = l;
  spelled = refl;
}
first items entries (a.default_only w rest more is l) =
    record { front = Token (DefaultOnly w.place) ∷ []; rest = rest; more = more; lead = one (DefaultOnly w.place) (token_is s.DefaultOnly w is) refl refl; leaves = l; spelled = refl }
first items entries (a.table_only w rest more is l) =
    record { front = Token (TableOnly w.place) ∷ []; rest = rest; more = more; lead = one (TableOnly w.place) (token_is s.TableOnly w is) refl refl; leaves = l; spelled = refl }
first items entries (a.dropped w group rest inside more is not_string g l) = record {
  front = names_among group;
  rest = rest;
  more = more;
  lead = dropped (group_is group rest inside g) (none_of w is) (λ name. not_string (subst (λ k. IsSort k w) name (sort_is w))) refl;
  leaves = l;
  spelled = refl;
}
first items entries (a.dropped_alone w rest more is nothing l) = record { front = []; rest = rest; more = more; lead = alone (none_of w is) nothing refl refl; leaves = l; spelled = refl }

only_within : (n : ℕ) (items : List Item) (e f : List Entry) → length items ≤ n → Leaves items e → Leaves items f → e ≡ f
only_within n [] e f within l m = first [] e l ∙ sym (first [] f m)
only_within zero (i ∷ items) e f within l m = absurd (omega arith)
only_within (suc n) (Replaced name ∷ items) e f within l m =
    let x = first (Replaced name ∷ items) e l in
    let y = first (Replaced name ∷ items) f m in
    x.2 ∙ ap (λ es. Name name.place ∷ es) (only_within n items x.0 y.0 (omega arith) x.1 y.1) ∙ sym y.2
only_within (suc n) (Word w ∷ items) e f within l m =
    let x = first (Word w ∷ items) e l in
    let y = first (Word w ∷ items) f m in
    let h = lead_same w items x.front y.front x.rest y.rest x.lead y.lead in
    let below : length y.rest ≤ n = omega (arith, lead_shorter w items y.front y.rest y.lead) in
    x.spelled ∙ ap (λ es. es ++ x.more) h.fronts ∙ ap (λ es. y.front ++ es) (only_within n y.rest x.more y.more below (subst (λ is. Leaves is x.more) h.rests x.leaves) y.leaves) ∙ sym y.spelled

-- items leave one list of entries
pub leaves_only : (items : List Item) (e f : List Entry) → Leaves items e → Leaves items f → e ≡ f
leaves_only items e f l m = only_within (length items) items e f (omega arith) l m

some_within : (n : ℕ) (items : List Item) → length items ≤ n → (entries : List Entry) × Leaves items entries
some_within n [] within = ([], a.none)
some_within zero (i ∷ items) within = absurd (omega arith)
some_within (suc n) (Replaced name ∷ items) within = let x = some_within n items (omega arith) in (Name name.place ∷ x.0, a.name name items x.0 x.1)
some_within (suc n) (Word w ∷ items) within =
    let h = lead_is w items in
    let x = some_within n h.1 (omega (arith, lead_shorter w items h.0 h.1 h.2)) in
    (h.0 ++ x.0, lead_into w items h.0 h.1 x.0 h.2 x.1)

-- and there is one
pub leaves_some : (items : List Item) → (entries : List Entry) × Leaves items entries
leaves_some items = some_within (length items) items (omega arith)
