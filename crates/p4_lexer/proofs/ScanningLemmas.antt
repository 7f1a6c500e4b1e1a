-- Which of several faults decides, and where the limits of a scan are passed.
use Rattle.std.proofs.Common.{◌≡◌, ℕ, suc, zero, ◌+◌, ◌-◌, ◌≤◌, ◌<◌, List, [], ◌∷◌, ◌++◌, length, map, take, get_or, add-one, Option, Some, None, refl, sym, ap, ◌∙◌, subst, arith}
use Rattle.std.specs.Prelude.{slice_get}
use Rattle.std.proofs.Math.Seq.{take-suc}
use Rattle.tg_base.specs.declared.place.Span.{Span}
use Rattle.tg_base.specs.declared.place.Refusal.{Refusal}
use Rattle.tg_base.specs.Deciding.{IsDeciding}
use Rattle.tg_base.specs.declared.place.Code.TheVariants.{Limit}
use Rattle.p4_lexer.specs.declared.limits.TheConstants.{MAX_WORDS, MAX_WEIGHT}
use Rattle.p4_lexer.specs.Replacement.{Item, AreItems}
use Rattle.p4_lexer.specs.Extents.{item_at, bare_at, entry_at}
use Rattle.p4_lexer.specs.declared.extents.Event.{Event}
use Rattle.p4_lexer.specs.declared.extents.Item.{Item as ItemAt}
use Rattle.p4_lexer.specs.declared.extents.Bare.{Bare as BareAt}
use Rattle.p4_lexer.specs.declared.extents.Entry.{Entry as EntryAt}
use Rattle.p4_lexer.specs.Annotations.{Entry, Leaves}
use Rattle.p4_lexer.specs.declared.token.Tokens.{Tokens}
use Rattle.p4_lexer.specs.Places.{place_after}
use Rattle.p4_lexer.specs.Marks.{Become}
use Rattle.p4_lexer.specs.Weight.{word_of, weight, total_weight}
use Rattle.p4_lexer.specs.Tokens.{Reading, IsFault, IsRefused, HasTokens, IsPastCount, IsPastWeight, refusal_at, entry_place, tokens_among}
use Rattle.p4_lexer.specs.declared.extents.Entry.TheVariants.{Token as TokenAt, Name as NameAt}
use Rattle.p4_lexer.specs.Scanning.{IsFirstOf, IsSplit, IsReplaced, IsUnmarked, tokens_in}
use Rattle.p4_lexer.proofs.FirstFaultLemmas.{some_is_not_none, over_itself}

pub some_is : {X : Type 0} (x y : X) → Some x ≡ Some y → x ≡ y
some_is x y same = cc

pub first_is : {X : Type 0} (x y : X) (xs ys : List X) → x ∷ xs ≡ y ∷ ys → x ≡ y
first_is x y xs ys same = cc

pub rest_is : {X : Type 0} (x y : X) (xs ys : List X) → x ∷ xs ≡ y ∷ ys → xs ≡ ys
rest_is x y xs ys same = cc

at_place : {X : Type 0} (first : List X) (x : X) (rest : List X) → slice_get (first ++ x ∷ rest) (length first) ≡ Some x
at_place [] x rest = refl
at_place (y ∷ first) x rest = at_place first x rest

split_at : {X : Type 0} (xs : List X) (n : ℕ) (x : X) → slice_get xs n ≡ Some x → (first : List X) × (rest : List X) × (xs ≡ first ++ x ∷ rest) × (length first ≡ n)
split_at [] n x at = absurd (some_is_not_none x (sym at))
split_at (y ∷ xs) zero x at = ([], xs, ap (λ z. z ∷ xs) (some_is y x at), refl)
split_at (y ∷ xs) (suc n) x at =
    let (first, rest, spelled, len) = split_at xs n x at in
    (y ∷ first, rest, ap (λ zs. y ∷ zs) spelled, ap suc len)

-- no entry is past the count
pub none_past : (entries : List Entry) → slice_get entries MAX_WORDS ≡ None → IsFirstOf (IsPastCount entries) None
none_past entries none fault past = absurd (some_is_not_none past.next (sym (at_place past.first past.next past.rest) ∙ subst (λ es. slice_get es (length past.first) ≡ None) past.spelled (subst (λ n. slice_get entries n ≡ None) (sym past.count) none)))

-- the entry past the count
pub one_past : (entries : List Entry) (e : Entry) → slice_get entries MAX_WORDS ≡ Some e → IsFirstOf (IsPastCount entries) (Some (refusal_at Limit (entry_place e)))
one_past entries e at = record {
  found = let (first, rest, spelled, len) = split_at entries MAX_WORDS e at in
      record { first = first; next = e; rest = rest; spelled = spelled; count = len; is_limit = refl };
  first = λ s past. over_itself (refusal_at Limit (entry_place e)) s (past.is_limit ∙ ap (λ x. refusal_at Limit (entry_place x)) (same_next past));
} where
  same_next : {s : Refusal} (past : IsPastCount entries s) → past.next ≡ e
  same_next past = some_is past.next e (sym (at_place past.first past.next past.rest) ∙ subst (λ es. slice_get es (length past.first) ≡ Some e) past.spelled (subst (λ n. slice_get entries n ≡ Some e) (sym past.count) at))

total_of_all : (first : List Item) (i : Item) (rest : List Item) → total_weight first + weight i ≤ total_weight (first ++ i ∷ rest)
total_of_all [] i rest = omega arith
total_of_all (j ∷ first) i rest = omega (arith, total_of_all first i rest)

pub none_too_heavy : (items : List Item) → total_weight items ≤ MAX_WEIGHT → IsFirstOf (IsPastWeight items) None
none_too_heavy items within fault past = omega (arith, past.past, total_of_all past.first past.next past.rest, subst (λ all. total_weight all ≤ MAX_WEIGHT) past.spelled within)

-- two items with which the weight passes the same limit are the same
same_heavy : (most : ℕ) (f g : List Item) (i j : Item) (r s : List Item) → f ++ i ∷ r ≡ g ++ j ∷ s
    → total_weight f ≤ most → most < total_weight f + weight i → total_weight g ≤ most → most < total_weight g + weight j → i ≡ j
same_heavy most [] [] i j r s same fw fp gw gp = first_is i j r s same
same_heavy most [] (k ∷ g) i j r s same fw fp gw gp = absurd (omega (arith, fp, gw, ap weight (first_is i k r (g ++ j ∷ s) same)))
same_heavy most (k ∷ f) [] i j r s same fw fp gw gp = absurd (omega (arith, fw, gp, ap weight (first_is k j (f ++ i ∷ r) s same)))
same_heavy most (k ∷ f) (l ∷ g) i j r s same fw fp gw gp =
    let as_much : weight k ≡ weight l = ap weight (first_is k l (f ++ i ∷ r) (g ++ j ∷ s) same) in
    same_heavy (most - weight k) f g i j r s (rest_is k l (f ++ i ∷ r) (g ++ j ∷ s) same)
    (omega (arith, fw)) (omega (arith, fp)) (omega (arith, gw, as_much)) (omega (arith, gp, as_much, gw))

-- the item with which the weight passes the limit is the only one
pub one_too_heavy : (items : List Item) (place : Span) → IsPastWeight items (refusal_at Limit place) → IsFirstOf (IsPastWeight items) (Some (refusal_at Limit place))
one_too_heavy items place past = record {
  found = past;
  first = λ s other. over_itself (refusal_at Limit place) s
      (other.is_limit ∙ ap (λ i. refusal_at Limit (word_of i).place) (same_heavy MAX_WEIGHT other.first past.first other.next past.next other.rest past.rest
      (sym other.spelled ∙ past.spelled) other.before other.past past.before past.past) ∙ sym past.is_limit);
}

taken_more : (entries : List EntryAt) (i : ℕ) (e : EntryAt) → i < length entries → take (i + 1) entries ≡ take i entries ++ get_or entries i e ∷ []
taken_more entries i e within = rw add-one (take-suc entries i e within)

-- a reading from what the layers answer
abbrev pub reading_of : (text : List ℕ) (events : List Event) (part_fault : Option Refusal) (items : List ItemAt) (too_heavy : Option Span) (entries : List EntryAt)
    → IsSplit text events part_fault → IsReplaced text events items too_heavy → Leaves (map (item_at text) items) (map (entry_at text) entries) → Reading text
reading_of text events part_fault items too_heavy entries s r leaves = record {
  parts = s.parts;
  items = r.all;
  entries = map (entry_at text) entries;
  are_parts = s.are_parts;
  are_items = subst (λ words. AreItems words r.all) s.words r.are_items;
  leaves = subst (λ within_it. Leaves within_it (map (entry_at text) entries)) r.within_limit leaves;
}

pub tokens_of_entries : (text : List ℕ) (entries : List EntryAt) → map (bare_at text) (tokens_in entries) ≡ tokens_among (map (entry_at text) entries)
tokens_of_entries text [] = refl
tokens_of_entries text (TokenAt b ∷ entries) = ap (λ bare. bare_at text b ∷ bare) (tokens_of_entries text entries)
tokens_of_entries text (NameAt place ∷ entries) = tokens_of_entries text entries

pub tokens_in_append : (entries more : List EntryAt) → tokens_in (entries ++ more) ≡ tokens_in entries ++ tokens_in more
tokens_in_append [] more = refl
tokens_in_append (TokenAt b ∷ entries) more = ap (λ bare. b ∷ bare) (tokens_in_append entries more)
tokens_in_append (NameAt place ∷ entries) more = tokens_in_append entries more

pub tokens_in_more : (entries : List EntryAt) (i : ℕ) (e : EntryAt) → i < length entries → tokens_in (take (i + 1) entries) ≡ tokens_in (take i entries) ++ tokens_in (get_or entries i e ∷ [])
tokens_in_more entries i e within = ap tokens_in (taken_more entries i e within) ∙ tokens_in_append (take i entries) (get_or entries i e ∷ [])

pub tokens_pushed : (entries : List EntryAt) (i : ℕ) (e : EntryAt) (old new : List BareAt) → i < length entries → old ≡ tokens_in (take i entries)
    → new ≡ old ++ tokens_in (get_or entries i e ∷ []) → new ≡ tokens_in (take (i + 1) entries)
tokens_pushed entries i e old new within before pushed =
    pushed ∙ ap (λ bare. bare ++ tokens_in (get_or entries i e ∷ [])) before ∙ sym (tokens_in_more entries i e within)

pub mapped_at : {A B : Type 0} (f : A → B) (xs : List A) (n : ℕ) (x : A) → slice_get xs n ≡ Some x → slice_get (map f xs) n ≡ Some (f x)
mapped_at f [] n x at = absurd (some_is_not_none x (sym at))
mapped_at f (y ∷ xs) zero x at = ap (λ z. Some (f z)) (some_is y x at)
mapped_at f (y ∷ xs) (suc n) x at = mapped_at f xs n x at

-- the fault decides
pub refused : (text : List ℕ) (bare : List BareAt) (fault refusal : Refusal) → IsUnmarked text bare (Some fault) → fault ≡ refusal → IsRefused text refusal
refused text bare fault refusal u same = record { reading = u.reading; decides = subst (IsDeciding (IsFault text u.reading)) same u.first }

-- without a fault the tokens are the marked ones
pub has_tokens : (text : List ℕ) (bare : List BareAt) (tokens : Tokens) → IsUnmarked text bare None → Become [] (map (bare_at text) bare) tokens.tokens
    → tokens.end ≡ place_after text → HasTokens text tokens
has_tokens text bare tokens u become ended = record {
  reading = u.reading;
  faultless = u.first;
  become = subst (λ all. Become [] all tokens.tokens) u.tokens become;
  ended = ended;
}
