-- Words have items, and one list of them: the names inside their own replacement only grow, and macros are finitely many.
use Rattle.std.proofs.Common.{◌≡◌, ℕ, Bool, true, false, cond, ◌||◌, zero, suc, ◌<◌, ◌≤◌, List, [], ◌∷◌, ◌++◌, Option, Some, None, append_assoc, refl, sym, ap, subst, arith, ◌⊎◌, inl, inr, ◌∙◌}
use Rattle.std.proofs.lemmas.Slice.Eq.{bytes_eq-Decides}
use Rattle.std.specs.List.{list_any}
use Rattle.std.specs.Str.{bytes_eq}
use Rattle.tg_base.specs.declared.place.Span.{Span}
use Rattle.p4_lexer.specs.declared.piece.Kind.{Kind}
use Rattle.p4_lexer.specs.declared.piece.Kind.TheVariants.{Name}
use Rattle.p4_lexer.specs.Scope.{Macro, macro_of}
use Rattle.p4_lexer.specs.SourceWords.{Placed, SourceWord}
use Rattle.p4_lexer.specs.Replacement.{Item, Word, Replaced, Gives, none, kept, replaced, names_macro, words_at, AreItems}

-- what a word names: its bytes are a macro's name, and not inside
picked : (b : Bool) (o : Option Macro) (m : Macro) → cond b None o ≡ Some m → (b ≡ false) × (o ≡ Some m)
picked true o m h = absurd (cc)
picked false o m h = (refl, h)

named_kind : (macros : List Macro) (inside : List (List ℕ)) (kind : Kind) (bytes : List ℕ) (place : Span) (r : Bool) (m : Macro)
    → names_macro macros inside (record { cut = record { kind = kind; bytes = bytes }; place = place; replacement = r }) ≡ Some m
    → (list_any (bytes_eq bytes) inside ≡ false) × (macro_of macros bytes ≡ Some m)
named_kind macros inside Name bytes place r m h = picked (list_any (bytes_eq bytes) inside) (macro_of macros bytes) m h
named_kind macros inside _ bytes place r m h = absurd (cc)

pub named : (macros : List Macro) (inside : List (List ℕ)) (w : Placed) (m : Macro) → names_macro macros inside w ≡ Some m
    → (list_any (bytes_eq w.cut.bytes) inside ≡ false) × (macro_of macros w.cut.bytes ≡ Some m)
named macros inside w m h = named_kind macros inside w.cut.kind w.cut.bytes w.place w.replacement m h

-- the macro of a name has that name
pub of_name : (macros : List Macro) (q : List ℕ) (m : Macro) → macro_of macros q ≡ Some m → m.name ≡ q
of_name [] q m h = absurd (cc)
of_name (n ∷ macros) q m h = at_test (bytes_eq n.name q) refl (λ g. of_name macros q m g) h where
  at_test : (b : Bool) → bytes_eq n.name q ≡ b → (macro_of macros q ≡ Some m → m.name ≡ q) → cond b (Some n) (macro_of macros q) ≡ Some m → m.name ≡ q
  at_test true e more g = let s : n ≡ m = cc in subst (λ (k : Macro). k.name ≡ q) s ((bytes_eq-Decides n.name q).0 e)
  at_test false e more g = more g

-- how many macros are not inside
outside : List Macro → List (List ℕ) → ℕ
outside [] inside = 0
outside (m ∷ macros) inside = cond (list_any (bytes_eq m.name) inside) (outside macros inside) (suc (outside macros inside))

fewer_or_same : (macros : List Macro) (inside : List (List ℕ)) (n : List ℕ) → outside macros (n ∷ inside) ≤ outside macros inside
unfolding outside
fewer_or_same [] inside n = omega arith
fewer_or_same (m ∷ macros) inside n = at_tests (bytes_eq m.name n) (list_any (bytes_eq m.name) inside) (fewer_or_same macros inside n) where
  at_tests : (a b : Bool) → outside macros (n ∷ inside) ≤ outside macros inside
      → cond (a || b) (outside macros (n ∷ inside)) (suc (outside macros (n ∷ inside))) ≤ cond b (outside macros inside) (suc (outside macros inside))
  at_tests true true h = h
  at_tests true false h = omega arith
  at_tests false true h = h
  at_tests false false h = omega arith

fewer : (macros : List Macro) (inside : List (List ℕ)) (q : List ℕ) (m : Macro) → macro_of macros q ≡ Some m → list_any (bytes_eq q) inside ≡ false
    → outside macros (q ∷ inside) < outside macros inside
unfolding outside
fewer [] inside q m h apart = absurd (cc)
fewer (n ∷ macros) inside q m h apart = at_test (bytes_eq n.name q) refl (λ g. fewer macros inside q m g apart) h where
  here : n.name ≡ q → cond (bytes_eq n.name q || list_any (bytes_eq n.name) inside) (outside macros (q ∷ inside)) (suc (outside macros (q ∷ inside)))
      < cond (list_any (bytes_eq n.name) inside) (outside macros inside) (suc (outside macros inside))
  here same = let e : list_any (bytes_eq n.name) inside ≡ false = subst (λ k. list_any (bytes_eq k) inside ≡ false) (sym same) apart in
      let t : bytes_eq n.name q ≡ true = (bytes_eq-Decides n.name q).1 same in
      rw (e, t) (omega (arith, fewer_or_same macros inside q))

  at_tests : (a b : Bool) → outside macros (q ∷ inside) < outside macros inside → (a ≡ true → ⊥)
      → cond (a || b) (outside macros (q ∷ inside)) (suc (outside macros (q ∷ inside))) < cond b (outside macros inside) (suc (outside macros inside))
  at_tests true b h apart = absurd (apart refl)
  at_tests false true h apart = h
  at_tests false false h apart = omega arith

  at_test : (b : Bool) → bytes_eq n.name q ≡ b → (macro_of macros q ≡ Some m → outside macros (q ∷ inside) < outside macros inside)
      → cond b (Some n) (macro_of macros q) ≡ Some m
      → cond (bytes_eq n.name q || list_any (bytes_eq n.name) inside) (outside macros (q ∷ inside)) (suc (outside macros (q ∷ inside)))
      < cond (list_any (bytes_eq n.name) inside) (outside macros inside) (suc (outside macros inside))
  at_test true e more g = here ((bytes_eq-Decides n.name q).0 e)
  at_test false e more g = at_tests (bytes_eq n.name q) (list_any (bytes_eq n.name) inside) (more g) (λ t. absurd (cc))

-- the items of words
pub HasItems : List Macro → List (List ℕ) → List Placed → Type 0
HasItems macros inside words = (items : List Item) × Gives macros inside words items

with_first : (macros : List Macro) (inside : List (List ℕ)) (w : Placed) (words : List Placed) (o : Option Macro) → names_macro macros inside w ≡ o
    → ((m : Macro) → o ≡ Some m → (ws : List Placed) → (items : List Item) × Gives macros (m.name ∷ inside) ws items)
    → (items : List Item) × Gives macros inside words items → (items : List Item) × Gives macros inside (w ∷ words) items
with_first macros inside w words None e sub (items, g) = (Word w ∷ items, kept inside w words items e g)
with_first macros inside w words (Some m) e sub (items, g) =
    let inner = sub m refl (words_at w.place m.words) in
    (Replaced w ∷ inner.0 ++ items, replaced inside w words m inner.0 items e inner.1 g)

words_total : (macros : List Macro) (inside : List (List ℕ))
    → ((m : Macro) → outside macros (m.name ∷ inside) < outside macros inside → (ws : List Placed) → (items : List Item) × Gives macros (m.name ∷ inside) ws items)
    → (words : List Placed) → (items : List Item) × Gives macros inside words items
words_total macros inside sub [] = ([], none inside)
words_total macros inside sub (w ∷ words) = with_first macros inside w words (names_macro macros inside w) refl down (words_total macros inside sub words) where
  down : (m : Macro) → names_macro macros inside w ≡ Some m → (ws : List Placed) → (items : List Item) × Gives macros (m.name ∷ inside) ws items
  down m e ws =
      let h = named macros inside w m e in
      let same = of_name macros w.cut.bytes m h.1 in
      sub m (subst (λ q. outside macros (q ∷ inside) < outside macros inside) (sym same) (fewer macros inside w.cut.bytes m h.1 h.0)) ws

total_at : (n : ℕ) (macros : List Macro) (inside : List (List ℕ)) → outside macros inside ≤ n → (words : List Placed) → (items : List Item) × Gives macros inside words items
total_at zero macros inside h words = words_total macros inside (λ m less. absurd (omega arith)) words
total_at (suc n) macros inside h words = words_total macros inside (λ m less ws. total_at n macros (m.name ∷ inside) (omega arith) ws) words

-- words inside any replacement have items
pub gives_total : (macros : List Macro) (inside : List (List ℕ)) (words : List Placed) → (items : List Item) × Gives macros inside words items
gives_total macros inside words = total_at (outside macros inside) macros inside (omega arith) words

-- the words of any source have items
pub items_total : (words : List SourceWord) → (items : List Item) × AreItems words items
items_total [] = ([], refl)
items_total (w ∷ words) =
    let own = gives_total w.macros [] (w.word ∷ []) in
    let rest = items_total words in
    (own.0 ++ rest.0, (own.0, rest.0, refl, own.1, rest.1))

-- what words give, by the first of them
pub gives_nothing : (macros : List Macro) (inside : List (List ℕ)) (items : List Item) → Gives macros inside [] items → items ≡ []
gives_nothing macros inside items (none i) = refl

pub record Kept (macros : List Macro) (inside : List (List ℕ)) (w : Placed) (words : List Placed) (items : List Item) : Type 0 where
  pub rest : List Item
  pub stays : names_macro macros inside w ≡ None
  pub are : items ≡ Word w ∷ rest
  pub more : Gives macros inside words rest

pub record Put (macros : List Macro) (inside : List (List ℕ)) (w : Placed) (words : List Placed) (items : List Item) : Type 0 where
  pub m : Macro
  pub inner : List Item
  pub rest : List Item
  pub names : names_macro macros inside w ≡ Some m
  pub are : items ≡ Replaced w ∷ inner ++ rest
  pub inner_gives : Gives macros (m.name ∷ inside) (words_at w.place m.words) inner
  pub more : Gives macros inside words rest

pub gives_first : (macros : List Macro) (inside : List (List ℕ)) (w : Placed) (words : List Placed) (items : List Item) → Gives macros inside (w ∷ words) items
    → Kept macros inside w words items ⊎ Put macros inside w words items
gives_first macros inside w words items (kept i v ws rest e g) = inl (record { rest = rest; stays = e; are = refl; more = g })
gives_first macros inside w words items (replaced i v ws m inner rest e g h) = inr (record { m = m; inner = inner; rest = rest; names = e; are = refl; inner_gives = g; more = h })

-- words give one list of items
abbrev IsOne : List Macro → List (List ℕ) → List Placed → List Item → Type 0
IsOne macros inside words items = (others : List Item) → Gives macros inside words others → others ≡ items

one_kept : (macros : List Macro) (inside : List (List ℕ)) (w : Placed) (words : List Placed) (rest : List Item) → names_macro macros inside w ≡ None → IsOne macros inside words rest
    → (others : List Item) → Kept macros inside w words others ⊎ Put macros inside w words others → others ≡ Word w ∷ rest
one_kept macros inside w words rest e more others (inl k) = k.are ∙ ap (λ r. Word w ∷ r) (more k.rest k.more)
one_kept macros inside w words rest e more others (inr p) = let n = p.names in absurd (cc)

one_put : (macros : List Macro) (inside : List (List ℕ)) (w : Placed) (words : List Placed) (m : Macro) (inner rest : List Item) → names_macro macros inside w ≡ Some m
    → IsOne macros (m.name ∷ inside) (words_at w.place m.words) inner → IsOne macros inside words rest
    → (others : List Item) → Kept macros inside w words others ⊎ Put macros inside w words others → others ≡ Replaced w ∷ inner ++ rest
one_put macros inside w words m inner rest e first more others (inl k) = let n = k.stays in absurd (cc)
one_put macros inside w words m inner rest e first more others (inr p) =
    let n = p.names in
    let same : p.m ≡ m = cc in
    let one = first p.inner (subst (λ (k : Macro). Gives macros (k.name ∷ inside) (words_at w.place k.words) p.inner) same p.inner_gives) in
    p.are ∙ ap (λ r. Replaced w ∷ r ++ p.rest) one ∙ ap (λ r. Replaced w ∷ inner ++ r) (more p.rest p.more)

pub gives_one : (macros : List Macro) (inside : List (List ℕ)) (words : List Placed) (items : List Item) → Gives macros inside words items
    → (others : List Item) → Gives macros inside words others → others ≡ items
gives_one macros _ _ _ (none i) others g = gives_nothing macros i others g
gives_one macros _ _ _ (kept i w ws rest e h) others g = one_kept macros i w ws rest e (λ o k. gives_one macros i ws rest h o k) others (gives_first macros i w ws others g)
gives_one macros _ _ _ (replaced i w ws m inner rest e h1 h2) others g =
    one_put macros i w ws m inner rest e (λ o k. gives_one macros (m.name ∷ i) (words_at w.place m.words) inner h1 o k) (λ o k. gives_one macros i ws rest h2 o k) others (gives_first macros i w ws others g)

-- the words of a source have one list of items
pub items_one : (words : List SourceWord) (items others : List Item) → AreItems words items → AreItems words others → others ≡ items
items_one [] items others h g = g ∙ sym h
items_one (w ∷ words) items others (own, rest, e, h1, h2) (own2, rest2, e2, g1, g2) =
    e2 ∙ ap (λ r. r ++ rest2) (gives_one w.macros [] (w.word ∷ []) own h1 own2 g1) ∙ ap (λ r. own ++ r) (items_one words rest rest2 h2 g2) ∙ sym e

-- a word before words, item by item
pub gives_with : (macros : List Macro) (inside : List (List ℕ)) (w : Placed) (words : List Placed) (first rest : List Item)
    → Gives macros inside (w ∷ []) first → Gives macros inside words rest → Gives macros inside (w ∷ words) (first ++ rest)
gives_with macros inside w words first rest g h = by (gives_first macros inside w [] first g) where
  by : Kept macros inside w [] first ⊎ Put macros inside w [] first → Gives macros inside (w ∷ words) (first ++ rest)
  by (inl k) =
      subst (λ f. Gives macros inside (w ∷ words) (f ++ rest)) (sym (k.are ∙ ap (λ r. Word w ∷ r) (gives_nothing macros inside k.rest k.more)))
      (kept inside w words rest k.stays h)
  by (inr p) =
      subst (λ f. Gives macros inside (w ∷ words) (f ++ rest)) (sym (p.are ∙ ap (λ r. Replaced w ∷ p.inner ++ r) (gives_nothing macros inside p.rest p.more)))
      (let e : (p.inner ++ []) ++ rest ≡ p.inner ++ rest = append_assoc p.inner [] rest in
      subst (λ f. Gives macros inside (w ∷ words) (Replaced w ∷ f)) (sym e) (replaced inside w words p.m p.inner rest p.names p.inner_gives h))
