-- One step through items where annotations are read: what a word leaves by itself, and what is behind all that it takes.
use Rattle.std.proofs.Common.{◌≡◌, ◌≢◌, ℕ, ◌≤◌, codes, false, List, [], ◌∷◌, ◌++◌, length, Option, Some, None, refl, sym, ap, ◌∙◌, subst, arith, inl, inr}
use Rattle.std.specs.Str.{bytes_eq}
use Rattle.std.proofs.lemmas.Bool.{both_ways}
use Rattle.std.proofs.lemmas.List.{length-append}
use Rattle.std.proofs.lemmas.Slice.Eq.{bytes_eq-Decides}
use Rattle.p4_lexer.specs.declared.annotations.Sort.{Sort}
use Rattle.p4_lexer.specs.declared.annotations.Sort.TheVariants as s
use Rattle.p4_lexer.specs.SourceWords.{Placed}
use Rattle.p4_lexer.specs.Replacement.{Item, Word}
use Rattle.p4_lexer.specs.Annotations as a
use Rattle.p4_lexer.specs.Annotations.{Bare, Plain, Named, DefaultOnly, TableOnly, Entry, Token, Name, IsString, IsDropped, IsGroup, NoGroup, Leaves, names_among}
use Rattle.p4_lexer.specs.Groups.{IsSort}
use Rattle.p4_lexer.proofs.GroupLemmas.{Begun, begun, group_rest, no_group, one_group}
use Rattle.p4_lexer.proofs.SortLemmas.{sort, sort_is, is_sort}
use Rattle.p4_lexer.proofs.StringLemmas.{string_or, one_text}

-- the token that a word of a sort is by itself
abbrev pub token_of : Sort → Placed → Option Bare
token_of s.Plain w = Some (Plain w)
token_of s.AtName w = None
token_of s.DefaultOnly w = Some (DefaultOnly w.place)
token_of s.TableOnly w = Some (TableOnly w.place)
token_of s.Other w = None

-- what a word leaves by itself, and the items behind all that it takes
pub data Lead (w : Placed) (items : List Item) (front : List Entry) (rest : List Item) : Type 0 where
  one : (b : Bare) → token_of (sort w) w ≡ Some b → front ≡ Token b ∷ [] → rest ≡ items → Lead w items front rest
  alone : token_of (sort w) w ≡ None → NoGroup items → front ≡ [] → rest ≡ items → Lead w items front rest
  named : (g : Begun items rest) (text : List ℕ) → sort w ≡ s.AtName → IsString g.inside text → front ≡ Token (Named text w.place) ∷ names_among g.group → Lead w items front rest
  dropped : (g : Begun items rest) → token_of (sort w) w ≡ None → (sort w ≡ s.AtName → (text : List ℕ) → IsString g.inside text → ⊥) → front ≡ names_among g.group → Lead w items front rest

no_token : (w : Placed) (b : Bare) → token_of (sort w) w ≡ Some b → token_of (sort w) w ≡ None → ⊥
no_token w b some none = let h : Some b ≡ None = sym some ∙ none in cc

name_is_no_token : (w : Placed) → sort w ≡ s.AtName → token_of (sort w) w ≡ None
name_is_no_token w is = ap (λ s. token_of s w) is

pub record Same (f g : List Entry) (r t : List Item) : Type 0 where
  pub fronts : f ≡ g
  pub rests : r ≡ t

no_begun : (items rest : List Item) → Begun items rest → NoGroup items → ⊥
no_begun items rest b nothing = nothing b.group rest b.inside b.spelled b.is_group

-- the step is determined
pub lead_same : (w : Placed) (items : List Item) (f g : List Entry) (r t : List Item) → Lead w items f r → Lead w items g t → Same f g r t
lead_same w items f g r t (one b is e h) (one c is2 e2 h2) =
    let same : Some b ≡ Some c = sym is ∙ is2 in
    let bares : b ≡ c = cc in
    record { fronts = e ∙ ap (λ x. Token x ∷ []) bares ∙ sym e2; rests = h ∙ sym h2 }
lead_same w items f g r t (one b is e h) (alone none _ _ _) = absurd (no_token w b is none)
lead_same w items f g r t (one b is e h) (named _ _ name _ _) = absurd (no_token w b is (name_is_no_token w name))
lead_same w items f g r t (one b is e h) (dropped _ none _ _) = absurd (no_token w b is none)
lead_same w items f g r t (alone none _ _ _) (one b is _ _) = absurd (no_token w b is none)
lead_same w items f g r t (alone none nothing e h) (alone _ _ e2 h2) = record { fronts = e ∙ sym e2; rests = h ∙ sym h2 }
lead_same w items f g r t (alone _ nothing _ _) (named b _ _ _ _) = absurd (no_begun items t b nothing)
lead_same w items f g r t (alone _ nothing _ _) (dropped b _ _ _) = absurd (no_begun items t b nothing)
lead_same w items f g r t (named _ _ name _ _) (one b is _ _) = absurd (no_token w b is (name_is_no_token w name))
lead_same w items f g r t (named b _ _ _ _) (alone _ nothing _ _) = absurd (no_begun items r b nothing)
lead_same w items f g r t (named b x name is e) (named c y name2 is2 e2) =
    let h = one_group b.group c.group r t b.inside c.inside b.is_group c.is_group (sym b.spelled ∙ c.spelled) in
    let texts : x ≡ y = one_text c.inside x y (subst (λ ws. IsString ws x) h.insides is) is2 in
    record { fronts = e ∙ ap (λ z. Token (Named z w.place) ∷ names_among b.group) texts ∙ ap (λ is. Token (Named y w.place) ∷ names_among is) h.groups ∙ sym e2; rests = h.rests }
lead_same w items f g r t (named b x name is e) (dropped c none not_string e2) =
    let h = one_group b.group c.group r t b.inside c.inside b.is_group c.is_group (sym b.spelled ∙ c.spelled) in
    absurd (not_string name x (subst (λ ws. IsString ws x) h.insides is))
lead_same w items f g r t (dropped _ none _ _) (one b is _ _) = absurd (no_token w b is none)
lead_same w items f g r t (dropped b _ _ _) (alone _ nothing _ _) = absurd (no_begun items r b nothing)
lead_same w items f g r t (dropped c none not_string e2) (named b x name is e) =
    let h = one_group b.group c.group t r b.inside c.inside b.is_group c.is_group (sym b.spelled ∙ c.spelled) in
    absurd (not_string name x (subst (λ ws. IsString ws x) h.insides is))
lead_same w items f g r t (dropped b _ _ e) (dropped c _ _ e2) =
    let h = one_group b.group c.group r t b.inside c.inside b.is_group c.is_group (sym b.spelled ∙ c.spelled) in
    record { fronts = e ∙ ap names_among h.groups ∙ sym e2; rests = h.rests }

-- and is there
lead_of_none : (w : Placed) (items : List Item) → token_of (sort w) w ≡ None → (front : List Entry) × (rest : List Item) × Lead w items front rest
lead_of_none w items none = by (group_rest items) refl where
  by : (o : Option (List Item)) → group_rest items ≡ o → (front : List Entry) × (rest : List Item) × Lead w items front rest
  by None e = ([], items, alone none (no_group items e) refl refl)
  by (Some rest) e =
      let g = begun items rest e in
      elim (string_or g.inside) [
        | inl t ↦ by_name (sort w) refl t
        | inr not_string ↦ (names_among g.group, rest, dropped g none (λ name. not_string) refl)
      ] where
        by_name : (k : Sort) → sort w ≡ k → (text : List ℕ) × IsString (begun items rest e).inside text → (front : List Entry) × (rest : List Item) × Lead w items front rest
        by_name s.AtName is t = (Token (Named t.0 w.place) ∷ names_among (begun items rest e).group, rest, named (begun items rest e) t.0 is t.1 refl)
        by_name _ is t = (names_among (begun items rest e).group, rest, dropped (begun items rest e) none (λ name. absurd (let h = sym is ∙ name in cc)) refl)

pub lead_is : (w : Placed) (items : List Item) → (front : List Entry) × (rest : List Item) × Lead w items front rest
lead_is w items = by (token_of (sort w) w) refl where
  by : (o : Option Bare) → token_of (sort w) w ≡ o → (front : List Entry) × (rest : List Item) × Lead w items front rest
  by None e = lead_of_none w items e
  by (Some b) e = (Token b ∷ [], items, one b e refl refl)

pub lead_shorter : (w : Placed) (items : List Item) (front : List Entry) (rest : List Item) → Lead w items front rest → length rest ≤ length items
lead_shorter w items front rest (one b is e h) = omega (arith, ap length h)
lead_shorter w items front rest (alone none nothing e h) = omega (arith, ap length h)
lead_shorter w items front rest (named g text name is e) = omega (arith, ap length g.spelled, length-append g.group rest)
lead_shorter w items front rest (dropped g none not_string e) = omega (arith, ap length g.spelled, length-append g.group rest)

differ : (a b : List ℕ) → bytes_eq a b ≡ false → a ≢ b
differ a b fails e = both_ways (bytes_eq a b) fails ((bytes_eq-Decides a b).1 e)

-- a word that is no token by itself is an annotation other than the two that are
dropped_of : (k : Sort) (w : Placed) → IsSort k w → token_of k w ≡ None → IsDropped w
dropped_of s.Plain w is none = absurd cc
dropped_of s.AtName w is none = (
  ap (λ c. c.kind) is,
  λ e. differ (codes "@name") (codes "@defaultonly") refl (sym (ap (λ c. c.bytes) is) ∙ e),
  λ e. differ (codes "@name") (codes "@tableonly") refl (sym (ap (λ c. c.bytes) is) ∙ e),
)
dropped_of s.DefaultOnly w is none = absurd cc
dropped_of s.TableOnly w is none = absurd cc
dropped_of s.Other w is none = is.0

token_leaves : (k : Sort) (w : Placed) (b : Bare) (items : List Item) (more : List Entry) → IsSort k w → token_of k w ≡ Some b → Leaves items more → Leaves (Word w ∷ items) (Token b ∷ more)
token_leaves s.Plain w b items more is e l = let same : Plain w ≡ b = cc in subst (λ x. Leaves (Word w ∷ items) (Token x ∷ more)) same (a.plain w items more is l)
token_leaves s.AtName w b items more is e l = absurd cc
token_leaves s.DefaultOnly w b items more is e l = let same : DefaultOnly w.place ≡ b = cc in subst (λ x. Leaves (Word w ∷ items) (Token x ∷ more)) same (a.default_only w items more is l)
token_leaves s.TableOnly w b items more is e l = let same : TableOnly w.place ≡ b = cc in subst (λ x. Leaves (Word w ∷ items) (Token x ∷ more)) same (a.table_only w items more is l)
token_leaves s.Other w b items more is e l = absurd cc

leaves_by : (a b : List Item) (e f : List Entry) → a ≡ b → e ≡ f → Leaves b f → Leaves a e
leaves_by a b e f items entries l = subst (λ xs. Leaves xs e) (sym items) (subst (Leaves b) (sym entries) l)

-- whatever the rest leaves, the word and the rest leave that behind the step
pub lead_into : (w : Placed) (items : List Item) (front : List Entry) (rest : List Item) (more : List Entry) → Lead w items front rest → Leaves rest more → Leaves (Word w ∷ items) (front ++ more)
lead_into w items front rest more (one b is e h) l =
    leaves_by (Word w ∷ items) (Word w ∷ rest) (front ++ more) (Token b ∷ more) (ap (λ is. Word w ∷ is) (sym h)) (ap (λ f. f ++ more) e) (token_leaves (sort w) w b rest more (sort_is w) is l)
lead_into w items front rest more (alone none nothing e h) l =
    leaves_by (Word w ∷ items) (Word w ∷ rest) (front ++ more) more (ap (λ is. Word w ∷ is) (sym h)) (ap (λ f. f ++ more) e)
    (a.dropped_alone w rest more (dropped_of (sort w) w (sort_is w) none) (subst NoGroup (sym h) nothing) l)
lead_into w items front rest more (named g text name is e) l =
    leaves_by (Word w ∷ items) (Word w ∷ g.group ++ rest) (front ++ more) (Token (Named text w.place) ∷ names_among g.group ++ more) (ap (λ is. Word w ∷ is) g.spelled) (ap (λ f. f ++ more) e)
    (a.named w g.group rest g.inside text more (subst (λ k. IsSort k w) name (sort_is w)) g.is_group is l)
lead_into w items front rest more (dropped g none not_string e) l =
    leaves_by (Word w ∷ items) (Word w ∷ g.group ++ rest) (front ++ more) (names_among g.group ++ more) (ap (λ is. Word w ∷ is) g.spelled) (ap (λ f. f ++ more) e)
    (a.dropped w g.group rest g.inside more (dropped_of (sort w) w (sort_is w) none) (λ at_name. not_string (is_sort s.AtName w at_name)) g.is_group l)
