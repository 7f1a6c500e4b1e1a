-- The name that a token makes a type, and whether a name is one.
use Rattle.std.proofs.Common.{◌≡◌, ◌↔◌, ℕ, Bool, true, false, ◌||◌, Decides, List, [], ◌∷◌, ◌++◌, Contains, Option, None, Some, refl, sym, ap, ◌∙◌, subst, inl, inr, ◌⊎◌}
use Rattle.std.specs.List.{list_any}
use Rattle.std.specs.Str.{bytes_eq}
use Rattle.std.proofs.lemmas.Bool.{false≢true}
use Rattle.std.proofs.lemmas.Bool.Decides.{Decides-or, Decides-like, Decides-at, Decides-by_or}
use Rattle.std.proofs.lemmas.List.Elements.{Decides-contains}
use Rattle.std.proofs.lemmas.Slice.Eq.{bytes_eq-Decides}
use Rattle.p4_lexer.specs.declared.token.Token.{Token}
use Rattle.p4_lexer.specs.declared.token.Word.{Word}
use Rattle.p4_lexer.specs.declared.token.Word.TheVariants.{Sign, Id, TypeName, Base}
use Rattle.p4_lexer.specs.declared.token.Sign.{Sign as SignName}
use Rattle.p4_lexer.specs.declared.token.Sign.TheVariants.{Semicolon}
use Rattle.p4_lexer.specs.declared.behind.Last.{Last}
use Rattle.p4_lexer.specs.declared.behind.Last.TheVariants.{Other as OtherLast, Dot, TakesArguments, Declares, Enum, EnumBit, Width as WidthLast}
use Rattle.p4_lexer.specs.Spellings.{first_types}
use Rattle.p4_lexer.specs.TypeNames.{IsNameOf, IsTypeBehind}
use Rattle.p4_lexer.specs.declared.behind.Definition.{Definition}
use Rattle.p4_lexer.specs.declared.behind.Definition.TheVariants.{Outside, Inside, Named}
use Rattle.p4_lexer.specs.Behind.{Behind, behind, names_next, named_type, ended, sign_type, new_type, is_name, is_first_type}
use Rattle.p4_lexer.proofs.SnocLemmas.{snoc_ind}
use Rattle.p4_lexer.proofs.LastLemmas.{EndsDeclaring, declares_next, declares_decides}
use Rattle.p4_lexer.proofs.WidthLemmas.{EndsWidth, is_width, width_decides}
use Rattle.p4_lexer.proofs.DefinitionLemmas.{LastDefined, Tells, tells}
use Rattle.p4_lexer.proofs.TypeLemmas.{IsNew, type_step, type_none}

names_parts : (last : Last) → names_next last ≡ (declares_next last || is_width last)
names_parts OtherLast = refl
names_parts Dot = refl
names_parts TakesArguments = refl
names_parts Declares = refl
names_parts Enum = refl
names_parts EnumBit = refl
names_parts WidthLast = refl

pub names_decides : (before : List Token) → Decides (names_next (behind before).last) (EndsDeclaring before ⊎ EndsWidth before)
names_decides before =
    let last = (behind before).last in
    Decides-at (names_next last) (declares_next last || is_width last) (names_parts last) (Decides-or (declares_next last) (is_width last) (declares_decides before) (width_decides before))

named_back : (b : Bool) (n name : List ℕ) → named_type b n ≡ Some name → (b ≡ true) × (n ≡ name)
named_back true n name e = let same : n ≡ name = cc in (refl, same)
named_back false n name e = absurd cc

ended_to : (d : Definition) (before : List Token) (name : List ℕ) → Tells d before → LastDefined before name → ended d ≡ Some name
ended_to Outside before name h l = absurd (h.1 name l)
ended_to Inside before name h l = absurd (h.1 name l)
ended_to (Named n) before name h l = ap (λ m. Some m) (sym (h.2 name l))

ended_back : (d : Definition) (before : List Token) (name : List ℕ) → Tells d before → ended d ≡ Some name → LastDefined before name
ended_back (Named n) before name h e = let same : n ≡ name = cc in subst (LastDefined before) same h.1
ended_back Outside before name h e = absurd cc
ended_back Inside before name h e = absurd cc

sign_back : (before : List Token) (t : Token) (name : List ℕ) (s : SignName) → t.word ≡ Sign s → sign_type (behind before).definition s ≡ Some name → IsNew before t name
sign_back before t name Semicolon e h = inr (e, ended_back (behind before).definition before name (tells before) h)
sign_back before t name _ e h = absurd cc

named_new : (before : List Token) (t : Token) (n name : List ℕ) → IsNameOf n t.word → named_type (names_next (behind before).last) n ≡ Some name → IsNew before t name
named_new before t n name named h =
    let both = named_back (names_next (behind before).last) n name h in
    inl (subst (λ m. IsNameOf m t.word) both.1 named, (names_decides before).0 both.0)

word_back : (before : List Token) (t : Token) (name : List ℕ) (w : Word) → t.word ≡ w → new_type (behind before) w ≡ Some name → IsNew before t name
word_back before t name (Id n) e h = named_new before t n name (inl e) h
word_back before t name (TypeName n) e h = named_new before t n name (inr (inl e)) h
word_back before t name (Base n) e h = named_new before t n name (inr (inr e)) h
word_back before t name (Sign s) e h = sign_back before t name s e h
word_back before t name _ e h = absurd cc

named_to : (b : Behind) (w : Word) (name : List ℕ) → IsNameOf name w → names_next b.last ≡ true → new_type b w ≡ Some name
named_to b w name (inl e) h = ap (new_type b) e ∙ ap (λ x. named_type x name) h
named_to b w name (inr (inl e)) h = ap (new_type b) e ∙ ap (λ x. named_type x name) h
named_to b w name (inr (inr e)) h = ap (new_type b) e ∙ ap (λ x. named_type x name) h

word_to : (before : List Token) (t : Token) (name : List ℕ) → IsNew before t name → new_type (behind before) t.word ≡ Some name
word_to before t name (inl new) = named_to (behind before) t.word name new.0 ((names_decides before).1 new.1)
word_to before t name (inr new) = ap (new_type (behind before)) new.0 ∙ ended_to (behind before).definition before name (tells before) new.1

pub new_is : (before : List Token) (t : Token) (name : List ℕ) → IsNew before t name ↔ (new_type (behind before) t.word ≡ Some name)
new_is before t name = (word_to before t name, word_back before t name t.word refl)

-- whether a name is a type
pub option_decides : (o : Option (List ℕ)) (name : List ℕ) → Decides (is_name o name) (o ≡ Some name)
option_decides (Some n) name = Decides-like (bytes_eq name n) (λ e. ap (λ m. Some m) (sym e)) (λ e. let same : n ≡ name = cc in sym same) (bytes_eq-Decides name n)
option_decides None name = (λ e. absurd (false≢true e), λ e. absurd cc)

pub first_type_decides : (name : List ℕ) → Decides (is_first_type name) (Contains first_types name)
first_type_decides name =
    Decides-contains first_types name (is_first_type name)
    (Decides-by_or (λ t. bytes_eq t name) (λ t. t ≡ name) (list_any (λ t. bytes_eq t name)) (λ t. bytes_eq-Decides t name) refl (λ _ _. refl) first_types)

abbrev pub Decided : Type 0 → Type 0
Decided P = (b : Bool) × Decides b P

type_decided_push : (before : List Token) (t : Token) (name : List ℕ) → Decided (IsTypeBehind before name) → Decided (IsTypeBehind (before ++ t ∷ []) name)
type_decided_push before t name was =
    let new : Bool = is_name (new_type (behind before) t.word) name in
    let is_new : Decides new (IsNew before t name) =
    Decides-like new (new_is before t name).1 (new_is before t name).0 (option_decides (new_type (behind before) t.word) name) in
    (was.0 || new, Decides-like (was.0 || new) (type_step before t name).1 (type_step before t name).0 (Decides-or was.0 new was.1 is_new))

pub type_decided : (before : List Token) (name : List ℕ) → Decided (IsTypeBehind before name)
type_decided before name =
    snoc_ind (λ b. Decided (IsTypeBehind b name))
    (is_first_type name, Decides-like (is_first_type name) (type_none name).1 (type_none name).0 (first_type_decides name))
    (λ b t was. type_decided_push b t name was) before
