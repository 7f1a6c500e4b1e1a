-- A word has one mark, which is found from what stands before and behind it.
use Rattle.std.proofs.Common.{◌≡◌, ◌↔◌, ℕ, Bool, true, false, Decides, List, codes, Option, None, Some, refl, sym, ap, ◌∙◌}
use Rattle.std.proofs.lemmas.Bool.{false≢true}
use Rattle.p4_lexer.specs.declared.token.Token.{Token}
use Rattle.p4_lexer.specs.declared.token.Word.{Word}
use Rattle.p4_lexer.specs.declared.token.Word.TheVariants.{Keyword, Reserved, Sign, Id}
use Rattle.p4_lexer.specs.declared.token.Keyword.{Keyword as KeywordName}
use Rattle.p4_lexer.specs.declared.token.Keyword.TheVariants.{Error}
use Rattle.p4_lexer.specs.declared.token.Reserved.{Reserved as ReservedName}
use Rattle.p4_lexer.specs.declared.token.Sign.TheVariants.{Dot, Less}
use Rattle.p4_lexer.specs.Annotations.{Bare}
use Rattle.p4_lexer.specs.Spellings.{keyword_spelling, reserved_spelling}
use Rattle.p4_lexer.specs.TypeNames.{IsTypeBehind}
use Rattle.p4_lexer.specs.Marks.{EndsWith, SignIsNext, IsPlainName, IsMarkOfName}
use Rattle.p4_lexer.specs.Marking.{member_mark, error_mark, keyword_mark, plain_mark}
use Rattle.p4_lexer.proofs.SpelledOnceLemmas.{keyword_apart}

-- what is seen of a name, of the tokens before it and of the words behind it
pub record Seen (before : List Token) (name : List ℕ) (behind : List Bare) : Type 0 where
  pub dot : Bool
  pub lookahead : Bool
  pub less : Bool
  pub point : Bool
  pub type : Bool
  pub keyword : Option KeywordName
  pub reserved : Option ReservedName
  pub dot_is : Decides dot (EndsWith before (Sign Dot))
  pub lookahead_is : Decides lookahead (name ≡ codes "lookahead")
  pub less_is : Decides less (SignIsNext Less behind)
  pub point_is : Decides point (SignIsNext Dot behind)
  pub type_is : Decides type (IsTypeBehind before name)
  pub keyword_is : (k : KeywordName) → (keyword ≡ Some k) ↔ (name ≡ keyword_spelling k)
  pub reserved_is : (r : ReservedName) → (reserved ≡ Some r) ↔ (name ≡ reserved_spelling r)

abbrev pub reserved_mark : List ℕ → Bool → Bool → Option ReservedName → Word
reserved_mark name type point (Some r) = Reserved r
reserved_mark name type point None = plain_mark name type point

abbrev pub word_mark : List ℕ → Bool → Bool → Option ReservedName → Option KeywordName → Word
word_mark name type point reserved (Some k) = keyword_mark name point k
word_mark name type point reserved None = reserved_mark name type point reserved

abbrev pub name_mark : {before : List Token} {name : List ℕ} {behind : List Bare} → Seen before name behind → Bool → Word
name_mark {before} {name} s true = member_mark name s.lookahead s.less
name_mark {before} {name} s false = word_mark name s.type s.point s.reserved s.keyword

-- the mark that is found is one
pub member_fits : {before : List Token} {name : List ℕ} {behind : List Bare} (s : Seen before name behind) → EndsWith before (Sign Dot) → (l m : Bool) → s.lookahead ≡ l → s.less ≡ m → IsMarkOfName before name behind (member_mark name l m)
member_fits s dot true true p q = IsMarkOfName.lookahead dot (s.lookahead_is.0 p) (s.less_is.0 q)
member_fits s dot true false p q = IsMarkOfName.member dot (λ _ less. false≢true (sym q ∙ s.less_is.1 less))
member_fits s dot false _ p q = IsMarkOfName.member dot (λ l less. false≢true (sym p ∙ s.lookahead_is.1 l))

error_fits : {before : List Token} {name : List ℕ} {behind : List Bare} (s : Seen before name behind) → (EndsWith before (Sign Dot) → ⊥) → name ≡ keyword_spelling Error → (p : Bool) → s.point ≡ p → IsMarkOfName before name behind (error_mark name p)
error_fits s no_dot spelled true p = IsMarkOfName.error_base no_dot spelled (s.point_is.0 p)
error_fits s no_dot spelled false p = IsMarkOfName.keyword Error no_dot spelled (λ _ point. false≢true (sym p ∙ s.point_is.1 point))

pub keyword_fits : {before : List Token} {name : List ℕ} {behind : List Bare} (s : Seen before name behind) → (EndsWith before (Sign Dot) → ⊥) → (k : KeywordName) → name ≡ keyword_spelling k → IsMarkOfName before name behind (keyword_mark name s.point k)
keyword_fits s no_dot Error spelled = error_fits s no_dot spelled s.point refl
keyword_fits s no_dot k spelled = IsMarkOfName.keyword k no_dot spelled (λ e _. cc)

pub plain_fits : {before : List Token} {name : List ℕ} {behind : List Bare} (s : Seen before name behind) → (EndsWith before (Sign Dot) → ⊥) → IsPlainName name → (t p : Bool) → s.type ≡ t → s.point ≡ p → IsMarkOfName before name behind (plain_mark name t p)
plain_fits s no_dot plain true true t p = IsMarkOfName.base no_dot plain (s.type_is.0 t) (s.point_is.0 p)
plain_fits s no_dot plain true false t p = IsMarkOfName.type_name no_dot plain (s.type_is.0 t) (λ point. false≢true (sym p ∙ s.point_is.1 point))
plain_fits s no_dot plain false _ t p = IsMarkOfName.id no_dot plain (λ type. false≢true (sym t ∙ s.type_is.1 type))

none_not_some : {W : Type 0} (o : Option W) (w : W) → o ≡ None → o ≡ Some w → ⊥
none_not_some o w p q = cc

reserved_fits : {before : List Token} {name : List ℕ} {behind : List Bare} (s : Seen before name behind) → (EndsWith before (Sign Dot) → ⊥) → s.keyword ≡ None → (r : Option ReservedName) → s.reserved ≡ r → IsMarkOfName before name behind (reserved_mark name s.type s.point r)
reserved_fits s no_dot no_keyword (Some r) e = IsMarkOfName.reserved r no_dot ((s.reserved_is r).0 e)
reserved_fits s no_dot no_keyword None e =
    plain_fits s no_dot (record {
      no_keyword = λ k spelled. none_not_some s.keyword k no_keyword ((s.keyword_is k).1 spelled);
      no_reserved = λ r spelled. none_not_some s.reserved r e ((s.reserved_is r).1 spelled);
    }) s.type s.point refl refl

word_fits : {before : List Token} {name : List ℕ} {behind : List Bare} (s : Seen before name behind) → (EndsWith before (Sign Dot) → ⊥) → (k : Option KeywordName) → s.keyword ≡ k → IsMarkOfName before name behind (word_mark name s.type s.point s.reserved k)
word_fits s no_dot (Some k) e = keyword_fits s no_dot k ((s.keyword_is k).0 e)
word_fits s no_dot None e = reserved_fits s no_dot e s.reserved refl

name_fits_by : {before : List Token} {name : List ℕ} {behind : List Bare} (s : Seen before name behind) → (d : Bool) → s.dot ≡ d → IsMarkOfName before name behind (name_mark s d)
name_fits_by s true e = member_fits s (s.dot_is.0 e) s.lookahead s.less refl refl
name_fits_by s false e = word_fits s (λ dot. false≢true (sym e ∙ s.dot_is.1 dot)) s.keyword refl

pub name_fits : {before : List Token} {name : List ℕ} {behind : List Bare} (s : Seen before name behind) → IsMarkOfName before name behind (name_mark s s.dot)
name_fits s = name_fits_by s s.dot refl

-- and no other
is_false : {P : Type 0} (b : Bool) → Decides b P → (P → ⊥) → b ≡ false
is_false true d no_p = absurd (no_p (d.0 refl))
is_false false d no_p = refl

none_of : {W : Type 0} (o : Option W) → ((w : W) → o ≡ Some w → ⊥) → o ≡ None
none_of (Some w) h = absurd (h w refl)
none_of None h = refl

keyword_is_plain : (name : List ℕ) (point : Bool) (k : KeywordName) → (k ≡ Error → point ≡ false) → keyword_mark name point k ≡ Keyword k
keyword_is_plain name point Error h = ap (error_mark name) (h refl)
keyword_is_plain name point k h = refl

member_is : (name : List ℕ) (lookahead less : Bool) → (lookahead ≡ true → less ≡ false) → member_mark name lookahead less ≡ Id name
member_is name true less h = ap (member_mark name true) (h refl)
member_is name false less h = refl

behind_no_dot : {before : List Token} {name : List ℕ} {behind : List Bare} (s : Seen before name behind) → (EndsWith before (Sign Dot) → ⊥) → name_mark s s.dot ≡ word_mark name s.type s.point s.reserved s.keyword
behind_no_dot s no_dot = ap (name_mark s) (is_false s.dot s.dot_is no_dot)

with_keyword : {before : List Token} {name : List ℕ} {behind : List Bare} (s : Seen before name behind) (k : KeywordName) → (EndsWith before (Sign Dot) → ⊥) → name ≡ keyword_spelling k → name_mark s s.dot ≡ keyword_mark name s.point k
with_keyword {before} {name} s k no_dot spelled = behind_no_dot s no_dot ∙ ap (word_mark name s.type s.point s.reserved) ((s.keyword_is k).1 spelled)

with_plain : {before : List Token} {name : List ℕ} {behind : List Bare} (s : Seen before name behind) → (EndsWith before (Sign Dot) → ⊥) → IsPlainName name → name_mark s s.dot ≡ plain_mark name s.type s.point
with_plain {before} {name} s no_dot plain =
    behind_no_dot s no_dot
    ∙ ap (word_mark name s.type s.point s.reserved) (none_of s.keyword (λ k e. plain.no_keyword k ((s.keyword_is k).0 e)))
    ∙ ap (reserved_mark name s.type s.point) (none_of s.reserved (λ r e. plain.no_reserved r ((s.reserved_is r).0 e)))

pub name_only : {before : List Token} {name : List ℕ} {behind : List Bare} (s : Seen before name behind) (w : Word) → IsMarkOfName before name behind w → name_mark s s.dot ≡ w
name_only {before} {name} s w (IsMarkOfName.lookahead dot spelled less) =
    ap (name_mark s) (s.dot_is.1 dot) ∙ ap (λ l. member_mark name l s.less) (s.lookahead_is.1 spelled) ∙ ap (member_mark name true) (s.less_is.1 less)
name_only {before} {name} s w (IsMarkOfName.member dot not_lookahead) =
    ap (name_mark s) (s.dot_is.1 dot) ∙ member_is name s.lookahead s.less (λ l. is_false s.less s.less_is (not_lookahead (s.lookahead_is.0 l)))
name_only {before} {name} s w (IsMarkOfName.error_base no_dot spelled point) = with_keyword s Error no_dot spelled ∙ ap (error_mark name) (s.point_is.1 point)
name_only {before} {name} s w (IsMarkOfName.keyword k no_dot spelled no_point) =
    with_keyword s k no_dot spelled ∙ keyword_is_plain name s.point k (λ e. is_false s.point s.point_is (no_point e))
name_only {before} {name} s w (IsMarkOfName.reserved r no_dot spelled) =
    behind_no_dot s no_dot
    ∙ ap (word_mark name s.type s.point s.reserved) (none_of s.keyword (λ k e. keyword_apart name k r ((s.keyword_is k).0 e) spelled))
    ∙ ap (reserved_mark name s.type s.point) ((s.reserved_is r).1 spelled)
name_only {before} {name} s w (IsMarkOfName.base no_dot plain type point) =
    with_plain s no_dot plain ∙ ap (λ t. plain_mark name t s.point) (s.type_is.1 type) ∙ ap (plain_mark name true) (s.point_is.1 point)
name_only {before} {name} s w (IsMarkOfName.type_name no_dot plain type no_point) =
    with_plain s no_dot plain ∙ ap (λ t. plain_mark name t s.point) (s.type_is.1 type) ∙ ap (plain_mark name true) (is_false s.point s.point_is no_point)
name_only {before} {name} s w (IsMarkOfName.id no_dot plain no_type) =
    with_plain s no_dot plain ∙ ap (λ t. plain_mark name t s.point) (is_false s.type s.type_is no_type)
