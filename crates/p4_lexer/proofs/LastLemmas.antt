-- What is kept of the last token tells what stands there.
use Rattle.std.proofs.Common.{◌≡◌, ℕ, true, false, Bool, List, [], ◌∷◌, ◌++◌, append_assoc, codes, Decides, refl, sym, ap, ◌∙◌, subst, inl, inr, ◌⊎◌}
use Rattle.std.specs.Str.{bytes_eq}
use Rattle.std.proofs.lemmas.Bool.{false≢true, cases_Bool}
use Rattle.std.proofs.lemmas.Slice.Eq.{bytes_eq-Decides}
use Rattle.p4_lexer.specs.declared.token.Token.{Token}
use Rattle.p4_lexer.specs.declared.token.Word.{Word}
use Rattle.p4_lexer.specs.declared.token.Word.TheVariants.{Keyword, Sign, TypeName, Lookahead, CloseArguments}
use Rattle.p4_lexer.specs.declared.token.Keyword.{Keyword as KeywordName}
use Rattle.p4_lexer.specs.declared.token.Keyword.TheVariants.{Bit, Int as IntWord, Struct, Header, Parser, Control, Enum as EnumWord}
use Rattle.p4_lexer.specs.declared.token.Sign.{Sign as SignName}
use Rattle.p4_lexer.specs.declared.token.Sign.TheVariants.{Dot as DotSign}
use Rattle.p4_lexer.specs.declared.behind.Last.{Last}
use Rattle.p4_lexer.specs.declared.behind.Last.TheVariants.{Other as OtherLast, Dot, TakesArguments, Declares, Enum, EnumBit, Width as WidthLast}
use Rattle.p4_lexer.specs.declared.behind.Open.{Open}
use Rattle.p4_lexer.specs.declared.behind.Open.TheVariants.{Arguments, Width, Other}
use Rattle.p4_lexer.specs.TypeNames as types
use Rattle.p4_lexer.specs.Marks.{EndsWith, TakesArguments as TakesThere}
use Rattle.p4_lexer.specs.Behind.{is_dot, takes_arguments, behind, last_behind, behind_bit, behind_keyword, behind_close, behind_dot, behind_type}
use Rattle.p4_lexer.proofs.SnocLemmas.{has_last, ends_none, ends_push, ends_here}
use Rattle.p4_lexer.proofs.OpenLemmas.{behind_push}

-- what a word was, where this is kept of it
abbrev pub IsFrom : Last → List Open → Word → Last → Type 0
IsFrom last open_ w Dot = w ≡ Sign DotSign
IsFrom last open_ w TakesArguments = (w ≡ Keyword Bit) ⊎ ((w ≡ Keyword IntWord) ⊎ ((w ≡ TypeName (codes "register")) ⊎ (w ≡ Lookahead)))
IsFrom last open_ w Declares = (k : KeywordName) × (w ≡ Keyword k) × types.Declares k
IsFrom last open_ w Enum = w ≡ Keyword EnumWord
IsFrom last open_ w EnumBit = (w ≡ Keyword Bit) × (last ≡ Enum)
IsFrom last open_ w WidthLast = (w ≡ CloseArguments) × ((outer : List Open) × (open_ ≡ Width ∷ outer))
IsFrom last open_ w OtherLast = Unit {0}

bit_is_from : (last : Last) (open_ : List Open) → IsFrom last open_ (Keyword Bit) (behind_bit last)
bit_is_from Enum open_ = (refl, refl)
bit_is_from OtherLast open_ = inl refl
bit_is_from Dot open_ = inl refl
bit_is_from TakesArguments open_ = inl refl
bit_is_from Declares open_ = inl refl
bit_is_from EnumBit open_ = inl refl
bit_is_from WidthLast open_ = inl refl

keyword_is_from : (last : Last) (open_ : List Open) (k : KeywordName) → IsFrom last open_ (Keyword k) (behind_keyword last k)
keyword_is_from last open_ Bit = bit_is_from last open_
keyword_is_from last open_ IntWord = inr (inl refl)
keyword_is_from last open_ Struct = (Struct, refl, tt)
keyword_is_from last open_ Header = (Header, refl, tt)
keyword_is_from last open_ Parser = (Parser, refl, tt)
keyword_is_from last open_ Control = (Control, refl, tt)
keyword_is_from last open_ EnumWord = refl
keyword_is_from last open_ _ = tt

dot_is_from : (last : Last) (open_ : List Open) (s : SignName) → IsFrom last open_ (Sign s) (behind_dot s)
dot_is_from last open_ DotSign = refl
dot_is_from last open_ _ = tt

type_is_from : (last : Last) (open_ : List Open) (name : List ℕ) → IsFrom last open_ (TypeName name) (behind_type name)
type_is_from last open_ name = elim (cases_Bool (bytes_eq name (codes "register"))) [
  | inl same ↦ rw same (inr (inr (inl (ap (λ n. TypeName n) ((bytes_eq-Decides name (codes "register")).0 same)))))
  | inr other ↦ rw other tt
]

close_is_from : (last : Last) (open_ : List Open) → IsFrom last open_ CloseArguments (behind_close open_)
close_is_from last [] = tt
close_is_from last (Arguments ∷ outer) = tt
close_is_from last (Width ∷ outer) = (refl, (outer, refl))
close_is_from last (Other ∷ outer) = tt

pub last_is_from : (last : Last) (open_ : List Open) (w : Word) → IsFrom last open_ w (last_behind last open_ w)
last_is_from last open_ (Keyword k) = keyword_is_from last open_ k
last_is_from last open_ (Sign s) = dot_is_from last open_ s
last_is_from last open_ (TypeName name) = type_is_from last open_ name
last_is_from last open_ Lookahead = inr (inr (inr refl))
last_is_from last open_ CloseArguments = close_is_from last open_
last_is_from last open_ _ = tt

-- the last token is kept as this
abbrev pub IsKept : (before : List Token) (t : Token) → Last → Type 0
IsKept before t last = IsFrom (behind before).last (behind before).open_ t.word last

pub kept_push : (before : List Token) (t : Token) → IsKept before t (behind (before ++ t ∷ [])).last
kept_push before t = subst (λ b. IsKept before t b.last) (sym (behind_push before t)) (last_is_from (behind before).last (behind before).open_ t.word)

dot_true : (last : Last) → is_dot last ≡ true → last ≡ Dot
dot_true Dot e = refl
dot_true OtherLast e = absurd (false≢true e)
dot_true TakesArguments e = absurd (false≢true e)
dot_true Declares e = absurd (false≢true e)
dot_true Enum e = absurd (false≢true e)
dot_true EnumBit e = absurd (false≢true e)
dot_true WidthLast e = absurd (false≢true e)

pub dot_decides : (before : List Token) → Decides (is_dot (behind before).last) (EndsWith before (Sign DotSign))
dot_decides before = elim (has_last before) [
  | inl none ↦ subst (λ b. Decides (is_dot (behind b).last) (EndsWith b (Sign DotSign))) (sym none) (λ e. absurd (false≢true e), λ h. absurd (ends_none (Sign DotSign) h))
  | inr pushed ↦
      subst (λ b. Decides (is_dot (behind b).last) (EndsWith b (Sign DotSign))) (sym pushed.2) (
        λ e. ends_here pushed.0 pushed.1 (Sign DotSign) (subst (IsKept pushed.0 pushed.1) (dot_true _ e) (kept_push pushed.0 pushed.1)),
        λ h. ap (λ b. is_dot b.last) (behind_push pushed.0 pushed.1) ∙ ap (λ w. is_dot (last_behind (behind pushed.0).last (behind pushed.0).open_ w)) (ends_push pushed.0 pushed.1 (Sign DotSign) h),
      )
]

-- the words behind which a `<` opens the arguments of a type
abbrev TakesWord : Word → Type 0
TakesWord w = (w ≡ Keyword Bit) ⊎ ((w ≡ Keyword IntWord) ⊎ ((w ≡ TypeName (codes "register")) ⊎ (w ≡ Lookahead)))

takes_from : (last : Last) (open_ : List Open) (w : Word) (now : Last) → takes_arguments now ≡ true → IsFrom last open_ w now → TakesWord w
takes_from last open_ w TakesArguments e h = h
takes_from last open_ w EnumBit e h = inl h.0
takes_from last open_ w OtherLast e h = absurd (false≢true e)
takes_from last open_ w Dot e h = absurd (false≢true e)
takes_from last open_ w Declares e h = absurd (false≢true e)
takes_from last open_ w Enum e h = absurd (false≢true e)
takes_from last open_ w WidthLast e h = absurd (false≢true e)

bit_takes : (last : Last) → takes_arguments (behind_bit last) ≡ true
bit_takes Enum = refl
bit_takes OtherLast = refl
bit_takes Dot = refl
bit_takes TakesArguments = refl
bit_takes Declares = refl
bit_takes EnumBit = refl
bit_takes WidthLast = refl

takes_to : (last : Last) (open_ : List Open) (w : Word) → TakesWord w → takes_arguments (last_behind last open_ w) ≡ true
takes_to last open_ w (inl bit) = ap (λ v. takes_arguments (last_behind last open_ v)) bit ∙ bit_takes last
takes_to last open_ w (inr (inl int)) = ap (λ v. takes_arguments (last_behind last open_ v)) int
takes_to last open_ w (inr (inr (inl register))) = ap (λ v. takes_arguments (last_behind last open_ v)) register
takes_to last open_ w (inr (inr (inr lookahead))) = ap (λ v. takes_arguments (last_behind last open_ v)) lookahead

takes_there : (before : List Token) (t : Token) → TakesWord t.word → TakesThere (before ++ t ∷ [])
takes_there before t (inl bit) = inl (ends_here before t (Keyword Bit) bit)
takes_there before t (inr (inl int)) = inr (inl (ends_here before t (Keyword IntWord) int))
takes_there before t (inr (inr (inl register))) = inr (inr (inl (ends_here before t (TypeName (codes "register")) register)))
takes_there before t (inr (inr (inr lookahead))) = inr (inr (inr (ends_here before t Lookahead lookahead)))

takes_word : (before : List Token) (t : Token) → TakesThere (before ++ t ∷ []) → TakesWord t.word
takes_word before t (inl bit) = inl (ends_push before t (Keyword Bit) bit)
takes_word before t (inr (inl int)) = inr (inl (ends_push before t (Keyword IntWord) int))
takes_word before t (inr (inr (inl register))) = inr (inr (inl (ends_push before t (TypeName (codes "register")) register)))
takes_word before t (inr (inr (inr lookahead))) = inr (inr (inr (ends_push before t Lookahead lookahead)))

takes_none : TakesThere [] → ⊥
takes_none (inl bit) = ends_none (Keyword Bit) bit
takes_none (inr (inl int)) = ends_none (Keyword IntWord) int
takes_none (inr (inr (inl register))) = ends_none (TypeName (codes "register")) register
takes_none (inr (inr (inr lookahead))) = ends_none Lookahead lookahead

pub takes_decides : (before : List Token) → Decides (takes_arguments (behind before).last) (TakesThere before)
takes_decides before = elim (has_last before) [
  | inl none ↦ subst (λ b. Decides (takes_arguments (behind b).last) (TakesThere b)) (sym none) (λ e. absurd (false≢true e), λ h. absurd (takes_none h))
  | inr pushed ↦
      let front = pushed.0 in
      let t = pushed.1 in
      subst (λ b. Decides (takes_arguments (behind b).last) (TakesThere b)) (sym pushed.2) (
        λ e. takes_there front t (takes_from (behind front).last (behind front).open_ t.word (behind (front ++ t ∷ [])).last e (kept_push front t)),
        λ h. ap (λ b. takes_arguments b.last) (behind_push front t) ∙ takes_to (behind front).last (behind front).open_ t.word (takes_word front t h),
      )
]

-- a keyword stands last that declares the name behind it
abbrev pub EndsDeclaring : List Token → Type 0
EndsDeclaring before = (k : KeywordName) × EndsWith before (Keyword k) × types.Declares k

abbrev pub declares_next : Last → Bool
declares_next Declares = true
declares_next Enum = true
declares_next _ = false

declares_from : (last : Last) (open_ : List Open) (w : Word) (now : Last) → declares_next now ≡ true → IsFrom last open_ w now → (k : KeywordName) × (w ≡ Keyword k) × types.Declares k
declares_from last open_ w Declares e h = h
declares_from last open_ w Enum e h = (EnumWord, h, tt)
declares_from last open_ w OtherLast e h = absurd (false≢true e)
declares_from last open_ w Dot e h = absurd (false≢true e)
declares_from last open_ w TakesArguments e h = absurd (false≢true e)
declares_from last open_ w EnumBit e h = absurd (false≢true e)
declares_from last open_ w WidthLast e h = absurd (false≢true e)

declares_to : (last : Last) (k : KeywordName) → types.Declares k → declares_next (behind_keyword last k) ≡ true
declares_to last Struct d = refl
declares_to last Header d = refl
declares_to last Parser d = refl
declares_to last Control d = refl
declares_to last EnumWord d = refl
declares_to last _ d = absurd d

pub declares_decides : (before : List Token) → Decides (declares_next (behind before).last) (EndsDeclaring before)
declares_decides before = elim (has_last before) [
  | inl none ↦ subst (λ b. Decides (declares_next (behind b).last) (EndsDeclaring b)) (sym none) (λ e. absurd (false≢true e), λ h. absurd (ends_none (Keyword h.0) h.1))
  | inr pushed ↦
      let front = pushed.0 in
      let t = pushed.1 in
      subst (λ b. Decides (declares_next (behind b).last) (EndsDeclaring b)) (sym pushed.2) (
        λ e.
            let word : (k : KeywordName) × (t.word ≡ Keyword k) × types.Declares k = declares_from (behind front).last (behind front).open_ t.word (behind (front ++ t ∷ [])).last e (kept_push front t) in
            (word.0, ends_here front t (Keyword word.0) word.1, word.2),
        λ h. ap (λ b. declares_next b.last) (behind_push front t) ∙ ap (λ w. declares_next (last_behind (behind front).last (behind front).open_ w)) (ends_push front t (Keyword h.0) h.1)
            ∙ declares_to (behind front).last h.0 h.2,
      )
]

pub enum_ends : (before : List Token) → (behind before).last ≡ Enum → EndsWith before (Keyword EnumWord)
enum_ends before e = elim (has_last before) [
  | inl none ↦ let h : OtherLast ≡ Enum = subst (λ b. (behind b).last ≡ Enum) none e in absurd cc
  | inr pushed ↦
      subst (λ b. EndsWith b (Keyword EnumWord)) (sym pushed.2)
      (ends_here pushed.0 pushed.1 (Keyword EnumWord) (subst (IsKept pushed.0 pushed.1) (subst (λ b. (behind b).last ≡ Enum) pushed.2 e) (kept_push pushed.0 pushed.1)))
]

-- `enum bit` stands last
abbrev pub EndsEnumBit : List Token → Type 0
EndsEnumBit before = (earlier : List Token) × (enum : Token) × (bit : Token) × (before ≡ earlier ++ enum ∷ bit ∷ []) × (enum.word ≡ Keyword EnumWord) × (bit.word ≡ Keyword Bit)

pub enum_bit_ends : (before : List Token) → (behind before).last ≡ EnumBit → EndsEnumBit before
enum_bit_ends before e = elim (has_last before) [
  | inl none ↦ let h : OtherLast ≡ EnumBit = subst (λ b. (behind b).last ≡ EnumBit) none e in absurd cc
  | inr pushed ↦
      let kept : (pushed.1.word ≡ Keyword Bit) × ((behind pushed.0).last ≡ Enum) = subst (IsKept pushed.0 pushed.1) (subst (λ b. (behind b).last ≡ EnumBit) pushed.2 e) (kept_push pushed.0 pushed.1) in
      let enum : EndsWith pushed.0 (Keyword EnumWord) = enum_ends pushed.0 kept.1 in
      (enum.0, enum.1, pushed.1, pushed.2 ∙ ap (λ f. f ++ pushed.1 ∷ []) enum.2 ∙ append_assoc enum.0 (enum.1 ∷ []) (pushed.1 ∷ []), enum.3, kept.0)
]

pub enum_bit_kept : (before : List Token) → EndsEnumBit before → (behind before).last ≡ EnumBit
enum_bit_kept before h =
    let spelled : before ≡ (h.0 ++ h.1 ∷ []) ++ h.2 ∷ [] = h.3 ∙ sym (append_assoc h.0 (h.1 ∷ []) (h.2 ∷ [])) in
    let enum : (behind (h.0 ++ h.1 ∷ [])).last ≡ Enum = ap (λ b. b.last) (behind_push h.0 h.1) ∙ ap (λ w. last_behind (behind h.0).last (behind h.0).open_ w) h.4 in
    ap (λ b. (behind b).last) spelled ∙ ap (λ b. b.last) (behind_push (h.0 ++ h.1 ∷ []) h.2)
    ∙ ap (λ w. last_behind (behind (h.0 ++ h.1 ∷ [])).last (behind (h.0 ++ h.1 ∷ [])).open_ w) h.5 ∙ ap behind_bit enum
