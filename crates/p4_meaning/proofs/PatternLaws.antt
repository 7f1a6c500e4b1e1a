-- Two entries of an unordered table that match one key and have prefixes of one length have one list of patterns.
use Rattle.std.proofs.Common.{◌≡◌, ℕ, ◌+◌, ◌-◌, ◌*◌, ◌/◌, ◌%◌, ◌^◌, ◌≤◌, Bool, true, false, List, [], ◌∷◌, refl, sym, ap, ap₂, ◌∙◌, subst, arith}
use Rattle.std.specs.Prelude.{cond, count_by}
use Rattle.std.specs.List.{list_any}
use Rattle.std.proofs.lemmas.Bool.{eqb-true, false≢true}
use Rattle.std.proofs.lemmas.List.Sums.{sum_by-cons}
use Rattle.std.proofs.Math.Nat.{div-add-mod}
use Rattle.bits_core.specs.declared.number.Bits.{Bits}
use Rattle.bits_core.proofs.NumberLaws.{same_fields}
use Rattle.p4_program.specs.declared.typed.tables.MatchKind.{MatchKind}
use Rattle.p4_program.specs.declared.typed.tables.MatchKind.TheVariants as kind
use Rattle.p4_program.specs.declared.typed.tables.Pattern.{Pattern}
use Rattle.p4_program.specs.declared.typed.tables.Pattern.TheVariants.{Exact, Prefix, Masked}
use Rattle.p4_program.specs.Entries.{PrefixFits, PatternFits, PatternsFit}
use Rattle.p4_program.specs.Syntax.Callables.{CoreKey}
use Rattle.p4_program.specs.Syntax.Lookup.{is_ternary}
use Rattle.p4_program.specs.WellFormed.Callables.{is_prefix_kind}
use Rattle.p4_program.specs.Winners.{matches, all_match, prefix_in, prefix_length}
use Rattle.p4_meaning.proofs.ListLaws.{both_hold, neither}

-- ---- one pattern

-- numbers with no rest and one quotient are one number
same_multiple : (x y k : ℕ) → x % k ≡ 0 → y % k ≡ 0 → x / k ≡ y / k → x ≡ y
same_multiple x y k no_rest none same =
    sym (div-add-mod x k) ∙ ap₂ (λ q r. k * q + r) same (no_rest ∙ sym none) ∙ div-add-mod y k

same_prefix : (width : ℕ) (b c : Bits) (m n value : ℕ) → PrefixFits width b m → PrefixFits width c n → m ≡ n
    → value / 2 ^ (b.width - m) ≡ b.value / 2 ^ (b.width - m) → value / 2 ^ (c.width - n) ≡ c.value / 2 ^ (c.width - n) → Prefix b m ≡ Prefix c n
same_prefix width b c m n value fits fits' same h k =
    let widths : b.width ≡ c.width = fits.width_is ∙ sym fits'.width_is in
    let places : b.width - m ≡ width - m = ap (λ w. w - m) fits.width_is in
    let places' : c.width - n ≡ width - m = ap₂ (λ w i. w - i) fits'.width_is (sym same) in
    let quotient : value / 2 ^ (width - m) ≡ b.value / 2 ^ (width - m) = subst (λ i. value / 2 ^ i ≡ b.value / 2 ^ i) places h in
    let quotient' : value / 2 ^ (width - m) ≡ c.value / 2 ^ (width - m) = subst (λ i. value / 2 ^ i ≡ c.value / 2 ^ i) places' k in
    let rest : c.value % 2 ^ (width - m) ≡ 0 = subst (λ i. c.value % 2 ^ (width - i) ≡ 0) (sym same) fits'.rest in
    let values : b.value ≡ c.value = same_multiple b.value c.value (2 ^ (width - m)) fits.rest rest (sym quotient ∙ quotient') in
    ap₂ (λ x i. Prefix x i) (same_fields b c widths values) same

pub same_pattern : (k : MatchKind) (width : ℕ) (p q : Pattern) (value : ℕ) → PatternFits k width p → PatternFits k width q → is_ternary k ≡ false
    → prefix_in p ≡ prefix_in q → matches p value ≡ true → matches q value ≡ true → p ≡ q
same_pattern kind.Exact width (Exact b) (Exact c) value f g t same m n =
    ap (λ x. Exact x) (same_fields b c (f ∙ sym g) (sym (eqb-true value b.value m) ∙ eqb-true value c.value n))
same_pattern kind.Exact width (Exact b) (Prefix c i) value f g t same m n = absurd g
same_pattern kind.Exact width (Exact b) (Masked c mask) value f g t same m n = absurd g
same_pattern kind.Exact width (Prefix b i) q value f g t same m n = absurd f
same_pattern kind.Exact width (Masked b mask) q value f g t same m n = absurd f
same_pattern kind.Lpm width (Prefix b i) (Prefix c j) value f g t same m n =
    same_prefix width b c i j value f g same (eqb-true (value / 2 ^ (b.width - i)) (b.value / 2 ^ (b.width - i)) m)
    (eqb-true (value / 2 ^ (c.width - j)) (c.value / 2 ^ (c.width - j)) n)
same_pattern kind.Lpm width (Prefix b i) (Exact c) value f g t same m n = absurd g
same_pattern kind.Lpm width (Prefix b i) (Masked c mask) value f g t same m n = absurd g
same_pattern kind.Lpm width (Exact b) q value f g t same m n = absurd f
same_pattern kind.Lpm width (Masked b mask) q value f g t same m n = absurd f
same_pattern kind.Ternary width p q value f g t same m n = absurd (false≢true (sym t))

-- a key that is no prefix key takes no prefix
no_prefix : (k : MatchKind) (width : ℕ) (p : Pattern) → PatternFits k width p → is_prefix_kind k ≡ false → prefix_in p ≡ 0
no_prefix kind.Exact width (Exact b) f e = refl
no_prefix kind.Exact width (Prefix b i) f e = absurd f
no_prefix kind.Exact width (Masked b mask) f e = absurd f
no_prefix kind.Lpm width p f e = absurd (false≢true (sym e))
no_prefix kind.Ternary width (Exact b) f e = absurd f
no_prefix kind.Ternary width (Prefix b i) f e = absurd f
no_prefix kind.Ternary width (Masked b mask) f e = refl

-- ---- all patterns

abbrev pub prefix_keys : List CoreKey → ℕ
prefix_keys ks = count_by (λ k. is_prefix_kind k.match_kind) ks

prefix_keys-cons : (k : CoreKey) (ks : List CoreKey) → prefix_keys (k ∷ ks) ≡ cond (is_prefix_kind k.match_kind) 1 0 + prefix_keys ks
prefix_keys-cons k ks = sum_by-cons (λ k. cond (is_prefix_kind k.match_kind) 1 0) k ks

no_prefixes : (ks : List CoreKey) (ps : List Pattern) → PatternsFit ks ps → prefix_keys ks ≡ 0 → prefix_length ps ≡ 0
no_prefixes [] [] f e = refl
no_prefixes [] (p ∷ ps) f e = absurd f
no_prefixes (k ∷ ks) [] f e = absurd f
no_prefixes (k ∷ ks) (p ∷ ps) f e = case (is_prefix_kind k.match_kind) refl (λ none. no_prefixes ks ps f.1 none)
  where
    case : (b : Bool) → is_prefix_kind k.match_kind ≡ b → (prefix_keys ks ≡ 0 → prefix_length ps ≡ 0) → prefix_in p + prefix_length ps ≡ 0
    case true t rest =
        let sum : prefix_keys (k ∷ ks) ≡ 1 + prefix_keys ks = prefix_keys-cons k ks ∙ ap (λ b. cond b 1 0 + prefix_keys ks) t in
        absurd (omega (arith, sum, e))
    case false t rest =
        let sum : prefix_keys (k ∷ ks) ≡ 0 + prefix_keys ks = prefix_keys-cons k ks ∙ ap (λ b. cond b 1 0 + prefix_keys ks) t in
        let head : prefix_in p ≡ 0 = no_prefix k.match_kind k.width p f.0 t in
        let tail : prefix_length ps ≡ 0 = rest (omega (arith, sum, e)) in
        omega (arith, head, tail)

pub same_patterns : (ks : List CoreKey) (ps qs : List Pattern) (key : List ℕ) → PatternsFit ks ps → PatternsFit ks qs
    → list_any (λ k. is_ternary k.match_kind) ks ≡ false → prefix_keys ks ≤ 1 → prefix_length ps ≡ prefix_length qs
    → all_match ps key ≡ true → all_match qs key ≡ true → ps ≡ qs
same_patterns [] [] [] key f g t one same m n = refl
same_patterns [] [] (q ∷ qs) key f g t one same m n = absurd g
same_patterns [] (p ∷ ps) qs key f g t one same m n = absurd f
same_patterns (k ∷ ks) [] qs key f g t one same m n = absurd f
same_patterns (k ∷ ks) (p ∷ ps) [] key f g t one same m n = absurd g
same_patterns (k ∷ ks) (p ∷ ps) (q ∷ qs) [] f g t one same m n = absurd (false≢true m)
same_patterns (k ∷ ks) (p ∷ ps) (q ∷ qs) (value ∷ key) f g t one same m n =
    let ternary = neither (is_ternary k.match_kind) (list_any (λ k. is_ternary k.match_kind) ks) t in
    let m' = both_hold (matches p value) (all_match ps key) m in
    let n' = both_hold (matches q value) (all_match qs key) n in
    case (is_prefix_kind k.match_kind) refl
    (λ head. same_pattern k.match_kind k.width p q value f.0 g.0 ternary.0 head m'.0 n'.0)
    (λ few tail. same_patterns ks ps qs key f.1 g.1 ternary.1 few tail m'.1 n'.1)
  where
    case : (b : Bool) → is_prefix_kind k.match_kind ≡ b → (prefix_in p ≡ prefix_in q → p ≡ q)
        → (prefix_keys ks ≤ 1 → prefix_length ps ≡ prefix_length qs → ps ≡ qs) → p ∷ ps ≡ q ∷ qs
    case true e first rest =
        let sum : prefix_keys (k ∷ ks) ≡ 1 + prefix_keys ks = prefix_keys-cons k ks ∙ ap (λ b. cond b 1 0 + prefix_keys ks) e in
        let none : prefix_keys ks ≡ 0 = omega (arith, sum, one) in
        let left : prefix_length ps ≡ 0 = no_prefixes ks ps f.1 none in
        let right : prefix_length qs ≡ 0 = no_prefixes ks qs g.1 none in
        ap₂ (λ x xs. x ∷ xs) (first (omega (arith, same, left, right))) (rest (omega (arith, none)) (left ∙ sym right))
    case false e first rest =
        let sum : prefix_keys (k ∷ ks) ≡ 0 + prefix_keys ks = prefix_keys-cons k ks ∙ ap (λ b. cond b 1 0 + prefix_keys ks) e in
        let left : prefix_in p ≡ 0 = no_prefix k.match_kind k.width p f.0 e in
        let right : prefix_in q ≡ 0 = no_prefix k.match_kind k.width q g.0 e in
        ap₂ (λ x xs. x ∷ xs) (first (left ∙ sym right)) (rest (omega (arith, sum, one)) (omega (arith, same, left, right)))
