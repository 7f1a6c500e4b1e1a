-- Literals, hints and clauses are read from their words alone.
use Rattle.std.proofs.Common.{◌≡◌, ◌≢◌, ℕ, ◌<◌, true, false, List, [], ◌∷◌, ◌++◌, length, map, get_or, refl, sym, ap, ◌∙◌, subst, append_assoc, arith, inl, inr}
use Rattle.std.specs.Prelude.{None, Some}
use Rattle.std.specs.Cmp.{nat_cmp_total, eq_by_cmp_equiv}
use Rattle.std.specs.Fmt.{decimal}
use Rattle.std.specs.List.{AllByRecursion}
use Rattle.std.specs.Ordering.{nat_cmp, eq_by_cmp}
use Rattle.std.specs.Set.{distinct_count}
use Rattle.std.specs.Str.{bytes_eq}
use Rattle.std.proofs.lemmas.Bool.{cases_Bool, eqb-true, eq-eqb}
use Rattle.std.proofs.lemmas.Bool.Decides.{nat_tests}
use Rattle.std.proofs.lemmas.List.{append-nil, length-map, get_or-map}
use Rattle.std.proofs.lemmas.Map.Keys.{apart_from_distinct, IsDistinct-from_apart}
use Rattle.std.proofs.lemmas.Map.Made.{IsDistinct-from_count, distinct_count-from_IsDistinct}
use Rattle.std.proofs.lemmas.Slice.Eq.{bytes_eq-Decides}
use Rattle.cnf_core.specs.Literal.{IsApart}
use Rattle.cnf_core.specs.declared.derivation.Step.{Step}
use Rattle.cnf_core.specs.declared.formula.Lit.{Lit}
use Rattle.proof_stream.specs.Reading.{◌>>=◌, number_of, literal_of, positive_of, literals_onto, hints_onto, whole, if_apart, cube_of, step_of, are_apart, clause_of}
use Rattle.proof_stream.specs.Valid.{Is32, HasVariables, AreNumbers}
use Rattle.proof_stream.specs.Words.{Word, end_word, literal_word, clause_words, hint_words}
use Rattle.proof_stream.proofs.NumberLemmas.{some_is, bind_some, literal_is, literal_again, positive_is, positive_again}

abbrev AreLits : List Lit → Type 0
AreLits lits = HasVariables lits × AllByRecursion (λ l. Is32 l.var) lits

-- what literals that were read say of the words
record AreRead (front : List Lit) (words : List Word) (found : List Lit × List Word) : Type 0 where
  more : List Lit
  items : found.0 ≡ front ++ more
  spelled : words ≡ map literal_word more ++ end_word ∷ found.1
  lits : AreLits more

literals_in : (front : List Lit) (words : List Word) (found : List Lit × List Word) → literals_onto front words ≡ Some found → AreRead front words found
literals_in front [] found e = absurd cc
literals_in front (word ∷ words) found e =
    elim (cases_Bool (bytes_eq word end_word)) [
      | inl ends ↦
          let same : (front, words) ≡ found = some_is (front, words) found (rw ends at e) in
          let is_end = (bytes_eq-Decides word end_word).0 ends in
          subst (λ (f : List Lit × List Word). AreRead front (word ∷ words) f) same
          (record { more = []; items = sym (append-nil front); spelled = ap (λ w. w ∷ words) is_end; lits = (tt, tt) })
      | inr other ↦
          let first = bind_some (literal_of word) (λ l. literals_onto (front ++ l ∷ []) words) found (rw other at e) in
          let l = first.0 in
          let is = literal_is word l first.1 in
          let rest = literals_in (front ++ l ∷ []) words found first.2 in
          record {
            more = l ∷ rest.more;
            items = rest.items ∙ append_assoc front (l ∷ []) rest.more;
            spelled = ap (λ w. w ∷ words) is.0 ∙ ap (λ ws. literal_word l ∷ ws) rest.spelled;
            lits = ((is.2, rest.lits.0), (is.1, rest.lits.1));
          }
    ]

no_end : literal_of end_word ≡ None
unfolding literal_of number_of
no_end = refl

no_hint : positive_of end_word ≡ None
unfolding number_of
no_hint = refl

not_end : (l : Lit) → Is32 l.var → 0 < l.var → bytes_eq (literal_word l) end_word ≡ false
not_end l small some =
    elim (cases_Bool (bytes_eq (literal_word l) end_word)) [
      | inl ends ↦
          let is_end : literal_word l ≡ end_word = (bytes_eq-Decides (literal_word l) end_word).0 ends in
          let bad : None ≡ Some l = sym no_end ∙ ap literal_of (sym is_end) ∙ literal_again l small some in absurd cc
      | inr other ↦ other
    ]

not_end_hint : (n : ℕ) → Is32 n → 0 < n → bytes_eq (decimal n) end_word ≡ false
not_end_hint n small some =
    elim (cases_Bool (bytes_eq (decimal n) end_word)) [
      | inl ends ↦
          let is_end : decimal n ≡ end_word = (bytes_eq-Decides (decimal n) end_word).0 ends in
          let bad : None ≡ Some n = sym no_hint ∙ ap positive_of (sym is_end) ∙ positive_again n small some in absurd cc
      | inr other ↦ other
    ]

literals_again : (front lits : List Lit) (rest : List Word) → AreLits lits → literals_onto front (map literal_word lits ++ end_word ∷ rest) ≡ Some (front ++ lits, rest)
literals_again front [] rest are = ap (λ (ls : List Lit). Some (ls, rest)) (sym (append-nil front))
literals_again front (l ∷ lits) rest are =
    rw (not_end l are.1.0 are.0.0, literal_again l are.1.0 are.0.0)
    (literals_again (front ++ l ∷ []) lits rest (are.0.1, are.1.1) ∙ ap (λ (ls : List Lit). Some (ls, rest)) (append_assoc front (l ∷ []) lits))

abbrev AreHints : List ℕ → Type 0
AreHints hints = AreNumbers hints × AllByRecursion Is32 hints

record HintsAreRead (front : List ℕ) (words : List Word) (found : List ℕ × List Word) : Type 0 where
  more : List ℕ
  items : found.0 ≡ front ++ more
  spelled : words ≡ map decimal more ++ end_word ∷ found.1
  hints : AreHints more

hints_in : (front : List ℕ) (words : List Word) (found : List ℕ × List Word) → hints_onto front words ≡ Some found → HintsAreRead front words found
hints_in front [] found e = absurd cc
hints_in front (word ∷ words) found e =
    elim (cases_Bool (bytes_eq word end_word)) [
      | inl ends ↦
          let same : (front, words) ≡ found = some_is (front, words) found (rw ends at e) in
          let is_end = (bytes_eq-Decides word end_word).0 ends in
          subst (λ (f : List ℕ × List Word). HintsAreRead front (word ∷ words) f) same
          (record { more = []; items = sym (append-nil front); spelled = ap (λ w. w ∷ words) is_end; hints = (tt, tt) })
      | inr other ↦
          let first = bind_some (positive_of word) (λ hint. hints_onto (front ++ hint ∷ []) words) found (rw other at e) in
          let n = first.0 in
          let is = positive_is word n first.1 in
          let rest = hints_in (front ++ n ∷ []) words found first.2 in
          record {
            more = n ∷ rest.more;
            items = rest.items ∙ append_assoc front (n ∷ []) rest.more;
            spelled = ap (λ w. w ∷ words) is.0 ∙ ap (λ ws. decimal n ∷ ws) rest.spelled;
            hints = ((is.2, rest.hints.0), (is.1, rest.hints.1));
          }
    ]

hints_again : (front hints : List ℕ) (rest : List Word) → AreHints hints → hints_onto front (map decimal hints ++ end_word ∷ rest) ≡ Some (front ++ hints, rest)
hints_again front [] rest are = ap (λ (ns : List ℕ). Some (ns, rest)) (sym (append-nil front))
hints_again front (n ∷ hints) rest are =
    rw (not_end_hint n are.1.0 are.0.0, positive_again n are.1.0 are.0.0)
    (hints_again (front ++ n ∷ []) hints rest (are.0.1, are.1.1) ∙ ap (λ (ns : List ℕ). Some (ns, rest)) (append_assoc front (n ∷ []) hints))

whole_is : {A : Type 0} (found : A × List Word) (x : A) → whole found ≡ Some x → (found.0 ≡ x) × (found.1 ≡ [])
whole_is (y, []) x e = (some_is y x e, refl)
whole_is (y, word ∷ words) x e = absurd cc

-- the literals of a cube are read from their words
pub cube_is : (words : List Word) (lits : List Lit) → cube_of words ≡ Some lits → (clause_words lits ≡ words) × AreLits lits
unfolding cube_of
cube_is words lits e =
    let found = bind_some (literals_onto [] words) whole lits e in
    let read = literals_in [] words found.0 found.1 in
    let ends = whole_is found.0 lits found.2 in
    let same : read.more ≡ lits = sym read.items ∙ ends.0 in
    let spelled : clause_words read.more ≡ words = sym (read.spelled ∙ ap (λ ws. map literal_word read.more ++ end_word ∷ ws) ends.1) in
    subst (λ (ls : List Lit). (clause_words ls ≡ words) × AreLits ls) same (spelled, read.lits)

pub cube_again : (lits : List Lit) → AreLits lits → cube_of (clause_words lits) ≡ Some lits
unfolding cube_of
cube_again lits are = rw (literals_again [] lits [] are) refl

pub step_again : (step : Step) → AreLits step.clause → AreHints step.hints → step_of (clause_words step.clause ++ hint_words step.hints) ≡ Some step
unfolding step_of
step_again step lits hints =
    rw (append_assoc (map literal_word step.clause) (end_word ∷ []) (hint_words step.hints))
    (rw (literals_again [] step.clause (hint_words step.hints) lits, hints_again [] step.hints [] hints) refl)

pub step_is : (words : List Word) (step : Step) → step_of words ≡ Some step → (clause_words step.clause ++ hint_words step.hints ≡ words) × AreLits step.clause × AreHints step.hints
unfolding step_of
step_is words step e =
    let a = bind_some (literals_onto [] words) (λ found. hints_onto [] found.1 >>= whole >>= λ hints. Some (record { clause = found.0; hints = hints })) step e in
    let b = bind_some (hints_onto [] a.0.1 >>= whole) (λ hints. Some (record { clause = a.0.0; hints = hints })) step a.2 in
    let c = bind_some (hints_onto [] a.0.1) whole b.0 b.1 in
    let lits = literals_in [] words a.0 a.1 in
    let hints = hints_in [] a.0.1 c.0 c.1 in
    let ends = whole_is c.0 b.0 c.2 in
    let made : Step = record { clause = a.0.0; hints = b.0 } in
    let same : made ≡ step = some_is made step b.2 in
    let same_lits : lits.more ≡ step.clause = sym lits.items ∙ ap (λ (s : Step). s.clause) same in
    let same_hints : hints.more ≡ step.hints = sym hints.items ∙ ends.0 ∙ ap (λ (s : Step). s.hints) same in
    let rest : a.0.1 ≡ hint_words hints.more = hints.spelled ∙ ap (λ ws. map decimal hints.more ++ end_word ∷ ws) ends.1 in
    let spelled : clause_words lits.more ++ hint_words hints.more ≡ words =
    append_assoc (map literal_word lits.more) (end_word ∷ []) (hint_words hints.more) ∙ ap (λ ws. map literal_word lits.more ++ end_word ∷ ws) (sym rest) ∙ sym lits.spelled in
    subst (λ (ls : List Lit). (clause_words ls ++ hint_words step.hints ≡ words) × AreLits ls × AreHints step.hints) same_lits
    (subst (λ (ns : List ℕ). (clause_words lits.more ++ hint_words ns ≡ words) × AreLits lits.more × AreHints ns) same_hints (spelled, lits.lits, hints.hints))

cmp_same : (a b : ℕ) → eq_by_cmp nat_cmp a b ≡ true → a ≡ b
cmp_same a b h = grind (arith, nat_tests)

cmp_refl : (a : ℕ) → eq_by_cmp nat_cmp a a ≡ true
cmp_refl a = grind (arith, nat_tests)

cmp_apart : (a b : ℕ) → a ≢ b → eq_by_cmp nat_cmp a b ≡ false
cmp_apart a b h = elim (cases_Bool (eq_by_cmp nat_cmp a b)) [ inl same ↦ absurd (h (cmp_same a b same)) | inr other ↦ other ]

apart_from_count : (lits : List Lit) → are_apart lits ≡ true → IsApart lits
unfolding are_apart
apart_from_count lits h = λ i j d lower within same.
    let vars = map (λ (l : Lit). l.var) lits in
    let many : length vars ≡ length lits = length-map lits (λ (l : Lit). l.var) in
    let count : distinct_count (eq_by_cmp nat_cmp) vars ≡ length vars = eqb-true _ _ h ∙ sym many in
    let apart = apart_from_distinct (eq_by_cmp nat_cmp) vars i j d.var (IsDistinct-from_count (eq_by_cmp_equiv nat_cmp_total) vars count) lower (omega arith) in
    let first = get_or-map (λ (l : Lit). l.var) lits i d d.var (omega arith) in
    let second = get_or-map (λ (l : Lit). l.var) lits j d d.var within in
    let one : eq_by_cmp nat_cmp (get_or vars i d.var) (get_or vars j d.var) ≡ true = rw (first, second, same) (cmp_refl (get_or lits j d).var) in
    let bad : true ≡ false = sym one ∙ apart in
    absurd cc

count_from_apart : (lits : List Lit) → IsApart lits → are_apart lits ≡ true
unfolding are_apart
count_from_apart lits h =
    let vars = map (λ (l : Lit). l.var) lits in
    let many : length vars ≡ length lits = length-map lits (λ (l : Lit). l.var) in
    let distinct = IsDistinct-from_apart (eq_by_cmp nat_cmp) vars (λ i j d lower within.
    let e : Lit = record { var = d; positive = true } in
    let first = get_or-map (λ (l : Lit). l.var) lits i e d (omega arith) in
    let second = get_or-map (λ (l : Lit). l.var) lits j e d (omega arith) in
    rw (first, second) (cmp_apart (get_or lits i e).var (get_or lits j e).var (h i j e lower (omega arith)))) in
    eq-eqb _ _ (distinct_count-from_IsDistinct (eq_by_cmp_equiv nat_cmp_total) vars distinct ∙ many)

pub clause_is : (words : List Word) (lits : List Lit) → clause_of words ≡ Some lits → (clause_words lits ≡ words) × AreLits lits × IsApart lits
unfolding clause_of
clause_is words lits e =
    let found = bind_some (cube_of words) if_apart lits e in
    let is = cube_is words found.0 found.1 in
    elim (cases_Bool (are_apart found.0)) [
      | inl apart ↦
          let same : found.0 ≡ lits = some_is found.0 lits (rw apart at found.2) in
          subst (λ (ls : List Lit). (clause_words ls ≡ words) × AreLits ls × IsApart ls) same (is.0, is.1, apart_from_count found.0 apart)
      | inr twice ↦ let bad : None ≡ Some lits = rw twice at found.2 in absurd cc
    ]

pub clause_again : (lits : List Lit) → AreLits lits → IsApart lits → clause_of (clause_words lits) ≡ Some lits
unfolding clause_of
clause_again lits are apart = rw (cube_again lits are, count_from_apart lits apart) refl
