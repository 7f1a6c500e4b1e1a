-- Of the faults of a text that is read one decides, or there is none.
use Rattle.std.proofs.Common.{◌≡◌, ℕ, zero, suc, ◌-◌, ◌≤◌, ◌<◌, Bool, true, false, IsTrue, nat_le, List, [], ◌∷◌, ◌++◌, length, take, Option, Some, None, append_assoc, sym, refl, ap, ◌∙◌, arith, subst, ◌⊎◌, inl, inr}
use Rattle.std.specs.Prelude.{IsUtf8, slice_get, if◌then◌else◌}
use Rattle.std.specs.Str.{IsValidUpTo, is_utf8}
use Rattle.std.proofs.lemmas.Bool.{cases_Bool, cases_lt}
use Rattle.std.proofs.lemmas.List.{append-nil, take_all}
use Rattle.std.proofs.lemmas.Str.{IsUtf8-nil, IsUtf8-from_is_utf8, is_utf8-from_IsUtf8}
use Rattle.tg_base.specs.declared.place.Span.{Span}
use Rattle.tg_base.specs.declared.place.Refusal.{Refusal}
use Rattle.tg_base.specs.declared.place.Code.TheVariants.{NotText, Lex, Directive as DirectiveCode, Limit}
use Rattle.tg_base.specs.Code.{number_of}
use Rattle.tg_base.specs.Deciding.{DecidesOver, IsDeciding}
use Rattle.p4_lexer.specs.declared.limits.TheConstants.{MAX_WORDS, MAX_WEIGHT}
use Rattle.p4_lexer.specs.Bytes.{hash}
use Rattle.p4_lexer.specs.Places.{place_after}
use Rattle.p4_lexer.specs.Cuts.{Cut, bytes_of}
use Rattle.p4_lexer.specs.Scope.{Scope, Condition, outermost, is_taken, belongs}
use Rattle.p4_lexer.specs.Parts.{Part, Piece, Line, Skipped, part_bytes, scope_behind}
use Rattle.p4_lexer.specs.Replacement.{Item}
use Rattle.p4_lexer.specs.Annotations.{Entry}
use Rattle.p4_lexer.specs.Weight.{word_of, weight, within}
use Rattle.p4_lexer.specs.Tokens.{Reading, IsBadPiece, HasBadPiece, IsPartFault, IsPastCount, IsPastWeight, IsFault, refusal_at, entry_place, text_of, scope_before}
use Rattle.p4_lexer.specs.PartFaults.{IsBadInLine, FaultHere, FaultsOf, IsNoText, IsNotEnded, IsOneOf}
use Rattle.p4_lexer.specs.Scanning.{IsFirstOf}
use Rattle.p4_lexer.proofs.BadPieceLemmas.{kind_bad_or_not}
use Rattle.p4_lexer.proofs.FirstFaultLemmas.{over_itself, first_of_both, first_same, first_alone}
use Rattle.p4_lexer.proofs.OpenFaultLemmas.{all_text, no_text_from}
use Rattle.p4_lexer.proofs.PartFaultLemmas.{ByParts, by_parts, of_parts}
use Rattle.p4_lexer.proofs.ScanningLemmas.{some_is, first_is, rest_is, none_past, one_past}
use Rattle.p4_lexer.proofs.HeavyLemmas.{weight_decides}
use Rattle.p4_lexer.proofs.SnocLemmas.{middle_not_nil}

-- one of the faults decides, or there is none
abbrev HasFirst : (Refusal → Type 0) → Type 0
HasFirst faults = (r : Option Refusal) × IsFirstOf faults r

-- of two faults one decides over the other
decides_or : (r s : Refusal) → DecidesOver r s ⊎ DecidesOver s r
decides_or r s = elim (cases_lt r.line s.line) [
  | inl above ↦ inl (inl (inl above))
  | inr not_above ↦ elim (cases_lt s.line r.line) [
    | inl below ↦ inr (inl (inl below))
    | inr not_below ↦ by_column (omega (arith, not_above, not_below))
  ]
] where
  by_code : r.line ≡ s.line → r.column ≡ s.column → DecidesOver r s ⊎ DecidesOver s r
  by_code line column = elim (cases_lt (number_of r.code) (number_of s.code)) [
    | inl lower ↦ inl (inr (line, column, omega (arith, lower)))
    | inr higher ↦ inr (inr (sym line, sym column, higher))
  ]

  by_column : r.line ≡ s.line → DecidesOver r s ⊎ DecidesOver s r
  by_column line = elim (cases_lt r.column s.column) [
    | inl before ↦ inl (inl (inr (line, before)))
    | inr not_before ↦ elim (cases_lt s.column r.column) [
      | inl behind ↦ inr (inl (inr (sym line, behind)))
      | inr not_behind ↦ by_code line (omega (arith, not_before, not_behind))
    ]
  ]

one_of : (a b : Option Refusal) → (r : Option Refusal) × IsOneOf a b r
one_of None None = (None, (refl, refl))
one_of (Some a) None = (Some a, (inl refl, over_itself a a refl, tt))
one_of None (Some b) = (Some b, (inr refl, tt, over_itself b b refl))
one_of (Some a) (Some b) = elim (decides_or a b) [
  | inl first ↦ (Some a, (inl refl, over_itself a a refl, first))
  | inr second ↦ (Some b, (inr refl, second, over_itself b b refl))
]

both : (faults others : Refusal → Type 0) → HasFirst faults → HasFirst others → HasFirst (λ f. faults f ⊎ others f)
both faults others (a, first) (b, second) = let one = one_of a b in (one.0, first_of_both faults others a b one.0 first second one.1)

same : (faults others : Refusal → Type 0) → ((f : Refusal) → faults f → others f) → ((f : Refusal) → others f → faults f) → HasFirst faults → HasFirst others
same faults others into back (r, first) = (r, first_same faults others r into back first)

no_fault : (faults : Refusal → Type 0) → ((f : Refusal) → ¬ faults f) → HasFirst faults
no_fault faults none = (None, λ f found. none f found)

-- one fault, where this holds
one_if : (P : Type 0) (r : Refusal) → P ⊎ ¬ P → HasFirst (λ f. P × (f ≡ r))
one_if P r (inl holds) = (Some r, first_alone (λ f. P × (f ≡ r)) r (holds, refl) (λ f e. e.1))
one_if P r (inr fails) = (None, λ f found. fails found.0)

when : (b : Bool) (faults : Refusal → Type 0) → HasFirst faults → HasFirst (λ f. IsTrue b × faults f)
when true faults (r, first) = (r, first_same faults (λ f. IsTrue true × faults f) r (λ f found. (refl, found)) (λ f found. found.1) first)
when false faults (r, first) = (None, λ f found. let h : false ≡ true = found.0 in cc)

-- pieces in a row behind some bytes, of which one is bad
abbrev BadFrom : List ℕ → List Cut → List ℕ → Refusal → Type 0
BadFrom front pieces left f = (inside : List ℕ) × HasBadPiece pieces left inside × (f ≡ refusal_at Lex (place_after (front ++ inside)))

abbrev BadFirst : List ℕ → Cut → List Cut → List ℕ → Refusal → Type 0
BadFirst front c cuts left f = (IsBadPiece c (bytes_of cuts ++ left) × (f ≡ refusal_at Lex (place_after front))) ⊎ BadFrom (front ++ c.bytes) cuts left f

at_bytes : (f : Refusal) (xs ys : List ℕ) → f ≡ refusal_at Lex (place_after xs) → xs ≡ ys → f ≡ refusal_at Lex (place_after ys)
at_bytes f xs ys e move = e ∙ ap (λ zs. refusal_at Lex (place_after zs)) move

bad_into : (front : List ℕ) (c : Cut) (cuts : List Cut) (left : List ℕ) (f : Refusal) → BadFirst front c cuts left f → BadFrom front (c ∷ cuts) left f
bad_into front c cuts left f (inl (bad, e)) = (
  [],
  record { earlier = []; bad = c; later = cuts; spelled = refl; place = refl; is_bad = bad },
  at_bytes f front (front ++ []) e (sym (append-nil front)),
)
bad_into front c cuts left f (inr (inside, h, e)) = (
  c.bytes ++ inside,
  record { earlier = c ∷ h.earlier; bad = h.bad; later = h.later; spelled = ap (λ cs. c ∷ cs) h.spelled; place = ap (λ xs. c.bytes ++ xs) h.place; is_bad = h.is_bad },
  at_bytes f ((front ++ c.bytes) ++ inside) (front ++ (c.bytes ++ inside)) e (append_assoc front c.bytes inside),
)

bad_by : (front : List ℕ) (c : Cut) (cuts : List Cut) (left : List ℕ) (f : Refusal) (earlier : List Cut) (bad : Cut) (later : List Cut) (inside : List ℕ)
    → c ∷ cuts ≡ earlier ++ bad ∷ later → inside ≡ bytes_of earlier → IsBadPiece bad (bytes_of later ++ left) → f ≡ refusal_at Lex (place_after (front ++ inside))
    → BadFirst front c cuts left f
bad_by front c cuts left f [] bad later inside spelled place is_bad e =
    let first : c ≡ bad = first_is c bad cuts later spelled in
    let rest : cuts ≡ later = rest_is c bad cuts later spelled in
    inl (
      subst (λ b. IsBadPiece b (bytes_of cuts ++ left)) (sym first) (subst (λ cs. IsBadPiece bad (bytes_of cs ++ left)) (sym rest) is_bad),
      at_bytes f (front ++ inside) front e (ap (λ xs. front ++ xs) place ∙ append-nil front),
    )
bad_by front c cuts left f (d ∷ earlier) bad later inside spelled place is_bad e =
    let first : c ≡ d = first_is c d cuts (earlier ++ bad ∷ later) spelled in
    inr (
      bytes_of earlier,
      record { earlier = earlier; bad = bad; later = later; spelled = rest_is c d cuts (earlier ++ bad ∷ later) spelled; place = refl; is_bad = is_bad },
      at_bytes f (front ++ inside) ((front ++ c.bytes) ++ bytes_of earlier) e
          (ap (λ xs. front ++ xs) (place ∙ ap (λ (x : Cut). x.bytes ++ bytes_of earlier) (sym first)) ∙ sym (append_assoc front c.bytes (bytes_of earlier))),
    )

bad_first : (front : List ℕ) (pieces : List Cut) (left : List ℕ) → HasFirst (BadFrom front pieces left)
bad_first front [] left = no_fault (BadFrom front [] left) (λ f found. let h = found.1 in middle_not_nil h.earlier h.bad h.later h.spelled)
bad_first front (c ∷ cuts) left =
    let place = refusal_at Lex (place_after front) in
    same (BadFirst front c cuts left) (BadFrom front (c ∷ cuts) left)
    (λ f found. bad_into front c cuts left f found)
    (λ f found. let h = found.1 in bad_by front c cuts left f h.earlier h.bad h.later found.0 h.spelled h.place h.is_bad found.2)
    (both (λ f. IsBadPiece c (bytes_of cuts ++ left) × (f ≡ place)) (BadFrom (front ++ c.bytes) cuts left)
    (one_if (IsBadPiece c (bytes_of cuts ++ left)) place (kind_bad_or_not c.kind (bytes_of cuts ++ left))) (bad_first (front ++ c.bytes) cuts left))

-- the pieces behind the `#` of a line
line_first : (before lead : List ℕ) (pieces : List Cut) (left : List ℕ) → HasFirst (IsBadInLine before lead pieces left)
line_first before lead pieces left = same (BadFrom front pieces left) (IsBadInLine before lead pieces left)
    (λ f found. record { inside = found.0; bad = found.1; refusal = at_bytes f (front ++ found.0) (before ++ lead ++ hash ∷ found.0) found.2 (joined found.0) })
    (λ f found. (found.inside, found.bad, at_bytes f (before ++ lead ++ hash ∷ found.inside) (front ++ found.inside) found.refusal (sym (joined found.inside))))
    (bad_first front pieces left) where
      front : List ℕ
      front = before ++ lead ++ hash ∷ []

      joined : (inside : List ℕ) → (before ++ lead ++ hash ∷ []) ++ inside ≡ before ++ lead ++ hash ∷ inside
      joined inside = append_assoc (before ++ lead) (hash ∷ []) inside

false_or : (b : Bool) → (b ≡ false) ⊎ ¬ (b ≡ false)
false_or true = inr (λ e. cc)
false_or false = inl refl

part_first : (before : List ℕ) (scope : Scope) (p : Part) (left : List ℕ) → HasFirst (FaultHere before scope p left)
part_first before scope (Piece c) left = one_if (IsBadPiece c left) (refusal_at Lex (place_after before)) (kind_bad_or_not c.kind left)
part_first before scope (Line lead pieces None) left =
    let r = refusal_at DirectiveCode (place_after (before ++ lead)) in (Some r, first_alone (λ f. f ≡ r) r refl (λ f e. e))
part_first before scope (Line lead pieces (Some d)) left =
    let r = refusal_at DirectiveCode (place_after (before ++ lead)) in
    let taken = is_taken (scope_behind before scope (Line lead pieces (Some d))) in
    both (λ f. IsTrue taken × IsBadInLine before lead pieces left f) (λ f. (belongs scope d ≡ false) × (f ≡ r))
    (when taken (IsBadInLine before lead pieces left) (line_first before lead pieces left)) (one_if (belongs scope d ≡ false) r (false_or (belongs scope d)))
part_first before scope (Skipped bytes) left = (None, λ f found. found)

parts_first : (before : List ℕ) (scope : Scope) (parts : List Part) (left : List ℕ) → HasFirst (FaultsOf before scope parts left)
parts_first before scope [] left = (None, λ f found. found)
parts_first before scope (p ∷ parts) left =
    both (FaultHere before scope p (text_of parts ++ left)) (FaultsOf (before ++ part_bytes p) (scope_behind before scope p) parts left)
    (part_first before scope p (text_of parts ++ left)) (parts_first (before ++ part_bytes p) (scope_behind before scope p) parts left)

-- conditions that are not ended
abbrev OpenFirst : Condition → List Condition → Refusal → Type 0
OpenFirst c cs f = (f ≡ refusal_at DirectiveCode c.place) ⊎ IsNotEnded cs f

open_into : (c : Condition) (cs : List Condition) (f : Refusal) → OpenFirst c cs f → IsNotEnded (c ∷ cs) f
open_into c cs f (inl e) = record { inner = []; condition = c; outer = cs; spelled = refl; refusal = e }
open_into c cs f (inr n) = record { inner = c ∷ n.inner; condition = n.condition; outer = n.outer; spelled = ap (λ xs. c ∷ xs) n.spelled; refusal = n.refusal }

open_by : (c : Condition) (cs : List Condition) (f : Refusal) (inner : List Condition) (d : Condition) (outer : List Condition) → c ∷ cs ≡ inner ++ d ∷ outer → f ≡ refusal_at DirectiveCode d.place → OpenFirst c cs f
open_by c cs f [] d outer spelled e = inl (e ∙ ap (λ (x : Condition). refusal_at DirectiveCode x.place) (sym (first_is c d cs outer spelled)))
open_by c cs f (b ∷ inner) d outer spelled e = inr (record { inner = inner; condition = d; outer = outer; spelled = rest_is c b cs (inner ++ d ∷ outer) spelled; refusal = e })

open_first : (conditions : List Condition) → HasFirst (IsNotEnded conditions)
open_first [] = no_fault (IsNotEnded []) (λ f n. middle_not_nil n.inner n.condition n.outer n.spelled)
open_first (c ∷ cs) =
    let r = refusal_at DirectiveCode c.place in
    same (OpenFirst c cs) (IsNotEnded (c ∷ cs)) (λ f found. open_into c cs f found) (λ f n. open_by c cs f n.inner n.condition n.outer n.spelled n.refusal)
    (both (λ f. f ≡ r) (IsNotEnded cs) (Some r, first_alone (λ f. f ≡ r) r refl (λ f e. e)) (open_first cs))

-- the longest front of so many bytes at most that is text
record LongestFront (text : List ℕ) (most : ℕ) : Type 0 where
  len : ℕ
  is_text : IsUtf8 (take len text)
  longest : (n : ℕ) → len < n → n ≤ most → ¬ IsUtf8 (take n text)

longest_front : (text : List ℕ) (most : ℕ) → LongestFront text most
longest_front text zero = record { len = 0; is_text = IsUtf8-nil; longest = λ n above within_it. absurd (omega (arith, above, within_it)) }
longest_front text (suc most) = elim (cases_Bool (is_utf8 (take (suc most) text))) [
  | inl is ↦ record { len = suc most; is_text = IsUtf8-from_is_utf8 (take (suc most) text) is; longest = λ n above within_it. absurd (omega (arith, above, within_it)) }
  | inr is_not ↦ shorter (longest_front text most) is_not
] where
  shorter : LongestFront text most → is_utf8 (take (suc most) text) ≡ false → LongestFront text (suc most)
  shorter front is_not = record {
    len = front.len;
    is_text = front.is_text;
    longest = λ n above within_it is. elim (cases_lt most n) [
      | inl last ↦
          let all : n ≡ suc most = omega (arith, last, within_it) in
          let h : true ≡ false = sym (is_utf8-from_IsUtf8 (take (suc most) text) (subst (λ k. IsUtf8 (take k text)) all is)) ∙ is_not in cc
      | inr earlier ↦ front.longest n above earlier is
    ];
  }

text_or : (text : List ℕ) → IsUtf8 text ⊎ ((n : ℕ) × IsValidUpTo text n)
text_or text =
    let front = longest_front text (length text) in
    elim (cases_lt front.len (length text)) [
      | inr whole ↦ inl (subst IsUtf8 (take_all front.len text whole) front.is_text)
      | inl short ↦ inr (
        front.len,
        record {
          short = short;
          front = front.is_text;
          longest = λ n above is. elim (cases_lt (length text) n) [
            | inr within_it ↦ front.longest n above within_it is
            | inl past ↦ front.longest (length text) short (omega arith) (subst IsUtf8 (take_all n text (omega (arith, past)) ∙ sym (take_all (length text) text (omega arith))) is)
          ];
        },
      )
    ]

bytes_first : (text : List ℕ) → HasFirst (IsNoText text)
bytes_first text = elim (text_or text) [
  | inl is ↦ (None, all_text text is)
  | inr stops ↦ (Some (refusal_at NotText (place_after (take stops.0 text))), no_text_from text stops.0 (refusal_at NotText (place_after (take stops.0 text))) stops.1 refl)
]

part_faults_first : (text : List ℕ) (parts : List Part) → HasFirst (IsPartFault text parts)
part_faults_first text parts =
    let conditions = (scope_before parts).conditions in
    same (ByParts text parts) (IsPartFault text parts) (λ f found. of_parts text parts f found) (λ f found. by_parts text parts f found)
    (both (IsNoText text) (λ f. FaultsOf [] outermost parts [] f ⊎ IsNotEnded conditions f) (bytes_first text)
    (both (FaultsOf [] outermost parts []) (IsNotEnded conditions) (parts_first [] outermost parts []) (open_first conditions)))

count_first : (entries : List Entry) → HasFirst (IsPastCount entries)
count_first entries = by (slice_get entries MAX_WORDS) refl where
  by : (next : Option Entry) → slice_get entries MAX_WORDS ≡ next → HasFirst (IsPastCount entries)
  by None e = (None, none_past entries e)
  by (Some next) e = (Some (refusal_at Limit (entry_place next)), one_past entries next e)

-- what is within a weight stands first
rest_behind : (items : List Item) (most : ℕ) → (more : List Item) × (items ≡ within most items ++ more)
rest_behind [] most = ([], refl)
rest_behind (i ∷ items) most = by_test (rest_behind items (most - weight i)) (nat_le (weight i) most) where
  by_test : ((more : List Item) × (items ≡ within (most - weight i) items ++ more)) → (b : Bool)
      → (more : List Item) × (i ∷ items ≡ (if b then i ∷ within (most - weight i) items else []) ++ more)
  by_test rest true = (rest.0, ap (λ is. i ∷ is) rest.1)
  by_test rest false = (i ∷ items, refl)

weight_by : (items more : List Item) → items ≡ within MAX_WEIGHT items ++ more → HasFirst (IsPastWeight items)
weight_by items [] spelled = (None, weight_decides items None None (spelled ∙ append-nil (within MAX_WEIGHT items)) (λ p e. absurd cc) (λ e. refl))
weight_by items (next ∷ more) spelled =
    let p : Span = (word_of next).place in
    (Some (refusal_at Limit p), weight_decides items (Some p) (Some (refusal_at Limit p)) (next, more, spelled, refl) (λ q e. ap (λ x. Some (refusal_at Limit x)) (some_is p q e)) (λ e. absurd cc))

weight_first : (items : List Item) → HasFirst (IsPastWeight items)
weight_first items = let rest = rest_behind items MAX_WEIGHT in weight_by items rest.0 rest.1

-- one of the faults of a text decides, or it has none
first_fault : (text : List ℕ) (reading : Reading text) → HasFirst (IsFault text reading)
first_fault text reading =
    both (IsPartFault text reading.parts) (λ f. IsPastCount reading.entries f ⊎ IsPastWeight reading.items f) (part_faults_first text reading.parts)
    (both (IsPastCount reading.entries) (IsPastWeight reading.items) (count_first reading.entries) (weight_first reading.items))

pub faultless_or_decided : (text : List ℕ) (reading : Reading text) → ((fault : Refusal) → IsFault text reading fault → ⊥) ⊎ ((fault : Refusal) × IsDeciding (IsFault text reading) fault)
faultless_or_decided text reading = by (first_fault text reading) where
  by : HasFirst (IsFault text reading) → ((fault : Refusal) → IsFault text reading fault → ⊥) ⊎ ((fault : Refusal) × IsDeciding (IsFault text reading) fault)
  by (None, none) = inl none
  by (Some fault, first) = inr (fault, first)
