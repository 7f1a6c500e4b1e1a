-- How far the words have become tokens, one token further.
use Rattle.std.proofs.Common.{◌≡◌, ℕ, ◌-◌, ◌<◌, ◌≤◌, zero, suc, arith, map, true, false, ◌&&◌, Decides, List, [], ◌∷◌, ◌++◌, length, take, drop, append_assoc, refl, sym, ap, ◌∙◌, subst, inl, inr, ◌⊎◌}
use Rattle.std.proofs.lemmas.Bool.{false≢true, and_parts, eqb-true}
use Rattle.std.proofs.lemmas.List.{length-take, length-drop, drop-drop, drop_all, append-nil}
use Rattle.p4_lexer.specs.declared.piece.Kind.TheVariants.{Sign as SignPiece}
use Rattle.p4_lexer.specs.declared.extents.Bare.{Bare as BareAt}
use Rattle.p4_lexer.specs.declared.extents.Bare.TheVariants.{Plain as PlainAt}
use Rattle.p4_lexer.specs.declared.extents.WordAt.{WordAt}
use Rattle.p4_lexer.specs.declared.token.Token.{Token}
use Rattle.p4_lexer.specs.declared.token.Word.TheVariants.{CloseArguments}
use Rattle.p4_lexer.specs.declared.token.Sign.TheVariants.{Greater, Assign}
use Rattle.p4_lexer.specs.declared.marks.Marker.{Marker}
use Rattle.p4_lexer.specs.Bytes.{greater}
use Rattle.p4_lexer.specs.Signs.{IsSign}
use Rattle.p4_lexer.specs.Cuts.{Cut}
use Rattle.p4_lexer.specs.SourceWords.{Placed}
use Rattle.p4_lexer.specs.Spellings.{sign_spelling}
use Rattle.p4_lexer.specs.Annotations.{Bare, Plain}
use Rattle.p4_lexer.specs.Brackets.{InArguments}
use Rattle.p4_lexer.specs.Extents.{IsIn, bytes_at, placed_at, bare_at}
use Rattle.p4_lexer.specs.BareWords.{IsWord}
use Rattle.p4_lexer.specs.Behind.{behind_of, in_arguments}
use Rattle.p4_lexer.specs.Marks.{IsMarkOf, BeginsWithGreater, left_of, next_byte, place_of, Become}
use Rattle.p4_lexer.specs.Marking.{IsBareOf, Follows, Reaches, Leads, IsNotCut, head_is_greater, is_sign_kind, begins_with_greater, left_word, left_place}
use Rattle.p4_lexer.proofs.OpenLemmas.{in_arguments_decides}
use Rattle.p4_lexer.proofs.NextLemmas.{sign_kind_decides, same_cut}
use Rattle.p4_lexer.proofs.BecomeLemmas.{left_is}

one_more : (all before more : List Token) (t : Token) → before ++ t ∷ more ≡ (before ++ t ∷ []) ++ more
one_more all before more t = sym (append_assoc before (t ∷ []) more)

pub leads_whole : (before : List Token) (b : Bare) (words : List Bare) (t : Token) → IsNotCut before b → IsMarkOf before b words t.word → t.span ≡ place_of b → Leads before (b ∷ words) (before ++ t ∷ []) words
leads_whole before b words t not_cut mark place all reach more become =
    subst (Become [] all) (one_more before before more t) (reach (t ∷ more) (Become.whole before b words t more not_cut mark place become))

pub leads_cut : (before : List Token) (w : Placed) (left : List ℕ) (words : List Bare) (t : Token) → BeginsWithGreater w left → InArguments before → t.word ≡ CloseArguments → t.span ≡ w.place
    → Leads before (Plain w ∷ words) (before ++ t ∷ []) (left_of w left ++ words)
leads_cut before w left words t begins inside closes place all reach more become =
    subst (Become [] all) (one_more before before more t) (reach (t ∷ more) (Become.cut before w left words t more begins inside closes place become))

-- the code's test for a cut
head_greater : (bytes : List ℕ) → head_is_greater bytes ≡ true → (left : List ℕ) × (bytes ≡ greater ∷ left)
head_greater [] e = absurd (false≢true e)
head_greater (c ∷ left) e = (left, ap (λ d. d ∷ left) (eqb-true c greater e))

pub cut_begins : (w : Placed) → begins_with_greater w.cut ≡ true → (left : List ℕ) × BeginsWithGreater w left
cut_begins w e =
    let both = and_parts (is_sign_kind w.cut.kind) (head_is_greater w.cut.bytes) e in
    let left = head_greater w.cut.bytes both.1 in
    (left.0, record { spelled = same_cut w.cut (record { kind = SignPiece; bytes = greater ∷ left.0 }) ((sign_kind_decides w.cut.kind).0 both.0) left.1 })

pub begins_cut : (w : Placed) (left : List ℕ) → BeginsWithGreater w left → begins_with_greater w.cut ≡ true
begins_cut w left g = ap begins_with_greater g.spelled

pub inside_is : (m : Marker) → Follows m → Decides (in_arguments (behind_of m.kept).open_) (InArguments m.tokens)
inside_is m f = subst (λ b. Decides (in_arguments b.open_) (InArguments m.tokens)) (sym f.kept_is) (in_arguments_decides m.tokens)

-- the test is not passed where nothing is cut
pub not_cut_by : (m : Marker) (w : Placed) (left : List ℕ) → Follows m → (in_arguments (behind_of m.kept).open_ && begins_with_greater w.cut) ≡ false → BeginsWithGreater w left → InArguments m.tokens → ⊥
not_cut_by m w left f e g i = false≢true (sym e ∙ ap (λ b. b && begins_with_greater w.cut) ((inside_is m f).1 i) ∙ begins_cut w left g)

pub cut_by : (m : Marker) (w : Placed) → Follows m → (in_arguments (behind_of m.kept).open_ && begins_with_greater w.cut) ≡ true → InArguments m.tokens × ((left : List ℕ) × BeginsWithGreater w left)
cut_by m w f e =
    let both = and_parts (in_arguments (behind_of m.kept).open_) (begins_with_greater w.cut) e in
    ((inside_is m f).0 both.0, cut_begins w both.1)

-- the bytes behind the first
tail_by : (xs : List ℕ) (n c : ℕ) (left : List ℕ) → take n xs ≡ c ∷ left → take (n - 1) (drop 1 xs) ≡ left
tail_by xs zero c left e = absurd (let h : [] ≡ c ∷ left = e in cc)
tail_by [] (suc n) c left e = absurd (let h : [] ≡ c ∷ left = e in cc)
tail_by (x ∷ xs) (suc n) c left e =
    let h : x ∷ take n xs ≡ c ∷ left = e in
    let rest : take n xs ≡ left = cc in
    let less : suc n - 1 ≡ n = omega arith in
    rw less rest

bytes_of_sign : (text : List ℕ) (w : WordAt) (left : List ℕ) → BeginsWithGreater (placed_at text w) left → bytes_at text w.piece.extent ≡ greater ∷ left
bytes_of_sign text w left g = ap (λ (c : Cut). c.bytes) g.spelled

left_bytes : (text : List ℕ) (w : WordAt) (left : List ℕ) → BeginsWithGreater (placed_at text w) left → bytes_at text (left_word w).piece.extent ≡ left
left_bytes text w left g =
    ap (take (w.piece.extent.len - 1)) (sym (drop-drop 1 w.piece.extent.at text))
    ∙ tail_by (drop w.piece.extent.at text) w.piece.extent.len greater left (bytes_of_sign text w left g)

-- nothing is left of one byte
pub short_by_len : (text : List ℕ) (w : WordAt) (left : List ℕ) → BeginsWithGreater (placed_at text w) left → w.piece.extent.len ≤ 1 → left ≡ []
short_by_len text w [] g short = refl
short_by_len text w (c ∷ left) g short =
    let bytes : length (take w.piece.extent.len (drop w.piece.extent.at text)) ≡ suc (suc (length left)) = ap length (bytes_of_sign text w (c ∷ left) g) in
    absurd (omega (arith, length-take w.piece.extent.len (drop w.piece.extent.at text), bytes))

long_left : (text : List ℕ) (w : WordAt) (left : List ℕ) → IsIn text w.piece.extent → BeginsWithGreater (placed_at text w) left → 1 < w.piece.extent.len → left ≡ [] → ⊥
long_left text w left within g long none =
    let bytes : length (take w.piece.extent.len (drop w.piece.extent.at text)) ≡ suc 0 = ap length (bytes_of_sign text w left g) ∙ ap (λ l. suc (length l)) none in
    omega (arith, length-take w.piece.extent.len (drop w.piece.extent.at text), length-drop w.piece.extent.at text, bytes)

-- what is left of a word of more bytes
pub record IsLeft (text : List ℕ) (w : WordAt) (left : List ℕ) : Type 0 where
  pub word : IsBareOf text (PlainAt (left_word w))
  pub spelled : left_of (placed_at text w) left ≡ Plain (placed_at text (left_word w)) ∷ []
  pub short : (more : List ℕ) → BeginsWithGreater (placed_at text (left_word w)) more → more ≡ []

left_sign : (left : List ℕ) → (left ≡ []) ⊎ ((left ≡ sign_spelling Greater) ⊎ (left ≡ sign_spelling Assign)) → (left ≡ [] → ⊥) → IsSign left
left_sign left (inl none) some = absurd (some none)
left_sign left (inr (inl one)) some = (Greater, one)
left_sign left (inr (inr equal)) some = (Assign, equal)

abbrev first_of : List ℕ → ℕ
first_of [] = 0
first_of (c ∷ rest) = c

left_short : (left more : List ℕ) → (left ≡ []) ⊎ ((left ≡ sign_spelling Greater) ⊎ (left ≡ sign_spelling Assign)) → left ≡ greater ∷ more → more ≡ []
left_short left more (inl none) e = absurd cc
left_short left more (inr (inl one)) e = let h : greater ∷ more ≡ 62 ∷ [] = sym e ∙ one in cc
left_short left more (inr (inr equal)) e = absurd (let head : greater ≡ 61 = ap first_of (sym e ∙ equal) in omega arith)

left_spelled : (w : Placed) (left : List ℕ) → (left ≡ [] → ⊥) → left_of w left ≡ Plain (record { cut = record { kind = SignPiece; bytes = left }; place = next_byte w; replacement = w.replacement }) ∷ []
left_spelled w [] some = absurd (some refl)
left_spelled w (c ∷ left) some = refl

abbrev left_placed : WordAt → List ℕ → Placed
left_placed w bytes = record { cut = record { kind = SignPiece; bytes = bytes }; place = left_place w; replacement = w.replacement }

pub is_left : (text : List ℕ) (w : WordAt) (left : List ℕ) → IsBareOf text (PlainAt w) → BeginsWithGreater (placed_at text w) left → 1 < w.piece.extent.len → IsLeft text w left
is_left text w left proper g long =
    let within : IsIn text w.piece.extent = proper.0 in
    let word : IsWord (record { kind = SignPiece; bytes = greater ∷ left }) = subst IsWord g.spelled proper.1 in
    let sign : IsSign (greater ∷ left) = word.1 in
    let cases = left_is sign.0 left sign.1 in
    let some : left ≡ [] → ⊥ = long_left text w left within g long in
    let bytes : bytes_at text (left_word w).piece.extent ≡ left = left_bytes text w left g in
    record {
      word = (omega arith, (tt, subst IsSign (sym bytes) (left_sign left cases some)));
      spelled = left_spelled (placed_at text w) left some ∙ ap (λ bs. Plain (left_placed w bs) ∷ []) (sym bytes);
      short = λ more h. left_short left more cases (sym bytes ∙ ap (λ (c : Cut). c.bytes) h.spelled);
    }

-- behind all words
pub reach_end : (text : List ℕ) (bare : List BareAt) (i : ℕ) (tokens : List Token) → length bare ≤ i → Reaches (map (bare_at text) bare) tokens (map (bare_at text) (drop i bare)) → Become [] (map (bare_at text) bare) tokens
reach_end text bare i tokens past reach =
    let at_end : Reaches (map (bare_at text) bare) tokens [] = subst (λ r. Reaches (map (bare_at text) bare) tokens (map (bare_at text) r)) (drop_all i bare past) reach in
    subst (Become [] (map (bare_at text) bare)) (append-nil tokens) (at_end [] (Become.none tokens))
