-- Steps of the plain functions that find a directive.
use Rattle.std.proofs.Common.{◌≡◌, ℕ, ◌+◌, ◌-◌, ◌<◌, ◌≤◌, leb, Bool, true, false, cond, List, [], ◌∷◌, Option, Some, None, length, take, drop, get_or, map, suc, inl, inr, sym, refl, subst, ap, ◌∙◌, arith, if◌then◌else◌, drop-cons, length-drop, add-one, nat_lt, ◌&&◌}
use Rattle.std.specs.List.{prefix_len, list_all}
use Rattle.std.specs.Option.{option_map}
use Rattle.std.specs.Bool.{then_some}
use Rattle.std.proofs.lemmas.List.{drop-map}
use Rattle.std.proofs.Math.Seq.{take-length}
use Rattle.std.proofs.lemmas.Bool.{cases_Bool}
use Rattle.std.proofs.lemmas.List.Folds.{list_all-map}
use Rattle.std.proofs.lemmas.Bool.Decides.{nat_tests}
use Rattle.p4_lexer.specs.declared.extents.PieceAt.{PieceAt}
use Rattle.p4_lexer.specs.declared.piece.Kind.TheVariants.{Blank}
use Rattle.p4_lexer.specs.declared.directives.DirectiveAt.{DirectiveAt}
use Rattle.p4_lexer.specs.declared.directives.DirectiveWord.{DirectiveWord}
use Rattle.p4_lexer.specs.declared.directives.TheConstants.{DIRECTIVE_WORDS}
use Rattle.p4_lexer.specs.Cuts.{Cut}
use Rattle.p4_lexer.specs.Directives.{Define}
use Rattle.p4_lexer.specs.Extents.{bytes_at, cut_at}
use Rattle.std.specs.Option.{IfSome}
use Rattle.p4_lexer.specs.DirectiveExtents.{DirectiveFits, directive_at}
use Rattle.p4_lexer.specs.DirectiveSteps.{is_name, word_among, directive_by, directive_if, directive_of, are_filler, is_gap, is_none_left, is_file_alone, begins_with_name, name_index, begins_with_parenthesis, defined_from, defined_at, alone_from, alone_at, name_alone, is_filler_kind}

pub file_of_none : (cuts : List Cut) → is_file_alone [] cuts ≡ are_filler cuts
file_of_none [] = refl
file_of_none (c ∷ cuts) = refl

none_left_by : (rest : List ℕ) (m n : ℕ) → length rest ≡ m - n → leb m n ≡ is_none_left rest
none_left_by [] m n e = grind (arith, nat_tests)
none_left_by (b ∷ rest) m n e = grind (arith, nat_tests)

pub none_left_dropped : (file : List ℕ) (n : ℕ) → leb (length file) n ≡ is_none_left (drop n file)
none_left_dropped file n = none_left_by (drop n file) (length file) n (length-drop n file)

pub rest_of_pieces : {A : Type 0} (ps : List A) (i : ℕ) → take (length ps - i) (drop i ps) ≡ drop i ps
rest_of_pieces ps i = rw (← length-drop i ps) (take-length (drop i ps))

pub prefix_len-map : {A B : Type 0} (p : B → Bool) (h : A → B) (xs : List A) → prefix_len p (map h xs) ≡ prefix_len (λ x. p (h x)) xs
prefix_len-map p h [] = refl
prefix_len-map p h (x ∷ xs) = ap (λ n. cond (p (h x)) (1 + n) 0) (prefix_len-map p h xs)

-- the slice from a place on, as cuts
pub rest_cut : (text : List ℕ) (pieces : List PieceAt) (i : ℕ) → map (cut_at text) (take (length pieces - i) (drop i pieces)) ≡ drop i (map (cut_at text) pieces)
rest_cut text pieces i = ap (map (cut_at text)) (rest_of_pieces pieces i) ∙ sym (drop-map (cut_at text) i pieces)

-- and from behind the gaps on
pub gaps_cut : (text : List ℕ) (pieces : List PieceAt) (n : ℕ) → n ≡ prefix_len (λ p. is_gap (cut_at text p)) pieces → map (cut_at text) (take (length pieces - n) (drop n pieces)) ≡ drop (prefix_len is_gap (map (cut_at text) pieces)) (map (cut_at text) pieces)
gaps_cut text pieces n e = rest_cut text pieces n ∙ ap (λ k. drop k (map (cut_at text) pieces)) (e ∙ sym (prefix_len-map is_gap (cut_at text) pieces))

abbrev pub cuts_of : List ℕ → List PieceAt → List Cut
cuts_of text pieces = map (cut_at text) pieces

abbrev gaps_of : List ℕ → List PieceAt → ℕ
gaps_of text pieces = prefix_len (λ p. is_gap (cut_at text p)) pieces

index_by : (n k : ℕ) (b c : Bool) → n ≡ k → b ≡ c → (if nat_lt 0 n && b then Some n else None) ≡ (if nat_lt 0 k && c then Some k else None)
index_by n k b c e f = rw (e, f) refl

index_is : (text : List ℕ) (pieces : List PieceAt) (n : ℕ) → n ≡ gaps_of text pieces
    → (if nat_lt 0 n && begins_with_name (map (cut_at text) (take (length pieces - n) (drop n pieces))) then Some n else None) ≡ name_index (cuts_of text pieces)
index_is text pieces n e =
    index_by n (prefix_len is_gap (cuts_of text pieces)) (begins_with_name (map (cut_at text) (take (length pieces - n) (drop n pieces)))) (begins_with_name (drop (prefix_len is_gap (cuts_of text pieces)) (cuts_of text pieces)))
    (e ∙ sym (prefix_len-map is_gap (cut_at text) pieces)) (ap begins_with_name (gaps_cut text pieces n e))

if_no_gap : (n : ℕ) (b : Bool) → n ≡ 0 → (if nat_lt 0 n && b then Some n else None) ≡ None
if_no_gap n b e = rw e refl

pub if_named : (n : ℕ) (b : Bool) → 0 < n → b ≡ true → (if nat_lt 0 n && b then Some n else None) ≡ Some n
if_named n b some e = rw e (grind (arith, nat_tests))

if_not_named : (n : ℕ) (b : Bool) → b ≡ false → (if nat_lt 0 n && b then Some n else None) ≡ None
if_not_named n b e = elim (cases_Bool (nat_lt 0 n)) [ inl h ↦ rw (h, e) refl | inr h ↦ rw h refl ]

pub no_gap : (text : List ℕ) (pieces : List PieceAt) (n : ℕ) → n ≡ gaps_of text pieces → n ≡ 0 → None ≡ name_index (cuts_of text pieces)
no_gap text pieces n e z = sym (if_no_gap n (begins_with_name (map (cut_at text) (take (length pieces - n) (drop n pieces)))) z) ∙ index_is text pieces n e

pub named : (text : List ℕ) (pieces : List PieceAt) (n : ℕ) → n ≡ gaps_of text pieces → 0 < n → begins_with_name (map (cut_at text) (take (length pieces - n) (drop n pieces))) ≡ true → Some n ≡ name_index (cuts_of text pieces)
named text pieces n e some b = sym (if_named n (begins_with_name (map (cut_at text) (take (length pieces - n) (drop n pieces)))) some b) ∙ index_is text pieces n e

pub not_named : (text : List ℕ) (pieces : List PieceAt) (n : ℕ) → n ≡ gaps_of text pieces → begins_with_name (map (cut_at text) (take (length pieces - n) (drop n pieces))) ≡ false → None ≡ name_index (cuts_of text pieces)
not_named text pieces n e b = sym (if_not_named n (begins_with_name (map (cut_at text) (take (length pieces - n) (drop n pieces)))) b) ∙ index_is text pieces n e

abbrev none : PieceAt
none = record { kind = Blank; extent = record { at = 0; len = 0 } }

-- the pieces from a place on are the one there and those behind it
pub cut_there : (text : List ℕ) (pieces : List PieceAt) (i : ℕ) → i < length pieces
    → drop i (cuts_of text pieces) ≡ cut_at text (get_or pieces i none) ∷ map (cut_at text) (take (length pieces - (i + 1)) (drop (i + 1) pieces))
cut_there text pieces i below =
    drop-map (cut_at text) i pieces ∙ ap (map (cut_at text)) (drop-cons pieces i none below)
    ∙ ap (λ ps. cut_at text (get_or pieces i none) ∷ map (cut_at text) ps) (ap (λ k. drop k pieces) (sym (add-one i)) ∙ sym (rest_of_pieces pieces (i + 1)))

pub rest_behind_word : {A : Type 0} (word : A) (pieces : List A) (i : ℕ) → drop (i + 2) (word ∷ pieces) ≡ take (length pieces - (i + 1)) (drop (i + 1) pieces)
rest_behind_word word pieces i = let two : i + 2 ≡ suc (i + 1) = omega arith in rw two (sym (rest_of_pieces pieces (i + 1)))

pub defined_is : (text : List ℕ) (pieces : List PieceAt) (i : ℕ) (b : Bool) → Some i ≡ name_index (cuts_of text pieces) → i < length pieces → b ≡ begins_with_parenthesis (map (cut_at text) (take (length pieces - (i + 1)) (drop (i + 1) pieces)))
    → defined_at (name_index (cuts_of text pieces)) (cuts_of text pieces) ≡ (if b then None else Some (Define (bytes_at text (get_or pieces i none).extent) (map (cut_at text) (take (length pieces - (i + 1)) (drop (i + 1) pieces)))))
defined_is text pieces i b e below f =
    ap (λ o. defined_at o (cuts_of text pieces)) (sym e) ∙ ap defined_from (cut_there text pieces i below)
    ∙ ap (λ t. if t then None else Some (Define (bytes_at text (get_or pieces i none).extent) (map (cut_at text) (take (length pieces - (i + 1)) (drop (i + 1) pieces))))) (sym f)

pub filler_cut : (text : List ℕ) (pieces : List PieceAt) → list_all (λ p. is_filler_kind p.kind) pieces ≡ are_filler (cuts_of text pieces)
filler_cut text pieces = sym (list_all-map (λ c. is_filler_kind c.kind) (cut_at text) pieces)

pub alone_is : (text : List ℕ) (pieces : List PieceAt) (i : ℕ) (b : Bool) → Some i ≡ name_index (cuts_of text pieces) → i < length pieces → b ≡ list_all (λ p. is_filler_kind p.kind) (take (length pieces - (i + 1)) (drop (i + 1) pieces))
    → name_alone (cuts_of text pieces) ≡ (if b then Some (bytes_at text (get_or pieces i none).extent) else None)
alone_is text pieces i b e below f =
    ap (λ o. alone_at o (cuts_of text pieces)) (sym e) ∙ ap alone_from (cut_there text pieces i below)
    ∙ ap (λ t. if t then Some (bytes_at text (get_or pieces i none).extent) else None) (sym (f ∙ filler_cut text (take (length pieces - (i + 1)) (drop (i + 1) pieces))))

pub defined_not : (text : List ℕ) (pieces : List PieceAt) (i : ℕ) → Some i ≡ name_index (cuts_of text pieces) → i < length pieces → begins_with_parenthesis (map (cut_at text) (take (length pieces - (i + 1)) (drop (i + 1) pieces))) ≡ true
    → None ≡ defined_at (name_index (cuts_of text pieces)) (cuts_of text pieces)
defined_not text pieces i e below f = sym (defined_is text pieces i true e below (sym f))

pub defined_so : (text : List ℕ) (pieces : List PieceAt) (i : ℕ) (word : PieceAt) → Some i ≡ name_index (cuts_of text pieces) → i < length pieces → begins_with_parenthesis (map (cut_at text) (take (length pieces - (i + 1)) (drop (i + 1) pieces))) ≡ false
    → Some (Define (bytes_at text (get_or pieces i none).extent) (map (cut_at text) (drop (i + 2) (word ∷ pieces)))) ≡ defined_at (name_index (cuts_of text pieces)) (cuts_of text pieces)
defined_so text pieces i word e below f =
    ap (λ ps. Some (Define (bytes_at text (get_or pieces i none).extent) (map (cut_at text) ps))) (rest_behind_word word pieces i)
    ∙ sym (defined_is text pieces i false e below (sym f))

pub alone_so : (text : List ℕ) (pieces : List PieceAt) (i : ℕ) → Some i ≡ name_index (cuts_of text pieces) → i < length pieces → list_all (λ p. is_filler_kind p.kind) (take (length pieces - (i + 1)) (drop (i + 1) pieces)) ≡ true
    → Some (bytes_at text (get_or pieces i none).extent) ≡ name_alone (cuts_of text pieces)
alone_so text pieces i e below f = sym (alone_is text pieces i true e below (sym f))

pub alone_not : (text : List ℕ) (pieces : List PieceAt) (i : ℕ) → Some i ≡ name_index (cuts_of text pieces) → i < length pieces → list_all (λ p. is_filler_kind p.kind) (take (length pieces - (i + 1)) (drop (i + 1) pieces)) ≡ false
    → None ≡ name_alone (cuts_of text pieces)
alone_not text pieces i e below f = sym (alone_is text pieces i false e below (sym f))

pub else_found : (text : List ℕ) (pieces : List PieceAt) (b : Bool) → b ≡ list_all (λ p. is_filler_kind p.kind) pieces → b ≡ are_filler (cuts_of text pieces)
else_found text pieces b e = e ∙ filler_cut text pieces

pub map_then_some : {A B : Type 0} (f : A → B) (b c : Bool) (x : A) (r : Option A) → r ≡ then_some b x → b ≡ c → option_map f r ≡ (if c then Some (f x) else None)
map_then_some f true c x r e g = rw (e, ← g) refl
map_then_some f false c x r e g = rw (e, ← g) refl

found_by : (c : Bool) (o : Option DirectiveWord) (w : DirectiveWord) (cuts : List Cut) → c ≡ true → o ≡ Some w → directive_by w cuts ≡ (if c then directive_if o cuts else None)
found_by c o w cuts e f = rw (e, f) refl

-- the first piece is the word
pub found_is : (text : List ℕ) (pieces : List PieceAt) (w : DirectiveWord) (r : Option DirectiveAt) → 1 ≤ length pieces
    → is_name (get_or pieces 0 none).kind ≡ true → word_among DIRECTIVE_WORDS (bytes_at text (get_or pieces 0 none).extent) ≡ Some w
    → ((first : PieceAt) → option_map (directive_at text (first ∷ take (length pieces - 1) (drop 1 pieces))) r ≡ directive_by w (map (cut_at text) (take (length pieces - 1) (drop 1 pieces))))
    → option_map (directive_at text pieces) r ≡ directive_of (cuts_of text pieces)
found_is text [] w r some e f g = absurd (omega arith)
found_is text (p ∷ pieces) w r some e f g =
    let rest = rest_of_pieces (p ∷ pieces) 1 in
    let h : option_map (directive_at text (p ∷ pieces)) r ≡ directive_by w (map (cut_at text) pieces) = subst (λ (ps : List PieceAt). option_map (directive_at text (p ∷ ps)) r ≡ directive_by w (map (cut_at text) ps)) rest (g p) in
    h ∙ found_by (is_name p.kind) (word_among DIRECTIVE_WORDS (bytes_at text p.extent)) w (map (cut_at text) pieces) e f

pub fits_is : (text : List ℕ) (pieces : List PieceAt) (r : Option DirectiveAt) → 1 ≤ length pieces → ((first : PieceAt) → IfSome r (DirectiveFits text (first ∷ take (length pieces - 1) (drop 1 pieces)))) → IfSome r (DirectiveFits text pieces)
fits_is text [] r some g = absurd (omega arith)
fits_is text (p ∷ pieces) r some g = subst (λ (ps : List PieceAt). IfSome r (DirectiveFits text (p ∷ ps))) (rest_of_pieces (p ∷ pieces) 1) (g p)
