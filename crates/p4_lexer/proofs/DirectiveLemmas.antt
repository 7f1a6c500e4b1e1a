-- The directive that is found from left to right is the one that the pieces are.
use Rattle.std.proofs.Common.{◌≡◌, ◌≢◌, ℕ, ◌+◌, ◌<◌, Bool, true, false, not, ◌&&◌, List, [], ◌∷◌, ◌++◌, Option, Some, None, length, take, drop, take-append-drop, codes, suc, inl, inr, ◌⊎◌, sym, refl, ap, ◌∙◌, subst, arith, if◌then◌else◌, append_assoc, nat_lt, nat_eq}
use Rattle.std.specs.List.{AllByRecursion, prefix_len, starts_with}
use Rattle.std.specs.Str.{bytes_eq}
use Rattle.std.proofs.lemmas.Bool.{cases_Bool, and_parts, and_from}
use Rattle.std.proofs.lemmas.Bool.Decides.{nat_tests}
use Rattle.std.proofs.lemmas.Slice.Eq.{bytes_eq-Decides, starts_is}
use Rattle.std.proofs.Math.Seq.{drop-append_seam}
use Rattle.std.proofs.lemmas.Bool.Decides.{Decides-eqb}
use Rattle.p4_lexer.specs.declared.piece.Kind.{Kind}
use Rattle.p4_lexer.specs.declared.piece.Kind.TheVariants.{Blank, Comment, Name, Number, Text, Sign, Annotation, OpenComment, OpenText, Stray}
use Rattle.p4_lexer.specs.Bytes.{line_feed}
use Rattle.p4_lexer.specs.Pieces.{IsPiece}
use Rattle.p4_lexer.specs.Cuts.{Cut, bytes_of}
use Rattle.p4_lexer.specs.Directives.{Directive, Include, Define, Undefine, IfDefined, IfNotDefined, Else, EndIf, name_piece, IsGap, IsFiller, IsNameAlone, IsWordAlone, IsFile, IsInclude, IsDirective}
use Rattle.std.proofs.lemmas.List.Folds.{length-prefix_len}
use Rattle.std.specs.Option.{option_map}
use Rattle.p4_lexer.specs.declared.directives.DirectiveWord.{DirectiveWord}
use Rattle.p4_lexer.specs.declared.directives.DirectiveWord.TheVariants as w
use Rattle.p4_lexer.specs.declared.directives.TheConstants.{DIRECTIVE_WORDS}
use Rattle.p4_lexer.specs.DirectiveSteps.{is_gap, is_filler_kind, are_filler, is_name, is_blank_kind, is_none_left, is_file_alone, is_included, begins_with_name, begins_with_parenthesis, name_index, name_alone, defined_at, defined_from, alone_at, alone_from, directive_by, directive_if, directive_of, word_spelling, word_among}
use Rattle.p4_lexer.proofs.DirectiveStepLemmas.{if_named}

-- a piece with bytes of its kind
pub record IsCut (c : Cut) : Type 0 where
  pub some : 0 < length c.bytes
  pub piece : IsPiece c.kind c.bytes

not_bytes : (w v : List ℕ) → bytes_eq w v ≡ false → w ≢ v
not_bytes w v e same = absurd (let t = (bytes_eq-Decides w v).1 same in cc)

are_bytes_not : (w v : List ℕ) → w ≢ v → not (bytes_eq w v) ≡ true
are_bytes_not w v differs = elim (cases_Bool (bytes_eq w v)) [ inl same ↦ absurd (differs ((bytes_eq-Decides w v).0 same)) | inr other ↦ rw other refl ]

not_true : (b : Bool) → not b ≡ true → b ≡ false
not_true true e = cc
not_true false e = refl

gap_of : (k : Kind) (w : List ℕ) → is_blank_kind k ≡ true → (k ≡ Blank)
gap_of Blank w e = refl
gap_of Comment w e = absurd cc
gap_of Name w e = absurd cc
gap_of Number w e = absurd cc
gap_of Text w e = absurd cc
gap_of Sign w e = absurd cc
gap_of Annotation w e = absurd cc
gap_of OpenComment w e = absurd cc
gap_of OpenText w e = absurd cc
gap_of Stray w e = absurd cc

pub gap_is : (c : Cut) → is_gap c ≡ true → IsGap c
gap_is c e =
    let both = and_parts (is_blank_kind c.kind) (not (bytes_eq c.bytes (line_feed ∷ []))) e in
    (gap_of c.kind c.bytes both.0, not_bytes c.bytes (line_feed ∷ []) (not_true (bytes_eq c.bytes (line_feed ∷ [])) both.1))

pub is_gap_of : (c : Cut) → IsGap c → is_gap c ≡ true
is_gap_of c g = and_from (is_blank_kind c.kind) (not (bytes_eq c.bytes (line_feed ∷ []))) (ap is_blank_kind g.0) (are_bytes_not c.bytes (line_feed ∷ []) g.1)

filler_of : (k : Kind) → is_filler_kind k ≡ true → (k ≡ Blank) ⊎ ((k ≡ Comment) ⊎ (k ≡ OpenComment))
filler_of Blank e = inl refl
filler_of Comment e = inr (inl refl)
filler_of Name e = absurd cc
filler_of Number e = absurd cc
filler_of Text e = absurd cc
filler_of Sign e = absurd cc
filler_of Annotation e = absurd cc
filler_of OpenComment e = inr (inr refl)
filler_of OpenText e = absurd cc
filler_of Stray e = absurd cc

filler_kind : (k : Kind) → (k ≡ Blank) ⊎ ((k ≡ Comment) ⊎ (k ≡ OpenComment)) → is_filler_kind k ≡ true
filler_kind k (inl e) = ap is_filler_kind e
filler_kind k (inr (inl e)) = ap is_filler_kind e
filler_kind k (inr (inr e)) = ap is_filler_kind e

pub fillers_are : (cuts : List Cut) → are_filler cuts ≡ true → AllByRecursion IsFiller cuts
fillers_are [] e = tt
fillers_are (c ∷ cuts) e =
    let both = and_parts (is_filler_kind c.kind) (are_filler cuts) e in
    (filler_of c.kind both.0, fillers_are cuts both.1)

pub are_fillers : (cuts : List Cut) → AllByRecursion IsFiller cuts → are_filler cuts ≡ true
are_fillers [] all = refl
are_fillers (c ∷ cuts) all = and_from (is_filler_kind c.kind) (are_filler cuts) (filler_kind c.kind all.0) (are_fillers cuts all.1)

-- what the pieces begin with are gaps, as many as were counted
pub gaps_are : (cuts : List Cut) → AllByRecursion IsGap (take (prefix_len is_gap cuts) cuts)
gaps_are [] = tt
gaps_are (c ∷ cuts) = elim (cases_Bool (is_gap c)) [
  | inl gap ↦ let one : 1 + prefix_len is_gap cuts ≡ suc (prefix_len is_gap cuts) = omega arith in rw (gap, one) (gap_is c gap, gaps_are cuts)
  | inr other ↦ rw other tt
]

-- gaps before a piece that is none
pub gaps_counted : (gaps : List Cut) (c : Cut) (left : List Cut) → AllByRecursion IsGap gaps → is_gap c ≡ false → prefix_len is_gap (gaps ++ c ∷ left) ≡ length gaps
gaps_counted [] c left all other = rw other refl
gaps_counted (g ∷ gaps) c left all other = rw (is_gap_of g all.0) (omega (arith, gaps_counted gaps c left all.1 other))

pub gaps_counted_all : (gaps : List Cut) → AllByRecursion IsGap gaps → prefix_len is_gap gaps ≡ length gaps
gaps_counted_all [] all = refl
gaps_counted_all (g ∷ gaps) all = rw (is_gap_of g all.0) (omega (arith, gaps_counted_all gaps all.1))

-- pieces with bytes in a row that have the bytes of a file, and blanks and comments behind them
record FileAlone (file : List ℕ) (cuts : List Cut) : Type 0 where
  pub pieces : List Cut
  pub left : List Cut
  pub spelled : cuts ≡ pieces ++ left
  pub bytes : bytes_of pieces ≡ file
  pub filler : AllByRecursion IsFiller left

none_left_is : (file : List ℕ) → is_none_left file ≡ true → file ≡ []
none_left_is [] e = refl
none_left_is (b ∷ file) e = absurd cc

starts_so : (file w : List ℕ) → starts_with nat_eq file w ≡ true → file ≡ w ++ drop (length w) file
starts_so file w e = (starts_is {A = ℕ} {E = nat_eq} Decides-eqb file w (starts_with nat_eq file w) refl).0 e

starts_by : (w rest : List ℕ) → starts_with nat_eq (w ++ rest) w ≡ true
starts_by w rest = (starts_is {A = ℕ} {E = nat_eq} Decides-eqb (w ++ rest) w (starts_with nat_eq (w ++ rest) w) refl).1 rest refl

file_is : (file : List ℕ) (cuts : List Cut) → is_file_alone file cuts ≡ true → FileAlone file cuts
file_is file [] e = record { pieces = []; left = []; spelled = refl; bytes = sym (none_left_is file e); filler = tt }
file_is file (c ∷ cuts) e = elim (cases_Bool (is_none_left file)) [
  | inl none ↦ record { pieces = []; left = c ∷ cuts; spelled = refl; bytes = sym (none_left_is file none); filler = fillers_are (c ∷ cuts) (rw none at e) }
  | inr some ↦
      let both = and_parts (starts_with nat_eq file c.bytes) (is_file_alone (drop (length c.bytes) file) cuts) (rw some at e) in
      let rest = file_is (drop (length c.bytes) file) cuts both.1 in
      record { pieces = c ∷ rest.pieces; left = rest.left; spelled = ap (λ xs. c ∷ xs) rest.spelled; bytes = ap (λ xs. c.bytes ++ xs) rest.bytes ∙ sym (starts_so file c.bytes both.0); filler = rest.filler }
]

file_of_none_left : (cuts : List Cut) → is_file_alone [] cuts ≡ are_filler cuts
file_of_none_left [] = refl
file_of_none_left (c ∷ cuts) = refl

pub is_file : (pieces left : List Cut) → AllByRecursion IsCut (pieces ++ left) → AllByRecursion IsFiller left → is_file_alone (bytes_of pieces) (pieces ++ left) ≡ true
is_file [] left all filler = file_of_none_left left ∙ are_fillers left filler
is_file (c ∷ pieces) left all filler =
    let some : is_none_left (c.bytes ++ bytes_of pieces) ≡ false = not_none c.bytes (bytes_of pieces) all.0.some in
    let rest : drop (length c.bytes) (c.bytes ++ bytes_of pieces) ≡ bytes_of pieces = drop-append_seam c.bytes (bytes_of pieces) in
    rw (some, rest) (and_from (starts_with nat_eq (c.bytes ++ bytes_of pieces) c.bytes) (is_file_alone (bytes_of pieces) (pieces ++ left)) (starts_by c.bytes (bytes_of pieces)) (is_file pieces left all.1 filler))
  where
    not_none : (w rest : List ℕ) → 0 < length w → is_none_left (w ++ rest) ≡ false
    not_none [] rest some = absurd (omega arith)
    not_none (b ∷ w) rest some = refl

some_same : {A : Type 0} (x y : A) → Some x ≡ Some y → x ≡ y
some_same x y e = cc

some_if : {A : Type 0} (b : Bool) (x y : A) → (if b then Some x else None) ≡ Some y → (b ≡ true) × (x ≡ y)
some_if true x y e = (refl, some_same x y e)
some_if false x y e = absurd cc

-- what stands first behind blanks
record NameFound (cuts : List Cut) (i : ℕ) : Type 0 where
  pub gap : Cut
  pub gaps : List Cut
  pub name : List ℕ
  pub left : List Cut
  pub spelled : cuts ≡ (gap ∷ gaps) ++ name_piece name ∷ left
  pub blank : AllByRecursion IsGap (gap ∷ gaps)
  pub dropped : drop i cuts ≡ name_piece name ∷ left

name_of : (k : Kind) → is_name k ≡ true → k ≡ Name
name_of Blank e = absurd cc
name_of Comment e = absurd cc
name_of Name e = refl
name_of Number e = absurd cc
name_of Text e = absurd cc
name_of Sign e = absurd cc
name_of Annotation e = absurd cc
name_of OpenComment e = absurd cc
name_of OpenText e = absurd cc
name_of Stray e = absurd cc

name_cut : (c : Cut) → is_name c.kind ≡ true → c ≡ name_piece c.bytes
name_cut c e = ap (λ k. record { kind = k; bytes = c.bytes }) (name_of c.kind e)

found_from : (front back cuts : List Cut) (i : ℕ) → cuts ≡ front ++ back → AllByRecursion IsGap front → 0 < length front → begins_with_name back ≡ true → drop i cuts ≡ back → NameFound cuts i
found_from [] back cuts i spelled blank some name dropped = absurd (omega arith)
found_from (g ∷ gaps) [] cuts i spelled blank some name dropped = absurd cc
found_from (g ∷ gaps) (c ∷ left) cuts i spelled blank some name dropped =
    let same = name_cut c name in
    record { gap = g; gaps = gaps; name = c.bytes; left = left; spelled = spelled ∙ ap (λ x. (g ∷ gaps) ++ x ∷ left) same; blank = blank; dropped = dropped ∙ ap (λ x. x ∷ left) same }

name_found : (cuts : List Cut) (i : ℕ) → name_index cuts ≡ Some i → NameFound cuts i
name_found cuts i e =
    let k = prefix_len is_gap cuts in
    let is = some_if (nat_lt 0 k && begins_with_name (drop k cuts)) k i e in
    let both = and_parts (nat_lt 0 k) (begins_with_name (drop k cuts)) is.0 in
    let some : 0 < k = less_of 0 k both.0 in
    found_from (take k cuts) (drop k cuts) cuts i (sym (take-append-drop k cuts)) (gaps_are cuts) (omega (arith, some, length-prefix_len is_gap cuts)) both.1 (ap (λ n. drop n cuts) (sym is.1))
  where
    less_of : (m n : ℕ) → nat_lt m n ≡ true → m < n
    less_of m n e = grind (arith, nat_tests)

pub name_counted : (gap : Cut) (gaps : List Cut) (name : List ℕ) (left : List Cut) → AllByRecursion IsGap (gap ∷ gaps) → name_index ((gap ∷ gaps) ++ name_piece name ∷ left) ≡ Some (length (gap ∷ gaps))
name_counted gap gaps name left blank =
    let counted = gaps_counted (gap ∷ gaps) (name_piece name) left blank refl in
    let dropped = drop-append_seam (gap ∷ gaps) (name_piece name ∷ left) in
    ap (λ n. if nat_lt 0 n && begins_with_name (drop n ((gap ∷ gaps) ++ name_piece name ∷ left)) then Some n else None) counted
    ∙ if_named (length (gap ∷ gaps)) (begins_with_name (drop (length (gap ∷ gaps)) ((gap ∷ gaps) ++ name_piece name ∷ left))) (omega arith) (ap begins_with_name dropped)

abbrev behind_name : {A : Type 0} → (List Cut → Option A) → Option ℕ → List Cut → Option A
behind_name from None cuts = None
behind_name from (Some i) cuts = from (drop i cuts)

-- a definition
sound_define : (cuts : List Cut) (o : Option ℕ) (d : Directive) → name_index cuts ≡ o → defined_at o cuts ≡ Some d → IsDirective (name_piece (codes "define") ∷ cuts) d
sound_define cuts None d e f = absurd cc
sound_define cuts (Some i) d e f =
    let n = name_found cuts i e in
    let from : (if begins_with_parenthesis n.left then None else Some (Define n.name n.left)) ≡ Some d = ap defined_from (sym n.dropped) ∙ f in
    let is = some_not (begins_with_parenthesis n.left) (Define n.name n.left) d from in
    subst (λ x. IsDirective (name_piece (codes "define") ∷ cuts) x) is.1
    (record {
      names = record { gap = n.gap; gaps = n.gaps; spelled = ap (λ xs. name_piece (codes "define") ∷ xs) n.spelled; blank = n.blank };
      plain = λ more same. absurd (let t : begins_with_parenthesis n.left ≡ true = ap begins_with_parenthesis same in let f : begins_with_parenthesis n.left ≡ false = is.0 in cc);
    })
  where
    some_not : {A : Type 0} (b : Bool) (x y : A) → (if b then None else Some x) ≡ Some y → (b ≡ false) × (x ≡ y)
    some_not true x y e = absurd cc
    some_not false x y e = (refl, some_same x y e)

-- a name alone
record AloneFound (cuts : List Cut) (name : List ℕ) : Type 0 where
  pub gap : Cut
  pub gaps : List Cut
  pub left : List Cut
  pub spelled : cuts ≡ (gap ∷ gaps) ++ name_piece name ∷ left
  pub blank : AllByRecursion IsGap (gap ∷ gaps)
  pub filler : AllByRecursion IsFiller left

sound_alone : (cuts : List Cut) (o : Option ℕ) (name : List ℕ) → name_index cuts ≡ o → alone_at o cuts ≡ Some name → AloneFound cuts name
sound_alone cuts None name e f = absurd cc
sound_alone cuts (Some i) name e f =
    let n = name_found cuts i e in
    let is = some_if (are_filler n.left) n.name name (ap alone_from (sym n.dropped) ∙ f) in
    record { gap = n.gap; gaps = n.gaps; left = n.left; spelled = n.spelled ∙ ap (λ w. (n.gap ∷ n.gaps) ++ name_piece w ∷ n.left) is.1; blank = n.blank; filler = fillers_are n.left is.0 }

name_is_alone : (word : List ℕ) (cuts : List Cut) (name : List ℕ) → AloneFound cuts name → IsNameAlone (name_piece word ∷ cuts) word name
name_is_alone word cuts name a = record {
  left = a.left;
  names = record { gap = a.gap; gaps = a.gaps; spelled = ap (λ xs. name_piece word ∷ xs) a.spelled; blank = a.blank };
  filler = a.filler;
}

sound_made : (word : List ℕ) (make : List ℕ → Directive) → ((pieces : List Cut) (name : List ℕ) → IsNameAlone pieces word name → IsDirective pieces (make name))
    → (cuts : List Cut) (o : Option (List ℕ)) (d : Directive) → name_alone cuts ≡ o → option_map make o ≡ Some d → IsDirective (name_piece word ∷ cuts) d
sound_made word make into cuts None d e f = absurd cc
sound_made word make into cuts (Some name) d e f =
    subst (λ x. IsDirective (name_piece word ∷ cuts) x) (some_same (make name) d f) (into (name_piece word ∷ cuts) name (name_is_alone word cuts name (sound_alone cuts (name_index cuts) name refl e)))

included_from : (cuts : List Cut) (file : List ℕ) → IsFile file → FileAlone file (drop (prefix_len is_gap cuts) cuts) → IsInclude (name_piece (codes "include") ∷ cuts)
included_from cuts file named f = record {
  gaps = take (prefix_len is_gap cuts) cuts;
  file = f.pieces;
  left = f.left;
  spelled = ap (λ xs. name_piece (codes "include") ∷ xs) (sym (take-append-drop (prefix_len is_gap cuts) cuts) ∙ ap (λ xs. take (prefix_len is_gap cuts) cuts ++ xs) f.spelled ∙ sym (append_assoc (take (prefix_len is_gap cuts) cuts) f.pieces f.left));
  blank = gaps_are cuts;
  named = subst IsFile (sym f.bytes) named;
  filler = f.filler;
}

sound_included : (cuts : List Cut) → is_included cuts ≡ true → IsInclude (name_piece (codes "include") ∷ cuts)
sound_included cuts e =
    let rest = drop (prefix_len is_gap cuts) cuts in
    elim (cases_Bool (is_file_alone (codes "<core.p4>") rest)) [
      | inl core ↦ included_from cuts (codes "<core.p4>") (inl refl) (file_is (codes "<core.p4>") rest core)
      | inr other ↦ included_from cuts (codes "<v1model.p4>") (inr refl) (file_is (codes "<v1model.p4>") rest (rw other at e))
    ]

word_is_alone : (word : List ℕ) (cuts : List Cut) → are_filler cuts ≡ true → IsWordAlone (name_piece word ∷ cuts) word
word_is_alone word cuts e = record { left = cuts; spelled = refl; filler = fillers_are cuts e }

sound_by : (word : DirectiveWord) (cuts : List Cut) (d : Directive) → directive_by word cuts ≡ Some d → IsDirective (name_piece (word_spelling word) ∷ cuts) d
sound_by w.Include cuts d e = let is = some_if (is_included cuts) Include d e in subst (λ x. IsDirective (name_piece (codes "include") ∷ cuts) x) is.1 (sound_included cuts is.0)
sound_by w.Define cuts d e = sound_define cuts (name_index cuts) d refl e
sound_by w.Undefine cuts d e = sound_made (codes "undef") (λ n. Undefine n) (λ pieces name h. h) cuts (name_alone cuts) d refl e
sound_by w.IfDefined cuts d e = sound_made (codes "ifdef") (λ n. IfDefined n) (λ pieces name h. h) cuts (name_alone cuts) d refl e
sound_by w.IfNotDefined cuts d e = sound_made (codes "ifndef") (λ n. IfNotDefined n) (λ pieces name h. h) cuts (name_alone cuts) d refl e
sound_by w.Else cuts d e = let is = some_if (are_filler cuts) Else d e in subst (λ x. IsDirective (name_piece (codes "else") ∷ cuts) x) is.1 (word_is_alone (codes "else") cuts is.0)
sound_by w.EndIf cuts d e = let is = some_if (are_filler cuts) EndIf d e in subst (λ x. IsDirective (name_piece (codes "endif") ∷ cuts) x) is.1 (word_is_alone (codes "endif") cuts is.0)

word_found : (words : List DirectiveWord) (spelling : List ℕ) (word : DirectiveWord) → word_among words spelling ≡ Some word → spelling ≡ word_spelling word
word_found [] spelling word found = absurd cc
word_found (v ∷ words) spelling word found = elim (cases_Bool (bytes_eq (word_spelling v) spelling)) [
  | inl here ↦
      let same : Some v ≡ Some word = rw here at found in
      sym ((bytes_eq-Decides (word_spelling v) spelling).0 here) ∙ ap word_spelling (some_same v word same)
  | inr not_here ↦ word_found words spelling word (rw not_here at found)
]

sound_if : (spelling : List ℕ) (cuts : List Cut) (o : Option DirectiveWord) (d : Directive) → word_among DIRECTIVE_WORDS spelling ≡ o → directive_if o cuts ≡ Some d → IsDirective (name_piece spelling ∷ cuts) d
sound_if spelling cuts None d e f = absurd cc
sound_if spelling cuts (Some word) d e f = subst (λ w. IsDirective (name_piece w ∷ cuts) d) (sym (word_found DIRECTIVE_WORDS spelling word e)) (sound_by word cuts d f)

pub directive_sound : (cuts : List Cut) (d : Directive) → directive_of cuts ≡ Some d → IsDirective cuts d
directive_sound [] d e = absurd cc
directive_sound (c ∷ cuts) d e = elim (cases_Bool (is_name c.kind)) [
  | inl name ↦ subst (λ x. IsDirective (x ∷ cuts) d) (sym (name_cut c name)) (sound_if c.bytes cuts (word_among DIRECTIVE_WORDS c.bytes) d refl (rw name at e))
  | inr other ↦ let none : None ≡ Some d = rw other at e in absurd cc
]
