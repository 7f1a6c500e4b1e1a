-- The directive that pieces are is the one that is found from left to right, and pieces by extents are such pieces.
use Rattle.std.proofs.Common.{◌≡◌, ◌≢◌, ℕ, ◌<◌, Bool, true, false, ◌&&◌, List, [], ◌∷◌, ◌++◌, Some, None, length, drop, map, codes, inl, inr, ◌⊎◌, sym, refl, ap, ◌∙◌, subst, arith, if◌then◌else◌, append_assoc, length-drop, All}
use Rattle.std.specs.List.{AllByRecursion, prefix_len}
use Rattle.std.specs.Str.{bytes_eq}
use Rattle.std.specs.Option.{option_map}
use Rattle.std.proofs.Math.Seq.{drop-append_seam}
use Rattle.std.proofs.lemmas.Bool.{cases_Bool, and_parts}
use Rattle.std.proofs.lemmas.List.{length-take-le}
use Rattle.std.proofs.lemmas.List.Elements.{All-head, All-tail}
use Rattle.std.proofs.lemmas.Slice.Eq.{bytes_eq-Decides}
use Rattle.p4_lexer.specs.declared.piece.Kind.{Kind}
use Rattle.p4_lexer.specs.declared.piece.Kind.TheVariants.{Blank, Name, Number, Text, Sign, Annotation, Comment, OpenComment, OpenText, Stray}
use Rattle.p4_lexer.specs.declared.extents.PieceAt.{PieceAt}
use Rattle.p4_lexer.specs.Pieces.{IsPiece}
use Rattle.p4_lexer.specs.Cuts.{Cut, bytes_of}
use Rattle.p4_lexer.specs.Directives.{Directive, Include, Define, Undefine, IfDefined, IfNotDefined, Else, EndIf, name_piece, IsGap, IsFiller, IsFile, IsInclude, IsDefine, IsDirective}
use Rattle.p4_lexer.specs.Extents.{cut_at}
use Rattle.p4_lexer.specs.DirectiveExtents.{IsPieceAt}
use Rattle.p4_lexer.specs.DirectiveSteps.{is_gap, is_sign_kind, is_file_alone, is_included, begins_with_parenthesis, name_alone, defined_at, defined_from, alone_at, alone_from, directive_of}
use Rattle.p4_lexer.proofs.DirectiveLemmas.{IsCut, gap_is, are_fillers, gaps_counted, name_counted, is_file}

all_behind : {A : Type 0} (P : A → Type 0) (xs ys : List A) → AllByRecursion P (xs ++ ys) → AllByRecursion P ys
all_behind P [] ys all = all
all_behind P (x ∷ xs) ys all = all_behind P xs ys all.1

angle_first : (w rest name : List ℕ) → 0 < length w → w ++ rest ≡ 60 ∷ name → (more : List ℕ) × (w ≡ 60 ∷ more)
angle_first [] rest name some e = absurd (omega arith)
angle_first (b ∷ w) rest name some e = (w, ap (λ x. x ∷ w) (let h : b ≡ 60 = cc in h))

-- a file name begins with `<`, and a blank does not
no_blank : (c : Cut) (rest name : List ℕ) → IsCut c → c.bytes ++ rest ≡ 60 ∷ name → is_gap c ≡ false
no_blank c rest name cut e = elim (cases_Bool (is_gap c)) [
  | inl gap ↦
      let first = angle_first c.bytes rest name cut.some e in
      let piece : IsPiece Blank (60 ∷ first.0) = subst (λ w. IsPiece Blank w) first.1 (subst (λ k. IsPiece k c.bytes) (gap_is c gap).0 cut.piece) in
      let blank : false ≡ true = piece.0 in
      absurd cc
  | inr other ↦ other
]

file_behind : (gaps file left : List Cut) (name : List ℕ) → AllByRecursion IsGap gaps → AllByRecursion IsCut (gaps ++ (file ++ left)) → bytes_of file ≡ 60 ∷ name
    → drop (prefix_len is_gap (gaps ++ (file ++ left))) (gaps ++ (file ++ left)) ≡ file ++ left
file_behind gaps [] left name blank cuts e = absurd cc
file_behind gaps (c ∷ file) left name blank cuts e =
    let cut : IsCut c = (all_behind IsCut gaps (c ∷ file ++ left) cuts).0 in
    ap (λ n. drop n (gaps ++ (c ∷ file ++ left))) (gaps_counted gaps c (file ++ left) blank (no_blank c (bytes_of file) name cut e))
    ∙ drop-append_seam gaps (c ∷ file ++ left)

either_true : (a b : Bool) → (a ≡ true) ⊎ (b ≡ true) → (if a then true else b) ≡ true
either_true true b e = refl
either_true false b (inl e) = absurd cc
either_true false b (inr e) = e

included_so : (cuts gaps file left : List Cut) → cuts ≡ gaps ++ (file ++ left) → AllByRecursion IsGap gaps → AllByRecursion IsCut cuts → IsFile (bytes_of file) → AllByRecursion IsFiller left → is_included cuts ≡ true
included_so cuts gaps file left spelled blank all (inl core) filler =
    let cuts_are : AllByRecursion IsCut (gaps ++ (file ++ left)) = subst (AllByRecursion IsCut) spelled all in
    let rest : drop (prefix_len is_gap cuts) cuts ≡ file ++ left = ap (λ xs. drop (prefix_len is_gap xs) xs) spelled ∙ file_behind gaps file left _ blank cuts_are core in
    let is : is_file_alone (codes "<core.p4>") (drop (prefix_len is_gap cuts) cuts) ≡ true = ap (is_file_alone (codes "<core.p4>")) rest ∙ ap (λ f. is_file_alone f (file ++ left)) (sym core) ∙ is_file file left (all_behind IsCut gaps (file ++ left) cuts_are) filler in
    either_true (is_file_alone (codes "<core.p4>") (drop (prefix_len is_gap cuts) cuts)) (is_file_alone (codes "<v1model.p4>") (drop (prefix_len is_gap cuts) cuts)) (inl is)
included_so cuts gaps file left spelled blank all (inr model) filler =
    let cuts_are : AllByRecursion IsCut (gaps ++ (file ++ left)) = subst (AllByRecursion IsCut) spelled all in
    let rest : drop (prefix_len is_gap cuts) cuts ≡ file ++ left = ap (λ xs. drop (prefix_len is_gap xs) xs) spelled ∙ file_behind gaps file left _ blank cuts_are model in
    let is : is_file_alone (codes "<v1model.p4>") (drop (prefix_len is_gap cuts) cuts) ≡ true = ap (is_file_alone (codes "<v1model.p4>")) rest ∙ ap (λ f. is_file_alone f (file ++ left)) (sym model) ∙ is_file file left (all_behind IsCut gaps (file ++ left) cuts_are) filler in
    either_true (is_file_alone (codes "<core.p4>") (drop (prefix_len is_gap cuts) cuts)) (is_file_alone (codes "<v1model.p4>") (drop (prefix_len is_gap cuts) cuts)) (inr is)

complete_include : (cuts : List Cut) → AllByRecursion IsCut cuts → IsInclude cuts → directive_of cuts ≡ Some Include
complete_include cuts all i =
    let rest = i.gaps ++ i.file ++ i.left in
    let all_rest : AllByRecursion IsCut rest = (subst (AllByRecursion IsCut) i.spelled all).1 in
    let included : is_included rest ≡ true = included_so rest i.gaps i.file i.left (append_assoc i.gaps i.file i.left) i.blank all_rest i.named i.filler in
    ap directive_of i.spelled ∙ ap (λ b. if b then Some Include else None) included

tail_same : (c : Cut) (xs ys : List Cut) → c ∷ xs ≡ c ∷ ys → xs ≡ ys
tail_same c xs ys e = ap (drop 1) e

parenthesis_is : (c : Cut) → (is_sign_kind c.kind && bytes_eq c.bytes (codes "(")) ≡ true → c ≡ record { kind = Sign; bytes = codes "(" }
parenthesis_is c e =
    let both = and_parts (is_sign_kind c.kind) (bytes_eq c.bytes (codes "(")) e in
    ap (λ k. record { kind = k; bytes = c.bytes }) (sign_of c.kind both.0) ∙ ap (λ w. record { kind = Sign; bytes = w }) ((bytes_eq-Decides c.bytes (codes "(")).0 both.1)
  where
    sign_of : (k : Kind) → is_sign_kind k ≡ true → k ≡ Sign
    sign_of Blank e = absurd cc
    sign_of Comment e = absurd cc
    sign_of Name e = absurd cc
    sign_of Number e = absurd cc
    sign_of Text e = absurd cc
    sign_of Sign e = refl
    sign_of Annotation e = absurd cc
    sign_of OpenComment e = absurd cc
    sign_of OpenText e = absurd cc
    sign_of Stray e = absurd cc

no_parenthesis : (words : List Cut) → ((more : List Cut) → words ≢ record { kind = Sign; bytes = codes "(" } ∷ more) → begins_with_parenthesis words ≡ false
no_parenthesis [] plain = refl
no_parenthesis (c ∷ words) plain = elim (cases_Bool (is_sign_kind c.kind && bytes_eq c.bytes (codes "("))) [
  | inl sign ↦ absurd (plain words (ap (λ x. x ∷ words) (parenthesis_is c sign)))
  | inr other ↦ other
]

complete_define : (cuts : List Cut) (name : List ℕ) (words : List Cut) → IsDefine cuts name words → directive_of cuts ≡ Some (Define name words)
complete_define cuts name words d =
    let n = d.names in
    let rest = (n.gap ∷ n.gaps) ++ name_piece name ∷ words in
    ap directive_of n.spelled
    ∙ ap (λ o. defined_at o rest) (name_counted n.gap n.gaps name words n.blank)
    ∙ ap defined_from (drop-append_seam (n.gap ∷ n.gaps) (name_piece name ∷ words))
    ∙ ap (λ b. if b then None else Some (Define name words)) (no_parenthesis words d.plain)

alone_so : (gap : Cut) (gaps : List Cut) (name : List ℕ) (left : List Cut) → AllByRecursion IsGap (gap ∷ gaps) → AllByRecursion IsFiller left → name_alone ((gap ∷ gaps) ++ name_piece name ∷ left) ≡ Some name
alone_so gap gaps name left blank filler =
    let rest = (gap ∷ gaps) ++ name_piece name ∷ left in
    ap (λ o. alone_at o rest) (name_counted gap gaps name left blank)
    ∙ ap alone_from (drop-append_seam (gap ∷ gaps) (name_piece name ∷ left))
    ∙ ap (λ b. if b then Some name else None) (are_fillers left filler)

pub directive_complete : (cuts : List Cut) (d : Directive) → AllByRecursion IsCut cuts → IsDirective cuts d → directive_of cuts ≡ Some d
directive_complete cuts Include all is = complete_include cuts all is
directive_complete cuts (Define name words) all is = complete_define cuts name words is
directive_complete cuts (Undefine name) all is =
    ap directive_of is.names.spelled ∙ ap (λ o. option_map (λ n. Undefine n) o) (alone_so is.names.gap is.names.gaps name is.left is.names.blank is.filler)
directive_complete cuts (IfDefined name) all is =
    ap directive_of is.names.spelled ∙ ap (λ o. option_map (λ n. IfDefined n) o) (alone_so is.names.gap is.names.gaps name is.left is.names.blank is.filler)
directive_complete cuts (IfNotDefined name) all is =
    ap directive_of is.names.spelled ∙ ap (λ o. option_map (λ n. IfNotDefined n) o) (alone_so is.names.gap is.names.gaps name is.left is.names.blank is.filler)
directive_complete cuts Else all is = ap directive_of is.spelled ∙ ap (λ b. if b then Some Else else None) (are_fillers is.left is.filler)
directive_complete cuts EndIf all is = ap directive_of is.spelled ∙ ap (λ b. if b then Some EndIf else None) (are_fillers is.left is.filler)

-- pieces are one directive at most
pub one_directive : (cuts : List Cut) (d e : Directive) → AllByRecursion IsCut cuts → IsDirective cuts d → IsDirective cuts e → d ≡ e
one_directive cuts d e all is also = let same : Some d ≡ Some e = sym (directive_complete cuts d all is) ∙ directive_complete cuts e all also in cc

-- a piece by its extent is a piece with bytes
cut_there : (text : List ℕ) (p : PieceAt) → IsPieceAt text p → IsCut (cut_at text p)
cut_there text p is = record {
  some = omega (arith, is.some, is.within, length-take-le p.extent.len (drop p.extent.at text) (omega (arith, is.within, length-drop p.extent.at text)));
  piece = is.piece;
}

pub cuts_there : (text : List ℕ) (pieces : List PieceAt) → All (IsPieceAt text) pieces → AllByRecursion IsCut (map (cut_at text) pieces)
cuts_there text [] all = tt
cuts_there text (p ∷ pieces) all = (cut_there text p (All-head (IsPieceAt text) p pieces all), cuts_there text pieces (All-tail (IsPieceAt text) p pieces all))
