-- Which sign stands next.
use Rattle.std.proofs.Common.{◌≡◌, ℕ, ◌≤◌, arith, length, get_or, map, Bool, false, ◌&&◌, Decides, List, [], ◌∷◌, refl, ap, ◌∙◌}
use Rattle.std.specs.Str.{bytes_eq}
use Rattle.std.proofs.lemmas.Bool.{false≢true}
use Rattle.std.proofs.lemmas.Bool.Decides.{Decides-and, Decides-like}
use Rattle.std.proofs.lemmas.Slice.Eq.{bytes_eq-Decides}
use Rattle.p4_lexer.specs.declared.piece.Kind.{Kind}
use Rattle.p4_lexer.specs.declared.piece.Kind.TheVariants.{Sign as SignPiece, Blank, Comment, Name, Number, Text, Annotation, OpenComment, OpenText, Stray}
use Rattle.p4_lexer.specs.declared.token.Sign.{Sign as SignName}
use Rattle.p4_lexer.specs.Cuts.{Cut}
use Rattle.p4_lexer.specs.SourceWords.{Placed}
use Rattle.p4_lexer.specs.Annotations.{Bare, Plain, Named, DefaultOnly, TableOnly}
use Rattle.p4_lexer.specs.declared.extents.Bare.{Bare as BareAt}
use Rattle.p4_lexer.specs.Extents.{bare_at}
use Rattle.p4_lexer.specs.Spellings.{sign_spelling}
use Rattle.p4_lexer.specs.Marks.{sign_cut, SignIsNext}
use Rattle.p4_lexer.specs.Marking.{is_sign_kind}

pub sign_kind_decides : (k : Kind) → Decides (is_sign_kind k) (k ≡ SignPiece)
sign_kind_decides SignPiece = (λ _. refl, λ _. refl)
sign_kind_decides Blank = (λ e. absurd (false≢true e), λ e. absurd cc)
sign_kind_decides Comment = (λ e. absurd (false≢true e), λ e. absurd cc)
sign_kind_decides Name = (λ e. absurd (false≢true e), λ e. absurd cc)
sign_kind_decides Number = (λ e. absurd (false≢true e), λ e. absurd cc)
sign_kind_decides Text = (λ e. absurd (false≢true e), λ e. absurd cc)
sign_kind_decides Annotation = (λ e. absurd (false≢true e), λ e. absurd cc)
sign_kind_decides OpenComment = (λ e. absurd (false≢true e), λ e. absurd cc)
sign_kind_decides OpenText = (λ e. absurd (false≢true e), λ e. absurd cc)
sign_kind_decides Stray = (λ e. absurd (false≢true e), λ e. absurd cc)

abbrev cut_of : Kind → List ℕ → Cut
cut_of kind bytes = record { kind = kind; bytes = bytes }

cut_same : (k l : Kind) (a b : List ℕ) → k ≡ l → a ≡ b → cut_of k a ≡ cut_of l b
cut_same k l a b p q = cc

pub same_cut : (c d : Cut) → c.kind ≡ d.kind → c.bytes ≡ d.bytes → c ≡ d
same_cut c d p q = cut_same c.kind d.kind c.bytes d.bytes p q

pub cut_is : Cut → List ℕ → Bool
cut_is c bytes = is_sign_kind c.kind && bytes_eq c.bytes bytes

pub cut_decides : (c : Cut) (bytes : List ℕ) → Decides (cut_is c bytes) (c ≡ record { kind = SignPiece; bytes = bytes })
unfolding cut_is
cut_decides c bytes =
    let sign : Cut = record { kind = SignPiece; bytes = bytes } in
    Decides-like (is_sign_kind c.kind && bytes_eq c.bytes bytes) (λ (h : (c.kind ≡ SignPiece) × (c.bytes ≡ bytes)). same_cut c sign h.0 h.1)
    (λ e. (ap (λ (d : Cut). d.kind) e, ap (λ (d : Cut). d.bytes) e))
    (Decides-and (is_sign_kind c.kind) (bytes_eq c.bytes bytes) (sign_kind_decides c.kind) (bytes_eq-Decides c.bytes bytes))

pub next_is : List Bare → SignName → Bool
next_is [] s = false
next_is (Plain w ∷ rest) s = cut_is w.cut (sign_spelling s)
next_is (Named text place ∷ rest) s = false
next_is (DefaultOnly place ∷ rest) s = false
next_is (TableOnly place ∷ rest) s = false

same_plain : (v w : Placed) (more rest : List Bare) → Plain v ∷ more ≡ Plain w ∷ rest → v ≡ w
same_plain v w more rest e = cc

pub next_decides : (behind : List Bare) (s : SignName) → Decides (next_is behind s) (SignIsNext s behind)
unfolding next_is
next_decides [] s = (λ e. absurd (false≢true e), λ h. absurd (let e : [] ≡ Plain h.0 ∷ h.1 = h.2 in cc))
next_decides (Plain w ∷ rest) s =
    Decides-like (cut_is w.cut (sign_spelling s)) (λ (e : w.cut ≡ sign_cut s). (w, rest, refl, e))
    (λ (h : SignIsNext s (Plain w ∷ rest)). ap (λ (v : Placed). v.cut) (same_plain w h.0 rest h.1 h.2) ∙ h.3) (cut_decides w.cut (sign_spelling s))
next_decides (Named text place ∷ rest) s = (λ e. absurd (false≢true e), λ h. absurd (let e : Named text place ∷ rest ≡ Plain h.0 ∷ h.1 = h.2 in cc))
next_decides (DefaultOnly place ∷ rest) s = (λ e. absurd (false≢true e), λ h. absurd (let e : DefaultOnly place ∷ rest ≡ Plain h.0 ∷ h.1 = h.2 in cc))
next_decides (TableOnly place ∷ rest) s = (λ e. absurd (false≢true e), λ h. absurd (let e : TableOnly place ∷ rest ≡ Plain h.0 ∷ h.1 = h.2 in cc))

pub next_plain : (b : Bool) (w : Placed) (rest : List Bare) (s : SignName) → Decides b (w.cut ≡ sign_cut s) → Decides b (SignIsNext s (Plain w ∷ rest))
next_plain b w rest s d =
    Decides-like b (λ (e : w.cut ≡ sign_cut s). (w, rest, refl, e)) (λ (h : SignIsNext s (Plain w ∷ rest)). ap (λ (v : Placed). v.cut) (same_plain w h.0 rest h.1 h.2) ∙ h.3) d

plain_only : (b : Bare) (w : Placed) (more rest : List Bare) → b ∷ more ≡ Plain w ∷ rest → b ≡ Plain w
plain_only b w more rest e = cc

pub next_other : (b : Bare) (rest : List Bare) (s : SignName) → ((w : Placed) → b ≡ Plain w → ⊥) → Decides false (SignIsNext s (b ∷ rest))
next_other b rest s other = (λ e. absurd (false≢true e), λ h. absurd (other h.0 (plain_only b h.0 rest h.1 h.2)))

pub first_next : (text : List ℕ) (rest : List BareAt) (s : SignName) (b : Bool) (first : BareAt) → 1 ≤ length rest
    → ((more : List Bare) → Decides b (SignIsNext s (bare_at text (get_or rest 0 first) ∷ more))) → Decides b (SignIsNext s (map (bare_at text) rest))
first_next text [] s b first some h = absurd (omega arith)
first_next text (next ∷ rest) s b first some h = h (map (bare_at text) rest)
