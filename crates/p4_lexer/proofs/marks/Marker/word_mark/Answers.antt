use Rattle.std.proofs.Common.{◌≡◌, List, ◌∷◌, ◌++◌, [], map, subst, sym, ap, ◌∙◌}
use Rattle.p4_lexer.specs.Annotations.{Bare, Plain}
use Rattle.p4_lexer.specs.SourceWords.{Placed}
use Rattle.p4_lexer.specs.Bytes.{quotation_mark}
use Rattle.p4_lexer.specs.Numbers.{StandsFor}
use Rattle.p4_lexer.specs.Extents.{bare_at, placed_at}
use Rattle.p4_lexer.specs.Marks.{IsMarkOfName, IsMarkOf, sign_cut}
use Rattle.p4_lexer.proofs.ResultLemmas.{if_ok}
use Rattle.p4_lexer.proofs.NextLemmas.{same_cut}
use Rattle.p4_lexer.proofs.MarkingLemmas.{sign_marked, other_is_sign}
use Rattle.p4_lexer.proofs.marks.Marker.word_mark.Goals as goal

pub returns-in-Name : goal.returns-in-Name
returns-in-Name c =
    let tokens = c.args.self.now.tokens in
    let w : Placed = placed_at c.args.text.now c.args.word.now in
    let words : List Bare = map (bare_at c.args.text.now) c.args.rest.now in
    if_ok c.name_mark.result c.name_mark.ensures (λ mark p.
    IsMarkOf.name w words mark c.in-Name.is (subst (λ n. IsMarkOfName tokens n words mark) c.bytes_of-bytes.ensures p))

pub returns-in_ok-literal-in-Number : goal.returns-in_ok-literal-in-Number
returns-in_ok-literal-in-Number c =
    let w : Placed = placed_at c.args.text.now c.args.word.now in
    let words : List Bare = map (bare_at c.args.text.now) c.args.rest.now in
    let l = c.in_ok-literal-in-Number.field-0 in
    IsMarkOf.number w words l c.in-Number.is (subst (λ n. StandsFor n l) c.bytes_of-bytes.ensures c.in_ok-literal-in-Number.ensures)

pub returns-in_ok-from_slice-in-Text : goal.returns-in_ok-from_slice-in-Text
returns-in_ok-from_slice-in-Text c =
    let w : Placed = placed_at c.args.text.now c.args.word.now in
    let words : List Bare = map (bare_at c.args.text.now) c.args.rest.now in
    let inside = c.in_ok-from_slice-in-Text.field-0 in
    IsMarkOf.text w words inside c.in-Text.is
    (sym c.bytes_of-bytes.ensures ∙ c.inside.ensures ∙ ap (λ i. quotation_mark ∷ i ++ quotation_mark ∷ []) (sym c.in_ok-from_slice-in-Text.ensures))

pub returns-in_default : goal.returns-in_default
returns-in_default c =
    let w : Placed = placed_at c.args.text.now c.args.word.now in
    let words : List Bare = map (bare_at c.args.text.now) c.args.rest.now in
    let s = c.the_sign.result in
    let kind = other_is_sign w.cut c.requires.word.1 c.in_default.not-Name c.in_default.not-Number c.in_default.not-Text in
    let is_sign : w.cut ≡ sign_cut s = same_cut w.cut (sign_cut s) kind (sym c.bytes_of-bytes.ensures ∙ c.the_sign.ensures) in
    subst (IsMarkOf c.args.self.now.tokens (Plain w) words) (sym c.sign_mark.ensures) (sign_marked c.args.self.now w words s c.requires.follows is_sign)
