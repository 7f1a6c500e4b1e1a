use Rattle.std.proofs.Common.{List, map, subst, sym, ◌∙◌, ap}
use Rattle.p4_lexer.specs.Annotations.{Bare}
use Rattle.p4_lexer.specs.Extents.{bare_at}
use Rattle.p4_lexer.specs.Marks.{IsMarkOfName, IsPlainName}
use Rattle.p4_lexer.specs.Marking.{plain_mark}
use Rattle.p4_lexer.proofs.ResultLemmas.{if_ok}
use Rattle.p4_lexer.proofs.MarkingLemmas.{no_dot, member_marked, keyword_marked, plain_marked}
use Rattle.p4_lexer.proofs.marks.Marker.name_mark.Goals as goal

pub returns-then-is_dot : goal.returns-then-is_dot
returns-then-is_dot c =
    let m = c.args.self.now in
    let words : List Bare = map (bare_at c.args.text.now) c.args.rest.now in
    if_ok c.member_mark.result c.member_mark.ensures (λ mark e.
    subst (IsMarkOfName m.tokens c.args.name.now words) (sym e)
    (member_marked m c.args.name.now words c.sign_is_next.result c.requires.follows (sym c.is_dot.ensures ∙ c.if-is_dot.true) c.sign_is_next.ensures))

pub returns-in-Some : goal.returns-in-Some
returns-in-Some c =
    let m = c.args.self.now in
    let words : List Bare = map (bare_at c.args.text.now) c.args.rest.now in
    if_ok c.keyword_mark.result c.keyword_mark.ensures (λ mark e.
    subst (IsMarkOfName m.tokens c.args.name.now words) (sym e)
    (keyword_marked m c.args.name.now words c.sign_is_next-point.result c.in-Some.keyword c.requires.follows (sym c.is_dot.ensures ∙ c.if-is_dot.false) c.sign_is_next-point.ensures
    ((c.keyword_of.ensures c.in-Some.keyword).0 c.in-Some.is)))

pub returns-in-Some-reserved_of : goal.returns-in-Some-reserved_of
returns-in-Some-reserved_of c =
    let r = c.in-Some-reserved_of.reserved in
    IsMarkOfName.reserved r (no_dot c.args.self.now c.requires.follows (sym c.is_dot.ensures ∙ c.if-is_dot.false)) ((c.reserved_of.ensures r).0 c.in-Some-reserved_of.is)

pub returns : goal.returns
returns c =
    let m = c.args.self.now in
    let words : List Bare = map (bare_at c.args.text.now) c.args.rest.now in
    let plain : IsPlainName c.args.name.now = record {
      no_keyword = λ k spelled. c.in_default.not-Some k ((c.keyword_of.ensures k).1 spelled);
      no_reserved = λ r spelled. c.in_default-reserved_of.not-Some r ((c.reserved_of.ensures r).1 spelled);
    } in
    if_ok c.plain_mark.result c.plain_mark.ensures (λ mark e.
    subst (IsMarkOfName m.tokens c.args.name.now words) (sym (e ∙ ap (λ t. plain_mark c.args.name.now t c.sign_is_next-point.result) c.is_type.ensures))
    (plain_marked m c.args.name.now words c.sign_is_next-point.result c.requires.follows (sym c.is_dot.ensures ∙ c.if-is_dot.false) c.sign_is_next-point.ensures plain))
