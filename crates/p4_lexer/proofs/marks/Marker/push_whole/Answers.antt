use Rattle.std.proofs.Common.{List, map, subst, sym}
use Rattle.p4_lexer.specs.declared.token.Token.{Token}
use Rattle.p4_lexer.specs.Annotations.{Bare}
use Rattle.p4_lexer.specs.Extents.{bare_at}
use Rattle.p4_lexer.specs.Marking.{Leads}
use Rattle.std.proofs.Common.{◌∷◌}
use Rattle.p4_lexer.proofs.ResultLemmas.{on_ok}
use Rattle.p4_lexer.proofs.PushLemmas.{leads_whole}
use Rattle.p4_lexer.proofs.marks.Marker.push_whole.Goals as goal

pub returns-clause-leads : goal.returns-clause-leads
returns-clause-leads c =
    let text = c.args.text.now in
    let tokens = c.args.self.now.tokens in
    let b : Bare = bare_at text c.args.bare.now in
    let words : List Bare = map (bare_at text) c.args.rest.now in
    let t : Token = record { word = c.in_ok-word.word; span = c.place_of.result } in
    on_ok c.push.result c.push.ensures.tokens (λ pushed.
    subst (λ ts. Leads tokens (b ∷ words) ts words) (sym pushed) (leads_whole tokens b words t c.requires.whole c.in_ok-word.ensures (c.place_of.ensures text)))
