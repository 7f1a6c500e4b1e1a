use Rattle.p4_lexer.specs.declared.token.Token.{Token}
use Rattle.p4_lexer.specs.declared.marks.Marker.{Marker}
use Rattle.p4_lexer.proofs.ResultLemmas.{on_ok}
use Rattle.p4_lexer.proofs.MarkingLemmas.{follows_push}
use Rattle.p4_lexer.proofs.marks.Marker.push.Goals as goal

pub returns-clause-follows : goal.returns-clause-follows
returns-clause-follows c =
    let t : Token = record { word = c.args.word; span = c.args.span } in
    let n : Marker = record { tokens = c.push.new.self; kept = c.step.new.self; types = c.declare.new.types } in
    on_ok c.push.result c.push.ensures.ok (λ pushed. follows_push c.args.self.now n t c.requires pushed c.in_ok-step.ensures c.in_ok-declare.ensures)
