use Rattle.std.proofs.Common.{◌∙◌, ap}
use Rattle.std.proofs.lemmas.List.{take_all}
use Rattle.p4_lexer.specs.Scanning.{tokens_in}
use Rattle.p4_lexer.proofs.ScanningLemmas.{tokens_pushed}
use Rattle.p4_lexer.proofs.scanning.tokens_among.Goals as goal

pub loop-entry-preserved : goal.loop-entry-preserved
loop-entry-preserved c =
    tokens_pushed c.args.entries.now c.loop-entry.entry-index _ c.loop-entry.bare c.push_token.new.bare c.loop-entry-test.true c.loop-entry.invariant c.in_ok-push_token.ensures

pub returns : goal.returns
returns c = c.loop-entry.invariant ∙ ap tokens_in (take_all c.loop-entry.entry-index c.args.entries.now c.loop-entry-test.false)
