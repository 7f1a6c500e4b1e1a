use Rattle.std.proofs.Common.{◌∙◌, ◌+◌, ap, get_or, ℕ, List, Option, None}
use Rattle.std.specs.Option.{unwrap_or}
use Rattle.p4_lexer.proofs.PassLemmas.{passed_name, passed_word, passed_all}
use Rattle.p4_lexer.proofs.annotations.entries_of.Goals as goal

pub loop-at-preserved-in-Replaced : goal.loop-at-preserved-in-Replaced
loop-at-preserved-in-Replaced c =
    passed_name c.args.text.now c.args.items.now c.loop-at.at _ c.in-Replaced.name c.loop-at.entries c.push.new.self c.loop-at-test.true c.in-Replaced.is c.in_ok-push-in-Replaced.ensures.ok c.loop-at.invariant

pub loop-at-preserved : goal.loop-at-preserved
loop-at-preserved c =
    passed_word c.args.text.now c.args.items.now c.loop-at.at _ c.in-Word.word c.in_ok-ends.ends c.end_of-end.result c.in_ok-at-in-Word.field-0 c.loop-at.entries c.push_word.new.entries c.loop-at-test.true c.in-Word.is
    c.in_ok-ends.ensures
    (c.end_of-end.ensures ∙ ap (λ (es : List (Option ℕ)). unwrap_or (get_or es (c.loop-at.at + 1) None) (c.loop-at.at + 1)) c.as_slice.ensures)
    c.in_ok-at-in-Word.ensures c.loop-at.invariant

pub returns-clause-leaves : goal.returns-clause-leaves
returns-clause-leaves c = passed_all c.args.text.now c.args.items.now c.loop-at.at c.loop-at.entries c.loop-at-test.false c.loop-at.invariant
