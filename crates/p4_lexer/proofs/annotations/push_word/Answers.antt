use Rattle.p4_lexer.proofs.AddsLemmas.{adds_plain, adds_default, adds_table, adds_named, adds_dropped}
use Rattle.p4_lexer.proofs.annotations.push_word.Goals as goal

pub returns-in_ok-push-in-Plain : goal.returns-in_ok-push-in-Plain
returns-in_ok-push-in-Plain c = adds_plain c.args.text.now c.args.word c.args.group.now c.args.entries.now c.push.new.self c.requires.word c.in-Plain.ensures c.in_ok-push-in-Plain.ensures.ok

pub returns-in_ok-push-in-DefaultOnly : goal.returns-in_ok-push-in-DefaultOnly
returns-in_ok-push-in-DefaultOnly c =
    adds_default c.args.text.now c.args.word c.args.group.now c.args.entries.now c.push-in-DefaultOnly.new.self c.in-DefaultOnly.ensures c.in_ok-push-in-DefaultOnly.ensures.ok

pub returns-in_ok-push-in-TableOnly : goal.returns-in_ok-push-in-TableOnly
returns-in_ok-push-in-TableOnly c = adds_table c.args.text.now c.args.word c.args.group.now c.args.entries.now c.push-in-TableOnly.new.self c.in-TableOnly.ensures c.in_ok-push-in-TableOnly.ensures.ok

pub returns-in_ok-push_named-in-AtName : goal.returns-in_ok-push_named-in-AtName
returns-in_ok-push_named-in-AtName c = adds_named c.args.text.now c.args.word c.args.group.now c.args.entries.now c.push_named.new.entries c.in-AtName.ensures c.in_ok-push_named-in-AtName.ensures

pub returns-in_ok-push_names-in-Other : goal.returns-in_ok-push_names-in-Other
returns-in_ok-push_names-in-Other c = adds_dropped c.args.text.now c.args.word c.args.group.now c.args.entries.now c.push_names.new.entries c.in-Other.ensures c.in_ok-push_names-in-Other.ensures
