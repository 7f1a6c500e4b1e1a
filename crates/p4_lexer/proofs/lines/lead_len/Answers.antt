use Rattle.std.proofs.Common.{sym, ap, ◌∙◌}
use Rattle.p4_lexer.specs.Bytes.{hash}
use Rattle.p4_lexer.specs.Lengths.{begins_with}
use Rattle.p4_lexer.proofs.TextLemmas.{rest_from}
use Rattle.p4_lexer.proofs.RestLemmas.{hash_found, hash_missing, lead_is_run}
use Rattle.p4_lexer.proofs.lines.lead_len.Goals as goal

pub returns-then-begins_with_hash-clause-begins : goal.returns-then-begins_with_hash-clause-begins
returns-then-begins_with_hash-clause-begins c =
    hash_found c.args.text.now c.run_len-len.result c.run_len-len.ensures.value c.run_len-len.ensures.within
    (ap (begins_with hash) (sym (rest_from c.args.text.now c.run_len-len.result)) ∙ sym c.begins_with_hash.ensures ∙ c.if-begins_with_hash.true)

pub returns-then-begins_with_hash-clause-only : goal.returns-then-begins_with_hash-clause-only
returns-then-begins_with_hash-clause-only c begins = lead_is_run c.args.text.now begins ∙ sym c.run_len-len.ensures.value

pub returns-else-begins_with_hash-clause-begins : goal.returns-else-begins_with_hash-clause-begins
returns-else-begins_with_hash-clause-begins c =
    hash_missing c.args.text.now c.run_len-len.result c.run_len-len.ensures.value
    (ap (begins_with hash) (sym (rest_from c.args.text.now c.run_len-len.result)) ∙ sym c.begins_with_hash.ensures ∙ c.if-begins_with_hash.false)
