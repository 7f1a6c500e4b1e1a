-- The rows and the tokens tell the derivation.
use Rattle.std.proofs.Common.{sym}
use Rattle.p4_grammar.specs.Walk.{ahead, left_of}
use Rattle.p4_grammar.proofs.WalkLemmas.{told}
use Rattle.p4_grammar.proofs.cursor.Cursor.new.Goals as goal

pub invariant_of-result : goal.invariant_of-result
unfolding ahead left_of
invariant_of-result c =
    let all = told c.args.rows.now c.args.tokens.now c.requires.rows in
    record { known = c.requires.grammar; rows_ahead = all.order; tokens_ahead = sym all.derives.bears }

pub returns : goal.returns
unfolding ahead left_of
returns c = (told c.args.rows.now c.args.tokens.now c.requires.rows).derives
