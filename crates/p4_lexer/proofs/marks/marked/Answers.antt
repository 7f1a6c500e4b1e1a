use Rattle.std.proofs.Common.{map}
use Rattle.p4_lexer.specs.Extents.{bare_at}
use Rattle.p4_lexer.proofs.BecomeLemmas.{one_become}
use Rattle.p4_lexer.proofs.PushLemmas.{reach_end}
use Rattle.p4_lexer.proofs.marks.marked.Goals as goal

pub returns-clause-are : goal.returns-clause-are
returns-clause-are c = reach_end c.args.text.now c.args.bare.now c.loop-i.i c.loop-i.marker.tokens c.loop-i-test.false c.loop-i.invariant.1

pub returns-clause-only : goal.returns-clause-only
returns-clause-only c =
    let words = map (bare_at c.args.text.now) c.args.bare.now in
    λ others become. one_become _ _ c.loop-i.marker.tokens (returns-clause-are c) others become
