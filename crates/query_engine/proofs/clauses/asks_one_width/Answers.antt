-- The point has all that the term mentions, but where this asks for a read in two widths.
use Rattle.std.proofs.Common.{Bool, sym, subst}
use Rattle.std.specs.Prelude.{◌↔◌, IsTrue}
use Rattle.bit_blaster.specs.Vars.{AsksOneWidth}
use Rattle.query_engine.proofs.AboutLemmas.{stands_if}
use Rattle.query_engine.proofs.clauses.asks_one_width.Goals as goal

pub returns : goal.returns
returns c =
    subst (λ (b : Bool). IsTrue b ↔ AsksOneWidth c.args.dag.now c.args.question.now.term) (sym c.is_some.ensures)
    (stands_if c.args.dag.now c.len.ensures.dag c.args.question.now.term c.requires.within c.in_ok-point.point c.in_ok-point.ensures.has
    c.in_ok-value_at.field-0 c.in_ok-value_at.ensures.some c.in_ok-value_at.ensures.none)
