-- A power of two that is not below the width is above the largest that is below it.
use Rattle.std.proofs.Common.{◌+◌, ◌<◌, ◌≤◌, arith, ⊎_elim}
use Rattle.std.proofs.lemmas.Bool.{cases_lt}
use Rattle.bits_core.proofs.WidthLaws.{pow_le}
use Rattle.bit_blaster.proofs.shifter.stages_of.Goals as goal

pub returns-else-width-le1-clause-least : goal.returns-else-width-le1-clause-least
returns-else-width-le1-clause-least c = λ k enough.
    ⊎_elim
    (λ (short : k < c.ilog2.result + 1).
    absurd (omega (arith, pow_le k c.ilog2.result (omega arith), c.ilog2.ensures.power_le, enough, c.if-width-le1.false)))
    (λ (long : c.ilog2.result + 1 ≤ k). long)
    (cases_lt k (c.ilog2.result + 1))
