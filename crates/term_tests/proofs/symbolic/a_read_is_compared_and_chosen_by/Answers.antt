-- The read and the constant stay values of the domain, and as wide, when more is made.
use Rattle.std.proofs.Common.{sym, ◌∙◌}
use Rattle.term_tests.proofs.symbolic.a_read_is_compared_and_chosen_by.Goals as goal

pub compare-requires-clause-first : goal.compare-requires-clause-first
compare-requires-clause-first g c = c.constant.ensures.extends.values c.in_ok-read.read c.in_ok-read.ensures.has

pub choose-requires-clause-first : goal.choose-requires-clause-first
choose-requires-clause-first g c =
    c.compare.ensures.extends.values c.in_ok-read.read
    (c.constant.ensures.extends.values c.in_ok-read.read c.in_ok-read.ensures.has)

pub choose-requires-clause-second : goal.choose-requires-clause-second
choose-requires-clause-second g c = c.compare.ensures.extends.values c.in_ok-five.five c.in_ok-five.ensures.has

pub choose-requires-clause-fits : goal.choose-requires-clause-fits
choose-requires-clause-fits g c =
    let known = c.constant.ensures.extends.values c.in_ok-read.read c.in_ok-read.ensures.has in
    c.compare.ensures.extends.widths c.in_ok-read.read known
    ∙ c.constant.ensures.extends.widths c.in_ok-read.read c.in_ok-read.ensures.has ∙ c.in_ok-read.ensures.width
    ∙ sym (c.compare.ensures.extends.widths c.in_ok-five.five c.in_ok-five.ensures.has ∙ c.in_ok-five.ensures.width
    ∙ c.wrapping.ensures.width)
