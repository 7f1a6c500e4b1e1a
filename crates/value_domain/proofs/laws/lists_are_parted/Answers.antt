use Rattle.value_domain.proofs.CellsLaws.{have_widths_take, have_widths_drop, stand_for_all_take, stand_for_all_drop, offers_all_prefix}
use Rattle.value_domain.proofs.laws.lists_are_parted.Goals as goal

pub returns-clause-widths : goal.returns-clause-widths
returns-clause-widths g c = λ d cells widths n h. (have_widths_take n h, have_widths_drop n h)

pub returns-clause-numbers : goal.returns-clause-numbers
returns-clause-numbers g c = λ d cells p numbers n h. (stand_for_all_take n h, stand_for_all_drop n h)

pub returns-clause-reads : goal.returns-clause-reads
returns-clause-reads g c = λ d widths more h. offers_all_prefix more h
