use Rattle.value_domain.proofs.CellsLaws.{are_cells_append, have_width_append, have_widths_append, stand_for_all_append, are_flags_append, flags_stand_for_all_append}
use Rattle.value_domain.proofs.laws.lists_are_joined.Goals as goal

pub returns-clause-cells : goal.returns-clause-cells
returns-clause-cells g c = λ d cells more h k. are_cells_append h k

pub returns-clause-width : goal.returns-clause-width
returns-clause-width g c = λ d cells more w h k. have_width_append h k

pub returns-clause-widths : goal.returns-clause-widths
returns-clause-widths g c = λ d cells more widths also h k. have_widths_append h k

pub returns-clause-numbers : goal.returns-clause-numbers
returns-clause-numbers g c = λ d cells more p numbers also h k. stand_for_all_append h k

pub returns-clause-flags : goal.returns-clause-flags
returns-clause-flags g c = λ d flags more h k. are_flags_append h k

pub returns-clause-truths : goal.returns-clause-truths
returns-clause-truths g c = λ d flags more p truths also h k. flags_stand_for_all_append h k
