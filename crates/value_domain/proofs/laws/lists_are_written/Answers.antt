use Rattle.value_domain.proofs.CellsLaws.{are_cells_set, have_width_set, have_widths_set, stand_for_all_set, are_flags_set, flags_stand_for_all_set}
use Rattle.value_domain.proofs.laws.lists_are_written.Goals as goal

pub returns-clause-cells : goal.returns-clause-cells
returns-clause-cells g c = λ d cells i v h known. are_cells_set i v h known

pub returns-clause-width : goal.returns-clause-width
returns-clause-width g c = λ d cells w i v h known. have_width_set i v h known

pub returns-clause-widths : goal.returns-clause-widths
returns-clause-widths g c = λ d cells widths i v w h known. have_widths_set i v w h known

pub returns-clause-numbers : goal.returns-clause-numbers
returns-clause-numbers g c = λ d cells p numbers i v x h s. stand_for_all_set i v x h s

pub returns-clause-flags : goal.returns-clause-flags
returns-clause-flags g c = λ d flags i f h known. are_flags_set i f h known

pub returns-clause-truths : goal.returns-clause-truths
returns-clause-truths g c = λ d flags p truths i f t h s. flags_stand_for_all_set i f t h s
