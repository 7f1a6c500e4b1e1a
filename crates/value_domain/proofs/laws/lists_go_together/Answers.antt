use Rattle.value_domain.proofs.CellsLaws.{have_widths_length, stand_for_all_length, flags_stand_for_all_length, cells_of_width, cells_of_widths}
use Rattle.value_domain.proofs.laws.lists_go_together.Goals as goal

pub returns-clause-widths : goal.returns-clause-widths
returns-clause-widths g c = λ d cells widths h. have_widths_length h

pub returns-clause-numbers : goal.returns-clause-numbers
returns-clause-numbers g c = λ d cells p numbers h. stand_for_all_length h

pub returns-clause-truths : goal.returns-clause-truths
returns-clause-truths g c = λ d flags p truths h. flags_stand_for_all_length h

pub returns-clause-one_width : goal.returns-clause-one_width
returns-clause-one_width g c = λ d cells w h. cells_of_width h

pub returns-clause-each_width : goal.returns-clause-each_width
returns-clause-each_width g c = λ d cells widths h. cells_of_widths h
