use Rattle.value_domain.proofs.CellsLaws.{are_cells_at, have_width_at, have_widths_at, stand_for_all_at, are_flags_at, flags_stand_for_all_at}
use Rattle.value_domain.proofs.laws.lists_are_read.Goals as goal

pub returns-clause-cell : goal.returns-clause-cell
returns-clause-cell g c = λ d cells i v h within. are_cells_at i v h within

pub returns-clause-width : goal.returns-clause-width
returns-clause-width g c = λ d cells w i v h within. have_width_at i v h within

pub returns-clause-widths : goal.returns-clause-widths
returns-clause-widths g c = λ d cells widths i v w h within. have_widths_at i v w h within

pub returns-clause-number : goal.returns-clause-number
returns-clause-number g c = λ d cells p numbers i v x h within. stand_for_all_at i v x h within

pub returns-clause-flag : goal.returns-clause-flag
returns-clause-flag g c = λ d flags i f h within. are_flags_at i f h within

pub returns-clause-truth : goal.returns-clause-truth
returns-clause-truth g c = λ d flags p truths i f t h within. flags_stand_for_all_at i f t h within
