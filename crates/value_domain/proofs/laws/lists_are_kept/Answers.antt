use Rattle.value_domain.proofs.CellsLaws.{are_cells_extends, have_width_extends, have_widths_extends, stand_for_all_before, stand_for_all_extends, are_flags_extends, flags_stand_for_all_before, flags_stand_for_all_extends, offers_all_before, offers_all_extends}
use Rattle.value_domain.proofs.laws.lists_are_kept.Goals as goal

pub returns-clause-cells : goal.returns-clause-cells
returns-clause-cells g c = λ old new cells step h. are_cells_extends step h

pub returns-clause-width : goal.returns-clause-width
returns-clause-width g c = λ old new cells w step h. have_width_extends step h

pub returns-clause-widths : goal.returns-clause-widths
returns-clause-widths g c = λ old new cells widths step h. have_widths_extends step h

pub returns-clause-numbers : goal.returns-clause-numbers
returns-clause-numbers g c = λ old new cells p numbers step known.
    ((λ h. stand_for_all_before step known h), (λ h. stand_for_all_extends step known h))

pub returns-clause-flags : goal.returns-clause-flags
returns-clause-flags g c = λ old new flags step h. are_flags_extends step h

pub returns-clause-truths : goal.returns-clause-truths
returns-clause-truths g c = λ old new flags p truths step known.
    ((λ h. flags_stand_for_all_before step known h), (λ h. flags_stand_for_all_extends step known h))

pub returns-clause-reads : goal.returns-clause-reads
returns-clause-reads g c = λ old new widths step. ((λ h. offers_all_before step h), (λ h. offers_all_extends step h))
