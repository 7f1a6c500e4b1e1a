use Rattle.p4_meaning.proofs.RunMarks.{run_marks}
use Rattle.p4_meaning.proofs.run_laws.marks_are_numbers.Goals as goal

pub returns : goal.returns
returns c = run_marks
