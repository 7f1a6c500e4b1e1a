-- A file that is opened is of the files where its bytes are those of its name.
use Rattle.std.proofs.Common.{rules}
use Rattle.std.proofs.lemmas.Grind.{common_steps}
use Rattle.tg_base.proofs.ReadingLemmas.{start_are_of_files}
use Rattle.tg_base.proofs.session.Session.open.Goals as goal

pub returns-in_default-clause-told : goal.returns-in_default-clause-told
returns-in_default-clause-told c = λ files found told.
    start_are_of_files files _ _ c.args.name.now c.args.bytes.now (search (rules, common_steps)) found told

pub returns-else-is_err-clause-told : goal.returns-else-is_err-clause-told
returns-else-is_err-clause-told c = λ files found told.
    start_are_of_files files _ _ c.args.name.now c.args.bytes.now (search (rules, common_steps)) found told
