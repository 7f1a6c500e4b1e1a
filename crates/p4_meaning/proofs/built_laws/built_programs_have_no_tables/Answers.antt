use Rattle.p4_meaning.proofs.BuiltTables.{tables_are, entries_are}
use Rattle.p4_meaning.proofs.built_laws.built_programs_have_no_tables.Goals as goal

pub returns-clause-tables : goal.returns-clause-tables
returns-clause-tables c = tables_are

pub returns-clause-entries : goal.returns-clause-entries
returns-clause-entries c =
    λ p well built b x h. entries_are p well built b.entries x.entries h.entries
