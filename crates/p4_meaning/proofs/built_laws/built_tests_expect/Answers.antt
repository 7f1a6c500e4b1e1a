use Rattle.p4_meaning.proofs.BuiltTests.{is_expected, expected_holds, expected_tight, expected_fixes}
use Rattle.p4_meaning.proofs.built_laws.built_tests_expect.Goals as goal

pub returns-clause-expected : goal.returns-clause-expected
returns-clause-expected c = is_expected

pub returns-clause-hold : goal.returns-clause-hold
returns-clause-hold c = expected_holds

pub returns-clause-tight : goal.returns-clause-tight
returns-clause-tight c = expected_tight

pub returns-clause-fixed : goal.returns-clause-fixed
returns-clause-fixed c = expected_fixes
