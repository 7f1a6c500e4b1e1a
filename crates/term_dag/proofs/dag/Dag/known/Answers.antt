-- The table says what the term stands for.
use Rattle.std.proofs.Common.{rules, ◌≡◌, Some, refl, slice_get}
use Rattle.std.proofs.lemmas.Option.{slice_get_read}
use Rattle.term_dag.proofs.TableLemmas.{known_width, known_none}
use Rattle.term_dag.proofs.dag.Dag.known.Goals as goal

stands_there : (c : goal.After-result-1) → slice_get c.args.table.now.items c.args.t.number ≡ Some c.index.result.now
stands_there c = slice_get_read c.args.table.now.items _ c.args.t.number c.index.result.now refl c.requires.within (search rules)

pub returns-clause-width : goal.returns-clause-width
returns-clause-width c = known_width c.args.self.now c.len.ensures.dag c.args.point.now _ c.requires.table c.args.t c.index.result.now (stands_there c)

pub returns-clause-none : goal.returns-clause-none
returns-clause-none c = known_none c.args.self.now c.len.ensures.dag c.args.point.now _ c.requires.table c.args.t c.index.result.now (stands_there c)
