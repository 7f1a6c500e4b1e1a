-- Internal numbers are few.
use Rattle.std.proofs.Common.{◌≡◌, length, arith, rules}
use Rattle.refutation_checker.specs.VariablesFields.{numbering_of}
use Rattle.refutation_checker.proofs.VariablesLemmas.{width_bound}
use Rattle.refutation_checker.proofs.variables.Variables.width.Goals as goal

pub returns-clause-bound : goal.returns-clause-bound
returns-clause-bound c =
    let bound = width_bound (numbering_of c.self.inside) c.self.invariant in
    let size : c.len.result ≡ length c.self.inside.others.items = search rules in
    omega arith
