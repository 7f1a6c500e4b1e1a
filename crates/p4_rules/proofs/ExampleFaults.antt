-- The refusals of small sources, by evaluation: each has one fault, told once or more often.
use Rattle.tg_base.specs.declared.place.Code.TheVariants as code
use Rattle.p4_rules.specs.declared.faults.Pass.TheVariants.{Checking}
use Rattle.p4_rules.specs.Examples.{at, empty, too_large, no_field, another_type, truncated, too_wide}
use Rattle.p4_rules.specs.ExampleFaults.{RefusedAt}
use Rattle.p4_rules.proofs.DecidingLaws.{alone_decides}

pub empty_refused : RefusedAt empty code.Package 1 1
empty_refused = alone_decides 0 (record { pass = Checking; code = code.Package; place = at 1 1 })

pub too_large_refused : RefusedAt too_large code.Constant 11 18
too_large_refused = alone_decides 1 (record { pass = Checking; code = code.Constant; place = at 11 18 })

pub no_field_refused : RefusedAt no_field code.Name 11 7
no_field_refused = alone_decides 1 (record { pass = Checking; code = code.Name; place = at 11 7 })

pub another_type_refused : RefusedAt another_type code.Typing 11 18
another_type_refused = alone_decides 1 (record { pass = Checking; code = code.Typing; place = at 11 18 })

pub truncated_refused : RefusedAt truncated code.Unsupported 11 5
truncated_refused = alone_decides 1 (record { pass = Checking; code = code.Unsupported; place = at 11 5 })

pub too_wide_refused : RefusedAt too_wide code.Limit 4 26
too_wide_refused = alone_decides 0 (record { pass = Checking; code = code.Limit; place = at 4 26 })
