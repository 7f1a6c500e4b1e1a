-- What the domain's values and flags stand for. It offers every read, and its laws speak of every point.
use Rattle.std.specs.Prelude.{◌≤◌}
use Rattle.bits_core.specs.declared.number.TheConstants.{MAX_WIDTH}
use Rattle.value_domain.specs.Meaning.{Meaning}
use Rattle.taint_domain.specs.declared.flag.TaintFlag.{TaintFlag}
use Rattle.taint_domain.specs.declared.tainted.Tainted.{Tainted}
use Rattle.taint_domain.specs.Flag.{FlagStandsFor}
use Rattle.taint_domain.specs.Tainted.{StandsFor}

abbrev pub taint_meaning : Meaning Tainted TaintFlag
taint_meaning = record {
  offers = λ read width. (1 ≤ width) × (width ≤ MAX_WIDTH);
  speaks_of = λ p. Unit {0};
  has = λ v. Unit {0};
  width_of = λ v. v.number.width;
  stands = StandsFor;
  has_flag = λ f. Unit {0};
  flag_stands = FlagStandsFor;
}
