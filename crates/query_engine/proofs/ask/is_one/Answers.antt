-- A term stands for one number at a point.
use Rattle.std.proofs.Common.{ap, ◌∙◌, arith}
use Rattle.std.proofs.lemmas.Bool.{eqb-true, eq-eqb}
use Rattle.bits_core.specs.declared.number.Bits.{Bits}
use Rattle.term_dag.proofs.ValueLemmas.{one_value}
use Rattle.query_engine.proofs.ask.is_one.Goals as goal

pub returns-in-Some : goal.returns-in-Some
returns-in-Some c =
    let stands = rw c.in-Some.is at c.in_ok-bits.ensures.some in (
      λ h. record { number = c.in-Some.bits; stands = stands; is_one = eqb-true c.in-Some.bits.value 1 h },
      λ one. eq-eqb c.in-Some.bits.value 1
          (ap (λ (x : Bits). x.value)
          (one_value c.args.dag.now c.len.ensures.dag c.args.point.now c.args.t c.in-Some.bits one.number stands one.stands)
          ∙ one.is_one),
    )

pub returns-in-None : goal.returns-in-None
returns-in-None c =
    let none = rw c.in-None.is at c.in_ok-bits.ensures.none in (
      λ h. absurd (grind arith),
      λ one. absurd (none one.number one.stands),
    )
