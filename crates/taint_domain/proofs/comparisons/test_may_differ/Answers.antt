use Rattle.std.proofs.Common.{sym, subst}
use Rattle.std.specs.Prelude.{◌↔◌, IsTrue, not}
use Rattle.bits_core.specs.Operator.{test_value}
use Rattle.taint_domain.specs.Results.{TestOf}
use Rattle.taint_domain.proofs.TestLemmas.{signed_less_iff, signed_le_iff, last_test}
use Rattle.taint_domain.proofs.comparisons.test_may_differ.Goals as goal

pub returns-in-LtS : goal.returns-in-LtS
returns-in-LtS c =
    let a = c.args.a.now in
    let b = c.args.b.now in
    subst (λ op. IsTrue c.less_may_differ-in-LtS.result ↔ TestOf op a b (not (test_value op a.number.width a.number.value b.number.value)))
    (sym c.in-LtS.is)
    (signed_less_iff a b c.sign_turned.result c.sign_turned-in-LtS.result c.requires.fits
    (record { width = c.sign_turned.ensures.width; value = c.sign_turned.ensures.value; mask = c.sign_turned.ensures.mask })
    (record { width = c.sign_turned-in-LtS.ensures.width; value = c.sign_turned-in-LtS.ensures.value; mask = c.sign_turned-in-LtS.ensures.mask })
    c.less_may_differ-in-LtS.result c.less_may_differ-in-LtS.ensures)

pub returns-in_default : goal.returns-in_default
returns-in_default c =
    let a = c.args.a.now in
    let b = c.args.b.now in
    let second = c.sign_turned-in_default in
    let first = c.sign_turned-in_default-2 in
    let last = last_test c.args.op c.requires.shape c.in_default.not-Eq c.in_default.not-LtU c.in_default.not-LeU c.in_default.not-LtS in
    subst (λ op. IsTrue c.less_may_differ-in_default.result ↔ TestOf op a b (not (test_value op a.number.width a.number.value b.number.value)))
    (sym last)
    (signed_le_iff a b first.result second.result c.requires.fits
    (record { width = first.ensures.width; value = first.ensures.value; mask = first.ensures.mask })
    (record { width = second.ensures.width; value = second.ensures.value; mask = second.ensures.mask })
    c.less_may_differ-in_default.result c.less_may_differ-in_default.ensures)
