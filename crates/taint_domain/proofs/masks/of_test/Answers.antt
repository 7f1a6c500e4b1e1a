use Rattle.std.proofs.Common.{arith}
use Rattle.taint_domain.proofs.MaskLemmas.{test_mask, no_product}
use Rattle.taint_domain.proofs.masks.of_test.Goals as goal

pub returns-clause-mask : goal.returns-clause-mask
returns-clause-mask c =
    test_mask c.args.op c.args.a.now c.args.b.now _ c.test_may_differ.result c.requires.shape (no_product c.args.op c.requires.shape)
    (grind arith) c.test_may_differ.ensures
