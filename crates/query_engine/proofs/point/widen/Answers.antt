-- The read is at its place.
use Rattle.std.proofs.Common.{ap, arith}
use Rattle.bits_core.specs.declared.number.Bits.{Bits}
use Rattle.query_engine.proofs.ListLemmas.{index_is}
use Rattle.query_engine.proofs.point.widen.Goals as goal

pub returns : goal.returns
returns c = record {
  was = c.index-as_slice-read.result;
  now = c.zeros-bits.result;
  there = index_is c.args.reads.now c.as_slice.result.now c.args.read c.index-as_slice-read.result c.as_slice.ensures c.requires.within
      c.index-as_slice-read.is;
  set = c.set.ensures;
  width = omega (arith, c.zeros-bits.ensures.width, c.max-width.ensures, ap (λ (x : Bits). x.width) c.index-as_slice-read.is);
  zero = c.zeros-bits.ensures.zero;
}
