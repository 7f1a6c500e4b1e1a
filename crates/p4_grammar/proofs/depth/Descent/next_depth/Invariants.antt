-- What the way still tells is what it told at first.
use Rattle.std.proofs.Common.{◌≡◌, ◌-◌, length}
use Rattle.p4_grammar.specs.Descent.{depths_ahead, IsOnTheWay}
use Rattle.p4_grammar.proofs.depth.Descent.next_depth.Given as goal

abbrev pub invariant-loop-part : goal.invariant-loop-part
invariant-loop-part l = record {
  same : depths_ahead l.self ≡ depths_ahead l.fn.self;
  on_the_way : IsOnTheWay l.self;
}

abbrev pub decreases-loop-part : goal.decreases-loop-part
decreases-loop-part l = length l.self.rows.now - l.self.next_row
