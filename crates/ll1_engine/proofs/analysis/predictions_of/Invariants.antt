use Rattle.std.proofs.Common.{◌≡◌, ℕ, ◌<◌, length, get_or, None}
use Rattle.ll1_engine.proofs.PredictsBelowLemmas.{PredictsBelow}
use Rattle.ll1_engine.proofs.analysis.predictions_of.Given as goal

abbrev pub invariant-loop-k : goal.invariant-loop-k
invariant-loop-k l =
    record {
      size : length l.predictions.items ≡ l.size;
      told : (x : ℕ) → x < l.size → PredictsBelow l.rows l.marks l.k x (get_or l.predictions.items x None);
    }
