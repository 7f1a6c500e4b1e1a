use Rattle.std.proofs.Common.{◌∷◌}
use Rattle.p4_rules.specs.Faults.{least, pass_number, refusal_of}
use Rattle.p4_rules.proofs.DecidingLaws.{least_decides, one_pass, one_refusal}
use Rattle.p4_rules.proofs.laws.the_least_decides.Goals as goal

-- src/laws.rt
pub returns : goal.returns
returns c = record {
  decides = least_decides;
  alone = λ f fs pass refusal decides. (
    one_pass (f ∷ fs) pass (pass_number (least f fs).pass) refusal (refusal_of (least f fs)) decides (least_decides f fs),
    one_refusal (f ∷ fs) pass (pass_number (least f fs).pass) refusal (refusal_of (least f fs)) decides (least_decides f fs),
  );
}
