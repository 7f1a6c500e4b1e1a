use Rattle.std.proofs.Common.{◌++◌, append_assoc, ap, sym, ◌∙◌, rules}
use Rattle.testgen_engine.proofs.OutputLemmas.{adds_more, writes_prefix}
use Rattle.testgen_engine.proofs.output.write_all.Goals as goal

pub loop-rest-preserved : goal.loop-rest-preserved
loop-rest-preserved g c =
    let kept = c.loop-rest.invariant in
    let prefix = kept.prefix.0 in
    let taken = c.in_ok-rest.ensures.piece in
    record {
      prefix = (
        prefix ++ taken.piece,
        kept.prefix.1 ∙ ap (λ xs. prefix ++ xs) taken.whole ∙ sym (append_assoc prefix taken.piece _),
        adds_more _ _ _ c.args.out prefix taken.piece kept.prefix.2 taken.adds,
      );
      faults = search rules;
      stays = search rules;
    }

pub returns-in_err-rest-clause-writes : goal.returns-in_err-rest-clause-writes
returns-in_err-rest-clause-writes g c =
    let kept = c.loop-rest.invariant in
    writes_prefix _ _ _ c.args.out kept.prefix.0 _ _ c.from_residual.result c.from_residual.ensures.0 kept.prefix.2 c.in_err-rest.ensures.piece kept.prefix.1
