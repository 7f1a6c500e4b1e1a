-- The literals before one that is set were decided.
use Rattle.std.proofs.Common.{List, get_or, sym, subst}
use Rattle.std.proofs.lemmas.List.{append-nil}
use Rattle.std.proofs.lemmas.Option.{slice_get-get_or}
use Rattle.cnf_core.specs.declared.formula.Lit.{Lit}
use Rattle.cnf_core.proofs.Literals.{no_lit}
use Rattle.unit_propagation.specs.Propagation.{decisions}
use Rattle.refutation_checker.specs.Deciding.{IsSetUnder}
use Rattle.unit_propagation.proofs.ExtendsLaws.{extends_itself}
use Rattle.refutation_checker.proofs.DecidingLemmas.{is_set}
use Rattle.refutation_checker.proofs.decide.decide_all.Goals as goal

pub loop-l-init : goal.loop-l-init
loop-l-init c = record { extends = extends_itself c.args.root.now; decides = sym (append-nil _) }

pub returns-in-True : goal.returns-in-True
returns-in-True c =
    let root = c.args.root.now in
    let now = c.loop-l.root in
    let i = c.loop-l.l-index in
    let lits = c.args.lits.now in
    let l = get_or lits i no_lit in
    record {
      extends = c.loop-l.invariant.extends;
      decided = tt;
      refused = (
        i,
        l,
        slice_get-get_or lits i no_lit c.loop-l-test.true,
        subst (λ (ds : List Lit). IsSetUnder root.clauses ds l) c.loop-l.invariant.decides
            (subst (λ (cs : List (List Lit)). IsSetUnder cs (decisions now) l) c.loop-l.invariant.extends.clauses
            (is_set now l c.value.result c.value.ensures.follows c.in-True.is)),
      );
    }
