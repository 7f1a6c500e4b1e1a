-- The literal was set before, or it is decided and propagation tells the rest.
use Rattle.std.proofs.Common.{◌≡◌, List, sym, ◌∙◌, ap, subst}
use Rattle.cnf_core.specs.declared.formula.Lit.{Lit}
use Rattle.cnf_core.specs.Propagation.{Conflicts}
use Rattle.unit_propagation.specs.Propagation.{Propagation, decisions}
use Rattle.unit_propagation.proofs.ExtendsLaws.{extends_itself, full_continues}
use Rattle.refutation_checker.proofs.OpenLaws.{leaves_open}
use Rattle.refutation_checker.proofs.DecidingLemmas.{is_set}
use Rattle.refutation_checker.proofs.decide.decide_next.Goals as goal

pub returns-in-True : goal.returns-in-True
returns-in-True c = record {
  extends = extends_itself c.args.root.now;
  decides = is_set c.args.root.now c.args.l c.value.result c.value.ensures.follows c.in-True.is;
}

pub returns-in-Some-clause-decides : goal.returns-in-Some-clause-decides
returns-in-Some-clause-decides c =
    let root = c.args.root.now in
    let decided = c.decide.new.self in
    let clauses : decided.clauses ≡ root.clauses = ap (λ (p : Propagation). p.clauses) c.decide.ensures.decided in (
      leaves_open root c.args.l c.requires.full c.in-Open.ensures.stands,
      subst (Conflicts root.clauses) c.decide.ensures.decisions (subst (λ (cs : List (List Lit)). Conflicts cs (decisions decided)) clauses c.in-Some.ensures.conflicts),
    )

pub returns-in-None-clause-decides : goal.returns-in-None-clause-decides
returns-in-None-clause-decides c =
    let root = c.args.root.now in
    let decided = c.decide.new.self in
    let clauses : decided.clauses ≡ root.clauses = ap (λ (p : Propagation). p.clauses) c.decide.ensures.decided in (
      leaves_open root c.args.l c.requires.full c.in-Open.ensures.stands,
      (λ conflicts. c.in-None.ensures.none (subst (λ (cs : List (List Lit)). Conflicts cs (decisions decided)) (sym clauses) (subst (Conflicts root.clauses) (sym c.decide.ensures.decisions) conflicts))),
      c.in-None.ensures.continues.decides ∙ c.decide.ensures.decisions,
      full_continues decided c.propagate.new.self c.in-None.ensures.continues c.in-None.ensures.all_set,
    )
