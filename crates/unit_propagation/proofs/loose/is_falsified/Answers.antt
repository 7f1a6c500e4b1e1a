-- The clause has one literal, however often it stands there.
use Rattle.std.proofs.Common.{◌≡◌, ◌<◌, ℕ, ◌∷◌, [], ◌++◌, List, Some, length, get_or, sym, ap, ◌∙◌, subst}
use Rattle.std.specs.Prelude.{Any, Contains, slice_get}
use Rattle.std.proofs.lemmas.List.Elements.{Contains-get_or, Contains-push}
use Rattle.std.proofs.lemmas.Option.{slice_get-get_or, slice_get_within, get_or_from_slice_get}
use Rattle.cnf_core.specs.declared.formula.Lit.{Lit}
use Rattle.unit_propagation.specs.declared.assignment.Cause.{Cause}
use Rattle.unit_propagation.specs.Units.{IsFalse, IsOpen, IsUnit}
use Rattle.unit_propagation.specs.Trail.{Implies}
use Rattle.unit_propagation.proofs.TrailLemmas.{implies_none, implies_one}
use Rattle.unit_propagation.proofs.loose.is_falsified.Goals as goal

-- the first literal stands in the clause
first_stands : (clauses : List (List Lit)) (n : ℕ) (seen : List Lit) (l : Lit) → n < length clauses → seen ≡ get_or clauses n [] → Some l ≡ slice_get seen 0 →
    Contains (get_or clauses n []) l
first_stands clauses n seen l inside whole first =
    subst (λ (k : List Lit). Contains k l) whole (0, slice_get_within seen 0 l (sym first), get_or_from_slice_get seen 0 l l (sym first))

true_in : (trail clause : List Lit) (l : Lit) → Contains clause l → Contains trail l → Any (Contains trail) clause
true_in trail clause l (k, inside, at) is = (k, l, inside, at, is)

pub returns-in-True-clause-implies : goal.returns-in-True-clause-implies
returns-in-True-clause-implies c = implies_none c.args.watched.now.clauses c.args.assignment.now.trail c.args.assignment.now.causes

pub returns-in-False-clause-implies : goal.returns-in-False-clause-implies
returns-in-False-clause-implies c = implies_none c.args.watched.now.clauses c.args.assignment.now.trail c.args.assignment.now.causes

pub returns-in-True-clause-is_true : goal.returns-in-True-clause-is_true
returns-in-True-clause-is_true c =
    let stands = first_stands c.args.watched.now.clauses c.args.number c.literals.result.now c.in-Some.l.now c.requires.loose.0 c.literals.ensures.are c.in-Some.ensures.value in
    true_in c.args.assignment.now.trail (get_or c.args.watched.now.clauses c.args.number []) c.in-Some.l.now stands (subst (Contains c.args.assignment.now.trail) c.lit.ensures c.in-True.ensures.0)

pub returns-in-False-clause-falsified : goal.returns-in-False-clause-falsified
returns-in-False-clause-falsified c =
    let clause = get_or c.args.watched.now.clauses c.args.number [] in
    let stands = first_stands c.args.watched.now.clauses c.args.number c.literals.result.now c.in-Some.l.now c.requires.loose.0 c.literals.ensures.are c.in-Some.ensures.value in
    λ k d inside. subst (IsFalse c.args.assignment.now.trail) (c.requires.loose.1 [] c.in-Some.l.now (get_or clause k d) stands (Contains-get_or clause k d inside)) (subst (IsFalse c.args.assignment.now.trail) c.lit.ensures c.in-False.ensures.0)

pub returns-in-Open-clause-implies : goal.returns-in-Open-clause-implies
returns-in-Open-clause-implies c =
    let clauses = c.args.watched.now.clauses in
    let trail = c.args.assignment.now.trail in
    let causes = c.args.assignment.now.causes in
    let n = c.args.number in
    let l = c.in-Some.l.now in
    let clause = get_or clauses n [] in
    let stands = first_stands clauses n c.literals.result.now l c.requires.loose.0 c.literals.ensures.are c.in-Some.ensures.value in
    let unit : IsUnit trail clause l = record {
      stands = stands;
      is_open = subst (IsOpen trail) c.lit.ensures c.in-Open.ensures;
      alone = λ k d inside differs. absurd (differs (c.requires.loose.1 [] (get_or clause k d) l (Contains-get_or clause k d inside) stands));
    } in
    let added : c.set.new.self.trail ≡ trail ++ l ∷ [] = c.set.ensures.trail ∙ ap (λ (k : Lit). trail ++ k ∷ []) c.lit-in-Open.ensures in
    let one = implies_one clauses trail causes n clause l (slice_get-get_or clauses n [] c.requires.loose.0) unit in
    subst (λ (t : List Lit). Implies clauses trail causes t c.set.new.self.causes) (sym added)
    (subst (λ (cs : List Cause). Implies clauses trail causes (trail ++ l ∷ []) cs) (sym c.set.ensures.causes) one)

pub returns-in-Open-clause-is_true : goal.returns-in-Open-clause-is_true
returns-in-Open-clause-is_true c =
    let l = c.in-Some.l.now in
    let stands = first_stands c.args.watched.now.clauses c.args.number c.literals.result.now l c.requires.loose.0 c.literals.ensures.are c.in-Some.ensures.value in
    true_in c.set.new.self.trail (get_or c.args.watched.now.clauses c.args.number []) l stands
    (subst (λ (t : List Lit). Contains t l) (sym (c.set.ensures.trail ∙ ap (λ (k : Lit). c.args.assignment.now.trail ++ k ∷ []) c.lit-in-Open.ensures)) (Contains-push c.args.assignment.now.trail l))

pub returns-in_default-clause-implies : goal.returns-in_default-clause-implies
returns-in_default-clause-implies c = implies_none c.args.watched.now.clauses c.args.assignment.now.trail c.args.assignment.now.causes
