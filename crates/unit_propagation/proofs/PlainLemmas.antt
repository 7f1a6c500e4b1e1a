-- Passes over the clauses: what a clause sets is in every closed set, and what one clause adds to a pass.
use Rattle.std.proofs.Common.{◌<◌, Bool, true, false, List, [], ◌∷◌, ◌++◌, length, get_or}
use Rattle.std.specs.Prelude.{All, Any, Contains}
use Rattle.std.proofs.lemmas.List.Elements.{All-contains, All-push, Contains-append_left}
use Rattle.cnf_core.specs.declared.formula.Lit.{Lit}
use Rattle.cnf_core.specs.Literal.{negation}
use Rattle.cnf_core.specs.Propagation.{Sets, Conflicts}
use Rattle.unit_propagation.specs.Units.{IsFalse, IsUnit}
use Rattle.unit_propagation.specs.Propagated.{SaysNothing}
use Rattle.unit_propagation.specs.Plain.{AreSet, Grew}

-- propagation sets what a clause leaves
sets_unit : (clauses : List (List Lit)) (decided trail clause : List Lit) (l : Lit) → AreSet clauses decided trail → Contains clauses clause → IsUnit trail clause l → Sets clauses decided l
sets_unit clauses decided trail clause l are stands unit set closed = closed.closes clause l stands unit.stands
    (λ k d inside differs. All-contains (Sets clauses decided) trail (negation (get_or clause k d)) are (unit.alone k d inside differs) set closed)

pub grew_unit : (clauses : List (List Lit)) (old trail clause : List Lit) (l : Lit) → Grew clauses old trail → Contains clauses clause → IsUnit trail clause l → Grew clauses old (trail ++ l ∷ [])
grew_unit clauses old trail clause l grew stands unit = record {
  keeps = λ k h. Contains-append_left trail (l ∷ []) k (grew.keeps k h);
  sound = λ decided h. All-push (Sets clauses decided) trail l (grew.sound decided h)
      (sets_unit clauses decided trail clause l (grew.sound decided h) stands unit);
}

pub grew_onward : (clauses : List (List Lit)) (old mid new : List Lit) → Grew clauses old mid → Grew clauses mid new → Grew clauses old new
grew_onward clauses old mid new first then = record {
  keeps = λ l h. then.keeps l (first.keeps l h);
  sound = λ decided h. then.sound decided (first.sound decided h);
}

-- the decided literals are set
pub are_set_decided : (clauses : List (List Lit)) (decided : List Lit) → AreSet clauses decided decided
are_set_decided clauses decided k d inside set closed = closed.decides k d inside

-- some clause's literals are false
pub conflicts_falsified : (clauses : List (List Lit)) (decided trail : List Lit) → AreSet clauses decided trail → Any (All (IsFalse trail)) clauses → Conflicts clauses decided
conflicts_falsified clauses decided trail are (k, clause, inside, at, falsified) =
    (k, clause, inside, at, λ i d within. All-contains (Sets clauses decided) trail (negation (get_or clause i d)) are (falsified i d within))

-- what is known of the clauses so far, as the pass has changed the trail or not
abbrev pub SoFar : List (List Lit) → List Lit → List Lit → Bool → Type 0
SoFar front old new true = length old < length new
SoFar front old new false = All (SaysNothing new) front

pub so_far_other : (front : List (List Lit)) (clause old new : List Lit) (changed : Bool) →
    SoFar front old new changed → SaysNothing new clause → SoFar (front ++ clause ∷ []) old new changed
so_far_other front clause old new true h says = h
so_far_other front clause old new false h says = All-push (SaysNothing new) front clause h says
