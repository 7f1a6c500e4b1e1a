-- The fields of a checker with nothing derived, with one line more, and what follows by them.
use Rattle.std.proofs.Common.{◌≡◌, ℕ, ◌+◌, ◌<◌, ◌≤◌, ◌⊎◌, Bool, false, List, [], ◌∷◌, ◌++◌, length, get_or, take, drop, map, inl, inr, ap, sym, ◌∙◌, subst, arith, length-append}
use Rattle.std.specs.Prelude.{◌↔◌, IsTrue, All, Contains, Some, Vec, slice_get}
use Rattle.std.specs.Global.{Global}
use Rattle.std.proofs.Math.Seq.{get_or-append_seam, take-append_seam}
use Rattle.std.proofs.lemmas.Bool.{cases_lt, both_ways}
use Rattle.std.proofs.lemmas.Option.{get_or_from_slice_get, slice_get-get_or, slice_get_within}
use Rattle.std.proofs.lemmas.List.{append-nil, take-append-le, drop-append-le, take-append-drop, drop_all, length-drop, length-map, map-append, take_all, get_or_append_left}
use Rattle.std.proofs.lemmas.List.Elements.{All-map, All-push, Contains-push, Contains-push_cases, Contains-append_left}
use Rattle.cnf_core.specs.declared.formula.Lit.{Lit}
use Rattle.cnf_core.specs.declared.derivation.Step.{Step as StepLine}
use Rattle.cnf_core.specs.declared.derivation.Derived.{Derived}
use Rattle.cnf_core.specs.declared.derivation.Derived.TheVariants.{Cube, Step}
use Rattle.cnf_core.specs.Literal.{negation}
use Rattle.refutation_checker.specs.Derivation.{Derivation, clause_of, known, before, extended, IsInput}
use Rattle.refutation_checker.specs.Acceptance.{FollowsByHints, IsLeastConflict, MayFollow, IsAccepted, IsEmptyStep, HasEmptyStep}
use Rattle.refutation_checker.specs.Hints.{HintsConflict}
use Rattle.unit_propagation.specs.Assigned.{Assigned}
use Rattle.unit_propagation.specs.Units.{IsWithin}
use Rattle.unit_propagation.specs.Propagation.{Propagation}
use Rattle.refutation_checker.specs.Cubes.{IsSettled, IsLeast}
use Rattle.refutation_checker.specs.Lines.{line_of, lines_of}
use Rattle.refutation_checker.specs.declared.evidence.Evidence.{Evidence}
use Rattle.refutation_checker.specs.Variables.{Numbering, IsNumbering, Numbers, HasVariable, width, external, external_clause, external_clauses, FollowsAmong}
use Rattle.refutation_checker.specs.Checked.{clauses_of, derivation_of, IsConsistent}
use Rattle.refutation_checker.specs.declared.checker.Checker.TheInside.{Inside}
use Rattle.refutation_checker.proofs.CubesLemmas.{conflict_refuses, least_of, least_conflict}
use Rattle.refutation_checker.proofs.RenamingLemmas.{least_renamed}
use Rattle.refutation_checker.proofs.VariablesLemmas.{one_to_one, inputs_fixed}
use Rattle.refutation_checker.proofs.LinesLemmas.{clauses_of_lines, lines_push}

abbrev over : ℕ → List (List Lit) → List Derived → Derivation
over inputs clauses derived = record { inputs = inputs; clauses = clauses; derived = derived }

same_over : (inputs : ℕ) (a b : List (List Lit)) (k l : List Derived) → a ≡ b → k ≡ l → over inputs a k ≡ over inputs b l
same_over inputs a b k l e f = ap (λ (x : List (List Lit)). over inputs x k) e ∙ ap (λ (y : List Derived). over inputs b y) f

some_same : {X : Type 0} (a b : X) → Some a ≡ Some b → a ≡ b
some_same a b e = cc

-- the clause of a line that may follow is over the numbered variables
pub line_has : (d : Derivation) (n : Numbering) (line : Derived) → Numbers n d.inputs d.clauses → MayFollow d line → All (λ l. HasVariable n l.var) (clause_of line)
line_has d n (Cube cube) numbers may =
    All-map (λ l. HasVariable n l.var) negation cube (λ k x inside. (numbers (get_or cube k x).var).1 (inl (may.decides_inputs k x inside)))
line_has d n (Step step) numbers may = λ k x inside. (numbers (get_or step.clause k x).var).1 (may.variables k x inside)

-- a line among those before, or the last
line_cases : (derived : List Derived) (line other : Derived) (i : ℕ) → slice_get (derived ++ line ∷ []) i ≡ Some other →
    ((i < length derived) × (slice_get derived i ≡ Some other)) ⊎ ((i ≡ length derived) × (line ≡ other))
line_cases derived line other i at =
    let within = slice_get_within (derived ++ line ∷ []) i other at in
    let read = get_or_from_slice_get (derived ++ line ∷ []) i other other at in
    elim (cases_lt i (length derived)) [
      | inl inside ↦ inl (inside, slice_get-get_or derived i other inside ∙ ap (λ (x : Derived). Some x) (sym (get_or_append_left derived (line ∷ []) other i inside) ∙ read))
      | inr past ↦
          let i_is : i ≡ length derived = omega (arith, length-append derived (line ∷ [])) in
          inr (i_is, sym (get_or-append_seam derived line [] other) ∙ ap (λ (n : ℕ). get_or (derived ++ line ∷ []) n other) (sym i_is) ∙ read)
    ]

accepted_extended : (d : Derivation) (line : Derived) → IsAccepted d → MayFollow d line → IsAccepted (extended d line)
accepted_extended d line accepted may i other at = elim (line_cases d.derived line other i at) [
  | inl earlier ↦
      let same : before d i ≡ before (extended d line) i = ap (over d.inputs d.clauses) (sym (take-append-le i d.derived (line ∷ []) (omega (arith, earlier.0)))) in
      subst (λ (x : Derivation). MayFollow x other) same (accepted i other earlier.1)
  | inr last ↦
      let all : take i (d.derived ++ line ∷ []) ≡ d.derived = ap (λ (n : ℕ). take n (d.derived ++ line ∷ [])) last.0 ∙ take-append_seam d.derived (line ∷ []) in
      let same : d ≡ before (extended d line) i = ap (over d.inputs d.clauses) (sym all) in
      subst (λ (x : Derivation). MayFollow x other) same (subst (MayFollow d) last.1 may)
]

-- the empty clause is among the lines where it was, or is the last
empty_extended : (d : Derivation) (line : Derived) (was is : Bool) → (IsTrue was ↔ HasEmptyStep d) → (IsTrue is ↔ (IsTrue was ⊎ IsEmptyStep line)) →
    IsTrue is ↔ HasEmptyStep (extended d line)
empty_extended d line was is before_it now = (onward, back) where
  onward : IsTrue is → HasEmptyStep (extended d line)
  onward holds = elim (now.0 holds) [
    | inl earlier ↦ up (before_it.0 earlier)
    | inr here ↦ (line, Contains-push d.derived line, here)
  ] where
    up : HasEmptyStep d → HasEmptyStep (extended d line)
    up (other, stands, empty) = (other, Contains-append_left d.derived (line ∷ []) other stands, empty)

  back : HasEmptyStep (extended d line) → IsTrue is
  back (other, stands, empty) = elim (Contains-push_cases d.derived line other stands) [
    | inl earlier ↦ now.1 (inl (before_it.1 (other, earlier, empty)))
    | inr same ↦ now.1 (inr (subst IsEmptyStep (sym same) empty))
  ]

-- the clauses of the root are the known ones
clauses_size : (a : Inside) → length (clauses_of a) ≡ length a.root.clauses
clauses_size a = length-map a.root.clauses (external_clause a.variables)

lines_size : (a : Inside) → IsConsistent a → length a.evidence.items ≡ length (drop a.given (clauses_of a))
lines_size a h = let size = length-drop a.given (clauses_of a) in let same = clauses_size a in let lines = h.lines in omega arith

pub known_is : (a : Inside) → IsConsistent a → known (derivation_of a) ≡ clauses_of a
known_is a h =
    ap (λ (cs : List (List Lit)). take a.given (clauses_of a) ++ cs) (clauses_of_lines (drop a.given (clauses_of a)) a.evidence.items (lines_size a h))
    ∙ take-append-drop a.given (clauses_of a)

-- a clause more is a line more
derivation_more : (a : Inside) (root : Propagation) (evidence : Vec Evidence Global) (internal clause : List Lit) (e : Evidence) → IsConsistent a →
    external_clause a.variables internal ≡ clause → root.clauses ≡ a.root.clauses ++ internal ∷ [] → evidence.items ≡ a.evidence.items ++ e ∷ [] →
    extended (derivation_of a) (line_of clause e) ≡ derivation_of (record a { root = root; evidence = evidence })
derivation_more a root evidence internal clause e h names clauses_are evidence_is =
    same_over a.variables.inputs (take a.given (clauses_of a)) (take a.given (external_clauses a.variables root.clauses)) (lines_of (drop a.given (clauses_of a)) a.evidence.items ++ line_of clause e ∷ [])
    (lines_of (drop a.given (external_clauses a.variables root.clauses)) evidence.items) (sym formula) (sym lines) where
      below : a.given ≤ length (clauses_of a)
      below = let lines = h.lines in let same = clauses_size a in omega arith

      more : external_clauses a.variables root.clauses ≡ clauses_of a ++ clause ∷ []
      more =
          ap (external_clauses a.variables) clauses_are
          ∙ map-append (external_clause a.variables) a.root.clauses (internal ∷ [])
          ∙ ap (λ (c : List Lit). clauses_of a ++ c ∷ []) names

      formula : take a.given (external_clauses a.variables root.clauses) ≡ take a.given (clauses_of a)
      formula = ap (take a.given) more ∙ take-append-le a.given (clauses_of a) (clause ∷ []) below

      lines : lines_of (drop a.given (external_clauses a.variables root.clauses)) evidence.items ≡ lines_of (drop a.given (clauses_of a)) a.evidence.items ++ line_of clause e ∷ []
      lines =
          ap (λ (cs : List (List Lit)). lines_of (drop a.given cs) evidence.items) more
          ∙ ap (λ (cs : List (List Lit)). lines_of cs evidence.items) (drop-append-le a.given (clauses_of a) (clause ∷ []) below)
          ∙ ap (lines_of (drop a.given (clauses_of a) ++ clause ∷ [])) evidence_is
          ∙ lines_push (drop a.given (clauses_of a)) a.evidence.items clause e (lines_size a h)

-- the fields of a checker with one line more, whose clause the root has
pub consistent_extended : (a : Inside) (root : Propagation) (conflict : Bool) (evidence : Vec Evidence Global) (refuted : Bool) (internal clause : List Lit) (e : Evidence) →
    IsConsistent a → MayFollow (derivation_of a) (line_of clause e) → external_clause a.variables internal ≡ clause → IsWithin (width a.variables) internal →
    root.clauses ≡ a.root.clauses ++ internal ∷ [] → root.width ≡ a.root.width → IsSettled root conflict →
    evidence.items ≡ a.evidence.items ++ e ∷ [] → (IsTrue refuted ↔ (IsTrue a.refuted ⊎ IsEmptyStep (line_of clause e))) →
    IsConsistent (record a { root = root; conflict = conflict; evidence = evidence; refuted = refuted })
consistent_extended a root conflict evidence refuted internal clause e h may names inside clauses_are width_is settled evidence_is now = record {
  lines = omega (arith, ap length clauses_are, length-append a.root.clauses (internal ∷ []), ap length evidence_is, length-append a.evidence.items (e ∷ []), h.lines);
  root = settled;
  numbering = h.numbering;
  root_width = width_is ∙ h.root_width;
  within = subst (All (IsWithin (width a.variables))) (sym clauses_are) (All-push (IsWithin (width a.variables)) a.root.clauses internal h.within inside);
  hinted_width = h.hinted_width;
  nothing_set = h.nothing_set;
  variables = subst (Numbers a.variables a.variables.inputs) (ap (λ (d : Derivation). d.clauses) same) h.variables;
  accepted = subst IsAccepted same (accepted_extended (derivation_of a) (line_of clause e) h.accepted may);
  empty_step = subst (λ (d : Derivation). IsTrue refuted ↔ HasEmptyStep d) same (empty_extended (derivation_of a) (line_of clause e) a.refuted refuted h.empty_step now);
} where
  same : extended (derivation_of a) (line_of clause e) ≡ derivation_of (record a { root = root; evidence = evidence })
  same = derivation_more a root evidence internal clause e h names clauses_are evidence_is

pub derivation_extended : (a : Inside) (root : Propagation) (conflict : Bool) (evidence : Vec Evidence Global) (refuted : Bool) (internal clause : List Lit) (e : Evidence) →
    IsConsistent a → external_clause a.variables internal ≡ clause → root.clauses ≡ a.root.clauses ++ internal ∷ [] → evidence.items ≡ a.evidence.items ++ e ∷ [] →
    derivation_of (record a { root = root; conflict = conflict; evidence = evidence; refuted = refuted }) ≡ extended (derivation_of a) (line_of clause e)
derivation_extended a root conflict evidence refuted internal clause e h names clauses_are evidence_is = sym (derivation_more a root evidence internal clause e h names clauses_are evidence_is)

-- the fields are as before, but for the room in them and literals that a step set
pub consistent_kept : (a : Inside) (root : Propagation) (evidence : Vec Evidence Global) → IsConsistent a → root ≡ a.root → evidence.items ≡ a.evidence.items →
    IsConsistent (record a { root = root; evidence = evidence })
consistent_kept a root evidence h root_is evidence_is =
    subst (λ (p : Propagation). IsConsistent (record a { root = p; evidence = evidence })) (sym root_is) (record {
      lines = ap (λ (n : ℕ). a.given + n) (ap length evidence_is) ∙ h.lines;
      root = h.root;
      numbering = h.numbering;
      root_width = h.root_width;
      within = h.within;
      hinted_width = h.hinted_width;
      nothing_set = h.nothing_set;
      variables = h.variables;
      accepted = subst IsAccepted same h.accepted;
      empty_step = subst (λ (d : Derivation). IsTrue a.refuted ↔ HasEmptyStep d) same h.empty_step;
    }) where
      same : derivation_of a ≡ derivation_of (record a { evidence = evidence })
      same = ap (λ (es : List Evidence). over a.variables.inputs (take a.given (clauses_of a)) (lines_of (drop a.given (clauses_of a)) es)) (sym evidence_is)

pub consistent_hinted : (a : Inside) (hinted : Assigned) → IsConsistent a → hinted.width ≡ a.hinted.width → hinted.trail ≡ [] → IsConsistent (record a { hinted = hinted })
consistent_hinted a hinted h width_is nothing = record {
  lines = h.lines;
  root = h.root;
  numbering = h.numbering;
  root_width = h.root_width;
  within = h.within;
  hinted_width = subst (λ (n : ℕ). width a.variables ≤ n) (sym width_is) h.hinted_width;
  nothing_set = nothing;
  variables = h.variables;
  accepted = h.accepted;
  empty_step = h.empty_step;
}

-- a step that follows the known clauses follows the derivation, and the other way round
pub follows_among : (a : Inside) (step : StepLine) → IsConsistent a → FollowsAmong a.variables a.root.clauses step ↔ FollowsByHints (derivation_of a) step
follows_among a step h = (onward, from) where
  onward : FollowsAmong a.variables a.root.clauses step → FollowsByHints (derivation_of a) step
  onward f = record {
    variables = λ k d inside. (h.variables (get_or step.clause k d).var).0 (f.0.0 k d inside);
    apart = f.0.1;
    conflict = subst (λ (cs : List (List Lit)). HintsConflict cs (map negation step.clause) step.hints) (sym (known_is a h)) f.1;
  }

  from : FollowsByHints (derivation_of a) step → FollowsAmong a.variables a.root.clauses step
  from f = (
    ((λ k d inside. (h.variables (get_or step.clause k d).var).1 (f.variables k d inside)), f.apart),
    subst (λ (cs : List (List Lit)). HintsConflict cs (map negation step.clause) step.hints) (known_is a h) f.conflict,
  )

pub follows_answer : (a : Inside) (step : StepLine) (clauses : List (List Lit)) (answer : Bool) → IsConsistent a → clauses ≡ a.root.clauses →
    (IsTrue answer ↔ FollowsAmong a.variables clauses step) → IsTrue answer ↔ FollowsByHints (derivation_of a) step
follows_answer a step clauses answer h clauses_are says =
    let both = follows_among a step h in
    let now = subst (λ (cs : List (List Lit)). IsTrue answer ↔ FollowsAmong a.variables cs step) clauses_are says in
    ((λ yes. both.0 (now.0 yes)), (λ follows. now.1 (both.1 follows)))

-- a least conflict of the root's clauses is one of the known ones
least_known : (a : Inside) (cube : List Lit) → IsConsistent a → All (λ l. IsInput a.variables.inputs l.var) cube → IsLeast a.root.clauses cube ↔ IsLeast (known (derivation_of a)) cube
least_known a cube h inputs = subst (λ (cs : List (List Lit)). IsLeast a.root.clauses cube ↔ IsLeast cs cube) (sym (known_is a h))
    (least_renamed (external a.variables) (width a.variables) a.root.clauses cube (one_to_one a.variables h.numbering) h.within (inputs_fixed a.variables cube inputs))

pub least_answer : (a : Inside) (cube : List Lit) (answer : Bool) → IsConsistent a → (IsTrue answer ↔ IsLeastConflict a.variables.inputs a.root.clauses cube) →
    IsTrue answer ↔ IsLeastConflict a.variables.inputs (known (derivation_of a)) cube
least_answer a cube answer h says = (onward, from) where
  onward : IsTrue answer → IsLeastConflict a.variables.inputs (known (derivation_of a)) cube
  onward holds =
      let least = says.0 holds in
      let known_least = (least_known a cube h least.decides_inputs).0 (least_of a.variables.inputs a.root.clauses cube least) in
      (least_conflict a.variables.inputs (known (derivation_of a)) cube least.decides_inputs).0 known_least

  from : IsLeastConflict a.variables.inputs (known (derivation_of a)) cube → IsTrue answer
  from least =
      let root_least = (least_known a cube h least.decides_inputs).1 (least_of a.variables.inputs (known (derivation_of a)) cube least) in
      says.1 ((least_conflict a.variables.inputs a.root.clauses cube least.decides_inputs).0 root_least)

pub least_none : (a : Inside) (cube : List Lit) → IsConsistent a → IsTrue a.conflict → IsLeastConflict a.variables.inputs a.root.clauses cube → ⊥
least_none a cube h conflict least = conflict_refuses a.root.clauses cube (h.root.conflicts conflict) (least_of a.variables.inputs a.root.clauses cube least)

no_lines : (line : Derived) → Contains [] line → ⊥
no_lines line (k, inside, at) = absurd (omega arith)

-- with no lines all are accepted, none is empty, and the formula is what is known
nothing_derived : (d : Derivation) → d.derived ≡ [] → IsAccepted d × (HasEmptyStep d → ⊥) × (known d ≡ d.clauses)
nothing_derived d none = (
  (λ i line at. absurd (no_line i line (subst (λ (ds : List Derived). slice_get ds i ≡ Some line) none at))),
  (λ h. no_lines h.0 (subst (λ (ds : List Derived). Contains ds h.0) none h.1)),
  ap (λ (ds : List Derived). d.clauses ++ map clause_of ds) none ∙ append-nil d.clauses,
) where
  no_line : (i : ℕ) (line : Derived) → slice_get [] i ≡ Some line → ⊥
  no_line i line at = cc

-- the fields of a checker with nothing derived
pub consistent_new : (a : Inside) → a.given ≡ length a.root.clauses → a.evidence.items ≡ [] → IsSettled a.root a.conflict → IsNumbering a.variables →
    a.root.width ≡ width a.variables → All (IsWithin (width a.variables)) a.root.clauses → width a.variables ≤ a.hinted.width →
    a.hinted.trail ≡ [] → Numbers a.variables a.variables.inputs (clauses_of a) → a.refuted ≡ false → IsConsistent a
consistent_new a given_is none settled numbering root_width within hinted_width nothing numbers not_refuted = record {
  lines = omega (arith, ap length none, given_is);
  root = settled;
  numbering = numbering;
  root_width = root_width;
  within = within;
  hinted_width = hinted_width;
  nothing_set = nothing;
  variables = subst (Numbers a.variables a.variables.inputs) (sym (take_all a.given (clauses_of a) (omega (arith, clauses_size a)))) numbers;
  accepted = (nothing_derived (derivation_of a) no_lines).0;
  empty_step = ((λ yes. absurd (both_ways a.refuted not_refuted yes)), (λ has. absurd ((nothing_derived (derivation_of a) no_lines).1 has)));
} where
  no_lines : lines_of (drop a.given (clauses_of a)) a.evidence.items ≡ []
  no_lines = ap (λ (cs : List (List Lit)). lines_of cs a.evidence.items) (drop_all a.given (clauses_of a) (omega (arith, clauses_size a)))
