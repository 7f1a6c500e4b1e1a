-- What the parser and the blocks of a built program are, and which statements it has.
use Rattle.std.proofs.Common.{◌≡◌, ◌≢◌, ℕ, zero, suc, List, [], ◌∷◌, ◌++◌, length, Option, Some, None, refl, sym, ap, ◌∙◌, subst, append-nil, append_assoc, arith}
use Rattle.std.specs.Prelude.{slice_get, flat_map, option_map, option_and_then, IsSomeAnd, All}
use Rattle.std.specs.Option.{option_map_or}
use Rattle.std.proofs.lemmas.List.{length-map}
use Rattle.std.proofs.lemmas.Option.{none-some, same_Some}
use Rattle.p4_program.specs.declared.bounds.Bounds.{Bounds}
use Rattle.p4_program.specs.declared.typed.callables.Direction.{Direction}
use Rattle.p4_program.specs.declared.typed.callables.Parameter.{Parameter}
use Rattle.p4_program.specs.declared.typed.callables.Target.TheVariants.{Accept}
use Rattle.p4_program.specs.declared.typed.input.Input.{Input}
use Rattle.p4_program.specs.declared.typed.instances.Instance.{Instance}
use Rattle.p4_program.specs.declared.typed.types.ValueType.{ValueType}
use Rattle.p4_program.specs.Built.{Built, BuiltParser, AcceptsAtOnce, EmptyControl, BuiltIngress, OfInstance, Unnumbered, AllUnnumbered, CasesUnnumbered, CallableUnnumbered}
use Rattle.p4_program.specs.Syntax.Callables.{CoreControl, CoreParser, CoreState, To, CoreCallable, OfAction, OfParser, OfControl}
use Rattle.p4_program.specs.Syntax.Lookup.{as_control, control_at}
use Rattle.p4_program.specs.Syntax.Numbering.{numbered_in, numbered_in_all, numbered_in_cases, numbered_in_state, numbered_in_callable, statements_numbered}
use Rattle.p4_program.specs.Syntax.Programs.{CoreProgram}
use Rattle.p4_program.specs.Syntax.Statements.{CoreStatement, CoreStatements, CoreCases, Numbered, Declare, If, Switch, NoStatements, Then, NoCases, Case}
use Rattle.p4_program.specs.WellFormed.Programs.{WellFormed, BlockHas, control_of_instance, control_here, parser_at, signature}
use Rattle.p4_meaning.specs.Runs.Acts.{Environment}
use Rattle.p4_meaning.specs.Runs.Bodies.{reach_in, control_body, controls_behind}
use Rattle.p4_meaning.specs.Runs.BuiltRuns.{ingress_statements}
use Rattle.p4_meaning.specs.Runs.Calls.{found_callee}
use Rattle.p4_meaning.specs.Runs.Expressions.{Callee}
use Rattle.p4_meaning.specs.Runs.Run.{environment}
use Rattle.p4_meaning.specs.Runs.Switch.{found_parser}
use Rattle.p4_meaning.proofs.BuiltSwitch.{callee_with, BlockIs, ParserIs, BlocksAre}
use Rattle.p4_meaning.proofs.ListLaws.{each_all}

-- ---- options

pub some_and : {T : Type 0} (o : Option T) (P : T → Type 0) → IsSomeAnd o P → (x : T) × (o ≡ Some x) × P x
some_and None P h = absurd h
some_and (Some x) P h = (x, refl, h)

pub mapped : {A B : Type 0} → (f : A → B) (o : Option A) (b : B) → option_map f o ≡ Some b → (a : A) × (o ≡ Some a) × (f a ≡ b)
mapped f None b e = absurd (none-some b e)
mapped f (Some a) b e = (a, refl, same_Some (f a) b e)

-- ---- the controls of instances

-- an instance has a control, of which this holds
pub record Found (p : CoreProgram) (n : ℕ) (P : ℕ → CoreControl → Type 0) : Type 0 where
  pub instance : Instance
  pub instance_is : slice_get p.instances n ≡ Some instance
  pub control : CoreControl
  pub control_is : control_at p instance.control ≡ Some control
  pub here : control_here p n ≡ Some control
  pub holds : P instance.control control

pub found_control : (p : CoreProgram) (n : ℕ) (P : ℕ → CoreControl → Type 0) → OfInstance p n P → Found p n P
found_control p n P h =
    let of_instance = some_and (control_of_instance p n) (λ k. IsSomeAnd (control_at p k) (P k)) h in
    let of_control = some_and (control_at p of_instance.0) (P of_instance.0) of_instance.2 in
    let i = mapped (λ (i : Instance). i.control) (slice_get p.instances n) of_instance.0 of_instance.1 in
    record {
      instance = i.0;
      instance_is = i.1;
      control = of_control.0;
      control_is = ap (control_at p) i.2 ∙ of_control.1;
      here = ap (option_and_then (control_at p)) of_instance.1 ∙ of_control.1;
      holds = subst (λ k. P k of_control.0) (sym i.2) of_control.2;
    }

-- the controls behind those that are known, each of them built of some known before it
record Behind (env : Environment) (known : List Callee) (is : List Instance) : Type 0 where
  rest : List Callee
  split : controls_behind env known is ≡ known ++ rest
  each : (n : ℕ) (i : Instance) → slice_get is n ≡ Some i
      → (before : List Callee) × (slice_get rest n ≡ Some (control_body env before i (control_at env.program i.control)))

behind : (env : Environment) (known : List Callee) (is : List Instance) → Behind env known is
behind env known [] = record { rest = []; split = sym (append-nil known); each = λ n i e. absurd (none-some i e) }
behind env known (j ∷ is) =
    let first = control_body env known j (control_at env.program j.control) in
    let later = behind env (known ++ first ∷ []) is in
    record {
      rest = first ∷ later.rest;
      split = later.split ∙ append_assoc known (first ∷ []) later.rest;
      each = at_first env known j is later;
    }
  where
    at_first : (env : Environment) (known : List Callee) (j : Instance) (is : List Instance)
        (later : Behind env (known ++ control_body env known j (control_at env.program j.control) ∷ []) is) (n : ℕ) (i : Instance)
        → slice_get (j ∷ is) n ≡ Some i
        → (before : List Callee)
        × (slice_get (control_body env known j (control_at env.program j.control) ∷ later.rest) n ≡ Some (control_body env before i (control_at env.program i.control)))
    at_first env known j is later zero i e =
        (known, ap (λ (k : Instance). Some (control_body env known k (control_at env.program k.control))) (same_Some j i e))
    at_first env known j is later (suc n) i e = later.each n i e

-- a block is the body of its control
block_is : (p : CoreProgram) (b : Bounds) (x : Input) (n count : ℕ) (list : List (Direction × ValueType)) (P : ℕ → CoreControl → Type 0) (f : Found p n P)
    → f.control.variables ≡ [] → BlockHas p n list → length list ≡ count → BlockIs (environment p b x) n count f.control.body
block_is p b x n count list P f none has as_many =
    let env = environment p b x in
    let all = behind env [] p.instances in
    let one = all.each n f.instance f.instance_is in
    let has_here : signature f.control.parameters ≡ list =
    same_Some (signature f.control.parameters) list (sym (ap (option_map (λ (c : CoreControl). signature c.parameters)) f.here) ∙ has) in
    record {
      reach = reach_in env one.0 f.instance f.control;
      parameters = f.control.parameters;
      as_many = sym (length-map f.control.parameters (λ (q : Parameter). (q.direction, q.value_type))) ∙ ap length has_here ∙ as_many;
      is = ap (λ cs. found_callee (slice_get cs n)) all.split
          ∙ ap found_callee one.1
          ∙ ap (control_body env one.0 f.instance) f.control_is
          ∙ ap (λ ts. record (callee_with (reach_in env one.0 f.instance f.control) f.control.parameters f.control.body) { variables = ts }) none;
    }

empty_is : (p : CoreProgram) (b : Bounds) (x : Input) (n count : ℕ) (list : List (Direction × ValueType)) → OfInstance p n (EmptyControl p)
    → BlockHas p n list → length list ≡ count → BlockIs (environment p b x) n count NoStatements
empty_is p b x n count list h has as_many =
    let f = found_control p n (EmptyControl p) h in
    subst (BlockIs (environment p b x) n count) f.holds.no_statement
    (block_is p b x n count list (EmptyControl p) f f.holds.declares_nothing.no_variable has as_many)

-- ---- the parser

one_state : (states : List CoreState) → length states ≡ 1 → All AcceptsAtOnce states → states ≡ record { statements = NoStatements; transition = To Accept } ∷ []
one_state [] one each = cc
one_state (s ∷ []) one each =
    let accepts = (each_all AcceptsAtOnce (s ∷ []) each).0 in
    λ i. record { statements = accepts.nothing i; transition = accepts.accepts i } ∷ []
one_state (s ∷ t ∷ states) one each = absurd (omega (arith, one))

parser_is : (p : CoreProgram) (b : Bounds) (x : Input) → WellFormed p → IsSomeAnd (parser_at p p.blocks.parser) BuiltParser → ParserIs (environment p b x)
parser_is p b x well h =
    let found = some_and (parser_at p p.blocks.parser) BuiltParser h in
    let q : CoreParser = found.0 in
    let has = mapped (λ (q : CoreParser). signature q.parameters) (parser_at p p.blocks.parser) _ well.blocks_fit.parser in
    let same : has.0 ≡ q = same_Some has.0 q (sym has.1 ∙ found.1) in
    let states = one_state q.states found.2.one_state found.2.accepts in
    record {
      parameters = q.parameters;
      as_many = sym (length-map q.parameters (λ (q : Parameter). (q.direction, q.value_type))) ∙ ap (λ (q : CoreParser). length (signature q.parameters)) (sym same) ∙ ap length has.2;
      start = q.start;
      is = ap found_parser found.1
          ∙ (λ i. record {
            parameters = q.parameters;
            variables = found.2.no_variable i;
            beginning = found.2.nothing_before i;
            states = states i;
            start = q.start;
          });
    }

-- ---- all blocks

pub ingress_of : (p : CoreProgram) → Built p → Found p p.blocks.ingress (BuiltIngress p)
ingress_of p built = found_control p p.blocks.ingress (BuiltIngress p) built.ingress

pub blocks_are : (p : CoreProgram) (b : Bounds) (x : Input) → WellFormed p → (built : Built p) → BlocksAre (environment p b x) (ingress_of p built).control.body
blocks_are p b x well built =
    let fit = well.blocks_fit in
    let f = ingress_of p built in
    record {
      parser = parser_is p b x well built.parser;
      verify = empty_is p b x p.blocks.verify 2 _ built.verify fit.verify refl;
      ingress = block_is p b x p.blocks.ingress 3 _ (BuiltIngress p) f f.holds.declares_nothing.no_variable fit.ingress refl;
      egress = empty_is p b x p.blocks.egress 3 _ built.egress fit.egress refl;
      compute = empty_is p b x p.blocks.compute 2 _ built.compute fit.compute refl;
      deparser = empty_is p b x p.blocks.deparser 1 _ built.deparser fit.deparser refl;
    }

pub statements_are : (p : CoreProgram) (built : Built p) → ingress_statements p ≡ (ingress_of p built).control.body
statements_are p built = ap (λ o. option_map_or (λ (c : CoreControl). c.body) o NoStatements) (ingress_of p built).here

-- ---- the numbered statements

mutual
  unnumbered_one : (s : CoreStatement) → Unnumbered s → numbered_in s ≡ []
  unnumbered_one (Numbered number place work) h = absurd h
  unnumbered_one (Declare root t value) h = refl
  unnumbered_one (If place condition a b) h = ap (λ ns. ns ++ numbered_in_all b) (unnumbered_all a h.0) ∙ unnumbered_all b h.1
  unnumbered_one (Switch table cases) h = unnumbered_cases cases h

  unnumbered_all : (ss : CoreStatements) → AllUnnumbered ss → numbered_in_all ss ≡ []
  unnumbered_all NoStatements h = refl
  unnumbered_all (Then s rest) h = ap (λ ns. ns ++ numbered_in_all rest) (unnumbered_one s h.0) ∙ unnumbered_all rest h.1

  unnumbered_cases : (cases : CoreCases) → CasesUnnumbered cases → numbered_in_cases cases ≡ []
  unnumbered_cases NoCases h = refl
  unnumbered_cases (Case labels body rest) h = ap (λ ns. ns ++ numbered_in_cases rest) (unnumbered_all body h.0) ∙ unnumbered_cases rest h.1

unnumbered_states : (states : List CoreState) → All (λ s. AllUnnumbered s.statements) states → flat_map numbered_in_state states ≡ []
unnumbered_states [] h = refl
unnumbered_states (s ∷ states) h =
    ap (λ ns. ns ++ flat_map numbered_in_state states) (unnumbered_all s.statements (h 0 s (omega arith)))
    ∙ unnumbered_states states (λ k d l. h (suc k) d (omega (arith, l)))

unnumbered_callable : (c : CoreCallable) → CallableUnnumbered c → numbered_in_callable c ≡ []
unnumbered_callable (OfAction a) h = unnumbered_all a.body h
unnumbered_callable (OfParser q) h =
    ap (λ ns. ns ++ flat_map numbered_in_state q.states) (unnumbered_all q.beginning h.beginning) ∙ unnumbered_states q.states h.states
unnumbered_callable (OfControl c) h = unnumbered_all c.body h

none_numbered : (cs : List CoreCallable) → ((k : ℕ) (d : CoreCallable) → slice_get cs k ≡ Some d → CallableUnnumbered d) → flat_map numbered_in_callable cs ≡ []
none_numbered [] h = refl
none_numbered (c ∷ cs) h =
    ap (λ ns. ns ++ flat_map numbered_in_callable cs) (unnumbered_callable c (h 0 c refl)) ∙ none_numbered cs (λ k d e. h (suc k) d e)

-- one callable alone has numbered statements
one_numbered : (cs : List CoreCallable) (n : ℕ) (c : CoreCallable) → slice_get cs n ≡ Some c
    → ((k : ℕ) (d : CoreCallable) → k ≢ n → slice_get cs k ≡ Some d → CallableUnnumbered d) → flat_map numbered_in_callable cs ≡ numbered_in_callable c
one_numbered [] n c e h = absurd (none-some c e)
one_numbered (d ∷ cs) zero c e h =
    ap (λ ns. numbered_in_callable d ++ ns) (none_numbered cs (λ k f is. h (suc k) f (λ same. absurd (omega (arith, same))) is))
    ∙ append-nil (numbered_in_callable d) ∙ ap numbered_in_callable (same_Some d c e)
one_numbered (d ∷ cs) (suc n) c e h =
    ap (λ ns. ns ++ flat_map numbered_in_callable cs) (unnumbered_callable d (h 0 d (λ same. absurd (omega (arith, same))) refl))
    ∙ one_numbered cs n c e (λ k f other is. h (suc k) f (λ same. other (omega (arith, same))) is)

pub is_control : (o : Option CoreCallable) (c : CoreControl) → option_and_then as_control o ≡ Some c → o ≡ Some (OfControl c)
is_control None c e = absurd (none-some c e)
is_control (Some (OfAction a)) c e = absurd (none-some c e)
is_control (Some (OfParser q)) c e = absurd (none-some c e)
is_control (Some (OfControl d)) c e = ap (λ k. Some (OfControl k)) (same_Some d c e)

pub numbered_are : (p : CoreProgram) (built : Built p) → statements_numbered p ≡ numbered_in_all (ingress_of p built).control.body
numbered_are p built =
    let f = ingress_of p built in
    one_numbered p.callables f.instance.control (OfControl f.control) (is_control (slice_get p.callables f.instance.control) f.control f.control_is) f.holds.no_other
