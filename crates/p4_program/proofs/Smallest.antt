-- A program is well-formed and built: the smallest, whose blocks do nothing.
use Rattle.std.proofs.Common.{◌≡◌, ℕ, zero, suc, ◌+◌, ◌<◌, ◌≤◌, List, [], ◌∷◌, length, Some, slice_get, sum_by, All, IsSomeAnd, refl, subst, arith, lit<, lit≤}
use Rattle.std.specs.Bool.{⊤}
use Rattle.std.proofs.lemmas.List.Sorted.{IsPermutation-refl}
use Rattle.std.proofs.lemmas.Option.{slice_get_within, get_or_from_slice_get}
use Rattle.p4_program.specs.declared.typed.callables.Direction.{Direction}
use Rattle.p4_program.specs.declared.typed.callables.Direction.TheVariants.{In, Out, InOut}
use Rattle.p4_program.specs.declared.typed.callables.Parameter.{Parameter}
use Rattle.p4_program.specs.declared.typed.callables.Target.TheVariants.{Accept}
use Rattle.p4_program.specs.declared.typed.instances.Instance.{Instance}
use Rattle.p4_program.specs.declared.typed.limits.TheConstants.{MAX_CALL_DEPTH, MAX_PATHS}
use Rattle.p4_program.specs.declared.typed.types.StructType.{StructType}
use Rattle.p4_program.specs.declared.typed.types.ValueType.{ValueType}
use Rattle.p4_program.specs.declared.typed.types.ValueType.TheVariants.{Struct}
use Rattle.p4_program.specs.Built.{AcceptsAtOnce, AllUnnumbered, Built, BuiltIngress, BuiltParser, CallableUnnumbered, DeclaresNothing, EmptyControl, IsNotOf, ParserUnnumbered}
use Rattle.p4_program.specs.Syntax.Callables.{CoreControl, CoreParser, CoreState, To, CoreCallable, OfAction, OfParser, OfControl}
use Rattle.p4_program.specs.Syntax.Lookup.{control_at}
use Rattle.p4_program.specs.Syntax.Programs.{CoreProgram}
use Rattle.p4_program.specs.Syntax.Statements.{NoStatements}
use Rattle.p4_program.specs.WellFormed.Callables.{CallableStands, ActionStands, ParserStands, ControlStands, FrameFits, StateFits, parser_scope}
use Rattle.p4_program.specs.WellFormed.Chains.{ChainsWithin, calls_at}
use Rattle.p4_program.specs.WellFormed.Stores.{paths_of, locals_of}
use Rattle.p4_program.specs.WellFormed.Programs.{WellFormed, InstancesFit, InstanceFits, BlocksFit, WithinLimits, no_action}
use Rattle.p4_program.specs.WellFormed.Types.{TypesFit, TypeFits, WidthFits, IsType, standard_fields, standard_metadata}

-- ---- the program

abbrev parameter : Direction → ValueType → Parameter
parameter direction t = record { direction = direction; value_type = t; name = [] }

-- the headers and the metadata are both of a struct without fields
abbrev shared : Direction → List Parameter
shared direction = parameter direction (Struct 1) ∷ parameter InOut (Struct 1) ∷ []

abbrev all_three : Direction → List Parameter
all_three direction = parameter direction (Struct 1) ∷ parameter InOut (Struct 1) ∷ parameter InOut standard_metadata ∷ []

abbrev control_with : List Parameter → CoreControl
control_with ps = record { parameters = ps; variables = []; body = NoStatements; tables = []; children = [] }

abbrev accepting : CoreState
accepting = record { statements = NoStatements; transition = To Accept }

abbrev parser : CoreParser
parser =
    record {
      parameters = all_three Out;
      variables = [];
      beginning = NoStatements;
      states = accepting ∷ [];
      start = 0;
    }

abbrev standard_struct : StructType
standard_struct = record { fields = standard_fields 7 }

abbrev empty_struct : StructType
empty_struct = record { fields = [] }

abbrev instance_of : ℕ → Instance
instance_of n = record { control = n; tables = []; children = [] }

abbrev pub smallest : CoreProgram
smallest =
    record {
      headers = [];
      structs = standard_struct ∷ empty_struct ∷ [];
      errors = 7;
      callables =
          OfAction no_action ∷ OfParser parser ∷ OfControl (control_with (shared InOut)) ∷
          OfControl (control_with (all_three InOut)) ∷ OfControl (control_with (all_three InOut)) ∷
          OfControl (control_with (shared InOut)) ∷ OfControl (control_with (parameter In (Struct 1) ∷ [])) ∷ [];
      instances = instance_of 2 ∷ instance_of 3 ∷ instance_of 4 ∷ instance_of 5 ∷ instance_of 6 ∷ [];
      tables = [];
      blocks = record { parser = 1; verify = 0; ingress = 1; egress = 2; compute = 3; deparser = 4 };
      main = record { line = 1; column = 1 };
    }

-- ---- lists

none : {A : Type 0} (P : A → Type 0) → All P []
none P k d below = absurd (let past : k < 0 = below in omega arith)

abbrev Each : {A : Type 0} → (A → Type 0) → List A → Type 0
Each P [] = ⊤
Each P (x ∷ xs) = P x × Each P xs

all_of : {A : Type 0} (P : A → Type 0) (xs : List A) → Each P xs → All P xs
all_of P [] h k d below = absurd (let past : k < 0 = below in omega arith)
all_of P (x ∷ xs) h zero d below = h.0
all_of P (x ∷ xs) h (suc k) d below = all_of P xs h.1 k d (omega arith)

-- ---- types

abbrev Field : ValueType → Type 0
Field t = TypeFits 0 0 t

width : (w : ℕ) → 1 ≤ w → w ≤ 128 → WidthFits w
width w some most = record { some_bit = some; at_most_widest = most }

each_field : Each Field (standard_fields 7)
each_field = (
  width 9 (lit≤ tt) (lit≤ tt),
  (
    width 9 (lit≤ tt) (lit≤ tt),
    (
      width 9 (lit≤ tt) (lit≤ tt),
      (
        width 32 (lit≤ tt) (lit≤ tt),
        (
          width 32 (lit≤ tt) (lit≤ tt),
          (
            width 32 (lit≤ tt) (lit≤ tt),
            (
              width 19 (lit≤ tt) (lit≤ tt),
              (
                width 32 (lit≤ tt) (lit≤ tt),
                (
                  width 19 (lit≤ tt) (lit≤ tt),
                  (
                    width 48 (lit≤ tt) (lit≤ tt),
                    (
                      width 48 (lit≤ tt) (lit≤ tt),
                      (
                        width 16 (lit≤ tt) (lit≤ tt),
                        (
                          width 16 (lit≤ tt) (lit≤ tt),
                          (
                            width 1 (lit≤ tt) (lit≤ tt),
                            (
                              record { some_member = lit≤ tt; at_most_all = lit≤ tt },
                              (width 3 (lit≤ tt) (lit≤ tt), tt),
                            ),
                          ),
                        ),
                      ),
                    ),
                  ),
                ),
              ),
            ),
          ),
        ),
      ),
    ),
  ),
)

fields_fit : All Field (standard_fields 7)
fields_fit = all_of Field (standard_fields 7) each_field

structs_fit : (n : ℕ) (t : StructType) → slice_get smallest.structs n ≡ Some t → All (TypeFits 0 n) t.fields
structs_fit zero t e =
    let same : standard_struct ≡ t = cc in subst (λ u. All (TypeFits 0 0) u.fields) same fields_fit
structs_fit (suc zero) t e =
    let same : empty_struct ≡ t = cc in subst (λ u. All (TypeFits 0 1) u.fields) same (none (TypeFits 0 1))
structs_fit (suc (suc n)) t e = absurd cc

types_fit : TypesFit smallest
types_fit =
    record {
      headers_fit = none _;
      structs_fit = structs_fit;
      standard = refl;
      core = lit≤ tt;
      errors_fit = record { some_member = lit≤ tt; at_most_all = lit≤ tt };
    }

-- ---- callables

abbrev Typed : Parameter → Type 0
Typed q = IsType smallest q.value_type

frame_fits : (ps : List Parameter) → All Typed ps → FrameFits smallest ps []
frame_fits ps h = record { parameters = h; variables = none _ }

action_stands : ActionStands smallest 0 no_action
action_stands =
    record {
      within_later = λ c e. absurd cc;
      within_control = λ c e. absurd cc;
      frame_fits = frame_fits [] (none Typed);
      body_fits = tt;
    }

one_less : 1 < 2
one_less = lit< tt

none_less : 0 < 2
none_less = lit< tt

two : (direction : Direction) → All Typed (shared direction)
two direction = all_of Typed (shared direction) (one_less, (one_less, tt))

three : (direction : Direction) → All Typed (all_three direction)
three direction = all_of Typed (all_three direction) (one_less, (one_less, (none_less, tt)))

single : All Typed (parameter In (Struct 1) ∷ [])
single = all_of Typed (parameter In (Struct 1) ∷ []) (one_less, tt)

abbrev Stands : CoreState → Type 0
Stands state = StateFits (parser_scope smallest 1 parser) 1 state

state_fits : StateFits (parser_scope smallest 1 parser) 1 accepting
state_fits = record { statements_fit = tt; transition_fits = tt }

parser_stands : ParserStands smallest 1 parser
parser_stands =
    record {
      frame_fits = frame_fits (all_three Out) (three Out);
      beginning_fits = tt;
      states_fit = all_of Stands (accepting ∷ []) (state_fits, tt);
      start_is = lit< tt;
    }

control_stands : (n : ℕ) (ps : List Parameter) → All Typed ps → ControlStands smallest n (control_with ps)
control_stands n ps h =
    record {
      frame_fits = frame_fits ps h;
      body_fits = tt;
      tables_fit = λ k t e. absurd cc;
      children_earlier = none _;
      children_are = none _;
    }

callables_stand : (n : ℕ) (c : CoreCallable) → slice_get smallest.callables n ≡ Some c → CallableStands smallest n c
callables_stand zero c e =
    let same : OfAction no_action ≡ c = cc in subst (λ d. CallableStands smallest 0 d) same action_stands
callables_stand (suc zero) c e =
    let same : OfParser parser ≡ c = cc in subst (λ d. CallableStands smallest 1 d) same parser_stands
callables_stand (suc (suc zero)) c e =
    let same : OfControl (control_with (shared InOut)) ≡ c = cc in
    subst (λ d. CallableStands smallest 2 d) same (control_stands 2 _ (two InOut))
callables_stand (suc (suc (suc zero))) c e =
    let same : OfControl (control_with (all_three InOut)) ≡ c = cc in
    subst (λ d. CallableStands smallest 3 d) same (control_stands 3 _ (three InOut))
callables_stand (suc (suc (suc (suc zero)))) c e =
    let same : OfControl (control_with (all_three InOut)) ≡ c = cc in
    subst (λ d. CallableStands smallest 4 d) same (control_stands 4 _ (three InOut))
callables_stand (suc (suc (suc (suc (suc zero))))) c e =
    let same : OfControl (control_with (shared InOut)) ≡ c = cc in
    subst (λ d. CallableStands smallest 5 d) same (control_stands 5 _ (two InOut))
callables_stand (suc (suc (suc (suc (suc (suc zero)))))) c e =
    let same : OfControl (control_with (parameter In (Struct 1) ∷ [])) ≡ c = cc in
    subst (λ d. CallableStands smallest 6 d) same (control_stands 6 _ single)
callables_stand (suc (suc (suc (suc (suc (suc (suc n))))))) c e = absurd cc

-- ---- instances and blocks

instance_fits : (n m : ℕ) (ps : List Parameter) → InstanceFits smallest n (instance_of m) (control_with ps)
instance_fits n m ps =
    record {
      tables_fit = record { as_many = refl; named = λ k t e. absurd cc };
      children_are = refl;
      children_earlier = none _;
    }

abbrev InstanceStands : ℕ → Instance → Type 0
InstanceStands n i = IsSomeAnd (control_at smallest i.control) (InstanceFits smallest n i)

instances_each : (n : ℕ) (i : Instance) → slice_get smallest.instances n ≡ Some i → InstanceStands n i
instances_each zero i e =
    let same : instance_of 2 ≡ i = cc in subst (λ j. InstanceStands 0 j) same (instance_fits 0 2 (shared InOut))
instances_each (suc zero) i e =
    let same : instance_of 3 ≡ i = cc in subst (λ j. InstanceStands 1 j) same (instance_fits 1 3 (all_three InOut))
instances_each (suc (suc zero)) i e =
    let same : instance_of 4 ≡ i = cc in subst (λ j. InstanceStands 2 j) same (instance_fits 2 4 (all_three InOut))
instances_each (suc (suc (suc zero))) i e =
    let same : instance_of 5 ≡ i = cc in subst (λ j. InstanceStands 3 j) same (instance_fits 3 5 (shared InOut))
instances_each (suc (suc (suc (suc zero)))) i e =
    let same : instance_of 6 ≡ i = cc in
    subst (λ j. InstanceStands 4 j) same (instance_fits 4 6 (parameter In (Struct 1) ∷ []))
instances_each (suc (suc (suc (suc (suc n))))) i e = absurd cc

instances_fit : InstancesFit smallest
instances_fit =
    record {
      each_fits = instances_each;
      each_once = IsPermutation-refl (0 ∷ 1 ∷ 2 ∷ 3 ∷ 4 ∷ []);
      tables_once = IsPermutation-refl [];
      names_fit = none _;
      names_different = λ i j d less below. absurd (let past : j < 0 = below in omega arith);
    }

-- the headers and the metadata are a struct each, and there is no variable
abbrev FewPaths : ℕ → CoreCallable → Type 0
FewPaths n c =
    paths_of smallest (Struct 1) + paths_of smallest (Struct 1) + sum_by (paths_of smallest) (locals_of smallest n c) ≤ MAX_PATHS

few_paths : (n : ℕ) (c : CoreCallable) → slice_get smallest.callables n ≡ Some c → FewPaths n c
few_paths zero c e = let same : OfAction no_action ≡ c = cc in subst (λ d. FewPaths 0 d) same (lit≤ tt)
few_paths (suc zero) c e = let same : OfParser parser ≡ c = cc in subst (λ d. FewPaths 1 d) same (lit≤ tt)
few_paths (suc (suc zero)) c e =
    let same : OfControl (control_with (shared InOut)) ≡ c = cc in subst (λ d. FewPaths 2 d) same (lit≤ tt)
few_paths (suc (suc (suc zero))) c e =
    let same : OfControl (control_with (all_three InOut)) ≡ c = cc in subst (λ d. FewPaths 3 d) same (lit≤ tt)
few_paths (suc (suc (suc (suc zero)))) c e =
    let same : OfControl (control_with (all_three InOut)) ≡ c = cc in subst (λ d. FewPaths 4 d) same (lit≤ tt)
few_paths (suc (suc (suc (suc (suc zero))))) c e =
    let same : OfControl (control_with (shared InOut)) ≡ c = cc in subst (λ d. FewPaths 5 d) same (lit≤ tt)
few_paths (suc (suc (suc (suc (suc (suc zero)))))) c e =
    let same : OfControl (control_with (parameter In (Struct 1) ∷ [])) ≡ c = cc in
    subst (λ d. FewPaths 6 d) same (lit≤ tt)
few_paths (suc (suc (suc (suc (suc (suc (suc n))))))) c e = absurd cc

blocks_fit : BlocksFit smallest
blocks_fit =
    record {
      headers = 1;
      metadata = Struct 1;
      headers_alone = none _;
      parser = refl;
      verify = refl;
      ingress = refl;
      egress = refl;
      compute = refl;
      deparser = refl;
      few_paths = few_paths;
    }

-- nothing calls anything
no_chains : (k : ℕ) → ChainsWithin smallest k []
unfolding ChainsWithin
no_chains zero = refl
no_chains (suc k) = none _

chains : (n : ℕ) → n < 7 → ChainsWithin smallest MAX_CALL_DEPTH (calls_at smallest n)
chains zero less = no_chains _
chains (suc zero) less = no_chains _
chains (suc (suc zero)) less = no_chains _
chains (suc (suc (suc zero))) less = no_chains _
chains (suc (suc (suc (suc zero)))) less = no_chains _
chains (suc (suc (suc (suc (suc zero))))) less = no_chains _
chains (suc (suc (suc (suc (suc (suc zero)))))) less = no_chains _
chains (suc (suc (suc (suc (suc (suc (suc n))))))) less = absurd (omega arith)

within_limits : WithinLimits smallest
within_limits =
    record {
      tables = lit≤ tt;
      states = lit≤ tt;
      constant_entries = lit≤ tt;
      statements = lit≤ tt;
      chains = chains;
    }

pub well_formed : WellFormed smallest
well_formed =
    record {
      types_fit = types_fit;
      no_action_first = refl;
      callables_stand = callables_stand;
      instances_fit = instances_fit;
      blocks_fit = blocks_fit;
      numbered = refl;
      placed = none _;
      main_placed = record { line = lit< tt; column = lit< tt };
      within_limits = within_limits;
    }

-- ---- it is built

accepts_at_once : AcceptsAtOnce accepting
accepts_at_once = record { nothing = refl; accepts = refl }

built_parser : BuiltParser parser
built_parser =
    record { no_variable = refl; nothing_before = refl; one_state = refl; accepts = all_of AcceptsAtOnce (accepting ∷ []) (accepts_at_once, tt) }

not_of : (n : ℕ) → All (IsNotOf n) smallest.callables
not_of n = all_of (IsNotOf n) smallest.callables ((λ e. cc), (tt, (tt, (tt, (tt, (tt, (tt, tt)))))))

declares_nothing : (n : ℕ) (ps : List Parameter) → DeclaresNothing smallest n (control_with ps)
declares_nothing n ps = record { no_variable = refl; no_table = refl; no_child = refl; no_action = not_of n }

empty_control : (n : ℕ) (ps : List Parameter) → EmptyControl smallest n (control_with ps)
empty_control n ps = record { declares_nothing = declares_nothing n ps; no_statement = refl }

parser_unnumbered : ParserUnnumbered parser
parser_unnumbered =
    record { beginning = tt; states = all_of (λ state. AllUnnumbered state.statements) (accepting ∷ []) (tt, tt) }

unnumbered : All CallableUnnumbered smallest.callables
unnumbered = all_of CallableUnnumbered smallest.callables (tt, (parser_unnumbered, (tt, (tt, (tt, (tt, (tt, tt)))))))

each_unnumbered : (k : ℕ) (d : CoreCallable) → slice_get smallest.callables k ≡ Some d → CallableUnnumbered d
each_unnumbered k d e =
    let within : k < length smallest.callables = slice_get_within smallest.callables k d e in
    subst CallableUnnumbered (get_or_from_slice_get smallest.callables k d d e) (unnumbered k d within)

built_ingress : BuiltIngress smallest 3 (control_with (all_three InOut))
built_ingress =
    record {
      declares_nothing = declares_nothing 3 (all_three InOut);
      statements = tt;
      no_other = λ k d other e. each_unnumbered k d e;
    }

pub built : Built smallest
built =
    record {
      parser = built_parser;
      verify = empty_control 2 (shared InOut);
      ingress = built_ingress;
      egress = empty_control 4 (all_three InOut);
      compute = empty_control 5 (shared InOut);
      deparser = empty_control 6 (parameter In (Struct 1) ∷ []);
    }

pub some_built : (p : CoreProgram) × WellFormed p × Built p
some_built = (smallest, well_formed, built)
