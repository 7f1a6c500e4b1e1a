-- Calls: of actions, methods and functions, with their arguments and the places where they may stand.
use Rattle.std.specs.Prelude.{ℕ, ◌%◌, ◌==◌, nat_lt, List, [], ◌∷◌, ◌++◌, map, Bool, true, false, ◌&&◌, Option, None, Some, Result, unsigned_abs, length, if◌then◌else◌, slice_get}
use Rattle.std.specs.List.{list_all, sum_by}
use Rattle.tg_base.specs.declared.place.Span.{Span}
use Rattle.tg_base.specs.declared.place.Code.TheVariants as code
use Rattle.p4_tree.specs.declared.declarations.Direction.{Direction}
use Rattle.p4_tree.specs.declared.declarations.Direction.TheVariants as direction
use Rattle.p4_program.specs.declared.typed.paths.Path.{Path}
use Rattle.p4_program.specs.declared.typed.statements.Algorithm.{Algorithm}
use Rattle.p4_program.specs.declared.typed.statements.Algorithm.TheVariants as algorithm
use Rattle.p4_program.specs.Syntax.Expressions.{CoreExpression}
use Rattle.p4_program.specs.Syntax.Expressions as core
use Rattle.p4_program.specs.Syntax.Statements.{CoreArgument, CoreWork}
use Rattle.p4_program.specs.Syntax.Statements as work
use Rattle.p4_rules.specs.Chains.{depth_in}
use Rattle.p4_rules.specs.declared.faults.Pass.TheVariants.{Checking}
use Rattle.p4_rules.specs.Faults.{Checked, Right, Wrong, fault_at, provided, and_then, made_of, both, all_four, all_of, of_told}
use Rattle.p4_rules.specs.declared.faults.Fault.{Fault}
use Rattle.p4_rules.specs.Integers.{is_negative}
use Rattle.p4_rules.specs.declared.types.SourceType.{SourceType}
use Rattle.p4_rules.specs.declared.types.Object.{Object}
use Rattle.p4_rules.specs.declared.types.FieldOf.{FieldOf}
use Rattle.p4_rules.specs.declared.types.SourceType.TheVariants.{Bit, Boolean, Error, Enumeration, Structure, Header, Stack, Opaque}
use Rattle.p4_rules.specs.Types.{same_type, same_object, is_sized, is_run_time}
use Rattle.p4_rules.specs.declared.scopes.Function.{Function}
use Rattle.p4_rules.specs.declared.scopes.ParameterShape.{ParameterShape}
use Rattle.p4_rules.specs.declared.scopes.Function.TheVariants.{Verify, MarkToDrop, VerifyChecksum, UpdateChecksum, LogMsg, Random, LeftOut}
use Rattle.p4_rules.specs.Scopes.{Scope, is_in_parser, is_in_control, is_in_control_or_action, Meaning, ObjectOf, ActionOf, FunctionOf, shapes_of}
use Rattle.p4_rules.specs.Operands.{Operand, Fixed, Stored, Computed, Placed, type_of, core_of}
use Rattle.p4_rules.specs.Casts.{cast_to, as_bits, typing_fault, constant_fault}
use Rattle.p4_rules.specs.Operators.{is_of_bits, width_in}
use Rattle.p4_rules.specs.Things.{Thing, Value, Named, MethodOf, NextOf, Applied, WorkOf, Text, Braced, misfit, Method, IsValid, SetValid, SetInvalid, PushFront, PopFront, Extract, Advance, Lookahead, Emit, Count, CountDirect, ExecuteMeter, ApplyTable, ApplyControl, Judged, value_of, number_of, validity_of}

-- a value for an `in` parameter of this type
abbrev pub passed_in : Scope → SourceType → Judged → Checked CoreExpression
passed_in Γ t a = and_then (value_of a) (λ p. made_of (core_of Γ) (cast_to Γ t p.place p.operand))

abbrev pub path_in : Scope → Span → Operand → Checked Path
path_in Γ place (Stored t true path at) = Right path
path_in Γ place x = typing_fault place

-- "Calling convention: call by copy in/copy out": for `out` and `inout` a path that may be assigned to, here of a type that fits
abbrev pub path_passed : Scope → (SourceType → Bool) → Judged → Checked Path
path_passed Γ fits a = and_then (value_of a)
    (λ p. and_then (path_in Γ p.place p.operand) (λ path. provided (fits (type_of p.operand)) Checking code.Typing p.place path))

abbrev pub is_object : Object → Thing → Bool
is_object o (Named (ObjectOf p)) = same_object o p
is_object o _ = false

-- a packet for a parameter of its type: it is not passed in a run
abbrev pub object_passed : Object → Judged → Checked (Option CoreArgument)
object_passed o a = if is_object o a.thing then Right None else misfit a.place a.thing

abbrev pub directed : Scope → Option Direction → SourceType → Judged → Checked (Option CoreArgument)
directed Γ d (Opaque o) a = object_passed o a
directed Γ (Some direction.Out) t a = made_of (λ p. Some (work.Out p)) (path_passed Γ (same_type t) a)
directed Γ (Some direction.InOut) t a = made_of (λ p. Some (work.InOut p)) (path_passed Γ (same_type t) a)
directed Γ (Some direction.In) t a = made_of (λ e. Some (work.In e)) (passed_in Γ t a)
directed Γ None t a = made_of (λ e. Some (work.In e)) (passed_in Γ t a)

abbrev pub those_there : {X : Type 0} → List (Option X) → List X
those_there [] = []
those_there (None ∷ xs) = those_there xs
those_there (Some x ∷ xs) = x ∷ those_there xs

-- arguments one by one; another number of them is refused at the call
abbrev pub arguments_for : Scope → Span → List ParameterShape → List Judged → Checked (List (Option CoreArgument))
arguments_for Γ place [] [] = Right []
arguments_for Γ place (shape ∷ shapes) (a ∷ more) =
    both (λ x xs. x ∷ xs) (directed Γ shape.direction shape.type_of a) (arguments_for Γ place shapes more)
arguments_for Γ place _ _ = typing_fault place

abbrev pub same_number : {X Y : Type 0} → List X → List Y → Bool
same_number xs ys = length xs == length ys

abbrev pub arguments : Scope → Span → List ParameterShape → List Judged → Checked (List CoreArgument)
arguments Γ place shapes passed =
    and_then (provided (same_number shapes passed) Checking code.Typing place passed)
    (λ those. made_of those_there (arguments_for Γ place shapes those))

-- a call that may stand here; where it may not, it is refused at its first token, if its arguments are right
abbrev pub only_where : {X : Type 0} → Bool → Span → Checked X → Checked X
only_where here place call = and_then call (λ x. provided here Checking code.Typing place x)

abbrev pub no_arguments : {X : Type 0} → Span → List Judged → X → Checked X
no_arguments place [] x = Right x
no_arguments place (a ∷ more) x = typing_fault place

abbrev pub one_argument : {X : Type 0} → Span → (Judged → Checked X) → List Judged → Checked X
one_argument place call (a ∷ []) = call a
one_argument place call _ = typing_fault place

abbrev pub two_arguments : {X : Type 0} → Span → (Judged → Judged → Checked X) → List Judged → Checked X
two_arguments place call (a ∷ b ∷ []) = call a b
two_arguments place call _ = typing_fault place

abbrev pub three_arguments : {X : Type 0} → Span → (Judged → Judged → Judged → Checked X) → List Judged → Checked X
three_arguments place call (a ∷ b ∷ c ∷ []) = call a b c
three_arguments place call _ = typing_fault place

abbrev pub four_arguments : {X : Type 0} → Span → (Judged → Judged → Judged → Judged → Checked X) → List Judged → Checked X
four_arguments place call (a ∷ b ∷ c ∷ d ∷ []) = call a b c d
four_arguments place call _ = typing_fault place

-- so many calls may stand inside one another
abbrev pub longest_chain : ℕ
longest_chain = 64

-- a call with a chain of this length below it; one too long is refused at the call
abbrev pub chained : {X : Type 0} → ℕ → Span → Checked X → Checked X
chained below place call =
    and_then call (λ x. provided (nat_lt below longest_chain) Checking code.Limit place x)

abbrev pub a_call : Checked CoreWork → Checked Thing
a_call work = made_of (λ w. WorkOf w) work

-- "Operations on headers", "Operations on header stacks": what changes a header or a stack wants a path that may be assigned to
abbrev pub changes : Scope → Span → Operand → (Path → CoreWork) → Checked CoreWork
changes Γ place x make = made_of make (path_in Γ place x)

-- `push_front` and `pop_front` move by a constant that is not negative
abbrev pub count_passed : Scope → Judged → Checked ℕ
count_passed Γ a = and_then (number_of Γ a)
    (λ z. if is_negative z then constant_fault Γ a.place else Right (unsigned_abs z))

-- "Data extraction": a header that may be assigned to, or the next element of a stack
abbrev pub is_header : SourceType → Bool
is_header (Header n) = true
is_header _ = false

abbrev pub extracted : Scope → Thing → Judged → Checked Path
extracted Γ (NextOf t true path) a = Right path
extracted Γ (NextOf t false path) a = typing_fault (a.place)
extracted Γ _ a = path_passed Γ is_header a

abbrev pub extract_into : Scope → Judged → Checked Path
extract_into Γ a = extracted Γ a.thing a

-- "Skipping bits": whole bytes
abbrev pub advance_by : Scope → Judged → Checked ℕ
advance_by Γ a = and_then (number_of Γ a)
    (λ z. if is_negative z then constant_fault Γ a.place
    else (if unsigned_abs z % 8 == 0 then Right (unsigned_abs z) else constant_fault Γ a.place))

abbrev pub flag_at : Option Bool → Bool
flag_at None = false
flag_at (Some flag) = flag

-- "Data insertion into packets": a header, a stack, or a struct of these. A struct has its fields' structs before it.
abbrev pub is_emittable_in : List Bool → SourceType → Bool
is_emittable_in structs (Header n) = true
is_emittable_in structs (Stack n size) = true
is_emittable_in structs (Structure n) = flag_at (slice_get structs n)
is_emittable_in structs _ = false

abbrev pub emittable_structs : List Bool → List (List FieldOf) → List Bool
emittable_structs known [] = known
emittable_structs known (fields ∷ more) =
    emittable_structs (known ++ list_all (λ field. is_emittable_in known field.type_of) fields ∷ []) more

abbrev pub is_emittable : Scope → SourceType → Bool
is_emittable Γ t = is_emittable_in (emittable_structs [] Γ.structs) t

abbrev pub emitted : Scope → Judged → Checked CoreExpression
emitted Γ a = and_then (value_of a)
    (λ p. provided (is_emittable Γ (type_of p.operand)) Checking code.Typing p.place (core_of Γ p.operand))

-- "Lookahead": of a `bit` type alone
abbrev pub looked_at : Scope → SourceType → Span → List Judged → Checked Thing
looked_at Γ (Bit w) place passed = no_arguments place passed (Value (Computed (Bit w) (core.Lookahead w) place))
looked_at Γ t place passed = typing_fault place

-- a call of a method, whose first token stands at this place
abbrev pub method_call : Scope → Method → Span → List Judged → Checked Thing
method_call Γ (IsValid x) place passed = no_arguments place passed (Value (Computed Boolean (validity_of Γ x) place))
method_call Γ (SetValid x) place passed =
    a_call (and_then (no_arguments place passed x) (λ y. changes Γ place y (λ path. work.SetValid path)))
method_call Γ (SetInvalid x) place passed =
    a_call (and_then (no_arguments place passed x) (λ y. changes Γ place y (λ path. work.SetInvalid path)))
method_call Γ (PushFront x) place passed =
    only_where (is_in_control_or_action Γ.here) place
    (a_call (and_then (one_argument place (count_passed Γ) passed) (λ n. changes Γ place x (λ path. work.PushFront path n))))
method_call Γ (PopFront x) place passed =
    only_where (is_in_control_or_action Γ.here) place
    (a_call (and_then (one_argument place (count_passed Γ) passed) (λ n. changes Γ place x (λ path. work.PopFront path n))))
method_call Γ Extract place passed =
    only_where (is_in_parser Γ.here) place (a_call (made_of (λ path. work.Extract path) (one_argument place (extract_into Γ) passed)))
method_call Γ Advance place passed =
    only_where (is_in_parser Γ.here) place (a_call (made_of (λ n. work.Advance n) (one_argument place (advance_by Γ) passed)))
method_call Γ (Lookahead t) place passed = only_where (is_in_parser Γ.here) place (looked_at Γ t place passed)
method_call Γ Emit place passed =
    only_where Γ.allowed.emit place (a_call (made_of (λ e. work.Emit e) (one_argument place (emitted Γ) passed)))
method_call Γ Count place passed =
    a_call (made_of (λ e. work.Evaluate (e ∷ [])) (one_argument place (passed_in Γ (Bit 32)) passed))
method_call Γ CountDirect place passed = a_call (no_arguments place passed (work.Evaluate []))
method_call Γ ExecuteMeter place passed =
    a_call (two_arguments place (λ index into. both (λ e path. work.ExecuteMeter e path) (passed_in Γ (Bit 32) index) (path_passed Γ is_sized into)) passed)
method_call Γ (ApplyTable n) place passed =
    chained (depth_in Γ.depths.tables n) place
    (only_where (is_in_control Γ.here) place (no_arguments place passed (Applied n)))
method_call Γ (ApplyControl n control) place passed =
    chained (depth_in Γ.depths.children n) place
    (only_where (is_in_control Γ.here) place (a_call (made_of (λ those. work.ApplyControl n those) (arguments Γ place (shapes_of Γ control) passed))))

-- "Checksums" of v1model: a list of `bit` values of whole 16-bit words, at least one; any other data is left out
abbrev pub words_of : Scope → List (Result Placed Fault) → Checked (List Operand)
words_of Γ values = all_of (map (λ value. made_of (λ p. as_bits Γ p.operand) (of_told value)) values)

abbrev pub bits_in : List Operand → ℕ
bits_in xs = sum_by (λ x. width_in (type_of x)) xs

abbrev pub whole_words : List Operand → Bool
whole_words xs = list_all is_of_bits xs && nat_lt 0 (bits_in xs) && (bits_in xs % 16 == 0)

abbrev pub if_whole_words : Scope → Span → Checked (List Operand) → Checked (List CoreExpression)
if_whole_words Γ place (Right xs) =
    if whole_words xs then Right (map (core_of Γ) xs) else fault_at Checking code.Unsupported place
if_whole_words Γ place (Wrong fault more) = fault_at Checking code.Unsupported place

abbrev pub data_in : Scope → Span → Thing → Checked (List CoreExpression)
data_in Γ place (Braced values) = if_whole_words Γ place (words_of Γ values)
data_in Γ place _ = fault_at Checking code.Unsupported place

abbrev pub checksum_data : Scope → Judged → Checked (List CoreExpression)
checksum_data Γ j = data_in Γ j.place j.thing

abbrev pub algorithm_of : Span → Operand → Checked Algorithm
algorithm_of place (Fixed (Enumeration n) v) =
    if n == 0 then Right (if v == 0 then algorithm.Csum16 else algorithm.Xor16) else typing_fault place
algorithm_of place _ = typing_fault place

abbrev pub algorithm_passed : Judged → Checked Algorithm
algorithm_passed a = and_then (value_of a) (λ p. algorithm_of p.place p.operand)

-- the value of an argument of `log_msg`: any that a run has
abbrev pub logged : Scope → Result Placed Fault → Checked CoreExpression
logged Γ value = and_then (of_told value)
    (λ p. provided (is_run_time (type_of p.operand)) Checking code.Typing p.place (core_of Γ p.operand))

abbrev pub logged_in : Scope → Span → Thing → Checked (List CoreExpression)
logged_in Γ place (Braced values) = all_of (map (logged Γ) values)
logged_in Γ place _ = typing_fault place

abbrev pub logged_list : Scope → Judged → Checked (List CoreExpression)
logged_list Γ j = logged_in Γ j.place j.thing

abbrev pub is_text : Thing → Bool
is_text Text = true
is_text _ = false

abbrev pub text_passed : {X : Type 0} → Judged → X → Checked X
text_passed a x = if is_text a.thing then Right x else misfit a.place a.thing

abbrev pub log_msg : Scope → Span → List Judged → Checked CoreWork
log_msg Γ place (text ∷ []) = text_passed text (work.Evaluate [])
log_msg Γ place (text ∷ values ∷ []) = both (λ x es. work.Evaluate es) (text_passed text true) (logged_list Γ values)
log_msg Γ place _ = typing_fault place

-- `random`: a path of a sized type, and the ends of the range in that type
abbrev pub random_into : Scope → Judged → Judged → Placed → Checked CoreWork
random_into Γ low high p = and_then (path_in Γ p.place p.operand) (λ path. and_then
    (provided (is_sized (type_of p.operand)) Checking code.Typing p.place path)
    (λ q. both (λ a b. work.Random q a b) (passed_in Γ (type_of p.operand) low) (passed_in Γ (type_of p.operand) high)))

abbrev pub is_metadata : SourceType → Bool
is_metadata (Structure n) = n == 0
is_metadata _ = false

-- a call of a function, whose name stands at this place
abbrev pub function_call : Scope → Function → Span → List Judged → Checked CoreWork
function_call Γ Verify place passed = only_where (is_in_parser Γ.here) place
    (two_arguments place (λ condition error. both (λ c e. work.Verify c e) (passed_in Γ Boolean condition) (passed_in Γ Error error)) passed)
function_call Γ MarkToDrop place passed = made_of (λ path. work.MarkToDrop path) (one_argument place (path_passed Γ is_metadata) passed)
function_call Γ VerifyChecksum place passed = only_where Γ.allowed.verify_checksum place
    (four_arguments place (λ condition words sum how. all_four (λ c ws s a. work.VerifyChecksum c ws s a)
    (passed_in Γ Boolean condition) (checksum_data Γ words) (passed_in Γ (Bit 16) sum) (algorithm_passed how)) passed)
function_call Γ UpdateChecksum place passed = only_where Γ.allowed.update_checksum place
    (four_arguments place (λ condition words sum how. all_four (λ c ws s a. work.UpdateChecksum c ws s a)
    (passed_in Γ Boolean condition) (checksum_data Γ words) (path_passed Γ (same_type (Bit 16)) sum) (algorithm_passed how)) passed)
function_call Γ LogMsg place passed = log_msg Γ place passed
function_call Γ Random place passed =
    three_arguments place (λ into low high. and_then (value_of into) (random_into Γ low high)) passed
function_call Γ LeftOut place passed = fault_at Checking code.Unsupported place

-- "Actions": they are called in controls and in actions
abbrev pub named_call : Scope → Meaning → Span → List Judged → Checked Thing
named_call Γ (ActionOf n) place passed = chained (depth_in Γ.depths.callables n) place
    (only_where (is_in_control_or_action Γ.here) place
    (a_call (made_of (λ those. work.CallAction n those) (arguments Γ place (shapes_of Γ n) passed))))
named_call Γ (FunctionOf f) place passed = a_call (function_call Γ f place passed)
named_call Γ m place passed = typing_fault place

-- what a call gives, by what is called
abbrev pub call : Scope → Thing → Span → List Judged → Checked Thing
call Γ (Named m) place passed = named_call Γ m place passed
call Γ (MethodOf m) place passed = method_call Γ m place passed
call Γ thing place passed = misfit place thing
