-- What the parts of a program do: each works on the store by some course, and gives a value or stops what runs.
use Rattle.std.specs.Prelude.{ℕ, ⊤, List, Bool, true, false, Some, None, slice_index_or, slice_set, if◌then◌else◌}
use Rattle.std.specs.List.{list_any}
use Rattle.p4_program.specs.declared.bounds.Bounds.{Bounds}
use Rattle.p4_program.specs.declared.typed.input.Input.{Input}
use Rattle.p4_program.specs.declared.typed.paths.Path.{Path}
use Rattle.p4_program.specs.declared.typed.paths.Root.{Root}
use Rattle.p4_program.specs.declared.typed.paths.Root.TheVariants.{OfBlock, OfAction}
use Rattle.p4_program.specs.declared.typed.types.Scalar.{Scalar}
use Rattle.p4_program.specs.Syntax.Programs.{CoreProgram}
use Rattle.p4_meaning.specs.Runs.Courses.{Course, Ends, Reads, Begins}
use Rattle.p4_meaning.specs.Runs.Courses as course
use Rattle.p4_meaning.specs.Runs.Contents.{Content, Cell, HeaderOf, StackOf, StructOf, Contents, NoContents, Also, nothing, all_opened}
use Rattle.p4_meaning.specs.Runs.Paths.{part_along, with_part_along, passes_last_of_none, copied_over}

infixl 10 ◌>>=◌
infixl 10 ◌>>◌
-- what stays as it is in a run
pub record Environment : Type 0 where
  pub program : CoreProgram
  pub bounds : Bounds
  pub input : Input

-- The frames of the control or parser that runs and of the action that runs in it, parameters first; how many bits of the packet
-- the parser has taken (P4-16, "Data extraction"); the bytes that the deparser has emitted ("Data insertion into packets"); and
-- whether a checksum was found wrong (v1model.p4, `verify_checksum`).
pub record Store : Type 0 where
  pub block : List Content
  pub action : List Content
  pub cursor : ℕ
  pub emitted : List ℕ
  pub wrong_sum : Bool

-- why what follows does not run: `return` ("Return statement"), `exit` ("Exit statement"), or an error of the parser
pub data Stop : Type 0 where
  Returned Exited : Stop
  Raised : (error : ℕ) → Stop

-- the errors of core.p4 that a parser raises by itself, by their numbers ("The P4 core library")
abbrev pub no_error : ℕ
no_error = 0

abbrev pub packet_too_short : ℕ
packet_too_short = 1

abbrev pub no_match : ℕ
no_match = 2

abbrev pub stack_out_of_bounds : ℕ
stack_out_of_bounds = 3

-- a value, after which what follows runs, or a stop
pub data Result (A : Type 0) : Type 0 where
  Gives : A → Result A
  Stops : Stop → Result A

-- the store afterwards, and the result
pub record After (A : Type 0) : Type 0 where
  pub store : Store
  pub result : Result A

abbrev pub Act : Type 0 → Type 0
Act A = Store → Course (After A)

-- ---- acts one after another

abbrev pub gives : {A : Type 0} → A → Act A
gives a store = Ends (record { store = store; result = Gives a })

abbrev pub stops : {A : Type 0} → Stop → Act A
stops why store = Ends (record { store = store; result = Stops why })

-- what follows an act that gave a value, by that value; after a stop nothing follows
abbrev pub going_on : {A B : Type 0} → (A → Act B) → Store → Result A → Course (After B)
going_on next store (Gives a) = next a store
going_on next store (Stops why) = stops why store

abbrev pub ◌>>=◌ : {A B : Type 0} → Act A → (A → Act B) → Act B
◌>>=◌ first next store = course.◌>>=◌ (first store) (λ after. going_on next after.store after.result)

abbrev pub ◌>>◌ : {A B : Type 0} → Act A → Act B → Act B
first >> second = first >>= λ value. second

-- how an act ended, a stop too, after which what follows runs all the same
abbrev pub attempt : {A : Type 0} → Act A → Act (Result A)
attempt act store = course.◌>>=◌ (act store) (λ after. gives after.result after.store)

-- a course of its own, which leaves the store
abbrev pub taking : {A : Type 0} → Course A → Act A
taking c store = course.◌>>=◌ c (λ a. gives a store)

-- a statement of this number is begun, and then the act runs
abbrev pub begun : {A : Type 0} → ℕ → Act A → Act A
begun number act store = Begins number (act store)

-- something that the store tells
abbrev pub told : {A : Type 0} → (Store → A) → Act A
told f store = gives (f store) store

abbrev pub becomes : (Store → Store) → Act ⊤
becomes change store = gives tt (change store)

-- ---- reads (P4-16, "Reading uninitialized values and writing fields of invalid headers")

-- each read of an unspecified value may give another value of its type
abbrev pub unspecified : Scalar → Course Content
unspecified scalar = Reads scalar (λ value. Ends (Cell scalar (Some value)))

abbrev mutual
  -- The value of what stands at a place: each number of a struct or of a valid header is read, in the order of declaration and
  -- from element 0 on. An invalid header has no value but that it is invalid. That a stack has a next element is no part of its
  -- value.
  pub value_of : Content → Course Content
  value_of (Cell scalar (Some value)) = Ends (Cell scalar (Some value))
  value_of (Cell scalar None) = unspecified scalar
  value_of (HeaderOf true fields) = course.◌>>=◌ (values_of fields) (λ values. Ends (HeaderOf true values))
  value_of (HeaderOf false fields) = Ends (HeaderOf false (all_opened fields))
  value_of (StackOf elements next) = course.◌>>=◌ (values_of elements) (λ values. Ends (StackOf values 0))
  value_of (StructOf fields) = course.◌>>=◌ (values_of fields) (λ values. Ends (StructOf values))

  pub values_of : Contents → Course Contents
  values_of NoContents = Ends NoContents
  values_of (Also c cs) = course.◌>>=◌ (value_of c) (λ value. course.◌>>=◌ (values_of cs) (λ values. Ends (Also value values)))

-- what stands at the root of a path
abbrev pub at_root : Root → Store → Content
at_root (OfBlock n) store = slice_index_or store.block n nothing
at_root (OfAction n) store = slice_index_or store.action n nothing

abbrev pub at_path : Path → Store → Content
at_path path store = part_along path.steps (at_root path.root store)

abbrev pub read : Path → Act Content
read path store = taking (value_of (at_path path store)) store

-- ---- writes ("L-values")

abbrev pub with_root : Root → (Content → Content) → Store → Store
with_root (OfBlock n) change store =
    record store { block = slice_set store.block n (change (slice_index_or store.block n nothing)) }
with_root (OfAction n) change store =
    record store { action = slice_set store.action n (change (slice_index_or store.action n nothing)) }

abbrev pub with_path : Path → (Content → Content) → Store → Store
with_path path change store = with_root path.root (with_part_along path.steps change) store

abbrev pub changes : Path → (Content → Content) → Act ⊤
changes path change = becomes (with_path path change)

abbrev pub writes : Path → Content → Act ⊤
writes path value = changes path (copied_over value)

-- ---- "Operations on header stacks": `last` of a stack with no element

-- some of these paths leads through the last element of a stack that has none
abbrev pub some_last_of_none : List Path → Store → Bool
some_last_of_none paths store = list_any (λ path. passes_last_of_none path.steps (at_root path.root store)) paths

-- Such a path raises its error before anything else is done, whether or not the path would be evaluated.
abbrev pub with_lasts : {A : Type 0} → List Path → Act A → Act A
with_lasts paths act store =
    if some_last_of_none paths store then stops (Raised stack_out_of_bounds) store else act store
