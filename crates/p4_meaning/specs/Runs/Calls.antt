-- Calls (P4-16, "Calling convention: call by copy in/copy out"): parameters are copied in from left to right, the body runs on a
-- frame of its own, and what is `out` or `inout` is copied out from left to right, however the body ended.
use Rattle.std.specs.Prelude.{ℕ, ⊤, List, [], ◌∷◌, ◌++◌, map, Option, Some, slice_get}
use Rattle.bits_core.specs.declared.number.Bits.{Bits}
use Rattle.p4_program.specs.declared.typed.callables.Parameter.{Parameter}
use Rattle.p4_program.specs.Syntax.Statements.{CoreArgument, In, Out, InOut}
use Rattle.p4_meaning.specs.Runs.Acts.{Environment, Store, Act, Result, Gives, Stops, Stop, Returned, Exited, Raised, gives, stops, told, becomes, taking, attempt, value_of, writes, ◌>>=◌, ◌>>◌}
use Rattle.p4_meaning.specs.Runs.Acts as act
use Rattle.p4_meaning.specs.Runs.Contents.{Content, bits, uninitialised, all_uninitialised}
use Rattle.p4_meaning.specs.Runs.Expressions.{Reach, Callee, evaluate}

-- ---- copying in

-- what a parameter holds as the body begins: the value of the argument, or for `out` nothing that is specified
abbrev pub passed_in : Reach → Parameter → CoreArgument → Act Content
passed_in Γ p (In e) = evaluate Γ e
passed_in Γ p (Out path) = gives (uninitialised Γ.environment.program p.value_type)
passed_in Γ p (InOut path) = act.read path

abbrev pub all_passed_in : Reach → List Parameter → List CoreArgument → Act (List Content)
all_passed_in Γ (p ∷ ps) (a ∷ arguments) =
    passed_in Γ p a >>= λ content. all_passed_in Γ ps arguments >>= λ contents. gives (content ∷ contents)
all_passed_in Γ _ _ = gives []

-- ---- copying out

-- A parameter is read, its unspecified numbers too, and stored before the next one is read.
abbrev pub passed_out : CoreArgument → Content → Act ⊤
passed_out (In e) content = gives tt
passed_out (Out path) content = taking (value_of content) >>= λ value. writes path value
passed_out (InOut path) content = taking (value_of content) >>= λ value. writes path value

-- the parameters are the first in the frame
abbrev pub all_passed_out : List CoreArgument → List Content → Act ⊤
all_passed_out (a ∷ arguments) (content ∷ frame) = passed_out a content >> all_passed_out arguments frame
all_passed_out _ _ = gives tt

-- "Return statement": it ends the body alone; "Exit statement": it ends the caller too
abbrev pub after_body : Result ⊤ → Act ⊤
after_body (Gives value) = gives value
after_body (Stops Returned) = gives tt
after_body (Stops Exited) = stops Exited
after_body (Stops (Raised error)) = stops (Raised error)

-- ---- frames

-- the frame of a body: its parameters, and its variables, which are new
abbrev pub frame_of : Reach → Callee → List Content → List Content
frame_of Γ callee contents = contents ++ all_uninitialised Γ.environment.program callee.variables

-- An action runs on the frame of the control around it and on one of its own.
abbrev pub with_action : List Content → Store → Store
with_action frame store = record store { action = frame }

-- the frame that a body has left in its place
pub record Left : Type 0 where
  pub frame : List Content
  pub end : Result ⊤

-- the body of an action on this frame, after which the caller's frame stands in its place again
abbrev pub runs_action : List Content → Callee → Act Left
runs_action frame callee outside =
    (becomes (with_action frame) >> attempt callee.body >>= λ end. told (λ inside. inside.action) >>= λ left.
    becomes (with_action outside.action) >> gives (record { frame = left; end = end })) outside

-- "Actions" called directly
abbrev pub calls_action : Reach → Callee → List CoreArgument → Act ⊤
calls_action Γ callee arguments =
    all_passed_in Γ callee.parameters arguments >>= λ contents. runs_action (frame_of Γ callee contents) callee >>= λ left.
    all_passed_out arguments left.frame >> after_body left.end

-- an action that a table runs, with the values that the control plane or the table gives
abbrev pub runs_with : Reach → Callee → List Bits → Act ⊤
runs_with Γ callee arguments =
    runs_action (frame_of Γ callee (map (λ b. bits b.width b.value) arguments)) callee >>= λ left. after_body left.end

-- "Control block invocation": a control runs on a frame of its own, of which no action is running yet.
abbrev pub with_frames : List Content → List Content → Store → Store
with_frames block running store = record store { block = block; action = running }

abbrev pub runs_control : List Content → Callee → Act Left
runs_control frame callee outside =
    (becomes (with_frames frame []) >> attempt callee.body >>= λ end. told (λ inside. inside.block) >>= λ left.
    becomes (with_frames outside.block outside.action) >> gives (record { frame = left; end = end })) outside

abbrev pub applies_control : Reach → Callee → List CoreArgument → Act ⊤
applies_control Γ callee arguments =
    all_passed_in Γ callee.parameters arguments >>= λ contents. runs_control (frame_of Γ callee contents) callee >>= λ left.
    all_passed_out arguments left.frame >> after_body left.end

-- ---- what the numbers of callees stand for

abbrev pub found_callee : Option Callee → Callee
found_callee (Some callee) = callee
found_callee _ = record { parameters = []; variables = []; body = gives tt }

abbrev pub callee_of : List Callee → ℕ → Callee
callee_of callees n = found_callee (slice_get callees n)
