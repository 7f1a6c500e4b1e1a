-- What a part of a source is checked to: what it stands for, or its faults and nothing else.
use Rattle.std.specs.Prelude.{ℕ, List, [], ◌∷◌, ◌++◌, ◌≡◌, Bool, true, false, ◌&&◌, ◌||◌, ◌==◌, nat_lt, Contains, Option, None, Some, Result, Ok, Err, if◌then◌else◌}
use Rattle.tg_base.specs.declared.place.Code.{Code}
use Rattle.tg_base.specs.declared.place.Span.{Span}
use Rattle.tg_base.specs.declared.place.Refusal.{Refusal}
use Rattle.tg_base.specs.Code.{number_of}
use Rattle.tg_base.specs.Deciding.{IsDecidingOf}
use Rattle.p4_rules.specs.declared.faults.Pass.{Pass}
use Rattle.p4_rules.specs.declared.faults.Pass.TheVariants.{Folding, Checking}
use Rattle.p4_rules.specs.declared.faults.Fault.{Fault}

abbrev pub pass_number : Pass → ℕ
pass_number Folding = 0
pass_number Checking = 1

-- What a part is checked to. What is wrong has at least one fault, so no part has both, and none has neither.
pub data Checked (X : Type 0) : Type 0 where
  Right : X → Checked X
  Wrong : Fault → List Fault → Checked X

-- the faults of what is wrong
abbrev pub faults_of : {X : Type 0} → Checked X → List Fault
faults_of (Right x) = []
faults_of (Wrong fault more) = fault ∷ more

-- one fault alone
abbrev pub fault_at : {X : Type 0} → Pass → Code → Span → Checked X
fault_at pass code place = Wrong (record { pass = pass; code = code; place = place }) []

-- what a whole makes of a part that is right; a faulty part leaves its whole no fault of its own
abbrev pub and_then : {A B : Type 0} → Checked A → (A → Checked B) → Checked B
and_then (Right a) whole = whole a
and_then (Wrong fault more) whole = Wrong fault more

abbrev pub made_of : {A B : Type 0} → (A → B) → Checked A → Checked B
made_of make (Right a) = Right (make a)
made_of make (Wrong fault more) = Wrong fault more

-- two parts side by side: the faults of both stand
abbrev pub both : {A B C : Type 0} → (A → B → C) → Checked A → Checked B → Checked C
both make (Right a) (Right b) = Right (make a b)
both make (Right a) (Wrong fault more) = Wrong fault more
both make (Wrong fault more) (Right b) = Wrong fault more
both make (Wrong fault more) (Wrong other others) = Wrong fault (more ++ other ∷ others)

abbrev pub all_three : {A B C D : Type 0} → (A → B → C → D) → Checked A → Checked B → Checked C → Checked D
all_three make a b c = both (λ f z. f z) (both make a b) c

abbrev pub all_four : {A B C D E : Type 0} → (A → B → C → D → E) → Checked A → Checked B → Checked C → Checked D → Checked E
all_four make a b c d = both (λ f z. f z) (all_three make a b c) d

abbrev pub joined : {X : Type 0} → Checked (Checked X) → Checked X
joined (Right x) = x
joined (Wrong fault more) = Wrong fault more

-- what a whole makes of two or three parts that are right
abbrev pub with_both : {A B C : Type 0} → (A → B → Checked C) → Checked A → Checked B → Checked C
with_both whole a b = joined (both whole a b)

abbrev pub with_three : {A B C D : Type 0} → (A → B → C → Checked D) → Checked A → Checked B → Checked C → Checked D
with_three whole a b c = joined (all_three whole a b c)

-- parts in a row
abbrev pub all_of : {X : Type 0} → List (Checked X) → Checked (List X)
all_of [] = Right []
all_of (part ∷ parts) = both (λ x xs. x ∷ xs) part (all_of parts)

-- what is checked beside something that is not kept
abbrev pub beside : {A B : Type 0} → Checked A → Checked B → Checked B
beside a b = both (λ x y. y) a b

-- the value where the test passes, else a fault
abbrev pub provided : {X : Type 0} → Bool → Pass → Code → Span → X → Checked X
provided true pass code place x = Right x
provided false pass code place x = fault_at pass code place

-- the value where there is one, else a fault
abbrev pub given : {X : Type 0} → Option X → Pass → Code → Span → Checked X
given (Some x) pass code place = Right x
given None pass code place = fault_at pass code place

-- the fault with which a source is refused in a pass
abbrev pub refusal_of : Fault → Refusal
refusal_of fault = record { code = fault.code; line = fault.place.line; column = fault.place.column }

-- a fault of this pass that is told so stands in the list
pub record FaultsAt (faults : List Fault) (pass : ℕ) (refusal : Refusal) : Type 0 where
  pub fault : Fault
  pub found : Contains faults fault
  pub of_pass : pass_number fault.pass ≡ pass
  pub told : refusal_of fault ≡ refusal

-- of these faults the one that decides is of the earliest pass, there of the first place, and there of the lowest number
abbrev pub Decides : List Fault → ℕ → Refusal → Type 0
Decides faults pass refusal = IsDecidingOf (FaultsAt faults) pass refusal

-- a fault comes before another by its pass, then by its place, then by the number of its code
abbrev pub order_of : Fault → List ℕ
order_of fault = pass_number fault.pass ∷ fault.place.line ∷ fault.place.column ∷ number_of fault.code ∷ []

-- numbers in the order of words in a dictionary
abbrev pub comes_first : List ℕ → List ℕ → Bool
comes_first (a ∷ more) (b ∷ others) = nat_lt a b || ((a == b) && comes_first more others)
comes_first _ _ = true

abbrev pub earlier : Fault → Fault → Fault
earlier f g = if comes_first (order_of f) (order_of g) then f else g

-- the first of several faults, which decides
abbrev pub least : Fault → List Fault → Fault
least f [] = f
least f (g ∷ gs) = earlier f (least g gs)

-- what is told of a part: what it stands for, or the first of its faults
abbrev pub told : {X : Type 0} → Checked X → Result X Fault
told (Right x) = Ok x
told (Wrong fault more) = Err (least fault more)

abbrev pub of_told : {X : Type 0} → Result X Fault → Checked X
of_told (Ok x) = Right x
of_told (Err fault) = Wrong fault []
