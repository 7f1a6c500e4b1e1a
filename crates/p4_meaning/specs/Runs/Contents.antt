-- What a store holds at a place, and what an expression gives: numbers, headers, stacks and structs (P4-16, "Data types").
use Rattle.std.specs.Prelude.{ℕ, zero, suc, ◌==◌, Bool, true, false, List, [], ◌∷◌, map, slice_get, length, Option, None, Some, if◌then◌else◌}
use Rattle.std.specs.Option.{option_map_or}
use Rattle.p4_program.specs.declared.typed.types.Scalar.{Scalar}
use Rattle.p4_program.specs.declared.typed.types.Scalar.TheVariants.{Sized}
use Rattle.p4_program.specs.declared.typed.types.ValueType.{ValueType}
use Rattle.p4_program.specs.declared.typed.types.ValueType.TheVariants.{Simple, Header, Stack, Struct}
use Rattle.p4_program.specs.Syntax.Programs.{CoreProgram}
use Rattle.p4_program.specs.WellFormed.Types.{width_of}

mutual
  pub data Content : Type 0 where
    -- a number of bits or the number of a member; where it is unspecified, none
    Cell : Scalar → (value : Option ℕ) → Content
    -- "Operations on headers": whether the header is valid, and its fields
    HeaderOf : (valid : Bool) → Contents → Content
    -- "Operations on header stacks": the elements, and the number of the one that `next` names
    StackOf : Contents → (next : ℕ) → Content
    StructOf : Contents → Content

  pub data Contents : Type 0 where
    NoContents : Contents
    Also : Content → Contents → Contents

-- What no well-formed program asks for is this: what a number, a step or a name that stands for nothing leads to.
abbrev pub nothing : Content
nothing = StructOf NoContents

abbrev pub listed : Contents → List Content
listed NoContents = []
listed (Also c cs) = c ∷ listed cs

abbrev pub contents_of : List Content → Contents
contents_of [] = NoContents
contents_of (c ∷ cs) = Also c (contents_of cs)

-- the content of this number, from 0
abbrev pub numbered_content : Contents → ℕ → Content
numbered_content NoContents n = nothing
numbered_content (Also c cs) zero = c
numbered_content (Also c cs) (suc n) = numbered_content cs n

-- the contents with that of this number changed
abbrev pub changed_content : Contents → ℕ → (Content → Content) → Contents
changed_content NoContents n change = NoContents
changed_content (Also c cs) zero change = Also (change c) cs
changed_content (Also c cs) (suc n) change = Also c (changed_content cs n change)

-- ---- numbers

-- a number of so many bits
abbrev pub bits : ℕ → ℕ → Content
bits width value = Cell (Sized width) (Some value)

-- a Boolean is a number of one bit
abbrev pub truth : Bool → Content
truth b = bits 1 (if b then 1 else 0)

abbrev pub number_in : Content → ℕ
number_in (Cell scalar (Some value)) = value
number_in _ = 0

abbrev pub bits_in : Content → ℕ
bits_in (Cell scalar value) = width_of scalar
bits_in _ = 0

abbrev pub is_true : Content → Bool
is_true c = number_in c == 1

-- ---- what is unspecified

abbrev mutual
  -- all numbers in it unspecified
  pub opened : Content → Content
  opened (Cell scalar value) = Cell scalar None
  opened (HeaderOf valid fields) = HeaderOf valid (all_opened fields)
  opened (StackOf elements next) = StackOf (all_opened elements) next
  opened (StructOf fields) = StructOf (all_opened fields)

  pub all_opened : Contents → Contents
  all_opened NoContents = NoContents
  all_opened (Also c cs) = Also (opened c) (all_opened cs)

-- "Operations on headers", `setInvalid`: an invalid header, whose fields are unspecified
abbrev pub made_invalid : Content → Content
made_invalid (HeaderOf valid fields) = HeaderOf false (all_opened fields)
made_invalid c = c

-- `setValid`: an invalid header becomes valid, with fields that are unspecified; a valid one stays as it is
abbrev pub made_valid : Content → Content
made_valid (HeaderOf false fields) = HeaderOf true (all_opened fields)
made_valid c = c

-- ---- "Uninitialized values": numbers are unspecified, headers invalid, and no element of a stack was extracted

abbrev pub open_fields : List ℕ → Contents
open_fields [] = NoContents
open_fields (width ∷ widths) = Also (Cell (Sized width) None) (open_fields widths)

abbrev pub invalid_header : CoreProgram → ℕ → Content
invalid_header p n = HeaderOf false (open_fields (option_map_or (λ h. h.widths) (slice_get p.headers n) []))

abbrev pub copies : ℕ → Content → Contents
copies zero c = NoContents
copies (suc n) c = Also c (copies n c)

-- An uninitialised value of the type, down to this depth of structs. A struct has fields of structs before it, so that its
-- number bounds the depth.
abbrev pub uninitialised_within : ℕ → CoreProgram → ValueType → Content
uninitialised_within depth p (Simple scalar) = Cell scalar None
uninitialised_within depth p (Header n) = invalid_header p n
uninitialised_within depth p (Stack n size) = StackOf (copies size (invalid_header p n)) 0
uninitialised_within zero p (Struct n) = nothing
uninitialised_within (suc depth) p (Struct n) =
    StructOf (contents_of (map (uninitialised_within depth p) (option_map_or (λ t. t.fields) (slice_get p.structs n) [])))

abbrev pub uninitialised : CoreProgram → ValueType → Content
uninitialised p t = uninitialised_within (length p.structs) p t

abbrev pub all_uninitialised : CoreProgram → List ValueType → List Content
all_uninitialised p ts = map (uninitialised p) ts
