-- The course of a part of a run: which unspecified values it reads, which statements it begins, and how it ends. A course is
-- fixed but for the values that its reads give.
use Rattle.std.specs.Prelude.{ℕ, ◌≡◌, ◌-◌, ◌^◌, ◌==◌, nat_lt, nat_le, ◌&&◌, Bool, false, List, [], ◌∷◌, Option, Some, None, option_map, if◌then◌else◌}
use Rattle.p4_program.specs.declared.typed.types.Scalar.{Scalar}
use Rattle.p4_program.specs.declared.typed.types.Scalar.TheVariants.{Sized, Members}
use Rattle.p4_program.specs.Unspecified.{IsAmong}

infixl 10 ◌>>=◌
-- a read: among which values, and the one that it gave
pub record Read : Type 0 where
  pub scalar : Scalar
  pub value : ℕ

pub data Course (A : Type 0) : Type 0 where
  Ends : A → Course A
  -- an unspecified value of this type is read, and the course goes on by it
  Reads : Scalar → (ℕ → Course A) → Course A
  -- the statement of this number is begun
  Begins : (number : ℕ) → Course A → Course A

-- one course, and then another by what the first ended with
abbrev pub ◌>>=◌ : {A B : Type 0} → Course A → (A → Course B) → Course B
◌>>=◌ (Ends a) next = next a
◌>>=◌ (Reads scalar more) next = Reads scalar (λ value. more value >>= next)
◌>>=◌ (Begins number more) next = Begins number (more >>= next)

-- ---- what a course makes: its reads and marks in their order, and its end

pub record EndsAs {A : Type 0} (a : A) (reads : List Read) (marks : List ℕ) (end : A) : Type 0 where
  pub no_read : reads ≡ []
  pub no_mark : marks ≡ []
  pub ends : end ≡ a

-- the first read gives one of its values, and the later ones are those of the course that goes on by it
pub record ReadsFirst (scalar : Scalar) (Later : ℕ → List Read → Type 0) (reads : List Read) : Type 0 where
  pub value : ℕ
  pub among : IsAmong scalar value
  pub later_reads : List Read
  pub later : Later value later_reads
  pub all_reads : reads ≡ record { scalar = scalar; value = value } ∷ later_reads

-- a statement has its mark as soon as it is begun
pub record MarksFirst (number : ℕ) (Later : List ℕ → Type 0) (marks : List ℕ) : Type 0 where
  pub later_marks : List ℕ
  pub later : Later later_marks
  pub all_marks : marks ≡ number ∷ later_marks

-- the course, where its reads give these values, begins these statements and ends so
abbrev pub Makes : {A : Type 0} → Course A → List Read → List ℕ → A → Type 0
Makes (Ends a) reads marks end = EndsAs a reads marks end
Makes (Reads scalar more) reads marks end = ReadsFirst scalar (λ value later. Makes (more value) later marks end) reads
Makes (Begins number more) reads marks end = MarksFirst number (λ later. Makes more reads later end) marks

-- ---- the same as a function of the reads

pub record Made (A : Type 0) : Type 0 where
  pub marks : List ℕ
  pub end : A

abbrev pub same_scalar : Scalar → Scalar → Bool
same_scalar (Sized w) (Sized v) = w == v
same_scalar (Members m) (Members n) = m == n
same_scalar _ _ = false

abbrev pub is_among : Scalar → ℕ → Bool
is_among (Sized width) value = nat_lt value (2 ^ width)
is_among (Members count) value = nat_le value (count - 1)

-- such a read may be made of the type
abbrev pub is_read_of : Scalar → Read → Bool
is_read_of scalar read = same_scalar read.scalar scalar && is_among scalar read.value

abbrev pub with_mark : {A : Type 0} → ℕ → Made A → Made A
with_mark number made = record made { marks = number ∷ made.marks }

-- what the course makes where its reads are these, if they are just those
abbrev pub made : {A : Type 0} → Course A → List Read → Option (Made A)
made (Ends a) [] = Some (record { marks = []; end = a })
made (Ends a) (read ∷ reads) = None
made (Reads scalar more) [] = None
made (Reads scalar more) (read ∷ reads) = if is_read_of scalar read then made (more read.value) reads else None
made (Begins number more) reads = option_map (with_mark number) (made more reads)
