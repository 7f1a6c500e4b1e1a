-- How parts of a run are put together. A part runs from a store to a store. It carries what unspecified reads gave, in the
-- order in which they were made, and its marks: the numbers of the statements begun, in their order.
use Rattle.std.specs.Prelude.{◌≡◌, ◌≢◌, ◌⊎◌, ℕ, List, [], ◌∷◌, ◌++◌}
use Rattle.p4_meaning.specs.Reads.{Read}
use Rattle.p4_meaning.specs.Store.{Store}

-- How a part ends: what follows it runs, or `return` (P4-16, "Return statement"), or `exit` ("Exit statement"), or the
-- parser error of this number is raised. So far each statement ends so that what follows it runs.
pub data End : Type 0 where
  Next : End
  Returned : End
  Exited : End
  Raised : (error : ℕ) → End

-- parts, by the stores before and after, the reads, the marks, and the end
abbrev pub Part : Type 1
Part = Store → Store → List Read → List ℕ → End → Type 0

-- the store becomes this one, nothing is read or begun, and what follows runs
pub record Becomes (after : Store) (new : Store) (reads : List Read) (marks : List ℕ) (end : End) : Type 0 where
  pub store : new ≡ after
  pub no_read : reads ≡ []
  pub no_mark : marks ≡ []
  pub ends : end ≡ Next

-- nothing happens
abbrev pub Stays : Part
Stays old = Becomes old

-- a statement of this number has its mark as soon as it is begun
pub record Begins (number : ℕ) (Body : Part) (old new : Store) (reads : List Read) (marks : List ℕ) (end : End) : Type 0 where
  pub later : List ℕ
  pub body : Body old new reads later end
  pub marked : marks ≡ number ∷ later

-- a part runs, and then what follows it
pub record Continues (First Others : Part) (old new : Store) (reads : List Read) (marks : List ℕ) (end : End) : Type 0 where
  pub between : Store
  pub first_reads : List Read
  pub first_marks : List ℕ
  pub first : First old between first_reads first_marks Next
  pub other_reads : List Read
  pub other_marks : List ℕ
  pub others : Others between new other_reads other_marks end
  pub all_reads : reads ≡ first_reads ++ other_reads
  pub all_marks : marks ≡ first_marks ++ other_marks

-- a part ends so that nothing follows
pub record Stops (First : Part) (old new : Store) (reads : List Read) (marks : List ℕ) (end : End) : Type 0 where
  pub first : First old new reads marks end
  pub ended : end ≢ Next

-- something runs in one way or another
abbrev pub Either : Part → Part → Part
Either Left Right old new reads marks end = Left old new reads marks end ⊎ Right old new reads marks end
