-- What holds along a course: of each mark, and of its end. And of acts: of each mark, and between the stores before and after.
use Rattle.std.proofs.Common.{ℕ, Bool, true, false, List, sym, subst}
use Rattle.std.specs.Prelude.{if◌then◌else◌, ⊤}
use Rattle.p4_program.specs.declared.typed.paths.Path.{Path}
use Rattle.p4_meaning.specs.Runs.Acts.{Act, After, Store, Stop, Result, Gives, Stops, gives, stops, attempt, taking, begun, told, becomes, with_lasts, some_last_of_none}
use Rattle.p4_meaning.specs.Runs.Acts as act
use Rattle.p4_program.specs.Unspecified.{IsAmong}
use Rattle.p4_meaning.specs.Runs.Courses.{Read, Course, Ends, Reads, Begins, Makes}
use Rattle.p4_meaning.specs.Runs.Courses as course
use Rattle.p4_meaning.proofs.ListLaws.{Each}

-- ---- courses

abbrev pub Along : {A : Type 0} → (ℕ → Type 0) → (A → Type 0) → Course A → Type 0
Along Mark End (Ends a) = End a
Along Mark End (Reads scalar more) = (value : ℕ) → IsAmong scalar value → Along Mark End (more value)
Along Mark End (Begins number more) = Mark number × Along Mark End more

-- what holds along a course holds of what it makes
pub along_made : {A : Type 0} → (Mark : ℕ → Type 0) (End : A → Type 0) (c : Course A) (reads : List Read) (marks : List ℕ) (end : A)
    → Along Mark End c → Makes c reads marks end → Each Mark marks × End end
along_made Mark End (Ends a) reads marks end h m = (subst (Each Mark) (sym m.no_mark) tt, subst End (sym m.ends) h)
along_made Mark End (Reads scalar more) reads marks end h m =
    along_made Mark End (more m.value) m.later_reads marks end (h m.value m.among) m.later
along_made Mark End (Begins number more) reads marks end h m =
    let later = along_made Mark End more reads m.later_marks end h.1 m.later in
    (subst (Each Mark) (sym m.all_marks) (h.0, later.0), later.1)

-- one course and then another
pub along_then : {A B : Type 0} → (Mark : ℕ → Type 0) (P : A → Type 0) (Q : B → Type 0) (c : Course A) (next : A → Course B)
    → Along Mark P c → ((a : A) → P a → Along Mark Q (next a)) → Along Mark Q (course.◌>>=◌ c next)
along_then Mark P Q (Ends a) next h k = k a h
along_then Mark P Q (Reads scalar more) next h k = λ value among. along_then Mark P Q (more value) next (h value among) k
along_then Mark P Q (Begins number more) next h k = (h.0, along_then Mark P Q more next h.1 k)

-- ---- acts

module _ (Mark : ℕ → Type 0) (R : Store → Store → Type 0) (stays : (s : Store) → R s s) (trans : (s t u : Store) → R s t → R t u → R s u) where
  -- each mark is such a one, and the store afterwards stands so to the one before
  abbrev pub Does : {A : Type 0} → Act A → Type 0
  Does act = (old : Store) → Along Mark (λ after. R old after.store) (act old)

  pub does_gives : {A : Type 0} → (a : A) → Does (gives a)
  does_gives a old = stays old

  pub does_stops : (A : Type 0) (why : Stop) → Does (stops {A = A} why)
  does_stops A why old = stays old

  does_going_on : {A B : Type 0} → (next : A → Act B) → ((a : A) → Does (next a)) → (old store : Store) (result : Result A) → R old store
      → Along Mark (λ after. R old after.store) (act.going_on next store result)
  does_going_on next k old store (Stops why) r = r
  does_going_on next k old store (Gives a) r = widened old store r (next a store) (k a store)
    where
      widened : {C : Type 0} → (old store : Store) → R old store → (c : Course (After C)) → Along Mark (λ after. R store after.store) c
          → Along Mark (λ after. R old after.store) c
      widened old store r (Ends after) h = trans old store after.store r h
      widened old store r (Reads scalar more) h = λ value among. widened old store r (more value) (h value among)
      widened old store r (Begins number more) h = (h.0, widened old store r more h.1)

  pub does_then : {A B : Type 0} → (first : Act A) (next : A → Act B) → Does first → ((a : A) → Does (next a)) → Does (act.◌>>=◌ first next)
  does_then first next h k old =
      along_then Mark (λ after. R old after.store) (λ after. R old after.store) (first old) (λ after. act.going_on next after.store after.result) (h old)
      (λ after r. does_going_on next k old after.store after.result r)

  pub does_both : {A B : Type 0} → (first : Act A) (second : Act B) → Does first → Does second → Does (act.◌>>◌ first second)
  does_both first second h k = does_then first (λ value. second) h (λ value. k)

  pub does_attempt : {A : Type 0} → (act : Act A) → Does act → Does (attempt act)
  does_attempt act h old =
      along_then Mark (λ after. R old after.store) (λ after. R old after.store) (act old) (λ after. gives after.result after.store) (h old) (λ after r. r)

  pub does_course : {A : Type 0} → (old : Store) (c : Course A) → ((a : A) → Along Mark (λ (after : After A). R old after.store) (gives a old))
      → Along Mark (λ a. ⊤) c → Along Mark (λ (after : After A). R old after.store) (taking c old)
  does_course old c k h = along_then Mark (λ a. ⊤) (λ after. R old after.store) c (λ a. gives a old) h (λ a u. k a)

  pub does_taking : {A : Type 0} → (c : Course A) → Along Mark (λ a. ⊤) c → Does (taking c)
  does_taking c h old = does_course old c (λ a. stays old) h

  pub does_told : {A : Type 0} → (f : Store → A) → Does (told f)
  does_told f old = stays old

  pub does_becomes : (change : Store → Store) → ((s : Store) → R s (change s)) → Does (becomes change)
  does_becomes change h old = h old

  pub does_begun : {A : Type 0} → (number : ℕ) (act : Act A) → Mark number → Does act → Does (begun number act)
  does_begun number act m h old = (m, h old)

  pub does_if : {A : Type 0} → (b : Bool) (old : Store) (x y : Course (After A)) → Along Mark (λ after. R old after.store) x → Along Mark (λ after. R old after.store) y
      → Along Mark (λ after. R old after.store) (if b then x else y)
  does_if true old x y h k = h
  does_if false old x y h k = k

  pub does_with_lasts : {A : Type 0} → (paths : List Path) (act : Act A) → Does act → Does (with_lasts paths act)
  does_with_lasts paths act h old = does_if (some_last_of_none paths old) old (stops _ old) (act old) (stays old) (h old)
