-- What courses make: one end for each list of reads, and one list of reads under each fill.
use Rattle.std.proofs.Common.{◌≡◌, ℕ, ◌+◌, ◌-◌, ◌^◌, Bool, true, false, List, [], ◌∷◌, ◌++◌, Option, Some, None, refl, sym, ap, ◌∙◌, subst, subst₂, ap₂, mod-lt}
use Rattle.std.specs.Prelude.{option_map, if◌then◌else◌, ◌&&◌}
use Rattle.std.proofs.Math.Nat.{min-le_right}
use Rattle.std.proofs.lemmas.Nat.{pow_pos}
use Rattle.std.proofs.lemmas.Bool.{eq-eqb, lt-ltb, le-leb, ltb-true, leb-true, eqb-true, true≢false}
use Rattle.std.proofs.lemmas.Option.{none-some, same_Some}
use Rattle.p4_program.specs.declared.typed.types.Scalar.{Scalar}
use Rattle.p4_program.specs.declared.typed.types.Scalar.TheVariants.{Sized, Members}
use Rattle.p4_program.specs.Unspecified.{IsAmong, clipped}
use Rattle.p4_meaning.specs.Runs.Courses.{Read, Course, Ends, Reads, Begins, ◌>>=◌, Makes, Made, same_scalar, is_among, is_read_of, with_mark, made}
use Rattle.p4_meaning.specs.Runs.Fills.{words_for, filled_value, drawn, IsFilled}

-- ---- one end for each list of reads

first_value : List Read → ℕ
first_value [] = 0
first_value (read ∷ reads) = read.value

later_of : List Read → List Read
later_of [] = []
later_of (read ∷ reads) = reads

same_first : {s t : Scalar} {v w : ℕ} {rs ss : List Read} → record { scalar = s; value = v } ∷ rs ≡ record { scalar = t; value = w } ∷ ss → v ≡ w
unfolding first_value
same_first e = ap first_value e

same_later : {s t : Scalar} {v w : ℕ} {rs ss : List Read} → record { scalar = s; value = v } ∷ rs ≡ record { scalar = t; value = w } ∷ ss → rs ≡ ss
unfolding later_of
same_later e = ap later_of e

pub one_end : {A : Type 0} → (c : Course A) (reads : List Read) (m n : List ℕ) (a b : A) → Makes c reads m a → Makes c reads n b → (m ≡ n) × (a ≡ b)
one_end (Ends e) reads m n a b f g = (f.no_mark ∙ sym g.no_mark, f.ends ∙ sym g.ends)
one_end (Reads scalar more) reads m n a b f g =
    let both = sym f.all_reads ∙ g.all_reads in
    one_end (more g.value) g.later_reads m n a b
    (subst₂ (λ v later. Makes (more v) later m a) (same_first both) (same_later both) f.later) g.later
one_end (Begins number more) reads m n a b f g =
    let later = one_end more reads f.later_marks g.later_marks a b f.later g.later in
    (f.all_marks ∙ ap (λ marks. number ∷ marks) later.0 ∙ sym g.all_marks, later.1)

-- ---- under a fill

-- what a fill gives is one of the values
among_clipped : (scalar : Scalar) (number : ℕ) → IsAmong scalar (clipped scalar number)
among_clipped (Sized width) number = mod-lt number (pow_pos width)
among_clipped (Members count) number = min-le_right _ (count - 1)

pub filled_among : (words : ℕ → ℕ) (first : ℕ) (scalar : Scalar) → IsAmong scalar (filled_value words first scalar)
filled_among words first scalar = among_clipped scalar (drawn words first (words_for scalar))

-- a course under a fill
pub record Filled {A : Type 0} (c : Course A) (words : ℕ → ℕ) (first : ℕ) : Type 0 where
  pub reads : List Read
  pub marks : List ℕ
  pub end : A
  pub is_filled : IsFilled words first reads
  pub makes : Makes c reads marks end

pub fill : {A : Type 0} → (c : Course A) (words : ℕ → ℕ) (first : ℕ) → Filled c words first
fill (Ends a) words first =
    record {
      reads = [];
      marks = [];
      end = a;
      is_filled = tt;
      makes = record { no_read = refl; no_mark = refl; ends = refl };
    }
fill (Reads scalar more) words first =
    let later = fill (more (filled_value words first scalar)) words (first + words_for scalar) in
    record {
      reads = record { scalar = scalar; value = filled_value words first scalar } ∷ later.reads;
      marks = later.marks;
      end = later.end;
      is_filled = (refl, later.is_filled);
      makes = record {
        value = filled_value words first scalar;
        among = filled_among words first scalar;
        later_reads = later.reads;
        later = later.makes;
        all_reads = refl;
      };
    }
fill (Begins number more) words first =
    let later = fill more words first in
    record {
      reads = later.reads;
      marks = number ∷ later.marks;
      end = later.end;
      is_filled = later.is_filled;
      makes = record { later_marks = later.marks; later = later.makes; all_marks = refl };
    }

-- the reads under a fill
pub one_fill : {A : Type 0} → (c : Course A) (words : ℕ → ℕ) (first : ℕ) (r s : List Read) (m n : List ℕ) (a b : A)
    → IsFilled words first r → IsFilled words first s → Makes c r m a → Makes c s n b → r ≡ s
one_fill (Ends e) words first r s m n a b fr fs f g = f.no_read ∙ sym g.no_read
one_fill (Reads scalar more) words first r s m n a b fr fs f g =
    let fr' : (f.value ≡ filled_value words first scalar) × IsFilled words (first + words_for scalar) f.later_reads =
    rw f.all_reads at fr in
    let fs' : (g.value ≡ filled_value words first scalar) × IsFilled words (first + words_for scalar) g.later_reads =
    rw g.all_reads at fs in
    let same : f.value ≡ g.value = fr'.0 ∙ sym fs'.0 in
    let f' : Makes (more g.value) f.later_reads m a = subst (λ v. Makes (more v) f.later_reads m a) same f.later in
    let later = one_fill (more g.value) words (first + words_for scalar) f.later_reads g.later_reads m n a b fr'.1 fs'.1 f' g.later in
    f.all_reads ∙ ap₂ (λ v rest. record { scalar = scalar; value = v } ∷ rest) same later ∙ sym g.all_reads
one_fill (Begins number more) words first r s m n a b fr fs f g =
    one_fill more words first r s f.later_marks g.later_marks a b fr fs f.later g.later

-- ---- by evaluation

both_true : (a b : Bool) → a && b ≡ true → (a ≡ true) × (b ≡ true)
both_true true true e = (refl, refl)
both_true true false e = absurd (true≢false (sym e))
both_true false b e = absurd (true≢false (sym e))

scalars_same : (s t : Scalar) → same_scalar s t ≡ true → s ≡ t
scalars_same (Sized w) (Sized v) e = ap (λ n. Sized n) (eqb-true w v e)
scalars_same (Sized w) (Members n) e = absurd (true≢false (sym e))
scalars_same (Members m) (Sized v) e = absurd (true≢false (sym e))
scalars_same (Members m) (Members n) e = ap (λ k. Members k) (eqb-true m n e)

values_among : (s : Scalar) (v : ℕ) → is_among s v ≡ true → IsAmong s v
values_among (Sized w) v e = ltb-true v (2 ^ w) e
values_among (Members n) v e = leb-true v (n - 1) e

if_some : {A : Type 0} → (b : Bool) (o : Option A) (a : A) → (if b then o else None) ≡ Some a → (b ≡ true) × (o ≡ Some a)
if_some true o a e = (refl, e)
if_some false o a e = absurd (none-some a e)

map_some : {A : Type 0} → (f : A → A) (o : Option A) (a : A) → option_map f o ≡ Some a → (k : A) × (o ≡ Some k) × (f k ≡ a)
map_some f None a e = absurd (none-some a e)
map_some f (Some k) a e = (k, refl, same_Some (f k) a e)

pub made_makes : {A : Type 0} → (c : Course A) (reads : List Read) (m : Made A) → made c reads ≡ Some m → Makes c reads m.marks m.end
made_makes (Ends a) [] m e =
    let same = same_Some (record { marks = []; end = a }) m e in
    record { no_read = refl; no_mark = ap (λ k. k.marks) (sym same); ends = ap (λ k. k.end) (sym same) }
made_makes (Ends a) (read ∷ reads) m e = absurd (none-some m e)
made_makes (Reads scalar more) [] m e = absurd (none-some m e)
made_makes (Reads scalar more) (read ∷ reads) m e =
    let tested = if_some (is_read_of scalar read) (made (more read.value) reads) m e in
    let parts = both_true (same_scalar read.scalar scalar) (is_among scalar read.value) tested.0 in
    record {
      value = read.value;
      among = values_among scalar read.value parts.1;
      later_reads = reads;
      later = made_makes (more read.value) reads m tested.1;
      all_reads = ap (λ s. record { scalar = s; value = read.value } ∷ reads) (scalars_same read.scalar scalar parts.0);
    }
made_makes (Begins number more) reads m e =
    let found = map_some (with_mark number) (made more reads) m e in
    record {
      later_marks = found.0.marks;
      later = subst (λ k. Makes more reads found.0.marks k) (ap (λ k. k.end) found.2) (made_makes more reads found.0 found.1);
      all_marks = ap (λ k. k.marks) (sym found.2);
    }

-- and what it makes is what is computed

scalar_itself : (s : Scalar) → same_scalar s s ≡ true
scalar_itself (Sized w) = eq-eqb w w refl
scalar_itself (Members n) = eq-eqb n n refl

among_value : (s : Scalar) (v : ℕ) → IsAmong s v → is_among s v ≡ true
among_value (Sized w) v h = lt-ltb v (2 ^ w) h
among_value (Members n) v h = le-leb v (n - 1) h

both_so : (a b : Bool) → a ≡ true → b ≡ true → a && b ≡ true
both_so true b e f = f
both_so false b e f = absurd (true≢false (sym e))

taken : {A : Type 0} → (b : Bool) (o : Option A) → b ≡ true → (if b then o else None) ≡ o
taken true o e = refl
taken false o e = absurd (true≢false (sym e))

pub makes_made : {A : Type 0} → (c : Course A) (reads : List Read) (marks : List ℕ) (end : A)
    → Makes c reads marks end → made c reads ≡ Some (record { marks = marks; end = end })
makes_made (Ends a) reads marks end m =
    ap (made (Ends a)) m.no_read ∙ ap₂ (λ k e. Some (record { marks = k; end = e })) (sym m.no_mark) (sym m.ends)
makes_made (Reads scalar more) reads marks end m =
    let read : Read = record { scalar = scalar; value = m.value } in
    ap (made (Reads scalar more)) m.all_reads
    ∙ taken (is_read_of scalar read) (made (more m.value) m.later_reads)
    (both_so (same_scalar scalar scalar) (is_among scalar m.value) (scalar_itself scalar) (among_value scalar m.value m.among))
    ∙ makes_made (more m.value) m.later_reads marks end m.later
makes_made (Begins number more) reads marks end m =
    ap (option_map (with_mark number)) (makes_made more reads m.later_marks end m.later)
    ∙ ap (λ k. Some (record { marks = k; end = end })) (sym m.all_marks)

-- ---- one course and then another

-- what a course makes that is one and then another: what the first makes, and then what the other does
pub record Parts {A B : Type 0} (first : Course A) (next : A → Course B) (reads : List Read) (marks : List ℕ) (end : B) : Type 0 where
  pub first_reads : List Read
  pub first_marks : List ℕ
  pub between : A
  pub makes_first : Makes first first_reads first_marks between
  pub next_reads : List Read
  pub next_marks : List ℕ
  pub makes_next : Makes (next between) next_reads next_marks end
  pub all_reads : reads ≡ first_reads ++ next_reads
  pub all_marks : marks ≡ first_marks ++ next_marks

pub parts_of : {A B : Type 0} → (first : Course A) (next : A → Course B) (reads : List Read) (marks : List ℕ) (end : B)
    → Makes (first >>= next) reads marks end → Parts first next reads marks end
parts_of (Ends a) next reads marks end m =
    record {
      first_reads = [];
      first_marks = [];
      between = a;
      makes_first = record { no_read = refl; no_mark = refl; ends = refl };
      next_reads = reads;
      next_marks = marks;
      makes_next = m;
      all_reads = refl;
      all_marks = refl;
    }
parts_of (Reads scalar more) next reads marks end m =
    let later = parts_of (more m.value) next m.later_reads marks end m.later in
    let read : Read = record { scalar = scalar; value = m.value } in
    record {
      first_reads = read ∷ later.first_reads;
      first_marks = later.first_marks;
      between = later.between;
      makes_first = record {
        value = m.value;
        among = m.among;
        later_reads = later.first_reads;
        later = later.makes_first;
        all_reads = refl;
      };
      next_reads = later.next_reads;
      next_marks = later.next_marks;
      makes_next = later.makes_next;
      all_reads = m.all_reads ∙ ap (λ reads. read ∷ reads) later.all_reads;
      all_marks = later.all_marks;
    }
parts_of (Begins number more) next reads marks end m =
    let later = parts_of more next reads m.later_marks end m.later in
    record {
      first_reads = later.first_reads;
      first_marks = number ∷ later.first_marks;
      between = later.between;
      makes_first = record { later_marks = later.first_marks; later = later.makes_first; all_marks = refl };
      next_reads = later.next_reads;
      next_marks = later.next_marks;
      makes_next = later.makes_next;
      all_reads = later.all_reads;
      all_marks = m.all_marks ∙ ap (λ marks. number ∷ marks) later.all_marks;
    }

pub makes_both : {A B : Type 0} → (first : Course A) (next : A → Course B) (r s : List Read) (m n : List ℕ) (a : A) (b : B)
    → Makes first r m a → Makes (next a) s n b → Makes (first >>= next) (r ++ s) (m ++ n) b
makes_both (Ends e) next r s m n a b f g =
    subst (λ x. Makes (next e) (x ++ s) (m ++ n) b) (sym f.no_read)
    (subst (λ x. Makes (next e) s (x ++ n) b) (sym f.no_mark) (subst (λ x. Makes (next x) s n b) f.ends g))
makes_both (Reads scalar more) next r s m n a b f g =
    record {
      value = f.value;
      among = f.among;
      later_reads = f.later_reads ++ s;
      later = makes_both (more f.value) next f.later_reads s m n a b f.later g;
      all_reads = ap (λ x. x ++ s) f.all_reads;
    }
makes_both (Begins number more) next r s m n a b f g =
    record {
      later_marks = f.later_marks ++ n;
      later = makes_both more next r s f.later_marks n a b f.later g;
      all_marks = ap (λ x. x ++ n) f.all_marks;
    }
