-- For code that is generic over a domain: lists of cells, of flags and of reads, along a step of the domain, at an index, past
-- a write to one cell, and joined. Higher crates may cite these.
use Rattle.std.proofs.Common.{◌≡◌, ℕ, suc, zero, ◌<◌, List, [], ◌∷◌, ◌++◌, length, get_or, set, take, drop, refl, ap, ◌∙◌, arith}
use Rattle.std.specs.Prelude.{Bool, Some, slice_get}
use Rattle.std.specs.List.{All, AllZip}
use Rattle.std.proofs.lemmas.List.Elements.{All-cons, All-head, All-tail, All-get_or, All-set, All-append, All-weaker, All-take, All-drop}
use Rattle.bits_core.specs.declared.points.Point.{Point}
use Rattle.value_domain.specs.Cells.{HasWidth, AreCells, HaveWidth, HaveWidths, StandForAll, AreFlags, FlagsStandForAll, OffersAll}
use Rattle.value_domain.specs.Extends.{Extends}
use Rattle.value_domain.specs.Meaning.{Meaning}

-- ---- two lists

module _ {A B : Type 0} (R : A → B → Type 0) where
  zip_length : (xs : List A) (ys : List B) → AllZip R xs ys → length xs ≡ length ys
  zip_length [] [] h = refl
  zip_length [] (y ∷ ys) h = absurd h
  zip_length (x ∷ xs) [] h = absurd h
  zip_length (x ∷ xs) (y ∷ ys) h = ap suc (zip_length xs ys h.1)

  zip_at : (xs : List A) (ys : List B) (i : ℕ) (d : A) (e : B) → AllZip R xs ys → i < length xs → R (get_or xs i d) (get_or ys i e)
  zip_at [] ys i d e h within = absurd (omega arith)
  zip_at (x ∷ xs) [] i d e h within = absurd h
  zip_at (x ∷ xs) (y ∷ ys) zero d e h within = h.0
  zip_at (x ∷ xs) (y ∷ ys) (suc i) d e h within = zip_at xs ys i d e h.1 (omega arith)

  zip_set : (xs : List A) (ys : List B) (i : ℕ) (x : A) (y : B) → AllZip R xs ys → R x y → AllZip R (set xs i x) (set ys i y)
  zip_set [] [] i x y h r = tt
  zip_set [] (z ∷ ys) i x y h r = absurd h
  zip_set (z ∷ xs) [] i x y h r = absurd h
  zip_set (v ∷ xs) (z ∷ ys) zero x y h r = (r, h.1)
  zip_set (v ∷ xs) (z ∷ ys) (suc i) x y h r = (h.0, zip_set xs ys i x y h.1 r)

  -- a write that keeps what is said of the place
  zip_set_left : (xs : List A) (ys : List B) (i : ℕ) (x : A) (e : B) → AllZip R xs ys → R x (get_or ys i e) → AllZip R (set xs i x) ys
  zip_set_left [] ys i x e h r = h
  zip_set_left (v ∷ xs) [] i x e h r = absurd h
  zip_set_left (v ∷ xs) (z ∷ ys) zero x e h r = (r, h.1)
  zip_set_left (v ∷ xs) (z ∷ ys) (suc i) x e h r = (h.0, zip_set_left xs ys i x e h.1 r)

  zip_append : (xs : List A) (ys : List B) (us : List A) (vs : List B) → AllZip R xs ys → AllZip R us vs → AllZip R (xs ++ us) (ys ++ vs)
  zip_append [] [] us vs h k = k
  zip_append [] (y ∷ ys) us vs h k = absurd h
  zip_append (x ∷ xs) [] us vs h k = absurd h
  zip_append (x ∷ xs) (y ∷ ys) us vs h k = (h.0, zip_append xs ys us vs h.1 k)

  zip_take : (n : ℕ) (xs : List A) (ys : List B) → AllZip R xs ys → AllZip R (take n xs) (take n ys)
  zip_take zero xs ys h = tt
  zip_take (suc n) [] [] h = tt
  zip_take (suc n) [] (y ∷ ys) h = absurd h
  zip_take (suc n) (x ∷ xs) [] h = absurd h
  zip_take (suc n) (x ∷ xs) (y ∷ ys) h = (h.0, zip_take n xs ys h.1)

  zip_drop : (n : ℕ) (xs : List A) (ys : List B) → AllZip R xs ys → AllZip R (drop n xs) (drop n ys)
  zip_drop zero xs ys h = h
  zip_drop (suc n) [] [] h = tt
  zip_drop (suc n) [] (y ∷ ys) h = absurd h
  zip_drop (suc n) (x ∷ xs) [] h = absurd h
  zip_drop (suc n) (x ∷ xs) (y ∷ ys) h = zip_drop n xs ys h.1

zip_weaker : {A B : Type 0} (K : A → Type 0) (Q R : A → B → Type 0) → ((x : A) (y : B) → K x → Q x y → R x y) →
    (xs : List A) (ys : List B) → All K xs → AllZip Q xs ys → AllZip R xs ys
zip_weaker K Q R step [] [] known h = tt
zip_weaker K Q R step [] (y ∷ ys) known h = absurd h
zip_weaker K Q R step (x ∷ xs) [] known h = absurd h
zip_weaker K Q R step (x ∷ xs) (y ∷ ys) known h =
    (step x y (All-head K x xs known) h.0, zip_weaker K Q R step xs ys (All-tail K x xs known) h.1)

all_left : {A B : Type 0} (K : A → Type 0) (R : A → B → Type 0) → ((x : A) (y : B) → R x y → K x) →
    (xs : List A) (ys : List B) → AllZip R xs ys → All K xs
all_left K R step [] ys h = λ k d within. absurd (omega arith)
all_left K R step (x ∷ xs) [] h = absurd h
all_left K R step (x ∷ xs) (y ∷ ys) h = All-cons K x xs (step x y h.0) (all_left K R step xs ys h.1)

-- ---- cells

module _ {Val Flag : Type 0} {m : Meaning Val Flag} where
  pub cells_of_width : {cells : List Val} {w : ℕ} → HaveWidth m cells w → AreCells m cells
  cells_of_width {cells} {w} h = record { each = All-weaker (λ v. HasWidth m v w) m.has (λ v known. known.has) cells h.each }

  pub cells_of_widths : {cells : List Val} {widths : List ℕ} → HaveWidths m cells widths → AreCells m cells
  cells_of_widths {cells} {widths} h = record { each = all_left m.has (HasWidth m) (λ v w known. known.has) cells widths h.each }

  pub have_widths_length : {cells : List Val} {widths : List ℕ} → HaveWidths m cells widths → length cells ≡ length widths
  have_widths_length {cells} {widths} h = zip_length (HasWidth m) cells widths h.each

  pub stand_for_all_length : {cells : List Val} {p : Point} {numbers : List ℕ} → StandForAll m cells p numbers →
      length cells ≡ length numbers
  stand_for_all_length {cells} {p} {numbers} h = zip_length (λ v x. m.stands v p x) cells numbers h.each

  -- ---- at an index

  pub are_cells_at : {cells : List Val} (i : ℕ) (d : Val) → AreCells m cells → i < length cells → m.has (get_or cells i d)
  are_cells_at {cells} i d h within = All-get_or m.has cells i d within h.each

  pub have_width_at : {cells : List Val} {w : ℕ} (i : ℕ) (d : Val) → HaveWidth m cells w → i < length cells →
      HasWidth m (get_or cells i d) w
  have_width_at {cells} {w} i d h within = All-get_or (λ v. HasWidth m v w) cells i d within h.each

  pub have_widths_at : {cells : List Val} {widths : List ℕ} (i : ℕ) (d : Val) (e : ℕ) → HaveWidths m cells widths →
      i < length cells → HasWidth m (get_or cells i d) (get_or widths i e)
  have_widths_at {cells} {widths} i d e h within = zip_at (HasWidth m) cells widths i d e h.each within

  pub stand_for_all_at : {cells : List Val} {p : Point} {numbers : List ℕ} (i : ℕ) (d : Val) (e : ℕ) →
      StandForAll m cells p numbers → i < length cells → m.stands (get_or cells i d) p (get_or numbers i e)
  stand_for_all_at {cells} {p} {numbers} i d e h within = zip_at (λ v x. m.stands v p x) cells numbers i d e h.each within

  -- ---- past a write, which keeps the widths where the new value has that of the place

  pub are_cells_set : {cells : List Val} (i : ℕ) (v : Val) → AreCells m cells → m.has v → AreCells m (set cells i v)
  are_cells_set {cells} i v h known = record { each = All-set m.has cells i v known h.each }

  pub have_width_set : {cells : List Val} {w : ℕ} (i : ℕ) (v : Val) → HaveWidth m cells w → HasWidth m v w →
      HaveWidth m (set cells i v) w
  have_width_set {cells} {w} i v h known = record { each = All-set (λ v. HasWidth m v w) cells i v known h.each }

  pub have_widths_set : {cells : List Val} {widths : List ℕ} (i : ℕ) (v : Val) (e : ℕ) → HaveWidths m cells widths →
      HasWidth m v (get_or widths i e) → HaveWidths m (set cells i v) widths
  have_widths_set {cells} {widths} i v e h known = record { each = zip_set_left (HasWidth m) cells widths i v e h.each known }

  pub stand_for_all_set : {cells : List Val} {p : Point} {numbers : List ℕ} (i : ℕ) (v : Val) (x : ℕ) →
      StandForAll m cells p numbers → m.stands v p x → StandForAll m (set cells i v) p (set numbers i x)
  stand_for_all_set {cells} {p} {numbers} i v x h s =
      record { each = zip_set (λ v x. m.stands v p x) cells numbers i v x h.each s }

  -- ---- joined, and in part

  pub are_cells_append : {cells more : List Val} → AreCells m cells → AreCells m more → AreCells m (cells ++ more)
  are_cells_append {cells} {more} h k = record { each = All-append m.has cells more h.each k.each }

  pub have_width_append : {cells more : List Val} {w : ℕ} → HaveWidth m cells w → HaveWidth m more w → HaveWidth m (cells ++ more) w
  have_width_append {cells} {more} {w} h k = record { each = All-append (λ v. HasWidth m v w) cells more h.each k.each }

  pub have_widths_append : {cells more : List Val} {widths also : List ℕ} → HaveWidths m cells widths → HaveWidths m more also →
      HaveWidths m (cells ++ more) (widths ++ also)
  have_widths_append {cells} {more} {widths} {also} h k =
      record { each = zip_append (HasWidth m) cells widths more also h.each k.each }

  pub stand_for_all_append : {cells more : List Val} {p : Point} {numbers also : List ℕ} → StandForAll m cells p numbers →
      StandForAll m more p also → StandForAll m (cells ++ more) p (numbers ++ also)
  stand_for_all_append {cells} {more} {p} {numbers} {also} h k =
      record { each = zip_append (λ v x. m.stands v p x) cells numbers more also h.each k.each }

  pub are_cells_take : {cells : List Val} (n : ℕ) → AreCells m cells → AreCells m (take n cells)
  are_cells_take {cells} n h = record { each = All-take m.has n cells h.each }

  pub are_cells_drop : {cells : List Val} (n : ℕ) → AreCells m cells → AreCells m (drop n cells)
  are_cells_drop {cells} n h = record { each = All-drop m.has n cells h.each }

  pub have_width_take : {cells : List Val} {w : ℕ} (n : ℕ) → HaveWidth m cells w → HaveWidth m (take n cells) w
  have_width_take {cells} {w} n h = record { each = All-take (λ v. HasWidth m v w) n cells h.each }

  pub have_width_drop : {cells : List Val} {w : ℕ} (n : ℕ) → HaveWidth m cells w → HaveWidth m (drop n cells) w
  have_width_drop {cells} {w} n h = record { each = All-drop (λ v. HasWidth m v w) n cells h.each }

  pub have_widths_take : {cells : List Val} {widths : List ℕ} (n : ℕ) → HaveWidths m cells widths →
      HaveWidths m (take n cells) (take n widths)
  have_widths_take {cells} {widths} n h = record { each = zip_take (HasWidth m) n cells widths h.each }

  pub have_widths_drop : {cells : List Val} {widths : List ℕ} (n : ℕ) → HaveWidths m cells widths →
      HaveWidths m (drop n cells) (drop n widths)
  have_widths_drop {cells} {widths} n h = record { each = zip_drop (HasWidth m) n cells widths h.each }

  pub stand_for_all_take : {cells : List Val} {p : Point} {numbers : List ℕ} (n : ℕ) → StandForAll m cells p numbers →
      StandForAll m (take n cells) p (take n numbers)
  stand_for_all_take {cells} {p} {numbers} n h = record { each = zip_take (λ v x. m.stands v p x) n cells numbers h.each }

  pub stand_for_all_drop : {cells : List Val} {p : Point} {numbers : List ℕ} (n : ℕ) → StandForAll m cells p numbers →
      StandForAll m (drop n cells) p (drop n numbers)
  stand_for_all_drop {cells} {p} {numbers} n h = record { each = zip_drop (λ v x. m.stands v p x) n cells numbers h.each }

  -- ---- flags

  pub are_flags_at : {flags : List Flag} (i : ℕ) (d : Flag) → AreFlags m flags → i < length flags → m.has_flag (get_or flags i d)
  are_flags_at {flags} i d h within = All-get_or m.has_flag flags i d within h.each

  pub are_flags_set : {flags : List Flag} (i : ℕ) (f : Flag) → AreFlags m flags → m.has_flag f → AreFlags m (set flags i f)
  are_flags_set {flags} i f h known = record { each = All-set m.has_flag flags i f known h.each }

  pub are_flags_append : {flags more : List Flag} → AreFlags m flags → AreFlags m more → AreFlags m (flags ++ more)
  are_flags_append {flags} {more} h k = record { each = All-append m.has_flag flags more h.each k.each }

  pub flags_stand_for_all_length : {flags : List Flag} {p : Point} {truths : List Bool} → FlagsStandForAll m flags p truths →
      length flags ≡ length truths
  flags_stand_for_all_length {flags} {p} {truths} h = zip_length (λ f t. m.flag_stands f p t) flags truths h.each

  pub flags_stand_for_all_at : {flags : List Flag} {p : Point} {truths : List Bool} (i : ℕ) (d : Flag) (e : Bool) →
      FlagsStandForAll m flags p truths → i < length flags → m.flag_stands (get_or flags i d) p (get_or truths i e)
  flags_stand_for_all_at {flags} {p} {truths} i d e h within = zip_at (λ f t. m.flag_stands f p t) flags truths i d e h.each within

  pub flags_stand_for_all_set : {flags : List Flag} {p : Point} {truths : List Bool} (i : ℕ) (f : Flag) (t : Bool) →
      FlagsStandForAll m flags p truths → m.flag_stands f p t → FlagsStandForAll m (set flags i f) p (set truths i t)
  flags_stand_for_all_set {flags} {p} {truths} i f t h s =
      record { each = zip_set (λ f t. m.flag_stands f p t) flags truths i f t h.each s }

  pub flags_stand_for_all_append : {flags more : List Flag} {p : Point} {truths also : List Bool} →
      FlagsStandForAll m flags p truths → FlagsStandForAll m more p also → FlagsStandForAll m (flags ++ more) p (truths ++ also)
  flags_stand_for_all_append {flags} {more} {p} {truths} {also} h k =
      record { each = zip_append (λ f t. m.flag_stands f p t) flags truths more also h.each k.each }

get_of_prefix : (xs ys : List ℕ) (i x : ℕ) → slice_get xs i ≡ Some x → slice_get (xs ++ ys) i ≡ Some x
get_of_prefix [] ys i x h = cc
get_of_prefix (z ∷ xs) ys zero x h = h
get_of_prefix (z ∷ xs) ys (suc i) x h = get_of_prefix xs ys i x h

-- ---- along a step of the domain

module _ {Val Flag : Type 0} {old new : Meaning Val Flag} where
  pub has_width_extends : {v : Val} {w : ℕ} → Extends old new → HasWidth old v w → HasWidth new v w
  has_width_extends {v} step known = record { has = step.values v known.has; is_wide = step.widths v known.has ∙ known.is_wide }

  pub are_cells_extends : {cells : List Val} → Extends old new → AreCells old cells → AreCells new cells
  are_cells_extends {cells} step h = record { each = All-weaker old.has new.has (λ v known. step.values v known) cells h.each }

  pub have_width_extends : {cells : List Val} {w : ℕ} → Extends old new → HaveWidth old cells w → HaveWidth new cells w
  have_width_extends {cells} {w} step h = record {
    each = All-weaker (λ v. HasWidth old v w) (λ v. HasWidth new v w) (λ v known. has_width_extends step known) cells h.each;
  }

  pub have_widths_extends : {cells : List Val} {widths : List ℕ} → Extends old new → HaveWidths old cells widths →
      HaveWidths new cells widths
  have_widths_extends {cells} {widths} step h = record {
    each = zip_weaker old.has (HasWidth old) (HasWidth new) (λ v w known cell. has_width_extends step cell)
        cells widths (cells_of_widths h).each h.each;
  }

  pub stand_for_all_extends : {cells : List Val} {p : Point} {numbers : List ℕ} → Extends old new → AreCells old cells →
      StandForAll old cells p numbers → StandForAll new cells p numbers
  stand_for_all_extends {cells} {p} {numbers} step known h = record {
    each = zip_weaker old.has (λ v x. old.stands v p x) (λ v x. new.stands v p x) (λ v x has s. (step.numbers v p x has).1 s)
        cells numbers known.each h.each;
  }

  -- no cell gains a number
  pub stand_for_all_before : {cells : List Val} {p : Point} {numbers : List ℕ} → Extends old new → AreCells old cells →
      StandForAll new cells p numbers → StandForAll old cells p numbers
  stand_for_all_before {cells} {p} {numbers} step known h = record {
    each = zip_weaker old.has (λ v x. new.stands v p x) (λ v x. old.stands v p x) (λ v x has s. (step.numbers v p x has).0 s)
        cells numbers known.each h.each;
  }

  pub are_flags_extends : {flags : List Flag} → Extends old new → AreFlags old flags → AreFlags new flags
  are_flags_extends {flags} step h = record { each = All-weaker old.has_flag new.has_flag (λ f known. step.flags f known) flags h.each }

  pub flags_stand_for_all_extends : {flags : List Flag} {p : Point} {truths : List Bool} → Extends old new → AreFlags old flags →
      FlagsStandForAll old flags p truths → FlagsStandForAll new flags p truths
  flags_stand_for_all_extends {flags} {p} {truths} step known h = record {
    each = zip_weaker old.has_flag (λ f t. old.flag_stands f p t) (λ f t. new.flag_stands f p t)
        (λ f t has s. (step.truths f p t has).1 s) flags truths known.each h.each;
  }

  pub flags_stand_for_all_before : {flags : List Flag} {p : Point} {truths : List Bool} → Extends old new → AreFlags old flags →
      FlagsStandForAll new flags p truths → FlagsStandForAll old flags p truths
  flags_stand_for_all_before {flags} {p} {truths} step known h = record {
    each = zip_weaker old.has_flag (λ f t. new.flag_stands f p t) (λ f t. old.flag_stands f p t)
        (λ f t has s. (step.truths f p t has).0 s) flags truths known.each h.each;
  }

  pub offers_all_extends : {widths : List ℕ} → Extends old new → OffersAll old widths → OffersAll new widths
  offers_all_extends step h = record { each = λ read width at. (step.reads read width).1 (h.each read width at) }

  pub offers_all_before : {widths : List ℕ} → Extends old new → OffersAll new widths → OffersAll old widths
  offers_all_before step h = record { each = λ read width at. (step.reads read width).0 (h.each read width at) }

-- ---- reads

module _ {Val Flag : Type 0} {m : Meaning Val Flag} where
  -- what is offered of more reads is offered of the first of them
  pub offers_all_prefix : {widths : List ℕ} (more : List ℕ) → OffersAll m (widths ++ more) → OffersAll m widths
  offers_all_prefix {widths} more h = record {
    each = λ read width at. h.each read width (get_of_prefix widths more read width at);
  }
