-- What the domain of a resolution offers, the points of which it speaks, and that its values stand for themselves.
use Rattle.std.specs.Prelude.{◌≡◌, ℕ, Bool, List, IsSomeAnd, slice_get}
use Rattle.bits_core.specs.declared.number.Bits.{Bits}
use Rattle.value_domain.specs.Meaning.{Meaning}

-- the resolution has a value of this width for the read
abbrev pub Offers : List Bits → ℕ → ℕ → Type 0
Offers resolution read width = IsSomeAnd (slice_get resolution read) (λ v. v.width ≡ width)

-- the points are those whose reads are the resolution
abbrev pub meaning_of : List Bits → Meaning Bits Bool
meaning_of resolution = record {
  offers = Offers resolution;
  speaks_of = λ p. p.reads ≡ resolution;
  has = λ v. Unit {0};
  width_of = λ v. v.width;
  stands = λ v p x. v.value ≡ x;
  has_flag = λ f. Unit {0};
  flag_stands = λ f p t. f ≡ t;
}
