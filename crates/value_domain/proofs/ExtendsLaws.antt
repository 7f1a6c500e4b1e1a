-- For domains and for code that is generic over one: a state that stays keeps all that it had, and what two steps keep, both
-- together keep. Higher crates may cite these.
use Rattle.std.proofs.Common.{◌≡◌, refl, subst, sym, ◌∙◌}
use Rattle.value_domain.specs.Extends.{Extends}
use Rattle.value_domain.specs.Meaning.{Meaning}

pub extends_refl : {Val Flag : Type 0} (m : Meaning Val Flag) → Extends m m
extends_refl m = record {
  reads = λ read width. ((λ h. h), (λ h. h));
  points = λ p. ((λ h. h), (λ h. h));
  values = λ v h. h;
  widths = λ v h. refl;
  numbers = λ v p x h. ((λ s. s), (λ s. s));
  flags = λ f h. h;
  truths = λ f p b h. ((λ s. s), (λ s. s));
}

-- the step of an operation that leaves its domain as it was
pub extends_same : {D Val Flag : Type 0} (meaning : D → Meaning Val Flag) (old new : D) → new ≡ old →
    Extends (meaning old) (meaning new)
extends_same {D} meaning old new same =
    let P : D → Type 0 = λ d. Extends (meaning old) (meaning d) in
    subst P (sym same) (extends_refl (meaning old))

pub extends_trans : {Val Flag : Type 0} {old mid new : Meaning Val Flag} → Extends old mid → Extends mid new → Extends old new
extends_trans h k = record {
  reads = λ read width.
      ((λ o. (h.reads read width).0 ((k.reads read width).0 o)), (λ o. (k.reads read width).1 ((h.reads read width).1 o)));
  points = λ p. ((λ s. (h.points p).0 ((k.points p).0 s)), (λ s. (k.points p).1 ((h.points p).1 s)));
  values = λ v known. k.values v (h.values v known);
  widths = λ v known. k.widths v (h.values v known) ∙ h.widths v known;
  numbers = λ v p x known.
      let first = h.numbers v p x known in let second = k.numbers v p x (h.values v known) in
      ((λ s. first.0 (second.0 s)), (λ s. second.1 (first.1 s)));
  flags = λ f known. k.flags f (h.flags f known);
  truths = λ f p b known.
      let first = h.truths f p b known in let second = k.truths f p b (h.flags f known) in
      ((λ s. first.0 (second.0 s)), (λ s. second.1 (first.1 s)));
}
