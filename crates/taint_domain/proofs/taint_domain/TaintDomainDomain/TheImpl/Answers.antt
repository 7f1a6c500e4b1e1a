-- Each operation gives what the trait says of it.
use Rattle.std.proofs.Common.{ap}
use Rattle.std.specs.Prelude.{◌&&◌, ◌||◌, ◌+◌, ◌-◌}
use Rattle.std.proofs.lemmas.Nat.{pow_pos, mod_below}
use Rattle.bits_core.specs.declared.number.Bits.{Bits}
use Rattle.bits_core.specs.Number.{slice_value, extend_value}
use Rattle.bits_core.proofs.WidthLaws.{wrapped_below}
use Rattle.value_domain.proofs.ExtendsLaws.{extends_refl}
use Rattle.value_domain.proofs.Told.{from_ok, both_ok}
use Rattle.taint_domain.specs.Meaning.{taint_meaning}
use Rattle.taint_domain.proofs.StandsLemmas.{constant_stands, unspecified_stands, result_stands, one_stands, image_stands, choice_width, choice_stands, test_stands, combination_stands, not_stands, fixed_stands}
use Rattle.taint_domain.proofs.taint_domain.TaintDomainDomain.TheImpl.Goals as goal

pub constant-tells : goal.constant-tells
constant-tells c = record {
  has = from_ok c.result _ _ (λ v h. tt) c.ensures.number;
  width = from_ok c.result _ _ (λ v h. ap (λ (n : Bits). n.width) h) c.ensures.number;
  value = from_ok c.result _ _ (λ v h p spoken. constant_stands v c.args.b p h) c.ensures.number;
  extends = extends_refl taint_meaning;
}

pub unspecified-tells : goal.unspecified-tells
unspecified-tells c = record {
  has = from_ok c.result _ _ (λ v h. tt) c.ensures.width;
  width = from_ok c.result _ _ (λ v h. h) c.ensures.width;
  value = from_ok c.result _ _ (λ v h p b spoken at same. unspecified_stands v p b c.args.read c.args.width h.0 h.1.0 h.1.1 at same)
      (both_ok c.result _ _ c.ensures.width (both_ok c.result _ _ c.ensures.number c.ensures.mask));
  extends = extends_refl taint_meaning;
}

pub binary-tells : goal.binary-tells
binary-tells c = record {
  has = from_ok c.result _ _ (λ v h. tt) c.ensures.width;
  width = from_ok c.result _ _ (λ v h. h) c.ensures.width;
  value = from_ok c.result _ _ (λ v h p x y spoken a b.
      result_stands c.args.op c.args.a.now c.args.b.now v p x y c.requires.fits h.0 h.1.0 h.1.1 a b)
      (both_ok c.result _ _ c.ensures.width (both_ok c.result _ _ c.ensures.number c.ensures.mask));
  extends = extends_refl taint_meaning;
}

pub unary-tells : goal.unary-tells
unary-tells c = record {
  has = from_ok c.result _ _ (λ v h. tt) c.ensures.width;
  width = from_ok c.result _ _ (λ v h. h) c.ensures.width;
  value = from_ok c.result _ _ (λ v h p x spoken a. one_stands c.args.op c.args.a.now v p x c.requires.shape h.0 h.1.0 h.1.1 a)
      (both_ok c.result _ _ c.ensures.width (both_ok c.result _ _ c.ensures.number c.ensures.mask));
  extends = extends_refl taint_meaning;
}

pub slice-tells : goal.slice-tells
slice-tells c = record {
  has = from_ok c.result _ _ (λ v h. tt) c.ensures.width;
  width = from_ok c.result _ _ (λ v h. h) c.ensures.width;
  value = from_ok c.result _ _ (λ v h p x spoken a.
      image_stands (λ z. slice_value z c.args.high c.args.low) c.args.a.now v p x (c.args.high - c.args.low + 1)
      (λ z. mod_below _ _ (pow_pos (c.args.high - c.args.low + 1))) h.0 h.1.0 h.1.1 a)
      (both_ok c.result _ _ c.ensures.width (both_ok c.result _ _ c.ensures.number c.ensures.all));
  extends = extends_refl taint_meaning;
}

pub extend-tells : goal.extend-tells
extend-tells c = record {
  has = from_ok c.result _ _ (λ v h. tt) c.ensures.width;
  width = from_ok c.result _ _ (λ v h. h) c.ensures.width;
  value = from_ok c.result _ _ (λ v h p x spoken a.
      image_stands (λ z. extend_value c.args.signed c.args.a.now.number.width z c.args.width) c.args.a.now v p x c.args.width
      (λ z. wrapped_below c.args.width _) h.0 h.1.0 h.1.1 a)
      (both_ok c.result _ _ c.ensures.width (both_ok c.result _ _ c.ensures.number c.ensures.all));
  extends = extends_refl taint_meaning;
}

pub choose-tells : goal.choose-tells
choose-tells c = record {
  has = from_ok c.result _ _ (λ v h. tt) c.ensures.number;
  width = from_ok c.result _ _ (λ v h. choice_width c.args.f.now c.args.a.now c.args.b.now v c.requires.fits h) c.ensures.number;
  value = from_ok c.result _ _ (λ v h p t x y spoken f a b.
      choice_stands c.args.f.now c.args.a.now c.args.b.now v p t x y c.requires.fits h.0 h.1 f a b)
      (both_ok c.result _ _ c.ensures.number c.ensures.all);
  extends = extends_refl taint_meaning;
}

pub compare-tells : goal.compare-tells
compare-tells c = record {
  has = from_ok c.result _ _ (λ f h. tt) c.ensures.truth;
  truth = from_ok c.result _ _ (λ f h p x y spoken a b. test_stands c.args.op c.args.a.now c.args.b.now f p x y h.0 h.1 a b)
      (both_ok c.result _ _ c.ensures.truth c.ensures.unknown);
  extends = extends_refl taint_meaning;
}

pub both-tells : goal.both-tells
both-tells c = record {
  has = from_ok c.result _ _ (λ f h. tt) c.ensures.truth;
  truth = from_ok c.result _ _ (λ h told p s t spoken f g.
      combination_stands (λ s t. s && t) c.args.f.now c.args.g.now h p s t told.0 told.1 f g)
      (both_ok c.result _ _ c.ensures.truth c.ensures.unknown);
  extends = extends_refl taint_meaning;
}

pub either-tells : goal.either-tells
either-tells c = record {
  has = from_ok c.result _ _ (λ f h. tt) c.ensures.truth;
  truth = from_ok c.result _ _ (λ h told p s t spoken f g.
      combination_stands (λ s t. s || t) c.args.f.now c.args.g.now h p s t told.0 told.1 f g)
      (both_ok c.result _ _ c.ensures.truth c.ensures.unknown);
  extends = extends_refl taint_meaning;
}

pub not-tells : goal.not-tells
not-tells c = record {
  has = from_ok c.result _ _ (λ f h. tt) c.ensures.truth;
  truth = from_ok c.result _ _ (λ h told p t spoken f. not_stands c.args.f.now h p t told.0 told.1 f)
      (both_ok c.result _ _ c.ensures.truth c.ensures.unknown);
  extends = extends_refl taint_meaning;
}

pub fixed-tells : goal.fixed-tells
fixed-tells c = record {
  has = from_ok c.result _ _ (λ f h. tt) c.ensures.truth;
  truth = from_ok c.result _ _ (λ h told p spoken. fixed_stands h p c.args.f told) c.ensures.truth;
  extends = extends_refl taint_meaning;
}
