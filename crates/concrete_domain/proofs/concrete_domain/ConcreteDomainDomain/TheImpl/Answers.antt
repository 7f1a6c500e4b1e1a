-- Each operation gives what the trait says, and the domain stays.
use Rattle.std.proofs.Common.{◌≡◌, List, Some, sym, ◌∙◌, ◌&&◌, ◌||◌, not, ap}
use Rattle.std.specs.Prelude.{slice_get}
use Rattle.bits_core.specs.declared.number.Bits.{Bits}
use Rattle.bits_core.specs.Number.{slice_value, extend_value}
use Rattle.bits_core.specs.Operator.{operator_value, test_value}
use Rattle.value_domain.proofs.ExtendsLaws.{extends_same}
use Rattle.value_domain.proofs.Told.{from_ok}
use Rattle.concrete_domain.specs.Meaning.{meaning_of}
use Rattle.concrete_domain.proofs.ToldLemmas.{at_one, at_two, some_injective, chosen_width, chosen_value}
use Rattle.concrete_domain.proofs.concrete_domain.ConcreteDomainDomain.TheImpl.Goals as goal

pub binary-tells : goal.binary-tells
binary-tells g c = record {
  has = from_ok c.result _ _ (λ v h. tt) c.ensures.width;
  width = from_ok c.result _ _ (λ v h. h) c.ensures.width;
  value = from_ok c.result _ _ (λ v h p x y spoken a b. at_two (λ m n. operator_value c.args.op c.args.a.now.width m c.args.b.now.width n) v.value _ _ _ _ h a b) c.ensures.value;
  extends = extends_same meaning_of _ _ c.ensures.stays;
}

pub unary-tells : goal.unary-tells
unary-tells g c = record {
  has = from_ok c.result _ _ (λ v h. tt) c.ensures.width;
  width = from_ok c.result _ _ (λ v h. h) c.ensures.width;
  value = from_ok c.result _ _ (λ v h p x spoken a. at_one (λ n. operator_value c.args.op c.args.a.now.width n 0 0) v.value _ _ h a) c.ensures.value;
  extends = extends_same meaning_of _ _ c.ensures.stays;
}

pub constant-tells : goal.constant-tells
constant-tells g c = record {
  has = from_ok c.result _ _ (λ v h. tt) c.ensures.value;
  width = from_ok c.result _ _ (λ v h. ap (λ (n : Bits). n.width) h) c.ensures.value;
  value = from_ok c.result _ _ (λ v h p spoken. ap (λ (n : Bits). n.value) h) c.ensures.value;
  extends = extends_same meaning_of _ _ c.ensures.stays;
}

pub unspecified-tells : goal.unspecified-tells
unspecified-tells g c = record {
  has = from_ok c.result _ _ (λ v h. tt) c.ensures.value;
  width = from_ok c.result _ _ (λ v h. h) c.ensures.width;
  value = from_ok c.result _ _ (λ v h p b spoken at width.
      let reads : slice_get c.args.self.now c.args.read ≡ Some b = ap (λ (bs : List Bits). slice_get bs c.args.read) (sym spoken) ∙ at in
      let same : Some v ≡ Some b = sym h ∙ reads in
      ap (λ (n : Bits). n.value) (some_injective v b same)) c.ensures.value;
  extends = extends_same meaning_of _ _ c.ensures.stays;
}

pub slice-tells : goal.slice-tells
slice-tells g c = record {
  has = from_ok c.result _ _ (λ v h. tt) c.ensures.width;
  width = from_ok c.result _ _ (λ v h. h) c.ensures.width;
  value = from_ok c.result _ _ (λ v h p x spoken a. at_one (λ n. slice_value n c.args.high c.args.low) v.value _ _ h a) c.ensures.value;
  extends = extends_same meaning_of _ _ c.ensures.stays;
}

pub extend-tells : goal.extend-tells
extend-tells g c = record {
  has = from_ok c.result _ _ (λ v h. tt) c.ensures.width;
  width = from_ok c.result _ _ (λ v h. h) c.ensures.width;
  value = from_ok c.result _ _ (λ v h p x spoken a. at_one (λ n. extend_value c.args.signed c.args.a.now.width n c.args.width) v.value _ _ h a) c.ensures.value;
  extends = extends_same meaning_of _ _ c.ensures.stays;
}

pub choose-tells : goal.choose-tells
choose-tells g c = record {
  has = from_ok c.result _ _ (λ v h. tt) c.ensures.value;
  width = from_ok c.result _ _ (λ v h. chosen_width c.args.f.now c.args.a.now c.args.b.now v c.requires.fits h) c.ensures.value;
  value = from_ok c.result _ _ (λ v h p t x y spoken f a b. chosen_value c.args.f.now t c.args.a.now c.args.b.now v x y f a b h) c.ensures.value;
  extends = extends_same meaning_of _ _ c.ensures.stays;
}

pub compare-tells : goal.compare-tells
compare-tells g c = record {
  has = from_ok c.result _ _ (λ f h. tt) c.ensures.truth;
  truth = from_ok c.result _ _ (λ f h p x y spoken a b. at_two (λ m n. test_value c.args.op c.args.a.now.width m n) f _ _ _ _ h a b) c.ensures.truth;
  extends = extends_same meaning_of _ _ c.ensures.stays;
}

pub both-tells : goal.both-tells
both-tells g c = record {
  has = from_ok c.result _ _ (λ f h. tt) c.ensures.truth;
  truth = from_ok c.result _ _ (λ f h p s t spoken a b. at_two (λ m n. m && n) f _ _ _ _ h a b) c.ensures.truth;
  extends = extends_same meaning_of _ _ c.ensures.stays;
}

pub either-tells : goal.either-tells
either-tells g c = record {
  has = from_ok c.result _ _ (λ f h. tt) c.ensures.truth;
  truth = from_ok c.result _ _ (λ f h p s t spoken a b. at_two (λ m n. m || n) f _ _ _ _ h a b) c.ensures.truth;
  extends = extends_same meaning_of _ _ c.ensures.stays;
}

pub not-tells : goal.not-tells
not-tells g c = record {
  has = from_ok c.result _ _ (λ f h. tt) c.ensures.truth;
  truth = from_ok c.result _ _ (λ f h p t spoken a. at_one not f _ _ h a) c.ensures.truth;
  extends = extends_same meaning_of _ _ c.ensures.stays;
}

pub fixed-tells : goal.fixed-tells
fixed-tells g c = record {
  has = from_ok c.result _ _ (λ f h. tt) c.ensures.truth;
  truth = from_ok c.result _ _ (λ f h p spoken. h) c.ensures.truth;
  extends = extends_same meaning_of _ _ c.ensures.stays;
}
