-- The negation: 0 less the word, as a row of full adders has it.
use Rattle.std.proofs.Common.{true, false, ℕ, List, length, replicate, ◌≡◌, sym, ap, ◌∙◌, subst}
use Rattle.std.specs.Prelude.{map, not}
use Rattle.std.proofs.lemmas.List.{length-replicate}
use Rattle.bits_core.specs.Circuit.{ripple_sum}
use Rattle.bits_core.specs.declared.operator.Op.TheVariants.{Neg}
use Rattle.bits_core.proofs.AdderLaws.{negate_by_ripple}
use Rattle.bit_blaster.specs.declared.wire.Wire.{Wire}
use Rattle.bit_blaster.specs.declared.wire.Wire.TheVariants.{Known}
use Rattle.bit_blaster.specs.Wire.{opposite}
use Rattle.bit_blaster.specs.Netlist.{Netlist, CarriesBits}
use Rattle.bit_blaster.specs.Word.{GivesSum, Computes}
use Rattle.bit_blaster.proofs.GateLemmas.{known_stands}
use Rattle.bit_blaster.proofs.OperatorLemmas.{carries_turned, computes_by_bits}
use Rattle.bit_blaster.proofs.ShifterLemmas.{carries_replicate}
use Rattle.bit_blaster.proofs.WordLemmas.{carries_length}

pub computes_negation : (old new : Netlist) (a b zeros other r : List Wire) → zeros ≡ replicate (length a) (Known false) →
    other ≡ map opposite a → GivesSum (length zeros) old new zeros other (Known true) r → Computes Neg old new a b r
computes_negation old new a b zeros other r none turned g =
    computes_by_bits Neg (λ xs ys. ripple_sum (replicate (length xs) false) (map not xs) true) old new a b r
    (ap length none ∙ length-replicate (length a) (Known false)) (λ xs ys p q. negate_by_ripple xs)
    (record {
      has = g.has;
      long = g.long;
      value = λ inputs xs ys ca cb.
          g.value inputs (replicate (length xs) false) (map not xs) true
          (subst (λ (word : List Wire). CarriesBits old inputs word (replicate (length xs) false)) (sym none)
          (subst (λ (n : ℕ). CarriesBits old inputs (replicate n (Known false)) (replicate (length xs) false))
          (sym (carries_length old inputs a xs ca))
          (carries_replicate old inputs (length xs) (Known false) false (known_stands old inputs false ca.long))))
          (subst (λ (word : List Wire). CarriesBits old inputs word (map not xs)) (sym turned) (carries_turned old inputs a xs ca))
          (known_stands old inputs true ca.long);
    })
