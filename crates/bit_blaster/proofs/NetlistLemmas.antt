-- A circuit that grows keeps what its wires carry.
use Rattle.std.proofs.Common.{◌≡◌, ℕ, suc, ◌+◌, ◌-◌, ◌≤◌, Bool, true, false, List, [], ◌∷◌, ◌++◌, length, get_or, refl, sym, ap, ◌∙◌, subst, arith}
use Rattle.std.specs.Prelude.{not, if◌then◌else◌}
use Rattle.std.specs.List.{AllZip}
use Rattle.std.proofs.lemmas.List.{length-append, get_or_append_left, get_or-append_right}
use Rattle.std.proofs.lemmas.List.Elements.{All-weaker}
use Rattle.cnf_core.specs.declared.formula.Lit.{Lit}
use Rattle.bit_blaster.specs.declared.gate.Gate.{Gate}
use Rattle.bit_blaster.specs.declared.wire.Wire.{Wire}
use Rattle.bit_blaster.specs.declared.wire.Wire.TheVariants.{Known, Literal}
use Rattle.bit_blaster.specs.Gate.{literal_value, gate_value, all_values, IsLiteralOf, GateFits, AreGates}
use Rattle.bit_blaster.specs.Wire.{wire_value, IsWireOf}
use Rattle.bit_blaster.specs.Netlist.{Netlist, variable_count, HasWire, StandsFor, HasWord, CarriesBits, Carries, Extends}

pub all_values_more : (values : List Bool) (gates : List Gate) (gate : Gate) →
    all_values values (gates ++ gate ∷ []) ≡ all_values values gates ++ gate_value (all_values values gates) gate ∷ []
all_values_more values [] gate = refl
all_values_more values (g ∷ gates) gate = all_values_more (values ++ gate_value values g ∷ []) gates gate

pub length_all_values : (values : List Bool) (gates : List Gate) → length (all_values values gates) ≡ length values + length gates
length_all_values values [] = omega arith
length_all_values values (g ∷ gates) =
    omega (arith, length_all_values (values ++ gate_value values g ∷ []) gates, length-append values (gate_value values g ∷ []))

pub are_gates_more : (n : ℕ) (gates : List Gate) (gate : Gate) → AreGates n gates → GateFits (n + length gates) gate → AreGates n (gates ++ gate ∷ [])
are_gates_more n [] gate are fits = (subst (λ (m : ℕ). GateFits m gate) (omega arith) fits, tt)
are_gates_more n (g ∷ gates) gate are fits =
    (are.0, are_gates_more (suc n) gates gate are.1 (subst (λ (m : ℕ). GateFits m gate) (omega arith) fits))

pub literal_value_kept : (values more : List Bool) (l : Lit) → IsLiteralOf (length values) l →
    literal_value (values ++ more) l ≡ literal_value values l
literal_value_kept values more l within =
    ap (λ (b : Bool). if l.positive then b else not b) (get_or_append_left values more false (l.var - 1) (omega (arith, within.0, within.1)))

pub wire_value_kept : (values more : List Bool) (w : Wire) → IsWireOf (length values) w → wire_value (values ++ more) w ≡ wire_value values w
wire_value_kept values more (Known truth) within = refl
wire_value_kept values more (Literal l) within = literal_value_kept values more l within

pub wire_of_more : (m n : ℕ) (w : Wire) → m ≤ n → IsWireOf m w → IsWireOf n w
wire_of_more m n (Known truth) more within = tt
wire_of_more m n (Literal l) more within = (within.0, omega (arith, within.1))

abbrev pub with_gate : Netlist → Gate → Netlist
with_gate net gate = record { inputs = net.inputs; gates = net.gates ++ gate ∷ [] }

module _ (net : Netlist) (gate : Gate) where
  count_more : variable_count (with_gate net gate) ≡ variable_count net + 1
  count_more = omega (arith, length-append net.gates (gate ∷ []))

  has_more : (w : Wire) → HasWire net w → HasWire (with_gate net gate) w
  has_more w has = wire_of_more (variable_count net) (variable_count (with_gate net gate)) w (omega (arith, count_more)) has

  values_long : (inputs : List Bool) → length inputs ≡ net.inputs → length (all_values inputs net.gates) ≡ variable_count net
  values_long inputs long = length_all_values inputs net.gates ∙ ap (λ (n : ℕ). n + length net.gates) long

  stands_more : (inputs : List Bool) (w : Wire) (truth : Bool) → StandsFor net inputs w truth → StandsFor (with_gate net gate) inputs w truth
  stands_more inputs w truth s = record {
    has = has_more w s.has;
    long = s.long;
    is =
        ap (λ (values : List Bool). wire_value values w) (all_values_more inputs net.gates gate)
        ∙ wire_value_kept (all_values inputs net.gates) (gate_value (all_values inputs net.gates) gate ∷ []) w
        (subst (λ (n : ℕ). IsWireOf n w) (sym (values_long inputs s.long)) s.has)
        ∙ s.is;
  }

  pub extends_gate : Extends net (with_gate net gate)
  extends_gate = record { inputs = refl; wires = has_more; truths = stands_more }

  abbrev pub gate_literal : Lit
  gate_literal = record { var = variable_count net + 1; positive = true }

  pub has_gate : HasWire (with_gate net gate) (Literal gate_literal)
  has_gate = (omega arith, omega (arith, count_more))

  pub gate_stands : (inputs : List Bool) → length inputs ≡ net.inputs →
      StandsFor (with_gate net gate) inputs (Literal gate_literal) (gate_value (all_values inputs net.gates) gate)
  gate_stands inputs long = record {
    has = has_gate;
    long = long;
    is =
        ap (λ (values : List Bool). get_or values (variable_count net + 1 - 1) false) (all_values_more inputs net.gates gate)
        ∙ get_or-append_right (all_values inputs net.gates) (gate_value (all_values inputs net.gates) gate ∷ []) (variable_count net)
        (variable_count net + 1 - 1) false (values_long inputs long) (omega arith)
        ∙ ap (λ (i : ℕ). get_or (gate_value (all_values inputs net.gates) gate ∷ []) i false) at_first;
  } where
    at_first : variable_count net + 1 - 1 - variable_count net ≡ 0
    at_first = omega arith

pub extends_by : (old : Netlist) (inputs : ℕ) (before after : List Gate) (gate : Gate) → record { inputs = inputs; gates = before } ≡ old →
    after ≡ before ++ gate ∷ [] → Extends old (record { inputs = inputs; gates = after })
extends_by old inputs before after gate was is =
    subst (λ (net : Netlist). Extends net (record { inputs = inputs; gates = after })) was
    (subst
    (λ (gates : List Gate). Extends (record { inputs = inputs; gates = before }) (record { inputs = inputs; gates = gates })) (sym is)
    (extends_gate (record { inputs = inputs; gates = before }) gate))

-- ---- steps in a row

pub extends_itself : (net : Netlist) → Extends net net
extends_itself net = record { inputs = refl; wires = λ w has. has; truths = λ inputs w truth s. s }

pub extends_along : (old middle new : Netlist) → Extends old middle → Extends middle new → Extends old new
extends_along old middle new first second = record {
  inputs = second.inputs ∙ first.inputs;
  wires = λ w has. second.wires w (first.wires w has);
  truths = λ inputs w truth s. second.truths inputs w truth (first.truths inputs w truth s);
}

pub has_word_along : (old new : Netlist) (word : List Wire) → Extends old new → HasWord old word → HasWord new word
has_word_along old new word extends has =
    record { each = All-weaker (HasWire old) (HasWire new) extends.wires word has.each }

zip_weaker : (Q R : Wire → Bool → Type 0) → ((w : Wire) (b : Bool) → Q w b → R w b) → (word : List Wire) (bits : List Bool) →
    AllZip Q word bits → AllZip R word bits
zip_weaker Q R step [] [] h = tt
zip_weaker Q R step [] (b ∷ bits) h = absurd h
zip_weaker Q R step (w ∷ word) [] h = absurd h
zip_weaker Q R step (w ∷ word) (b ∷ bits) h = (step w b h.0, zip_weaker Q R step word bits h.1)

pub carries_bits_along : (old new : Netlist) (inputs : List Bool) (word : List Wire) (bits : List Bool) → Extends old new →
    CarriesBits old inputs word bits → CarriesBits new inputs word bits
carries_bits_along old new inputs word bits extends c = record {
  long = c.long ∙ sym extends.inputs;
  each = zip_weaker (StandsFor old inputs) (StandsFor new inputs) (extends.truths inputs) word bits c.each;
}

pub carries_along : (old new : Netlist) (inputs : List Bool) (word : List Wire) (x : ℕ) → Extends old new →
    Carries old inputs word x → Carries new inputs word x
carries_along old new inputs word x extends c =
    record { bits = c.bits; carries = carries_bits_along old new inputs word c.bits extends c.carries; is = c.is }

-- a wire carries its value
pub stands_at : (net : Netlist) (inputs : List Bool) (w : Wire) → HasWire net w → length inputs ≡ net.inputs →
    StandsFor net inputs w (wire_value (all_values inputs net.gates) w)
stands_at net inputs w has long = record { has = has; long = long; is = refl }
