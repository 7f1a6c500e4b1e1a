-- The port that the ingress of a built program leaves has nine bits.
use Rattle.std.proofs.Common.{◌≡◌, ℕ, ◌<◌, List, [], ◌∷◌, length, Some, refl, sym, ap, ◌∙◌, subst, arith}
use Rattle.std.specs.Prelude.{slice_get, option_map, option_and_then, IsSomeAnd}
use Rattle.std.proofs.Math.Logic.{∥∥₁_elim}
use Rattle.std.specs.Coded.{le_prop}
use Rattle.std.proofs.lemmas.Option.{same_Some}
use Rattle.p4_program.specs.declared.typed.callables.Direction.{Direction}
use Rattle.p4_program.specs.declared.typed.callables.Parameter.{Parameter}
use Rattle.p4_program.specs.declared.typed.paths.Path.{Path}
use Rattle.p4_program.specs.declared.typed.paths.Step.TheVariants.{Field}
use Rattle.p4_program.specs.declared.typed.types.Scalar.{Scalar}
use Rattle.p4_program.specs.declared.typed.types.Scalar.TheVariants.{Sized}
use Rattle.p4_program.specs.declared.typed.types.StructType.{StructType}
use Rattle.p4_program.specs.declared.typed.types.ValueType.{ValueType}
use Rattle.p4_program.specs.declared.typed.types.ValueType.TheVariants.{Simple}
use Rattle.p4_program.specs.declared.v1model.TheConstants.{DROP_PORT, PORT_END}
use Rattle.p4_program.specs.Built.{Built, IsEgressSpec, BuiltStatements}
use Rattle.p4_program.specs.Syntax.Callables.{CoreControl, OfControl}
use Rattle.p4_program.specs.Syntax.Expressions.{Constant}
use Rattle.p4_program.specs.Syntax.Programs.{CoreProgram}
use Rattle.p4_program.specs.Syntax.Statements.{CoreStatements, Assign, MarkToDrop, Numbered, NoStatements, Then}
use Rattle.p4_program.specs.WellFormed.Callables.{frame, control_scope, parameter_place}
use Rattle.p4_program.specs.WellFormed.Expressions.{ValueFits}
use Rattle.p4_program.specs.WellFormed.Paths.{Scope, Variable, Leads, type_along, variable_at}
use Rattle.p4_program.specs.WellFormed.Programs.{WellFormed, signature}
use Rattle.p4_program.specs.WellFormed.Statements.{AllFit}
use Rattle.p4_program.specs.WellFormed.Types.{TypesFit, bits, standard_fields, standard_metadata}
use Rattle.p4_meaning.specs.Runs.BuiltRuns.{egress_after, port_of}
use Rattle.p4_meaning.specs.Runs.Statements.{drawn_for}
use Rattle.p4_meaning.proofs.BuiltBlocks.{some_and, ingress_of, is_control, statements_are}

-- a path to `egress_spec` leads to nine bits
abbrev SetsNineBits : Scope → Type 0
SetsNineBits s = (path : Path) → IsEgressSpec path → Leads s path → bits 9 ≡ path.value_type

fits_nine : (scalar : Scalar) (value : ℕ) (t : ValueType) → bits 9 ≡ t → t ≡ Simple scalar → ValueFits scalar value → value < PORT_END
fits_nine scalar value t nine is fits =
    let same : Sized 9 ≡ scalar = ap drawn_for (nine ∙ is) in
    subst (λ s. ValueFits s value) (sym same) fits

stays_below : (s : Scope) → SetsNineBits s → (statements : CoreStatements) → BuiltStatements statements → AllFit s statements → (old : ℕ)
    → old < PORT_END → egress_after old statements < PORT_END
stays_below s nine NoStatements built fit old low = low
stays_below s nine (Then (Numbered number place (Assign path (Constant scalar value))) rest) built fit old low =
    let h = fit.0 in
    stays_below s nine rest built.1 fit.1 value
    (fits_nine scalar value path.value_type (nine path built.0.target h.assignable.readable.leads) h.value_has.type_is h.value_has.value_fits)
stays_below s nine (Then (Numbered number place (Assign path e)) rest) built fit old low = absurd built.0.constant
stays_below s nine (Then (Numbered number place (MarkToDrop path)) rest) built fit old low =
    stays_below s nine rest built.1 fit.1 DROP_PORT (omega arith)
stays_below s nine (Then statement rest) built fit old low = absurd built.0

-- ---- the standard metadata in the frame of ingress

record ThirdIs (places : List Variable) (t : ValueType) : Type 0 where
  variable : Variable
  is : slice_get places 2 ≡ Some variable
  type_is : variable.value_type ≡ t

third_of : (ps : List Parameter) (ts : List ValueType) (a b : Direction × ValueType) (d : Direction) (t : ValueType)
    → signature ps ≡ a ∷ b ∷ (d, t) ∷ [] → ThirdIs (frame ps ts) t
third_of [] ts a b d t e = absurd (omega (arith, ap length e))
third_of (x ∷ []) ts a b d t e = absurd (omega (arith, ap length e))
third_of (x ∷ y ∷ []) ts a b d t e = absurd (omega (arith, ap length e))
third_of (x ∷ y ∷ z ∷ ps) ts a b d t e =
    let same : (z.direction, z.value_type) ≡ (d, t) = same_Some (z.direction, z.value_type) (d, t) (ap (λ l. slice_get l 2) e) in
    record { variable = parameter_place z; is = refl; type_is = ap (λ (pair : Direction × ValueType). pair.1) same }

module _ (p : CoreProgram) (types : TypesFit p) (s : Scope) (program : s.program ≡ p) (third : ThirdIs s.block standard_metadata) where
  field_is : type_along p (Field 1 ∷ []) standard_metadata ≡ Some (bits 9)
  field_is =
      let found = some_and (slice_get p.structs 0) (λ (t : StructType). t.fields ≡ standard_fields p.errors) types.standard in
      ap (option_and_then (λ u. Some u)) (
      ap (option_and_then (λ (t : StructType). slice_get t.fields 1)) found.1 ∙ ap (λ fields. slice_get fields 1) found.2)

  sets_nine : SetsNineBits s
  sets_nine path target leads =
      let of_root = subst (λ root. IsSomeAnd (variable_at s root) (λ v. type_along s.program path.steps v.value_type ≡ Some path.value_type)) target.root leads in
      let of_steps = subst (λ steps. IsSomeAnd (slice_get s.block 2) (λ v. type_along s.program steps v.value_type ≡ Some path.value_type)) target.field of_root in
      let of_third = subst (λ o. IsSomeAnd o (λ v. type_along s.program (Field 1 ∷ []) v.value_type ≡ Some path.value_type)) third.is of_steps in
      let of_type = subst (λ t. type_along s.program (Field 1 ∷ []) t ≡ Some path.value_type) third.type_is of_third in
      same_Some (bits 9) path.value_type (sym field_is ∙ subst (λ q. type_along q (Field 1 ∷ []) standard_metadata ≡ Some path.value_type) program of_type)

port_is_below : (p : CoreProgram) → WellFormed p → Built p → port_of p < PORT_END
port_is_below p well built =
    let f = ingress_of p built in
    let stands = well.callables_stand f.instance.control (OfControl f.control) (is_control (slice_get p.callables f.instance.control) f.control f.control_is) in
    let has = same_Some (signature f.control.parameters) _ (sym (ap (option_map (λ (c : CoreControl). signature c.parameters)) f.here) ∙ well.blocks_fit.ingress) in
    let s = control_scope p f.instance.control f.control in
    let third = third_of f.control.parameters f.control.variables _ _ _ standard_metadata has in
    subst (λ statements. egress_after 0 statements < PORT_END) (sym (statements_are p built))
    (stays_below s (sets_nine p well.types_fit s refl third) f.control.body f.holds.statements stands.body_fits 0 (omega arith))

pub port_below : (p : CoreProgram) → ∥ WellFormed p ∥₁ → Built p → port_of p < PORT_END
port_below p well built = ∥∥₁_elim well le_prop (λ w. port_is_below p w built)
