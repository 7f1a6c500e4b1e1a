use Rattle.std.proofs.Common.{◌≡◌, ℕ, List, Bool, map, ap, ◌∙◌, sym}
use Rattle.p4_program.specs.declared.typed.shapes.KeyShape.{KeyShape}
use Rattle.p4_program.specs.declared.typed.shapes.TableShape.{TableShape}
use Rattle.p4_program.specs.Shapes.{argument_widths, key_shape}
use Rattle.p4_program.specs.Trees.Callables.{key_of}
use Rattle.p4_program.specs.Trees.Programs.{core_of}
use Rattle.p4_program.proofs.Numbers.{twice_mapped}
use Rattle.p4_program.proofs.typed.shapes.shape_of.Goals as goal

abbrev shape_with : Bool → Bool → List KeyShape → List (List ℕ) → TableShape
shape_with ordered constant keys actions =
    record { ordered = ordered; constant = constant; keys = keys; actions = actions }

same_shape : {o p c d : Bool} {ks ls : List KeyShape} {ws vs : List (List ℕ)} → o ≡ p → c ≡ d → ks ≡ ls → ws ≡ vs → shape_with o c ks ws ≡ shape_with p d ls vs
same_shape {o} {p} {c} {d} {ks} {ls} {ws} {vs} ordered constant keys actions =
    ap (λ x. shape_with x c ks ws) ordered
    ∙ ap (λ x. shape_with p x ks ws) constant
    ∙ ap (λ x. shape_with p d x ws) keys
    ∙ ap (λ x. shape_with p d ls x) actions

pub returns : goal.returns
returns c =
    let keys = ap (map (λ k. key_shape (key_of k))) c.as_slice.ensures in
    let actions = ap (map (λ l. argument_widths (core_of c.args.program.now) l.action)) c.as_slice-2.ensures in
    same_shape c.is_ordered.ensures c.is_some.ensures
    (c.in_ok-key_shapes.ensures ∙ keys ∙ sym (twice_mapped key_shape key_of c.args.table.now.keys))
    (c.in_ok-widths_listed.ensures ∙ actions)
