-- The term mentions no input bit but those that were looked at, and each of these is fixed.
use Rattle.std.proofs.Common.{◌≡◌, ◌<◌, ℕ, Bool, List, Some, length, refl, sym, subst}
use Rattle.std.specs.Prelude.{All}
use Rattle.std.proofs.lemmas.List.Elements.{All-contains}
use Rattle.cnf_core.specs.declared.derivation.Var.{Var}
use Rattle.cnf_core.specs.declared.derivation.Var.TheVariants.{Input as InputBit}
use Rattle.bit_blaster.specs.Vars.{AreVarsOf}
use Rattle.query_engine.specs.Question.{FixesInputs}
use Rattle.term_dag.specs.declared.node.Node.{Node}
use Rattle.term_dag.specs.declared.node.Term.{Term}
use Rattle.query_tests.proofs.asking.fixes_inputs.Goals as goal

-- an input bit of the list is below the length
abbrev IsBelow : ℕ → Var → Type 0
IsBelow len v = (bit : ℕ) → v ≡ InputBit bit → bit < len

fixes : (nodes : List Node) (t : Term) (vars : List Var) (bits : List Bool) → AreVarsOf nodes t vars → All (IsBelow (length bits)) vars →
    FixesInputs nodes t (Some bits)
fixes nodes t vars bits are below = λ bit mentions. All-contains (IsBelow (length bits)) vars (InputBit bit) below ((are.mentioned (InputBit bit)).1 mentions) bit refl

pub returns : goal.returns
returns c is =
    let dag = c.args.dag.now in
    let t = c.args.question.now.term in
    let vars = subst (AreVarsOf dag t) (sym c.as_slice.ensures) c.in_ok-vars.ensures.vars in
    let below = subst (λ (n : ℕ). All (IsBelow n) c.as_slice.result.now) c.len.ensures (c.are_below.ensures is) in
    subst (FixesInputs dag t) (sym c.in-Some.is) (fixes dag t c.as_slice.result.now c.in-Some.at vars below)
