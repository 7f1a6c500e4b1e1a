-- Arguments one after the other, as their parameters want them.
use Rattle.std.specs.Prelude.{◌≡◌, List, [], ◌∷◌, ◌++◌, map, reverse, Option, None, Some}
use Rattle.std.proofs.Common.{refl, ap, sym, ◌∙◌, append_assoc, append-nil}
use Rattle.std.proofs.lemmas.List.{reverse-append}
use Rattle.tg_base.specs.declared.place.Span.{Span}
use Rattle.p4_program.specs.Syntax.Statements.{CoreArgument}
use Rattle.p4_rules.specs.declared.faults.Fault.{Fault}
use Rattle.p4_rules.specs.Faults.{Checked, Right, Wrong, made_of, both}
use Rattle.p4_rules.specs.Callees.{arguments_for, directed, those_there}
use Rattle.p4_rules.specs.Scopes.{Scope}
use Rattle.p4_rules.specs.declared.scopes.ParameterShape.{ParameterShape}
use Rattle.p4_consts.specs.declared.things.Judged.{Judged}
use Rattle.p4_consts.specs.Noted.{noted, right_of}
use Rattle.p4_consts.specs.Passing.{with_argument}
use Rattle.p4_consts.specs.Things.{judged_of}
use Rattle.p4_consts.proofs.NotedLaws.{both_noted}

-- the arguments so far and those that are left
abbrev pub joined_to : {X : Type 0} → Option (List X) → Option (List (Option X)) → Option (List X)
joined_to None more = None
joined_to (Some done) None = None
joined_to (Some done) (Some more) = Some (done ++ those_there more)

pub joined_first : {X : Type 0} (q : Checked (List (Option X))) → right_of (made_of those_there q) ≡ joined_to (Some []) (right_of q)
joined_first (Right more) = refl
joined_first (Wrong fault more) = refl

pub joined_last : {X : Type 0} (done : Option (List X)) → joined_to done (Some []) ≡ done
joined_last None = refl
joined_last (Some done) = ap Some (append-nil done)

pub joined_wrong : {X : Type 0} (done : Option (List X)) → joined_to done None ≡ None
joined_wrong None = refl
joined_wrong (Some done) = refl

pub joined_step : {X : Type 0} (done : Option (List X)) (p : Checked (Option X)) (q : Checked (List (Option X))) →
    joined_to done (right_of (both (λ x xs. x ∷ xs) p q)) ≡ joined_to (with_argument done (right_of p)) (right_of q)
joined_step None p q = refl
joined_step (Some done) (Right None) (Right more) = refl
joined_step (Some done) (Right (Some x)) (Right more) = ap Some (sym (append_assoc done (x ∷ []) (those_there more)))
joined_step (Some done) (Right None) (Wrong fault more) = refl
joined_step (Some done) (Right (Some x)) (Wrong fault more) = refl
joined_step (Some done) (Wrong fault more) (Right others) = refl
joined_step (Some done) (Wrong fault more) (Wrong other others) = refl

-- a row from its end, with one more at its end
turned : {X Y : Type 0} (f : X → Y) (row : List X) (x : X) → map f (reverse (row ++ x ∷ [])) ≡ f x ∷ map f (reverse row)
turned f row x = ap (map f) (reverse-append row (x ∷ []))

-- one argument of those that are left, which stand from the last to the first
pub arguments_step : (Γ : Scope) (place : Span) (shape : ParameterShape) (more shapes : List ParameterShape) (judged : Judged) (others left : List Judged)
    (done : Option (List CoreArgument)) (next : Option (Option CoreArgument)) (first middle : Option Fault) →
    shapes ≡ shape ∷ more → left ≡ others ++ judged ∷ [] →
    next ≡ right_of (directed Γ shape.direction shape.type_of (judged_of judged)) →
    middle ≡ noted first (directed Γ shape.direction shape.type_of (judged_of judged)) →
    (joined_to done (right_of (arguments_for Γ place shapes (map judged_of (reverse left))))
    ≡ joined_to (with_argument done next) (right_of (arguments_for Γ place more (map judged_of (reverse others)))))
    × (noted first (arguments_for Γ place shapes (map judged_of (reverse left))) ≡ noted middle (arguments_for Γ place more (map judged_of (reverse others))))
arguments_step Γ place shape more shapes judged others left done next first middle p q v n =
    let one = directed Γ shape.direction shape.type_of (judged_of judged) in
    let rest = arguments_for Γ place more (map judged_of (reverse others)) in
    let whole : arguments_for Γ place shapes (map judged_of (reverse left)) ≡ both (λ x xs. x ∷ xs) one rest =
    ap (λ some. arguments_for Γ place some (map judged_of (reverse left))) p
    ∙ ap (arguments_for Γ place (shape ∷ more)) (ap (λ row. map judged_of (reverse row)) q ∙ turned judged_of others judged) in (
      ap (λ all. joined_to done (right_of all)) whole ∙ joined_step done one rest
          ∙ ap (λ value. joined_to (with_argument done value) (right_of rest)) (sym v),
      ap (noted first) whole ∙ both_noted (λ x xs. x ∷ xs) one rest first ∙ ap (λ fault. noted fault rest) (sym n),
    )
