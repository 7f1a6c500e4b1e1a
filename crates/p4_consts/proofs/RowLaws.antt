-- The rows of a tree and the lists of their items are judged to the same.
use Rattle.std.specs.Prelude.{◌≡◌, ℕ, ◌+◌, ◌<◌, List, [], ◌∷◌, ◌++◌, map, length}
use Rattle.std.specs.List.{fold}
use Rattle.std.proofs.Common.{refl, ap, sym, ◌∙◌, get_or, take}
use Rattle.std.proofs.lemmas.List.{take_more, map-append}
use Rattle.std.proofs.lemmas.List.Sums.{fold-append}
use Rattle.tg_base.specs.declared.place.Span.{Span}
use Rattle.p4_tree.specs.declared.expressions.Expression.{Expression}
use Rattle.p4_tree.specs.declared.expressions.Operation.{Operation}
use Rattle.p4_tree.specs.declared.expressions.PostfixPart.{PostfixPart}
use Rattle.p4_tree.specs.declared.expressions.ExpressionKind.{ExpressionKind, Row_of-Expression, end_of-Expression, more_of-Expression, items-the_row-Expression, items_hidden-the_row-Expression-1, Row_of-Operation, end_of-Operation, more_of-Operation, items-the_row-Operation, items_hidden-the_row-Operation-5, Row_of-PostfixPart, end_of-PostfixPart, more_of-PostfixPart, items-the_row-PostfixPart, items_hidden-the_row-PostfixPart-4}
use Rattle.p4_tree.specs.declared.expressions.ExpressionKind.TheVariants as kind
use Rattle.p4_tree.specs.declared.expressions.SimpleKey.{SimpleKey}
use Rattle.p4_tree.specs.declared.expressions.TypeForm.{TypeForm}
use Rattle.p4_tree.specs.declared.expressions.UnaryOperator.{UnaryOperator}
use Rattle.p4_rules.specs.Faults.{Checked, and_then, both, made_of, with_both, with_three}
use Rattle.p4_rules.specs.Casts.{cast, typing_fault}
use Rattle.p4_rules.specs.Operators.{unary_of, choice}
use Rattle.p4_rules.specs.Scopes.{Scope}
use Rattle.p4_rules.specs.Things.{Judged, Braced, value_at}
use Rattle.p4_rules.specs.Expressions.{Run, judged, judged_at, all_judged, after_operations, after_parts, key_parts, written_type}
use Rattle.p4_consts.specs.Rows.{each_judged, judged_here, valued_here, operations_behind, parts_behind, told_by_rules}
use Rattle.p4_consts.specs.Runs.{run_from}

pub row_judged : (Γ : Scope) {n : _} (row : Row_of-Expression n) → all_judged Γ row ≡ each_judged Γ (items-the_row-Expression n row)
row_judged Γ end_of-Expression = refl
row_judged Γ (more_of-Expression k s rest) = ap (both (λ j js. j ∷ js) (judged Γ k s)) (row_judged Γ rest)

pub row_operations : (Γ : Scope) (place : Span) {n : _} (row : Row_of-Operation n) (run : Checked Run) →
    after_operations Γ place run row ≡ operations_behind Γ place run (items-the_row-Operation n row)
row_operations Γ place end_of-Operation run = refl
row_operations Γ place (more_of-Operation o k s at rest) run = row_operations Γ place rest _

pub row_parts : (Γ : Scope) (place : Span) {n : _} (row : Row_of-PostfixPart n) (head : Checked Judged) →
    after_parts Γ place head row ≡ parts_behind Γ place head (items-the_row-PostfixPart n row)
row_parts Γ place end_of-PostfixPart head = refl
row_parts Γ place (more_of-PostfixPart k s rest) head = row_parts Γ place rest _

-- ---- expressions that hold others, by the rows that hold them

pub parenthesized_is : (Γ : Scope) (e : Expression) (place : Span) → judged Γ (kind.Parenthesized e) place ≡ judged_here Γ e
unfolding Rattle.p4_tree.specs.declared.expressions.BaseType.TheBlock.hidden-the_row-Expression-2 denote.Hole.Carrier.hidden
parenthesized_is Γ e place = refl

pub key_is : (Γ : Scope) (key : SimpleKey) (place : Span) →
    judged Γ (kind.ParenthesizedKey key) place ≡ and_then (key_parts Γ key.kind key.span) (λ js. typing_fault place)
unfolding Rattle.p4_tree.specs.declared.expressions.BaseType.TheBlock.hidden-the_row-SimpleKey-3 denote.Hole.Carrier.hidden
key_is Γ key place = refl

pub unary_is : (Γ : Scope) (o : UnaryOperator) (e : Expression) (place : Span) →
    judged Γ (kind.Unary o e) place ≡ made_of (value_at place) (and_then (valued_here Γ e) (unary_of Γ o))
unfolding Rattle.p4_tree.specs.declared.expressions.BaseType.TheBlock.hidden-the_row-Expression-2 denote.Hole.Carrier.hidden
unary_is Γ o e place = refl

pub cast_is : (Γ : Scope) (t : TypeForm) (e : Expression) (place : Span) →
    judged Γ (kind.Cast t e) place
    ≡ made_of (value_at place) (with_both (λ u x. cast Γ u x.place x.operand) (written_type Γ place t) (valued_here Γ e))
unfolding Rattle.p4_tree.specs.declared.expressions.BaseType.TheBlock.hidden-the_row-TypeForm-0 Rattle.p4_tree.specs.declared.expressions.BaseType.TheBlock.hidden-the_row-Expression-2 denote.Hole.Carrier.hidden
cast_is Γ t e place = refl

pub choice_is : (Γ : Scope) (c a b : Expression) (place : Span) →
    judged Γ (kind.Choice c a b) place
    ≡ made_of (value_at place) (with_three (λ x y z. choice Γ x (record { left = y; right = z; place = place }))
    (valued_here Γ c) (valued_here Γ a) (valued_here Γ b))
unfolding Rattle.p4_tree.specs.declared.expressions.BaseType.TheBlock.hidden-the_row-Expression-2 denote.Hole.Carrier.hidden
choice_is Γ c a b place = refl

abbrev list_row : ExpressionKind → (n : _) × Row_of-Expression n
list_row (kind.List' s row) = (_, row)
list_row _ = (_, end_of-Expression)

pub list_is : (Γ : Scope) (es : List Expression) (place : Span) →
    judged Γ (kind.List es) place ≡ made_of (λ js. judged_at place (Braced (map told_by_rules js))) (each_judged Γ es)
list_is Γ es place =
    let row = list_row (kind.List es) in
    ap (made_of (λ js. judged_at place (Braced (map told_by_rules js))))
    (row_judged Γ row.1 ∙ ap (each_judged Γ) (items_hidden-the_row-Expression-1 es))

abbrev operation_row : ExpressionKind → (n : _) × Row_of-Operation n
operation_row (kind.Operations' one first s row) = (_, row)
operation_row _ = (_, end_of-Operation)

pub operations_is : (Γ : Scope) (e : Expression) (os : List Operation) (place : Span) →
    judged Γ (kind.Operations e os) place
    ≡ made_of (λ run. value_at place run.left.operand) (operations_behind Γ place (made_of run_from (valued_here Γ e)) os)
unfolding Rattle.p4_tree.specs.declared.expressions.BaseType.TheBlock.hidden-the_row-Expression-2 denote.Hole.Carrier.hidden
operations_is Γ e os place =
    let row = operation_row (kind.Operations e os) in
    let begun = made_of run_from (valued_here Γ e) in
    ap (made_of (λ run. value_at place run.left.operand))
    (row_operations Γ place row.1 begun ∙ ap (operations_behind Γ place begun) (items_hidden-the_row-Operation-5 os))

abbrev part_row : ExpressionKind → (n : _) × Row_of-PostfixPart n
part_row (kind.Postfix' one first s row) = (_, row)
part_row _ = (_, end_of-PostfixPart)

pub postfix_is : (Γ : Scope) (e : Expression) (ps : List PostfixPart) (place : Span) →
    judged Γ (kind.Postfix e ps) place ≡ parts_behind Γ place (judged_here Γ e) ps
unfolding Rattle.p4_tree.specs.declared.expressions.BaseType.TheBlock.hidden-the_row-Expression-2 denote.Hole.Carrier.hidden
postfix_is Γ e ps place =
    let row = part_row (kind.Postfix e ps) in
    row_parts Γ place row.1 (judged_here Γ e)
    ∙ ap (parts_behind Γ place (judged_here Γ e)) (items_hidden-the_row-PostfixPart-4 ps)

-- ---- a row with one more of its items

pub mapped_next : {A B : Type 0} (f : A → B) (xs : List A) (n : ℕ) (x : A) → x ≡ get_or xs n x → n < length xs →
    map f (take (n + 1) xs) ≡ map f (take n xs) ++ f x ∷ []
mapped_next f xs n x is within =
    ap (map f) (take_more xs n x within) ∙ map-append f (take n xs) (get_or xs n x ∷ [])
    ∙ ap (λ y. map f (take n xs) ++ f y ∷ []) (sym is)

pub folded_next : {A B : Type 0} (f : B → A → B) (b : B) (xs : List A) (n : ℕ) (x : A) → x ≡ get_or xs n x → n < length xs →
    fold f b (take (n + 1) xs) ≡ f (fold f b (take n xs)) x
folded_next f b xs n x is within =
    ap (fold f b) (take_more xs n x within) ∙ fold-append f b (take n xs) (get_or xs n x ∷ [])
    ∙ ap (f (fold f b (take n xs))) (sym is)
