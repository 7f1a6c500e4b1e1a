-- What the parts of a tree are judged to makes what the whole is judged to.
use Rattle.std.specs.Prelude.{◌≡◌, List, Option, None, Some, Result, Ok, Err, IfOk, OnOk, option_map}
use Rattle.std.proofs.Common.{refl, ap, sym, subst, ◌∙◌}
use Rattle.tg_base.specs.declared.place.Span.{Span}
use Rattle.p4_tree.specs.declared.expressions.Expression.{Expression}
use Rattle.p4_tree.specs.declared.expressions.ExpressionKind.{Row_of-Expression, end_of-Expression, more_of-Expression, items_hidden-the_row-Expression-1}
use Rattle.p4_tree.specs.declared.names.Name.{Name}
use Rattle.p4_tree.specs.declared.expressions.BaseType.TheVariants as base
use Rattle.p4_tree.specs.declared.expressions.WidthKind.TheVariants as width
use Rattle.p4_tree.specs.declared.expressions.PostfixKind.{PostfixKind}
use Rattle.p4_tree.specs.declared.expressions.PostfixKind.TheVariants as postfix
use Rattle.p4_tree.specs.declared.expressions.TypeForm.{TypeForm, TypeForm', TypeForm-size-None', TypeForm-size-Some', out-TypeForm}
use Rattle.p4_rules.specs.declared.faults.Fault.{Fault}
use Rattle.p4_rules.specs.Faults.{Checked, and_then, with_both}
use Rattle.p4_rules.specs.Scopes.{Scope, folding}
use Rattle.p4_rules.specs.Things.{Judged}
use Rattle.p4_rules.specs.Callees.{call}
use Rattle.p4_rules.specs.Casts.{typing_fault}
use Rattle.p4_rules.specs.Integers.{widest}
use Rattle.p4_rules.specs.Expressions.{after_part, written_type, base_type, width_of, named_type, stack_of, sized_number, largest_stack}
use Rattle.p4_consts.specs.Noted.{noted, right_of}
use Rattle.p4_consts.specs.Rows.{each_judged, judged_here}
use Rattle.p4_consts.proofs.RowLaws.{row_judged}

-- what is given and noted, of a part that is judged to the same
pub value_as : {X Y E : Type 0} (f : Y → X) (r : Result (Option Y) E) (p q : Checked X) → p ≡ q →
    IfOk r (λ v. option_map f v ≡ right_of q) → IfOk r (λ v. option_map f v ≡ right_of p)
value_as f r p q e h = subst (λ s. IfOk r (λ v. option_map f v ≡ right_of s)) (sym e) h

pub faults_as : {X Y E : Type 0} (r : Result Y E) (now first : Option Fault) (p q : Checked X) → p ≡ q →
    OnOk r (now ≡ noted first q) → OnOk r (now ≡ noted first p)
faults_as r now first p q e h = subst (λ s. OnOk r (now ≡ noted first s)) (sym e) h

pub on_ok_always : {T E P : Type 0} (r : Result T E) → P → OnOk r P
on_ok_always (Ok x) h = h
on_ok_always (Err e) h = tt

abbrev call_row : PostfixKind → (n : _) × Row_of-Expression n
call_row (postfix.Call' s row) = (_, row)
call_row _ = (_, end_of-Expression)

pub call_is : (Γ : Scope) (place : Span) (head : Checked Judged) (es : List Expression) (s : Span) →
    after_part Γ place head (postfix.Call es) s ≡ with_both (λ j js. call Γ j.thing place js) head (each_judged Γ es)
call_is Γ place head es s =
    let row = call_row (postfix.Call es) in
    ap (with_both (λ j js. call Γ j.thing place js) head) (row_judged Γ row.1 ∙ ap (each_judged Γ) (items_hidden-the_row-Expression-1 es))

-- a form without a size, and one with it
pub plain_form : (Γ : Scope) (within : Span) (form : TypeForm) → (out-TypeForm form).size ≡ None →
    written_type Γ within form ≡ base_type Γ (out-TypeForm form).base (out-TypeForm form).span
unfolding out-TypeForm denote.Hole.Carrier.out Rattle.p4_tree.specs.declared.expressions.BaseType.TheBlock.shown-the_row-Expression-2 denote.Hole.Carrier.shown
plain_form Γ within (TypeForm' b TypeForm-size-None' place) e = refl
plain_form Γ within (TypeForm' b (TypeForm-size-Some' one (more_of-Expression k s end_of-Expression)) place) e = absurd (cc)

pub sized_form : (Γ : Scope) (within : Span) (form : TypeForm) (size : Expression) → (out-TypeForm form).size ≡ Some size →
    written_type Γ within form
    ≡ with_both (stack_of within) (base_type Γ (out-TypeForm form).base (out-TypeForm form).span)
    (and_then (judged_here (folding Γ) size) (sized_number (folding Γ) largest_stack))
unfolding out-TypeForm denote.Hole.Carrier.out Rattle.p4_tree.specs.declared.expressions.BaseType.TheBlock.shown-the_row-Expression-2 denote.Hole.Carrier.shown
sized_form Γ within (TypeForm' b TypeForm-size-None' place) size e = absurd (cc)
sized_form Γ within (TypeForm' b (TypeForm-size-Some' one (more_of-Expression k s end_of-Expression)) place) size e =
    let same : record { kind = k; span = s } ≡ size = cc in
    ap (λ x. with_both (stack_of within) (base_type Γ b place) (and_then (judged_here (folding Γ) x) (sized_number (folding Γ) largest_stack))) same

-- ---- forms that hold others

pub argument_is : (Γ : Scope) (name : Name) (form : TypeForm) (place : Span) →
    base_type Γ (base.Named name (Some form)) place
    ≡ with_both (λ u v. typing_fault name.span) (named_type Γ name) (written_type Γ name.span form)
unfolding Rattle.p4_tree.specs.declared.expressions.BaseType.TheBlock.hidden-the_row-TypeForm-0 denote.Hole.Carrier.hidden
argument_is Γ name form place = refl

pub width_is : (Γ : Scope) (e : Expression) (place : Span) →
    width_of Γ (width.Parenthesized e) place
    ≡ and_then (judged_here (folding Γ) e) (sized_number (folding Γ) widest)
unfolding Rattle.p4_tree.specs.declared.expressions.BaseType.TheBlock.hidden-the_row-Expression-2 denote.Hole.Carrier.hidden
width_is Γ e place = refl
