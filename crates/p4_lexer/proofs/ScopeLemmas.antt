-- The code's record of what is in force, one change at a time.
use Rattle.std.proofs.Common.{◌≡◌, ℕ, Bool, true, false, not, ◌&&◌, List, [], ◌∷◌, ◌++◌, map, reverse, is_some, cond, inl, inr, refl, sym, ap, ◌∙◌, subst}
use Rattle.std.specs.List.{list_all}
use Rattle.std.proofs.lemmas.List.{reverse-append}
use Rattle.std.proofs.lemmas.List.Folds.{list_all-map}
use Rattle.std.specs.Str.{bytes_eq}
use Rattle.std.specs.HashSet.{contains_by}
use Rattle.std.proofs.lemmas.Bool.{cases_Bool}
use Rattle.std.proofs.lemmas.Slice.Eq.{bytes_eq-Decides}
use Rattle.tg_base.specs.declared.place.Span.{Span}
use Rattle.p4_lexer.specs.declared.scope.ConditionAt.{ConditionAt}
use Rattle.p4_lexer.specs.declared.scope.ScopeAt.{ScopeAt}
use Rattle.p4_lexer.specs.Directives.{Else, EndIf}
use Rattle.p4_lexer.specs.Cuts.{Cut}
use Rattle.p4_lexer.specs.Scope.{Scope, Macro, macro_of, without, is_defined, with_condition, turned_over, turn_innermost, end_innermost, has_turned, belongs}
use Rattle.p4_lexer.specs.ScopeState.{condition_at, KnowOutside, StandsFor, turned_scope, ended_scope}

abbrev all_chosen : List ConditionAt → Bool
all_chosen cs = list_all (λ c. c.chosen) cs

chosen_map : (cs : List ConditionAt) → list_all (λ c. c.chosen) (map condition_at cs) ≡ all_chosen cs
chosen_map cs = list_all-map (λ c. c.chosen) condition_at cs

pushed : (outer items : List ConditionAt) (c : ConditionAt) → items ≡ outer ++ c ∷ [] → reverse items ≡ c ∷ reverse outer
pushed outer items c e = ap reverse e ∙ reverse-append outer (c ∷ [])

taken_is : (s : ScopeAt) (scope : Scope) → StandsFor s scope → s.taken ≡ all_chosen (reverse s.conditions)
taken_is s scope st = st.taken ∙ ap (list_all (λ c. c.chosen)) st.conditions ∙ chosen_map (reverse s.conditions)

-- one more condition
pub opened : (s n : ScopeAt) (place : Span) (chosen : Bool) (scope : Scope)
    → n.conditions ≡ s.conditions ++ record { place = place; chosen = chosen; turned = false; outside = s.taken } ∷ []
    → n.taken ≡ (chosen && s.taken) → n.names ≡ s.names → StandsFor s scope → StandsFor n (with_condition scope place chosen)
opened s n place chosen scope e f g st =
    let c : ConditionAt = record { place = place; chosen = chosen; turned = false; outside = s.taken } in
    let stack : reverse n.conditions ≡ c ∷ reverse s.conditions = pushed s.conditions n.conditions c e in
    record {
      conditions = ap (λ cs. condition_at c ∷ cs) st.conditions ∙ sym (ap (map condition_at) stack);
      outside = subst KnowOutside (sym stack) (taken_is s scope st, st.outside);
      taken = f ∙ ap (λ b. chosen && b) st.taken;
      names = λ name. rw g (st.names name);
    }

popped : (s : ScopeAt) (outer : List ConditionAt) (c : ConditionAt) (scope : Scope) → s.conditions ≡ outer ++ c ∷ [] → StandsFor s scope → scope.conditions ≡ condition_at c ∷ map condition_at (reverse outer)
popped s outer c scope e st = st.conditions ∙ ap (map condition_at) (pushed outer s.conditions c e)

popped_outside : (s : ScopeAt) (outer : List ConditionAt) (c : ConditionAt) (scope : Scope) → s.conditions ≡ outer ++ c ∷ [] → StandsFor s scope → KnowOutside (c ∷ reverse outer)
popped_outside s outer c scope e st = subst KnowOutside (pushed outer s.conditions c e) st.outside

-- the innermost ended
pub ended : (s n : ScopeAt) (c : ConditionAt) (scope : Scope) → s.conditions ≡ n.conditions ++ c ∷ [] → n.taken ≡ c.outside → n.names ≡ s.names → StandsFor s scope
    → (true ≡ belongs scope EndIf) × StandsFor n (ended_scope scope)
ended s n c scope e f g st =
    let stack = popped s n.conditions c scope e st in
    let known = popped_outside s n.conditions c scope e st in (
      sym (ap (λ cs. belongs (record { conditions = cs; macros = scope.macros }) EndIf) stack),
      record {
        conditions = ap end_innermost stack;
        outside = known.1;
        taken = f ∙ known.0 ∙ sym (chosen_map (reverse n.conditions)) ∙ sym (ap (λ cs. list_all (λ c. c.chosen) (end_innermost cs)) stack);
        names = λ name. rw g (st.names name);
      },
    )

-- the innermost turned over
pub turned : (s n : ScopeAt) (outer : List ConditionAt) (c t : ConditionAt) (scope : Scope) → s.conditions ≡ outer ++ c ∷ [] → n.conditions ≡ outer ++ t ∷ []
    → condition_at t ≡ turned_over (condition_at c) → t.outside ≡ c.outside → n.taken ≡ (t.chosen && t.outside) → n.names ≡ s.names → StandsFor s scope
    → (not c.turned ≡ belongs scope Else) × StandsFor n (turned_scope scope)
turned s n outer c t scope e f over out taken g st =
    let stack = popped s outer c scope e st in
    let known = popped_outside s outer c scope e st in
    let new : reverse n.conditions ≡ t ∷ reverse outer = pushed outer n.conditions t f in
    let conditions : turn_innermost scope.conditions ≡ map condition_at (reverse n.conditions) =
    ap turn_innermost stack ∙ ap (λ x. x ∷ map condition_at (reverse outer)) (sym over) ∙ sym (ap (map condition_at) new) in (
      sym (ap (λ cs. not (has_turned cs)) stack),
      record {
        conditions = conditions;
        outside = subst KnowOutside (sym new) (out ∙ known.0, known.1);
        taken = taken ∙ ap (λ b. t.chosen && b) (out ∙ known.0) ∙ sym (chosen_map (t ∷ reverse outer)) ∙ ap (λ cs. list_all (λ c. c.chosen) (map condition_at cs)) (sym new) ∙ sym (ap (list_all (λ c. c.chosen)) conditions);
        names = λ name. rw g (st.names name);
      },
    )

same_false : (x : Bool) → x ≡ true → x ≡ false → ⊥
same_false x e f = let h : true ≡ false = sym e ∙ f in cc

-- the macro of a name is gone, and the others stay
gone : (macros : List Macro) (name : List ℕ) → is_some (macro_of (without macros name) name) ≡ false
gone [] name = refl
gone (m ∷ macros) name = elim (cases_Bool (bytes_eq m.name name)) [
  | inl here ↦ rw here (gone macros name)
  | inr other ↦ rw (other, other) (gone macros name)
]

stays : (macros : List Macro) (name q : List ℕ) → bytes_eq name q ≡ false → is_some (macro_of (without macros name) q) ≡ is_some (macro_of macros q)
stays [] name q apart = refl
stays (m ∷ macros) name q apart = elim (cases_Bool (bytes_eq m.name name)) [
  | inl here ↦
      let off : bytes_eq m.name q ≡ false = ap (λ w. bytes_eq w q) ((bytes_eq-Decides m.name name).0 here) ∙ apart in
      rw (here, off) (stays macros name q apart)
  | inr other ↦ rw other (elim (cases_Bool (bytes_eq m.name q)) [
    | inl hit ↦ rw hit refl
    | inr miss ↦ rw miss (stays macros name q apart)
  ])
]

pub defined_so : (macros : List Macro) (name q : List ℕ) (words : List Cut) → cond (bytes_eq name q) true (is_some (macro_of macros q)) ≡ is_some (macro_of (record { name = name; words = words } ∷ without macros name) q)
defined_so macros name q words = elim (cases_Bool (bytes_eq name q)) [
  | inl same ↦ rw same refl
  | inr apart ↦ rw apart (sym (stays macros name q apart))
]

pub undefined_so : (macros : List Macro) (name q : List ℕ) → cond (bytes_eq name q) false (is_some (macro_of macros q)) ≡ is_some (macro_of (without macros name) q)
undefined_so macros name q = elim (cases_Bool (bytes_eq name q)) [
  | inl same ↦
      let equal : name ≡ q = (bytes_eq-Decides name q).0 same in
      rw same (sym (ap (λ w. is_some (macro_of (without macros name) w)) (sym equal) ∙ gone macros name))
  | inr apart ↦ rw apart (sym (stays macros name q apart))
]

pub with_names : (s n : ScopeAt) (scope next : Scope) → n.conditions ≡ s.conditions → n.taken ≡ s.taken → next.conditions ≡ scope.conditions
    → ((name : List ℕ) → contains_by (λ k. bytes_eq name k.now) n.names ≡ is_defined next name) → StandsFor s scope → StandsFor n next
with_names s n scope next e f g names st = record {
  conditions = g ∙ st.conditions ∙ ap (λ cs. map condition_at (reverse cs)) (sym e);
  outside = subst (λ cs. KnowOutside (reverse cs)) (sym e) st.outside;
  taken = f ∙ st.taken ∙ ap (λ cs. list_all (λ c. c.chosen) cs) (sym g);
  names = names;
}
