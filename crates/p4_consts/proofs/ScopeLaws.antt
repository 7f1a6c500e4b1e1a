-- Look-ups in scopes, from the innermost outwards.
use Rattle.std.specs.Prelude.{◌≡◌, ℕ, List, [], ◌∷◌, ◌++◌, map, reverse, Bool, true, false, if◌then◌else◌, is_some, Option, None, Some, Result, Ok, Err, OnOk, option_map}
use Rattle.std.proofs.Common.{refl, ap, sym, ◌∙◌}
use Rattle.std.proofs.lemmas.List.{reverse-append, map-append}
use Rattle.std.proofs.lemmas.Map.Made.{lookup-map_values}
use Rattle.std.specs.Map.{lookup}
use Rattle.std.specs.Str.{bytes_eq}
use Rattle.p4_rules.specs.declared.faults.Fault.{Fault}
use Rattle.p4_rules.specs.Faults.{Checked, told, of_told}
use Rattle.p4_rules.specs.Scopes as rules
use Rattle.p4_consts.specs.declared.meanings.Meaning.{Meaning}
use Rattle.p4_consts.specs.Meanings.{told_meaning}
use Rattle.p4_consts.specs.Scopes.{told_names}

-- what a name stands for in a scope
pub told_lookup : (names : List (List ℕ × Result Meaning Fault)) (name : List ℕ) →
    rules.found_in (told_names names) name ≡ option_map told_meaning (lookup (λ other. bytes_eq other name) names)
told_lookup names name = lookup-map_values told_meaning (λ other. bytes_eq other name) names

-- a list in reverse, with one more at its end
pub reverse_pushed : {X Y : Type 0} (f : X → Y) (xs : List X) (x : X) → reverse (map f (xs ++ x ∷ [])) ≡ f x ∷ reverse (map f xs)
reverse_pushed f xs x = ap reverse (map-append f xs (x ∷ [])) ∙ reverse-append (map f xs) (f x ∷ [])

pub within_pushed : (outer : List (List (List ℕ × Result Meaning Fault))) (names : List (List ℕ × Result Meaning Fault)) (name : List ℕ) →
    rules.found_within (reverse (map told_names (outer ++ names ∷ []))) name
    ≡ rules.or_else (rules.found_in (told_names names) name) (rules.found_within (reverse (map told_names outer)) name)
within_pushed outer names name = ap (λ inner. rules.found_within inner name) (reverse_pushed told_names outer names)

told_again : (m : Result Meaning Fault) → told_meaning m ≡ told (of_told (told_meaning m))
told_again (Ok m) = refl
told_again (Err fault) = refl

some_told : (x : Option (Result Meaning Fault)) → is_some (option_map told_meaning x) ≡ is_some x
some_told None = refl
some_told (Some x) = refl

chosen : (names : List (List ℕ × Result Meaning Fault)) (name : List ℕ) (meaning : Result Meaning Fault) (b : Bool) →
    told_names (if b then names else names ++ (name, meaning) ∷ [])
    ≡ (if b then told_names names else told_names names ++ (name, told (of_told (told_meaning meaning))) ∷ [])
chosen names name meaning true = refl
chosen names name meaning false =
    map-append (λ e. (e.0, told_meaning e.1)) names ((name, meaning) ∷ []) ∙ ap (λ m. told_names names ++ (name, m) ∷ []) (told_again meaning)

-- one more name, with what it stands for
declared_told : (names : List (List ℕ × Result Meaning Fault)) (name : List ℕ) (meaning : Result Meaning Fault) →
    told_names (if is_some (lookup (λ other. bytes_eq other name) names) then names else names ++ (name, meaning) ∷ [])
    ≡ (if is_some (rules.found_in (told_names names) name) then told_names names else told_names names ++ (name, told (of_told (told_meaning meaning))) ∷ [])
declared_told names name meaning =
    chosen names name meaning (is_some (lookup (λ other. bytes_eq other name) names))
    ∙ ap (λ b. if b then told_names names else told_names names ++ (name, told (of_told (told_meaning meaning))) ∷ [])
    (sym (ap is_some (told_lookup names name) ∙ some_told (lookup (λ other. bytes_eq other name) names)))

-- what of an outcome that is right follows from what is known of it
pub on_ok : {A E : Type 0} {P Q : Type 0} (r : Result A E) → (P → Q) → OnOk r P → OnOk r Q
on_ok (Ok x) f p = f p
on_ok (Err e) f p = p

top_chosen : (Γ : rules.Scope) (b : Bool) (names : rules.Names) →
    record Γ { top = if b then Γ.top else names } ≡ (if b then Γ else record Γ { top = names })
top_chosen Γ true names = refl
top_chosen Γ false names = refl

pub top_declared : (Γ : rules.Scope) (old new : List (List ℕ × Result Meaning Fault)) (name : List ℕ) (meaning : Result Meaning Fault) →
    Γ.top ≡ told_names old → new ≡ (if is_some (lookup (λ other. bytes_eq other name) old) then old else old ++ (name, meaning) ∷ []) →
    record Γ { top = told_names new } ≡ rules.with_top_name Γ name (of_told (told_meaning meaning))
top_declared Γ old new name meaning o e =
    ap (λ names. record Γ { top = names }) (ap told_names e ∙ declared_told old name meaning
    ∙ ap (λ top. if is_some (rules.found_in top name) then top else top ++ (name, told (of_told (told_meaning meaning))) ∷ []) (sym o))
    ∙ top_chosen Γ (is_some (rules.found_in Γ.top name)) (Γ.top ++ (name, told (of_told (told_meaning meaning))) ∷ [])

inner_chosen : (Γ : rules.Scope) (b : Bool) (names more : rules.Names) (outer : List rules.Names) →
    record Γ { inner = (if b then names else more) ∷ outer } ≡ (if b then record Γ { inner = names ∷ outer } else record Γ { inner = more ∷ outer })
inner_chosen Γ true names more outer = refl
inner_chosen Γ false names more outer = refl

inner_named : (Γ : rules.Scope) (inner : List rules.Names) (names : rules.Names) (outer : List rules.Names) (name : List ℕ) (meaning : Checked rules.Meaning) →
    inner ≡ names ∷ outer →
    record Γ { inner = (if is_some (rules.found_in names name) then names else names ++ (name, told meaning) ∷ []) ∷ outer }
    ≡ rules.with_name (record Γ { inner = inner }) name meaning
inner_named Γ inner names outer name meaning e =
    inner_chosen Γ (is_some (rules.found_in names name)) names (names ++ (name, told meaning) ∷ []) outer
    ∙ ap (λ i. rules.with_name (record Γ { inner = i }) name meaning) (sym e)

pub inner_declared : (Γ : rules.Scope) (old new outer : List (List (List ℕ × Result Meaning Fault))) (names more : List (List ℕ × Result Meaning Fault))
    (name : List ℕ) (meaning : Result Meaning Fault) →
    old ≡ outer ++ names ∷ [] → new ≡ outer ++ more ∷ [] →
    more ≡ (if is_some (lookup (λ other. bytes_eq other name) names) then names else names ++ (name, meaning) ∷ []) →
    record Γ { inner = reverse (map told_names new) } ≡ rules.with_name (record Γ { inner = reverse (map told_names old) }) name (of_told (told_meaning meaning))
inner_declared Γ old new outer names more name meaning o n e =
    ap (λ inner. record Γ { inner = inner })
    (ap (λ scopes. reverse (map told_names scopes)) n ∙ reverse_pushed told_names outer more
    ∙ ap (λ first. first ∷ reverse (map told_names outer)) (ap told_names e ∙ declared_told names name meaning))
    ∙ inner_named Γ (reverse (map told_names old)) (told_names names) (reverse (map told_names outer)) name (of_told (told_meaning meaning))
    (ap (λ scopes. reverse (map told_names scopes)) o ∙ reverse_pushed told_names outer names)
