-- Bodies as lists of statements: what holds of a whole body is what holds of each statement in it.
use Rattle.std.proofs.Common.{◌≡◌, ℕ, zero, suc, ◌≢◌, ◌<◌, List, [], ◌∷◌, ◌++◌, length, get_or, slice_get, Option, Some, None, option_map, All, refl, sym, ap, subst, ◌∙◌, arith, map, flat_map, suc-le-suc, zero-le}
use Rattle.std.proofs.lemmas.List.Elements.{All-map}
use Rattle.std.proofs.lemmas.Option.{slice_get-map, slice_get-get_or, slice_get_within, get_or_from_slice_get}
use Rattle.p4_program.specs.declared.typed.callables.Callable.{Callable}
use Rattle.p4_program.specs.declared.typed.statements.Statement.{Statement}
use Rattle.p4_program.specs.declared.typed.statements.SwitchCase.{SwitchCase}
use Rattle.p4_program.specs.Built.{Unnumbered, AllUnnumbered, CasesUnnumbered, CallableUnnumbered, NoOtherNumbered, BuiltStatement, BuiltStatements}
use Rattle.p4_program.specs.Syntax.Numbering.{numbered_in, numbered_in_all, numbered_in_cases}
use Rattle.p4_program.specs.Syntax.Statements.{NoStatements}
use Rattle.p4_program.specs.Trees.Callables.{callable_of}
use Rattle.p4_program.specs.Trees.Statements.{statement_of, statements_of, switch_cases_of}

-- ---- lists that are mapped

pub all_mapped : {A B : Type 0} (P : B → Type 0) (f : A → B) (xs : List A) → All (λ x. P (f x)) xs → All P (map f xs)
all_mapped P f xs h = All-map P f xs h

pub all_unmapped : {A B : Type 0} (P : B → Type 0) (f : A → B) (xs : List A) → All P (map f xs) → All (λ x. P (f x)) xs
all_unmapped P f [] h k d less = absurd (let none : k < 0 = less in omega arith)
all_unmapped P f (x ∷ xs) h zero d less = h 0 (f x) (suc-le-suc zero-le)
all_unmapped P f (x ∷ xs) h (suc k) d less =
    all_unmapped P f xs (λ n e below. h (suc n) e (suc-le-suc below)) k d (omega arith)

pub none_mapped : {A B : Type 0} (f : A → B) (xs : List A) → map f xs ≡ [] → xs ≡ []
none_mapped f [] e = refl
none_mapped f (x ∷ xs) e = absurd cc

-- ---- numbered statements

pub numbered_each : (xs : List Statement) → numbered_in_all (statements_of xs) ≡ flat_map (λ s. numbered_in (statement_of s)) xs
numbered_each [] = refl
numbered_each (x ∷ xs) = ap (λ ns. numbered_in (statement_of x) ++ ns) (numbered_each xs)

pub numbered_each_case : (cs : List SwitchCase) → numbered_in_cases (switch_cases_of cs) ≡ flat_map (λ c. numbered_in_all (statements_of c.body.items)) cs
numbered_each_case [] = refl
numbered_each_case (c ∷ cs) = ap (λ ns. numbered_in_all (statements_of c.body.items) ++ ns) (numbered_each_case cs)

-- ---- bodies without statements

pub none_from : (xs : List Statement) → length xs ≡ 0 → statements_of xs ≡ NoStatements
none_from [] e = refl
none_from (x ∷ xs) e = absurd cc

pub none_there : (xs : List Statement) → statements_of xs ≡ NoStatements → length xs ≡ 0
none_there [] e = refl
none_there (x ∷ xs) e = absurd cc

-- ---- bodies without numbered statements

pub unnumbered_from : (xs : List Statement) → All (λ s. Unnumbered (statement_of s)) xs → AllUnnumbered (statements_of xs)
unnumbered_from [] h = tt
unnumbered_from (x ∷ xs) h =
    (h 0 x (suc-le-suc zero-le), unnumbered_from xs (λ k d less. h (suc k) d (suc-le-suc less)))

pub unnumbered_each : (xs : List Statement) → AllUnnumbered (statements_of xs) → All (λ s. Unnumbered (statement_of s)) xs
unnumbered_each [] h k d less = absurd (let none : k < 0 = less in omega arith)
unnumbered_each (x ∷ xs) h zero d less = h.0
unnumbered_each (x ∷ xs) h (suc k) d less = unnumbered_each xs h.1 k d (omega arith)

pub cases_unnumbered_from : (cs : List SwitchCase) → All (λ c. AllUnnumbered (statements_of c.body.items)) cs → CasesUnnumbered (switch_cases_of cs)
cases_unnumbered_from [] h = tt
cases_unnumbered_from (c ∷ cs) h =
    (h 0 c (suc-le-suc zero-le), cases_unnumbered_from cs (λ k d less. h (suc k) d (suc-le-suc less)))

pub cases_unnumbered_each : (cs : List SwitchCase) → CasesUnnumbered (switch_cases_of cs) → All (λ c. AllUnnumbered (statements_of c.body.items)) cs
cases_unnumbered_each [] h k d less = absurd (let none : k < 0 = less in omega arith)
cases_unnumbered_each (c ∷ cs) h zero d less = h.0
cases_unnumbered_each (c ∷ cs) h (suc k) d less = cases_unnumbered_each cs h.1 k d (omega arith)

-- ---- bodies of ingress

pub built_from : (xs : List Statement) → All (λ s. BuiltStatement (statement_of s)) xs → BuiltStatements (statements_of xs)
built_from [] h = tt
built_from (x ∷ xs) h = (h 0 x (suc-le-suc zero-le), built_from xs (λ k d less. h (suc k) d (suc-le-suc less)))

pub built_each : (xs : List Statement) → BuiltStatements (statements_of xs) → All (λ s. BuiltStatement (statement_of s)) xs
built_each [] h k d less = absurd (let none : k < 0 = less in omega arith)
built_each (x ∷ xs) h zero d less = h.0
built_each (x ∷ xs) h (suc k) d less = built_each xs h.1 k d (omega arith)

-- ---- callables

-- no numbered statement stands in those at other places than n
abbrev pub OthersUnnumbered : ℕ → List Callable → Type 0
OthersUnnumbered n cs = (j : ℕ) (d : Callable) → j < length cs → j ≢ n → CallableUnnumbered (callable_of (get_or cs j d))

some_mapped : {A B : Type 0} (f : A → B) (o : Option A) (y : B) → option_map f o ≡ Some y → (x : A) × (o ≡ Some x) × (f x ≡ y)
some_mapped f None y e = absurd cc
some_mapped f (Some x) y e = let same : f x ≡ y = cc in (x, refl, same)

pub others_from : (n : ℕ) (cs : List Callable) → OthersUnnumbered n cs → NoOtherNumbered n (map callable_of cs)
others_from n cs each k d other is =
    let found = some_mapped callable_of (slice_get cs k) d (sym (slice_get-map callable_of cs k) ∙ is) in
    let at : get_or cs k found.0 ≡ found.0 = get_or_from_slice_get cs k found.0 found.0 found.1 in
    let within : k < length cs = slice_get_within cs k found.0 found.1 in
    subst CallableUnnumbered (ap callable_of at ∙ found.2) (each k found.0 within other)

pub others_each : (n : ℕ) (cs : List Callable) → NoOtherNumbered n (map callable_of cs) → OthersUnnumbered n cs
others_each n cs none j d within other =
    none j (callable_of (get_or cs j d)) other
    (slice_get-map callable_of cs j ∙ ap (option_map callable_of) (slice_get-get_or cs j d within))
