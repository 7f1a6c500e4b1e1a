-- Lists of a source that are gathered from left to right.
use Rattle.std.proofs.Common.{◌≡◌, List, [], ◌∷◌, ◌++◌, append_assoc, Option, None, Some, refl, ap}
use Rattle.std.proofs.lemmas.List.{append-nil}
use Rattle.p4_grammar.specs.Parses.{both, option_map}

-- these, and then those of the rest
abbrev pub behind : {A : Type 0} → List A → Option (List A) → Option (List A)
behind xs more = option_map (λ ys. xs ++ ys) more

pub behind_none : {A : Type 0} (more : Option (List A)) → behind [] more ≡ more
behind_none None = refl
behind_none (Some ys) = refl

pub pushed : {A : Type 0} (xs : List A) (x : A) (more : Option (List A)) →
    behind (xs ++ x ∷ []) more ≡ behind xs (both (λ one ys. one ∷ ys) (Some x) more)
pushed xs x None = refl
pushed xs x (Some ys) = ap (λ (zs : List _). Some zs) (append_assoc xs (x ∷ []) ys)

pub gathered : {A : Type 0} (xs : List A) → behind xs (Some []) ≡ Some xs
gathered xs = ap (λ (zs : List _). Some zs) (append-nil xs)
