-- Which lists of symbols derive some list of tokens: tokens do, the left of a row does where its right side does, and in a
-- good table all do.
use Rattle.std.proofs.Common.{◌≡◌, ℕ, true, false, List, [], ◌∷◌, ◌++◌, refl, sym, ap, ◌∙◌, subst, inl, inr}
use Rattle.std.proofs.lemmas.List.{append-nil}
use Rattle.std.proofs.lemmas.Bool.{cases_Bool, false≢true}
use Rattle.ll1_engine.specs.declared.grammar.Row.{Row}
use Rattle.ll1_engine.specs.declared.fault.Break.TheVariants.{Barren}
use Rattle.ll1_engine.specs.Table.{IsRow, IsToken}
use Rattle.ll1_engine.specs.Trees.{End, Leaf, Node, roots, leaves, Productive}
use Rattle.ll1_engine.specs.Conditions.{IsGood}
use Rattle.ll1_engine.proofs.TreesLemmas.{beside, roots_beside, leaves_beside, AreTrees_beside}
use Rattle.ll1_engine.proofs.FirstLemmas.{AreTokens_append, is_left, left_is, row_of_left}

pub Productive_nil : (g : List Row) → Productive g []
Productive_nil g = record { tokens = []; derives = record { trees = End; valid = tt; top = refl; bottom = refl; terminal = tt } }

pub Productive_append : (g : List Row) (xs ys : List ℕ) → Productive g xs → Productive g ys → Productive g (xs ++ ys)
Productive_append g xs ys a b =
    let d = a.derives in let e = b.derives in
    record {
      tokens = a.tokens ++ b.tokens;
      derives = record {
        trees = beside d.trees e.trees;
        valid = AreTrees_beside g d.trees e.trees d.valid e.valid;
        top = roots_beside d.trees e.trees ∙ (ap (λ (zs : List ℕ). zs ++ roots e.trees) d.top ∙ ap (λ (zs : List ℕ). xs ++ zs) e.top);
        bottom = leaves_beside d.trees e.trees ∙ (ap (λ (zs : List ℕ). zs ++ leaves e.trees) d.bottom ∙ ap (λ (zs : List ℕ). a.tokens ++ zs) e.bottom);
        terminal = AreTokens_append g a.tokens b.tokens d.terminal e.terminal;
      };
    }

pub Productive_token : (g : List Row) (x : ℕ) → IsToken g x → Productive g (x ∷ [])
Productive_token g x h = record { tokens = x ∷ []; derives = record { trees = Leaf x End; valid = tt; top = refl; bottom = refl; terminal = (h, tt) } }

pub Productive_row : (g : List Row) (k : ℕ) (r : Row) → IsRow g k r → Productive g r.right → Productive g (r.left ∷ [])
Productive_row g k r h p =
    let d = p.derives in
    record { tokens = p.tokens; derives = record { trees = Node k r d.trees End; valid = (h, d.top, d.valid, tt); top = refl; bottom = append-nil (leaves d.trees) ∙ d.bottom; terminal = d.terminal } }

token_from_left : (g : List Row) (x : ℕ) → is_left g x ≡ false → IsToken g x
token_from_left g x e = λ k r h same. absurd (false≢true (sym e ∙ subst (λ (z : ℕ). is_left g z ≡ true) same (left_is g k r h)))

-- in an accepted table each symbol derives some list of tokens
pub productive_symbol : (g : List Row) → IsGood g → (x : ℕ) → Productive g (x ∷ [])
productive_symbol g good x =
    elim (cases_Bool (is_left g x)) [
      | inl left ↦ (let p = row_of_left g x left in subst (λ (z : ℕ). Productive g (z ∷ [])) p.3 (good p.0 p.1 Barren p.2))
      | inr none ↦ Productive_token g x (token_from_left g x none)
    ]

pub productive : (g : List Row) → IsGood g → (xs : List ℕ) → Productive g xs
productive g good [] = Productive_nil g
productive g good (x ∷ xs) = Productive_append g (x ∷ []) xs (productive_symbol g good x) (productive g good xs)
