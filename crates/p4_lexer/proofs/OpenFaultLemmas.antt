-- Conditions that are not ended, looked at one by one, and the first byte that is no text.
use Rattle.std.proofs.Common.{◌≡◌, ℕ, ◌+◌, ◌<◌, ◌≤◌, List, [], ◌∷◌, ◌++◌, Option, Some, None, Contains, length, take, map, reverse, get_or, add-one, ◌⊎◌, inl, inr, refl, sym, ap, ◌∙◌, subst, arith}
use Rattle.std.specs.Prelude.{IfSome, IsUtf8}
use Rattle.std.specs.Str.{IsValidUpTo}
use Rattle.std.proofs.Math.Seq.{take-suc}
use Rattle.std.proofs.lemmas.List.{take_all, reverse-append, reverse-reverse, map-append}
use Rattle.std.proofs.lemmas.List.Elements.{Contains-append_left, Contains-push, Contains-push_cases}
use Rattle.std.proofs.lemmas.Str.{utf8_valid_len-IsValidUpTo, utf8_valid_len-IsUtf8}
use Rattle.tg_base.specs.declared.place.Code.TheVariants.{NotText, Directive as DirectiveCode}
use Rattle.tg_base.specs.declared.place.Refusal.{Refusal}
use Rattle.tg_base.specs.Deciding.{DecidesOver}
use Rattle.p4_lexer.specs.declared.scope.ConditionAt.{ConditionAt}
use Rattle.p4_lexer.specs.Places.{place_after}
use Rattle.p4_lexer.specs.Scope.{Condition}
use Rattle.p4_lexer.specs.ScopeState.{condition_at}
use Rattle.p4_lexer.specs.Tokens.{refusal_at}
use Rattle.p4_lexer.specs.Scanning.{IsFirstOf}
use Rattle.p4_lexer.specs.PartFaults.{IsNoText, IsNotEnded, IsOpenAt}
use Rattle.p4_lexer.proofs.FirstFaultLemmas.{first_of_both, first_same, first_alone, one_kept}
use Rattle.p4_lexer.proofs.LineFaultLemmas.{contained, contains_middle, unmap}

abbrev fault_of : ConditionAt → Refusal
fault_of c = refusal_at DirectiveCode c.place

open_before : (cs : List ConditionAt) (c : ConditionAt) (f : Refusal) → IsOpenAt cs f ⊎ (f ≡ fault_of c) → IsOpenAt (cs ++ c ∷ []) f
open_before cs c f (inl earlier) = record { condition = earlier.condition; there = Contains-append_left cs (c ∷ []) earlier.condition earlier.there; refusal = earlier.refusal }
open_before cs c f (inr last) = record { condition = c; there = Contains-push cs c; refusal = last }

open_cases : (cs : List ConditionAt) (c : ConditionAt) (f : Refusal) → IsOpenAt (cs ++ c ∷ []) f → IsOpenAt cs f ⊎ (f ≡ fault_of c)
open_cases cs c f o = elim (Contains-push_cases cs c o.condition o.there) [
  | inl earlier ↦ inl (record { condition = o.condition; there = earlier; refusal = o.refusal })
  | inr last ↦ inr (o.refusal ∙ ap fault_of (sym last))
]

-- no condition
pub none_open : IsFirstOf (IsOpenAt []) None
none_open f o = absurd (omega (arith, o.there.1))

-- the loop's step
pub one_more_open : (cs : List ConditionAt) (i : ℕ) (d : ConditionAt) (best : Option Refusal) (fault r : Refusal) → i < length cs → fault ≡ fault_of (get_or cs i d)
    → (r ≡ fault) ⊎ (best ≡ Some r) → DecidesOver r fault → IfSome best (DecidesOver r)
    → IsFirstOf (IsOpenAt (take i cs)) best → IsFirstOf (IsOpenAt (take (i + 1) cs)) (Some r)
one_more_open cs i d best fault r below is either over above first =
    let c = get_or cs i d in
    let more : take (i + 1) cs ≡ take i cs ++ c ∷ [] = ap (λ k. take k cs) (add-one i) ∙ take-suc cs i d below in
    subst (λ xs. IsFirstOf (IsOpenAt xs) (Some r)) (sym more)
    (first_same (λ f. IsOpenAt (take i cs) f ⊎ (f ≡ fault)) (IsOpenAt (take i cs ++ c ∷ [])) (Some r)
    (λ f found. open_before (take i cs) c f (elim found [ inl earlier ↦ inl earlier | inr last ↦ inr (last ∙ is) ]))
    (λ f found. elim (open_cases (take i cs) c f found) [ inl earlier ↦ inl earlier | inr last ↦ inr (last ∙ sym is) ])
    (first_of_both (IsOpenAt (take i cs)) (λ f. f ≡ fault) best (Some fault) (Some r) first (first_alone (λ f. f ≡ fault) fault refl (λ f same. same)) (one_kept best fault r either over above)))

pub all_open : (cs : List ConditionAt) (i : ℕ) (best : Option Refusal) → length cs ≤ i → IsFirstOf (IsOpenAt (take i cs)) best → IsFirstOf (IsOpenAt cs) best
all_open cs i best past first = subst (λ xs. IsFirstOf (IsOpenAt xs) best) (take_all i cs past) first

turned_round : {X : Type 0} (xs a : List X) (x : X) (b : List X) → xs ≡ a ++ x ∷ b → reverse xs ≡ (reverse b ++ x ∷ []) ++ reverse a
turned_round xs a x b e = ap reverse e ∙ reverse-append a (x ∷ b) ∙ ap (λ ys. ys ++ reverse a) (reverse-append (x ∷ []) b)

contains_turned : {X : Type 0} (xs : List X) (x : X) → Contains xs x → Contains (reverse xs) x
contains_turned xs x there =
    let (a, b, e) = contained xs x there in
    subst (λ ys. Contains ys x) (sym (turned_round xs a x b e)) (Contains-append_left (reverse b ++ x ∷ []) (reverse a) x (Contains-push (reverse b) x))

-- conditions that are not ended, as the code has them, the innermost last
pub open_are : (conditions : List Condition) (cs : List ConditionAt) (fault : Option Refusal) → conditions ≡ map condition_at (reverse cs) → IsFirstOf (IsOpenAt cs) fault → IsFirstOf (IsNotEnded conditions) fault
open_are conditions cs fault e first = first_same (IsOpenAt cs) (IsNotEnded conditions) fault into back first where
  into : (f : Refusal) → IsOpenAt cs f → IsNotEnded conditions f
  into f o =
      let (a, b, spelled) = contained (reverse cs) o.condition (contains_turned cs o.condition o.there) in
      record {
        inner = map condition_at a;
        condition = condition_at o.condition;
        outer = map condition_at b;
        spelled = e ∙ ap (map condition_at) spelled ∙ map-append condition_at a (o.condition ∷ b);
        refusal = o.refusal;
      }

  back : (f : Refusal) → IsNotEnded conditions f → IsOpenAt cs f
  back f n =
      let u = unmap condition_at (reverse cs) n.inner n.condition n.outer (sym e ∙ n.spelled) in
      record {
        condition = u.middle;
        there = subst (λ ys. Contains ys u.middle) (reverse-reverse cs)
            (contains_turned (reverse cs) u.middle (subst (λ ys. Contains ys u.middle) (sym u.spelled) (contains_middle u.front u.middle u.back)));
        refusal = n.refusal ∙ ap (λ (c : Condition). refusal_at DirectiveCode c.place) (sym u.same);
      }

pub all_text : (text : List ℕ) → IsUtf8 text → IsFirstOf (IsNoText text) None
all_text text is f n = omega (arith, sym (utf8_valid_len-IsUtf8 text is) ∙ utf8_valid_len-IsValidUpTo text n.at n.first, n.first.short)

pub no_text_from : (text : List ℕ) (at : ℕ) (r : Refusal) → IsValidUpTo text at → r ≡ refusal_at NotText (place_after (take at text)) → IsFirstOf (IsNoText text) (Some r)
no_text_from text at r valid is = first_alone (IsNoText text) r (record { at = at; first = valid; refusal = is })
    (λ f n. n.refusal ∙ ap (λ k. refusal_at NotText (place_after (take k text))) (sym (utf8_valid_len-IsValidUpTo text n.at n.first) ∙ utf8_valid_len-IsValidUpTo text at valid) ∙ sym is)
