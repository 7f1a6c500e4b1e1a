-- From what an operation gives on numbers to what the trait says of it.
use Rattle.std.proofs.Common.{◌≡◌, ℕ, Bool, true, false, if◌then◌else◌, ap, sym, ◌∙◌, Some}
use Rattle.bits_core.specs.declared.number.Bits.{Bits}

-- a result on operands is one on what the operands stand for
pub at_one : {A C : Type 0} (f : A → C) (v : C) (a x : A) → v ≡ f a → a ≡ x → v ≡ f x
at_one f v a x h p = h ∙ ap f p

pub at_two : {A B C : Type 0} (f : A → B → C) (v : C) (a x : A) (b y : B) → v ≡ f a b → a ≡ x → b ≡ y → v ≡ f x y
at_two f v a x b y h p q = h ∙ ap (λ n. f n b) p ∙ ap (f x) q

pub some_injective : {A : Type 0} (v b : A) → Some v ≡ Some b → v ≡ b
some_injective v b same = cc

-- the value that was chosen has the width of both, and the number of the one that the flag names
pub chosen_width : (f : Bool) (a b v : Bits) → a.width ≡ b.width → v ≡ (if f then a else b) → v.width ≡ a.width
chosen_width true a b v same h = ap (λ (n : Bits). n.width) h
chosen_width false a b v same h = ap (λ (n : Bits). n.width) h ∙ sym same

pub chosen_value : (f t : Bool) (a b v : Bits) (x y : ℕ) → f ≡ t → a.value ≡ x → b.value ≡ y → v ≡ (if f then a else b) → v.value ≡ (if t then x else y)
chosen_value true true a b v x y same p q h = ap (λ (n : Bits). n.value) h ∙ p
chosen_value true false a b v x y same p q h = cc
chosen_value false true a b v x y same p q h = cc
chosen_value false false a b v x y same p q h = ap (λ (n : Bits). n.value) h ∙ q
