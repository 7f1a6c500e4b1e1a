-- The symbols of signs come behind those of keywords.
use Rattle.std.proofs.Common.{◌≡◌, ℕ, true, false, ltb, refl, sym, ap, ◌∙◌}
use Rattle.std.proofs.lemmas.Bool.{false≢true}
use Rattle.p4_lexer.specs.declared.token.Sign.{Sign}
use Rattle.p4_lexer.specs.declared.token.Sign.TheVariants as sign
use Rattle.p4_grammar.specs.declared.symbols.TheConstants.{SIGN_MASK}
use Rattle.p4_grammar.specs.Words.{sign_symbol}

behind_keywords : (s : Sign) → ltb (sign_symbol s) SIGN_MASK ≡ false
behind_keywords sign.Mask = refl
behind_keywords _ = refl

pub no_sign : (s : Sign) (x : ℕ) → sign_symbol s ≡ x → ltb x SIGN_MASK ≡ true → ⊥
no_sign s x h e = false≢true (sym (behind_keywords s) ∙ ap (λ (y : ℕ). ltb y SIGN_MASK) h ∙ e)
