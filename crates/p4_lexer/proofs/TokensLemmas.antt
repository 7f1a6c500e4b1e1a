-- A text is read in one way at most, and so it has one list of tokens or one refusal at most, and not both.
use Rattle.std.proofs.Common.{◌≡◌, ℕ, List, [], sym, ap, ◌∙◌, subst, inl, inr}
use Rattle.tg_base.specs.declared.place.Refusal.{Refusal}
use Rattle.p4_lexer.specs.declared.limits.TheConstants.{MAX_WEIGHT}
use Rattle.p4_lexer.specs.declared.token.Tokens.{Tokens}
use Rattle.p4_lexer.specs.Parts.{Part}
use Rattle.p4_lexer.specs.SourceWords.{source_words}
use Rattle.p4_lexer.specs.Replacement.{Item, AreItems}
use Rattle.p4_lexer.specs.Weight.{within}
use Rattle.p4_lexer.specs.Annotations.{Entry, Leaves}
use Rattle.p4_lexer.specs.Marks.{Become}
use Rattle.p4_lexer.specs.Tokens.{Reading, IsPartFault, IsPastCount, IsPastWeight, IsFault, HasTokens, IsRefused, tokens_among}
use Rattle.p4_lexer.proofs.PartsLemmas.{parts_one}
use Rattle.p4_lexer.proofs.ReplacementLemmas.{items_one}
use Rattle.p4_lexer.proofs.LeavesLemmas.{leaves_only}
use Rattle.p4_lexer.proofs.BecomeLemmas.{one_become}
use Rattle.tg_base.proofs.RefusalLaws.{decide_both}

parts_same : (text : List ℕ) (a b : Reading text) → b.parts ≡ a.parts
parts_same text a b = parts_one text a.parts b.parts a.are_parts b.are_parts

items_same : (text : List ℕ) (a b : Reading text) → b.items ≡ a.items
items_same text a b =
    let there : AreItems (source_words a.parts) b.items = subst (λ (ps : List Part). AreItems (source_words ps) b.items) (parts_same text a b) b.are_items in
    items_one (source_words a.parts) a.items b.items a.are_items there

entries_same : (text : List ℕ) (a b : Reading text) → b.entries ≡ a.entries
entries_same text a b =
    let there : Leaves (within MAX_WEIGHT a.items) b.entries = subst (λ (is : List Item). Leaves (within MAX_WEIGHT is) b.entries) (items_same text a b) b.leaves in
    leaves_only (within MAX_WEIGHT a.items) b.entries a.entries there a.leaves

-- a text is read in one way
pub one_reading : (text : List ℕ) (a b : Reading text) → (b.parts ≡ a.parts) × (b.items ≡ a.items) × (b.entries ≡ a.entries)
one_reading text a b = (parts_same text a b, items_same text a b, entries_same text a b)

-- two readings have the same faults
same_fault : (text : List ℕ) (a b : Reading text) (fault : Refusal) → IsFault text b fault → IsFault text a fault
same_fault text a b fault (inl of_parts) = inl (subst (λ (ps : List Part). IsPartFault text ps fault) (parts_same text a b) of_parts)
same_fault text a b fault (inr (inl count)) = inr (inl (subst (λ (es : List Entry). IsPastCount es fault) (entries_same text a b) count))
same_fault text a b fault (inr (inr weight)) = inr (inr (subst (λ (is : List Item). IsPastWeight is fault) (items_same text a b) weight))

same_tokens : (a b : Tokens) → b.tokens ≡ a.tokens → a.end ≡ b.end → a ≡ b
same_tokens a b tokens end =
    ap (λ ts. record { tokens = ts; end = a.end }) (sym tokens) ∙ ap (λ p. record { tokens = b.tokens; end = p }) end

-- a text has one list of tokens
pub one_tokens : (text : List ℕ) (a b : Tokens) → HasTokens text a → HasTokens text b → a ≡ b
one_tokens text a b has also =
    let there : Become [] (tokens_among has.reading.entries) b.tokens = subst (λ (es : List Entry). Become [] (tokens_among es) b.tokens) (entries_same text has.reading also.reading) also.become in
    same_tokens a b (one_become [] (tokens_among has.reading.entries) a.tokens has.become b.tokens there) (has.ended ∙ sym also.ended)

-- a text has one refusal
pub one_refusal : (text : List ℕ) (f g : Refusal) → IsRefused text f → IsRefused text g → f ≡ g
one_refusal text f g is also =
    decide_both f g
    (is.decides.first g (same_fault text is.reading also.reading g also.decides.found))
    (also.decides.first f (same_fault text also.reading is.reading f is.decides.found))

-- a text that is refused has no tokens
pub no_both : (text : List ℕ) (a : Tokens) (f : Refusal) → HasTokens text a → IsRefused text f → ⊥
no_both text a f has is = has.faultless f (same_fault text has.reading is.reading f is.decides.found)
