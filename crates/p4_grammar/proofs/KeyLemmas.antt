-- A key in parentheses, by the rows of a key.
use Rattle.std.proofs.Common.{◌≡◌, ℕ, List, [], ◌∷◌, Option, None, Some, refl, ap, inl, inr, ◌⊎◌}
use Rattle.tg_base.specs.declared.place.Span.{Span}
use Rattle.p4_tree.specs.declared.expressions.Expression.{Expression}
use Rattle.p4_tree.specs.declared.expressions.ExpressionKind.TheVariants as kind
use Rattle.ll1_engine.specs.declared.grammar.Row.{Row}
use Rattle.p4_grammar.specs.declared.symbols.TheConstants.{EXPRESSION, KEYWORD_DEFAULT, MASK, SIGN_MASK, SIGN_RANGE, SIGN_UNDERSCORE, SIMPLE_KEY}
use Rattle.p4_grammar.specs.Parses.{Parse, End, Word, Node, option_map, all_three}
use Rattle.p4_grammar.specs.Ahead.{Begins, below, after, joined, opened, token_at, first_of, first_symbol}
use Rattle.p4_grammar.specs.Expressions.{expression, expression_at, key_at}
use Rattle.p4_tree.specs.declared.expressions.SimpleKey.{SimpleKey}
use Rattle.p4_tree.specs.declared.keys.KeySetKind.TheVariants.{Several}
use Rattle.p4_grammar.specs.Keys.{plain_key, masked, simple_key, grouped, grouped_behind, several_keys, key_set_at}
use Rattle.p4_grammar.proofs.RowsOfForms.{Children, OneOf, Stands, rows_of_form, stands, with_token}
use Rattle.p4_grammar.proofs.KeyRows.{mask_rights, simple_key_rights}

abbrev pub WordGroup : ℕ → Parse → Type 0
WordGroup s p =
    (first_symbol p ≡ Some s) × Stands (s ∷ []) (opened p) (after p)
    × (simple_key (below p) ≡ with_token (λ t. option_map (λ kind. key_at t.span kind) (plain_key t.word)) (token_at (opened p)))
    × ((span : Span) → grouped span (below p)
    ≡ with_token (λ t. option_map (λ one. expression_at span (kind.ParenthesizedKey one)) (option_map (λ kind. key_at t.span kind) (plain_key t.word))) (token_at (opened p)))

abbrev pub ExpressionGroup : Parse → Type 0
ExpressionGroup p =
    (first_symbol p ≡ Some EXPRESSION) × Stands (EXPRESSION ∷ MASK ∷ []) (opened p) (after p)
    × (simple_key (below p) ≡ masked (expression (below (opened p))) (below (after (opened p))))
    × ((span : Span) → grouped span (below p) ≡ grouped_behind span (expression (below (opened p))) (below (after (opened p))))

abbrev pub GroupRow : Parse → Type 0
GroupRow p = WordGroup KEYWORD_DEFAULT p ⊎ WordGroup SIGN_UNDERSCORE p ⊎ ExpressionGroup p

default_group : (k : ℕ) (r : Row) (b a : Parse) → r.right ≡ KEYWORD_DEFAULT ∷ [] → Children (KEYWORD_DEFAULT ∷ []) b → WordGroup KEYWORD_DEFAULT (Node k r b a)
default_group k r (Word t End) a e h = (ap first_of e, stands (KEYWORD_DEFAULT ∷ []) (Word t End) a h, refl, λ span. refl)
default_group k r _ a e h = absurd (assumption)

any_group : (k : ℕ) (r : Row) (b a : Parse) → r.right ≡ SIGN_UNDERSCORE ∷ [] → Children (SIGN_UNDERSCORE ∷ []) b → WordGroup SIGN_UNDERSCORE (Node k r b a)
any_group k r (Word t End) a e h = (ap first_of e, stands (SIGN_UNDERSCORE ∷ []) (Word t End) a h, refl, λ span. refl)
any_group k r _ a e h = absurd (assumption)

behind : (span : Span) (i j : ℕ) (q s : Row) (u m : Parse) → grouped span (Node i q u (Node j s m End)) ≡ grouped_behind span (expression u) m
behind span i j q s u End = refl
behind span i j q s u (Word t m) = refl
behind span i j q s u (Node l v w m) = refl

expression_group : (k : ℕ) (r : Row) (b a : Parse) → r.right ≡ EXPRESSION ∷ MASK ∷ [] → Children (EXPRESSION ∷ MASK ∷ []) b → ExpressionGroup (Node k r b a)
expression_group k r (Node i q u (Node j s m End)) a e h =
    (ap first_of e, stands (EXPRESSION ∷ MASK ∷ []) (Node i q u (Node j s m End)) a h, refl, λ span. behind span i j q s u m)
expression_group k r _ a e h = absurd (assumption)

group_go : (k : ℕ) (r : Row) (b a : Parse) → OneOf ((KEYWORD_DEFAULT ∷ []) ∷ (SIGN_UNDERSCORE ∷ []) ∷ (EXPRESSION ∷ MASK ∷ []) ∷ []) r b → GroupRow (Node k r b a)
group_go k r b a (inl h) = inl (default_group k r b a h.0 h.1)
group_go k r b a (inr (inl h)) = inr (inl (any_group k r b a h.0 h.1))
group_go k r b a (inr (inr (inl h))) = inr (inr (expression_group k r b a h.0 h.1))
group_go k r b a (inr (inr (inr h))) = absurd h

pub grouped_row : (p : Parse) → Begins SIMPLE_KEY p → GroupRow p
grouped_row End h = absurd h
grouped_row (Word t a) h = absurd h
grouped_row (Node k r b a) h = group_go k r b a (rw simple_key_rights at (rows_of_form SIMPLE_KEY k r b h))

-- MASK, behind an expression in parentheses: a key wherever it is not empty

abbrev pub MaskGroup : Parse → Type 0
MaskGroup p =
    ((first_symbol p ≡ None) × ((span : Span) (e : Option Expression) → grouped_behind span e (below p) ≡ option_map (λ inner. expression_at span (kind.Parenthesized inner)) e))
    ⊎ ((s : ℕ) × (first_symbol p ≡ Some s) × ((span : Span) (e : Option Expression) → grouped_behind span e (below p) ≡ option_map (λ one. expression_at span (kind.ParenthesizedKey one)) (masked e (below p))))

mask_go : (k : ℕ) (r : Row) (b a : Parse) → OneOf ([] ∷ (SIGN_MASK ∷ EXPRESSION ∷ []) ∷ (SIGN_RANGE ∷ EXPRESSION ∷ []) ∷ []) r b → MaskGroup (Node k r b a)
mask_go k r End a (inl h) = inl (ap first_of h.0, λ span e. refl)
mask_go k r (Word t b) a (inr (inl h)) = inr (SIGN_MASK, ap first_of h.0, λ span e. refl)
mask_go k r (Word t b) a (inr (inr (inl h))) = inr (SIGN_RANGE, ap first_of h.0, λ span e. refl)
mask_go k r _ a (inl h) = absurd h.1
mask_go k r _ a (inr (inl h)) = absurd (assumption)
mask_go k r _ a (inr (inr (inl h))) = absurd (assumption)
mask_go k r b a (inr (inr (inr h))) = absurd h

pub mask_group : (p : Parse) → Begins MASK p → MaskGroup p
mask_group End h = absurd h
mask_group (Word t a) h = absurd h
mask_group (Node k r b a) h = mask_go k r b a (rw mask_rights at (rows_of_form MASK k r b h))

-- several keys, where they are read one behind the other
pub several_is : (span : Span) (first second : SimpleKey) (more : Option (List SimpleKey)) (keys : List SimpleKey)
    → option_map (λ rest. first ∷ second ∷ rest) more ≡ Some keys → several_keys span (Some first) (Some second) more ≡ Some (key_set_at span (Several keys))
several_is span first second None keys h = absurd (cc)
several_is span first second (Some rest) keys h = ap (option_map (λ ks. key_set_at span (Several ks))) h
