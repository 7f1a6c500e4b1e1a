-- The rows of keys.
use Rattle.std.proofs.Common.{◌≡◌, ℕ, [], ◌∷◌, None, Some, refl, ap, inl, inr, ◌⊎◌, Option}
use Rattle.std.specs.Prelude.{◌==◌, if◌then◌else◌}
use Rattle.p4_grammar.specs.Expressions.{expression_at, span_of, with_parts, key_at, expression, operations, unary_of, with_operator, atom, parts, type_form}
use Rattle.p4_grammar.specs.Keys.{plain_key, pair_of, pair_at, masked, simple_key, grouped, key_set_at, one_key, more_keys, key_parenthesis_rest, key_parenthesis, key_set}
use Rattle.p4_tree.specs.declared.expressions.Expression.{Expression}
use Rattle.p4_tree.specs.declared.keys.KeySetKind.TheVariants.{One, Several}
use Rattle.tg_base.specs.declared.place.Span.{Span}
use Rattle.p4_tree.specs.declared.expressions.ExpressionKind.TheVariants as kind
use Rattle.p4_tree.specs.declared.expressions.SimpleKeyKind.TheVariants as key
use Rattle.ll1_engine.specs.declared.grammar.Row.{Row}
use Rattle.p4_grammar.specs.declared.symbols.TheConstants.{ATOM, EXPRESSION, KEYWORD_DEFAULT, KEY_PARENTHESIS, KEY_PARENTHESIS_REST, KEY_PARENTHESIS_TAIL, KEY_SET, MASK, OPERATIONS, POSTFIX_PARTS, SIGN_COMMA, SIGN_LEFT_PAREN, SIGN_MASK, SIGN_RANGE, SIGN_RIGHT_PAREN, SIGN_UNDERSCORE, SIMPLE_KEY, TYPE_FORM, UNARY, UNARY_OPERATOR}
use Rattle.p4_grammar.specs.Rows.{top_rows, types_rows, expressions_rows, operations_rows, keys_rows, statements_rows, parser_rows, control_rows, tables_rows, grammar_rows}
use Rattle.p4_grammar.specs.Parses.{Parse, End, Word, Node, option_map, both, all_three}
use Rattle.p4_grammar.specs.Ahead.{Begins, below, after, joined, opened, token_at, first_of, first_symbol}
use Rattle.p4_grammar.proofs.RowsOfForms.{rights, Children, OneOf, Stands, rows_of_form, stands, with_token}

-- MASK

pub mask_rights : rights MASK grammar_rows ≡ [] ∷ (SIGN_MASK ∷ EXPRESSION ∷ []) ∷ (SIGN_RANGE ∷ EXPRESSION ∷ []) ∷ []
unfolding grammar_rows top_rows types_rows expressions_rows operations_rows keys_rows statements_rows parser_rows control_rows tables_rows
mask_rights = refl

mask_value_1 : (e : Option Expression) (b a : Parse) → Children [] b → masked e b ≡ option_map (λ v. key_at (span_of v) (key.Value v)) e
mask_value_1 e End a h = refl
mask_value_1 e _ a h = absurd (assumption)

mask_value_2 : (e : Option Expression) (b a : Parse) → Children (SIGN_MASK ∷ EXPRESSION ∷ []) b → masked e b ≡ with_token (λ t. all_three pair_at (pair_of t.word) e (expression (below (after (joined b a))))) (token_at (joined b a))
mask_value_2 e (Word t0 (Node k1 r1 u1 End)) a h = refl
mask_value_2 e _ a h = absurd (assumption)

mask_value_3 : (e : Option Expression) (b a : Parse) → Children (SIGN_RANGE ∷ EXPRESSION ∷ []) b → masked e b ≡ with_token (λ t. all_three pair_at (pair_of t.word) e (expression (below (after (joined b a))))) (token_at (joined b a))
mask_value_3 e (Word t0 (Node k1 r1 u1 End)) a h = refl
mask_value_3 e _ a h = absurd (assumption)

abbrev pub MaskRow : Parse → Type 0
MaskRow p =
    ((first_symbol p ≡ None) × Stands [] (opened p) (after p) × ((e : Option Expression) → masked e (below p) ≡ option_map (λ v. key_at (span_of v) (key.Value v)) e))
    ⊎ ((first_symbol p ≡ Some SIGN_MASK) × Stands (SIGN_MASK ∷ EXPRESSION ∷ []) (opened p) (after p) × ((e : Option Expression) → masked e (below p) ≡ with_token (λ t. all_three pair_at (pair_of t.word) e (expression (below (after (opened p))))) (token_at (opened p))))
    ⊎ ((first_symbol p ≡ Some SIGN_RANGE) × Stands (SIGN_RANGE ∷ EXPRESSION ∷ []) (opened p) (after p) × ((e : Option Expression) → masked e (below p) ≡ with_token (λ t. all_three pair_at (pair_of t.word) e (expression (below (after (opened p))))) (token_at (opened p))))

mask_go : (k : ℕ) (r : Row) (b a : Parse) → OneOf ([] ∷ (SIGN_MASK ∷ EXPRESSION ∷ []) ∷ (SIGN_RANGE ∷ EXPRESSION ∷ []) ∷ []) r b → MaskRow (Node k r b a)
mask_go k r b a (inl h) = inl (ap first_of h.0, stands [] b a h.1, λ e. mask_value_1 e b a h.1)
mask_go k r b a (inr (inl h)) = inr (inl (ap first_of h.0, stands (SIGN_MASK ∷ EXPRESSION ∷ []) b a h.1, λ e. mask_value_2 e b a h.1))
mask_go k r b a (inr (inr (inl h))) = inr (inr (ap first_of h.0, stands (SIGN_RANGE ∷ EXPRESSION ∷ []) b a h.1, λ e. mask_value_3 e b a h.1))
mask_go k r b a (inr (inr (inr h))) = absurd h

pub mask_row : (p : Parse) → Begins MASK p → MaskRow p
mask_row End h = absurd h
mask_row (Word t a) h = absurd h
mask_row (Node k r b a) h = mask_go k r b a (rw mask_rights at (rows_of_form MASK k r b h))

-- SIMPLE_KEY

pub simple_key_rights : rights SIMPLE_KEY grammar_rows ≡ (KEYWORD_DEFAULT ∷ []) ∷ (SIGN_UNDERSCORE ∷ []) ∷ (EXPRESSION ∷ MASK ∷ []) ∷ []
unfolding grammar_rows top_rows types_rows expressions_rows operations_rows keys_rows statements_rows parser_rows control_rows tables_rows
simple_key_rights = refl

simple_key_value_1 : (b a : Parse) → Children (KEYWORD_DEFAULT ∷ []) b → simple_key b ≡ with_token (λ t. option_map (λ kind. key_at t.span kind) (plain_key t.word)) (token_at (joined b a))
simple_key_value_1 (Word t0 End) a h = refl
simple_key_value_1 _ a h = absurd (assumption)

simple_key_value_2 : (b a : Parse) → Children (SIGN_UNDERSCORE ∷ []) b → simple_key b ≡ with_token (λ t. option_map (λ kind. key_at t.span kind) (plain_key t.word)) (token_at (joined b a))
simple_key_value_2 (Word t0 End) a h = refl
simple_key_value_2 _ a h = absurd (assumption)

simple_key_value_3 : (b a : Parse) → Children (EXPRESSION ∷ MASK ∷ []) b → simple_key b ≡ masked (expression (below (joined b a))) (below (after (joined b a)))
simple_key_value_3 (Node k0 r0 u0 (Node k1 r1 u1 End)) a h = refl
simple_key_value_3 _ a h = absurd (assumption)

abbrev pub SimpleKeyRow : Parse → Type 0
SimpleKeyRow p =
    ((first_symbol p ≡ Some KEYWORD_DEFAULT) × Stands (KEYWORD_DEFAULT ∷ []) (opened p) (after p) × (simple_key (below p) ≡ with_token (λ t. option_map (λ kind. key_at t.span kind) (plain_key t.word)) (token_at (opened p))))
    ⊎ ((first_symbol p ≡ Some SIGN_UNDERSCORE) × Stands (SIGN_UNDERSCORE ∷ []) (opened p) (after p) × (simple_key (below p) ≡ with_token (λ t. option_map (λ kind. key_at t.span kind) (plain_key t.word)) (token_at (opened p))))
    ⊎ ((first_symbol p ≡ Some EXPRESSION) × Stands (EXPRESSION ∷ MASK ∷ []) (opened p) (after p) × (simple_key (below p) ≡ masked (expression (below (opened p))) (below (after (opened p)))))

simple_key_go : (k : ℕ) (r : Row) (b a : Parse) → OneOf ((KEYWORD_DEFAULT ∷ []) ∷ (SIGN_UNDERSCORE ∷ []) ∷ (EXPRESSION ∷ MASK ∷ []) ∷ []) r b → SimpleKeyRow (Node k r b a)
simple_key_go k r b a (inl h) = inl (ap first_of h.0, stands (KEYWORD_DEFAULT ∷ []) b a h.1, simple_key_value_1 b a h.1)
simple_key_go k r b a (inr (inl h)) = inr (inl (ap first_of h.0, stands (SIGN_UNDERSCORE ∷ []) b a h.1, simple_key_value_2 b a h.1))
simple_key_go k r b a (inr (inr (inl h))) = inr (inr (ap first_of h.0, stands (EXPRESSION ∷ MASK ∷ []) b a h.1, simple_key_value_3 b a h.1))
simple_key_go k r b a (inr (inr (inr h))) = absurd h

pub simple_key_row : (p : Parse) → Begins SIMPLE_KEY p → SimpleKeyRow p
simple_key_row End h = absurd h
simple_key_row (Word t a) h = absurd h
simple_key_row (Node k r b a) h = simple_key_go k r b a (rw simple_key_rights at (rows_of_form SIMPLE_KEY k r b h))

-- KEY_PARENTHESIS_TAIL

key_parenthesis_tail_rights : rights KEY_PARENTHESIS_TAIL grammar_rows ≡ [] ∷ (SIGN_COMMA ∷ SIMPLE_KEY ∷ KEY_PARENTHESIS_TAIL ∷ []) ∷ []
unfolding grammar_rows top_rows types_rows expressions_rows operations_rows keys_rows statements_rows parser_rows control_rows tables_rows
key_parenthesis_tail_rights = refl

key_parenthesis_tail_value_1 : (b a : Parse) → Children [] b → more_keys b ≡ Some []
key_parenthesis_tail_value_1 End a h = refl
key_parenthesis_tail_value_1 _ a h = absurd (assumption)

key_parenthesis_tail_value_2 : (b a : Parse) → Children (SIGN_COMMA ∷ SIMPLE_KEY ∷ KEY_PARENTHESIS_TAIL ∷ []) b → more_keys b ≡ both (λ one more. one ∷ more) (simple_key (below (after (joined b a)))) (more_keys (below (after (after (joined b a)))))
key_parenthesis_tail_value_2 (Word t0 (Node k1 r1 u1 (Node k2 r2 u2 End))) a h = refl
key_parenthesis_tail_value_2 _ a h = absurd (assumption)

abbrev pub KeyParenthesisTailRow : Parse → Type 0
KeyParenthesisTailRow p =
    ((first_symbol p ≡ None) × Stands [] (opened p) (after p) × (more_keys (below p) ≡ Some []))
    ⊎ ((first_symbol p ≡ Some SIGN_COMMA) × Stands (SIGN_COMMA ∷ SIMPLE_KEY ∷ KEY_PARENTHESIS_TAIL ∷ []) (opened p) (after p) × (more_keys (below p) ≡ both (λ one more. one ∷ more) (simple_key (below (after (opened p)))) (more_keys (below (after (after (opened p)))))))

key_parenthesis_tail_go : (k : ℕ) (r : Row) (b a : Parse) → OneOf ([] ∷ (SIGN_COMMA ∷ SIMPLE_KEY ∷ KEY_PARENTHESIS_TAIL ∷ []) ∷ []) r b → KeyParenthesisTailRow (Node k r b a)
key_parenthesis_tail_go k r b a (inl h) = inl (ap first_of h.0, stands [] b a h.1, key_parenthesis_tail_value_1 b a h.1)
key_parenthesis_tail_go k r b a (inr (inl h)) = inr (ap first_of h.0, stands (SIGN_COMMA ∷ SIMPLE_KEY ∷ KEY_PARENTHESIS_TAIL ∷ []) b a h.1, key_parenthesis_tail_value_2 b a h.1)
key_parenthesis_tail_go k r b a (inr (inr h)) = absurd h

pub key_parenthesis_tail_row : (p : Parse) → Begins KEY_PARENTHESIS_TAIL p → KeyParenthesisTailRow p
key_parenthesis_tail_row End h = absurd h
key_parenthesis_tail_row (Word t a) h = absurd h
key_parenthesis_tail_row (Node k r b a) h = key_parenthesis_tail_go k r b a (rw key_parenthesis_tail_rights at (rows_of_form KEY_PARENTHESIS_TAIL k r b h))

-- KEY_PARENTHESIS_REST

key_parenthesis_rest_rights : rights KEY_PARENTHESIS_REST grammar_rows ≡ (SIGN_COMMA ∷ SIMPLE_KEY ∷ KEY_PARENTHESIS_TAIL ∷ SIGN_RIGHT_PAREN ∷ []) ∷ (SIGN_RIGHT_PAREN ∷ POSTFIX_PARTS ∷ OPERATIONS ∷ MASK ∷ []) ∷ []
unfolding grammar_rows top_rows types_rows expressions_rows operations_rows keys_rows statements_rows parser_rows control_rows tables_rows
key_parenthesis_rest_rights = refl

key_parenthesis_rest_value_1 : (span : Span) (first : Parse) (b a : Parse) → Children (SIGN_COMMA ∷ SIMPLE_KEY ∷ KEY_PARENTHESIS_TAIL ∷ SIGN_RIGHT_PAREN ∷ []) b → key_parenthesis_rest span first b ≡ both (λ one more. key_set_at span (Several (one ∷ more))) (simple_key first) (both (λ one more. one ∷ more) (simple_key (below (after (joined b a)))) (more_keys (below (after (after (joined b a))))))
key_parenthesis_rest_value_1 span first (Word t0 (Node k1 r1 u1 (Node k2 r2 u2 (Word t3 End)))) a h = refl
key_parenthesis_rest_value_1 span first _ a h = absurd (assumption)

key_parenthesis_rest_value_2 : (span : Span) (first : Parse) (b a : Parse) → Children (SIGN_RIGHT_PAREN ∷ POSTFIX_PARTS ∷ OPERATIONS ∷ MASK ∷ []) b → key_parenthesis_rest span first b ≡ one_key span (masked (operations (both with_parts (grouped span first) (parts (below (after (joined b a))))) (below (after (after (joined b a))))) (below (after (after (after (joined b a))))))
key_parenthesis_rest_value_2 span first (Word t0 (Node k1 r1 u1 (Node k2 r2 u2 (Node k3 r3 u3 End)))) a h = refl
key_parenthesis_rest_value_2 span first _ a h = absurd (assumption)

abbrev pub KeyParenthesisRestRow : Parse → Type 0
KeyParenthesisRestRow p =
    ((first_symbol p ≡ Some SIGN_COMMA) × Stands (SIGN_COMMA ∷ SIMPLE_KEY ∷ KEY_PARENTHESIS_TAIL ∷ SIGN_RIGHT_PAREN ∷ []) (opened p) (after p) × ((span : Span) (first : Parse) → key_parenthesis_rest span first (below p) ≡ both (λ one more. key_set_at span (Several (one ∷ more))) (simple_key first) (both (λ one more. one ∷ more) (simple_key (below (after (opened p)))) (more_keys (below (after (after (opened p))))))))
    ⊎ ((first_symbol p ≡ Some SIGN_RIGHT_PAREN) × Stands (SIGN_RIGHT_PAREN ∷ POSTFIX_PARTS ∷ OPERATIONS ∷ MASK ∷ []) (opened p) (after p) × ((span : Span) (first : Parse) → key_parenthesis_rest span first (below p) ≡ one_key span (masked (operations (both with_parts (grouped span first) (parts (below (after (opened p))))) (below (after (after (opened p))))) (below (after (after (after (opened p))))))))

key_parenthesis_rest_go : (k : ℕ) (r : Row) (b a : Parse) → OneOf ((SIGN_COMMA ∷ SIMPLE_KEY ∷ KEY_PARENTHESIS_TAIL ∷ SIGN_RIGHT_PAREN ∷ []) ∷ (SIGN_RIGHT_PAREN ∷ POSTFIX_PARTS ∷ OPERATIONS ∷ MASK ∷ []) ∷ []) r b → KeyParenthesisRestRow (Node k r b a)
key_parenthesis_rest_go k r b a (inl h) = inl (ap first_of h.0, stands (SIGN_COMMA ∷ SIMPLE_KEY ∷ KEY_PARENTHESIS_TAIL ∷ SIGN_RIGHT_PAREN ∷ []) b a h.1, λ span first. key_parenthesis_rest_value_1 span first b a h.1)
key_parenthesis_rest_go k r b a (inr (inl h)) = inr (ap first_of h.0, stands (SIGN_RIGHT_PAREN ∷ POSTFIX_PARTS ∷ OPERATIONS ∷ MASK ∷ []) b a h.1, λ span first. key_parenthesis_rest_value_2 span first b a h.1)
key_parenthesis_rest_go k r b a (inr (inr h)) = absurd h

pub key_parenthesis_rest_row : (p : Parse) → Begins KEY_PARENTHESIS_REST p → KeyParenthesisRestRow p
key_parenthesis_rest_row End h = absurd h
key_parenthesis_rest_row (Word t a) h = absurd h
key_parenthesis_rest_row (Node k r b a) h = key_parenthesis_rest_go k r b a (rw key_parenthesis_rest_rights at (rows_of_form KEY_PARENTHESIS_REST k r b h))

-- KEY_PARENTHESIS

key_parenthesis_rights : rights KEY_PARENTHESIS grammar_rows ≡ (TYPE_FORM ∷ SIGN_RIGHT_PAREN ∷ UNARY ∷ OPERATIONS ∷ MASK ∷ []) ∷ (SIMPLE_KEY ∷ KEY_PARENTHESIS_REST ∷ []) ∷ []
unfolding grammar_rows top_rows types_rows expressions_rows operations_rows keys_rows statements_rows parser_rows control_rows tables_rows
key_parenthesis_rights = refl

key_parenthesis_value_1 : (span : Span) (b a : Parse) → Children (TYPE_FORM ∷ SIGN_RIGHT_PAREN ∷ UNARY ∷ OPERATIONS ∷ MASK ∷ []) b → key_parenthesis span b ≡ one_key span (masked (operations (both (λ t e. expression_at span (kind.Cast t e)) (type_form (below (joined b a))) (unary_of (below (after (after (joined b a)))))) (below (after (after (after (joined b a)))))) (below (after (after (after (after (joined b a)))))))
key_parenthesis_value_1 span (Node k0 r0 u0 (Word t1 (Node k2 r2 u2 (Node k3 r3 u3 (Node k4 r4 u4 End))))) a h = refl
key_parenthesis_value_1 span _ a h = absurd (assumption)

key_parenthesis_value_2 : (span : Span) (b a : Parse) → Children (SIMPLE_KEY ∷ KEY_PARENTHESIS_REST ∷ []) b → key_parenthesis span b ≡ key_parenthesis_rest span (below (joined b a)) (below (after (joined b a)))
key_parenthesis_value_2 span (Node k0 r0 u0 (Node k1 r1 u1 End)) a h = refl
key_parenthesis_value_2 span _ a h = absurd (assumption)

abbrev pub KeyParenthesisRow : Parse → Type 0
KeyParenthesisRow p =
    ((first_symbol p ≡ Some TYPE_FORM) × Stands (TYPE_FORM ∷ SIGN_RIGHT_PAREN ∷ UNARY ∷ OPERATIONS ∷ MASK ∷ []) (opened p) (after p) × ((span : Span) → key_parenthesis span (below p) ≡ one_key span (masked (operations (both (λ t e. expression_at span (kind.Cast t e)) (type_form (below (opened p))) (unary_of (below (after (after (opened p)))))) (below (after (after (after (opened p)))))) (below (after (after (after (after (opened p)))))))))
    ⊎ ((first_symbol p ≡ Some SIMPLE_KEY) × Stands (SIMPLE_KEY ∷ KEY_PARENTHESIS_REST ∷ []) (opened p) (after p) × ((span : Span) → key_parenthesis span (below p) ≡ key_parenthesis_rest span (below (opened p)) (below (after (opened p)))))

key_parenthesis_go : (k : ℕ) (r : Row) (b a : Parse) → OneOf ((TYPE_FORM ∷ SIGN_RIGHT_PAREN ∷ UNARY ∷ OPERATIONS ∷ MASK ∷ []) ∷ (SIMPLE_KEY ∷ KEY_PARENTHESIS_REST ∷ []) ∷ []) r b → KeyParenthesisRow (Node k r b a)
key_parenthesis_go k r b a (inl h) = inl (ap first_of h.0, stands (TYPE_FORM ∷ SIGN_RIGHT_PAREN ∷ UNARY ∷ OPERATIONS ∷ MASK ∷ []) b a h.1, λ span. key_parenthesis_value_1 span b a h.1)
key_parenthesis_go k r b a (inr (inl h)) = inr (ap first_of h.0, stands (SIMPLE_KEY ∷ KEY_PARENTHESIS_REST ∷ []) b a h.1, λ span. key_parenthesis_value_2 span b a h.1)
key_parenthesis_go k r b a (inr (inr h)) = absurd h

pub key_parenthesis_row : (p : Parse) → Begins KEY_PARENTHESIS p → KeyParenthesisRow p
key_parenthesis_row End h = absurd h
key_parenthesis_row (Word t a) h = absurd h
key_parenthesis_row (Node k r b a) h = key_parenthesis_go k r b a (rw key_parenthesis_rights at (rows_of_form KEY_PARENTHESIS k r b h))

-- KEY_SET

key_set_rights : rights KEY_SET grammar_rows ≡ (KEYWORD_DEFAULT ∷ []) ∷ (SIGN_UNDERSCORE ∷ []) ∷ (UNARY_OPERATOR ∷ UNARY ∷ OPERATIONS ∷ MASK ∷ []) ∷ (ATOM ∷ POSTFIX_PARTS ∷ OPERATIONS ∷ MASK ∷ []) ∷ (SIGN_LEFT_PAREN ∷ KEY_PARENTHESIS ∷ []) ∷ []
unfolding grammar_rows top_rows types_rows expressions_rows operations_rows keys_rows statements_rows parser_rows control_rows tables_rows
key_set_rights = refl

key_set_value_1 : (b a : Parse) → Children (KEYWORD_DEFAULT ∷ []) b → key_set b ≡ with_token (λ t. option_map (λ kind. key_set_at t.span (One (key_at t.span kind))) (plain_key t.word)) (token_at (joined b a))
key_set_value_1 (Word t0 End) a h = refl
key_set_value_1 _ a h = absurd (assumption)

key_set_value_2 : (b a : Parse) → Children (SIGN_UNDERSCORE ∷ []) b → key_set b ≡ with_token (λ t. option_map (λ kind. key_set_at t.span (One (key_at t.span kind))) (plain_key t.word)) (token_at (joined b a))
key_set_value_2 (Word t0 End) a h = refl
key_set_value_2 _ a h = absurd (assumption)

key_set_value_3 : (b a : Parse) → Children (UNARY_OPERATOR ∷ UNARY ∷ OPERATIONS ∷ MASK ∷ []) b → key_set b ≡ option_map (λ one. key_set_at one.span (One one)) (masked (operations (with_operator (below (joined b a)) (unary_of (below (after (joined b a))))) (below (after (after (joined b a))))) (below (after (after (after (joined b a))))))
key_set_value_3 (Node k0 r0 u0 (Node k1 r1 u1 (Node k2 r2 u2 (Node k3 r3 u3 End)))) a h = ap (λ (which : ℕ). option_map (λ one. key_set_at one.span (One one)) (masked (operations (if which == UNARY_OPERATOR then with_operator u0 (unary_of u1) else both with_parts (atom u0) (parts u1)) u2) u3)) h.0.left
key_set_value_3 _ a h = absurd (assumption)

key_set_value_4 : (b a : Parse) → Children (ATOM ∷ POSTFIX_PARTS ∷ OPERATIONS ∷ MASK ∷ []) b → key_set b ≡ option_map (λ one. key_set_at one.span (One one)) (masked (operations (both with_parts (atom (below (joined b a))) (parts (below (after (joined b a))))) (below (after (after (joined b a))))) (below (after (after (after (joined b a))))))
key_set_value_4 (Node k0 r0 u0 (Node k1 r1 u1 (Node k2 r2 u2 (Node k3 r3 u3 End)))) a h = ap (λ (which : ℕ). option_map (λ one. key_set_at one.span (One one)) (masked (operations (if which == UNARY_OPERATOR then with_operator u0 (unary_of u1) else both with_parts (atom u0) (parts u1)) u2) u3)) h.0.left
key_set_value_4 _ a h = absurd (assumption)

key_set_value_5 : (b a : Parse) → Children (SIGN_LEFT_PAREN ∷ KEY_PARENTHESIS ∷ []) b → key_set b ≡ with_token (λ begin. key_parenthesis begin.span (below (after (joined b a)))) (token_at (joined b a))
key_set_value_5 (Word t0 (Node k1 r1 u1 End)) a h = refl
key_set_value_5 _ a h = absurd (assumption)

abbrev pub KeySetRow : Parse → Type 0
KeySetRow p =
    ((first_symbol p ≡ Some KEYWORD_DEFAULT) × Stands (KEYWORD_DEFAULT ∷ []) (opened p) (after p) × (key_set (below p) ≡ with_token (λ t. option_map (λ kind. key_set_at t.span (One (key_at t.span kind))) (plain_key t.word)) (token_at (opened p))))
    ⊎ ((first_symbol p ≡ Some SIGN_UNDERSCORE) × Stands (SIGN_UNDERSCORE ∷ []) (opened p) (after p) × (key_set (below p) ≡ with_token (λ t. option_map (λ kind. key_set_at t.span (One (key_at t.span kind))) (plain_key t.word)) (token_at (opened p))))
    ⊎ ((first_symbol p ≡ Some UNARY_OPERATOR) × Stands (UNARY_OPERATOR ∷ UNARY ∷ OPERATIONS ∷ MASK ∷ []) (opened p) (after p) × (key_set (below p) ≡ option_map (λ one. key_set_at one.span (One one)) (masked (operations (with_operator (below (opened p)) (unary_of (below (after (opened p))))) (below (after (after (opened p))))) (below (after (after (after (opened p))))))))
    ⊎ ((first_symbol p ≡ Some ATOM) × Stands (ATOM ∷ POSTFIX_PARTS ∷ OPERATIONS ∷ MASK ∷ []) (opened p) (after p) × (key_set (below p) ≡ option_map (λ one. key_set_at one.span (One one)) (masked (operations (both with_parts (atom (below (opened p))) (parts (below (after (opened p))))) (below (after (after (opened p))))) (below (after (after (after (opened p))))))))
    ⊎ ((first_symbol p ≡ Some SIGN_LEFT_PAREN) × Stands (SIGN_LEFT_PAREN ∷ KEY_PARENTHESIS ∷ []) (opened p) (after p) × (key_set (below p) ≡ with_token (λ begin. key_parenthesis begin.span (below (after (opened p)))) (token_at (opened p))))

key_set_go : (k : ℕ) (r : Row) (b a : Parse) → OneOf ((KEYWORD_DEFAULT ∷ []) ∷ (SIGN_UNDERSCORE ∷ []) ∷ (UNARY_OPERATOR ∷ UNARY ∷ OPERATIONS ∷ MASK ∷ []) ∷ (ATOM ∷ POSTFIX_PARTS ∷ OPERATIONS ∷ MASK ∷ []) ∷ (SIGN_LEFT_PAREN ∷ KEY_PARENTHESIS ∷ []) ∷ []) r b → KeySetRow (Node k r b a)
key_set_go k r b a (inl h) = inl (ap first_of h.0, stands (KEYWORD_DEFAULT ∷ []) b a h.1, key_set_value_1 b a h.1)
key_set_go k r b a (inr (inl h)) = inr (inl (ap first_of h.0, stands (SIGN_UNDERSCORE ∷ []) b a h.1, key_set_value_2 b a h.1))
key_set_go k r b a (inr (inr (inl h))) = inr (inr (inl (ap first_of h.0, stands (UNARY_OPERATOR ∷ UNARY ∷ OPERATIONS ∷ MASK ∷ []) b a h.1, key_set_value_3 b a h.1)))
key_set_go k r b a (inr (inr (inr (inl h)))) = inr (inr (inr (inl (ap first_of h.0, stands (ATOM ∷ POSTFIX_PARTS ∷ OPERATIONS ∷ MASK ∷ []) b a h.1, key_set_value_4 b a h.1))))
key_set_go k r b a (inr (inr (inr (inr (inl h))))) = inr (inr (inr (inr (ap first_of h.0, stands (SIGN_LEFT_PAREN ∷ KEY_PARENTHESIS ∷ []) b a h.1, key_set_value_5 b a h.1))))
key_set_go k r b a (inr (inr (inr (inr (inr h))))) = absurd h

pub key_set_row : (p : Parse) → Begins KEY_SET p → KeySetRow p
key_set_row End h = absurd h
key_set_row (Word t a) h = absurd h
key_set_row (Node k r b a) h = key_set_go k r b a (rw key_set_rights at (rows_of_form KEY_SET k r b h))
