-- The rows of expressions.
use Rattle.std.proofs.Common.{◌≡◌, ℕ, [], ◌∷◌, None, Some, refl, ap, inl, inr, ◌⊎◌, Option, List}
use Rattle.std.specs.Prelude.{◌==◌, if◌then◌else◌}
use Rattle.p4_grammar.specs.Expressions.{expression_at, with_parts, unary_operator_of, atom_at, part_at, choice_of, index_at, type_form, expression, operations, choice, unary_of, with_operator, parenthesis, atom, parts, member, slice_end, optional_expressions, expressions, expressions_tail}
use Rattle.p4_grammar.specs.Names.{name_at, word_name}
use Rattle.p4_tree.specs.declared.expressions.Expression.{Expression}
use Rattle.tg_base.specs.declared.place.Span.{Span}
use Rattle.p4_tree.specs.declared.expressions.ExpressionKind.TheVariants as kind
use Rattle.p4_tree.specs.declared.expressions.PostfixKind.TheVariants as postfix
use Rattle.ll1_engine.specs.declared.grammar.Row.{Row}
use Rattle.p4_grammar.specs.declared.symbols.TheConstants.{ATOM, BASE, CHOICE, CLOSE_ARGUMENTS, EXPRESSION, EXPRESSIONS, EXPRESSIONS_TAIL, ID, INT_LITERAL, KEYWORD_FALSE, KEYWORD_TRUE, LOOKAHEAD, MEMBER_PART, OPEN_ARGUMENTS, OPERATIONS, OPTIONAL_EXPRESSIONS, PARENTHESIS, POSTFIX_PARTS, SIGN_COLON, SIGN_COMMA, SIGN_DOT, SIGN_LEFT_BRACE, SIGN_LEFT_BRACKET, SIGN_LEFT_PAREN, SIGN_MINUS, SIGN_NOT, SIGN_QUESTION, SIGN_RIGHT_BRACE, SIGN_RIGHT_BRACKET, SIGN_RIGHT_PAREN, SIGN_TILDE, SLICE_END, TEXT, TYPE_FORM, UNARY, UNARY_OPERATOR, WORD}
use Rattle.p4_grammar.specs.Rows.{top_rows, types_rows, expressions_rows, operations_rows, keys_rows, statements_rows, parser_rows, control_rows, tables_rows, grammar_rows}
use Rattle.p4_grammar.specs.Parses.{Parse, End, Word, Node, place_of, option_map, both, all_three}
use Rattle.p4_grammar.specs.Ahead.{Begins, below, after, joined, opened, token_at, first_of, first_symbol}
use Rattle.p4_grammar.proofs.RowsOfForms.{rights, Children, OneOf, Stands, rows_of_form, stands, with_token}

-- EXPRESSION

expression_rights : rights EXPRESSION grammar_rows ≡ (UNARY ∷ OPERATIONS ∷ []) ∷ []
unfolding grammar_rows top_rows types_rows expressions_rows operations_rows keys_rows statements_rows parser_rows control_rows tables_rows
expression_rights = refl

expression_value_1 : (b a : Parse) → Children (UNARY ∷ OPERATIONS ∷ []) b → expression b ≡ operations (unary_of (below (joined b a))) (below (after (joined b a)))
expression_value_1 (Node k0 r0 u0 (Node k1 r1 u1 End)) a h = refl
expression_value_1 _ a h = absurd (assumption)

abbrev pub ExpressionRow : Parse → Type 0
ExpressionRow p =
    (first_symbol p ≡ Some UNARY) × Stands (UNARY ∷ OPERATIONS ∷ []) (opened p) (after p) × (expression (below p) ≡ operations (unary_of (below (opened p))) (below (after (opened p))))

expression_go : (k : ℕ) (r : Row) (b a : Parse) → OneOf ((UNARY ∷ OPERATIONS ∷ []) ∷ []) r b → ExpressionRow (Node k r b a)
expression_go k r b a (inl h) = (ap first_of h.0, stands (UNARY ∷ OPERATIONS ∷ []) b a h.1, expression_value_1 b a h.1)
expression_go k r b a (inr h) = absurd h

pub expression_row : (p : Parse) → Begins EXPRESSION p → ExpressionRow p
expression_row End h = absurd h
expression_row (Word t a) h = absurd h
expression_row (Node k r b a) h = expression_go k r b a (rw expression_rights at (rows_of_form EXPRESSION k r b h))

-- CHOICE

choice_rights : rights CHOICE grammar_rows ≡ [] ∷ (SIGN_QUESTION ∷ EXPRESSION ∷ SIGN_COLON ∷ EXPRESSION ∷ []) ∷ []
unfolding grammar_rows top_rows types_rows expressions_rows operations_rows keys_rows statements_rows parser_rows control_rows tables_rows
choice_rights = refl

choice_value_1 : (e : Option Expression) (b a : Parse) → Children [] b → choice e b ≡ e
choice_value_1 e End a h = refl
choice_value_1 e _ a h = absurd (assumption)

choice_value_2 : (e : Option Expression) (b a : Parse) → Children (SIGN_QUESTION ∷ EXPRESSION ∷ SIGN_COLON ∷ EXPRESSION ∷ []) b → choice e b ≡ all_three choice_of e (expression (below (after (joined b a)))) (expression (below (after (after (after (joined b a))))))
choice_value_2 e (Word t0 (Node k1 r1 u1 (Word t2 (Node k3 r3 u3 End)))) a h = refl
choice_value_2 e _ a h = absurd (assumption)

abbrev pub ChoiceRow : Parse → Type 0
ChoiceRow p =
    ((first_symbol p ≡ None) × Stands [] (opened p) (after p) × ((e : Option Expression) → choice e (below p) ≡ e))
    ⊎ ((first_symbol p ≡ Some SIGN_QUESTION) × Stands (SIGN_QUESTION ∷ EXPRESSION ∷ SIGN_COLON ∷ EXPRESSION ∷ []) (opened p) (after p) × ((e : Option Expression) → choice e (below p) ≡ all_three choice_of e (expression (below (after (opened p)))) (expression (below (after (after (after (opened p))))))))

choice_go : (k : ℕ) (r : Row) (b a : Parse) → OneOf ([] ∷ (SIGN_QUESTION ∷ EXPRESSION ∷ SIGN_COLON ∷ EXPRESSION ∷ []) ∷ []) r b → ChoiceRow (Node k r b a)
choice_go k r b a (inl h) = inl (ap first_of h.0, stands [] b a h.1, λ e. choice_value_1 e b a h.1)
choice_go k r b a (inr (inl h)) = inr (ap first_of h.0, stands (SIGN_QUESTION ∷ EXPRESSION ∷ SIGN_COLON ∷ EXPRESSION ∷ []) b a h.1, λ e. choice_value_2 e b a h.1)
choice_go k r b a (inr (inr h)) = absurd h

pub choice_row : (p : Parse) → Begins CHOICE p → ChoiceRow p
choice_row End h = absurd h
choice_row (Word t a) h = absurd h
choice_row (Node k r b a) h = choice_go k r b a (rw choice_rights at (rows_of_form CHOICE k r b h))

-- UNARY

unary_rights : rights UNARY grammar_rows ≡ (UNARY_OPERATOR ∷ UNARY ∷ []) ∷ (ATOM ∷ POSTFIX_PARTS ∷ []) ∷ (SIGN_LEFT_PAREN ∷ PARENTHESIS ∷ []) ∷ []
unfolding grammar_rows top_rows types_rows expressions_rows operations_rows keys_rows statements_rows parser_rows control_rows tables_rows
unary_rights = refl

unary_value_1 : (b a : Parse) → Children (UNARY_OPERATOR ∷ UNARY ∷ []) b → unary_of b ≡ with_operator (below (joined b a)) (unary_of (below (after (joined b a))))
unary_value_1 (Node k0 r0 u0 (Node k1 r1 u1 End)) a h = ap (λ (which : ℕ). if which == UNARY_OPERATOR then with_operator u0 (unary_of u1) else both with_parts (atom u0) (parts u1)) h.0.left
unary_value_1 _ a h = absurd (assumption)

unary_value_2 : (b a : Parse) → Children (ATOM ∷ POSTFIX_PARTS ∷ []) b → unary_of b ≡ both with_parts (atom (below (joined b a))) (parts (below (after (joined b a))))
unary_value_2 (Node k0 r0 u0 (Node k1 r1 u1 End)) a h = ap (λ (which : ℕ). if which == UNARY_OPERATOR then with_operator u0 (unary_of u1) else both with_parts (atom u0) (parts u1)) h.0.left
unary_value_2 _ a h = absurd (assumption)

unary_value_3 : (b a : Parse) → Children (SIGN_LEFT_PAREN ∷ PARENTHESIS ∷ []) b → unary_of b ≡ with_token (λ begin. parenthesis begin.span (below (after (joined b a)))) (token_at (joined b a))
unary_value_3 (Word t0 (Node k1 r1 u1 End)) a h = refl
unary_value_3 _ a h = absurd (assumption)

abbrev pub UnaryRow : Parse → Type 0
UnaryRow p =
    ((first_symbol p ≡ Some UNARY_OPERATOR) × Stands (UNARY_OPERATOR ∷ UNARY ∷ []) (opened p) (after p) × (unary_of (below p) ≡ with_operator (below (opened p)) (unary_of (below (after (opened p))))))
    ⊎ ((first_symbol p ≡ Some ATOM) × Stands (ATOM ∷ POSTFIX_PARTS ∷ []) (opened p) (after p) × (unary_of (below p) ≡ both with_parts (atom (below (opened p))) (parts (below (after (opened p))))))
    ⊎ ((first_symbol p ≡ Some SIGN_LEFT_PAREN) × Stands (SIGN_LEFT_PAREN ∷ PARENTHESIS ∷ []) (opened p) (after p) × (unary_of (below p) ≡ with_token (λ begin. parenthesis begin.span (below (after (opened p)))) (token_at (opened p))))

unary_go : (k : ℕ) (r : Row) (b a : Parse) → OneOf ((UNARY_OPERATOR ∷ UNARY ∷ []) ∷ (ATOM ∷ POSTFIX_PARTS ∷ []) ∷ (SIGN_LEFT_PAREN ∷ PARENTHESIS ∷ []) ∷ []) r b → UnaryRow (Node k r b a)
unary_go k r b a (inl h) = inl (ap first_of h.0, stands (UNARY_OPERATOR ∷ UNARY ∷ []) b a h.1, unary_value_1 b a h.1)
unary_go k r b a (inr (inl h)) = inr (inl (ap first_of h.0, stands (ATOM ∷ POSTFIX_PARTS ∷ []) b a h.1, unary_value_2 b a h.1))
unary_go k r b a (inr (inr (inl h))) = inr (inr (ap first_of h.0, stands (SIGN_LEFT_PAREN ∷ PARENTHESIS ∷ []) b a h.1, unary_value_3 b a h.1))
unary_go k r b a (inr (inr (inr h))) = absurd h

pub unary_row : (p : Parse) → Begins UNARY p → UnaryRow p
unary_row End h = absurd h
unary_row (Word t a) h = absurd h
unary_row (Node k r b a) h = unary_go k r b a (rw unary_rights at (rows_of_form UNARY k r b h))

-- UNARY_OPERATOR

unary_operator_rights : rights UNARY_OPERATOR grammar_rows ≡ (SIGN_NOT ∷ []) ∷ (SIGN_TILDE ∷ []) ∷ (SIGN_MINUS ∷ []) ∷ []
unfolding grammar_rows top_rows types_rows expressions_rows operations_rows keys_rows statements_rows parser_rows control_rows tables_rows
unary_operator_rights = refl

unary_operator_value_1 : (e : Option Expression) (b a : Parse) → Children (SIGN_NOT ∷ []) b → with_operator b e ≡ with_token (λ t. both (λ o operand. expression_at t.span (kind.Unary o operand)) (unary_operator_of t.word) e) (token_at (joined b a))
unary_operator_value_1 e (Word t0 End) a h = refl
unary_operator_value_1 e _ a h = absurd (assumption)

unary_operator_value_2 : (e : Option Expression) (b a : Parse) → Children (SIGN_TILDE ∷ []) b → with_operator b e ≡ with_token (λ t. both (λ o operand. expression_at t.span (kind.Unary o operand)) (unary_operator_of t.word) e) (token_at (joined b a))
unary_operator_value_2 e (Word t0 End) a h = refl
unary_operator_value_2 e _ a h = absurd (assumption)

unary_operator_value_3 : (e : Option Expression) (b a : Parse) → Children (SIGN_MINUS ∷ []) b → with_operator b e ≡ with_token (λ t. both (λ o operand. expression_at t.span (kind.Unary o operand)) (unary_operator_of t.word) e) (token_at (joined b a))
unary_operator_value_3 e (Word t0 End) a h = refl
unary_operator_value_3 e _ a h = absurd (assumption)

abbrev pub UnaryOperatorRow : Parse → Type 0
UnaryOperatorRow p =
    ((first_symbol p ≡ Some SIGN_NOT) × Stands (SIGN_NOT ∷ []) (opened p) (after p) × ((e : Option Expression) → with_operator (below p) e ≡ with_token (λ t. both (λ o operand. expression_at t.span (kind.Unary o operand)) (unary_operator_of t.word) e) (token_at (opened p))))
    ⊎ ((first_symbol p ≡ Some SIGN_TILDE) × Stands (SIGN_TILDE ∷ []) (opened p) (after p) × ((e : Option Expression) → with_operator (below p) e ≡ with_token (λ t. both (λ o operand. expression_at t.span (kind.Unary o operand)) (unary_operator_of t.word) e) (token_at (opened p))))
    ⊎ ((first_symbol p ≡ Some SIGN_MINUS) × Stands (SIGN_MINUS ∷ []) (opened p) (after p) × ((e : Option Expression) → with_operator (below p) e ≡ with_token (λ t. both (λ o operand. expression_at t.span (kind.Unary o operand)) (unary_operator_of t.word) e) (token_at (opened p))))

unary_operator_go : (k : ℕ) (r : Row) (b a : Parse) → OneOf ((SIGN_NOT ∷ []) ∷ (SIGN_TILDE ∷ []) ∷ (SIGN_MINUS ∷ []) ∷ []) r b → UnaryOperatorRow (Node k r b a)
unary_operator_go k r b a (inl h) = inl (ap first_of h.0, stands (SIGN_NOT ∷ []) b a h.1, λ e. unary_operator_value_1 e b a h.1)
unary_operator_go k r b a (inr (inl h)) = inr (inl (ap first_of h.0, stands (SIGN_TILDE ∷ []) b a h.1, λ e. unary_operator_value_2 e b a h.1))
unary_operator_go k r b a (inr (inr (inl h))) = inr (inr (ap first_of h.0, stands (SIGN_MINUS ∷ []) b a h.1, λ e. unary_operator_value_3 e b a h.1))
unary_operator_go k r b a (inr (inr (inr h))) = absurd h

pub unary_operator_row : (p : Parse) → Begins UNARY_OPERATOR p → UnaryOperatorRow p
unary_operator_row End h = absurd h
unary_operator_row (Word t a) h = absurd h
unary_operator_row (Node k r b a) h = unary_operator_go k r b a (rw unary_operator_rights at (rows_of_form UNARY_OPERATOR k r b h))

-- PARENTHESIS

parenthesis_rights : rights PARENTHESIS grammar_rows ≡ (TYPE_FORM ∷ SIGN_RIGHT_PAREN ∷ UNARY ∷ []) ∷ (EXPRESSION ∷ SIGN_RIGHT_PAREN ∷ POSTFIX_PARTS ∷ []) ∷ []
unfolding grammar_rows top_rows types_rows expressions_rows operations_rows keys_rows statements_rows parser_rows control_rows tables_rows
parenthesis_rights = refl

parenthesis_value_1 : (span : Span) (b a : Parse) → Children (TYPE_FORM ∷ SIGN_RIGHT_PAREN ∷ UNARY ∷ []) b → parenthesis span b ≡ both (λ t e. expression_at span (kind.Cast t e)) (type_form (below (joined b a))) (unary_of (below (after (after (joined b a)))))
parenthesis_value_1 span (Node k0 r0 u0 (Word t1 (Node k2 r2 u2 End))) a h = ap (λ (which : ℕ). if which == TYPE_FORM then both (λ t e. expression_at span (kind.Cast t e)) (type_form u0) (unary_of u2) else both with_parts (option_map (λ e. expression_at span (kind.Parenthesized e)) (expression u0)) (parts u2)) h.0.left
parenthesis_value_1 span _ a h = absurd (assumption)

parenthesis_value_2 : (span : Span) (b a : Parse) → Children (EXPRESSION ∷ SIGN_RIGHT_PAREN ∷ POSTFIX_PARTS ∷ []) b → parenthesis span b ≡ both with_parts (option_map (λ e. expression_at span (kind.Parenthesized e)) (expression (below (joined b a)))) (parts (below (after (after (joined b a)))))
parenthesis_value_2 span (Node k0 r0 u0 (Word t1 (Node k2 r2 u2 End))) a h = ap (λ (which : ℕ). if which == TYPE_FORM then both (λ t e. expression_at span (kind.Cast t e)) (type_form u0) (unary_of u2) else both with_parts (option_map (λ e. expression_at span (kind.Parenthesized e)) (expression u0)) (parts u2)) h.0.left
parenthesis_value_2 span _ a h = absurd (assumption)

abbrev pub ParenthesisRow : Parse → Type 0
ParenthesisRow p =
    ((first_symbol p ≡ Some TYPE_FORM) × Stands (TYPE_FORM ∷ SIGN_RIGHT_PAREN ∷ UNARY ∷ []) (opened p) (after p) × ((span : Span) → parenthesis span (below p) ≡ both (λ t e. expression_at span (kind.Cast t e)) (type_form (below (opened p))) (unary_of (below (after (after (opened p)))))))
    ⊎ ((first_symbol p ≡ Some EXPRESSION) × Stands (EXPRESSION ∷ SIGN_RIGHT_PAREN ∷ POSTFIX_PARTS ∷ []) (opened p) (after p) × ((span : Span) → parenthesis span (below p) ≡ both with_parts (option_map (λ e. expression_at span (kind.Parenthesized e)) (expression (below (opened p)))) (parts (below (after (after (opened p)))))))

parenthesis_go : (k : ℕ) (r : Row) (b a : Parse) → OneOf ((TYPE_FORM ∷ SIGN_RIGHT_PAREN ∷ UNARY ∷ []) ∷ (EXPRESSION ∷ SIGN_RIGHT_PAREN ∷ POSTFIX_PARTS ∷ []) ∷ []) r b → ParenthesisRow (Node k r b a)
parenthesis_go k r b a (inl h) = inl (ap first_of h.0, stands (TYPE_FORM ∷ SIGN_RIGHT_PAREN ∷ UNARY ∷ []) b a h.1, λ span. parenthesis_value_1 span b a h.1)
parenthesis_go k r b a (inr (inl h)) = inr (ap first_of h.0, stands (EXPRESSION ∷ SIGN_RIGHT_PAREN ∷ POSTFIX_PARTS ∷ []) b a h.1, λ span. parenthesis_value_2 span b a h.1)
parenthesis_go k r b a (inr (inr h)) = absurd h

pub parenthesis_row : (p : Parse) → Begins PARENTHESIS p → ParenthesisRow p
parenthesis_row End h = absurd h
parenthesis_row (Word t a) h = absurd h
parenthesis_row (Node k r b a) h = parenthesis_go k r b a (rw parenthesis_rights at (rows_of_form PARENTHESIS k r b h))

-- ATOM

atom_rights : rights ATOM grammar_rows ≡ (INT_LITERAL ∷ []) ∷ (TEXT ∷ []) ∷ (KEYWORD_TRUE ∷ []) ∷ (KEYWORD_FALSE ∷ []) ∷ (WORD ∷ []) ∷ (BASE ∷ []) ∷ (SIGN_LEFT_BRACE ∷ OPTIONAL_EXPRESSIONS ∷ SIGN_RIGHT_BRACE ∷ []) ∷ []
unfolding grammar_rows top_rows types_rows expressions_rows operations_rows keys_rows statements_rows parser_rows control_rows tables_rows
atom_rights = refl

atom_value_1 : (b a : Parse) → Children (INT_LITERAL ∷ []) b → atom b ≡ with_token (λ t. option_map (λ kind. expression_at t.span kind) (atom_at t.span t.word)) (token_at (joined b a))
atom_value_1 (Word t0 End) a h = refl
atom_value_1 _ a h = absurd (assumption)

atom_value_2 : (b a : Parse) → Children (TEXT ∷ []) b → atom b ≡ with_token (λ t. option_map (λ kind. expression_at t.span kind) (atom_at t.span t.word)) (token_at (joined b a))
atom_value_2 (Word t0 End) a h = refl
atom_value_2 _ a h = absurd (assumption)

atom_value_3 : (b a : Parse) → Children (KEYWORD_TRUE ∷ []) b → atom b ≡ with_token (λ t. option_map (λ kind. expression_at t.span kind) (atom_at t.span t.word)) (token_at (joined b a))
atom_value_3 (Word t0 End) a h = refl
atom_value_3 _ a h = absurd (assumption)

atom_value_4 : (b a : Parse) → Children (KEYWORD_FALSE ∷ []) b → atom b ≡ with_token (λ t. option_map (λ kind. expression_at t.span kind) (atom_at t.span t.word)) (token_at (joined b a))
atom_value_4 (Word t0 End) a h = refl
atom_value_4 _ a h = absurd (assumption)

atom_value_5 : (b a : Parse) → Children (WORD ∷ []) b → atom b ≡ both (λ span n. expression_at span (kind.Name n)) (place_of (below (joined b a))) (word_name (below (joined b a)))
atom_value_5 (Node k0 r0 u0 End) a h = refl
atom_value_5 _ a h = absurd (assumption)

atom_value_6 : (b a : Parse) → Children (BASE ∷ []) b → atom b ≡ with_token (λ t. option_map (λ kind. expression_at t.span kind) (atom_at t.span t.word)) (token_at (joined b a))
atom_value_6 (Word t0 End) a h = refl
atom_value_6 _ a h = absurd (assumption)

atom_value_7 : (b a : Parse) → Children (SIGN_LEFT_BRACE ∷ OPTIONAL_EXPRESSIONS ∷ SIGN_RIGHT_BRACE ∷ []) b → atom b ≡ with_token (λ begin. option_map (λ es. expression_at begin.span (kind.List es)) (optional_expressions (below (after (joined b a))))) (token_at (joined b a))
atom_value_7 (Word t0 (Node k1 r1 u1 (Word t2 End))) a h = refl
atom_value_7 _ a h = absurd (assumption)

abbrev pub AtomRow : Parse → Type 0
AtomRow p =
    ((first_symbol p ≡ Some INT_LITERAL) × Stands (INT_LITERAL ∷ []) (opened p) (after p) × (atom (below p) ≡ with_token (λ t. option_map (λ kind. expression_at t.span kind) (atom_at t.span t.word)) (token_at (opened p))))
    ⊎ ((first_symbol p ≡ Some TEXT) × Stands (TEXT ∷ []) (opened p) (after p) × (atom (below p) ≡ with_token (λ t. option_map (λ kind. expression_at t.span kind) (atom_at t.span t.word)) (token_at (opened p))))
    ⊎ ((first_symbol p ≡ Some KEYWORD_TRUE) × Stands (KEYWORD_TRUE ∷ []) (opened p) (after p) × (atom (below p) ≡ with_token (λ t. option_map (λ kind. expression_at t.span kind) (atom_at t.span t.word)) (token_at (opened p))))
    ⊎ ((first_symbol p ≡ Some KEYWORD_FALSE) × Stands (KEYWORD_FALSE ∷ []) (opened p) (after p) × (atom (below p) ≡ with_token (λ t. option_map (λ kind. expression_at t.span kind) (atom_at t.span t.word)) (token_at (opened p))))
    ⊎ ((first_symbol p ≡ Some WORD) × Stands (WORD ∷ []) (opened p) (after p) × (atom (below p) ≡ both (λ span n. expression_at span (kind.Name n)) (place_of (below (opened p))) (word_name (below (opened p)))))
    ⊎ ((first_symbol p ≡ Some BASE) × Stands (BASE ∷ []) (opened p) (after p) × (atom (below p) ≡ with_token (λ t. option_map (λ kind. expression_at t.span kind) (atom_at t.span t.word)) (token_at (opened p))))
    ⊎ ((first_symbol p ≡ Some SIGN_LEFT_BRACE) × Stands (SIGN_LEFT_BRACE ∷ OPTIONAL_EXPRESSIONS ∷ SIGN_RIGHT_BRACE ∷ []) (opened p) (after p) × (atom (below p) ≡ with_token (λ begin. option_map (λ es. expression_at begin.span (kind.List es)) (optional_expressions (below (after (opened p))))) (token_at (opened p))))

atom_go : (k : ℕ) (r : Row) (b a : Parse) → OneOf ((INT_LITERAL ∷ []) ∷ (TEXT ∷ []) ∷ (KEYWORD_TRUE ∷ []) ∷ (KEYWORD_FALSE ∷ []) ∷ (WORD ∷ []) ∷ (BASE ∷ []) ∷ (SIGN_LEFT_BRACE ∷ OPTIONAL_EXPRESSIONS ∷ SIGN_RIGHT_BRACE ∷ []) ∷ []) r b → AtomRow (Node k r b a)
atom_go k r b a (inl h) = inl (ap first_of h.0, stands (INT_LITERAL ∷ []) b a h.1, atom_value_1 b a h.1)
atom_go k r b a (inr (inl h)) = inr (inl (ap first_of h.0, stands (TEXT ∷ []) b a h.1, atom_value_2 b a h.1))
atom_go k r b a (inr (inr (inl h))) = inr (inr (inl (ap first_of h.0, stands (KEYWORD_TRUE ∷ []) b a h.1, atom_value_3 b a h.1)))
atom_go k r b a (inr (inr (inr (inl h)))) = inr (inr (inr (inl (ap first_of h.0, stands (KEYWORD_FALSE ∷ []) b a h.1, atom_value_4 b a h.1))))
atom_go k r b a (inr (inr (inr (inr (inl h))))) = inr (inr (inr (inr (inl (ap first_of h.0, stands (WORD ∷ []) b a h.1, atom_value_5 b a h.1)))))
atom_go k r b a (inr (inr (inr (inr (inr (inl h)))))) = inr (inr (inr (inr (inr (inl (ap first_of h.0, stands (BASE ∷ []) b a h.1, atom_value_6 b a h.1))))))
atom_go k r b a (inr (inr (inr (inr (inr (inr (inl h))))))) = inr (inr (inr (inr (inr (inr (ap first_of h.0, stands (SIGN_LEFT_BRACE ∷ OPTIONAL_EXPRESSIONS ∷ SIGN_RIGHT_BRACE ∷ []) b a h.1, atom_value_7 b a h.1))))))
atom_go k r b a (inr (inr (inr (inr (inr (inr (inr h))))))) = absurd h

pub atom_row : (p : Parse) → Begins ATOM p → AtomRow p
atom_row End h = absurd h
atom_row (Word t a) h = absurd h
atom_row (Node k r b a) h = atom_go k r b a (rw atom_rights at (rows_of_form ATOM k r b h))

-- POSTFIX_PARTS

postfix_parts_rights : rights POSTFIX_PARTS grammar_rows ≡ [] ∷ (SIGN_DOT ∷ MEMBER_PART ∷ POSTFIX_PARTS ∷ []) ∷ (SIGN_LEFT_BRACKET ∷ EXPRESSION ∷ SLICE_END ∷ SIGN_RIGHT_BRACKET ∷ POSTFIX_PARTS ∷ []) ∷ (SIGN_LEFT_PAREN ∷ OPTIONAL_EXPRESSIONS ∷ SIGN_RIGHT_PAREN ∷ POSTFIX_PARTS ∷ []) ∷ []
unfolding grammar_rows top_rows types_rows expressions_rows operations_rows keys_rows statements_rows parser_rows control_rows tables_rows
postfix_parts_rights = refl

postfix_parts_value_1 : (b a : Parse) → Children [] b → parts b ≡ Some []
postfix_parts_value_1 End a h = refl
postfix_parts_value_1 _ a h = absurd (assumption)

postfix_parts_value_2 : (b a : Parse) → Children (SIGN_DOT ∷ MEMBER_PART ∷ POSTFIX_PARTS ∷ []) b → parts b ≡ with_token (λ dot. both (λ one more. one ∷ more) (option_map (λ m. part_at dot.span m) (member (below (after (joined b a))))) (parts (below (after (after (joined b a)))))) (token_at (joined b a))
postfix_parts_value_2 (Word t0 (Node k1 r1 u1 (Node k2 r2 u2 End))) a h = refl
postfix_parts_value_2 _ a h = absurd (assumption)

postfix_parts_value_3 : (b a : Parse) → Children (SIGN_LEFT_BRACKET ∷ EXPRESSION ∷ SLICE_END ∷ SIGN_RIGHT_BRACKET ∷ POSTFIX_PARTS ∷ []) b → parts b ≡ with_token (λ begin. both (λ one more. one ∷ more) (both (λ e low. index_at begin.span e low) (expression (below (after (joined b a)))) (slice_end (below (after (after (joined b a)))))) (parts (below (after (after (after (after (joined b a)))))))) (token_at (joined b a))
postfix_parts_value_3 (Word t0 (Node k1 r1 u1 (Node k2 r2 u2 (Word t3 (Node k4 r4 u4 End))))) a h = refl
postfix_parts_value_3 _ a h = absurd (assumption)

postfix_parts_value_4 : (b a : Parse) → Children (SIGN_LEFT_PAREN ∷ OPTIONAL_EXPRESSIONS ∷ SIGN_RIGHT_PAREN ∷ POSTFIX_PARTS ∷ []) b → parts b ≡ with_token (λ begin. both (λ one more. one ∷ more) (option_map (λ es. part_at begin.span (postfix.Call es)) (optional_expressions (below (after (joined b a))))) (parts (below (after (after (after (joined b a))))))) (token_at (joined b a))
postfix_parts_value_4 (Word t0 (Node k1 r1 u1 (Word t2 (Node k3 r3 u3 End)))) a h = refl
postfix_parts_value_4 _ a h = absurd (assumption)

abbrev pub PostfixPartsRow : Parse → Type 0
PostfixPartsRow p =
    ((first_symbol p ≡ None) × Stands [] (opened p) (after p) × (parts (below p) ≡ Some []))
    ⊎ ((first_symbol p ≡ Some SIGN_DOT) × Stands (SIGN_DOT ∷ MEMBER_PART ∷ POSTFIX_PARTS ∷ []) (opened p) (after p) × (parts (below p) ≡ with_token (λ dot. both (λ one more. one ∷ more) (option_map (λ m. part_at dot.span m) (member (below (after (opened p))))) (parts (below (after (after (opened p)))))) (token_at (opened p))))
    ⊎ ((first_symbol p ≡ Some SIGN_LEFT_BRACKET) × Stands (SIGN_LEFT_BRACKET ∷ EXPRESSION ∷ SLICE_END ∷ SIGN_RIGHT_BRACKET ∷ POSTFIX_PARTS ∷ []) (opened p) (after p) × (parts (below p) ≡ with_token (λ begin. both (λ one more. one ∷ more) (both (λ e low. index_at begin.span e low) (expression (below (after (opened p)))) (slice_end (below (after (after (opened p)))))) (parts (below (after (after (after (after (opened p)))))))) (token_at (opened p))))
    ⊎ ((first_symbol p ≡ Some SIGN_LEFT_PAREN) × Stands (SIGN_LEFT_PAREN ∷ OPTIONAL_EXPRESSIONS ∷ SIGN_RIGHT_PAREN ∷ POSTFIX_PARTS ∷ []) (opened p) (after p) × (parts (below p) ≡ with_token (λ begin. both (λ one more. one ∷ more) (option_map (λ es. part_at begin.span (postfix.Call es)) (optional_expressions (below (after (opened p))))) (parts (below (after (after (after (opened p))))))) (token_at (opened p))))

postfix_parts_go : (k : ℕ) (r : Row) (b a : Parse) → OneOf ([] ∷ (SIGN_DOT ∷ MEMBER_PART ∷ POSTFIX_PARTS ∷ []) ∷ (SIGN_LEFT_BRACKET ∷ EXPRESSION ∷ SLICE_END ∷ SIGN_RIGHT_BRACKET ∷ POSTFIX_PARTS ∷ []) ∷ (SIGN_LEFT_PAREN ∷ OPTIONAL_EXPRESSIONS ∷ SIGN_RIGHT_PAREN ∷ POSTFIX_PARTS ∷ []) ∷ []) r b → PostfixPartsRow (Node k r b a)
postfix_parts_go k r b a (inl h) = inl (ap first_of h.0, stands [] b a h.1, postfix_parts_value_1 b a h.1)
postfix_parts_go k r b a (inr (inl h)) = inr (inl (ap first_of h.0, stands (SIGN_DOT ∷ MEMBER_PART ∷ POSTFIX_PARTS ∷ []) b a h.1, postfix_parts_value_2 b a h.1))
postfix_parts_go k r b a (inr (inr (inl h))) = inr (inr (inl (ap first_of h.0, stands (SIGN_LEFT_BRACKET ∷ EXPRESSION ∷ SLICE_END ∷ SIGN_RIGHT_BRACKET ∷ POSTFIX_PARTS ∷ []) b a h.1, postfix_parts_value_3 b a h.1)))
postfix_parts_go k r b a (inr (inr (inr (inl h)))) = inr (inr (inr (ap first_of h.0, stands (SIGN_LEFT_PAREN ∷ OPTIONAL_EXPRESSIONS ∷ SIGN_RIGHT_PAREN ∷ POSTFIX_PARTS ∷ []) b a h.1, postfix_parts_value_4 b a h.1)))
postfix_parts_go k r b a (inr (inr (inr (inr h)))) = absurd h

pub postfix_parts_row : (p : Parse) → Begins POSTFIX_PARTS p → PostfixPartsRow p
postfix_parts_row End h = absurd h
postfix_parts_row (Word t a) h = absurd h
postfix_parts_row (Node k r b a) h = postfix_parts_go k r b a (rw postfix_parts_rights at (rows_of_form POSTFIX_PARTS k r b h))

-- MEMBER_PART

member_part_rights : rights MEMBER_PART grammar_rows ≡ (ID ∷ []) ∷ (LOOKAHEAD ∷ OPEN_ARGUMENTS ∷ TYPE_FORM ∷ CLOSE_ARGUMENTS ∷ []) ∷ []
unfolding grammar_rows top_rows types_rows expressions_rows operations_rows keys_rows statements_rows parser_rows control_rows tables_rows
member_part_rights = refl

member_part_value_1 : (b a : Parse) → Children (ID ∷ []) b → member b ≡ with_token (λ t. option_map (λ n. postfix.Member n) (name_at t)) (token_at (joined b a))
member_part_value_1 (Word t0 End) a h = refl
member_part_value_1 _ a h = absurd (assumption)

member_part_value_2 : (b a : Parse) → Children (LOOKAHEAD ∷ OPEN_ARGUMENTS ∷ TYPE_FORM ∷ CLOSE_ARGUMENTS ∷ []) b → member b ≡ option_map (λ t. postfix.Lookahead t) (type_form (below (after (after (joined b a)))))
member_part_value_2 (Word t0 (Word t1 (Node k2 r2 u2 (Word t3 End)))) a h = refl
member_part_value_2 _ a h = absurd (assumption)

abbrev pub MemberPartRow : Parse → Type 0
MemberPartRow p =
    ((first_symbol p ≡ Some ID) × Stands (ID ∷ []) (opened p) (after p) × (member (below p) ≡ with_token (λ t. option_map (λ n. postfix.Member n) (name_at t)) (token_at (opened p))))
    ⊎ ((first_symbol p ≡ Some LOOKAHEAD) × Stands (LOOKAHEAD ∷ OPEN_ARGUMENTS ∷ TYPE_FORM ∷ CLOSE_ARGUMENTS ∷ []) (opened p) (after p) × (member (below p) ≡ option_map (λ t. postfix.Lookahead t) (type_form (below (after (after (opened p)))))))

member_part_go : (k : ℕ) (r : Row) (b a : Parse) → OneOf ((ID ∷ []) ∷ (LOOKAHEAD ∷ OPEN_ARGUMENTS ∷ TYPE_FORM ∷ CLOSE_ARGUMENTS ∷ []) ∷ []) r b → MemberPartRow (Node k r b a)
member_part_go k r b a (inl h) = inl (ap first_of h.0, stands (ID ∷ []) b a h.1, member_part_value_1 b a h.1)
member_part_go k r b a (inr (inl h)) = inr (ap first_of h.0, stands (LOOKAHEAD ∷ OPEN_ARGUMENTS ∷ TYPE_FORM ∷ CLOSE_ARGUMENTS ∷ []) b a h.1, member_part_value_2 b a h.1)
member_part_go k r b a (inr (inr h)) = absurd h

pub member_part_row : (p : Parse) → Begins MEMBER_PART p → MemberPartRow p
member_part_row End h = absurd h
member_part_row (Word t a) h = absurd h
member_part_row (Node k r b a) h = member_part_go k r b a (rw member_part_rights at (rows_of_form MEMBER_PART k r b h))

-- SLICE_END

slice_end_rights : rights SLICE_END grammar_rows ≡ [] ∷ (SIGN_COLON ∷ EXPRESSION ∷ []) ∷ []
unfolding grammar_rows top_rows types_rows expressions_rows operations_rows keys_rows statements_rows parser_rows control_rows tables_rows
slice_end_rights = refl

slice_end_value_1 : (b a : Parse) → Children [] b → slice_end b ≡ Some None
slice_end_value_1 End a h = refl
slice_end_value_1 _ a h = absurd (assumption)

slice_end_value_2 : (b a : Parse) → Children (SIGN_COLON ∷ EXPRESSION ∷ []) b → slice_end b ≡ option_map (λ e. Some e) (expression (below (after (joined b a))))
slice_end_value_2 (Word t0 (Node k1 r1 u1 End)) a h = refl
slice_end_value_2 _ a h = absurd (assumption)

abbrev pub SliceEndRow : Parse → Type 0
SliceEndRow p =
    ((first_symbol p ≡ None) × Stands [] (opened p) (after p) × (slice_end (below p) ≡ Some None))
    ⊎ ((first_symbol p ≡ Some SIGN_COLON) × Stands (SIGN_COLON ∷ EXPRESSION ∷ []) (opened p) (after p) × (slice_end (below p) ≡ option_map (λ e. Some e) (expression (below (after (opened p))))))

slice_end_go : (k : ℕ) (r : Row) (b a : Parse) → OneOf ([] ∷ (SIGN_COLON ∷ EXPRESSION ∷ []) ∷ []) r b → SliceEndRow (Node k r b a)
slice_end_go k r b a (inl h) = inl (ap first_of h.0, stands [] b a h.1, slice_end_value_1 b a h.1)
slice_end_go k r b a (inr (inl h)) = inr (ap first_of h.0, stands (SIGN_COLON ∷ EXPRESSION ∷ []) b a h.1, slice_end_value_2 b a h.1)
slice_end_go k r b a (inr (inr h)) = absurd h

pub slice_end_row : (p : Parse) → Begins SLICE_END p → SliceEndRow p
slice_end_row End h = absurd h
slice_end_row (Word t a) h = absurd h
slice_end_row (Node k r b a) h = slice_end_go k r b a (rw slice_end_rights at (rows_of_form SLICE_END k r b h))

-- OPTIONAL_EXPRESSIONS

optional_expressions_rights : rights OPTIONAL_EXPRESSIONS grammar_rows ≡ [] ∷ (EXPRESSIONS ∷ []) ∷ []
unfolding grammar_rows top_rows types_rows expressions_rows operations_rows keys_rows statements_rows parser_rows control_rows tables_rows
optional_expressions_rights = refl

optional_expressions_value_1 : (b a : Parse) → Children [] b → optional_expressions b ≡ Some []
optional_expressions_value_1 End a h = refl
optional_expressions_value_1 _ a h = absurd (assumption)

optional_expressions_value_2 : (b a : Parse) → Children (EXPRESSIONS ∷ []) b → optional_expressions b ≡ expressions (below (joined b a))
optional_expressions_value_2 (Node k0 r0 u0 End) a h = refl
optional_expressions_value_2 _ a h = absurd (assumption)

abbrev pub OptionalExpressionsRow : Parse → Type 0
OptionalExpressionsRow p =
    ((first_symbol p ≡ None) × Stands [] (opened p) (after p) × (optional_expressions (below p) ≡ Some []))
    ⊎ ((first_symbol p ≡ Some EXPRESSIONS) × Stands (EXPRESSIONS ∷ []) (opened p) (after p) × (optional_expressions (below p) ≡ expressions (below (opened p))))

optional_expressions_go : (k : ℕ) (r : Row) (b a : Parse) → OneOf ([] ∷ (EXPRESSIONS ∷ []) ∷ []) r b → OptionalExpressionsRow (Node k r b a)
optional_expressions_go k r b a (inl h) = inl (ap first_of h.0, stands [] b a h.1, optional_expressions_value_1 b a h.1)
optional_expressions_go k r b a (inr (inl h)) = inr (ap first_of h.0, stands (EXPRESSIONS ∷ []) b a h.1, optional_expressions_value_2 b a h.1)
optional_expressions_go k r b a (inr (inr h)) = absurd h

pub optional_expressions_row : (p : Parse) → Begins OPTIONAL_EXPRESSIONS p → OptionalExpressionsRow p
optional_expressions_row End h = absurd h
optional_expressions_row (Word t a) h = absurd h
optional_expressions_row (Node k r b a) h = optional_expressions_go k r b a (rw optional_expressions_rights at (rows_of_form OPTIONAL_EXPRESSIONS k r b h))

-- EXPRESSIONS

expressions_rights : rights EXPRESSIONS grammar_rows ≡ (EXPRESSION ∷ EXPRESSIONS_TAIL ∷ []) ∷ []
unfolding grammar_rows top_rows types_rows expressions_rows operations_rows keys_rows statements_rows parser_rows control_rows tables_rows
expressions_rights = refl

expressions_value_1 : (b a : Parse) → Children (EXPRESSION ∷ EXPRESSIONS_TAIL ∷ []) b → expressions b ≡ both (λ one more. one ∷ more) (expression (below (joined b a))) (expressions_tail (below (after (joined b a))))
expressions_value_1 (Node k0 r0 u0 (Node k1 r1 u1 End)) a h = refl
expressions_value_1 _ a h = absurd (assumption)

abbrev pub ExpressionsRow : Parse → Type 0
ExpressionsRow p =
    (first_symbol p ≡ Some EXPRESSION) × Stands (EXPRESSION ∷ EXPRESSIONS_TAIL ∷ []) (opened p) (after p) × (expressions (below p) ≡ both (λ one more. one ∷ more) (expression (below (opened p))) (expressions_tail (below (after (opened p)))))

expressions_go : (k : ℕ) (r : Row) (b a : Parse) → OneOf ((EXPRESSION ∷ EXPRESSIONS_TAIL ∷ []) ∷ []) r b → ExpressionsRow (Node k r b a)
expressions_go k r b a (inl h) = (ap first_of h.0, stands (EXPRESSION ∷ EXPRESSIONS_TAIL ∷ []) b a h.1, expressions_value_1 b a h.1)
expressions_go k r b a (inr h) = absurd h

pub expressions_row : (p : Parse) → Begins EXPRESSIONS p → ExpressionsRow p
expressions_row End h = absurd h
expressions_row (Word t a) h = absurd h
expressions_row (Node k r b a) h = expressions_go k r b a (rw expressions_rights at (rows_of_form EXPRESSIONS k r b h))

-- EXPRESSIONS_TAIL

expressions_tail_rights : rights EXPRESSIONS_TAIL grammar_rows ≡ [] ∷ (SIGN_COMMA ∷ EXPRESSION ∷ EXPRESSIONS_TAIL ∷ []) ∷ []
unfolding grammar_rows top_rows types_rows expressions_rows operations_rows keys_rows statements_rows parser_rows control_rows tables_rows
expressions_tail_rights = refl

expressions_tail_value_1 : (b a : Parse) → Children [] b → expressions_tail b ≡ Some []
expressions_tail_value_1 End a h = refl
expressions_tail_value_1 _ a h = absurd (assumption)

expressions_tail_value_2 : (b a : Parse) → Children (SIGN_COMMA ∷ EXPRESSION ∷ EXPRESSIONS_TAIL ∷ []) b → expressions_tail b ≡ both (λ one more. one ∷ more) (expression (below (after (joined b a)))) (expressions_tail (below (after (after (joined b a)))))
expressions_tail_value_2 (Word t0 (Node k1 r1 u1 (Node k2 r2 u2 End))) a h = refl
expressions_tail_value_2 _ a h = absurd (assumption)

abbrev pub ExpressionsTailRow : Parse → Type 0
ExpressionsTailRow p =
    ((first_symbol p ≡ None) × Stands [] (opened p) (after p) × (expressions_tail (below p) ≡ Some []))
    ⊎ ((first_symbol p ≡ Some SIGN_COMMA) × Stands (SIGN_COMMA ∷ EXPRESSION ∷ EXPRESSIONS_TAIL ∷ []) (opened p) (after p) × (expressions_tail (below p) ≡ both (λ one more. one ∷ more) (expression (below (after (opened p)))) (expressions_tail (below (after (after (opened p)))))))

expressions_tail_go : (k : ℕ) (r : Row) (b a : Parse) → OneOf ([] ∷ (SIGN_COMMA ∷ EXPRESSION ∷ EXPRESSIONS_TAIL ∷ []) ∷ []) r b → ExpressionsTailRow (Node k r b a)
expressions_tail_go k r b a (inl h) = inl (ap first_of h.0, stands [] b a h.1, expressions_tail_value_1 b a h.1)
expressions_tail_go k r b a (inr (inl h)) = inr (ap first_of h.0, stands (SIGN_COMMA ∷ EXPRESSION ∷ EXPRESSIONS_TAIL ∷ []) b a h.1, expressions_tail_value_2 b a h.1)
expressions_tail_go k r b a (inr (inr h)) = absurd h

pub expressions_tail_row : (p : Parse) → Begins EXPRESSIONS_TAIL p → ExpressionsTailRow p
expressions_tail_row End h = absurd h
expressions_tail_row (Word t a) h = absurd h
expressions_tail_row (Node k r b a) h = expressions_tail_go k r b a (rw expressions_tail_rights at (rows_of_form EXPRESSIONS_TAIL k r b h))
