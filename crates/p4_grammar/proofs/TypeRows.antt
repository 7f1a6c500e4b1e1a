-- The rows of types.
use Rattle.std.proofs.Common.{◌≡◌, ℕ, [], ◌∷◌, None, Some, refl, ap, inl, inr, ◌⊎◌}
use Rattle.std.specs.Prelude.{◌==◌, if◌then◌else◌}
use Rattle.p4_grammar.specs.Expressions.{width_at, base_at, sized_at, type_at, type_form, base_type, stack_size, width_arguments, width_of, type_arguments, expression}
use Rattle.p4_grammar.specs.Names.{name_at, word_name}
use Rattle.p4_tree.specs.declared.expressions.Width.{roll-Width}
use Rattle.p4_tree.specs.declared.expressions.BaseType.TheVariants as base
use Rattle.p4_tree.specs.declared.expressions.ExpressionKind.TheVariants as kind
use Rattle.p4_tree.specs.declared.expressions.WidthKind.TheVariants as width
use Rattle.ll1_engine.specs.declared.grammar.Row.{Row}
use Rattle.p4_grammar.specs.declared.symbols.TheConstants.{BASE_TYPE, CLOSE_ARGUMENTS, EXPRESSION, INT_LITERAL, KEYWORD_BIT, KEYWORD_BOOL, KEYWORD_ERROR, KEYWORD_INT, OPEN_ARGUMENTS, SIGN_LEFT_BRACKET, SIGN_LEFT_PAREN, SIGN_RIGHT_BRACKET, SIGN_RIGHT_PAREN, STACK_SIZE, TYPE_ARGUMENTS, TYPE_FORM, TYPE_NAME, WIDTH, WIDTH_ARGUMENTS, WORD}
use Rattle.p4_grammar.specs.Rows.{top_rows, types_rows, expressions_rows, operations_rows, keys_rows, statements_rows, parser_rows, control_rows, tables_rows, grammar_rows}
use Rattle.p4_grammar.specs.Parses.{Parse, End, Word, Node, place_of, option_map, both, all_three}
use Rattle.p4_grammar.specs.Ahead.{Begins, below, after, joined, opened, token_at, first_of, first_symbol}
use Rattle.p4_grammar.proofs.RowsOfForms.{rights, Children, OneOf, Stands, rows_of_form, stands, with_token}

-- TYPE_FORM

type_form_rights : rights TYPE_FORM grammar_rows ≡ (BASE_TYPE ∷ STACK_SIZE ∷ []) ∷ []
unfolding grammar_rows top_rows types_rows expressions_rows operations_rows keys_rows statements_rows parser_rows control_rows tables_rows
type_form_rights = refl

type_form_value_1 : (b a : Parse) → Children (BASE_TYPE ∷ STACK_SIZE ∷ []) b → type_form b ≡ all_three type_at (place_of (below (joined b a))) (base_type (below (joined b a))) (stack_size (below (after (joined b a))))
type_form_value_1 (Node k0 r0 u0 (Node k1 r1 u1 End)) a h = refl
type_form_value_1 _ a h = absurd (assumption)

abbrev pub TypeFormRow : Parse → Type 0
TypeFormRow p =
    (first_symbol p ≡ Some BASE_TYPE) × Stands (BASE_TYPE ∷ STACK_SIZE ∷ []) (opened p) (after p) × (type_form (below p) ≡ all_three type_at (place_of (below (opened p))) (base_type (below (opened p))) (stack_size (below (after (opened p)))))

type_form_go : (k : ℕ) (r : Row) (b a : Parse) → OneOf ((BASE_TYPE ∷ STACK_SIZE ∷ []) ∷ []) r b → TypeFormRow (Node k r b a)
type_form_go k r b a (inl h) = (ap first_of h.0, stands (BASE_TYPE ∷ STACK_SIZE ∷ []) b a h.1, type_form_value_1 b a h.1)
type_form_go k r b a (inr h) = absurd h

pub type_form_row : (p : Parse) → Begins TYPE_FORM p → TypeFormRow p
type_form_row End h = absurd h
type_form_row (Word t a) h = absurd h
type_form_row (Node k r b a) h = type_form_go k r b a (rw type_form_rights at (rows_of_form TYPE_FORM k r b h))

-- BASE_TYPE

base_type_rights : rights BASE_TYPE grammar_rows ≡ (KEYWORD_BIT ∷ WIDTH_ARGUMENTS ∷ []) ∷ (KEYWORD_INT ∷ WIDTH_ARGUMENTS ∷ []) ∷ (KEYWORD_BOOL ∷ []) ∷ (KEYWORD_ERROR ∷ []) ∷ (TYPE_NAME ∷ TYPE_ARGUMENTS ∷ []) ∷ []
unfolding grammar_rows top_rows types_rows expressions_rows operations_rows keys_rows statements_rows parser_rows control_rows tables_rows
base_type_rights = refl

base_type_value_1 : (b a : Parse) → Children (KEYWORD_BIT ∷ WIDTH_ARGUMENTS ∷ []) b → base_type b ≡ with_token (λ t. both (λ f w. f w) (sized_at t.word) (width_arguments (below (after (joined b a))))) (token_at (joined b a))
base_type_value_1 (Word t0 (Node k1 r1 u1 End)) a h = ap (λ (which : ℕ). if which == WIDTH_ARGUMENTS then both (λ f w. f w) (sized_at t0.word) (width_arguments u1) else both (λ n a. base.Named n a) (name_at t0) (type_arguments u1)) h.1.0.left
base_type_value_1 _ a h = absurd (assumption)

base_type_value_2 : (b a : Parse) → Children (KEYWORD_INT ∷ WIDTH_ARGUMENTS ∷ []) b → base_type b ≡ with_token (λ t. both (λ f w. f w) (sized_at t.word) (width_arguments (below (after (joined b a))))) (token_at (joined b a))
base_type_value_2 (Word t0 (Node k1 r1 u1 End)) a h = ap (λ (which : ℕ). if which == WIDTH_ARGUMENTS then both (λ f w. f w) (sized_at t0.word) (width_arguments u1) else both (λ n a. base.Named n a) (name_at t0) (type_arguments u1)) h.1.0.left
base_type_value_2 _ a h = absurd (assumption)

base_type_value_3 : (b a : Parse) → Children (KEYWORD_BOOL ∷ []) b → base_type b ≡ with_token (λ t. base_at t.word) (token_at (joined b a))
base_type_value_3 (Word t0 End) a h = refl
base_type_value_3 _ a h = absurd (assumption)

base_type_value_4 : (b a : Parse) → Children (KEYWORD_ERROR ∷ []) b → base_type b ≡ with_token (λ t. base_at t.word) (token_at (joined b a))
base_type_value_4 (Word t0 End) a h = refl
base_type_value_4 _ a h = absurd (assumption)

base_type_value_5 : (b a : Parse) → Children (TYPE_NAME ∷ TYPE_ARGUMENTS ∷ []) b → base_type b ≡ with_token (λ t. both (λ n a. base.Named n a) (name_at t) (type_arguments (below (after (joined b a))))) (token_at (joined b a))
base_type_value_5 (Word t0 (Node k1 r1 u1 End)) a h = ap (λ (which : ℕ). if which == WIDTH_ARGUMENTS then both (λ f w. f w) (sized_at t0.word) (width_arguments u1) else both (λ n a. base.Named n a) (name_at t0) (type_arguments u1)) h.1.0.left
base_type_value_5 _ a h = absurd (assumption)

abbrev pub BaseTypeRow : Parse → Type 0
BaseTypeRow p =
    ((first_symbol p ≡ Some KEYWORD_BIT) × Stands (KEYWORD_BIT ∷ WIDTH_ARGUMENTS ∷ []) (opened p) (after p) × (base_type (below p) ≡ with_token (λ t. both (λ f w. f w) (sized_at t.word) (width_arguments (below (after (opened p))))) (token_at (opened p))))
    ⊎ ((first_symbol p ≡ Some KEYWORD_INT) × Stands (KEYWORD_INT ∷ WIDTH_ARGUMENTS ∷ []) (opened p) (after p) × (base_type (below p) ≡ with_token (λ t. both (λ f w. f w) (sized_at t.word) (width_arguments (below (after (opened p))))) (token_at (opened p))))
    ⊎ ((first_symbol p ≡ Some KEYWORD_BOOL) × Stands (KEYWORD_BOOL ∷ []) (opened p) (after p) × (base_type (below p) ≡ with_token (λ t. base_at t.word) (token_at (opened p))))
    ⊎ ((first_symbol p ≡ Some KEYWORD_ERROR) × Stands (KEYWORD_ERROR ∷ []) (opened p) (after p) × (base_type (below p) ≡ with_token (λ t. base_at t.word) (token_at (opened p))))
    ⊎ ((first_symbol p ≡ Some TYPE_NAME) × Stands (TYPE_NAME ∷ TYPE_ARGUMENTS ∷ []) (opened p) (after p) × (base_type (below p) ≡ with_token (λ t. both (λ n a. base.Named n a) (name_at t) (type_arguments (below (after (opened p))))) (token_at (opened p))))

base_type_go : (k : ℕ) (r : Row) (b a : Parse) → OneOf ((KEYWORD_BIT ∷ WIDTH_ARGUMENTS ∷ []) ∷ (KEYWORD_INT ∷ WIDTH_ARGUMENTS ∷ []) ∷ (KEYWORD_BOOL ∷ []) ∷ (KEYWORD_ERROR ∷ []) ∷ (TYPE_NAME ∷ TYPE_ARGUMENTS ∷ []) ∷ []) r b → BaseTypeRow (Node k r b a)
base_type_go k r b a (inl h) = inl (ap first_of h.0, stands (KEYWORD_BIT ∷ WIDTH_ARGUMENTS ∷ []) b a h.1, base_type_value_1 b a h.1)
base_type_go k r b a (inr (inl h)) = inr (inl (ap first_of h.0, stands (KEYWORD_INT ∷ WIDTH_ARGUMENTS ∷ []) b a h.1, base_type_value_2 b a h.1))
base_type_go k r b a (inr (inr (inl h))) = inr (inr (inl (ap first_of h.0, stands (KEYWORD_BOOL ∷ []) b a h.1, base_type_value_3 b a h.1)))
base_type_go k r b a (inr (inr (inr (inl h)))) = inr (inr (inr (inl (ap first_of h.0, stands (KEYWORD_ERROR ∷ []) b a h.1, base_type_value_4 b a h.1))))
base_type_go k r b a (inr (inr (inr (inr (inl h))))) = inr (inr (inr (inr (ap first_of h.0, stands (TYPE_NAME ∷ TYPE_ARGUMENTS ∷ []) b a h.1, base_type_value_5 b a h.1))))
base_type_go k r b a (inr (inr (inr (inr (inr h))))) = absurd h

pub base_type_row : (p : Parse) → Begins BASE_TYPE p → BaseTypeRow p
base_type_row End h = absurd h
base_type_row (Word t a) h = absurd h
base_type_row (Node k r b a) h = base_type_go k r b a (rw base_type_rights at (rows_of_form BASE_TYPE k r b h))

-- STACK_SIZE

stack_size_rights : rights STACK_SIZE grammar_rows ≡ [] ∷ (SIGN_LEFT_BRACKET ∷ EXPRESSION ∷ SIGN_RIGHT_BRACKET ∷ []) ∷ []
unfolding grammar_rows top_rows types_rows expressions_rows operations_rows keys_rows statements_rows parser_rows control_rows tables_rows
stack_size_rights = refl

stack_size_value_1 : (b a : Parse) → Children [] b → stack_size b ≡ Some None
stack_size_value_1 End a h = refl
stack_size_value_1 _ a h = absurd (assumption)

stack_size_value_2 : (b a : Parse) → Children (SIGN_LEFT_BRACKET ∷ EXPRESSION ∷ SIGN_RIGHT_BRACKET ∷ []) b → stack_size b ≡ option_map (λ e. Some e) (expression (below (after (joined b a))))
stack_size_value_2 (Word t0 (Node k1 r1 u1 (Word t2 End))) a h = refl
stack_size_value_2 _ a h = absurd (assumption)

abbrev pub StackSizeRow : Parse → Type 0
StackSizeRow p =
    ((first_symbol p ≡ None) × Stands [] (opened p) (after p) × (stack_size (below p) ≡ Some None))
    ⊎ ((first_symbol p ≡ Some SIGN_LEFT_BRACKET) × Stands (SIGN_LEFT_BRACKET ∷ EXPRESSION ∷ SIGN_RIGHT_BRACKET ∷ []) (opened p) (after p) × (stack_size (below p) ≡ option_map (λ e. Some e) (expression (below (after (opened p))))))

stack_size_go : (k : ℕ) (r : Row) (b a : Parse) → OneOf ([] ∷ (SIGN_LEFT_BRACKET ∷ EXPRESSION ∷ SIGN_RIGHT_BRACKET ∷ []) ∷ []) r b → StackSizeRow (Node k r b a)
stack_size_go k r b a (inl h) = inl (ap first_of h.0, stands [] b a h.1, stack_size_value_1 b a h.1)
stack_size_go k r b a (inr (inl h)) = inr (ap first_of h.0, stands (SIGN_LEFT_BRACKET ∷ EXPRESSION ∷ SIGN_RIGHT_BRACKET ∷ []) b a h.1, stack_size_value_2 b a h.1)
stack_size_go k r b a (inr (inr h)) = absurd h

pub stack_size_row : (p : Parse) → Begins STACK_SIZE p → StackSizeRow p
stack_size_row End h = absurd h
stack_size_row (Word t a) h = absurd h
stack_size_row (Node k r b a) h = stack_size_go k r b a (rw stack_size_rights at (rows_of_form STACK_SIZE k r b h))

-- WIDTH_ARGUMENTS

width_arguments_rights : rights WIDTH_ARGUMENTS grammar_rows ≡ [] ∷ (OPEN_ARGUMENTS ∷ WIDTH ∷ CLOSE_ARGUMENTS ∷ []) ∷ []
unfolding grammar_rows top_rows types_rows expressions_rows operations_rows keys_rows statements_rows parser_rows control_rows tables_rows
width_arguments_rights = refl

width_arguments_value_1 : (b a : Parse) → Children [] b → width_arguments b ≡ Some None
width_arguments_value_1 End a h = refl
width_arguments_value_1 _ a h = absurd (assumption)

width_arguments_value_2 : (b a : Parse) → Children (OPEN_ARGUMENTS ∷ WIDTH ∷ CLOSE_ARGUMENTS ∷ []) b → width_arguments b ≡ option_map (λ w. Some w) (width_of (below (after (joined b a))))
width_arguments_value_2 (Word t0 (Node k1 r1 u1 (Word t2 End))) a h = refl
width_arguments_value_2 _ a h = absurd (assumption)

abbrev pub WidthArgumentsRow : Parse → Type 0
WidthArgumentsRow p =
    ((first_symbol p ≡ None) × Stands [] (opened p) (after p) × (width_arguments (below p) ≡ Some None))
    ⊎ ((first_symbol p ≡ Some OPEN_ARGUMENTS) × Stands (OPEN_ARGUMENTS ∷ WIDTH ∷ CLOSE_ARGUMENTS ∷ []) (opened p) (after p) × (width_arguments (below p) ≡ option_map (λ w. Some w) (width_of (below (after (opened p))))))

width_arguments_go : (k : ℕ) (r : Row) (b a : Parse) → OneOf ([] ∷ (OPEN_ARGUMENTS ∷ WIDTH ∷ CLOSE_ARGUMENTS ∷ []) ∷ []) r b → WidthArgumentsRow (Node k r b a)
width_arguments_go k r b a (inl h) = inl (ap first_of h.0, stands [] b a h.1, width_arguments_value_1 b a h.1)
width_arguments_go k r b a (inr (inl h)) = inr (ap first_of h.0, stands (OPEN_ARGUMENTS ∷ WIDTH ∷ CLOSE_ARGUMENTS ∷ []) b a h.1, width_arguments_value_2 b a h.1)
width_arguments_go k r b a (inr (inr h)) = absurd h

pub width_arguments_row : (p : Parse) → Begins WIDTH_ARGUMENTS p → WidthArgumentsRow p
width_arguments_row End h = absurd h
width_arguments_row (Word t a) h = absurd h
width_arguments_row (Node k r b a) h = width_arguments_go k r b a (rw width_arguments_rights at (rows_of_form WIDTH_ARGUMENTS k r b h))

-- WIDTH

width_rights : rights WIDTH grammar_rows ≡ (INT_LITERAL ∷ []) ∷ (WORD ∷ []) ∷ (SIGN_LEFT_PAREN ∷ EXPRESSION ∷ SIGN_RIGHT_PAREN ∷ []) ∷ []
unfolding grammar_rows top_rows types_rows expressions_rows operations_rows keys_rows statements_rows parser_rows control_rows tables_rows
width_rights = refl

width_value_1 : (b a : Parse) → Children (INT_LITERAL ∷ []) b → width_of b ≡ with_token (λ t. option_map (λ kind. roll-Width (record { kind = kind; span = t.span })) (width_at t.word)) (token_at (joined b a))
width_value_1 (Word t0 End) a h = refl
width_value_1 _ a h = absurd (assumption)

width_value_2 : (b a : Parse) → Children (WORD ∷ []) b → width_of b ≡ both (λ span n. roll-Width (record { kind = width.Name n; span = span })) (place_of (below (joined b a))) (word_name (below (joined b a)))
width_value_2 (Node k0 r0 u0 End) a h = refl
width_value_2 _ a h = absurd (assumption)

width_value_3 : (b a : Parse) → Children (SIGN_LEFT_PAREN ∷ EXPRESSION ∷ SIGN_RIGHT_PAREN ∷ []) b → width_of b ≡ with_token (λ begin. option_map (λ e. roll-Width (record { kind = width.Parenthesized e; span = begin.span })) (expression (below (after (joined b a))))) (token_at (joined b a))
width_value_3 (Word t0 (Node k1 r1 u1 (Word t2 End))) a h = refl
width_value_3 _ a h = absurd (assumption)

abbrev pub WidthRow : Parse → Type 0
WidthRow p =
    ((first_symbol p ≡ Some INT_LITERAL) × Stands (INT_LITERAL ∷ []) (opened p) (after p) × (width_of (below p) ≡ with_token (λ t. option_map (λ kind. roll-Width (record { kind = kind; span = t.span })) (width_at t.word)) (token_at (opened p))))
    ⊎ ((first_symbol p ≡ Some WORD) × Stands (WORD ∷ []) (opened p) (after p) × (width_of (below p) ≡ both (λ span n. roll-Width (record { kind = width.Name n; span = span })) (place_of (below (opened p))) (word_name (below (opened p)))))
    ⊎ ((first_symbol p ≡ Some SIGN_LEFT_PAREN) × Stands (SIGN_LEFT_PAREN ∷ EXPRESSION ∷ SIGN_RIGHT_PAREN ∷ []) (opened p) (after p) × (width_of (below p) ≡ with_token (λ begin. option_map (λ e. roll-Width (record { kind = width.Parenthesized e; span = begin.span })) (expression (below (after (opened p))))) (token_at (opened p))))

width_go : (k : ℕ) (r : Row) (b a : Parse) → OneOf ((INT_LITERAL ∷ []) ∷ (WORD ∷ []) ∷ (SIGN_LEFT_PAREN ∷ EXPRESSION ∷ SIGN_RIGHT_PAREN ∷ []) ∷ []) r b → WidthRow (Node k r b a)
width_go k r b a (inl h) = inl (ap first_of h.0, stands (INT_LITERAL ∷ []) b a h.1, width_value_1 b a h.1)
width_go k r b a (inr (inl h)) = inr (inl (ap first_of h.0, stands (WORD ∷ []) b a h.1, width_value_2 b a h.1))
width_go k r b a (inr (inr (inl h))) = inr (inr (ap first_of h.0, stands (SIGN_LEFT_PAREN ∷ EXPRESSION ∷ SIGN_RIGHT_PAREN ∷ []) b a h.1, width_value_3 b a h.1))
width_go k r b a (inr (inr (inr h))) = absurd h

pub width_row : (p : Parse) → Begins WIDTH p → WidthRow p
width_row End h = absurd h
width_row (Word t a) h = absurd h
width_row (Node k r b a) h = width_go k r b a (rw width_rights at (rows_of_form WIDTH k r b h))

-- TYPE_ARGUMENTS

type_arguments_rights : rights TYPE_ARGUMENTS grammar_rows ≡ [] ∷ (OPEN_ARGUMENTS ∷ TYPE_FORM ∷ CLOSE_ARGUMENTS ∷ []) ∷ []
unfolding grammar_rows top_rows types_rows expressions_rows operations_rows keys_rows statements_rows parser_rows control_rows tables_rows
type_arguments_rights = refl

type_arguments_value_1 : (b a : Parse) → Children [] b → type_arguments b ≡ Some None
type_arguments_value_1 End a h = refl
type_arguments_value_1 _ a h = absurd (assumption)

type_arguments_value_2 : (b a : Parse) → Children (OPEN_ARGUMENTS ∷ TYPE_FORM ∷ CLOSE_ARGUMENTS ∷ []) b → type_arguments b ≡ option_map (λ t. Some t) (type_form (below (after (joined b a))))
type_arguments_value_2 (Word t0 (Node k1 r1 u1 (Word t2 End))) a h = refl
type_arguments_value_2 _ a h = absurd (assumption)

abbrev pub TypeArgumentsRow : Parse → Type 0
TypeArgumentsRow p =
    ((first_symbol p ≡ None) × Stands [] (opened p) (after p) × (type_arguments (below p) ≡ Some None))
    ⊎ ((first_symbol p ≡ Some OPEN_ARGUMENTS) × Stands (OPEN_ARGUMENTS ∷ TYPE_FORM ∷ CLOSE_ARGUMENTS ∷ []) (opened p) (after p) × (type_arguments (below p) ≡ option_map (λ t. Some t) (type_form (below (after (opened p))))))

type_arguments_go : (k : ℕ) (r : Row) (b a : Parse) → OneOf ([] ∷ (OPEN_ARGUMENTS ∷ TYPE_FORM ∷ CLOSE_ARGUMENTS ∷ []) ∷ []) r b → TypeArgumentsRow (Node k r b a)
type_arguments_go k r b a (inl h) = inl (ap first_of h.0, stands [] b a h.1, type_arguments_value_1 b a h.1)
type_arguments_go k r b a (inr (inl h)) = inr (ap first_of h.0, stands (OPEN_ARGUMENTS ∷ TYPE_FORM ∷ CLOSE_ARGUMENTS ∷ []) b a h.1, type_arguments_value_2 b a h.1)
type_arguments_go k r b a (inr (inr h)) = absurd h

pub type_arguments_row : (p : Parse) → Begins TYPE_ARGUMENTS p → TypeArgumentsRow p
type_arguments_row End h = absurd h
type_arguments_row (Word t a) h = absurd h
type_arguments_row (Node k r b a) h = type_arguments_go k r b a (rw type_arguments_rights at (rows_of_form TYPE_ARGUMENTS k r b h))
