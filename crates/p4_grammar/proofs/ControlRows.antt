-- The rows of actions, controls and instances.
use Rattle.std.proofs.Common.{◌≡◌, ℕ, [], ◌∷◌, None, Some, refl, ap, inl, inr, ◌⊎◌}
use Rattle.std.specs.Prelude.{◌==◌, if◌then◌else◌, Option}
use Rattle.ll1_engine.specs.declared.grammar.Row.{Row}
use Rattle.p4_grammar.specs.declared.symbols.TheConstants.{ACTION, ANNOTATIONS, BLOCK, CONSTANT, CONTROL, CONTROL_PARTS, EXPRESSION, INITIAL_VALUE, INSTANCE_ARGUMENT, INSTANCE_ARGUMENTS, INSTANCE_ARGUMENTS_LIST, INSTANCE_ARGUMENTS_TAIL, KEYWORD_ACTION, KEYWORD_APPLY, KEYWORD_CONTROL, LOCAL, LOCAL_REST, NAME, PARAMETERS, SIGN_COMMA, SIGN_LEFT_BRACE, SIGN_LEFT_PAREN, SIGN_RIGHT_BRACE, SIGN_RIGHT_PAREN, SIGN_SEMICOLON, TABLE, TYPE_FORM, TYPE_NAME}
use Rattle.p4_grammar.specs.Rows.{top_rows, types_rows, expressions_rows, operations_rows, keys_rows, statements_rows, parser_rows, control_rows, tables_rows, grammar_rows}
use Rattle.p4_grammar.specs.Parses.{Parse, End, Word, Node, place_of, option_map, both, all_three, all_four}
use Rattle.p4_grammar.specs.Ahead.{Begins, below, after, joined, opened, token_at, first_of, first_symbol}
use Rattle.p4_tree.specs.declared.controls.InstanceArgumentKind.TheVariants as argument
use Rattle.p4_grammar.specs.Names.{name_at, name_of, annotations}
use Rattle.p4_grammar.specs.Expressions.{expression, type_form}
use Rattle.p4_grammar.specs.Statements.{initial_value, constant, variable_at, block}
use Rattle.p4_grammar.specs.Parsers.{parameters}
use Rattle.p4_grammar.specs.Tables.{table}
use Rattle.p4_tree.specs.declared.controls.Local.TheVariants as local
use Rattle.p4_tree.specs.declared.expressions.TypeForm.{TypeForm}
use Rattle.tg_base.specs.declared.place.Span.{Span}
use Rattle.p4_grammar.specs.Controls.{action, argument_at, instance_argument, instance_arguments_tail, instance_arguments_list, instance_arguments, instance_at, local_rest, control_parts, local_of, control}
use Rattle.p4_grammar.proofs.RowsOfForms.{rights, Children, OneOf, Stands, rows_of_form, stands, with_token}
use Rattle.p4_grammar.proofs.FirstPlaces.{IsPlaced, is_placed}

-- ACTION

action_rights : rights ACTION grammar_rows ≡ (KEYWORD_ACTION ∷ NAME ∷ PARAMETERS ∷ BLOCK ∷ []) ∷ []
unfolding grammar_rows top_rows types_rows expressions_rows operations_rows keys_rows statements_rows parser_rows control_rows tables_rows
action_rights = refl

action_value_1 : (b a : Parse) → Children (KEYWORD_ACTION ∷ NAME ∷ PARAMETERS ∷ BLOCK ∷ []) b → action b ≡ with_token (λ t0. all_three (λ n ps b. record { name = n; parameters = ps; body = b; span = t0.span }) (name_of (below (after (joined b a)))) (parameters (below (after (after (joined b a))))) (block (below (after (after (after (joined b a))))))) (token_at (joined b a))
unfolding action
action_value_1 (Word t0 (Node k1 r1 u1 (Node k2 r2 u2 (Node k3 r3 u3 End)))) a h = refl
action_value_1 _ a h = absurd (assumption)

abbrev pub ActionRow : Parse → Type 0
ActionRow p =
    (first_symbol p ≡ Some KEYWORD_ACTION) × Stands (KEYWORD_ACTION ∷ NAME ∷ PARAMETERS ∷ BLOCK ∷ []) (opened p) (after p) × (action (below p) ≡ with_token (λ t0. all_three (λ n ps b. record { name = n; parameters = ps; body = b; span = t0.span }) (name_of (below (after (opened p)))) (parameters (below (after (after (opened p))))) (block (below (after (after (after (opened p))))))) (token_at (opened p)))

action_go : (k : ℕ) (r : Row) (b a : Parse) → OneOf ((KEYWORD_ACTION ∷ NAME ∷ PARAMETERS ∷ BLOCK ∷ []) ∷ []) r b → ActionRow (Node k r b a)
action_go k r b a (inl h) = (ap first_of h.0, stands (KEYWORD_ACTION ∷ NAME ∷ PARAMETERS ∷ BLOCK ∷ []) b a h.1, action_value_1 b a h.1)
action_go k r b a (inr h) = absurd h

pub action_row : (p : Parse) → Begins ACTION p → ActionRow p
action_row End h = absurd h
action_row (Word t a) h = absurd h
action_row (Node k r b a) h = action_go k r b a (rw action_rights at (rows_of_form ACTION k r b h))

-- INSTANCE_ARGUMENT

instance_argument_rights : rights INSTANCE_ARGUMENT grammar_rows ≡ (TYPE_NAME ∷ SIGN_LEFT_PAREN ∷ SIGN_RIGHT_PAREN ∷ []) ∷ (EXPRESSION ∷ []) ∷ []
unfolding grammar_rows top_rows types_rows expressions_rows operations_rows keys_rows statements_rows parser_rows control_rows tables_rows
instance_argument_rights = refl

instance_argument_value_1 : (b a : Parse) → Children (TYPE_NAME ∷ SIGN_LEFT_PAREN ∷ SIGN_RIGHT_PAREN ∷ []) b → instance_argument b ≡ with_token (λ t0. option_map (λ n. argument_at t0.span (argument.Constructed n)) (name_at t0)) (token_at (joined b a))
unfolding instance_argument
instance_argument_value_1 (Word t0 (Word t1 (Word t2 End))) a h = refl
instance_argument_value_1 _ a h = absurd (assumption)

instance_argument_value_2 : (b a : Parse) → Children (EXPRESSION ∷ []) b → instance_argument b ≡ both (λ span e. argument_at span (argument.Value e)) (place_of (below (joined b a))) (expression (below (joined b a)))
unfolding instance_argument
instance_argument_value_2 (Node k0 r0 u0 End) a h = refl
instance_argument_value_2 _ a h = absurd (assumption)

abbrev pub InstanceArgumentRow : Parse → Type 0
InstanceArgumentRow p =
    ((first_symbol p ≡ Some TYPE_NAME) × Stands (TYPE_NAME ∷ SIGN_LEFT_PAREN ∷ SIGN_RIGHT_PAREN ∷ []) (opened p) (after p) × (instance_argument (below p) ≡ with_token (λ t0. option_map (λ n. argument_at t0.span (argument.Constructed n)) (name_at t0)) (token_at (opened p))))
    ⊎ ((first_symbol p ≡ Some EXPRESSION) × Stands (EXPRESSION ∷ []) (opened p) (after p) × (instance_argument (below p) ≡ both (λ span e. argument_at span (argument.Value e)) (place_of (below (opened p))) (expression (below (opened p)))) × IsPlaced (opened p))

instance_argument_go : (k : ℕ) (r : Row) (b a : Parse) → OneOf ((TYPE_NAME ∷ SIGN_LEFT_PAREN ∷ SIGN_RIGHT_PAREN ∷ []) ∷ (EXPRESSION ∷ []) ∷ []) r b → InstanceArgumentRow (Node k r b a)
instance_argument_go k r b a (inl h) = inl (ap first_of h.0, stands (TYPE_NAME ∷ SIGN_LEFT_PAREN ∷ SIGN_RIGHT_PAREN ∷ []) b a h.1, instance_argument_value_1 b a h.1)
instance_argument_go k r b a (inr (inl h)) = inr (ap first_of h.0, stands (EXPRESSION ∷ []) b a h.1, instance_argument_value_2 b a h.1, is_placed EXPRESSION (joined b a) (stands (EXPRESSION ∷ []) b a h.1).0 refl)
instance_argument_go k r b a (inr (inr h)) = absurd h

pub instance_argument_row : (p : Parse) → Begins INSTANCE_ARGUMENT p → InstanceArgumentRow p
instance_argument_row End h = absurd h
instance_argument_row (Word t a) h = absurd h
instance_argument_row (Node k r b a) h = instance_argument_go k r b a (rw instance_argument_rights at (rows_of_form INSTANCE_ARGUMENT k r b h))

-- INSTANCE_ARGUMENTS_TAIL

instance_arguments_tail_rights : rights INSTANCE_ARGUMENTS_TAIL grammar_rows ≡ [] ∷ (SIGN_COMMA ∷ INSTANCE_ARGUMENT ∷ INSTANCE_ARGUMENTS_TAIL ∷ []) ∷ []
unfolding grammar_rows top_rows types_rows expressions_rows operations_rows keys_rows statements_rows parser_rows control_rows tables_rows
instance_arguments_tail_rights = refl

instance_arguments_tail_value_1 : (b a : Parse) → Children [] b → instance_arguments_tail b ≡ Some []
unfolding instance_arguments_tail
instance_arguments_tail_value_1 End a h = refl
instance_arguments_tail_value_1 _ a h = absurd (assumption)

instance_arguments_tail_value_2 : (b a : Parse) → Children (SIGN_COMMA ∷ INSTANCE_ARGUMENT ∷ INSTANCE_ARGUMENTS_TAIL ∷ []) b → instance_arguments_tail b ≡ both (λ one more. one ∷ more) (instance_argument (below (after (joined b a)))) (instance_arguments_tail (below (after (after (joined b a)))))
unfolding instance_arguments_tail
instance_arguments_tail_value_2 (Word t0 (Node k1 r1 u1 (Node k2 r2 u2 End))) a h = refl
instance_arguments_tail_value_2 _ a h = absurd (assumption)

abbrev pub InstanceArgumentsTailRow : Parse → Type 0
InstanceArgumentsTailRow p =
    ((first_symbol p ≡ None) × Stands [] (opened p) (after p) × (instance_arguments_tail (below p) ≡ Some []))
    ⊎ ((first_symbol p ≡ Some SIGN_COMMA) × Stands (SIGN_COMMA ∷ INSTANCE_ARGUMENT ∷ INSTANCE_ARGUMENTS_TAIL ∷ []) (opened p) (after p) × (instance_arguments_tail (below p) ≡ both (λ one more. one ∷ more) (instance_argument (below (after (opened p)))) (instance_arguments_tail (below (after (after (opened p)))))))

instance_arguments_tail_go : (k : ℕ) (r : Row) (b a : Parse) → OneOf ([] ∷ (SIGN_COMMA ∷ INSTANCE_ARGUMENT ∷ INSTANCE_ARGUMENTS_TAIL ∷ []) ∷ []) r b → InstanceArgumentsTailRow (Node k r b a)
instance_arguments_tail_go k r b a (inl h) = inl (ap first_of h.0, stands [] b a h.1, instance_arguments_tail_value_1 b a h.1)
instance_arguments_tail_go k r b a (inr (inl h)) = inr (ap first_of h.0, stands (SIGN_COMMA ∷ INSTANCE_ARGUMENT ∷ INSTANCE_ARGUMENTS_TAIL ∷ []) b a h.1, instance_arguments_tail_value_2 b a h.1)
instance_arguments_tail_go k r b a (inr (inr h)) = absurd h

pub instance_arguments_tail_row : (p : Parse) → Begins INSTANCE_ARGUMENTS_TAIL p → InstanceArgumentsTailRow p
instance_arguments_tail_row End h = absurd h
instance_arguments_tail_row (Word t a) h = absurd h
instance_arguments_tail_row (Node k r b a) h = instance_arguments_tail_go k r b a (rw instance_arguments_tail_rights at (rows_of_form INSTANCE_ARGUMENTS_TAIL k r b h))

-- INSTANCE_ARGUMENTS_LIST

instance_arguments_list_rights : rights INSTANCE_ARGUMENTS_LIST grammar_rows ≡ [] ∷ (INSTANCE_ARGUMENT ∷ INSTANCE_ARGUMENTS_TAIL ∷ []) ∷ []
unfolding grammar_rows top_rows types_rows expressions_rows operations_rows keys_rows statements_rows parser_rows control_rows tables_rows
instance_arguments_list_rights = refl

instance_arguments_list_value_1 : (b a : Parse) → Children [] b → instance_arguments_list b ≡ Some []
unfolding instance_arguments_list
instance_arguments_list_value_1 End a h = refl
instance_arguments_list_value_1 _ a h = absurd (assumption)

instance_arguments_list_value_2 : (b a : Parse) → Children (INSTANCE_ARGUMENT ∷ INSTANCE_ARGUMENTS_TAIL ∷ []) b → instance_arguments_list b ≡ both (λ one more. one ∷ more) (instance_argument (below (joined b a))) (instance_arguments_tail (below (after (joined b a))))
unfolding instance_arguments_list
instance_arguments_list_value_2 (Node k0 r0 u0 (Node k1 r1 u1 End)) a h = refl
instance_arguments_list_value_2 _ a h = absurd (assumption)

abbrev pub InstanceArgumentsListRow : Parse → Type 0
InstanceArgumentsListRow p =
    ((first_symbol p ≡ None) × Stands [] (opened p) (after p) × (instance_arguments_list (below p) ≡ Some []))
    ⊎ ((first_symbol p ≡ Some INSTANCE_ARGUMENT) × Stands (INSTANCE_ARGUMENT ∷ INSTANCE_ARGUMENTS_TAIL ∷ []) (opened p) (after p) × (instance_arguments_list (below p) ≡ both (λ one more. one ∷ more) (instance_argument (below (opened p))) (instance_arguments_tail (below (after (opened p))))))

instance_arguments_list_go : (k : ℕ) (r : Row) (b a : Parse) → OneOf ([] ∷ (INSTANCE_ARGUMENT ∷ INSTANCE_ARGUMENTS_TAIL ∷ []) ∷ []) r b → InstanceArgumentsListRow (Node k r b a)
instance_arguments_list_go k r b a (inl h) = inl (ap first_of h.0, stands [] b a h.1, instance_arguments_list_value_1 b a h.1)
instance_arguments_list_go k r b a (inr (inl h)) = inr (ap first_of h.0, stands (INSTANCE_ARGUMENT ∷ INSTANCE_ARGUMENTS_TAIL ∷ []) b a h.1, instance_arguments_list_value_2 b a h.1)
instance_arguments_list_go k r b a (inr (inr h)) = absurd h

pub instance_arguments_list_row : (p : Parse) → Begins INSTANCE_ARGUMENTS_LIST p → InstanceArgumentsListRow p
instance_arguments_list_row End h = absurd h
instance_arguments_list_row (Word t a) h = absurd h
instance_arguments_list_row (Node k r b a) h = instance_arguments_list_go k r b a (rw instance_arguments_list_rights at (rows_of_form INSTANCE_ARGUMENTS_LIST k r b h))

-- INSTANCE_ARGUMENTS

instance_arguments_rights : rights INSTANCE_ARGUMENTS grammar_rows ≡ (SIGN_LEFT_PAREN ∷ INSTANCE_ARGUMENTS_LIST ∷ SIGN_RIGHT_PAREN ∷ []) ∷ []
unfolding grammar_rows top_rows types_rows expressions_rows operations_rows keys_rows statements_rows parser_rows control_rows tables_rows
instance_arguments_rights = refl

instance_arguments_value_1 : (b a : Parse) → Children (SIGN_LEFT_PAREN ∷ INSTANCE_ARGUMENTS_LIST ∷ SIGN_RIGHT_PAREN ∷ []) b → instance_arguments b ≡ instance_arguments_list (below (after (joined b a)))
unfolding instance_arguments
instance_arguments_value_1 (Word t0 (Node k1 r1 u1 (Word t2 End))) a h = refl
instance_arguments_value_1 _ a h = absurd (assumption)

abbrev pub InstanceArgumentsRow : Parse → Type 0
InstanceArgumentsRow p =
    (first_symbol p ≡ Some SIGN_LEFT_PAREN) × Stands (SIGN_LEFT_PAREN ∷ INSTANCE_ARGUMENTS_LIST ∷ SIGN_RIGHT_PAREN ∷ []) (opened p) (after p) × (instance_arguments (below p) ≡ instance_arguments_list (below (after (opened p))))

instance_arguments_go : (k : ℕ) (r : Row) (b a : Parse) → OneOf ((SIGN_LEFT_PAREN ∷ INSTANCE_ARGUMENTS_LIST ∷ SIGN_RIGHT_PAREN ∷ []) ∷ []) r b → InstanceArgumentsRow (Node k r b a)
instance_arguments_go k r b a (inl h) = (ap first_of h.0, stands (SIGN_LEFT_PAREN ∷ INSTANCE_ARGUMENTS_LIST ∷ SIGN_RIGHT_PAREN ∷ []) b a h.1, instance_arguments_value_1 b a h.1)
instance_arguments_go k r b a (inr h) = absurd h

pub instance_arguments_row : (p : Parse) → Begins INSTANCE_ARGUMENTS p → InstanceArgumentsRow p
instance_arguments_row End h = absurd h
instance_arguments_row (Word t a) h = absurd h
instance_arguments_row (Node k r b a) h = instance_arguments_go k r b a (rw instance_arguments_rights at (rows_of_form INSTANCE_ARGUMENTS k r b h))

-- CONTROL_PARTS

control_parts_rights : rights CONTROL_PARTS grammar_rows ≡ [] ∷ (ANNOTATIONS ∷ LOCAL ∷ CONTROL_PARTS ∷ []) ∷ []
unfolding grammar_rows top_rows types_rows expressions_rows operations_rows keys_rows statements_rows parser_rows control_rows tables_rows
control_parts_rights = refl

control_parts_value_1 : (b a : Parse) → Children [] b → control_parts b ≡ Some []
unfolding control_parts
control_parts_value_1 End a h = refl
control_parts_value_1 _ a h = absurd (assumption)

control_parts_value_2 : (b a : Parse) → Children (ANNOTATIONS ∷ LOCAL ∷ CONTROL_PARTS ∷ []) b → control_parts b ≡ both (λ one more. one ∷ more) (both (λ ns made. record { annotations = ns; local = made }) (annotations (below (joined b a))) (local_of (below (after (joined b a))))) (control_parts (below (after (after (joined b a)))))
unfolding control_parts
control_parts_value_2 (Node k0 r0 u0 (Node k1 r1 u1 (Node k2 r2 u2 End))) a h = refl
control_parts_value_2 _ a h = absurd (assumption)

abbrev pub ControlPartsRow : Parse → Type 0
ControlPartsRow p =
    ((first_symbol p ≡ None) × Stands [] (opened p) (after p) × (control_parts (below p) ≡ Some []))
    ⊎ ((first_symbol p ≡ Some ANNOTATIONS) × Stands (ANNOTATIONS ∷ LOCAL ∷ CONTROL_PARTS ∷ []) (opened p) (after p) × (control_parts (below p) ≡ both (λ one more. one ∷ more) (both (λ ns made. record { annotations = ns; local = made }) (annotations (below (opened p))) (local_of (below (after (opened p))))) (control_parts (below (after (after (opened p)))))))

control_parts_go : (k : ℕ) (r : Row) (b a : Parse) → OneOf ([] ∷ (ANNOTATIONS ∷ LOCAL ∷ CONTROL_PARTS ∷ []) ∷ []) r b → ControlPartsRow (Node k r b a)
control_parts_go k r b a (inl h) = inl (ap first_of h.0, stands [] b a h.1, control_parts_value_1 b a h.1)
control_parts_go k r b a (inr (inl h)) = inr (ap first_of h.0, stands (ANNOTATIONS ∷ LOCAL ∷ CONTROL_PARTS ∷ []) b a h.1, control_parts_value_2 b a h.1)
control_parts_go k r b a (inr (inr h)) = absurd h

pub control_parts_row : (p : Parse) → Begins CONTROL_PARTS p → ControlPartsRow p
control_parts_row End h = absurd h
control_parts_row (Word t a) h = absurd h
control_parts_row (Node k r b a) h = control_parts_go k r b a (rw control_parts_rights at (rows_of_form CONTROL_PARTS k r b h))

-- CONTROL

control_rights : rights CONTROL grammar_rows ≡ (KEYWORD_CONTROL ∷ NAME ∷ PARAMETERS ∷ SIGN_LEFT_BRACE ∷ CONTROL_PARTS ∷ KEYWORD_APPLY ∷ BLOCK ∷ SIGN_RIGHT_BRACE ∷ []) ∷ []
unfolding grammar_rows top_rows types_rows expressions_rows operations_rows keys_rows statements_rows parser_rows control_rows tables_rows
control_rights = refl

control_value_1 : (b a : Parse) → Children (KEYWORD_CONTROL ∷ NAME ∷ PARAMETERS ∷ SIGN_LEFT_BRACE ∷ CONTROL_PARTS ∷ KEYWORD_APPLY ∷ BLOCK ∷ SIGN_RIGHT_BRACE ∷ []) b → control b ≡ with_token (λ t0. all_four (λ n ps made b. record { name = n; parameters = ps; parts = made; body = b; span = t0.span }) (name_of (below (after (joined b a)))) (parameters (below (after (after (joined b a))))) (control_parts (below (after (after (after (after (joined b a))))))) (block (below (after (after (after (after (after (after (joined b a)))))))))) (token_at (joined b a))
unfolding control
control_value_1 (Word t0 (Node k1 r1 u1 (Node k2 r2 u2 (Word t3 (Node k4 r4 u4 (Word t5 (Node k6 r6 u6 (Word t7 End)))))))) a h = refl
control_value_1 _ a h = absurd (assumption)

abbrev pub ControlRow : Parse → Type 0
ControlRow p =
    (first_symbol p ≡ Some KEYWORD_CONTROL) × Stands (KEYWORD_CONTROL ∷ NAME ∷ PARAMETERS ∷ SIGN_LEFT_BRACE ∷ CONTROL_PARTS ∷ KEYWORD_APPLY ∷ BLOCK ∷ SIGN_RIGHT_BRACE ∷ []) (opened p) (after p) × (control (below p) ≡ with_token (λ t0. all_four (λ n ps made b. record { name = n; parameters = ps; parts = made; body = b; span = t0.span }) (name_of (below (after (opened p)))) (parameters (below (after (after (opened p))))) (control_parts (below (after (after (after (after (opened p))))))) (block (below (after (after (after (after (after (after (opened p)))))))))) (token_at (opened p)))

control_go : (k : ℕ) (r : Row) (b a : Parse) → OneOf ((KEYWORD_CONTROL ∷ NAME ∷ PARAMETERS ∷ SIGN_LEFT_BRACE ∷ CONTROL_PARTS ∷ KEYWORD_APPLY ∷ BLOCK ∷ SIGN_RIGHT_BRACE ∷ []) ∷ []) r b → ControlRow (Node k r b a)
control_go k r b a (inl h) = (ap first_of h.0, stands (KEYWORD_CONTROL ∷ NAME ∷ PARAMETERS ∷ SIGN_LEFT_BRACE ∷ CONTROL_PARTS ∷ KEYWORD_APPLY ∷ BLOCK ∷ SIGN_RIGHT_BRACE ∷ []) b a h.1, control_value_1 b a h.1)
control_go k r b a (inr h) = absurd h

pub control_row : (p : Parse) → Begins CONTROL p → ControlRow p
control_row End h = absurd h
control_row (Word t a) h = absurd h
control_row (Node k r b a) h = control_go k r b a (rw control_rights at (rows_of_form CONTROL k r b h))

-- LOCAL

local_rights : rights LOCAL grammar_rows ≡ (CONSTANT ∷ []) ∷ (ACTION ∷ []) ∷ (TABLE ∷ []) ∷ (TYPE_FORM ∷ LOCAL_REST ∷ []) ∷ []
unfolding grammar_rows top_rows types_rows expressions_rows operations_rows keys_rows statements_rows parser_rows control_rows tables_rows
local_rights = refl

local_value_1 : (b a : Parse) → Children (CONSTANT ∷ []) b → local_of b ≡ option_map (λ c. local.Constant c) (constant (below (joined b a)))
unfolding local_of
local_value_1 (Node k0 r0 u0 End) a h = ap (λ (l : ℕ). if l == CONSTANT then option_map (λ c. local.Constant c) (constant u0) else (if l == ACTION then option_map (λ a. local.Action a) (action u0) else (option_map (λ t. local.Table t) (table u0)))) h.0.left
local_value_1 _ a h = absurd (assumption)

local_value_2 : (b a : Parse) → Children (ACTION ∷ []) b → local_of b ≡ option_map (λ a. local.Action a) (action (below (joined b a)))
unfolding local_of
local_value_2 (Node k0 r0 u0 End) a h = ap (λ (l : ℕ). if l == CONSTANT then option_map (λ c. local.Constant c) (constant u0) else (if l == ACTION then option_map (λ a. local.Action a) (action u0) else (option_map (λ t. local.Table t) (table u0)))) h.0.left
local_value_2 _ a h = absurd (assumption)

local_value_3 : (b a : Parse) → Children (TABLE ∷ []) b → local_of b ≡ option_map (λ t. local.Table t) (table (below (joined b a)))
unfolding local_of
local_value_3 (Node k0 r0 u0 End) a h = ap (λ (l : ℕ). if l == CONSTANT then option_map (λ c. local.Constant c) (constant u0) else (if l == ACTION then option_map (λ a. local.Action a) (action u0) else (option_map (λ t. local.Table t) (table u0)))) h.0.left
local_value_3 _ a h = absurd (assumption)

local_value_4 : (b a : Parse) → Children (TYPE_FORM ∷ LOCAL_REST ∷ []) b → local_of b ≡ local_rest (type_form (below (joined b a))) (place_of (below (joined b a))) (below (after (joined b a)))
unfolding local_of
local_value_4 (Node k0 r0 u0 (Node k1 r1 u1 End)) a h = refl
local_value_4 _ a h = absurd (assumption)

abbrev pub LocalRow : Parse → Type 0
LocalRow p =
    ((first_symbol p ≡ Some CONSTANT) × Stands (CONSTANT ∷ []) (opened p) (after p) × (local_of (below p) ≡ option_map (λ c. local.Constant c) (constant (below (opened p)))))
    ⊎ ((first_symbol p ≡ Some ACTION) × Stands (ACTION ∷ []) (opened p) (after p) × (local_of (below p) ≡ option_map (λ a. local.Action a) (action (below (opened p)))))
    ⊎ ((first_symbol p ≡ Some TABLE) × Stands (TABLE ∷ []) (opened p) (after p) × (local_of (below p) ≡ option_map (λ t. local.Table t) (table (below (opened p)))))
    ⊎ ((first_symbol p ≡ Some TYPE_FORM) × Stands (TYPE_FORM ∷ LOCAL_REST ∷ []) (opened p) (after p) × (local_of (below p) ≡ local_rest (type_form (below (opened p))) (place_of (below (opened p))) (below (after (opened p)))) × IsPlaced (opened p))

local_go : (k : ℕ) (r : Row) (b a : Parse) → OneOf ((CONSTANT ∷ []) ∷ (ACTION ∷ []) ∷ (TABLE ∷ []) ∷ (TYPE_FORM ∷ LOCAL_REST ∷ []) ∷ []) r b → LocalRow (Node k r b a)
local_go k r b a (inl h) = inl (ap first_of h.0, stands (CONSTANT ∷ []) b a h.1, local_value_1 b a h.1)
local_go k r b a (inr (inl h)) = inr (inl (ap first_of h.0, stands (ACTION ∷ []) b a h.1, local_value_2 b a h.1))
local_go k r b a (inr (inr (inl h))) = inr (inr (inl (ap first_of h.0, stands (TABLE ∷ []) b a h.1, local_value_3 b a h.1)))
local_go k r b a (inr (inr (inr (inl h)))) = inr (inr (inr (ap first_of h.0, stands (TYPE_FORM ∷ LOCAL_REST ∷ []) b a h.1, local_value_4 b a h.1, is_placed TYPE_FORM (joined b a) (stands (TYPE_FORM ∷ LOCAL_REST ∷ []) b a h.1).0 refl)))
local_go k r b a (inr (inr (inr (inr h)))) = absurd h

pub local_row : (p : Parse) → Begins LOCAL p → LocalRow p
local_row End h = absurd h
local_row (Word t a) h = absurd h
local_row (Node k r b a) h = local_go k r b a (rw local_rights at (rows_of_form LOCAL k r b h))

-- LOCAL_REST

local_rest_rights : rights LOCAL_REST grammar_rows ≡ (NAME ∷ INITIAL_VALUE ∷ SIGN_SEMICOLON ∷ []) ∷ (INSTANCE_ARGUMENTS ∷ NAME ∷ SIGN_SEMICOLON ∷ []) ∷ []
unfolding grammar_rows top_rows types_rows expressions_rows operations_rows keys_rows statements_rows parser_rows control_rows tables_rows
local_rest_rights = refl

local_rest_value_1 : (form : Option TypeForm) (span : Option Span) (b a : Parse) → Children (NAME ∷ INITIAL_VALUE ∷ SIGN_SEMICOLON ∷ []) b → local_rest form span b ≡ option_map (λ v. local.Variable v) (all_four variable_at span form (name_of (below (joined b a))) (initial_value (below (after (joined b a)))))
unfolding local_rest
local_rest_value_1 form span (Node k0 r0 u0 (Node k1 r1 u1 (Word t2 End))) a h = ap (λ (l : ℕ). if l == NAME then option_map (λ v. local.Variable v) (all_four variable_at span form (name_of u0) (initial_value u1)) else (option_map (λ made. local.Instance made) (all_four instance_at form span (instance_arguments u0) (name_of u1)))) h.0.left
local_rest_value_1 form span _ a h = absurd (assumption)

local_rest_value_2 : (form : Option TypeForm) (span : Option Span) (b a : Parse) → Children (INSTANCE_ARGUMENTS ∷ NAME ∷ SIGN_SEMICOLON ∷ []) b → local_rest form span b ≡ option_map (λ made. local.Instance made) (all_four instance_at form span (instance_arguments (below (joined b a))) (name_of (below (after (joined b a)))))
unfolding local_rest
local_rest_value_2 form span (Node k0 r0 u0 (Node k1 r1 u1 (Word t2 End))) a h = ap (λ (l : ℕ). if l == NAME then option_map (λ v. local.Variable v) (all_four variable_at span form (name_of u0) (initial_value u1)) else (option_map (λ made. local.Instance made) (all_four instance_at form span (instance_arguments u0) (name_of u1)))) h.0.left
local_rest_value_2 form span _ a h = absurd (assumption)

abbrev pub LocalRestRow : Parse → Type 0
LocalRestRow p =
    ((first_symbol p ≡ Some NAME) × Stands (NAME ∷ INITIAL_VALUE ∷ SIGN_SEMICOLON ∷ []) (opened p) (after p) × ((form : Option TypeForm) (span : Option Span) → local_rest form span (below p) ≡ option_map (λ v. local.Variable v) (all_four variable_at span form (name_of (below (opened p))) (initial_value (below (after (opened p)))))))
    ⊎ ((first_symbol p ≡ Some INSTANCE_ARGUMENTS) × Stands (INSTANCE_ARGUMENTS ∷ NAME ∷ SIGN_SEMICOLON ∷ []) (opened p) (after p) × ((form : Option TypeForm) (span : Option Span) → local_rest form span (below p) ≡ option_map (λ made. local.Instance made) (all_four instance_at form span (instance_arguments (below (opened p))) (name_of (below (after (opened p)))))))

local_rest_go : (k : ℕ) (r : Row) (b a : Parse) → OneOf ((NAME ∷ INITIAL_VALUE ∷ SIGN_SEMICOLON ∷ []) ∷ (INSTANCE_ARGUMENTS ∷ NAME ∷ SIGN_SEMICOLON ∷ []) ∷ []) r b → LocalRestRow (Node k r b a)
local_rest_go k r b a (inl h) = inl (ap first_of h.0, stands (NAME ∷ INITIAL_VALUE ∷ SIGN_SEMICOLON ∷ []) b a h.1, λ form span. local_rest_value_1 form span b a h.1)
local_rest_go k r b a (inr (inl h)) = inr (ap first_of h.0, stands (INSTANCE_ARGUMENTS ∷ NAME ∷ SIGN_SEMICOLON ∷ []) b a h.1, λ form span. local_rest_value_2 form span b a h.1)
local_rest_go k r b a (inr (inr h)) = absurd h

pub local_rest_row : (p : Parse) → Begins LOCAL_REST p → LocalRestRow p
local_rest_row End h = absurd h
local_rest_row (Word t a) h = absurd h
local_rest_row (Node k r b a) h = local_rest_go k r b a (rw local_rest_rights at (rows_of_form LOCAL_REST k r b h))
