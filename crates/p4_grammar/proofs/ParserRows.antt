-- The rows of parsers and states.
use Rattle.std.proofs.Common.{◌≡◌, ℕ, [], ◌∷◌, None, Some, refl, ap, inl, inr, ◌⊎◌}
use Rattle.std.specs.Prelude.{◌==◌, if◌then◌else◌, IsSome, Option}
use Rattle.ll1_engine.specs.declared.grammar.Row.{Row}
use Rattle.p4_grammar.specs.declared.symbols.TheConstants.{ANNOTATIONS, CONSTANT, DIRECTION, EXPRESSIONS, INITIAL_VALUE, KEYWORD_IN, KEYWORD_INOUT, KEYWORD_OUT, KEYWORD_PARSER, KEYWORD_SELECT, KEYWORD_STATE, KEYWORD_TRANSITION, KEY_SET, NAME, PARAMETER, PARAMETERS, PARAMETERS_LIST, PARAMETERS_TAIL, PARSER, PARSER_PART, PARSER_PARTS, SELECT_CASES, SIGN_COLON, SIGN_COMMA, SIGN_LEFT_BRACE, SIGN_LEFT_PAREN, SIGN_RIGHT_BRACE, SIGN_RIGHT_PAREN, SIGN_SEMICOLON, STATE, STATE_END, STATE_PARTS, TRANSITION, TRANSITION_TARGET, TYPE_FORM, VARIABLE}
use Rattle.p4_grammar.specs.Rows.{top_rows, types_rows, expressions_rows, operations_rows, keys_rows, statements_rows, parser_rows, control_rows, tables_rows, grammar_rows}
use Rattle.p4_grammar.specs.Parses.{Parse, End, Word, Node, place_of, tokens_in, option_map, both, all_three, all_four}
use Rattle.p4_grammar.specs.Ahead.{Begins, below, after, joined, opened, token_at, first_of, first_symbol}
use Rattle.p4_tree.specs.declared.parsers.TransitionKind.TheVariants.{To, Select}
use Rattle.p4_grammar.specs.Names.{name_of, annotations}
use Rattle.p4_grammar.specs.Expressions.{expressions, type_form}
use Rattle.p4_grammar.specs.Keys.{key_set}
use Rattle.p4_grammar.specs.Statements.{initial_value, constant, variable_at, variable, block_parts}
use Rattle.p4_tree.specs.declared.parsers.ParserPartKind.TheVariants as part
use Rattle.tg_base.specs.declared.place.Span.{Span}
use Rattle.p4_grammar.specs.Parsers.{direction_at, direction_of, parameter_at, parameter, parameters_tail, parameters_list, parameters, select_cases, transition_target, transition, state_end, state, parser_part, parser_parts, parser}
use Rattle.p4_grammar.proofs.RowsOfForms.{rights, Children, OneOf, Stands, rows_of_form, stands, with_token}
use Rattle.p4_grammar.proofs.FirstPlaces.{IsPlaced, is_placed, not_empty, same_first, some_first}

-- DIRECTION

direction_rights : rights DIRECTION grammar_rows ≡ [] ∷ (KEYWORD_IN ∷ []) ∷ (KEYWORD_OUT ∷ []) ∷ (KEYWORD_INOUT ∷ []) ∷ []
unfolding grammar_rows top_rows types_rows expressions_rows operations_rows keys_rows statements_rows parser_rows control_rows tables_rows
direction_rights = refl

direction_value_1 : (b a : Parse) → Children [] b → direction_of b ≡ Some None
unfolding direction_of
direction_value_1 End a h = refl
direction_value_1 _ a h = absurd (assumption)

direction_value_2 : (b a : Parse) → Children (KEYWORD_IN ∷ []) b → direction_of b ≡ with_token (λ t0. option_map (λ d. Some d) (direction_at t0.word)) (token_at (joined b a))
unfolding direction_of
direction_value_2 (Word t0 End) a h = refl
direction_value_2 _ a h = absurd (assumption)

direction_value_3 : (b a : Parse) → Children (KEYWORD_OUT ∷ []) b → direction_of b ≡ with_token (λ t0. option_map (λ d. Some d) (direction_at t0.word)) (token_at (joined b a))
unfolding direction_of
direction_value_3 (Word t0 End) a h = refl
direction_value_3 _ a h = absurd (assumption)

direction_value_4 : (b a : Parse) → Children (KEYWORD_INOUT ∷ []) b → direction_of b ≡ with_token (λ t0. option_map (λ d. Some d) (direction_at t0.word)) (token_at (joined b a))
unfolding direction_of
direction_value_4 (Word t0 End) a h = refl
direction_value_4 _ a h = absurd (assumption)

abbrev pub DirectionRow : Parse → Type 0
DirectionRow p =
    ((first_symbol p ≡ None) × Stands [] (opened p) (after p) × (direction_of (below p) ≡ Some None))
    ⊎ ((first_symbol p ≡ Some KEYWORD_IN) × Stands (KEYWORD_IN ∷ []) (opened p) (after p) × (direction_of (below p) ≡ with_token (λ t0. option_map (λ d. Some d) (direction_at t0.word)) (token_at (opened p))))
    ⊎ ((first_symbol p ≡ Some KEYWORD_OUT) × Stands (KEYWORD_OUT ∷ []) (opened p) (after p) × (direction_of (below p) ≡ with_token (λ t0. option_map (λ d. Some d) (direction_at t0.word)) (token_at (opened p))))
    ⊎ ((first_symbol p ≡ Some KEYWORD_INOUT) × Stands (KEYWORD_INOUT ∷ []) (opened p) (after p) × (direction_of (below p) ≡ with_token (λ t0. option_map (λ d. Some d) (direction_at t0.word)) (token_at (opened p))))

direction_go : (k : ℕ) (r : Row) (b a : Parse) → OneOf ([] ∷ (KEYWORD_IN ∷ []) ∷ (KEYWORD_OUT ∷ []) ∷ (KEYWORD_INOUT ∷ []) ∷ []) r b → DirectionRow (Node k r b a)
direction_go k r b a (inl h) = inl (ap first_of h.0, stands [] b a h.1, direction_value_1 b a h.1)
direction_go k r b a (inr (inl h)) = inr (inl (ap first_of h.0, stands (KEYWORD_IN ∷ []) b a h.1, direction_value_2 b a h.1))
direction_go k r b a (inr (inr (inl h))) = inr (inr (inl (ap first_of h.0, stands (KEYWORD_OUT ∷ []) b a h.1, direction_value_3 b a h.1)))
direction_go k r b a (inr (inr (inr (inl h)))) = inr (inr (inr (ap first_of h.0, stands (KEYWORD_INOUT ∷ []) b a h.1, direction_value_4 b a h.1)))
direction_go k r b a (inr (inr (inr (inr h)))) = absurd h

pub direction_row : (p : Parse) → Begins DIRECTION p → DirectionRow p
direction_row End h = absurd h
direction_row (Word t a) h = absurd h
direction_row (Node k r b a) h = direction_go k r b a (rw direction_rights at (rows_of_form DIRECTION k r b h))

-- PARAMETERS_TAIL

parameters_tail_rights : rights PARAMETERS_TAIL grammar_rows ≡ [] ∷ (SIGN_COMMA ∷ PARAMETER ∷ PARAMETERS_TAIL ∷ []) ∷ []
unfolding grammar_rows top_rows types_rows expressions_rows operations_rows keys_rows statements_rows parser_rows control_rows tables_rows
parameters_tail_rights = refl

parameters_tail_value_1 : (b a : Parse) → Children [] b → parameters_tail b ≡ Some []
unfolding parameters_tail
parameters_tail_value_1 End a h = refl
parameters_tail_value_1 _ a h = absurd (assumption)

parameters_tail_value_2 : (b a : Parse) → Children (SIGN_COMMA ∷ PARAMETER ∷ PARAMETERS_TAIL ∷ []) b → parameters_tail b ≡ both (λ one more. one ∷ more) (parameter (below (after (joined b a)))) (parameters_tail (below (after (after (joined b a)))))
unfolding parameters_tail
parameters_tail_value_2 (Word t0 (Node k1 r1 u1 (Node k2 r2 u2 End))) a h = refl
parameters_tail_value_2 _ a h = absurd (assumption)

abbrev pub ParametersTailRow : Parse → Type 0
ParametersTailRow p =
    ((first_symbol p ≡ None) × Stands [] (opened p) (after p) × (parameters_tail (below p) ≡ Some []))
    ⊎ ((first_symbol p ≡ Some SIGN_COMMA) × Stands (SIGN_COMMA ∷ PARAMETER ∷ PARAMETERS_TAIL ∷ []) (opened p) (after p) × (parameters_tail (below p) ≡ both (λ one more. one ∷ more) (parameter (below (after (opened p)))) (parameters_tail (below (after (after (opened p)))))))

parameters_tail_go : (k : ℕ) (r : Row) (b a : Parse) → OneOf ([] ∷ (SIGN_COMMA ∷ PARAMETER ∷ PARAMETERS_TAIL ∷ []) ∷ []) r b → ParametersTailRow (Node k r b a)
parameters_tail_go k r b a (inl h) = inl (ap first_of h.0, stands [] b a h.1, parameters_tail_value_1 b a h.1)
parameters_tail_go k r b a (inr (inl h)) = inr (ap first_of h.0, stands (SIGN_COMMA ∷ PARAMETER ∷ PARAMETERS_TAIL ∷ []) b a h.1, parameters_tail_value_2 b a h.1)
parameters_tail_go k r b a (inr (inr h)) = absurd h

pub parameters_tail_row : (p : Parse) → Begins PARAMETERS_TAIL p → ParametersTailRow p
parameters_tail_row End h = absurd h
parameters_tail_row (Word t a) h = absurd h
parameters_tail_row (Node k r b a) h = parameters_tail_go k r b a (rw parameters_tail_rights at (rows_of_form PARAMETERS_TAIL k r b h))

-- PARAMETERS_LIST

parameters_list_rights : rights PARAMETERS_LIST grammar_rows ≡ [] ∷ (PARAMETER ∷ PARAMETERS_TAIL ∷ []) ∷ []
unfolding grammar_rows top_rows types_rows expressions_rows operations_rows keys_rows statements_rows parser_rows control_rows tables_rows
parameters_list_rights = refl

parameters_list_value_1 : (b a : Parse) → Children [] b → parameters_list b ≡ Some []
unfolding parameters_list
parameters_list_value_1 End a h = refl
parameters_list_value_1 _ a h = absurd (assumption)

parameters_list_value_2 : (b a : Parse) → Children (PARAMETER ∷ PARAMETERS_TAIL ∷ []) b → parameters_list b ≡ both (λ one more. one ∷ more) (parameter (below (joined b a))) (parameters_tail (below (after (joined b a))))
unfolding parameters_list
parameters_list_value_2 (Node k0 r0 u0 (Node k1 r1 u1 End)) a h = refl
parameters_list_value_2 _ a h = absurd (assumption)

abbrev pub ParametersListRow : Parse → Type 0
ParametersListRow p =
    ((first_symbol p ≡ None) × Stands [] (opened p) (after p) × (parameters_list (below p) ≡ Some []))
    ⊎ ((first_symbol p ≡ Some PARAMETER) × Stands (PARAMETER ∷ PARAMETERS_TAIL ∷ []) (opened p) (after p) × (parameters_list (below p) ≡ both (λ one more. one ∷ more) (parameter (below (opened p))) (parameters_tail (below (after (opened p))))))

parameters_list_go : (k : ℕ) (r : Row) (b a : Parse) → OneOf ([] ∷ (PARAMETER ∷ PARAMETERS_TAIL ∷ []) ∷ []) r b → ParametersListRow (Node k r b a)
parameters_list_go k r b a (inl h) = inl (ap first_of h.0, stands [] b a h.1, parameters_list_value_1 b a h.1)
parameters_list_go k r b a (inr (inl h)) = inr (ap first_of h.0, stands (PARAMETER ∷ PARAMETERS_TAIL ∷ []) b a h.1, parameters_list_value_2 b a h.1)
parameters_list_go k r b a (inr (inr h)) = absurd h

pub parameters_list_row : (p : Parse) → Begins PARAMETERS_LIST p → ParametersListRow p
parameters_list_row End h = absurd h
parameters_list_row (Word t a) h = absurd h
parameters_list_row (Node k r b a) h = parameters_list_go k r b a (rw parameters_list_rights at (rows_of_form PARAMETERS_LIST k r b h))

-- PARAMETERS

parameters_rights : rights PARAMETERS grammar_rows ≡ (SIGN_LEFT_PAREN ∷ PARAMETERS_LIST ∷ SIGN_RIGHT_PAREN ∷ []) ∷ []
unfolding grammar_rows top_rows types_rows expressions_rows operations_rows keys_rows statements_rows parser_rows control_rows tables_rows
parameters_rights = refl

parameters_value_1 : (b a : Parse) → Children (SIGN_LEFT_PAREN ∷ PARAMETERS_LIST ∷ SIGN_RIGHT_PAREN ∷ []) b → parameters b ≡ parameters_list (below (after (joined b a)))
unfolding parameters
parameters_value_1 (Word t0 (Node k1 r1 u1 (Word t2 End))) a h = refl
parameters_value_1 _ a h = absurd (assumption)

abbrev pub ParametersRow : Parse → Type 0
ParametersRow p =
    (first_symbol p ≡ Some SIGN_LEFT_PAREN) × Stands (SIGN_LEFT_PAREN ∷ PARAMETERS_LIST ∷ SIGN_RIGHT_PAREN ∷ []) (opened p) (after p) × (parameters (below p) ≡ parameters_list (below (after (opened p))))

parameters_go : (k : ℕ) (r : Row) (b a : Parse) → OneOf ((SIGN_LEFT_PAREN ∷ PARAMETERS_LIST ∷ SIGN_RIGHT_PAREN ∷ []) ∷ []) r b → ParametersRow (Node k r b a)
parameters_go k r b a (inl h) = (ap first_of h.0, stands (SIGN_LEFT_PAREN ∷ PARAMETERS_LIST ∷ SIGN_RIGHT_PAREN ∷ []) b a h.1, parameters_value_1 b a h.1)
parameters_go k r b a (inr h) = absurd h

pub parameters_row : (p : Parse) → Begins PARAMETERS p → ParametersRow p
parameters_row End h = absurd h
parameters_row (Word t a) h = absurd h
parameters_row (Node k r b a) h = parameters_go k r b a (rw parameters_rights at (rows_of_form PARAMETERS k r b h))

-- SELECT_CASES

select_cases_rights : rights SELECT_CASES grammar_rows ≡ [] ∷ (KEY_SET ∷ SIGN_COLON ∷ NAME ∷ SIGN_SEMICOLON ∷ SELECT_CASES ∷ []) ∷ []
unfolding grammar_rows top_rows types_rows expressions_rows operations_rows keys_rows statements_rows parser_rows control_rows tables_rows
select_cases_rights = refl

select_cases_value_1 : (b a : Parse) → Children [] b → select_cases b ≡ Some []
unfolding select_cases
select_cases_value_1 End a h = refl
select_cases_value_1 _ a h = absurd (assumption)

select_cases_value_2 : (b a : Parse) → Children (KEY_SET ∷ SIGN_COLON ∷ NAME ∷ SIGN_SEMICOLON ∷ SELECT_CASES ∷ []) b → select_cases b ≡ both (λ one more. one ∷ more) (all_three (λ set target span. record { key_set = set; target = target; span = span }) (key_set (below (joined b a))) (name_of (below (after (after (joined b a))))) (place_of (below (joined b a)))) (select_cases (below (after (after (after (after (joined b a)))))))
unfolding select_cases
select_cases_value_2 (Node k0 r0 u0 (Word t1 (Node k2 r2 u2 (Word t3 (Node k4 r4 u4 End))))) a h = refl
select_cases_value_2 _ a h = absurd (assumption)

abbrev pub SelectCasesRow : Parse → Type 0
SelectCasesRow p =
    ((first_symbol p ≡ None) × Stands [] (opened p) (after p) × (select_cases (below p) ≡ Some []))
    ⊎ ((first_symbol p ≡ Some KEY_SET) × Stands (KEY_SET ∷ SIGN_COLON ∷ NAME ∷ SIGN_SEMICOLON ∷ SELECT_CASES ∷ []) (opened p) (after p) × (select_cases (below p) ≡ both (λ one more. one ∷ more) (all_three (λ set target span. record { key_set = set; target = target; span = span }) (key_set (below (opened p))) (name_of (below (after (after (opened p))))) (place_of (below (opened p)))) (select_cases (below (after (after (after (after (opened p)))))))) × IsPlaced (opened p))

select_cases_go : (k : ℕ) (r : Row) (b a : Parse) → OneOf ([] ∷ (KEY_SET ∷ SIGN_COLON ∷ NAME ∷ SIGN_SEMICOLON ∷ SELECT_CASES ∷ []) ∷ []) r b → SelectCasesRow (Node k r b a)
select_cases_go k r b a (inl h) = inl (ap first_of h.0, stands [] b a h.1, select_cases_value_1 b a h.1)
select_cases_go k r b a (inr (inl h)) = inr (ap first_of h.0, stands (KEY_SET ∷ SIGN_COLON ∷ NAME ∷ SIGN_SEMICOLON ∷ SELECT_CASES ∷ []) b a h.1, select_cases_value_2 b a h.1, is_placed KEY_SET (joined b a) (stands (KEY_SET ∷ SIGN_COLON ∷ NAME ∷ SIGN_SEMICOLON ∷ SELECT_CASES ∷ []) b a h.1).0 refl)
select_cases_go k r b a (inr (inr h)) = absurd h

pub select_cases_row : (p : Parse) → Begins SELECT_CASES p → SelectCasesRow p
select_cases_row End h = absurd h
select_cases_row (Word t a) h = absurd h
select_cases_row (Node k r b a) h = select_cases_go k r b a (rw select_cases_rights at (rows_of_form SELECT_CASES k r b h))

-- TRANSITION_TARGET

transition_target_rights : rights TRANSITION_TARGET grammar_rows ≡ (NAME ∷ SIGN_SEMICOLON ∷ []) ∷ (KEYWORD_SELECT ∷ SIGN_LEFT_PAREN ∷ EXPRESSIONS ∷ SIGN_RIGHT_PAREN ∷ SIGN_LEFT_BRACE ∷ SELECT_CASES ∷ SIGN_RIGHT_BRACE ∷ []) ∷ []
unfolding grammar_rows top_rows types_rows expressions_rows operations_rows keys_rows statements_rows parser_rows control_rows tables_rows
transition_target_rights = refl

transition_target_value_1 : (b a : Parse) → Children (NAME ∷ SIGN_SEMICOLON ∷ []) b → transition_target b ≡ option_map (λ n. To n) (name_of (below (joined b a)))
unfolding transition_target
transition_target_value_1 (Node k0 r0 u0 (Word t1 End)) a h = refl
transition_target_value_1 _ a h = absurd (assumption)

transition_target_value_2 : (b a : Parse) → Children (KEYWORD_SELECT ∷ SIGN_LEFT_PAREN ∷ EXPRESSIONS ∷ SIGN_RIGHT_PAREN ∷ SIGN_LEFT_BRACE ∷ SELECT_CASES ∷ SIGN_RIGHT_BRACE ∷ []) b → transition_target b ≡ both (λ es cs. Select es cs) (expressions (below (after (after (joined b a))))) (select_cases (below (after (after (after (after (after (joined b a))))))))
unfolding transition_target
transition_target_value_2 (Word t0 (Word t1 (Node k2 r2 u2 (Word t3 (Word t4 (Node k5 r5 u5 (Word t6 End))))))) a h = refl
transition_target_value_2 _ a h = absurd (assumption)

abbrev pub TransitionTargetRow : Parse → Type 0
TransitionTargetRow p =
    ((first_symbol p ≡ Some NAME) × Stands (NAME ∷ SIGN_SEMICOLON ∷ []) (opened p) (after p) × (transition_target (below p) ≡ option_map (λ n. To n) (name_of (below (opened p)))))
    ⊎ ((first_symbol p ≡ Some KEYWORD_SELECT) × Stands (KEYWORD_SELECT ∷ SIGN_LEFT_PAREN ∷ EXPRESSIONS ∷ SIGN_RIGHT_PAREN ∷ SIGN_LEFT_BRACE ∷ SELECT_CASES ∷ SIGN_RIGHT_BRACE ∷ []) (opened p) (after p) × (transition_target (below p) ≡ both (λ es cs. Select es cs) (expressions (below (after (after (opened p))))) (select_cases (below (after (after (after (after (after (opened p))))))))))

transition_target_go : (k : ℕ) (r : Row) (b a : Parse) → OneOf ((NAME ∷ SIGN_SEMICOLON ∷ []) ∷ (KEYWORD_SELECT ∷ SIGN_LEFT_PAREN ∷ EXPRESSIONS ∷ SIGN_RIGHT_PAREN ∷ SIGN_LEFT_BRACE ∷ SELECT_CASES ∷ SIGN_RIGHT_BRACE ∷ []) ∷ []) r b → TransitionTargetRow (Node k r b a)
transition_target_go k r b a (inl h) = inl (ap first_of h.0, stands (NAME ∷ SIGN_SEMICOLON ∷ []) b a h.1, transition_target_value_1 b a h.1)
transition_target_go k r b a (inr (inl h)) = inr (ap first_of h.0, stands (KEYWORD_SELECT ∷ SIGN_LEFT_PAREN ∷ EXPRESSIONS ∷ SIGN_RIGHT_PAREN ∷ SIGN_LEFT_BRACE ∷ SELECT_CASES ∷ SIGN_RIGHT_BRACE ∷ []) b a h.1, transition_target_value_2 b a h.1)
transition_target_go k r b a (inr (inr h)) = absurd h

pub transition_target_row : (p : Parse) → Begins TRANSITION_TARGET p → TransitionTargetRow p
transition_target_row End h = absurd h
transition_target_row (Word t a) h = absurd h
transition_target_row (Node k r b a) h = transition_target_go k r b a (rw transition_target_rights at (rows_of_form TRANSITION_TARGET k r b h))

-- TRANSITION

transition_rights : rights TRANSITION grammar_rows ≡ (KEYWORD_TRANSITION ∷ TRANSITION_TARGET ∷ []) ∷ []
unfolding grammar_rows top_rows types_rows expressions_rows operations_rows keys_rows statements_rows parser_rows control_rows tables_rows
transition_rights = refl

transition_value_1 : (b a : Parse) → Children (KEYWORD_TRANSITION ∷ TRANSITION_TARGET ∷ []) b → transition b ≡ with_token (λ t0. option_map (λ kind. record { kind = kind; span = t0.span }) (transition_target (below (after (joined b a))))) (token_at (joined b a))
unfolding transition
transition_value_1 (Word t0 (Node k1 r1 u1 End)) a h = refl
transition_value_1 _ a h = absurd (assumption)

abbrev pub TransitionRow : Parse → Type 0
TransitionRow p =
    (first_symbol p ≡ Some KEYWORD_TRANSITION) × Stands (KEYWORD_TRANSITION ∷ TRANSITION_TARGET ∷ []) (opened p) (after p) × (transition (below p) ≡ with_token (λ t0. option_map (λ kind. record { kind = kind; span = t0.span }) (transition_target (below (after (opened p))))) (token_at (opened p)))

transition_go : (k : ℕ) (r : Row) (b a : Parse) → OneOf ((KEYWORD_TRANSITION ∷ TRANSITION_TARGET ∷ []) ∷ []) r b → TransitionRow (Node k r b a)
transition_go k r b a (inl h) = (ap first_of h.0, stands (KEYWORD_TRANSITION ∷ TRANSITION_TARGET ∷ []) b a h.1, transition_value_1 b a h.1)
transition_go k r b a (inr h) = absurd h

pub transition_row : (p : Parse) → Begins TRANSITION p → TransitionRow p
transition_row End h = absurd h
transition_row (Word t a) h = absurd h
transition_row (Node k r b a) h = transition_go k r b a (rw transition_rights at (rows_of_form TRANSITION k r b h))

-- STATE_END

state_end_rights : rights STATE_END grammar_rows ≡ [] ∷ (TRANSITION ∷ []) ∷ []
unfolding grammar_rows top_rows types_rows expressions_rows operations_rows keys_rows statements_rows parser_rows control_rows tables_rows
state_end_rights = refl

state_end_value_1 : (b a : Parse) → Children [] b → state_end b ≡ Some None
unfolding state_end
state_end_value_1 End a h = refl
state_end_value_1 _ a h = absurd (assumption)

state_end_value_2 : (b a : Parse) → Children (TRANSITION ∷ []) b → state_end b ≡ option_map (λ t. Some t) (transition (below (joined b a)))
unfolding state_end
state_end_value_2 (Node k0 r0 u0 End) a h = refl
state_end_value_2 _ a h = absurd (assumption)

abbrev pub StateEndRow : Parse → Type 0
StateEndRow p =
    ((first_symbol p ≡ None) × Stands [] (opened p) (after p) × (state_end (below p) ≡ Some None))
    ⊎ ((first_symbol p ≡ Some TRANSITION) × Stands (TRANSITION ∷ []) (opened p) (after p) × (state_end (below p) ≡ option_map (λ t. Some t) (transition (below (opened p)))))

state_end_go : (k : ℕ) (r : Row) (b a : Parse) → OneOf ([] ∷ (TRANSITION ∷ []) ∷ []) r b → StateEndRow (Node k r b a)
state_end_go k r b a (inl h) = inl (ap first_of h.0, stands [] b a h.1, state_end_value_1 b a h.1)
state_end_go k r b a (inr (inl h)) = inr (ap first_of h.0, stands (TRANSITION ∷ []) b a h.1, state_end_value_2 b a h.1)
state_end_go k r b a (inr (inr h)) = absurd h

pub state_end_row : (p : Parse) → Begins STATE_END p → StateEndRow p
state_end_row End h = absurd h
state_end_row (Word t a) h = absurd h
state_end_row (Node k r b a) h = state_end_go k r b a (rw state_end_rights at (rows_of_form STATE_END k r b h))

-- STATE

state_rights : rights STATE grammar_rows ≡ (KEYWORD_STATE ∷ NAME ∷ SIGN_LEFT_BRACE ∷ STATE_PARTS ∷ STATE_END ∷ SIGN_RIGHT_BRACE ∷ []) ∷ []
unfolding grammar_rows top_rows types_rows expressions_rows operations_rows keys_rows statements_rows parser_rows control_rows tables_rows
state_rights = refl

state_value_1 : (b a : Parse) → Children (KEYWORD_STATE ∷ NAME ∷ SIGN_LEFT_BRACE ∷ STATE_PARTS ∷ STATE_END ∷ SIGN_RIGHT_BRACE ∷ []) b → state b ≡ with_token (λ t0. all_three (λ n ps t. record { name = n; parts = ps; transition = t; span = t0.span }) (name_of (below (after (joined b a)))) (block_parts (below (after (after (after (joined b a)))))) (state_end (below (after (after (after (after (joined b a)))))))) (token_at (joined b a))
unfolding state
state_value_1 (Word t0 (Node k1 r1 u1 (Word t2 (Node k3 r3 u3 (Node k4 r4 u4 (Word t5 End)))))) a h = refl
state_value_1 _ a h = absurd (assumption)

abbrev pub StateRow : Parse → Type 0
StateRow p =
    (first_symbol p ≡ Some KEYWORD_STATE) × Stands (KEYWORD_STATE ∷ NAME ∷ SIGN_LEFT_BRACE ∷ STATE_PARTS ∷ STATE_END ∷ SIGN_RIGHT_BRACE ∷ []) (opened p) (after p) × (state (below p) ≡ with_token (λ t0. all_three (λ n ps t. record { name = n; parts = ps; transition = t; span = t0.span }) (name_of (below (after (opened p)))) (block_parts (below (after (after (after (opened p)))))) (state_end (below (after (after (after (after (opened p)))))))) (token_at (opened p)))

state_go : (k : ℕ) (r : Row) (b a : Parse) → OneOf ((KEYWORD_STATE ∷ NAME ∷ SIGN_LEFT_BRACE ∷ STATE_PARTS ∷ STATE_END ∷ SIGN_RIGHT_BRACE ∷ []) ∷ []) r b → StateRow (Node k r b a)
state_go k r b a (inl h) = (ap first_of h.0, stands (KEYWORD_STATE ∷ NAME ∷ SIGN_LEFT_BRACE ∷ STATE_PARTS ∷ STATE_END ∷ SIGN_RIGHT_BRACE ∷ []) b a h.1, state_value_1 b a h.1)
state_go k r b a (inr h) = absurd h

pub state_row : (p : Parse) → Begins STATE p → StateRow p
state_row End h = absurd h
state_row (Word t a) h = absurd h
state_row (Node k r b a) h = state_go k r b a (rw state_rights at (rows_of_form STATE k r b h))

-- PARSER_PARTS

parser_parts_rights : rights PARSER_PARTS grammar_rows ≡ [] ∷ (ANNOTATIONS ∷ PARSER_PART ∷ PARSER_PARTS ∷ []) ∷ []
unfolding grammar_rows top_rows types_rows expressions_rows operations_rows keys_rows statements_rows parser_rows control_rows tables_rows
parser_parts_rights = refl

parser_parts_value_1 : (b a : Parse) → Children [] b → parser_parts b ≡ Some []
unfolding parser_parts
parser_parts_value_1 End a h = refl
parser_parts_value_1 _ a h = absurd (assumption)

parser_parts_value_2 : (b a : Parse) → Children (ANNOTATIONS ∷ PARSER_PART ∷ PARSER_PARTS ∷ []) b → parser_parts b ≡ both (λ one more. one ∷ more) (both (λ ns kind. record { annotations = ns; kind = kind }) (annotations (below (joined b a))) (parser_part (below (after (joined b a))))) (parser_parts (below (after (after (joined b a)))))
unfolding parser_parts
parser_parts_value_2 (Node k0 r0 u0 (Node k1 r1 u1 (Node k2 r2 u2 End))) a h = refl
parser_parts_value_2 _ a h = absurd (assumption)

abbrev pub ParserPartsRow : Parse → Type 0
ParserPartsRow p =
    ((first_symbol p ≡ None) × Stands [] (opened p) (after p) × (parser_parts (below p) ≡ Some []))
    ⊎ ((first_symbol p ≡ Some ANNOTATIONS) × Stands (ANNOTATIONS ∷ PARSER_PART ∷ PARSER_PARTS ∷ []) (opened p) (after p) × (parser_parts (below p) ≡ both (λ one more. one ∷ more) (both (λ ns kind. record { annotations = ns; kind = kind }) (annotations (below (opened p))) (parser_part (below (after (opened p))))) (parser_parts (below (after (after (opened p)))))))

parser_parts_go : (k : ℕ) (r : Row) (b a : Parse) → OneOf ([] ∷ (ANNOTATIONS ∷ PARSER_PART ∷ PARSER_PARTS ∷ []) ∷ []) r b → ParserPartsRow (Node k r b a)
parser_parts_go k r b a (inl h) = inl (ap first_of h.0, stands [] b a h.1, parser_parts_value_1 b a h.1)
parser_parts_go k r b a (inr (inl h)) = inr (ap first_of h.0, stands (ANNOTATIONS ∷ PARSER_PART ∷ PARSER_PARTS ∷ []) b a h.1, parser_parts_value_2 b a h.1)
parser_parts_go k r b a (inr (inr h)) = absurd h

pub parser_parts_row : (p : Parse) → Begins PARSER_PARTS p → ParserPartsRow p
parser_parts_row End h = absurd h
parser_parts_row (Word t a) h = absurd h
parser_parts_row (Node k r b a) h = parser_parts_go k r b a (rw parser_parts_rights at (rows_of_form PARSER_PARTS k r b h))

-- PARSER

parser_rights : rights PARSER grammar_rows ≡ (KEYWORD_PARSER ∷ NAME ∷ PARAMETERS ∷ SIGN_LEFT_BRACE ∷ PARSER_PARTS ∷ SIGN_RIGHT_BRACE ∷ []) ∷ []
unfolding grammar_rows top_rows types_rows expressions_rows operations_rows keys_rows statements_rows parser_rows control_rows tables_rows
parser_rights = refl

parser_value_1 : (b a : Parse) → Children (KEYWORD_PARSER ∷ NAME ∷ PARAMETERS ∷ SIGN_LEFT_BRACE ∷ PARSER_PARTS ∷ SIGN_RIGHT_BRACE ∷ []) b → parser b ≡ with_token (λ t0. all_three (λ n ps parts. record { name = n; parameters = ps; parts = parts; span = t0.span }) (name_of (below (after (joined b a)))) (parameters (below (after (after (joined b a))))) (parser_parts (below (after (after (after (after (joined b a)))))))) (token_at (joined b a))
unfolding parser
parser_value_1 (Word t0 (Node k1 r1 u1 (Node k2 r2 u2 (Word t3 (Node k4 r4 u4 (Word t5 End)))))) a h = refl
parser_value_1 _ a h = absurd (assumption)

abbrev pub ParserRow : Parse → Type 0
ParserRow p =
    (first_symbol p ≡ Some KEYWORD_PARSER) × Stands (KEYWORD_PARSER ∷ NAME ∷ PARAMETERS ∷ SIGN_LEFT_BRACE ∷ PARSER_PARTS ∷ SIGN_RIGHT_BRACE ∷ []) (opened p) (after p) × (parser (below p) ≡ with_token (λ t0. all_three (λ n ps parts. record { name = n; parameters = ps; parts = parts; span = t0.span }) (name_of (below (after (opened p)))) (parameters (below (after (after (opened p))))) (parser_parts (below (after (after (after (after (opened p)))))))) (token_at (opened p)))

parser_go : (k : ℕ) (r : Row) (b a : Parse) → OneOf ((KEYWORD_PARSER ∷ NAME ∷ PARAMETERS ∷ SIGN_LEFT_BRACE ∷ PARSER_PARTS ∷ SIGN_RIGHT_BRACE ∷ []) ∷ []) r b → ParserRow (Node k r b a)
parser_go k r b a (inl h) = (ap first_of h.0, stands (KEYWORD_PARSER ∷ NAME ∷ PARAMETERS ∷ SIGN_LEFT_BRACE ∷ PARSER_PARTS ∷ SIGN_RIGHT_BRACE ∷ []) b a h.1, parser_value_1 b a h.1)
parser_go k r b a (inr h) = absurd h

pub parser_row : (p : Parse) → Begins PARSER p → ParserRow p
parser_row End h = absurd h
parser_row (Word t a) h = absurd h
parser_row (Node k r b a) h = parser_go k r b a (rw parser_rights at (rows_of_form PARSER k r b h))

-- VARIABLE

variable_rights : rights VARIABLE grammar_rows ≡ (CONSTANT ∷ []) ∷ (TYPE_FORM ∷ NAME ∷ INITIAL_VALUE ∷ SIGN_SEMICOLON ∷ []) ∷ []
unfolding grammar_rows top_rows types_rows expressions_rows operations_rows keys_rows statements_rows parser_rows control_rows tables_rows
variable_rights = refl

variable_value_1 : (b a : Parse) → Children (CONSTANT ∷ []) b → variable (λ c. part.Constant c) (λ v. part.Variable v) b ≡ option_map (λ c. part.Constant c) (constant (below (joined b a)))
unfolding variable
variable_value_1 (Node k0 r0 u0 End) a h = refl
variable_value_1 _ a h = absurd (assumption)

variable_value_2 : (b a : Parse) → Children (TYPE_FORM ∷ NAME ∷ INITIAL_VALUE ∷ SIGN_SEMICOLON ∷ []) b → variable (λ c. part.Constant c) (λ v. part.Variable v) b ≡ option_map (λ v. part.Variable v) (all_four variable_at (place_of (below (joined b a))) (type_form (below (joined b a))) (name_of (below (after (joined b a)))) (initial_value (below (after (after (joined b a))))))
unfolding variable
variable_value_2 (Node k0 r0 u0 (Node k1 r1 u1 (Node k2 r2 u2 (Word t3 End)))) a h = refl
variable_value_2 _ a h = absurd (assumption)

abbrev pub VariableRow : Parse → Type 0
VariableRow p =
    ((first_symbol p ≡ Some CONSTANT) × Stands (CONSTANT ∷ []) (opened p) (after p) × (variable (λ c. part.Constant c) (λ v. part.Variable v) (below p) ≡ option_map (λ c. part.Constant c) (constant (below (opened p)))))
    ⊎ ((first_symbol p ≡ Some TYPE_FORM) × Stands (TYPE_FORM ∷ NAME ∷ INITIAL_VALUE ∷ SIGN_SEMICOLON ∷ []) (opened p) (after p) × (variable (λ c. part.Constant c) (λ v. part.Variable v) (below p) ≡ option_map (λ v. part.Variable v) (all_four variable_at (place_of (below (opened p))) (type_form (below (opened p))) (name_of (below (after (opened p)))) (initial_value (below (after (after (opened p))))))) × IsPlaced (opened p))

variable_go : (k : ℕ) (r : Row) (b a : Parse) → OneOf ((CONSTANT ∷ []) ∷ (TYPE_FORM ∷ NAME ∷ INITIAL_VALUE ∷ SIGN_SEMICOLON ∷ []) ∷ []) r b → VariableRow (Node k r b a)
variable_go k r b a (inl h) = inl (ap first_of h.0, stands (CONSTANT ∷ []) b a h.1, variable_value_1 b a h.1)
variable_go k r b a (inr (inl h)) = inr (ap first_of h.0, stands (TYPE_FORM ∷ NAME ∷ INITIAL_VALUE ∷ SIGN_SEMICOLON ∷ []) b a h.1, variable_value_2 b a h.1, is_placed TYPE_FORM (joined b a) (stands (TYPE_FORM ∷ NAME ∷ INITIAL_VALUE ∷ SIGN_SEMICOLON ∷ []) b a h.1).0 refl)
variable_go k r b a (inr (inr h)) = absurd h

pub variable_row : (p : Parse) → Begins VARIABLE p → VariableRow p
variable_row End h = absurd h
variable_row (Word t a) h = absurd h
variable_row (Node k r b a) h = variable_go k r b a (rw variable_rights at (rows_of_form VARIABLE k r b h))

-- PARSER_PART

parser_part_rights : rights PARSER_PART grammar_rows ≡ (VARIABLE ∷ []) ∷ (STATE ∷ []) ∷ []
unfolding grammar_rows top_rows types_rows expressions_rows operations_rows keys_rows statements_rows parser_rows control_rows tables_rows
parser_part_rights = refl

parser_part_value_1 : (b a : Parse) → Children (VARIABLE ∷ []) b → parser_part b ≡ variable (λ c. part.Constant c) (λ v. part.Variable v) (below (joined b a))
unfolding parser_part
parser_part_value_1 (Node k0 r0 u0 End) a h = ap (λ (l : ℕ). if l == VARIABLE then variable (λ c. part.Constant c) (λ v. part.Variable v) u0 else (option_map (λ s. part.State s) (state u0))) h.0.left
parser_part_value_1 _ a h = absurd (assumption)

parser_part_value_2 : (b a : Parse) → Children (STATE ∷ []) b → parser_part b ≡ option_map (λ s. part.State s) (state (below (joined b a)))
unfolding parser_part
parser_part_value_2 (Node k0 r0 u0 End) a h = ap (λ (l : ℕ). if l == VARIABLE then variable (λ c. part.Constant c) (λ v. part.Variable v) u0 else (option_map (λ s. part.State s) (state u0))) h.0.left
parser_part_value_2 _ a h = absurd (assumption)

abbrev pub ParserPartRow : Parse → Type 0
ParserPartRow p =
    ((first_symbol p ≡ Some VARIABLE) × Stands (VARIABLE ∷ []) (opened p) (after p) × (parser_part (below p) ≡ variable (λ c. part.Constant c) (λ v. part.Variable v) (below (opened p))))
    ⊎ ((first_symbol p ≡ Some STATE) × Stands (STATE ∷ []) (opened p) (after p) × (parser_part (below p) ≡ option_map (λ s. part.State s) (state (below (opened p)))))

parser_part_go : (k : ℕ) (r : Row) (b a : Parse) → OneOf ((VARIABLE ∷ []) ∷ (STATE ∷ []) ∷ []) r b → ParserPartRow (Node k r b a)
parser_part_go k r b a (inl h) = inl (ap first_of h.0, stands (VARIABLE ∷ []) b a h.1, parser_part_value_1 b a h.1)
parser_part_go k r b a (inr (inl h)) = inr (ap first_of h.0, stands (STATE ∷ []) b a h.1, parser_part_value_2 b a h.1)
parser_part_go k r b a (inr (inr h)) = absurd h

pub parser_part_row : (p : Parse) → Begins PARSER_PART p → ParserPartRow p
parser_part_row End h = absurd h
parser_part_row (Word t a) h = absurd h
parser_part_row (Node k r b a) h = parser_part_go k r b a (rw parser_part_rights at (rows_of_form PARSER_PART k r b h))

-- PARAMETER

parameter_rights : rights PARAMETER grammar_rows ≡ (ANNOTATIONS ∷ DIRECTION ∷ TYPE_FORM ∷ NAME ∷ []) ∷ []
unfolding grammar_rows top_rows types_rows expressions_rows operations_rows keys_rows statements_rows parser_rows control_rows tables_rows
parameter_rights = refl

parameter_placed : (b a : Parse) → Children (ANNOTATIONS ∷ DIRECTION ∷ TYPE_FORM ∷ NAME ∷ []) b → IsSome (place_of (after (joined b a)))
parameter_placed (Node k0 r0 u0 (Node k1 r1 u1 (Node k2 r2 u2 (Node k3 r3 u3 End)))) a h = some_first (tokens_in u1) (tokens_in u2) (tokens_in (Node k3 r3 u3 a)) (not_empty TYPE_FORM k2 r2 u2 h.1.1.0 refl)
parameter_placed _ a h = absurd (assumption)

parameter_value_1 : (b a : Parse) → Children (ANNOTATIONS ∷ DIRECTION ∷ TYPE_FORM ∷ NAME ∷ []) b → parameter b ≡ both (λ f span. f span) (all_four parameter_at (annotations (below (joined b a))) (direction_of (below (after (joined b a)))) (type_form (below (after (after (joined b a))))) (name_of (below (after (after (after (joined b a))))))) (place_of (after (joined b a)))
unfolding parameter
parameter_value_1 (Node k0 r0 u0 (Node k1 r1 u1 (Node k2 r2 u2 (Node k3 r3 u3 End)))) a h = ap (λ (place : Option Span). both (λ f span. f span) (all_four parameter_at (annotations u0) (direction_of u1) (type_form u2) (name_of u3)) place) (same_first (tokens_in u1) (tokens_in u2) [] (tokens_in (Node k3 r3 u3 a)) (not_empty TYPE_FORM k2 r2 u2 h.1.1.0 refl))
parameter_value_1 _ a h = absurd (assumption)

abbrev pub ParameterRow : Parse → Type 0
ParameterRow p =
    (first_symbol p ≡ Some ANNOTATIONS) × Stands (ANNOTATIONS ∷ DIRECTION ∷ TYPE_FORM ∷ NAME ∷ []) (opened p) (after p) × (parameter (below p) ≡ both (λ f span. f span) (all_four parameter_at (annotations (below (opened p))) (direction_of (below (after (opened p)))) (type_form (below (after (after (opened p))))) (name_of (below (after (after (after (opened p))))))) (place_of (after (opened p)))) × IsSome (place_of (after (opened p)))

parameter_go : (k : ℕ) (r : Row) (b a : Parse) → OneOf ((ANNOTATIONS ∷ DIRECTION ∷ TYPE_FORM ∷ NAME ∷ []) ∷ []) r b → ParameterRow (Node k r b a)
parameter_go k r b a (inl h) = (ap first_of h.0, stands (ANNOTATIONS ∷ DIRECTION ∷ TYPE_FORM ∷ NAME ∷ []) b a h.1, parameter_value_1 b a h.1, parameter_placed b a h.1)
parameter_go k r b a (inr h) = absurd h

pub parameter_row : (p : Parse) → Begins PARAMETER p → ParameterRow p
parameter_row End h = absurd h
parameter_row (Word t a) h = absurd h
parameter_row (Node k r b a) h = parameter_go k r b a (rw parameter_rights at (rows_of_form PARAMETER k r b h))
