-- The rows of variables, blocks and statements.
use Rattle.std.proofs.Common.{◌≡◌, ℕ, [], ◌∷◌, None, Some, refl, ap, inl, inr, ◌⊎◌}
use Rattle.std.specs.Prelude.{◌==◌, if◌then◌else◌, Option, true, false}
use Rattle.ll1_engine.specs.declared.grammar.Row.{Row}
use Rattle.p4_grammar.specs.declared.symbols.TheConstants.{ANNOTATIONS, BLOCK, BLOCK_PART, BLOCK_PARTS, CONSTANT, ELSE_BRANCH, EXPRESSION, INITIAL_VALUE, KEYWORD_CONST, KEYWORD_DEFAULT, KEYWORD_ELSE, KEYWORD_EXIT, KEYWORD_IF, KEYWORD_RETURN, KEYWORD_SWITCH, NAME, POSTFIX_PARTS, SIGN_ASSIGN, SIGN_COLON, SIGN_LEFT_BRACE, SIGN_LEFT_PAREN, SIGN_RIGHT_BRACE, SIGN_RIGHT_PAREN, SIGN_SEMICOLON, STATEMENT, STATEMENT_REST, STATE_PART, STATE_PARTS, SWITCH_BODY, SWITCH_CASES, SWITCH_LABEL, TYPE_FORM, VARIABLE, WORD}
use Rattle.p4_grammar.specs.Rows.{top_rows, types_rows, expressions_rows, operations_rows, keys_rows, statements_rows, parser_rows, control_rows, tables_rows, grammar_rows}
use Rattle.p4_grammar.specs.Parses.{Parse, End, Word, Node, place_of, option_map, both, all_three, all_four}
use Rattle.p4_grammar.specs.Ahead.{Begins, below, after, joined, opened, token_at, first_of, first_symbol}
use Rattle.p4_grammar.proofs.SignLemmas.{no_sign}
use Rattle.std.proofs.Common.{eqb}
use Rattle.std.proofs.lemmas.Bool.{false≢true}
use Rattle.p4_lexer.specs.declared.token.Keyword.TheVariants as keyword
use Rattle.p4_lexer.specs.declared.token.Word.{Word as WordKind}
use Rattle.p4_lexer.specs.declared.token.Word.TheVariants as word
use Rattle.p4_tree.specs.declared.statements.StatementKind.{StatementKind}
use Rattle.p4_grammar.specs.Words.{terminal_of}
use Rattle.p4_grammar.specs.Names.{word_name, name_of, annotations}
use Rattle.p4_tree.specs.declared.statements.Block.{roll-Block}
use Rattle.p4_tree.specs.declared.statements.BlockPart.{roll-BlockPart}
use Rattle.p4_tree.specs.declared.statements.BlockPartKind.TheVariants as part
use Rattle.p4_tree.specs.declared.statements.StatementKind.TheVariants as statement
use Rattle.p4_tree.specs.declared.statements.SwitchLabel.TheVariants as label
use Rattle.p4_tree.specs.declared.expressions.ExpressionKind.TheVariants as kind
use Rattle.p4_tree.specs.declared.declarations.Constant.{Constant}
use Rattle.p4_tree.specs.declared.declarations.Variable.{Variable}
use Rattle.p4_grammar.specs.Expressions.{expression_at, span_of, with_parts, expression, type_form, parts}
use Rattle.p4_grammar.specs.Statements.{initial_value, constant, variable_at, variable, statement_at, word_statement, statement_rest, switch_label, case_at, block, block_parts, block_part, statement_of, else_branch, switch_cases, switch_body}
use Rattle.p4_grammar.proofs.RowsOfForms.{rights, Children, OneOf, Stands, rows_of_form, stands, with_token}
use Rattle.p4_grammar.proofs.FirstPlaces.{IsPlaced, is_placed}

-- CONSTANT

constant_rights : rights CONSTANT grammar_rows ≡ (KEYWORD_CONST ∷ TYPE_FORM ∷ NAME ∷ SIGN_ASSIGN ∷ EXPRESSION ∷ SIGN_SEMICOLON ∷ []) ∷ []
unfolding grammar_rows top_rows types_rows expressions_rows operations_rows keys_rows statements_rows parser_rows control_rows tables_rows
constant_rights = refl

constant_value_1 : (b a : Parse) → Children (KEYWORD_CONST ∷ TYPE_FORM ∷ NAME ∷ SIGN_ASSIGN ∷ EXPRESSION ∷ SIGN_SEMICOLON ∷ []) b → constant b ≡ with_token (λ t0. all_three (λ form name value. record { type_form = form; name = name; value = value; span = t0.span }) (type_form (below (after (joined b a)))) (name_of (below (after (after (joined b a))))) (expression (below (after (after (after (after (joined b a)))))))) (token_at (joined b a))
unfolding constant
constant_value_1 (Word t0 (Node k1 r1 u1 (Node k2 r2 u2 (Word t3 (Node k4 r4 u4 (Word t5 End)))))) a h = refl
constant_value_1 _ a h = absurd (assumption)

abbrev pub ConstantRow : Parse → Type 0
ConstantRow p =
    (first_symbol p ≡ Some KEYWORD_CONST) × Stands (KEYWORD_CONST ∷ TYPE_FORM ∷ NAME ∷ SIGN_ASSIGN ∷ EXPRESSION ∷ SIGN_SEMICOLON ∷ []) (opened p) (after p) × (constant (below p) ≡ with_token (λ t0. all_three (λ form name value. record { type_form = form; name = name; value = value; span = t0.span }) (type_form (below (after (opened p)))) (name_of (below (after (after (opened p))))) (expression (below (after (after (after (after (opened p)))))))) (token_at (opened p)))

constant_go : (k : ℕ) (r : Row) (b a : Parse) → OneOf ((KEYWORD_CONST ∷ TYPE_FORM ∷ NAME ∷ SIGN_ASSIGN ∷ EXPRESSION ∷ SIGN_SEMICOLON ∷ []) ∷ []) r b → ConstantRow (Node k r b a)
constant_go k r b a (inl h) = (ap first_of h.0, stands (KEYWORD_CONST ∷ TYPE_FORM ∷ NAME ∷ SIGN_ASSIGN ∷ EXPRESSION ∷ SIGN_SEMICOLON ∷ []) b a h.1, constant_value_1 b a h.1)
constant_go k r b a (inr h) = absurd h

pub constant_row : (p : Parse) → Begins CONSTANT p → ConstantRow p
constant_row End h = absurd h
constant_row (Word t a) h = absurd h
constant_row (Node k r b a) h = constant_go k r b a (rw constant_rights at (rows_of_form CONSTANT k r b h))

-- STATEMENT_REST

statement_rest_rights : rights STATEMENT_REST grammar_rows ≡ (SIGN_ASSIGN ∷ EXPRESSION ∷ SIGN_SEMICOLON ∷ []) ∷ (SIGN_SEMICOLON ∷ []) ∷ []
unfolding grammar_rows top_rows types_rows expressions_rows operations_rows keys_rows statements_rows parser_rows control_rows tables_rows
statement_rest_rights = refl

statement_rest_value_1 : (b a : Parse) → Children (SIGN_ASSIGN ∷ EXPRESSION ∷ SIGN_SEMICOLON ∷ []) b → statement_rest b ≡ option_map (λ value path. statement.Assign path value) (expression (below (after (joined b a))))
unfolding statement_rest
statement_rest_value_1 (Word t0 (Node k1 r1 u1 (Word t2 End))) a h = refl
statement_rest_value_1 _ a h = absurd (assumption)

statement_rest_value_2 : (b a : Parse) → Children (SIGN_SEMICOLON ∷ []) b → statement_rest b ≡ Some (λ path. statement.Call path)
unfolding statement_rest
statement_rest_value_2 (Word t0 End) a h = refl
statement_rest_value_2 _ a h = absurd (assumption)

abbrev pub StatementRestRow : Parse → Type 0
StatementRestRow p =
    ((first_symbol p ≡ Some SIGN_ASSIGN) × Stands (SIGN_ASSIGN ∷ EXPRESSION ∷ SIGN_SEMICOLON ∷ []) (opened p) (after p) × (statement_rest (below p) ≡ option_map (λ value path. statement.Assign path value) (expression (below (after (opened p))))))
    ⊎ ((first_symbol p ≡ Some SIGN_SEMICOLON) × Stands (SIGN_SEMICOLON ∷ []) (opened p) (after p) × (statement_rest (below p) ≡ Some (λ path. statement.Call path)))

statement_rest_go : (k : ℕ) (r : Row) (b a : Parse) → OneOf ((SIGN_ASSIGN ∷ EXPRESSION ∷ SIGN_SEMICOLON ∷ []) ∷ (SIGN_SEMICOLON ∷ []) ∷ []) r b → StatementRestRow (Node k r b a)
statement_rest_go k r b a (inl h) = inl (ap first_of h.0, stands (SIGN_ASSIGN ∷ EXPRESSION ∷ SIGN_SEMICOLON ∷ []) b a h.1, statement_rest_value_1 b a h.1)
statement_rest_go k r b a (inr (inl h)) = inr (ap first_of h.0, stands (SIGN_SEMICOLON ∷ []) b a h.1, statement_rest_value_2 b a h.1)
statement_rest_go k r b a (inr (inr h)) = absurd h

pub statement_rest_row : (p : Parse) → Begins STATEMENT_REST p → StatementRestRow p
statement_rest_row End h = absurd h
statement_rest_row (Word t a) h = absurd h
statement_rest_row (Node k r b a) h = statement_rest_go k r b a (rw statement_rest_rights at (rows_of_form STATEMENT_REST k r b h))

-- SWITCH_LABEL

switch_label_rights : rights SWITCH_LABEL grammar_rows ≡ (NAME ∷ []) ∷ (KEYWORD_DEFAULT ∷ []) ∷ []
unfolding grammar_rows top_rows types_rows expressions_rows operations_rows keys_rows statements_rows parser_rows control_rows tables_rows
switch_label_rights = refl

switch_label_value_1 : (b a : Parse) → Children (NAME ∷ []) b → switch_label b ≡ option_map (λ n. label.Action n) (name_of (below (joined b a)))
unfolding switch_label
switch_label_value_1 (Node k0 r0 u0 End) a h = refl
switch_label_value_1 _ a h = absurd (assumption)

switch_label_value_2 : (b a : Parse) → Children (KEYWORD_DEFAULT ∷ []) b → switch_label b ≡ Some label.Default
unfolding switch_label
switch_label_value_2 (Word t0 End) a h = refl
switch_label_value_2 _ a h = absurd (assumption)

abbrev pub SwitchLabelRow : Parse → Type 0
SwitchLabelRow p =
    ((first_symbol p ≡ Some NAME) × Stands (NAME ∷ []) (opened p) (after p) × (switch_label (below p) ≡ option_map (λ n. label.Action n) (name_of (below (opened p)))))
    ⊎ ((first_symbol p ≡ Some KEYWORD_DEFAULT) × Stands (KEYWORD_DEFAULT ∷ []) (opened p) (after p) × (switch_label (below p) ≡ Some label.Default))

switch_label_go : (k : ℕ) (r : Row) (b a : Parse) → OneOf ((NAME ∷ []) ∷ (KEYWORD_DEFAULT ∷ []) ∷ []) r b → SwitchLabelRow (Node k r b a)
switch_label_go k r b a (inl h) = inl (ap first_of h.0, stands (NAME ∷ []) b a h.1, switch_label_value_1 b a h.1)
switch_label_go k r b a (inr (inl h)) = inr (ap first_of h.0, stands (KEYWORD_DEFAULT ∷ []) b a h.1, switch_label_value_2 b a h.1)
switch_label_go k r b a (inr (inr h)) = absurd h

pub switch_label_row : (p : Parse) → Begins SWITCH_LABEL p → SwitchLabelRow p
switch_label_row End h = absurd h
switch_label_row (Word t a) h = absurd h
switch_label_row (Node k r b a) h = switch_label_go k r b a (rw switch_label_rights at (rows_of_form SWITCH_LABEL k r b h))

-- BLOCK

block_rights : rights BLOCK grammar_rows ≡ (SIGN_LEFT_BRACE ∷ BLOCK_PARTS ∷ SIGN_RIGHT_BRACE ∷ []) ∷ []
unfolding grammar_rows top_rows types_rows expressions_rows operations_rows keys_rows statements_rows parser_rows control_rows tables_rows
block_rights = refl

block_value_1 : (b a : Parse) → Children (SIGN_LEFT_BRACE ∷ BLOCK_PARTS ∷ SIGN_RIGHT_BRACE ∷ []) b → block b ≡ with_token (λ t0. option_map (λ ps. roll-Block (record { parts = ps; span = t0.span })) (block_parts (below (after (joined b a))))) (token_at (joined b a))
unfolding block
block_value_1 (Word t0 (Node k1 r1 u1 (Word t2 End))) a h = refl
block_value_1 _ a h = absurd (assumption)

abbrev pub BlockRow : Parse → Type 0
BlockRow p =
    (first_symbol p ≡ Some SIGN_LEFT_BRACE) × Stands (SIGN_LEFT_BRACE ∷ BLOCK_PARTS ∷ SIGN_RIGHT_BRACE ∷ []) (opened p) (after p) × (block (below p) ≡ with_token (λ t0. option_map (λ ps. roll-Block (record { parts = ps; span = t0.span })) (block_parts (below (after (opened p))))) (token_at (opened p)))

block_go : (k : ℕ) (r : Row) (b a : Parse) → OneOf ((SIGN_LEFT_BRACE ∷ BLOCK_PARTS ∷ SIGN_RIGHT_BRACE ∷ []) ∷ []) r b → BlockRow (Node k r b a)
block_go k r b a (inl h) = (ap first_of h.0, stands (SIGN_LEFT_BRACE ∷ BLOCK_PARTS ∷ SIGN_RIGHT_BRACE ∷ []) b a h.1, block_value_1 b a h.1)
block_go k r b a (inr h) = absurd h

pub block_row : (p : Parse) → Begins BLOCK p → BlockRow p
block_row End h = absurd h
block_row (Word t a) h = absurd h
block_row (Node k r b a) h = block_go k r b a (rw block_rights at (rows_of_form BLOCK k r b h))

-- BLOCK_PARTS

block_parts_rights : rights BLOCK_PARTS grammar_rows ≡ [] ∷ (ANNOTATIONS ∷ BLOCK_PART ∷ BLOCK_PARTS ∷ []) ∷ []
unfolding grammar_rows top_rows types_rows expressions_rows operations_rows keys_rows statements_rows parser_rows control_rows tables_rows
block_parts_rights = refl

block_parts_value_1 : (b a : Parse) → Children [] b → block_parts b ≡ Some []
unfolding block_parts
block_parts_value_1 End a h = refl
block_parts_value_1 _ a h = absurd (assumption)

block_parts_value_2 : (b a : Parse) → Children (ANNOTATIONS ∷ BLOCK_PART ∷ BLOCK_PARTS ∷ []) b → block_parts b ≡ both (λ one more. one ∷ more) (both (λ notes kind. roll-BlockPart (record { annotations = notes; kind = kind })) (annotations (below (joined b a))) (block_part (below (after (joined b a))))) (block_parts (below (after (after (joined b a)))))
unfolding block_parts
block_parts_value_2 (Node k0 r0 u0 (Node k1 r1 u1 (Node k2 r2 u2 End))) a h = refl
block_parts_value_2 _ a h = absurd (assumption)

abbrev pub BlockPartsRow : Parse → Type 0
BlockPartsRow p =
    ((first_symbol p ≡ None) × Stands [] (opened p) (after p) × (block_parts (below p) ≡ Some []))
    ⊎ ((first_symbol p ≡ Some ANNOTATIONS) × Stands (ANNOTATIONS ∷ BLOCK_PART ∷ BLOCK_PARTS ∷ []) (opened p) (after p) × (block_parts (below p) ≡ both (λ one more. one ∷ more) (both (λ notes kind. roll-BlockPart (record { annotations = notes; kind = kind })) (annotations (below (opened p))) (block_part (below (after (opened p))))) (block_parts (below (after (after (opened p)))))))

block_parts_go : (k : ℕ) (r : Row) (b a : Parse) → OneOf ([] ∷ (ANNOTATIONS ∷ BLOCK_PART ∷ BLOCK_PARTS ∷ []) ∷ []) r b → BlockPartsRow (Node k r b a)
block_parts_go k r b a (inl h) = inl (ap first_of h.0, stands [] b a h.1, block_parts_value_1 b a h.1)
block_parts_go k r b a (inr (inl h)) = inr (ap first_of h.0, stands (ANNOTATIONS ∷ BLOCK_PART ∷ BLOCK_PARTS ∷ []) b a h.1, block_parts_value_2 b a h.1)
block_parts_go k r b a (inr (inr h)) = absurd h

pub block_parts_row : (p : Parse) → Begins BLOCK_PARTS p → BlockPartsRow p
block_parts_row End h = absurd h
block_parts_row (Word t a) h = absurd h
block_parts_row (Node k r b a) h = block_parts_go k r b a (rw block_parts_rights at (rows_of_form BLOCK_PARTS k r b h))

-- STATE_PARTS

state_parts_rights : rights STATE_PARTS grammar_rows ≡ [] ∷ (ANNOTATIONS ∷ STATE_PART ∷ STATE_PARTS ∷ []) ∷ []
unfolding grammar_rows top_rows types_rows expressions_rows operations_rows keys_rows statements_rows parser_rows control_rows tables_rows
state_parts_rights = refl

state_parts_value_1 : (b a : Parse) → Children [] b → block_parts b ≡ Some []
unfolding block_parts
state_parts_value_1 End a h = refl
state_parts_value_1 _ a h = absurd (assumption)

state_parts_value_2 : (b a : Parse) → Children (ANNOTATIONS ∷ STATE_PART ∷ STATE_PARTS ∷ []) b → block_parts b ≡ both (λ one more. one ∷ more) (both (λ notes kind. roll-BlockPart (record { annotations = notes; kind = kind })) (annotations (below (joined b a))) (block_part (below (after (joined b a))))) (block_parts (below (after (after (joined b a)))))
unfolding block_parts
state_parts_value_2 (Node k0 r0 u0 (Node k1 r1 u1 (Node k2 r2 u2 End))) a h = refl
state_parts_value_2 _ a h = absurd (assumption)

abbrev pub StatePartsRow : Parse → Type 0
StatePartsRow p =
    ((first_symbol p ≡ None) × Stands [] (opened p) (after p) × (block_parts (below p) ≡ Some []))
    ⊎ ((first_symbol p ≡ Some ANNOTATIONS) × Stands (ANNOTATIONS ∷ STATE_PART ∷ STATE_PARTS ∷ []) (opened p) (after p) × (block_parts (below p) ≡ both (λ one more. one ∷ more) (both (λ notes kind. roll-BlockPart (record { annotations = notes; kind = kind })) (annotations (below (opened p))) (block_part (below (after (opened p))))) (block_parts (below (after (after (opened p)))))))

state_parts_go : (k : ℕ) (r : Row) (b a : Parse) → OneOf ([] ∷ (ANNOTATIONS ∷ STATE_PART ∷ STATE_PARTS ∷ []) ∷ []) r b → StatePartsRow (Node k r b a)
state_parts_go k r b a (inl h) = inl (ap first_of h.0, stands [] b a h.1, state_parts_value_1 b a h.1)
state_parts_go k r b a (inr (inl h)) = inr (ap first_of h.0, stands (ANNOTATIONS ∷ STATE_PART ∷ STATE_PARTS ∷ []) b a h.1, state_parts_value_2 b a h.1)
state_parts_go k r b a (inr (inr h)) = absurd h

pub state_parts_row : (p : Parse) → Begins STATE_PARTS p → StatePartsRow p
state_parts_row End h = absurd h
state_parts_row (Word t a) h = absurd h
state_parts_row (Node k r b a) h = state_parts_go k r b a (rw state_parts_rights at (rows_of_form STATE_PARTS k r b h))

-- ELSE_BRANCH

else_branch_rights : rights ELSE_BRANCH grammar_rows ≡ [] ∷ (KEYWORD_ELSE ∷ STATEMENT ∷ []) ∷ []
unfolding grammar_rows top_rows types_rows expressions_rows operations_rows keys_rows statements_rows parser_rows control_rows tables_rows
else_branch_rights = refl

else_branch_value_1 : (b a : Parse) → Children [] b → else_branch b ≡ Some None
unfolding else_branch
else_branch_value_1 End a h = refl
else_branch_value_1 _ a h = absurd (assumption)

else_branch_value_2 : (b a : Parse) → Children (KEYWORD_ELSE ∷ STATEMENT ∷ []) b → else_branch b ≡ option_map (λ s. Some s) (statement_of (below (after (joined b a))))
unfolding else_branch
else_branch_value_2 (Word t0 (Node k1 r1 u1 End)) a h = refl
else_branch_value_2 _ a h = absurd (assumption)

abbrev pub ElseBranchRow : Parse → Type 0
ElseBranchRow p =
    ((first_symbol p ≡ None) × Stands [] (opened p) (after p) × (else_branch (below p) ≡ Some None))
    ⊎ ((first_symbol p ≡ Some KEYWORD_ELSE) × Stands (KEYWORD_ELSE ∷ STATEMENT ∷ []) (opened p) (after p) × (else_branch (below p) ≡ option_map (λ s. Some s) (statement_of (below (after (opened p))))))

else_branch_go : (k : ℕ) (r : Row) (b a : Parse) → OneOf ([] ∷ (KEYWORD_ELSE ∷ STATEMENT ∷ []) ∷ []) r b → ElseBranchRow (Node k r b a)
else_branch_go k r b a (inl h) = inl (ap first_of h.0, stands [] b a h.1, else_branch_value_1 b a h.1)
else_branch_go k r b a (inr (inl h)) = inr (ap first_of h.0, stands (KEYWORD_ELSE ∷ STATEMENT ∷ []) b a h.1, else_branch_value_2 b a h.1)
else_branch_go k r b a (inr (inr h)) = absurd h

pub else_branch_row : (p : Parse) → Begins ELSE_BRANCH p → ElseBranchRow p
else_branch_row End h = absurd h
else_branch_row (Word t a) h = absurd h
else_branch_row (Node k r b a) h = else_branch_go k r b a (rw else_branch_rights at (rows_of_form ELSE_BRANCH k r b h))

-- SWITCH_CASES

switch_cases_rights : rights SWITCH_CASES grammar_rows ≡ [] ∷ (SWITCH_LABEL ∷ SIGN_COLON ∷ SWITCH_BODY ∷ SWITCH_CASES ∷ []) ∷ []
unfolding grammar_rows top_rows types_rows expressions_rows operations_rows keys_rows statements_rows parser_rows control_rows tables_rows
switch_cases_rights = refl

switch_cases_value_1 : (b a : Parse) → Children [] b → switch_cases b ≡ Some []
unfolding switch_cases
switch_cases_value_1 End a h = refl
switch_cases_value_1 _ a h = absurd (assumption)

switch_cases_value_2 : (b a : Parse) → Children (SWITCH_LABEL ∷ SIGN_COLON ∷ SWITCH_BODY ∷ SWITCH_CASES ∷ []) b → switch_cases b ≡ both (λ one more. one ∷ more) (all_three case_at (place_of (below (joined b a))) (switch_label (below (joined b a))) (switch_body (below (after (after (joined b a)))))) (switch_cases (below (after (after (after (joined b a))))))
unfolding switch_cases
switch_cases_value_2 (Node k0 r0 u0 (Word t1 (Node k2 r2 u2 (Node k3 r3 u3 End)))) a h = refl
switch_cases_value_2 _ a h = absurd (assumption)

abbrev pub SwitchCasesRow : Parse → Type 0
SwitchCasesRow p =
    ((first_symbol p ≡ None) × Stands [] (opened p) (after p) × (switch_cases (below p) ≡ Some []))
    ⊎ ((first_symbol p ≡ Some SWITCH_LABEL) × Stands (SWITCH_LABEL ∷ SIGN_COLON ∷ SWITCH_BODY ∷ SWITCH_CASES ∷ []) (opened p) (after p) × (switch_cases (below p) ≡ both (λ one more. one ∷ more) (all_three case_at (place_of (below (opened p))) (switch_label (below (opened p))) (switch_body (below (after (after (opened p)))))) (switch_cases (below (after (after (after (opened p))))))) × IsPlaced (opened p))

switch_cases_go : (k : ℕ) (r : Row) (b a : Parse) → OneOf ([] ∷ (SWITCH_LABEL ∷ SIGN_COLON ∷ SWITCH_BODY ∷ SWITCH_CASES ∷ []) ∷ []) r b → SwitchCasesRow (Node k r b a)
switch_cases_go k r b a (inl h) = inl (ap first_of h.0, stands [] b a h.1, switch_cases_value_1 b a h.1)
switch_cases_go k r b a (inr (inl h)) = inr (ap first_of h.0, stands (SWITCH_LABEL ∷ SIGN_COLON ∷ SWITCH_BODY ∷ SWITCH_CASES ∷ []) b a h.1, switch_cases_value_2 b a h.1, is_placed SWITCH_LABEL (joined b a) (stands (SWITCH_LABEL ∷ SIGN_COLON ∷ SWITCH_BODY ∷ SWITCH_CASES ∷ []) b a h.1).0 refl)
switch_cases_go k r b a (inr (inr h)) = absurd h

pub switch_cases_row : (p : Parse) → Begins SWITCH_CASES p → SwitchCasesRow p
switch_cases_row End h = absurd h
switch_cases_row (Word t a) h = absurd h
switch_cases_row (Node k r b a) h = switch_cases_go k r b a (rw switch_cases_rights at (rows_of_form SWITCH_CASES k r b h))

-- SWITCH_BODY

switch_body_rights : rights SWITCH_BODY grammar_rows ≡ [] ∷ (BLOCK ∷ []) ∷ []
unfolding grammar_rows top_rows types_rows expressions_rows operations_rows keys_rows statements_rows parser_rows control_rows tables_rows
switch_body_rights = refl

switch_body_value_1 : (b a : Parse) → Children [] b → switch_body b ≡ Some None
unfolding switch_body
switch_body_value_1 End a h = refl
switch_body_value_1 _ a h = absurd (assumption)

switch_body_value_2 : (b a : Parse) → Children (BLOCK ∷ []) b → switch_body b ≡ option_map (λ b. Some b) (block (below (joined b a)))
unfolding switch_body
switch_body_value_2 (Node k0 r0 u0 End) a h = refl
switch_body_value_2 _ a h = absurd (assumption)

abbrev pub SwitchBodyRow : Parse → Type 0
SwitchBodyRow p =
    ((first_symbol p ≡ None) × Stands [] (opened p) (after p) × (switch_body (below p) ≡ Some None))
    ⊎ ((first_symbol p ≡ Some BLOCK) × Stands (BLOCK ∷ []) (opened p) (after p) × (switch_body (below p) ≡ option_map (λ b. Some b) (block (below (opened p)))))

switch_body_go : (k : ℕ) (r : Row) (b a : Parse) → OneOf ([] ∷ (BLOCK ∷ []) ∷ []) r b → SwitchBodyRow (Node k r b a)
switch_body_go k r b a (inl h) = inl (ap first_of h.0, stands [] b a h.1, switch_body_value_1 b a h.1)
switch_body_go k r b a (inr (inl h)) = inr (ap first_of h.0, stands (BLOCK ∷ []) b a h.1, switch_body_value_2 b a h.1)
switch_body_go k r b a (inr (inr h)) = absurd h

pub switch_body_row : (p : Parse) → Begins SWITCH_BODY p → SwitchBodyRow p
switch_body_row End h = absurd h
switch_body_row (Word t a) h = absurd h
switch_body_row (Node k r b a) h = switch_body_go k r b a (rw switch_body_rights at (rows_of_form SWITCH_BODY k r b h))

-- STATEMENT

statement_rights : rights STATEMENT grammar_rows ≡ (SIGN_SEMICOLON ∷ []) ∷ (BLOCK ∷ []) ∷ (KEYWORD_EXIT ∷ SIGN_SEMICOLON ∷ []) ∷ (KEYWORD_RETURN ∷ SIGN_SEMICOLON ∷ []) ∷ (KEYWORD_IF ∷ SIGN_LEFT_PAREN ∷ EXPRESSION ∷ SIGN_RIGHT_PAREN ∷ STATEMENT ∷ ELSE_BRANCH ∷ []) ∷ (KEYWORD_SWITCH ∷ SIGN_LEFT_PAREN ∷ EXPRESSION ∷ SIGN_RIGHT_PAREN ∷ SIGN_LEFT_BRACE ∷ SWITCH_CASES ∷ SIGN_RIGHT_BRACE ∷ []) ∷ (WORD ∷ POSTFIX_PARTS ∷ STATEMENT_REST ∷ []) ∷ []
unfolding grammar_rows top_rows types_rows expressions_rows operations_rows keys_rows statements_rows parser_rows control_rows tables_rows
statement_rights = refl

statement_value_1 : (b a : Parse) → Children (SIGN_SEMICOLON ∷ []) b → statement_of b ≡ with_token (λ t0. Some (statement_at t0.span statement.Empty)) (token_at (joined b a))
unfolding statement_of
statement_value_1 (Word t0 End) a h = refl
statement_value_1 _ a h = absurd (assumption)

statement_value_2 : (b a : Parse) → Children (BLOCK ∷ []) b → statement_of b ≡ both (λ span b. statement_at span (statement.Block b)) (place_of (below (joined b a))) (block (below (joined b a)))
unfolding statement_of
statement_value_2 (Node k0 r0 u0 End) a h = refl
statement_value_2 _ a h = absurd (assumption)

exit_word : (w : WordKind) → terminal_of w ≡ KEYWORD_EXIT → word_statement w ≡ Some statement.Exit
exit_word (word.Keyword keyword.Exit) h = refl
exit_word (word.Sign s) h = absurd (no_sign s KEYWORD_EXIT h refl)
exit_word _ h = absurd (false≢true (ap (λ (x : ℕ). eqb x KEYWORD_EXIT) h))

statement_value_3 : (b a : Parse) → Children (KEYWORD_EXIT ∷ SIGN_SEMICOLON ∷ []) b → statement_of b ≡ with_token (λ t0. Some (statement_at t0.span statement.Exit)) (token_at (joined b a))
unfolding statement_of
statement_value_3 (Word t0 (Word t1 End)) a h = ap (λ (made : Option StatementKind). option_map (λ kind. statement_at t0.span kind) made) (exit_word t0.word h.0)
statement_value_3 _ a h = absurd (assumption)

return_word : (w : WordKind) → terminal_of w ≡ KEYWORD_RETURN → word_statement w ≡ Some statement.Return
return_word (word.Keyword keyword.Return) h = refl
return_word (word.Sign s) h = absurd (no_sign s KEYWORD_RETURN h refl)
return_word _ h = absurd (false≢true (ap (λ (x : ℕ). eqb x KEYWORD_RETURN) h))

statement_value_4 : (b a : Parse) → Children (KEYWORD_RETURN ∷ SIGN_SEMICOLON ∷ []) b → statement_of b ≡ with_token (λ t0. Some (statement_at t0.span statement.Return)) (token_at (joined b a))
unfolding statement_of
statement_value_4 (Word t0 (Word t1 End)) a h = ap (λ (made : Option StatementKind). option_map (λ kind. statement_at t0.span kind) made) (return_word t0.word h.0)
statement_value_4 _ a h = absurd (assumption)

statement_value_5 : (b a : Parse) → Children (KEYWORD_IF ∷ SIGN_LEFT_PAREN ∷ EXPRESSION ∷ SIGN_RIGHT_PAREN ∷ STATEMENT ∷ ELSE_BRANCH ∷ []) b → statement_of b ≡ with_token (λ t0. all_three (λ e first second. statement_at t0.span (statement.If e first second)) (expression (below (after (after (joined b a))))) (statement_of (below (after (after (after (after (joined b a))))))) (else_branch (below (after (after (after (after (after (joined b a))))))))) (token_at (joined b a))
unfolding statement_of
statement_value_5 (Word t0 (Word t1 (Node k2 r2 u2 (Word t3 (Node k4 r4 u4 (Node k5 r5 u5 End)))))) a h = refl
statement_value_5 _ a h = absurd (assumption)

statement_value_6 : (b a : Parse) → Children (KEYWORD_SWITCH ∷ SIGN_LEFT_PAREN ∷ EXPRESSION ∷ SIGN_RIGHT_PAREN ∷ SIGN_LEFT_BRACE ∷ SWITCH_CASES ∷ SIGN_RIGHT_BRACE ∷ []) b → statement_of b ≡ with_token (λ t0. both (λ e cs. statement_at t0.span (statement.Switch e cs)) (expression (below (after (after (joined b a))))) (switch_cases (below (after (after (after (after (after (joined b a))))))))) (token_at (joined b a))
unfolding statement_of
statement_value_6 (Word t0 (Word t1 (Node k2 r2 u2 (Word t3 (Word t4 (Node k5 r5 u5 (Word t6 End))))))) a h = refl
statement_value_6 _ a h = absurd (assumption)

statement_value_7 : (b a : Parse) → Children (WORD ∷ POSTFIX_PARTS ∷ STATEMENT_REST ∷ []) b → statement_of b ≡ both (λ path kind. statement_at (span_of path) (kind path)) (all_three (λ span n ps. with_parts (expression_at span (kind.Name n)) ps) (place_of (below (joined b a))) (word_name (below (joined b a))) (parts (below (after (joined b a))))) (statement_rest (below (after (after (joined b a)))))
unfolding statement_of
statement_value_7 (Node k0 r0 u0 (Node k1 r1 u1 (Node k2 r2 u2 End))) a h = refl
statement_value_7 _ a h = absurd (assumption)

abbrev pub StatementRow : Parse → Type 0
StatementRow p =
    ((first_symbol p ≡ Some SIGN_SEMICOLON) × Stands (SIGN_SEMICOLON ∷ []) (opened p) (after p) × (statement_of (below p) ≡ with_token (λ t0. Some (statement_at t0.span statement.Empty)) (token_at (opened p))))
    ⊎ ((first_symbol p ≡ Some BLOCK) × Stands (BLOCK ∷ []) (opened p) (after p) × (statement_of (below p) ≡ both (λ span b. statement_at span (statement.Block b)) (place_of (below (opened p))) (block (below (opened p)))) × IsPlaced (opened p))
    ⊎ ((first_symbol p ≡ Some KEYWORD_EXIT) × Stands (KEYWORD_EXIT ∷ SIGN_SEMICOLON ∷ []) (opened p) (after p) × (statement_of (below p) ≡ with_token (λ t0. Some (statement_at t0.span statement.Exit)) (token_at (opened p))))
    ⊎ ((first_symbol p ≡ Some KEYWORD_RETURN) × Stands (KEYWORD_RETURN ∷ SIGN_SEMICOLON ∷ []) (opened p) (after p) × (statement_of (below p) ≡ with_token (λ t0. Some (statement_at t0.span statement.Return)) (token_at (opened p))))
    ⊎ ((first_symbol p ≡ Some KEYWORD_IF) × Stands (KEYWORD_IF ∷ SIGN_LEFT_PAREN ∷ EXPRESSION ∷ SIGN_RIGHT_PAREN ∷ STATEMENT ∷ ELSE_BRANCH ∷ []) (opened p) (after p) × (statement_of (below p) ≡ with_token (λ t0. all_three (λ e first second. statement_at t0.span (statement.If e first second)) (expression (below (after (after (opened p))))) (statement_of (below (after (after (after (after (opened p))))))) (else_branch (below (after (after (after (after (after (opened p))))))))) (token_at (opened p))))
    ⊎ ((first_symbol p ≡ Some KEYWORD_SWITCH) × Stands (KEYWORD_SWITCH ∷ SIGN_LEFT_PAREN ∷ EXPRESSION ∷ SIGN_RIGHT_PAREN ∷ SIGN_LEFT_BRACE ∷ SWITCH_CASES ∷ SIGN_RIGHT_BRACE ∷ []) (opened p) (after p) × (statement_of (below p) ≡ with_token (λ t0. both (λ e cs. statement_at t0.span (statement.Switch e cs)) (expression (below (after (after (opened p))))) (switch_cases (below (after (after (after (after (after (opened p))))))))) (token_at (opened p))))
    ⊎ ((first_symbol p ≡ Some WORD) × Stands (WORD ∷ POSTFIX_PARTS ∷ STATEMENT_REST ∷ []) (opened p) (after p) × (statement_of (below p) ≡ both (λ path kind. statement_at (span_of path) (kind path)) (all_three (λ span n ps. with_parts (expression_at span (kind.Name n)) ps) (place_of (below (opened p))) (word_name (below (opened p))) (parts (below (after (opened p))))) (statement_rest (below (after (after (opened p)))))) × IsPlaced (opened p))

statement_go : (k : ℕ) (r : Row) (b a : Parse) → OneOf ((SIGN_SEMICOLON ∷ []) ∷ (BLOCK ∷ []) ∷ (KEYWORD_EXIT ∷ SIGN_SEMICOLON ∷ []) ∷ (KEYWORD_RETURN ∷ SIGN_SEMICOLON ∷ []) ∷ (KEYWORD_IF ∷ SIGN_LEFT_PAREN ∷ EXPRESSION ∷ SIGN_RIGHT_PAREN ∷ STATEMENT ∷ ELSE_BRANCH ∷ []) ∷ (KEYWORD_SWITCH ∷ SIGN_LEFT_PAREN ∷ EXPRESSION ∷ SIGN_RIGHT_PAREN ∷ SIGN_LEFT_BRACE ∷ SWITCH_CASES ∷ SIGN_RIGHT_BRACE ∷ []) ∷ (WORD ∷ POSTFIX_PARTS ∷ STATEMENT_REST ∷ []) ∷ []) r b → StatementRow (Node k r b a)
statement_go k r b a (inl h) = inl (ap first_of h.0, stands (SIGN_SEMICOLON ∷ []) b a h.1, statement_value_1 b a h.1)
statement_go k r b a (inr (inl h)) = inr (inl (ap first_of h.0, stands (BLOCK ∷ []) b a h.1, statement_value_2 b a h.1, is_placed BLOCK (joined b a) (stands (BLOCK ∷ []) b a h.1).0 refl))
statement_go k r b a (inr (inr (inl h))) = inr (inr (inl (ap first_of h.0, stands (KEYWORD_EXIT ∷ SIGN_SEMICOLON ∷ []) b a h.1, statement_value_3 b a h.1)))
statement_go k r b a (inr (inr (inr (inl h)))) = inr (inr (inr (inl (ap first_of h.0, stands (KEYWORD_RETURN ∷ SIGN_SEMICOLON ∷ []) b a h.1, statement_value_4 b a h.1))))
statement_go k r b a (inr (inr (inr (inr (inl h))))) = inr (inr (inr (inr (inl (ap first_of h.0, stands (KEYWORD_IF ∷ SIGN_LEFT_PAREN ∷ EXPRESSION ∷ SIGN_RIGHT_PAREN ∷ STATEMENT ∷ ELSE_BRANCH ∷ []) b a h.1, statement_value_5 b a h.1)))))
statement_go k r b a (inr (inr (inr (inr (inr (inl h)))))) = inr (inr (inr (inr (inr (inl (ap first_of h.0, stands (KEYWORD_SWITCH ∷ SIGN_LEFT_PAREN ∷ EXPRESSION ∷ SIGN_RIGHT_PAREN ∷ SIGN_LEFT_BRACE ∷ SWITCH_CASES ∷ SIGN_RIGHT_BRACE ∷ []) b a h.1, statement_value_6 b a h.1))))))
statement_go k r b a (inr (inr (inr (inr (inr (inr (inl h))))))) = inr (inr (inr (inr (inr (inr (ap first_of h.0, stands (WORD ∷ POSTFIX_PARTS ∷ STATEMENT_REST ∷ []) b a h.1, statement_value_7 b a h.1, is_placed WORD (joined b a) (stands (WORD ∷ POSTFIX_PARTS ∷ STATEMENT_REST ∷ []) b a h.1).0 refl))))))
statement_go k r b a (inr (inr (inr (inr (inr (inr (inr h))))))) = absurd h

pub statement_row : (p : Parse) → Begins STATEMENT p → StatementRow p
statement_row End h = absurd h
statement_row (Word t a) h = absurd h
statement_row (Node k r b a) h = statement_go k r b a (rw statement_rights at (rows_of_form STATEMENT k r b h))

-- VARIABLE

variable_rights : rights VARIABLE grammar_rows ≡ (CONSTANT ∷ []) ∷ (TYPE_FORM ∷ NAME ∷ INITIAL_VALUE ∷ SIGN_SEMICOLON ∷ []) ∷ []
unfolding grammar_rows top_rows types_rows expressions_rows operations_rows keys_rows statements_rows parser_rows control_rows tables_rows
variable_rights = refl

variable_value_1 : (b a : Parse) → Children (CONSTANT ∷ []) b → variable (λ c. part.Constant c) (λ v. part.Variable v) b ≡ option_map (λ c. part.Constant c) (constant (below (joined b a)))
unfolding variable
variable_value_1 (Node k0 r0 u0 End) a h = refl
variable_value_1 _ a h = absurd (assumption)

variable_value_2 : (b a : Parse) → Children (TYPE_FORM ∷ NAME ∷ INITIAL_VALUE ∷ SIGN_SEMICOLON ∷ []) b → variable (λ c. part.Constant c) (λ v. part.Variable v) b ≡ option_map (λ v. part.Variable v) (all_four variable_at (place_of (below (joined b a))) (type_form (below (joined b a))) (name_of (below (after (joined b a)))) (initial_value (below (after (after (joined b a))))))
unfolding variable
variable_value_2 (Node k0 r0 u0 (Node k1 r1 u1 (Node k2 r2 u2 (Word t3 End)))) a h = refl
variable_value_2 _ a h = absurd (assumption)

abbrev pub VariableRow : Parse → Type 0
VariableRow p =
    ((first_symbol p ≡ Some CONSTANT) × Stands (CONSTANT ∷ []) (opened p) (after p) × (variable (λ c. part.Constant c) (λ v. part.Variable v) (below p) ≡ option_map (λ c. part.Constant c) (constant (below (opened p)))))
    ⊎ ((first_symbol p ≡ Some TYPE_FORM) × Stands (TYPE_FORM ∷ NAME ∷ INITIAL_VALUE ∷ SIGN_SEMICOLON ∷ []) (opened p) (after p) × (variable (λ c. part.Constant c) (λ v. part.Variable v) (below p) ≡ option_map (λ v. part.Variable v) (all_four variable_at (place_of (below (opened p))) (type_form (below (opened p))) (name_of (below (after (opened p)))) (initial_value (below (after (after (opened p))))))) × IsPlaced (opened p))

variable_go : (k : ℕ) (r : Row) (b a : Parse) → OneOf ((CONSTANT ∷ []) ∷ (TYPE_FORM ∷ NAME ∷ INITIAL_VALUE ∷ SIGN_SEMICOLON ∷ []) ∷ []) r b → VariableRow (Node k r b a)
variable_go k r b a (inl h) = inl (ap first_of h.0, stands (CONSTANT ∷ []) b a h.1, variable_value_1 b a h.1)
variable_go k r b a (inr (inl h)) = inr (ap first_of h.0, stands (TYPE_FORM ∷ NAME ∷ INITIAL_VALUE ∷ SIGN_SEMICOLON ∷ []) b a h.1, variable_value_2 b a h.1, is_placed TYPE_FORM (joined b a) (stands (TYPE_FORM ∷ NAME ∷ INITIAL_VALUE ∷ SIGN_SEMICOLON ∷ []) b a h.1).0 refl)
variable_go k r b a (inr (inr h)) = absurd h

pub variable_row : (p : Parse) → Begins VARIABLE p → VariableRow p
variable_row End h = absurd h
variable_row (Word t a) h = absurd h
variable_row (Node k r b a) h = variable_go k r b a (rw variable_rights at (rows_of_form VARIABLE k r b h))

-- BLOCK_PART

block_part_rights : rights BLOCK_PART grammar_rows ≡ (STATEMENT ∷ []) ∷ (VARIABLE ∷ []) ∷ []
unfolding grammar_rows top_rows types_rows expressions_rows operations_rows keys_rows statements_rows parser_rows control_rows tables_rows
block_part_rights = refl

block_part_value_1 : (b a : Parse) → Children (STATEMENT ∷ []) b → block_part b ≡ option_map (λ s. part.Statement s) (statement_of (below (joined b a)))
unfolding block_part
block_part_value_1 (Node k0 r0 u0 End) a h = ap (λ (l : ℕ). if l == STATEMENT then option_map (λ s. part.Statement s) (statement_of u0) else (variable (λ c. part.Constant c) (λ v. part.Variable v) u0)) h.0.left
block_part_value_1 _ a h = absurd (assumption)

block_part_value_2 : (b a : Parse) → Children (VARIABLE ∷ []) b → block_part b ≡ variable (λ c. part.Constant c) (λ v. part.Variable v) (below (joined b a))
unfolding block_part
block_part_value_2 (Node k0 r0 u0 End) a h = ap (λ (l : ℕ). if l == STATEMENT then option_map (λ s. part.Statement s) (statement_of u0) else (variable (λ c. part.Constant c) (λ v. part.Variable v) u0)) h.0.left
block_part_value_2 _ a h = absurd (assumption)

abbrev pub BlockPartRow : Parse → Type 0
BlockPartRow p =
    ((first_symbol p ≡ Some STATEMENT) × Stands (STATEMENT ∷ []) (opened p) (after p) × (block_part (below p) ≡ option_map (λ s. part.Statement s) (statement_of (below (opened p)))))
    ⊎ ((first_symbol p ≡ Some VARIABLE) × Stands (VARIABLE ∷ []) (opened p) (after p) × (block_part (below p) ≡ variable (λ c. part.Constant c) (λ v. part.Variable v) (below (opened p))))

block_part_go : (k : ℕ) (r : Row) (b a : Parse) → OneOf ((STATEMENT ∷ []) ∷ (VARIABLE ∷ []) ∷ []) r b → BlockPartRow (Node k r b a)
block_part_go k r b a (inl h) = inl (ap first_of h.0, stands (STATEMENT ∷ []) b a h.1, block_part_value_1 b a h.1)
block_part_go k r b a (inr (inl h)) = inr (ap first_of h.0, stands (VARIABLE ∷ []) b a h.1, block_part_value_2 b a h.1)
block_part_go k r b a (inr (inr h)) = absurd h

pub block_part_row : (p : Parse) → Begins BLOCK_PART p → BlockPartRow p
block_part_row End h = absurd h
block_part_row (Word t a) h = absurd h
block_part_row (Node k r b a) h = block_part_go k r b a (rw block_part_rights at (rows_of_form BLOCK_PART k r b h))

-- STATE_PART

state_part_rights : rights STATE_PART grammar_rows ≡ (STATEMENT ∷ []) ∷ (VARIABLE ∷ []) ∷ []
unfolding grammar_rows top_rows types_rows expressions_rows operations_rows keys_rows statements_rows parser_rows control_rows tables_rows
state_part_rights = refl

state_part_value_1 : (b a : Parse) → Children (STATEMENT ∷ []) b → block_part b ≡ option_map (λ s. part.Statement s) (statement_of (below (joined b a)))
unfolding block_part
state_part_value_1 (Node k0 r0 u0 End) a h = ap (λ (l : ℕ). if l == STATEMENT then option_map (λ s. part.Statement s) (statement_of u0) else (variable (λ c. part.Constant c) (λ v. part.Variable v) u0)) h.0.left
state_part_value_1 _ a h = absurd (assumption)

state_part_value_2 : (b a : Parse) → Children (VARIABLE ∷ []) b → block_part b ≡ variable (λ c. part.Constant c) (λ v. part.Variable v) (below (joined b a))
unfolding block_part
state_part_value_2 (Node k0 r0 u0 End) a h = ap (λ (l : ℕ). if l == STATEMENT then option_map (λ s. part.Statement s) (statement_of u0) else (variable (λ c. part.Constant c) (λ v. part.Variable v) u0)) h.0.left
state_part_value_2 _ a h = absurd (assumption)

abbrev pub StatePartRow : Parse → Type 0
StatePartRow p =
    ((first_symbol p ≡ Some STATEMENT) × Stands (STATEMENT ∷ []) (opened p) (after p) × (block_part (below p) ≡ option_map (λ s. part.Statement s) (statement_of (below (opened p)))))
    ⊎ ((first_symbol p ≡ Some VARIABLE) × Stands (VARIABLE ∷ []) (opened p) (after p) × (block_part (below p) ≡ variable (λ c. part.Constant c) (λ v. part.Variable v) (below (opened p))))

state_part_go : (k : ℕ) (r : Row) (b a : Parse) → OneOf ((STATEMENT ∷ []) ∷ (VARIABLE ∷ []) ∷ []) r b → StatePartRow (Node k r b a)
state_part_go k r b a (inl h) = inl (ap first_of h.0, stands (STATEMENT ∷ []) b a h.1, state_part_value_1 b a h.1)
state_part_go k r b a (inr (inl h)) = inr (ap first_of h.0, stands (VARIABLE ∷ []) b a h.1, state_part_value_2 b a h.1)
state_part_go k r b a (inr (inr h)) = absurd h

pub state_part_row : (p : Parse) → Begins STATE_PART p → StatePartRow p
state_part_row End h = absurd h
state_part_row (Word t a) h = absurd h
state_part_row (Node k r b a) h = state_part_go k r b a (rw state_part_rights at (rows_of_form STATE_PART k r b h))
