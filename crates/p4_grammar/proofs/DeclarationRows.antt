-- The rows of values, members and fields.
use Rattle.std.proofs.Common.{◌≡◌, ℕ, [], ◌∷◌, None, Some, refl, ap, inl, inr, ◌⊎◌}
use Rattle.std.specs.Prelude.{◌==◌, if◌then◌else◌, Option, true, false}
use Rattle.ll1_engine.specs.declared.grammar.Row.{Row}
use Rattle.p4_grammar.specs.declared.symbols.TheConstants.{ACTION, ANNOTATIONS, CLOSE_ARGUMENTS, CONSTANT, CONTROL, DECLARATION, ENUMERATION, ENUMERATION_WIDTH, EXPRESSION, FIELDS, FIELDS_LIST, INITIAL_VALUE, INSTANCE_ARGUMENTS, KEYWORD_BIT, KEYWORD_ENUM, KEYWORD_ERROR, KEYWORD_HEADER, KEYWORD_STRUCT, KEYWORD_TYPEDEF, MEMBER, MEMBERS, MEMBERS_MORE, MEMBERS_TAIL, NAME, OPEN_ARGUMENTS, PARSER, PROGRAM, SIGN_ASSIGN, SIGN_COMMA, SIGN_LEFT_BRACE, SIGN_RIGHT_BRACE, SIGN_SEMICOLON, TYPE_ARGUMENTS, TYPE_FORM, TYPE_NAME, WIDTH}
use Rattle.p4_grammar.specs.Rows.{top_rows, types_rows, expressions_rows, operations_rows, keys_rows, statements_rows, parser_rows, control_rows, tables_rows, grammar_rows}
use Rattle.p4_grammar.specs.Parses.{Parse, End, Word, Node, place_of, option_map, both, all_three, all_four}
use Rattle.p4_grammar.specs.Ahead.{Begins, below, after, joined, opened, token_at, first_of, first_symbol}
use Rattle.p4_grammar.proofs.SignLemmas.{no_sign}
use Rattle.std.proofs.Common.{eqb}
use Rattle.std.proofs.lemmas.Bool.{false≢true}
use Rattle.std.proofs.Common.{List}
use Rattle.p4_lexer.specs.declared.token.Keyword.TheVariants as keyword
use Rattle.p4_lexer.specs.declared.token.Word.{Word as WordKind}
use Rattle.p4_lexer.specs.declared.token.Word.TheVariants as word
use Rattle.p4_tree.specs.declared.names.Name.{Name}
use Rattle.p4_tree.specs.declared.declarations.Field.{Field}
use Rattle.p4_grammar.specs.Words.{terminal_of}
use Rattle.p4_grammar.specs.Names.{name_at, name_of, annotations}
use Rattle.p4_grammar.specs.Expressions.{type_at, expression, type_form, width_of, type_arguments}
use Rattle.p4_grammar.specs.Statements.{initial_value, constant}
use Rattle.p4_grammar.specs.Sources.{field_at, fields_list, fields, member, members_tail, members_more, members, enumeration_width, enumeration, fielded, fielded_at, declaration, program}
use Rattle.p4_grammar.specs.Parsers.{parser}
use Rattle.p4_grammar.specs.Controls.{action, control, instance_arguments, instance_at}
use Rattle.p4_tree.specs.declared.expressions.BaseType.TheVariants as base
use Rattle.p4_tree.specs.declared.declarations.TopPart.TheVariants as top
use Rattle.p4_tree.specs.declared.declarations.DeclarationKind.TheVariants as declared
use Rattle.p4_grammar.proofs.RowsOfForms.{rights, Children, OneOf, Stands, rows_of_form, stands, with_token}
use Rattle.p4_grammar.proofs.FirstPlaces.{IsPlaced, is_placed}

-- INITIAL_VALUE

initial_value_rights : rights INITIAL_VALUE grammar_rows ≡ [] ∷ (SIGN_ASSIGN ∷ EXPRESSION ∷ []) ∷ []
unfolding grammar_rows top_rows types_rows expressions_rows operations_rows keys_rows statements_rows parser_rows control_rows tables_rows
initial_value_rights = refl

initial_value_value_1 : (b a : Parse) → Children [] b → initial_value b ≡ Some None
unfolding initial_value
initial_value_value_1 End a h = refl
initial_value_value_1 _ a h = absurd (assumption)

initial_value_value_2 : (b a : Parse) → Children (SIGN_ASSIGN ∷ EXPRESSION ∷ []) b → initial_value b ≡ option_map (λ e. Some e) (expression (below (after (joined b a))))
unfolding initial_value
initial_value_value_2 (Word t0 (Node k1 r1 u1 End)) a h = refl
initial_value_value_2 _ a h = absurd (assumption)

abbrev pub InitialValueRow : Parse → Type 0
InitialValueRow p =
    ((first_symbol p ≡ None) × Stands [] (opened p) (after p) × (initial_value (below p) ≡ Some None))
    ⊎ ((first_symbol p ≡ Some SIGN_ASSIGN) × Stands (SIGN_ASSIGN ∷ EXPRESSION ∷ []) (opened p) (after p) × (initial_value (below p) ≡ option_map (λ e. Some e) (expression (below (after (opened p))))))

initial_value_go : (k : ℕ) (r : Row) (b a : Parse) → OneOf ([] ∷ (SIGN_ASSIGN ∷ EXPRESSION ∷ []) ∷ []) r b → InitialValueRow (Node k r b a)
initial_value_go k r b a (inl h) = inl (ap first_of h.0, stands [] b a h.1, initial_value_value_1 b a h.1)
initial_value_go k r b a (inr (inl h)) = inr (ap first_of h.0, stands (SIGN_ASSIGN ∷ EXPRESSION ∷ []) b a h.1, initial_value_value_2 b a h.1)
initial_value_go k r b a (inr (inr h)) = absurd h

pub initial_value_row : (p : Parse) → Begins INITIAL_VALUE p → InitialValueRow p
initial_value_row End h = absurd h
initial_value_row (Word t a) h = absurd h
initial_value_row (Node k r b a) h = initial_value_go k r b a (rw initial_value_rights at (rows_of_form INITIAL_VALUE k r b h))

-- MEMBER

member_rights : rights MEMBER grammar_rows ≡ (NAME ∷ INITIAL_VALUE ∷ []) ∷ []
unfolding grammar_rows top_rows types_rows expressions_rows operations_rows keys_rows statements_rows parser_rows control_rows tables_rows
member_rights = refl

member_value_1 : (b a : Parse) → Children (NAME ∷ INITIAL_VALUE ∷ []) b → member b ≡ all_three (λ n v span. record { name = n; value = v; span = span }) (name_of (below (joined b a))) (initial_value (below (after (joined b a)))) (place_of (below (joined b a)))
unfolding member
member_value_1 (Node k0 r0 u0 (Node k1 r1 u1 End)) a h = refl
member_value_1 _ a h = absurd (assumption)

abbrev pub MemberRow : Parse → Type 0
MemberRow p =
    (first_symbol p ≡ Some NAME) × Stands (NAME ∷ INITIAL_VALUE ∷ []) (opened p) (after p) × (member (below p) ≡ all_three (λ n v span. record { name = n; value = v; span = span }) (name_of (below (opened p))) (initial_value (below (after (opened p)))) (place_of (below (opened p)))) × IsPlaced (opened p)

member_go : (k : ℕ) (r : Row) (b a : Parse) → OneOf ((NAME ∷ INITIAL_VALUE ∷ []) ∷ []) r b → MemberRow (Node k r b a)
member_go k r b a (inl h) = (ap first_of h.0, stands (NAME ∷ INITIAL_VALUE ∷ []) b a h.1, member_value_1 b a h.1, is_placed NAME (joined b a) (stands (NAME ∷ INITIAL_VALUE ∷ []) b a h.1).0 refl)
member_go k r b a (inr h) = absurd h

pub member_row : (p : Parse) → Begins MEMBER p → MemberRow p
member_row End h = absurd h
member_row (Word t a) h = absurd h
member_row (Node k r b a) h = member_go k r b a (rw member_rights at (rows_of_form MEMBER k r b h))

-- MEMBERS_TAIL

members_tail_rights : rights MEMBERS_TAIL grammar_rows ≡ [] ∷ (SIGN_COMMA ∷ MEMBERS_MORE ∷ []) ∷ []
unfolding grammar_rows top_rows types_rows expressions_rows operations_rows keys_rows statements_rows parser_rows control_rows tables_rows
members_tail_rights = refl

members_tail_value_1 : (b a : Parse) → Children [] b → members_tail b ≡ Some []
unfolding members_tail
members_tail_value_1 End a h = refl
members_tail_value_1 _ a h = absurd (assumption)

members_tail_value_2 : (b a : Parse) → Children (SIGN_COMMA ∷ MEMBERS_MORE ∷ []) b → members_tail b ≡ members_more (below (after (joined b a)))
unfolding members_tail
members_tail_value_2 (Word t0 (Node k1 r1 u1 End)) a h = refl
members_tail_value_2 _ a h = absurd (assumption)

abbrev pub MembersTailRow : Parse → Type 0
MembersTailRow p =
    ((first_symbol p ≡ None) × Stands [] (opened p) (after p) × (members_tail (below p) ≡ Some []))
    ⊎ ((first_symbol p ≡ Some SIGN_COMMA) × Stands (SIGN_COMMA ∷ MEMBERS_MORE ∷ []) (opened p) (after p) × (members_tail (below p) ≡ members_more (below (after (opened p)))))

members_tail_go : (k : ℕ) (r : Row) (b a : Parse) → OneOf ([] ∷ (SIGN_COMMA ∷ MEMBERS_MORE ∷ []) ∷ []) r b → MembersTailRow (Node k r b a)
members_tail_go k r b a (inl h) = inl (ap first_of h.0, stands [] b a h.1, members_tail_value_1 b a h.1)
members_tail_go k r b a (inr (inl h)) = inr (ap first_of h.0, stands (SIGN_COMMA ∷ MEMBERS_MORE ∷ []) b a h.1, members_tail_value_2 b a h.1)
members_tail_go k r b a (inr (inr h)) = absurd h

pub members_tail_row : (p : Parse) → Begins MEMBERS_TAIL p → MembersTailRow p
members_tail_row End h = absurd h
members_tail_row (Word t a) h = absurd h
members_tail_row (Node k r b a) h = members_tail_go k r b a (rw members_tail_rights at (rows_of_form MEMBERS_TAIL k r b h))

-- MEMBERS_MORE

members_more_rights : rights MEMBERS_MORE grammar_rows ≡ [] ∷ (MEMBER ∷ MEMBERS_TAIL ∷ []) ∷ []
unfolding grammar_rows top_rows types_rows expressions_rows operations_rows keys_rows statements_rows parser_rows control_rows tables_rows
members_more_rights = refl

members_more_value_1 : (b a : Parse) → Children [] b → members_more b ≡ Some []
unfolding members_more
members_more_value_1 End a h = refl
members_more_value_1 _ a h = absurd (assumption)

members_more_value_2 : (b a : Parse) → Children (MEMBER ∷ MEMBERS_TAIL ∷ []) b → members_more b ≡ both (λ one more. one ∷ more) (member (below (joined b a))) (members_tail (below (after (joined b a))))
unfolding members_more
members_more_value_2 (Node k0 r0 u0 (Node k1 r1 u1 End)) a h = refl
members_more_value_2 _ a h = absurd (assumption)

abbrev pub MembersMoreRow : Parse → Type 0
MembersMoreRow p =
    ((first_symbol p ≡ None) × Stands [] (opened p) (after p) × (members_more (below p) ≡ Some []))
    ⊎ ((first_symbol p ≡ Some MEMBER) × Stands (MEMBER ∷ MEMBERS_TAIL ∷ []) (opened p) (after p) × (members_more (below p) ≡ both (λ one more. one ∷ more) (member (below (opened p))) (members_tail (below (after (opened p))))))

members_more_go : (k : ℕ) (r : Row) (b a : Parse) → OneOf ([] ∷ (MEMBER ∷ MEMBERS_TAIL ∷ []) ∷ []) r b → MembersMoreRow (Node k r b a)
members_more_go k r b a (inl h) = inl (ap first_of h.0, stands [] b a h.1, members_more_value_1 b a h.1)
members_more_go k r b a (inr (inl h)) = inr (ap first_of h.0, stands (MEMBER ∷ MEMBERS_TAIL ∷ []) b a h.1, members_more_value_2 b a h.1)
members_more_go k r b a (inr (inr h)) = absurd h

pub members_more_row : (p : Parse) → Begins MEMBERS_MORE p → MembersMoreRow p
members_more_row End h = absurd h
members_more_row (Word t a) h = absurd h
members_more_row (Node k r b a) h = members_more_go k r b a (rw members_more_rights at (rows_of_form MEMBERS_MORE k r b h))

-- MEMBERS

members_rights : rights MEMBERS grammar_rows ≡ (SIGN_LEFT_BRACE ∷ MEMBER ∷ MEMBERS_TAIL ∷ SIGN_RIGHT_BRACE ∷ []) ∷ []
unfolding grammar_rows top_rows types_rows expressions_rows operations_rows keys_rows statements_rows parser_rows control_rows tables_rows
members_rights = refl

members_value_1 : (b a : Parse) → Children (SIGN_LEFT_BRACE ∷ MEMBER ∷ MEMBERS_TAIL ∷ SIGN_RIGHT_BRACE ∷ []) b → members b ≡ both (λ one more. one ∷ more) (member (below (after (joined b a)))) (members_tail (below (after (after (joined b a)))))
unfolding members
members_value_1 (Word t0 (Node k1 r1 u1 (Node k2 r2 u2 (Word t3 End)))) a h = refl
members_value_1 _ a h = absurd (assumption)

abbrev pub MembersRow : Parse → Type 0
MembersRow p =
    (first_symbol p ≡ Some SIGN_LEFT_BRACE) × Stands (SIGN_LEFT_BRACE ∷ MEMBER ∷ MEMBERS_TAIL ∷ SIGN_RIGHT_BRACE ∷ []) (opened p) (after p) × (members (below p) ≡ both (λ one more. one ∷ more) (member (below (after (opened p)))) (members_tail (below (after (after (opened p))))))

members_go : (k : ℕ) (r : Row) (b a : Parse) → OneOf ((SIGN_LEFT_BRACE ∷ MEMBER ∷ MEMBERS_TAIL ∷ SIGN_RIGHT_BRACE ∷ []) ∷ []) r b → MembersRow (Node k r b a)
members_go k r b a (inl h) = (ap first_of h.0, stands (SIGN_LEFT_BRACE ∷ MEMBER ∷ MEMBERS_TAIL ∷ SIGN_RIGHT_BRACE ∷ []) b a h.1, members_value_1 b a h.1)
members_go k r b a (inr h) = absurd h

pub members_row : (p : Parse) → Begins MEMBERS p → MembersRow p
members_row End h = absurd h
members_row (Word t a) h = absurd h
members_row (Node k r b a) h = members_go k r b a (rw members_rights at (rows_of_form MEMBERS k r b h))

-- FIELDS_LIST

fields_list_rights : rights FIELDS_LIST grammar_rows ≡ [] ∷ (ANNOTATIONS ∷ TYPE_FORM ∷ NAME ∷ SIGN_SEMICOLON ∷ FIELDS_LIST ∷ []) ∷ []
unfolding grammar_rows top_rows types_rows expressions_rows operations_rows keys_rows statements_rows parser_rows control_rows tables_rows
fields_list_rights = refl

fields_list_value_1 : (b a : Parse) → Children [] b → fields_list b ≡ Some []
unfolding fields_list
fields_list_value_1 End a h = refl
fields_list_value_1 _ a h = absurd (assumption)

fields_list_value_2 : (b a : Parse) → Children (ANNOTATIONS ∷ TYPE_FORM ∷ NAME ∷ SIGN_SEMICOLON ∷ FIELDS_LIST ∷ []) b → fields_list b ≡ both (λ one more. one ∷ more) (all_four field_at (annotations (below (joined b a))) (type_form (below (after (joined b a)))) (name_of (below (after (after (joined b a))))) (place_of (below (after (joined b a))))) (fields_list (below (after (after (after (after (joined b a)))))))
unfolding fields_list
fields_list_value_2 (Node k0 r0 u0 (Node k1 r1 u1 (Node k2 r2 u2 (Word t3 (Node k4 r4 u4 End))))) a h = refl
fields_list_value_2 _ a h = absurd (assumption)

abbrev pub FieldsListRow : Parse → Type 0
FieldsListRow p =
    ((first_symbol p ≡ None) × Stands [] (opened p) (after p) × (fields_list (below p) ≡ Some []))
    ⊎ ((first_symbol p ≡ Some ANNOTATIONS) × Stands (ANNOTATIONS ∷ TYPE_FORM ∷ NAME ∷ SIGN_SEMICOLON ∷ FIELDS_LIST ∷ []) (opened p) (after p) × (fields_list (below p) ≡ both (λ one more. one ∷ more) (all_four field_at (annotations (below (opened p))) (type_form (below (after (opened p)))) (name_of (below (after (after (opened p))))) (place_of (below (after (opened p))))) (fields_list (below (after (after (after (after (opened p)))))))) × IsPlaced (after (opened p)))

fields_list_go : (k : ℕ) (r : Row) (b a : Parse) → OneOf ([] ∷ (ANNOTATIONS ∷ TYPE_FORM ∷ NAME ∷ SIGN_SEMICOLON ∷ FIELDS_LIST ∷ []) ∷ []) r b → FieldsListRow (Node k r b a)
fields_list_go k r b a (inl h) = inl (ap first_of h.0, stands [] b a h.1, fields_list_value_1 b a h.1)
fields_list_go k r b a (inr (inl h)) = inr (ap first_of h.0, stands (ANNOTATIONS ∷ TYPE_FORM ∷ NAME ∷ SIGN_SEMICOLON ∷ FIELDS_LIST ∷ []) b a h.1, fields_list_value_2 b a h.1, is_placed TYPE_FORM (after (joined b a)) (stands (ANNOTATIONS ∷ TYPE_FORM ∷ NAME ∷ SIGN_SEMICOLON ∷ FIELDS_LIST ∷ []) b a h.1).1.0 refl)
fields_list_go k r b a (inr (inr h)) = absurd h

pub fields_list_row : (p : Parse) → Begins FIELDS_LIST p → FieldsListRow p
fields_list_row End h = absurd h
fields_list_row (Word t a) h = absurd h
fields_list_row (Node k r b a) h = fields_list_go k r b a (rw fields_list_rights at (rows_of_form FIELDS_LIST k r b h))

-- FIELDS

fields_rights : rights FIELDS grammar_rows ≡ (SIGN_LEFT_BRACE ∷ FIELDS_LIST ∷ SIGN_RIGHT_BRACE ∷ []) ∷ []
unfolding grammar_rows top_rows types_rows expressions_rows operations_rows keys_rows statements_rows parser_rows control_rows tables_rows
fields_rights = refl

fields_value_1 : (b a : Parse) → Children (SIGN_LEFT_BRACE ∷ FIELDS_LIST ∷ SIGN_RIGHT_BRACE ∷ []) b → fields b ≡ fields_list (below (after (joined b a)))
unfolding fields
fields_value_1 (Word t0 (Node k1 r1 u1 (Word t2 End))) a h = refl
fields_value_1 _ a h = absurd (assumption)

abbrev pub FieldsRow : Parse → Type 0
FieldsRow p =
    (first_symbol p ≡ Some SIGN_LEFT_BRACE) × Stands (SIGN_LEFT_BRACE ∷ FIELDS_LIST ∷ SIGN_RIGHT_BRACE ∷ []) (opened p) (after p) × (fields (below p) ≡ fields_list (below (after (opened p))))

fields_go : (k : ℕ) (r : Row) (b a : Parse) → OneOf ((SIGN_LEFT_BRACE ∷ FIELDS_LIST ∷ SIGN_RIGHT_BRACE ∷ []) ∷ []) r b → FieldsRow (Node k r b a)
fields_go k r b a (inl h) = (ap first_of h.0, stands (SIGN_LEFT_BRACE ∷ FIELDS_LIST ∷ SIGN_RIGHT_BRACE ∷ []) b a h.1, fields_value_1 b a h.1)
fields_go k r b a (inr h) = absurd h

pub fields_row : (p : Parse) → Begins FIELDS p → FieldsRow p
fields_row End h = absurd h
fields_row (Word t a) h = absurd h
fields_row (Node k r b a) h = fields_go k r b a (rw fields_rights at (rows_of_form FIELDS k r b h))

-- ENUMERATION_WIDTH

enumeration_width_rights : rights ENUMERATION_WIDTH grammar_rows ≡ [] ∷ (KEYWORD_BIT ∷ OPEN_ARGUMENTS ∷ WIDTH ∷ CLOSE_ARGUMENTS ∷ []) ∷ []
unfolding grammar_rows top_rows types_rows expressions_rows operations_rows keys_rows statements_rows parser_rows control_rows tables_rows
enumeration_width_rights = refl

enumeration_width_value_1 : (b a : Parse) → Children [] b → enumeration_width b ≡ Some None
unfolding enumeration_width
enumeration_width_value_1 End a h = refl
enumeration_width_value_1 _ a h = absurd (assumption)

enumeration_width_value_2 : (b a : Parse) → Children (KEYWORD_BIT ∷ OPEN_ARGUMENTS ∷ WIDTH ∷ CLOSE_ARGUMENTS ∷ []) b → enumeration_width b ≡ option_map (λ w. Some w) (width_of (below (after (after (joined b a)))))
unfolding enumeration_width
enumeration_width_value_2 (Word t0 (Word t1 (Node k2 r2 u2 (Word t3 End)))) a h = refl
enumeration_width_value_2 _ a h = absurd (assumption)

abbrev pub EnumerationWidthRow : Parse → Type 0
EnumerationWidthRow p =
    ((first_symbol p ≡ None) × Stands [] (opened p) (after p) × (enumeration_width (below p) ≡ Some None))
    ⊎ ((first_symbol p ≡ Some KEYWORD_BIT) × Stands (KEYWORD_BIT ∷ OPEN_ARGUMENTS ∷ WIDTH ∷ CLOSE_ARGUMENTS ∷ []) (opened p) (after p) × (enumeration_width (below p) ≡ option_map (λ w. Some w) (width_of (below (after (after (opened p)))))))

enumeration_width_go : (k : ℕ) (r : Row) (b a : Parse) → OneOf ([] ∷ (KEYWORD_BIT ∷ OPEN_ARGUMENTS ∷ WIDTH ∷ CLOSE_ARGUMENTS ∷ []) ∷ []) r b → EnumerationWidthRow (Node k r b a)
enumeration_width_go k r b a (inl h) = inl (ap first_of h.0, stands [] b a h.1, enumeration_width_value_1 b a h.1)
enumeration_width_go k r b a (inr (inl h)) = inr (ap first_of h.0, stands (KEYWORD_BIT ∷ OPEN_ARGUMENTS ∷ WIDTH ∷ CLOSE_ARGUMENTS ∷ []) b a h.1, enumeration_width_value_2 b a h.1)
enumeration_width_go k r b a (inr (inr h)) = absurd h

pub enumeration_width_row : (p : Parse) → Begins ENUMERATION_WIDTH p → EnumerationWidthRow p
enumeration_width_row End h = absurd h
enumeration_width_row (Word t a) h = absurd h
enumeration_width_row (Node k r b a) h = enumeration_width_go k r b a (rw enumeration_width_rights at (rows_of_form ENUMERATION_WIDTH k r b h))

-- ENUMERATION

enumeration_rights : rights ENUMERATION grammar_rows ≡ (KEYWORD_ENUM ∷ ENUMERATION_WIDTH ∷ NAME ∷ MEMBERS ∷ []) ∷ []
unfolding grammar_rows top_rows types_rows expressions_rows operations_rows keys_rows statements_rows parser_rows control_rows tables_rows
enumeration_rights = refl

enumeration_value_1 : (b a : Parse) → Children (KEYWORD_ENUM ∷ ENUMERATION_WIDTH ∷ NAME ∷ MEMBERS ∷ []) b → enumeration b ≡ all_three (λ w n ms. record { width = w; name = n; members = ms }) (enumeration_width (below (after (joined b a)))) (name_of (below (after (after (joined b a))))) (members (below (after (after (after (joined b a))))))
unfolding enumeration
enumeration_value_1 (Word t0 (Node k1 r1 u1 (Node k2 r2 u2 (Node k3 r3 u3 End)))) a h = refl
enumeration_value_1 _ a h = absurd (assumption)

abbrev pub EnumerationRow : Parse → Type 0
EnumerationRow p =
    (first_symbol p ≡ Some KEYWORD_ENUM) × Stands (KEYWORD_ENUM ∷ ENUMERATION_WIDTH ∷ NAME ∷ MEMBERS ∷ []) (opened p) (after p) × (enumeration (below p) ≡ all_three (λ w n ms. record { width = w; name = n; members = ms }) (enumeration_width (below (after (opened p)))) (name_of (below (after (after (opened p))))) (members (below (after (after (after (opened p)))))))

enumeration_go : (k : ℕ) (r : Row) (b a : Parse) → OneOf ((KEYWORD_ENUM ∷ ENUMERATION_WIDTH ∷ NAME ∷ MEMBERS ∷ []) ∷ []) r b → EnumerationRow (Node k r b a)
enumeration_go k r b a (inl h) = (ap first_of h.0, stands (KEYWORD_ENUM ∷ ENUMERATION_WIDTH ∷ NAME ∷ MEMBERS ∷ []) b a h.1, enumeration_value_1 b a h.1)
enumeration_go k r b a (inr h) = absurd h

pub enumeration_row : (p : Parse) → Begins ENUMERATION p → EnumerationRow p
enumeration_row End h = absurd h
enumeration_row (Word t a) h = absurd h
enumeration_row (Node k r b a) h = enumeration_go k r b a (rw enumeration_rights at (rows_of_form ENUMERATION k r b h))

-- PROGRAM

program_rights : rights PROGRAM grammar_rows ≡ [] ∷ (SIGN_SEMICOLON ∷ PROGRAM ∷ []) ∷ (ANNOTATIONS ∷ DECLARATION ∷ PROGRAM ∷ []) ∷ []
unfolding grammar_rows top_rows types_rows expressions_rows operations_rows keys_rows statements_rows parser_rows control_rows tables_rows
program_rights = refl

program_value_1 : (b a : Parse) → Children [] b → program b ≡ Some []
unfolding program
program_value_1 End a h = refl
program_value_1 _ a h = absurd (assumption)

program_value_2 : (b a : Parse) → Children (SIGN_SEMICOLON ∷ PROGRAM ∷ []) b → program b ≡ with_token (λ t0. option_map (λ more. top.Empty t0.span ∷ more) (program (below (after (joined b a))))) (token_at (joined b a))
unfolding program
program_value_2 (Word t0 (Node k1 r1 u1 End)) a h = refl
program_value_2 _ a h = absurd (assumption)

program_value_3 : (b a : Parse) → Children (ANNOTATIONS ∷ DECLARATION ∷ PROGRAM ∷ []) b → program b ≡ both (λ one more. top.Declaration one ∷ more) (all_three (λ ns kind span. record { annotations = ns; kind = kind; span = span }) (annotations (below (joined b a))) (declaration (below (after (joined b a)))) (place_of (below (after (joined b a))))) (program (below (after (after (joined b a)))))
unfolding program
program_value_3 (Node k0 r0 u0 (Node k1 r1 u1 (Node k2 r2 u2 End))) a h = refl
program_value_3 _ a h = absurd (assumption)

abbrev pub ProgramRow : Parse → Type 0
ProgramRow p =
    ((first_symbol p ≡ None) × Stands [] (opened p) (after p) × (program (below p) ≡ Some []))
    ⊎ ((first_symbol p ≡ Some SIGN_SEMICOLON) × Stands (SIGN_SEMICOLON ∷ PROGRAM ∷ []) (opened p) (after p) × (program (below p) ≡ with_token (λ t0. option_map (λ more. top.Empty t0.span ∷ more) (program (below (after (opened p))))) (token_at (opened p))))
    ⊎ ((first_symbol p ≡ Some ANNOTATIONS) × Stands (ANNOTATIONS ∷ DECLARATION ∷ PROGRAM ∷ []) (opened p) (after p) × (program (below p) ≡ both (λ one more. top.Declaration one ∷ more) (all_three (λ ns kind span. record { annotations = ns; kind = kind; span = span }) (annotations (below (opened p))) (declaration (below (after (opened p)))) (place_of (below (after (opened p))))) (program (below (after (after (opened p)))))) × IsPlaced (after (opened p)))

program_go : (k : ℕ) (r : Row) (b a : Parse) → OneOf ([] ∷ (SIGN_SEMICOLON ∷ PROGRAM ∷ []) ∷ (ANNOTATIONS ∷ DECLARATION ∷ PROGRAM ∷ []) ∷ []) r b → ProgramRow (Node k r b a)
program_go k r b a (inl h) = inl (ap first_of h.0, stands [] b a h.1, program_value_1 b a h.1)
program_go k r b a (inr (inl h)) = inr (inl (ap first_of h.0, stands (SIGN_SEMICOLON ∷ PROGRAM ∷ []) b a h.1, program_value_2 b a h.1))
program_go k r b a (inr (inr (inl h))) = inr (inr (ap first_of h.0, stands (ANNOTATIONS ∷ DECLARATION ∷ PROGRAM ∷ []) b a h.1, program_value_3 b a h.1, is_placed DECLARATION (after (joined b a)) (stands (ANNOTATIONS ∷ DECLARATION ∷ PROGRAM ∷ []) b a h.1).1.0 refl))
program_go k r b a (inr (inr (inr h))) = absurd h

pub program_row : (p : Parse) → Begins PROGRAM p → ProgramRow p
program_row End h = absurd h
program_row (Word t a) h = absurd h
program_row (Node k r b a) h = program_go k r b a (rw program_rights at (rows_of_form PROGRAM k r b h))

-- DECLARATION

declaration_rights : rights DECLARATION grammar_rows ≡ (CONSTANT ∷ []) ∷ (KEYWORD_TYPEDEF ∷ TYPE_FORM ∷ NAME ∷ SIGN_SEMICOLON ∷ []) ∷ (KEYWORD_STRUCT ∷ NAME ∷ FIELDS ∷ []) ∷ (KEYWORD_HEADER ∷ NAME ∷ FIELDS ∷ []) ∷ (ENUMERATION ∷ []) ∷ (KEYWORD_ERROR ∷ MEMBERS ∷ []) ∷ (ACTION ∷ []) ∷ (PARSER ∷ []) ∷ (CONTROL ∷ []) ∷ (TYPE_NAME ∷ TYPE_ARGUMENTS ∷ INSTANCE_ARGUMENTS ∷ NAME ∷ SIGN_SEMICOLON ∷ []) ∷ []
unfolding grammar_rows top_rows types_rows expressions_rows operations_rows keys_rows statements_rows parser_rows control_rows tables_rows
declaration_rights = refl

declaration_value_1 : (b a : Parse) → Children (CONSTANT ∷ []) b → declaration b ≡ option_map (λ c. declared.Constant c) (constant (below (joined b a)))
unfolding declaration
declaration_value_1 (Node k0 r0 u0 End) a h = ap (λ (l : ℕ). if l == CONSTANT then option_map (λ c. declared.Constant c) (constant u0) else (if l == ENUMERATION then option_map (λ e. declared.Enumeration e) (enumeration u0) else (if l == ACTION then option_map (λ a. declared.Action a) (action u0) else (if l == PARSER then option_map (λ p. declared.Parser p) (parser u0) else (option_map (λ c. declared.Control c) (control u0)))))) h.0.left
declaration_value_1 _ a h = absurd (assumption)

declaration_value_2 : (b a : Parse) → Children (KEYWORD_TYPEDEF ∷ TYPE_FORM ∷ NAME ∷ SIGN_SEMICOLON ∷ []) b → declaration b ≡ both (λ t n. declared.Typedef (record { type_form = t; name = n })) (type_form (below (after (joined b a)))) (name_of (below (after (after (joined b a)))))
unfolding declaration
declaration_value_2 (Word t0 (Node k1 r1 u1 (Node k2 r2 u2 (Word t3 End)))) a h = refl
declaration_value_2 _ a h = absurd (assumption)

fielded_struct : (w : WordKind) (n : Option Name) (fs : Option (List Field)) → terminal_of w ≡ KEYWORD_STRUCT → all_three fielded_at (fielded w) n fs ≡ both (λ n fs. declared.Struct n fs) n fs
fielded_struct (word.Keyword keyword.Struct) None fs h = refl
fielded_struct (word.Keyword keyword.Struct) (Some n) None h = refl
fielded_struct (word.Keyword keyword.Struct) (Some n) (Some fs) h = refl
fielded_struct (word.Sign s) n fs h = absurd (no_sign s KEYWORD_STRUCT h refl)
fielded_struct _ n fs h = absurd (false≢true (ap (λ (x : ℕ). eqb x KEYWORD_STRUCT) h))

declaration_value_3 : (b a : Parse) → Children (KEYWORD_STRUCT ∷ NAME ∷ FIELDS ∷ []) b → declaration b ≡ both (λ n fs. declared.Struct n fs) (name_of (below (after (joined b a)))) (fields (below (after (after (joined b a)))))
unfolding declaration
declaration_value_3 (Word t0 (Node k1 r1 u1 (Node k2 r2 u2 End))) a h = fielded_struct t0.word (name_of u1) (fields u2) h.0
declaration_value_3 _ a h = absurd (assumption)

fielded_header : (w : WordKind) (n : Option Name) (fs : Option (List Field)) → terminal_of w ≡ KEYWORD_HEADER → all_three fielded_at (fielded w) n fs ≡ both (λ n fs. declared.Header n fs) n fs
fielded_header (word.Keyword keyword.Header) None fs h = refl
fielded_header (word.Keyword keyword.Header) (Some n) None h = refl
fielded_header (word.Keyword keyword.Header) (Some n) (Some fs) h = refl
fielded_header (word.Sign s) n fs h = absurd (no_sign s KEYWORD_HEADER h refl)
fielded_header _ n fs h = absurd (false≢true (ap (λ (x : ℕ). eqb x KEYWORD_HEADER) h))

declaration_value_4 : (b a : Parse) → Children (KEYWORD_HEADER ∷ NAME ∷ FIELDS ∷ []) b → declaration b ≡ both (λ n fs. declared.Header n fs) (name_of (below (after (joined b a)))) (fields (below (after (after (joined b a)))))
unfolding declaration
declaration_value_4 (Word t0 (Node k1 r1 u1 (Node k2 r2 u2 End))) a h = fielded_header t0.word (name_of u1) (fields u2) h.0
declaration_value_4 _ a h = absurd (assumption)

declaration_value_5 : (b a : Parse) → Children (ENUMERATION ∷ []) b → declaration b ≡ option_map (λ e. declared.Enumeration e) (enumeration (below (joined b a)))
unfolding declaration
declaration_value_5 (Node k0 r0 u0 End) a h = ap (λ (l : ℕ). if l == CONSTANT then option_map (λ c. declared.Constant c) (constant u0) else (if l == ENUMERATION then option_map (λ e. declared.Enumeration e) (enumeration u0) else (if l == ACTION then option_map (λ a. declared.Action a) (action u0) else (if l == PARSER then option_map (λ p. declared.Parser p) (parser u0) else (option_map (λ c. declared.Control c) (control u0)))))) h.0.left
declaration_value_5 _ a h = absurd (assumption)

declaration_value_6 : (b a : Parse) → Children (KEYWORD_ERROR ∷ MEMBERS ∷ []) b → declaration b ≡ option_map (λ ms. declared.Errors ms) (members (below (after (joined b a))))
unfolding declaration
declaration_value_6 (Word t0 (Node k1 r1 u1 End)) a h = refl
declaration_value_6 _ a h = absurd (assumption)

declaration_value_7 : (b a : Parse) → Children (ACTION ∷ []) b → declaration b ≡ option_map (λ a. declared.Action a) (action (below (joined b a)))
unfolding declaration
declaration_value_7 (Node k0 r0 u0 End) a h = ap (λ (l : ℕ). if l == CONSTANT then option_map (λ c. declared.Constant c) (constant u0) else (if l == ENUMERATION then option_map (λ e. declared.Enumeration e) (enumeration u0) else (if l == ACTION then option_map (λ a. declared.Action a) (action u0) else (if l == PARSER then option_map (λ p. declared.Parser p) (parser u0) else (option_map (λ c. declared.Control c) (control u0)))))) h.0.left
declaration_value_7 _ a h = absurd (assumption)

declaration_value_8 : (b a : Parse) → Children (PARSER ∷ []) b → declaration b ≡ option_map (λ p. declared.Parser p) (parser (below (joined b a)))
unfolding declaration
declaration_value_8 (Node k0 r0 u0 End) a h = ap (λ (l : ℕ). if l == CONSTANT then option_map (λ c. declared.Constant c) (constant u0) else (if l == ENUMERATION then option_map (λ e. declared.Enumeration e) (enumeration u0) else (if l == ACTION then option_map (λ a. declared.Action a) (action u0) else (if l == PARSER then option_map (λ p. declared.Parser p) (parser u0) else (option_map (λ c. declared.Control c) (control u0)))))) h.0.left
declaration_value_8 _ a h = absurd (assumption)

declaration_value_9 : (b a : Parse) → Children (CONTROL ∷ []) b → declaration b ≡ option_map (λ c. declared.Control c) (control (below (joined b a)))
unfolding declaration
declaration_value_9 (Node k0 r0 u0 End) a h = ap (λ (l : ℕ). if l == CONSTANT then option_map (λ c. declared.Constant c) (constant u0) else (if l == ENUMERATION then option_map (λ e. declared.Enumeration e) (enumeration u0) else (if l == ACTION then option_map (λ a. declared.Action a) (action u0) else (if l == PARSER then option_map (λ p. declared.Parser p) (parser u0) else (option_map (λ c. declared.Control c) (control u0)))))) h.0.left
declaration_value_9 _ a h = absurd (assumption)

declaration_value_10 : (b a : Parse) → Children (TYPE_NAME ∷ TYPE_ARGUMENTS ∷ INSTANCE_ARGUMENTS ∷ NAME ∷ SIGN_SEMICOLON ∷ []) b → declaration b ≡ with_token (λ t0. option_map (λ made. declared.Instance made) (all_four instance_at (both (λ n of_it. type_at t0.span (base.Named n of_it) None) (name_at t0) (type_arguments (below (after (joined b a))))) (Some t0.span) (instance_arguments (below (after (after (joined b a))))) (name_of (below (after (after (after (joined b a)))))))) (token_at (joined b a))
unfolding declaration
declaration_value_10 (Word t0 (Node k1 r1 u1 (Node k2 r2 u2 (Node k3 r3 u3 (Word t4 End))))) a h = refl
declaration_value_10 _ a h = absurd (assumption)

abbrev pub DeclarationRow : Parse → Type 0
DeclarationRow p =
    ((first_symbol p ≡ Some CONSTANT) × Stands (CONSTANT ∷ []) (opened p) (after p) × (declaration (below p) ≡ option_map (λ c. declared.Constant c) (constant (below (opened p)))))
    ⊎ ((first_symbol p ≡ Some KEYWORD_TYPEDEF) × Stands (KEYWORD_TYPEDEF ∷ TYPE_FORM ∷ NAME ∷ SIGN_SEMICOLON ∷ []) (opened p) (after p) × (declaration (below p) ≡ both (λ t n. declared.Typedef (record { type_form = t; name = n })) (type_form (below (after (opened p)))) (name_of (below (after (after (opened p)))))))
    ⊎ ((first_symbol p ≡ Some KEYWORD_STRUCT) × Stands (KEYWORD_STRUCT ∷ NAME ∷ FIELDS ∷ []) (opened p) (after p) × (declaration (below p) ≡ both (λ n fs. declared.Struct n fs) (name_of (below (after (opened p)))) (fields (below (after (after (opened p)))))))
    ⊎ ((first_symbol p ≡ Some KEYWORD_HEADER) × Stands (KEYWORD_HEADER ∷ NAME ∷ FIELDS ∷ []) (opened p) (after p) × (declaration (below p) ≡ both (λ n fs. declared.Header n fs) (name_of (below (after (opened p)))) (fields (below (after (after (opened p)))))))
    ⊎ ((first_symbol p ≡ Some ENUMERATION) × Stands (ENUMERATION ∷ []) (opened p) (after p) × (declaration (below p) ≡ option_map (λ e. declared.Enumeration e) (enumeration (below (opened p)))))
    ⊎ ((first_symbol p ≡ Some KEYWORD_ERROR) × Stands (KEYWORD_ERROR ∷ MEMBERS ∷ []) (opened p) (after p) × (declaration (below p) ≡ option_map (λ ms. declared.Errors ms) (members (below (after (opened p))))))
    ⊎ ((first_symbol p ≡ Some ACTION) × Stands (ACTION ∷ []) (opened p) (after p) × (declaration (below p) ≡ option_map (λ a. declared.Action a) (action (below (opened p)))))
    ⊎ ((first_symbol p ≡ Some PARSER) × Stands (PARSER ∷ []) (opened p) (after p) × (declaration (below p) ≡ option_map (λ p. declared.Parser p) (parser (below (opened p)))))
    ⊎ ((first_symbol p ≡ Some CONTROL) × Stands (CONTROL ∷ []) (opened p) (after p) × (declaration (below p) ≡ option_map (λ c. declared.Control c) (control (below (opened p)))))
    ⊎ ((first_symbol p ≡ Some TYPE_NAME) × Stands (TYPE_NAME ∷ TYPE_ARGUMENTS ∷ INSTANCE_ARGUMENTS ∷ NAME ∷ SIGN_SEMICOLON ∷ []) (opened p) (after p) × (declaration (below p) ≡ with_token (λ t0. option_map (λ made. declared.Instance made) (all_four instance_at (both (λ n of_it. type_at t0.span (base.Named n of_it) None) (name_at t0) (type_arguments (below (after (opened p))))) (Some t0.span) (instance_arguments (below (after (after (opened p))))) (name_of (below (after (after (after (opened p)))))))) (token_at (opened p))))

declaration_go : (k : ℕ) (r : Row) (b a : Parse) → OneOf ((CONSTANT ∷ []) ∷ (KEYWORD_TYPEDEF ∷ TYPE_FORM ∷ NAME ∷ SIGN_SEMICOLON ∷ []) ∷ (KEYWORD_STRUCT ∷ NAME ∷ FIELDS ∷ []) ∷ (KEYWORD_HEADER ∷ NAME ∷ FIELDS ∷ []) ∷ (ENUMERATION ∷ []) ∷ (KEYWORD_ERROR ∷ MEMBERS ∷ []) ∷ (ACTION ∷ []) ∷ (PARSER ∷ []) ∷ (CONTROL ∷ []) ∷ (TYPE_NAME ∷ TYPE_ARGUMENTS ∷ INSTANCE_ARGUMENTS ∷ NAME ∷ SIGN_SEMICOLON ∷ []) ∷ []) r b → DeclarationRow (Node k r b a)
declaration_go k r b a (inl h) = inl (ap first_of h.0, stands (CONSTANT ∷ []) b a h.1, declaration_value_1 b a h.1)
declaration_go k r b a (inr (inl h)) = inr (inl (ap first_of h.0, stands (KEYWORD_TYPEDEF ∷ TYPE_FORM ∷ NAME ∷ SIGN_SEMICOLON ∷ []) b a h.1, declaration_value_2 b a h.1))
declaration_go k r b a (inr (inr (inl h))) = inr (inr (inl (ap first_of h.0, stands (KEYWORD_STRUCT ∷ NAME ∷ FIELDS ∷ []) b a h.1, declaration_value_3 b a h.1)))
declaration_go k r b a (inr (inr (inr (inl h)))) = inr (inr (inr (inl (ap first_of h.0, stands (KEYWORD_HEADER ∷ NAME ∷ FIELDS ∷ []) b a h.1, declaration_value_4 b a h.1))))
declaration_go k r b a (inr (inr (inr (inr (inl h))))) = inr (inr (inr (inr (inl (ap first_of h.0, stands (ENUMERATION ∷ []) b a h.1, declaration_value_5 b a h.1)))))
declaration_go k r b a (inr (inr (inr (inr (inr (inl h)))))) = inr (inr (inr (inr (inr (inl (ap first_of h.0, stands (KEYWORD_ERROR ∷ MEMBERS ∷ []) b a h.1, declaration_value_6 b a h.1))))))
declaration_go k r b a (inr (inr (inr (inr (inr (inr (inl h))))))) = inr (inr (inr (inr (inr (inr (inl (ap first_of h.0, stands (ACTION ∷ []) b a h.1, declaration_value_7 b a h.1)))))))
declaration_go k r b a (inr (inr (inr (inr (inr (inr (inr (inl h)))))))) = inr (inr (inr (inr (inr (inr (inr (inl (ap first_of h.0, stands (PARSER ∷ []) b a h.1, declaration_value_8 b a h.1))))))))
declaration_go k r b a (inr (inr (inr (inr (inr (inr (inr (inr (inl h))))))))) = inr (inr (inr (inr (inr (inr (inr (inr (inl (ap first_of h.0, stands (CONTROL ∷ []) b a h.1, declaration_value_9 b a h.1)))))))))
declaration_go k r b a (inr (inr (inr (inr (inr (inr (inr (inr (inr (inl h)))))))))) = inr (inr (inr (inr (inr (inr (inr (inr (inr (ap first_of h.0, stands (TYPE_NAME ∷ TYPE_ARGUMENTS ∷ INSTANCE_ARGUMENTS ∷ NAME ∷ SIGN_SEMICOLON ∷ []) b a h.1, declaration_value_10 b a h.1)))))))))
declaration_go k r b a (inr (inr (inr (inr (inr (inr (inr (inr (inr (inr h)))))))))) = absurd h

pub declaration_row : (p : Parse) → Begins DECLARATION p → DeclarationRow p
declaration_row End h = absurd h
declaration_row (Word t a) h = absurd h
declaration_row (Node k r b a) h = declaration_go k r b a (rw declaration_rights at (rows_of_form DECLARATION k r b h))
