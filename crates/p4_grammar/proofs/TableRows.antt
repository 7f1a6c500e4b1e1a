-- The rows of tables and their properties.
use Rattle.std.proofs.Common.{◌≡◌, ℕ, [], ◌∷◌, None, Some, refl, ap, inl, inr, ◌⊎◌}
use Rattle.std.specs.Prelude.{Bool, true, false}
use Rattle.ll1_engine.specs.declared.grammar.Row.{Row}
use Rattle.p4_grammar.specs.declared.symbols.TheConstants.{ANNOTATIONS, CONSTANCY, EMPTY_CALL, ENTRIES, EXPRESSION, ID, KEYS, KEYWORD_ACTIONS, KEYWORD_CONST, KEYWORD_ENTRIES, KEYWORD_KEY, KEYWORD_TABLE, KEY_SET, LISTED_ACTIONS, NAME, PROPERTY, PROPERTY_VALUE, SIGN_ASSIGN, SIGN_COLON, SIGN_LEFT_BRACE, SIGN_LEFT_PAREN, SIGN_RIGHT_BRACE, SIGN_RIGHT_PAREN, SIGN_SEMICOLON, TABLE, TABLE_PROPERTIES, WORD}
use Rattle.p4_grammar.specs.Rows.{top_rows, types_rows, expressions_rows, operations_rows, keys_rows, statements_rows, parser_rows, control_rows, tables_rows, grammar_rows}
use Rattle.p4_grammar.specs.Parses.{Parse, End, Word, Node, place_of, option_map, both, all_three, all_four}
use Rattle.p4_grammar.specs.Ahead.{Begins, below, after, joined, opened, token_at, first_of, first_symbol}
use Rattle.p4_grammar.proofs.SignLemmas.{no_sign}
use Rattle.std.proofs.Common.{eqb}
use Rattle.std.proofs.lemmas.Bool.{false≢true}
use Rattle.p4_lexer.specs.declared.token.Keyword.TheVariants as keyword
use Rattle.p4_lexer.specs.declared.token.Word.{Word as WordKind}
use Rattle.p4_lexer.specs.declared.token.Word.TheVariants as word
use Rattle.p4_grammar.specs.Words.{terminal_of}
use Rattle.p4_tree.specs.declared.tables.PropertyKind.TheVariants as property
use Rattle.p4_grammar.specs.Names.{name_at, word_name, name_of, annotations}
use Rattle.p4_grammar.specs.Expressions.{expression}
use Rattle.p4_grammar.specs.Keys.{key_set}
use Rattle.p4_grammar.specs.Tables.{table_key_at, keys, empty_call, listed_at, listed_actions, entry_at, entries, constancy, property_value, valued, listed, property_of, properties, table}
use Rattle.p4_grammar.proofs.RowsOfForms.{rights, Children, OneOf, Stands, rows_of_form, stands, with_token}
use Rattle.p4_grammar.proofs.FirstPlaces.{IsPlaced, is_placed}

-- KEYS

keys_rights : rights KEYS grammar_rows ≡ [] ∷ (EXPRESSION ∷ SIGN_COLON ∷ WORD ∷ ANNOTATIONS ∷ SIGN_SEMICOLON ∷ KEYS ∷ []) ∷ []
unfolding grammar_rows top_rows types_rows expressions_rows operations_rows keys_rows statements_rows parser_rows control_rows tables_rows
keys_rights = refl

keys_value_1 : (b a : Parse) → Children [] b → keys b ≡ Some []
unfolding keys
keys_value_1 End a h = refl
keys_value_1 _ a h = absurd (assumption)

keys_value_2 : (b a : Parse) → Children (EXPRESSION ∷ SIGN_COLON ∷ WORD ∷ ANNOTATIONS ∷ SIGN_SEMICOLON ∷ KEYS ∷ []) b → keys b ≡ both (λ one more. one ∷ more) (all_four table_key_at (expression (below (joined b a))) (word_name (below (after (after (joined b a))))) (annotations (below (after (after (after (joined b a)))))) (place_of (below (joined b a)))) (keys (below (after (after (after (after (after (joined b a))))))))
unfolding keys
keys_value_2 (Node k0 r0 u0 (Word t1 (Node k2 r2 u2 (Node k3 r3 u3 (Word t4 (Node k5 r5 u5 End)))))) a h = refl
keys_value_2 _ a h = absurd (assumption)

abbrev pub KeysRow : Parse → Type 0
KeysRow p =
    ((first_symbol p ≡ None) × Stands [] (opened p) (after p) × (keys (below p) ≡ Some []))
    ⊎ ((first_symbol p ≡ Some EXPRESSION) × Stands (EXPRESSION ∷ SIGN_COLON ∷ WORD ∷ ANNOTATIONS ∷ SIGN_SEMICOLON ∷ KEYS ∷ []) (opened p) (after p) × (keys (below p) ≡ both (λ one more. one ∷ more) (all_four table_key_at (expression (below (opened p))) (word_name (below (after (after (opened p))))) (annotations (below (after (after (after (opened p)))))) (place_of (below (opened p)))) (keys (below (after (after (after (after (after (opened p))))))))) × IsPlaced (opened p))

keys_go : (k : ℕ) (r : Row) (b a : Parse) → OneOf ([] ∷ (EXPRESSION ∷ SIGN_COLON ∷ WORD ∷ ANNOTATIONS ∷ SIGN_SEMICOLON ∷ KEYS ∷ []) ∷ []) r b → KeysRow (Node k r b a)
keys_go k r b a (inl h) = inl (ap first_of h.0, stands [] b a h.1, keys_value_1 b a h.1)
keys_go k r b a (inr (inl h)) = inr (ap first_of h.0, stands (EXPRESSION ∷ SIGN_COLON ∷ WORD ∷ ANNOTATIONS ∷ SIGN_SEMICOLON ∷ KEYS ∷ []) b a h.1, keys_value_2 b a h.1, is_placed EXPRESSION (joined b a) (stands (EXPRESSION ∷ SIGN_COLON ∷ WORD ∷ ANNOTATIONS ∷ SIGN_SEMICOLON ∷ KEYS ∷ []) b a h.1).0 refl)
keys_go k r b a (inr (inr h)) = absurd h

pub keys_row : (p : Parse) → Begins KEYS p → KeysRow p
keys_row End h = absurd h
keys_row (Word t a) h = absurd h
keys_row (Node k r b a) h = keys_go k r b a (rw keys_rights at (rows_of_form KEYS k r b h))

-- EMPTY_CALL

empty_call_rights : rights EMPTY_CALL grammar_rows ≡ [] ∷ (SIGN_LEFT_PAREN ∷ SIGN_RIGHT_PAREN ∷ []) ∷ []
unfolding grammar_rows top_rows types_rows expressions_rows operations_rows keys_rows statements_rows parser_rows control_rows tables_rows
empty_call_rights = refl

empty_call_value_1 : (b a : Parse) → Children [] b → empty_call b ≡ Some false
unfolding empty_call
empty_call_value_1 End a h = refl
empty_call_value_1 _ a h = absurd (assumption)

empty_call_value_2 : (b a : Parse) → Children (SIGN_LEFT_PAREN ∷ SIGN_RIGHT_PAREN ∷ []) b → empty_call b ≡ Some true
unfolding empty_call
empty_call_value_2 (Word t0 (Word t1 End)) a h = refl
empty_call_value_2 _ a h = absurd (assumption)

abbrev pub EmptyCallRow : Parse → Type 0
EmptyCallRow p =
    ((first_symbol p ≡ None) × Stands [] (opened p) (after p) × (empty_call (below p) ≡ Some false))
    ⊎ ((first_symbol p ≡ Some SIGN_LEFT_PAREN) × Stands (SIGN_LEFT_PAREN ∷ SIGN_RIGHT_PAREN ∷ []) (opened p) (after p) × (empty_call (below p) ≡ Some true))

empty_call_go : (k : ℕ) (r : Row) (b a : Parse) → OneOf ([] ∷ (SIGN_LEFT_PAREN ∷ SIGN_RIGHT_PAREN ∷ []) ∷ []) r b → EmptyCallRow (Node k r b a)
empty_call_go k r b a (inl h) = inl (ap first_of h.0, stands [] b a h.1, empty_call_value_1 b a h.1)
empty_call_go k r b a (inr (inl h)) = inr (ap first_of h.0, stands (SIGN_LEFT_PAREN ∷ SIGN_RIGHT_PAREN ∷ []) b a h.1, empty_call_value_2 b a h.1)
empty_call_go k r b a (inr (inr h)) = absurd h

pub empty_call_row : (p : Parse) → Begins EMPTY_CALL p → EmptyCallRow p
empty_call_row End h = absurd h
empty_call_row (Word t a) h = absurd h
empty_call_row (Node k r b a) h = empty_call_go k r b a (rw empty_call_rights at (rows_of_form EMPTY_CALL k r b h))

-- LISTED_ACTIONS

listed_actions_rights : rights LISTED_ACTIONS grammar_rows ≡ [] ∷ (ANNOTATIONS ∷ NAME ∷ EMPTY_CALL ∷ SIGN_SEMICOLON ∷ LISTED_ACTIONS ∷ []) ∷ []
unfolding grammar_rows top_rows types_rows expressions_rows operations_rows keys_rows statements_rows parser_rows control_rows tables_rows
listed_actions_rights = refl

listed_actions_value_1 : (b a : Parse) → Children [] b → listed_actions b ≡ Some []
unfolding listed_actions
listed_actions_value_1 End a h = refl
listed_actions_value_1 _ a h = absurd (assumption)

listed_actions_value_2 : (b a : Parse) → Children (ANNOTATIONS ∷ NAME ∷ EMPTY_CALL ∷ SIGN_SEMICOLON ∷ LISTED_ACTIONS ∷ []) b → listed_actions b ≡ both (λ one more. one ∷ more) (all_four listed_at (annotations (below (joined b a))) (name_of (below (after (joined b a)))) (empty_call (below (after (after (joined b a))))) (place_of (below (after (joined b a))))) (listed_actions (below (after (after (after (after (joined b a)))))))
unfolding listed_actions
listed_actions_value_2 (Node k0 r0 u0 (Node k1 r1 u1 (Node k2 r2 u2 (Word t3 (Node k4 r4 u4 End))))) a h = refl
listed_actions_value_2 _ a h = absurd (assumption)

abbrev pub ListedActionsRow : Parse → Type 0
ListedActionsRow p =
    ((first_symbol p ≡ None) × Stands [] (opened p) (after p) × (listed_actions (below p) ≡ Some []))
    ⊎ ((first_symbol p ≡ Some ANNOTATIONS) × Stands (ANNOTATIONS ∷ NAME ∷ EMPTY_CALL ∷ SIGN_SEMICOLON ∷ LISTED_ACTIONS ∷ []) (opened p) (after p) × (listed_actions (below p) ≡ both (λ one more. one ∷ more) (all_four listed_at (annotations (below (opened p))) (name_of (below (after (opened p)))) (empty_call (below (after (after (opened p))))) (place_of (below (after (opened p))))) (listed_actions (below (after (after (after (after (opened p)))))))) × IsPlaced (after (opened p)))

listed_actions_go : (k : ℕ) (r : Row) (b a : Parse) → OneOf ([] ∷ (ANNOTATIONS ∷ NAME ∷ EMPTY_CALL ∷ SIGN_SEMICOLON ∷ LISTED_ACTIONS ∷ []) ∷ []) r b → ListedActionsRow (Node k r b a)
listed_actions_go k r b a (inl h) = inl (ap first_of h.0, stands [] b a h.1, listed_actions_value_1 b a h.1)
listed_actions_go k r b a (inr (inl h)) = inr (ap first_of h.0, stands (ANNOTATIONS ∷ NAME ∷ EMPTY_CALL ∷ SIGN_SEMICOLON ∷ LISTED_ACTIONS ∷ []) b a h.1, listed_actions_value_2 b a h.1, is_placed NAME (after (joined b a)) (stands (ANNOTATIONS ∷ NAME ∷ EMPTY_CALL ∷ SIGN_SEMICOLON ∷ LISTED_ACTIONS ∷ []) b a h.1).1.0 refl)
listed_actions_go k r b a (inr (inr h)) = absurd h

pub listed_actions_row : (p : Parse) → Begins LISTED_ACTIONS p → ListedActionsRow p
listed_actions_row End h = absurd h
listed_actions_row (Word t a) h = absurd h
listed_actions_row (Node k r b a) h = listed_actions_go k r b a (rw listed_actions_rights at (rows_of_form LISTED_ACTIONS k r b h))

-- ENTRIES

entries_rights : rights ENTRIES grammar_rows ≡ [] ∷ (KEY_SET ∷ SIGN_COLON ∷ EXPRESSION ∷ ANNOTATIONS ∷ SIGN_SEMICOLON ∷ ENTRIES ∷ []) ∷ []
unfolding grammar_rows top_rows types_rows expressions_rows operations_rows keys_rows statements_rows parser_rows control_rows tables_rows
entries_rights = refl

entries_value_1 : (b a : Parse) → Children [] b → entries b ≡ Some []
unfolding entries
entries_value_1 End a h = refl
entries_value_1 _ a h = absurd (assumption)

entries_value_2 : (b a : Parse) → Children (KEY_SET ∷ SIGN_COLON ∷ EXPRESSION ∷ ANNOTATIONS ∷ SIGN_SEMICOLON ∷ ENTRIES ∷ []) b → entries b ≡ both (λ one more. one ∷ more) (all_four entry_at (key_set (below (joined b a))) (expression (below (after (after (joined b a))))) (annotations (below (after (after (after (joined b a)))))) (place_of (below (joined b a)))) (entries (below (after (after (after (after (after (joined b a))))))))
unfolding entries
entries_value_2 (Node k0 r0 u0 (Word t1 (Node k2 r2 u2 (Node k3 r3 u3 (Word t4 (Node k5 r5 u5 End)))))) a h = refl
entries_value_2 _ a h = absurd (assumption)

abbrev pub EntriesRow : Parse → Type 0
EntriesRow p =
    ((first_symbol p ≡ None) × Stands [] (opened p) (after p) × (entries (below p) ≡ Some []))
    ⊎ ((first_symbol p ≡ Some KEY_SET) × Stands (KEY_SET ∷ SIGN_COLON ∷ EXPRESSION ∷ ANNOTATIONS ∷ SIGN_SEMICOLON ∷ ENTRIES ∷ []) (opened p) (after p) × (entries (below p) ≡ both (λ one more. one ∷ more) (all_four entry_at (key_set (below (opened p))) (expression (below (after (after (opened p))))) (annotations (below (after (after (after (opened p)))))) (place_of (below (opened p)))) (entries (below (after (after (after (after (after (opened p))))))))) × IsPlaced (opened p))

entries_go : (k : ℕ) (r : Row) (b a : Parse) → OneOf ([] ∷ (KEY_SET ∷ SIGN_COLON ∷ EXPRESSION ∷ ANNOTATIONS ∷ SIGN_SEMICOLON ∷ ENTRIES ∷ []) ∷ []) r b → EntriesRow (Node k r b a)
entries_go k r b a (inl h) = inl (ap first_of h.0, stands [] b a h.1, entries_value_1 b a h.1)
entries_go k r b a (inr (inl h)) = inr (ap first_of h.0, stands (KEY_SET ∷ SIGN_COLON ∷ EXPRESSION ∷ ANNOTATIONS ∷ SIGN_SEMICOLON ∷ ENTRIES ∷ []) b a h.1, entries_value_2 b a h.1, is_placed KEY_SET (joined b a) (stands (KEY_SET ∷ SIGN_COLON ∷ EXPRESSION ∷ ANNOTATIONS ∷ SIGN_SEMICOLON ∷ ENTRIES ∷ []) b a h.1).0 refl)
entries_go k r b a (inr (inr h)) = absurd h

pub entries_row : (p : Parse) → Begins ENTRIES p → EntriesRow p
entries_row End h = absurd h
entries_row (Word t a) h = absurd h
entries_row (Node k r b a) h = entries_go k r b a (rw entries_rights at (rows_of_form ENTRIES k r b h))

-- CONSTANCY

constancy_rights : rights CONSTANCY grammar_rows ≡ [] ∷ (KEYWORD_CONST ∷ []) ∷ []
unfolding grammar_rows top_rows types_rows expressions_rows operations_rows keys_rows statements_rows parser_rows control_rows tables_rows
constancy_rights = refl

constancy_value_1 : (b a : Parse) → Children [] b → constancy b ≡ Some false
unfolding constancy
constancy_value_1 End a h = refl
constancy_value_1 _ a h = absurd (assumption)

constancy_value_2 : (b a : Parse) → Children (KEYWORD_CONST ∷ []) b → constancy b ≡ Some true
unfolding constancy
constancy_value_2 (Word t0 End) a h = refl
constancy_value_2 _ a h = absurd (assumption)

abbrev pub ConstancyRow : Parse → Type 0
ConstancyRow p =
    ((first_symbol p ≡ None) × Stands [] (opened p) (after p) × (constancy (below p) ≡ Some false))
    ⊎ ((first_symbol p ≡ Some KEYWORD_CONST) × Stands (KEYWORD_CONST ∷ []) (opened p) (after p) × (constancy (below p) ≡ Some true))

constancy_go : (k : ℕ) (r : Row) (b a : Parse) → OneOf ([] ∷ (KEYWORD_CONST ∷ []) ∷ []) r b → ConstancyRow (Node k r b a)
constancy_go k r b a (inl h) = inl (ap first_of h.0, stands [] b a h.1, constancy_value_1 b a h.1)
constancy_go k r b a (inr (inl h)) = inr (ap first_of h.0, stands (KEYWORD_CONST ∷ []) b a h.1, constancy_value_2 b a h.1)
constancy_go k r b a (inr (inr h)) = absurd h

pub constancy_row : (p : Parse) → Begins CONSTANCY p → ConstancyRow p
constancy_row End h = absurd h
constancy_row (Word t a) h = absurd h
constancy_row (Node k r b a) h = constancy_go k r b a (rw constancy_rights at (rows_of_form CONSTANCY k r b h))

-- PROPERTY_VALUE

property_value_rights : rights PROPERTY_VALUE grammar_rows ≡ (ID ∷ SIGN_ASSIGN ∷ EXPRESSION ∷ SIGN_SEMICOLON ∷ []) ∷ (KEYWORD_ENTRIES ∷ SIGN_ASSIGN ∷ SIGN_LEFT_BRACE ∷ ENTRIES ∷ SIGN_RIGHT_BRACE ∷ []) ∷ []
unfolding grammar_rows top_rows types_rows expressions_rows operations_rows keys_rows statements_rows parser_rows control_rows tables_rows
property_value_rights = refl

property_value_value_1 : (fixed : Bool) (b a : Parse) → Children (ID ∷ SIGN_ASSIGN ∷ EXPRESSION ∷ SIGN_SEMICOLON ∷ []) b → property_value fixed b ≡ with_token (λ t0. both (λ n e. property.Named fixed n e) (name_at t0) (expression (below (after (after (joined b a)))))) (token_at (joined b a))
unfolding property_value
property_value_value_1 fixed (Word t0 (Word t1 (Node k2 r2 u2 (Word t3 End)))) a h = refl
property_value_value_1 fixed _ a h = absurd (assumption)

property_value_value_2 : (fixed : Bool) (b a : Parse) → Children (KEYWORD_ENTRIES ∷ SIGN_ASSIGN ∷ SIGN_LEFT_BRACE ∷ ENTRIES ∷ SIGN_RIGHT_BRACE ∷ []) b → property_value fixed b ≡ option_map (λ es. property.Entries fixed es) (entries (below (after (after (after (joined b a))))))
unfolding property_value
property_value_value_2 fixed (Word t0 (Word t1 (Word t2 (Node k3 r3 u3 (Word t4 End))))) a h = refl
property_value_value_2 fixed _ a h = absurd (assumption)

abbrev pub PropertyValueRow : Parse → Type 0
PropertyValueRow p =
    ((first_symbol p ≡ Some ID) × Stands (ID ∷ SIGN_ASSIGN ∷ EXPRESSION ∷ SIGN_SEMICOLON ∷ []) (opened p) (after p) × ((fixed : Bool) → property_value fixed (below p) ≡ with_token (λ t0. both (λ n e. property.Named fixed n e) (name_at t0) (expression (below (after (after (opened p)))))) (token_at (opened p))))
    ⊎ ((first_symbol p ≡ Some KEYWORD_ENTRIES) × Stands (KEYWORD_ENTRIES ∷ SIGN_ASSIGN ∷ SIGN_LEFT_BRACE ∷ ENTRIES ∷ SIGN_RIGHT_BRACE ∷ []) (opened p) (after p) × ((fixed : Bool) → property_value fixed (below p) ≡ option_map (λ es. property.Entries fixed es) (entries (below (after (after (after (opened p))))))))

property_value_go : (k : ℕ) (r : Row) (b a : Parse) → OneOf ((ID ∷ SIGN_ASSIGN ∷ EXPRESSION ∷ SIGN_SEMICOLON ∷ []) ∷ (KEYWORD_ENTRIES ∷ SIGN_ASSIGN ∷ SIGN_LEFT_BRACE ∷ ENTRIES ∷ SIGN_RIGHT_BRACE ∷ []) ∷ []) r b → PropertyValueRow (Node k r b a)
property_value_go k r b a (inl h) = inl (ap first_of h.0, stands (ID ∷ SIGN_ASSIGN ∷ EXPRESSION ∷ SIGN_SEMICOLON ∷ []) b a h.1, λ fixed. property_value_value_1 fixed b a h.1)
property_value_go k r b a (inr (inl h)) = inr (ap first_of h.0, stands (KEYWORD_ENTRIES ∷ SIGN_ASSIGN ∷ SIGN_LEFT_BRACE ∷ ENTRIES ∷ SIGN_RIGHT_BRACE ∷ []) b a h.1, λ fixed. property_value_value_2 fixed b a h.1)
property_value_go k r b a (inr (inr h)) = absurd h

pub property_value_row : (p : Parse) → Begins PROPERTY_VALUE p → PropertyValueRow p
property_value_row End h = absurd h
property_value_row (Word t a) h = absurd h
property_value_row (Node k r b a) h = property_value_go k r b a (rw property_value_rights at (rows_of_form PROPERTY_VALUE k r b h))

-- PROPERTY

property_rights : rights PROPERTY grammar_rows ≡ (KEYWORD_KEY ∷ SIGN_ASSIGN ∷ SIGN_LEFT_BRACE ∷ KEYS ∷ SIGN_RIGHT_BRACE ∷ []) ∷ (KEYWORD_ACTIONS ∷ SIGN_ASSIGN ∷ SIGN_LEFT_BRACE ∷ LISTED_ACTIONS ∷ SIGN_RIGHT_BRACE ∷ []) ∷ (CONSTANCY ∷ PROPERTY_VALUE ∷ []) ∷ []
unfolding grammar_rows top_rows types_rows expressions_rows operations_rows keys_rows statements_rows parser_rows control_rows tables_rows
property_rights = refl

listed_key : (w : WordKind) (u : Parse) → terminal_of w ≡ KEYWORD_KEY → listed w u ≡ option_map (λ ks. property.Key ks) (keys u)
unfolding listed
listed_key (word.Keyword keyword.Key) u h = refl
listed_key (word.Sign s) u h = absurd (no_sign s KEYWORD_KEY h refl)
listed_key _ u h = absurd (false≢true (ap (λ (x : ℕ). eqb x KEYWORD_KEY) h))

property_value_1 : (b a : Parse) → Children (KEYWORD_KEY ∷ SIGN_ASSIGN ∷ SIGN_LEFT_BRACE ∷ KEYS ∷ SIGN_RIGHT_BRACE ∷ []) b → property_of b ≡ option_map (λ ks. property.Key ks) (keys (below (after (after (after (joined b a))))))
unfolding property_of
property_value_1 (Word t0 (Word t1 (Word t2 (Node k3 r3 u3 (Word t4 End))))) a h = listed_key t0.word u3 h.0
property_value_1 _ a h = absurd (assumption)

listed_of_actions : (w : WordKind) (u : Parse) → terminal_of w ≡ KEYWORD_ACTIONS → listed w u ≡ option_map (λ names. property.Actions names) (listed_actions u)
unfolding listed
listed_of_actions (word.Keyword keyword.Actions) u h = refl
listed_of_actions (word.Sign s) u h = absurd (no_sign s KEYWORD_ACTIONS h refl)
listed_of_actions _ u h = absurd (false≢true (ap (λ (x : ℕ). eqb x KEYWORD_ACTIONS) h))

property_value_2 : (b a : Parse) → Children (KEYWORD_ACTIONS ∷ SIGN_ASSIGN ∷ SIGN_LEFT_BRACE ∷ LISTED_ACTIONS ∷ SIGN_RIGHT_BRACE ∷ []) b → property_of b ≡ option_map (λ names. property.Actions names) (listed_actions (below (after (after (after (joined b a))))))
unfolding property_of
property_value_2 (Word t0 (Word t1 (Word t2 (Node k3 r3 u3 (Word t4 End))))) a h = listed_of_actions t0.word u3 h.0
property_value_2 _ a h = absurd (assumption)

property_value_3 : (b a : Parse) → Children (CONSTANCY ∷ PROPERTY_VALUE ∷ []) b → property_of b ≡ valued (constancy (below (joined b a))) (below (after (joined b a)))
unfolding property_of
property_value_3 (Node k0 r0 u0 (Node k1 r1 u1 End)) a h = refl
property_value_3 _ a h = absurd (assumption)

abbrev pub PropertyRow : Parse → Type 0
PropertyRow p =
    ((first_symbol p ≡ Some KEYWORD_KEY) × Stands (KEYWORD_KEY ∷ SIGN_ASSIGN ∷ SIGN_LEFT_BRACE ∷ KEYS ∷ SIGN_RIGHT_BRACE ∷ []) (opened p) (after p) × (property_of (below p) ≡ option_map (λ ks. property.Key ks) (keys (below (after (after (after (opened p))))))))
    ⊎ ((first_symbol p ≡ Some KEYWORD_ACTIONS) × Stands (KEYWORD_ACTIONS ∷ SIGN_ASSIGN ∷ SIGN_LEFT_BRACE ∷ LISTED_ACTIONS ∷ SIGN_RIGHT_BRACE ∷ []) (opened p) (after p) × (property_of (below p) ≡ option_map (λ names. property.Actions names) (listed_actions (below (after (after (after (opened p))))))))
    ⊎ ((first_symbol p ≡ Some CONSTANCY) × Stands (CONSTANCY ∷ PROPERTY_VALUE ∷ []) (opened p) (after p) × (property_of (below p) ≡ valued (constancy (below (opened p))) (below (after (opened p)))))

property_go : (k : ℕ) (r : Row) (b a : Parse) → OneOf ((KEYWORD_KEY ∷ SIGN_ASSIGN ∷ SIGN_LEFT_BRACE ∷ KEYS ∷ SIGN_RIGHT_BRACE ∷ []) ∷ (KEYWORD_ACTIONS ∷ SIGN_ASSIGN ∷ SIGN_LEFT_BRACE ∷ LISTED_ACTIONS ∷ SIGN_RIGHT_BRACE ∷ []) ∷ (CONSTANCY ∷ PROPERTY_VALUE ∷ []) ∷ []) r b → PropertyRow (Node k r b a)
property_go k r b a (inl h) = inl (ap first_of h.0, stands (KEYWORD_KEY ∷ SIGN_ASSIGN ∷ SIGN_LEFT_BRACE ∷ KEYS ∷ SIGN_RIGHT_BRACE ∷ []) b a h.1, property_value_1 b a h.1)
property_go k r b a (inr (inl h)) = inr (inl (ap first_of h.0, stands (KEYWORD_ACTIONS ∷ SIGN_ASSIGN ∷ SIGN_LEFT_BRACE ∷ LISTED_ACTIONS ∷ SIGN_RIGHT_BRACE ∷ []) b a h.1, property_value_2 b a h.1))
property_go k r b a (inr (inr (inl h))) = inr (inr (ap first_of h.0, stands (CONSTANCY ∷ PROPERTY_VALUE ∷ []) b a h.1, property_value_3 b a h.1))
property_go k r b a (inr (inr (inr h))) = absurd h

pub property_row : (p : Parse) → Begins PROPERTY p → PropertyRow p
property_row End h = absurd h
property_row (Word t a) h = absurd h
property_row (Node k r b a) h = property_go k r b a (rw property_rights at (rows_of_form PROPERTY k r b h))

-- TABLE_PROPERTIES

table_properties_rights : rights TABLE_PROPERTIES grammar_rows ≡ [] ∷ (ANNOTATIONS ∷ PROPERTY ∷ TABLE_PROPERTIES ∷ []) ∷ []
unfolding grammar_rows top_rows types_rows expressions_rows operations_rows keys_rows statements_rows parser_rows control_rows tables_rows
table_properties_rights = refl

table_properties_value_1 : (b a : Parse) → Children [] b → properties b ≡ Some []
unfolding properties
table_properties_value_1 End a h = refl
table_properties_value_1 _ a h = absurd (assumption)

table_properties_value_2 : (b a : Parse) → Children (ANNOTATIONS ∷ PROPERTY ∷ TABLE_PROPERTIES ∷ []) b → properties b ≡ both (λ one more. one ∷ more) (all_three (λ ns kind span. record { annotations = ns; kind = kind; span = span }) (annotations (below (joined b a))) (property_of (below (after (joined b a)))) (place_of (below (after (joined b a))))) (properties (below (after (after (joined b a)))))
unfolding properties
table_properties_value_2 (Node k0 r0 u0 (Node k1 r1 u1 (Node k2 r2 u2 End))) a h = refl
table_properties_value_2 _ a h = absurd (assumption)

abbrev pub TablePropertiesRow : Parse → Type 0
TablePropertiesRow p =
    ((first_symbol p ≡ None) × Stands [] (opened p) (after p) × (properties (below p) ≡ Some []))
    ⊎ ((first_symbol p ≡ Some ANNOTATIONS) × Stands (ANNOTATIONS ∷ PROPERTY ∷ TABLE_PROPERTIES ∷ []) (opened p) (after p) × (properties (below p) ≡ both (λ one more. one ∷ more) (all_three (λ ns kind span. record { annotations = ns; kind = kind; span = span }) (annotations (below (opened p))) (property_of (below (after (opened p)))) (place_of (below (after (opened p))))) (properties (below (after (after (opened p)))))) × IsPlaced (after (opened p)))

table_properties_go : (k : ℕ) (r : Row) (b a : Parse) → OneOf ([] ∷ (ANNOTATIONS ∷ PROPERTY ∷ TABLE_PROPERTIES ∷ []) ∷ []) r b → TablePropertiesRow (Node k r b a)
table_properties_go k r b a (inl h) = inl (ap first_of h.0, stands [] b a h.1, table_properties_value_1 b a h.1)
table_properties_go k r b a (inr (inl h)) = inr (ap first_of h.0, stands (ANNOTATIONS ∷ PROPERTY ∷ TABLE_PROPERTIES ∷ []) b a h.1, table_properties_value_2 b a h.1, is_placed PROPERTY (after (joined b a)) (stands (ANNOTATIONS ∷ PROPERTY ∷ TABLE_PROPERTIES ∷ []) b a h.1).1.0 refl)
table_properties_go k r b a (inr (inr h)) = absurd h

pub table_properties_row : (p : Parse) → Begins TABLE_PROPERTIES p → TablePropertiesRow p
table_properties_row End h = absurd h
table_properties_row (Word t a) h = absurd h
table_properties_row (Node k r b a) h = table_properties_go k r b a (rw table_properties_rights at (rows_of_form TABLE_PROPERTIES k r b h))

-- TABLE

table_rights : rights TABLE grammar_rows ≡ (KEYWORD_TABLE ∷ NAME ∷ SIGN_LEFT_BRACE ∷ TABLE_PROPERTIES ∷ SIGN_RIGHT_BRACE ∷ []) ∷ []
unfolding grammar_rows top_rows types_rows expressions_rows operations_rows keys_rows statements_rows parser_rows control_rows tables_rows
table_rights = refl

table_value_1 : (b a : Parse) → Children (KEYWORD_TABLE ∷ NAME ∷ SIGN_LEFT_BRACE ∷ TABLE_PROPERTIES ∷ SIGN_RIGHT_BRACE ∷ []) b → table b ≡ with_token (λ t0. both (λ n ps. record { name = n; properties = ps; span = t0.span }) (name_of (below (after (joined b a)))) (properties (below (after (after (after (joined b a))))))) (token_at (joined b a))
unfolding table
table_value_1 (Word t0 (Node k1 r1 u1 (Word t2 (Node k3 r3 u3 (Word t4 End))))) a h = refl
table_value_1 _ a h = absurd (assumption)

abbrev pub TableRow : Parse → Type 0
TableRow p =
    (first_symbol p ≡ Some KEYWORD_TABLE) × Stands (KEYWORD_TABLE ∷ NAME ∷ SIGN_LEFT_BRACE ∷ TABLE_PROPERTIES ∷ SIGN_RIGHT_BRACE ∷ []) (opened p) (after p) × (table (below p) ≡ with_token (λ t0. both (λ n ps. record { name = n; properties = ps; span = t0.span }) (name_of (below (after (opened p)))) (properties (below (after (after (after (opened p))))))) (token_at (opened p)))

table_go : (k : ℕ) (r : Row) (b a : Parse) → OneOf ((KEYWORD_TABLE ∷ NAME ∷ SIGN_LEFT_BRACE ∷ TABLE_PROPERTIES ∷ SIGN_RIGHT_BRACE ∷ []) ∷ []) r b → TableRow (Node k r b a)
table_go k r b a (inl h) = (ap first_of h.0, stands (KEYWORD_TABLE ∷ NAME ∷ SIGN_LEFT_BRACE ∷ TABLE_PROPERTIES ∷ SIGN_RIGHT_BRACE ∷ []) b a h.1, table_value_1 b a h.1)
table_go k r b a (inr h) = absurd h

pub table_row : (p : Parse) → Begins TABLE p → TableRow p
table_row End h = absurd h
table_row (Word t a) h = absurd h
table_row (Node k r b a) h = table_go k r b a (rw table_rights at (rows_of_form TABLE k r b h))
