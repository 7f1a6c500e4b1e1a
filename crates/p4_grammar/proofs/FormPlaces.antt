-- Forms that have a place.
use Rattle.std.proofs.Common.{◌≡◌, ℕ, [], ◌∷◌, refl, inl, inr}
use Rattle.std.specs.Prelude.{IsSome}
use Rattle.ll1_engine.specs.declared.grammar.Row.{Row}
use Rattle.p4_grammar.specs.declared.symbols.TheConstants.{BASE_TYPE, ID, KEYWORD_ACTIONS, KEYWORD_APPLY, KEYWORD_BIT, KEYWORD_BOOL, KEYWORD_ENTRIES, KEYWORD_ERROR, KEYWORD_INT, KEYWORD_KEY, KEYWORD_STATE, NAME, STACK_SIZE, TYPE_ARGUMENTS, TYPE_FORM, TYPE_NAME, WIDTH_ARGUMENTS, WORD}
use Rattle.p4_grammar.specs.Rows.{top_rows, types_rows, expressions_rows, operations_rows, keys_rows, statements_rows, parser_rows, control_rows, tables_rows, grammar_rows}
use Rattle.p4_grammar.specs.Parses.{Parse, End, Word, Node, place_of}
use Rattle.p4_grammar.specs.Ahead.{Begins, below}
use Rattle.p4_grammar.proofs.RowsOfForms.{rights, Children, OneOf, rows_of_form}
use Rattle.p4_grammar.proofs.Places.{HasPlace, HasPlaces, node_place, places, seen}

-- WORD has a place

word_rights : rights WORD grammar_rows ≡ (ID ∷ []) ∷ (KEYWORD_KEY ∷ []) ∷ (KEYWORD_ACTIONS ∷ []) ∷ (KEYWORD_ENTRIES ∷ []) ∷ (KEYWORD_STATE ∷ []) ∷ []
unfolding grammar_rows top_rows types_rows expressions_rows operations_rows keys_rows statements_rows parser_rows control_rows tables_rows
word_rights = refl

word_place_1 : (b : Parse) → Children (ID ∷ []) b → HasPlace b
word_place_1 (Word t b) h = record { span = t.span; is = refl }
word_place_1 (Node k r u b) h = absurd h.0
word_place_1 End h = absurd h

word_place_2 : (b : Parse) → Children (KEYWORD_KEY ∷ []) b → HasPlace b
word_place_2 (Word t b) h = record { span = t.span; is = refl }
word_place_2 (Node k r u b) h = absurd h.0
word_place_2 End h = absurd h

word_place_3 : (b : Parse) → Children (KEYWORD_ACTIONS ∷ []) b → HasPlace b
word_place_3 (Word t b) h = record { span = t.span; is = refl }
word_place_3 (Node k r u b) h = absurd h.0
word_place_3 End h = absurd h

word_place_4 : (b : Parse) → Children (KEYWORD_ENTRIES ∷ []) b → HasPlace b
word_place_4 (Word t b) h = record { span = t.span; is = refl }
word_place_4 (Node k r u b) h = absurd h.0
word_place_4 End h = absurd h

word_place_5 : (b : Parse) → Children (KEYWORD_STATE ∷ []) b → HasPlace b
word_place_5 (Word t b) h = record { span = t.span; is = refl }
word_place_5 (Node k r u b) h = absurd h.0
word_place_5 End h = absurd h

word_place_go : (r : Row) (b : Parse) → OneOf ((ID ∷ []) ∷ (KEYWORD_KEY ∷ []) ∷ (KEYWORD_ACTIONS ∷ []) ∷ (KEYWORD_ENTRIES ∷ []) ∷ (KEYWORD_STATE ∷ []) ∷ []) r b → HasPlace b
word_place_go r b (inl h) = word_place_1 b h.1
word_place_go r b (inr (inl h)) = word_place_2 b h.1
word_place_go r b (inr (inr (inl h))) = word_place_3 b h.1
word_place_go r b (inr (inr (inr (inl h)))) = word_place_4 b h.1
word_place_go r b (inr (inr (inr (inr (inl h))))) = word_place_5 b h.1
word_place_go r b (inr (inr (inr (inr (inr h))))) = absurd h

pub word_place : (p : Parse) → Begins WORD p → HasPlaces p
word_place End h = absurd h
word_place (Word t a) h = absurd h
word_place (Node k r b a) h = places k r b a (word_place_go r b (rw word_rights at (rows_of_form WORD k r b h)))

pub word_seen : (p : Parse) → Begins WORD p → IsSome (place_of p) × (place_of (below p) ≡ place_of p)
word_seen p h = seen p (word_place p h)

-- NAME has a place

name_rights : rights NAME grammar_rows ≡ (WORD ∷ []) ∷ (TYPE_NAME ∷ []) ∷ (KEYWORD_APPLY ∷ []) ∷ []
unfolding grammar_rows top_rows types_rows expressions_rows operations_rows keys_rows statements_rows parser_rows control_rows tables_rows
name_rights = refl

name_place_1 : (b : Parse) → Children (WORD ∷ []) b → HasPlace b
name_place_1 (Node k r u b) h = node_place (Node k r u b) (word_place (Node k r u b) h.0)
name_place_1 (Word t b) h = absurd h.0
name_place_1 End h = absurd h

name_place_2 : (b : Parse) → Children (TYPE_NAME ∷ []) b → HasPlace b
name_place_2 (Word t b) h = record { span = t.span; is = refl }
name_place_2 (Node k r u b) h = absurd h.0
name_place_2 End h = absurd h

name_place_3 : (b : Parse) → Children (KEYWORD_APPLY ∷ []) b → HasPlace b
name_place_3 (Word t b) h = record { span = t.span; is = refl }
name_place_3 (Node k r u b) h = absurd h.0
name_place_3 End h = absurd h

name_place_go : (r : Row) (b : Parse) → OneOf ((WORD ∷ []) ∷ (TYPE_NAME ∷ []) ∷ (KEYWORD_APPLY ∷ []) ∷ []) r b → HasPlace b
name_place_go r b (inl h) = name_place_1 b h.1
name_place_go r b (inr (inl h)) = name_place_2 b h.1
name_place_go r b (inr (inr (inl h))) = name_place_3 b h.1
name_place_go r b (inr (inr (inr h))) = absurd h

pub name_place : (p : Parse) → Begins NAME p → HasPlaces p
name_place End h = absurd h
name_place (Word t a) h = absurd h
name_place (Node k r b a) h = places k r b a (name_place_go r b (rw name_rights at (rows_of_form NAME k r b h)))

pub name_seen : (p : Parse) → Begins NAME p → IsSome (place_of p) × (place_of (below p) ≡ place_of p)
name_seen p h = seen p (name_place p h)

-- BASE_TYPE has a place

base_type_rights : rights BASE_TYPE grammar_rows ≡ (KEYWORD_BIT ∷ WIDTH_ARGUMENTS ∷ []) ∷ (KEYWORD_INT ∷ WIDTH_ARGUMENTS ∷ []) ∷ (KEYWORD_BOOL ∷ []) ∷ (KEYWORD_ERROR ∷ []) ∷ (TYPE_NAME ∷ TYPE_ARGUMENTS ∷ []) ∷ []
unfolding grammar_rows top_rows types_rows expressions_rows operations_rows keys_rows statements_rows parser_rows control_rows tables_rows
base_type_rights = refl

base_type_place_1 : (b : Parse) → Children (KEYWORD_BIT ∷ WIDTH_ARGUMENTS ∷ []) b → HasPlace b
base_type_place_1 (Word t b) h = record { span = t.span; is = refl }
base_type_place_1 (Node k r u b) h = absurd h.0
base_type_place_1 End h = absurd h

base_type_place_2 : (b : Parse) → Children (KEYWORD_INT ∷ WIDTH_ARGUMENTS ∷ []) b → HasPlace b
base_type_place_2 (Word t b) h = record { span = t.span; is = refl }
base_type_place_2 (Node k r u b) h = absurd h.0
base_type_place_2 End h = absurd h

base_type_place_3 : (b : Parse) → Children (KEYWORD_BOOL ∷ []) b → HasPlace b
base_type_place_3 (Word t b) h = record { span = t.span; is = refl }
base_type_place_3 (Node k r u b) h = absurd h.0
base_type_place_3 End h = absurd h

base_type_place_4 : (b : Parse) → Children (KEYWORD_ERROR ∷ []) b → HasPlace b
base_type_place_4 (Word t b) h = record { span = t.span; is = refl }
base_type_place_4 (Node k r u b) h = absurd h.0
base_type_place_4 End h = absurd h

base_type_place_5 : (b : Parse) → Children (TYPE_NAME ∷ TYPE_ARGUMENTS ∷ []) b → HasPlace b
base_type_place_5 (Word t b) h = record { span = t.span; is = refl }
base_type_place_5 (Node k r u b) h = absurd h.0
base_type_place_5 End h = absurd h

base_type_place_go : (r : Row) (b : Parse) → OneOf ((KEYWORD_BIT ∷ WIDTH_ARGUMENTS ∷ []) ∷ (KEYWORD_INT ∷ WIDTH_ARGUMENTS ∷ []) ∷ (KEYWORD_BOOL ∷ []) ∷ (KEYWORD_ERROR ∷ []) ∷ (TYPE_NAME ∷ TYPE_ARGUMENTS ∷ []) ∷ []) r b → HasPlace b
base_type_place_go r b (inl h) = base_type_place_1 b h.1
base_type_place_go r b (inr (inl h)) = base_type_place_2 b h.1
base_type_place_go r b (inr (inr (inl h))) = base_type_place_3 b h.1
base_type_place_go r b (inr (inr (inr (inl h)))) = base_type_place_4 b h.1
base_type_place_go r b (inr (inr (inr (inr (inl h))))) = base_type_place_5 b h.1
base_type_place_go r b (inr (inr (inr (inr (inr h))))) = absurd h

pub base_type_place : (p : Parse) → Begins BASE_TYPE p → HasPlaces p
base_type_place End h = absurd h
base_type_place (Word t a) h = absurd h
base_type_place (Node k r b a) h = places k r b a (base_type_place_go r b (rw base_type_rights at (rows_of_form BASE_TYPE k r b h)))

pub base_type_seen : (p : Parse) → Begins BASE_TYPE p → IsSome (place_of p) × (place_of (below p) ≡ place_of p)
base_type_seen p h = seen p (base_type_place p h)

-- TYPE_FORM has a place

type_form_rights : rights TYPE_FORM grammar_rows ≡ (BASE_TYPE ∷ STACK_SIZE ∷ []) ∷ []
unfolding grammar_rows top_rows types_rows expressions_rows operations_rows keys_rows statements_rows parser_rows control_rows tables_rows
type_form_rights = refl

type_form_place_1 : (b : Parse) → Children (BASE_TYPE ∷ STACK_SIZE ∷ []) b → HasPlace b
type_form_place_1 (Node k r u b) h = node_place (Node k r u b) (base_type_place (Node k r u b) h.0)
type_form_place_1 (Word t b) h = absurd h.0
type_form_place_1 End h = absurd h

type_form_place_go : (r : Row) (b : Parse) → OneOf ((BASE_TYPE ∷ STACK_SIZE ∷ []) ∷ []) r b → HasPlace b
type_form_place_go r b (inl h) = type_form_place_1 b h.1
type_form_place_go r b (inr h) = absurd h

pub type_form_place : (p : Parse) → Begins TYPE_FORM p → HasPlaces p
type_form_place End h = absurd h
type_form_place (Word t a) h = absurd h
type_form_place (Node k r b a) h = places k r b a (type_form_place_go r b (rw type_form_rights at (rows_of_form TYPE_FORM k r b h)))

pub type_form_seen : (p : Parse) → Begins TYPE_FORM p → IsSome (place_of p) × (place_of (below p) ≡ place_of p)
type_form_seen p h = seen p (type_form_place p h)
