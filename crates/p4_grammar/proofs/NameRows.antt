-- The rows of names and annotations.
use Rattle.std.proofs.Common.{◌≡◌, ℕ, [], ◌∷◌, None, Some, refl, ap, inl, inr, ◌⊎◌}
use Rattle.ll1_engine.specs.declared.grammar.Row.{Row}
use Rattle.p4_grammar.specs.declared.symbols.TheConstants.{ANNOTATIONS, DEFAULT_ONLY, ID, KEYWORD_ACTIONS, KEYWORD_APPLY, KEYWORD_ENTRIES, KEYWORD_KEY, KEYWORD_STATE, NAME, NAMED, TABLE_ONLY, TYPE_NAME, WORD}
use Rattle.p4_grammar.specs.Rows.{top_rows, types_rows, expressions_rows, operations_rows, keys_rows, statements_rows, parser_rows, control_rows, tables_rows, grammar_rows}
use Rattle.p4_grammar.specs.Parses.{Parse, End, Word, Node, both}
use Rattle.p4_grammar.specs.Ahead.{Begins, below, after, joined, opened, token_at, first_of, first_symbol}
use Rattle.p4_grammar.specs.Names.{name_at, word_name, name_of, annotation_at, annotations}
use Rattle.p4_grammar.proofs.RowsOfForms.{rights, Children, OneOf, Stands, rows_of_form, stands, with_token}

-- WORD

word_rights : rights WORD grammar_rows ≡ (ID ∷ []) ∷ (KEYWORD_KEY ∷ []) ∷ (KEYWORD_ACTIONS ∷ []) ∷ (KEYWORD_ENTRIES ∷ []) ∷ (KEYWORD_STATE ∷ []) ∷ []
unfolding grammar_rows top_rows types_rows expressions_rows operations_rows keys_rows statements_rows parser_rows control_rows tables_rows
word_rights = refl

word_value_1 : (b a : Parse) → Children (ID ∷ []) b → word_name b ≡ with_token (λ t. name_at t) (token_at (joined b a))
word_value_1 (Word t0 End) a h = refl
word_value_1 _ a h = absurd (assumption)

word_value_2 : (b a : Parse) → Children (KEYWORD_KEY ∷ []) b → word_name b ≡ with_token (λ t. name_at t) (token_at (joined b a))
word_value_2 (Word t0 End) a h = refl
word_value_2 _ a h = absurd (assumption)

word_value_3 : (b a : Parse) → Children (KEYWORD_ACTIONS ∷ []) b → word_name b ≡ with_token (λ t. name_at t) (token_at (joined b a))
word_value_3 (Word t0 End) a h = refl
word_value_3 _ a h = absurd (assumption)

word_value_4 : (b a : Parse) → Children (KEYWORD_ENTRIES ∷ []) b → word_name b ≡ with_token (λ t. name_at t) (token_at (joined b a))
word_value_4 (Word t0 End) a h = refl
word_value_4 _ a h = absurd (assumption)

word_value_5 : (b a : Parse) → Children (KEYWORD_STATE ∷ []) b → word_name b ≡ with_token (λ t. name_at t) (token_at (joined b a))
word_value_5 (Word t0 End) a h = refl
word_value_5 _ a h = absurd (assumption)

abbrev pub WordRow : Parse → Type 0
WordRow p =
    ((first_symbol p ≡ Some ID) × Stands (ID ∷ []) (opened p) (after p) × (word_name (below p) ≡ with_token (λ t. name_at t) (token_at (opened p))))
    ⊎ ((first_symbol p ≡ Some KEYWORD_KEY) × Stands (KEYWORD_KEY ∷ []) (opened p) (after p) × (word_name (below p) ≡ with_token (λ t. name_at t) (token_at (opened p))))
    ⊎ ((first_symbol p ≡ Some KEYWORD_ACTIONS) × Stands (KEYWORD_ACTIONS ∷ []) (opened p) (after p) × (word_name (below p) ≡ with_token (λ t. name_at t) (token_at (opened p))))
    ⊎ ((first_symbol p ≡ Some KEYWORD_ENTRIES) × Stands (KEYWORD_ENTRIES ∷ []) (opened p) (after p) × (word_name (below p) ≡ with_token (λ t. name_at t) (token_at (opened p))))
    ⊎ ((first_symbol p ≡ Some KEYWORD_STATE) × Stands (KEYWORD_STATE ∷ []) (opened p) (after p) × (word_name (below p) ≡ with_token (λ t. name_at t) (token_at (opened p))))

word_go : (k : ℕ) (r : Row) (b a : Parse) → OneOf ((ID ∷ []) ∷ (KEYWORD_KEY ∷ []) ∷ (KEYWORD_ACTIONS ∷ []) ∷ (KEYWORD_ENTRIES ∷ []) ∷ (KEYWORD_STATE ∷ []) ∷ []) r b → WordRow (Node k r b a)
word_go k r b a (inl h) = inl (ap first_of h.0, stands (ID ∷ []) b a h.1, word_value_1 b a h.1)
word_go k r b a (inr (inl h)) = inr (inl (ap first_of h.0, stands (KEYWORD_KEY ∷ []) b a h.1, word_value_2 b a h.1))
word_go k r b a (inr (inr (inl h))) = inr (inr (inl (ap first_of h.0, stands (KEYWORD_ACTIONS ∷ []) b a h.1, word_value_3 b a h.1)))
word_go k r b a (inr (inr (inr (inl h)))) = inr (inr (inr (inl (ap first_of h.0, stands (KEYWORD_ENTRIES ∷ []) b a h.1, word_value_4 b a h.1))))
word_go k r b a (inr (inr (inr (inr (inl h))))) = inr (inr (inr (inr (ap first_of h.0, stands (KEYWORD_STATE ∷ []) b a h.1, word_value_5 b a h.1))))
word_go k r b a (inr (inr (inr (inr (inr h))))) = absurd h

pub word_row : (p : Parse) → Begins WORD p → WordRow p
word_row End h = absurd h
word_row (Word t a) h = absurd h
word_row (Node k r b a) h = word_go k r b a (rw word_rights at (rows_of_form WORD k r b h))

-- NAME

name_rights : rights NAME grammar_rows ≡ (WORD ∷ []) ∷ (TYPE_NAME ∷ []) ∷ (KEYWORD_APPLY ∷ []) ∷ []
unfolding grammar_rows top_rows types_rows expressions_rows operations_rows keys_rows statements_rows parser_rows control_rows tables_rows
name_rights = refl

name_value_1 : (b a : Parse) → Children (WORD ∷ []) b → name_of b ≡ word_name (below (joined b a))
name_value_1 (Node k0 r0 u0 End) a h = refl
name_value_1 _ a h = absurd (assumption)

name_value_2 : (b a : Parse) → Children (TYPE_NAME ∷ []) b → name_of b ≡ with_token (λ t. name_at t) (token_at (joined b a))
name_value_2 (Word t0 End) a h = refl
name_value_2 _ a h = absurd (assumption)

name_value_3 : (b a : Parse) → Children (KEYWORD_APPLY ∷ []) b → name_of b ≡ with_token (λ t. name_at t) (token_at (joined b a))
name_value_3 (Word t0 End) a h = refl
name_value_3 _ a h = absurd (assumption)

abbrev pub NameRow : Parse → Type 0
NameRow p =
    ((first_symbol p ≡ Some WORD) × Stands (WORD ∷ []) (opened p) (after p) × (name_of (below p) ≡ word_name (below (opened p))))
    ⊎ ((first_symbol p ≡ Some TYPE_NAME) × Stands (TYPE_NAME ∷ []) (opened p) (after p) × (name_of (below p) ≡ with_token (λ t. name_at t) (token_at (opened p))))
    ⊎ ((first_symbol p ≡ Some KEYWORD_APPLY) × Stands (KEYWORD_APPLY ∷ []) (opened p) (after p) × (name_of (below p) ≡ with_token (λ t. name_at t) (token_at (opened p))))

name_go : (k : ℕ) (r : Row) (b a : Parse) → OneOf ((WORD ∷ []) ∷ (TYPE_NAME ∷ []) ∷ (KEYWORD_APPLY ∷ []) ∷ []) r b → NameRow (Node k r b a)
name_go k r b a (inl h) = inl (ap first_of h.0, stands (WORD ∷ []) b a h.1, name_value_1 b a h.1)
name_go k r b a (inr (inl h)) = inr (inl (ap first_of h.0, stands (TYPE_NAME ∷ []) b a h.1, name_value_2 b a h.1))
name_go k r b a (inr (inr (inl h))) = inr (inr (ap first_of h.0, stands (KEYWORD_APPLY ∷ []) b a h.1, name_value_3 b a h.1))
name_go k r b a (inr (inr (inr h))) = absurd h

pub name_row : (p : Parse) → Begins NAME p → NameRow p
name_row End h = absurd h
name_row (Word t a) h = absurd h
name_row (Node k r b a) h = name_go k r b a (rw name_rights at (rows_of_form NAME k r b h))

-- ANNOTATIONS

annotations_rights : rights ANNOTATIONS grammar_rows ≡ [] ∷ (NAMED ∷ ANNOTATIONS ∷ []) ∷ (DEFAULT_ONLY ∷ ANNOTATIONS ∷ []) ∷ (TABLE_ONLY ∷ ANNOTATIONS ∷ []) ∷ []
unfolding grammar_rows top_rows types_rows expressions_rows operations_rows keys_rows statements_rows parser_rows control_rows tables_rows
annotations_rights = refl

annotations_value_1 : (b a : Parse) → Children [] b → annotations b ≡ Some []
annotations_value_1 End a h = refl
annotations_value_1 _ a h = absurd (assumption)

annotations_value_2 : (b a : Parse) → Children (NAMED ∷ ANNOTATIONS ∷ []) b → annotations b ≡ with_token (λ t. both (λ one more. one ∷ more) (annotation_at t) (annotations (below (after (joined b a))))) (token_at (joined b a))
annotations_value_2 (Word t0 (Node k1 r1 u1 End)) a h = refl
annotations_value_2 _ a h = absurd (assumption)

annotations_value_3 : (b a : Parse) → Children (DEFAULT_ONLY ∷ ANNOTATIONS ∷ []) b → annotations b ≡ with_token (λ t. both (λ one more. one ∷ more) (annotation_at t) (annotations (below (after (joined b a))))) (token_at (joined b a))
annotations_value_3 (Word t0 (Node k1 r1 u1 End)) a h = refl
annotations_value_3 _ a h = absurd (assumption)

annotations_value_4 : (b a : Parse) → Children (TABLE_ONLY ∷ ANNOTATIONS ∷ []) b → annotations b ≡ with_token (λ t. both (λ one more. one ∷ more) (annotation_at t) (annotations (below (after (joined b a))))) (token_at (joined b a))
annotations_value_4 (Word t0 (Node k1 r1 u1 End)) a h = refl
annotations_value_4 _ a h = absurd (assumption)

abbrev pub AnnotationsRow : Parse → Type 0
AnnotationsRow p =
    ((first_symbol p ≡ None) × Stands [] (opened p) (after p) × (annotations (below p) ≡ Some []))
    ⊎ ((first_symbol p ≡ Some NAMED) × Stands (NAMED ∷ ANNOTATIONS ∷ []) (opened p) (after p) × (annotations (below p) ≡ with_token (λ t. both (λ one more. one ∷ more) (annotation_at t) (annotations (below (after (opened p))))) (token_at (opened p))))
    ⊎ ((first_symbol p ≡ Some DEFAULT_ONLY) × Stands (DEFAULT_ONLY ∷ ANNOTATIONS ∷ []) (opened p) (after p) × (annotations (below p) ≡ with_token (λ t. both (λ one more. one ∷ more) (annotation_at t) (annotations (below (after (opened p))))) (token_at (opened p))))
    ⊎ ((first_symbol p ≡ Some TABLE_ONLY) × Stands (TABLE_ONLY ∷ ANNOTATIONS ∷ []) (opened p) (after p) × (annotations (below p) ≡ with_token (λ t. both (λ one more. one ∷ more) (annotation_at t) (annotations (below (after (opened p))))) (token_at (opened p))))

annotations_go : (k : ℕ) (r : Row) (b a : Parse) → OneOf ([] ∷ (NAMED ∷ ANNOTATIONS ∷ []) ∷ (DEFAULT_ONLY ∷ ANNOTATIONS ∷ []) ∷ (TABLE_ONLY ∷ ANNOTATIONS ∷ []) ∷ []) r b → AnnotationsRow (Node k r b a)
annotations_go k r b a (inl h) = inl (ap first_of h.0, stands [] b a h.1, annotations_value_1 b a h.1)
annotations_go k r b a (inr (inl h)) = inr (inl (ap first_of h.0, stands (NAMED ∷ ANNOTATIONS ∷ []) b a h.1, annotations_value_2 b a h.1))
annotations_go k r b a (inr (inr (inl h))) = inr (inr (inl (ap first_of h.0, stands (DEFAULT_ONLY ∷ ANNOTATIONS ∷ []) b a h.1, annotations_value_3 b a h.1)))
annotations_go k r b a (inr (inr (inr (inl h)))) = inr (inr (inr (ap first_of h.0, stands (TABLE_ONLY ∷ ANNOTATIONS ∷ []) b a h.1, annotations_value_4 b a h.1)))
annotations_go k r b a (inr (inr (inr (inr h)))) = absurd h

pub annotations_row : (p : Parse) → Begins ANNOTATIONS p → AnnotationsRow p
annotations_row End h = absurd h
annotations_row (Word t a) h = absurd h
annotations_row (Node k r b a) h = annotations_go k r b a (rw annotations_rights at (rows_of_form ANNOTATIONS k r b h))
