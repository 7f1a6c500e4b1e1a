-- The levels of operators: their rows, and what an operator that a level begins with has behind it.
use Rattle.std.proofs.Common.{◌≡◌, ℕ, ◌+◌, ◌<◌, Bool, true, false, List, [], ◌∷◌, ◌++◌, Option, None, Some, refl, sym, ap, ◌∙◌, subst, inl, inr, ◌⊎◌, arith}
use Rattle.std.specs.Prelude.{◌==◌, ◌||◌, IsTrue, IsSome, nat_lt, map}
use Rattle.tg_base.specs.declared.place.Span.{Span}
use Rattle.p4_lexer.specs.declared.token.Keyword.{Keyword}
use Rattle.p4_lexer.specs.declared.token.Keyword.TheVariants as keyword
use Rattle.p4_lexer.specs.declared.token.Sign.{Sign}
use Rattle.p4_lexer.specs.declared.token.Sign.TheVariants as sign
use Rattle.p4_lexer.specs.declared.token.Word.{Word as AnyWord}
use Rattle.p4_lexer.specs.declared.token.Word.TheVariants as word
use Rattle.p4_lexer.specs.declared.token.Token.{Token}
use Rattle.p4_tree.specs.declared.expressions.Operator.{Operator}
use Rattle.p4_tree.specs.declared.expressions.Expression.{Expression}
use Rattle.p4_tree.specs.declared.expressions.Operation.{Operation, roll-Operation}
use Rattle.ll1_engine.specs.declared.grammar.Row.{Row}
use Rattle.p4_grammar.specs.declared.levels.Level.{Level}
use Rattle.p4_grammar.specs.declared.levels.Level.TheVariants as level
use Rattle.p4_grammar.specs.declared.symbols.TheConstants.{ANDS, CHOICE, CONJUNCTIONS, DISJUNCTIONS, EQUALITIES, EQUALITY_OPERATOR, EXCLUSIONS, FORM_COUNT, OPERATIONS, ORDERS, ORDER_OPERATOR, ORS, PRODUCTS, PRODUCT_OPERATOR, SHIFTS, SHIFT_OPERATOR, SIGN_AMPERSAND, SIGN_AND, SIGN_AT_LEAST, SIGN_AT_MOST, SIGN_BAR, SIGN_CARET, SIGN_CONCAT, SIGN_EQUAL, SIGN_GREATER, SIGN_LESS, SIGN_MINUS, SIGN_NOT_EQUAL, SIGN_OR, SIGN_PERCENT, SIGN_PLUS, SIGN_SATURATING_MINUS, SIGN_SATURATING_PLUS, SIGN_SHIFT_LEFT, SIGN_SHIFT_RIGHT, SIGN_SLASH, SIGN_STAR, SUMS, SUM_OPERATOR, UNARY}
use Rattle.p4_grammar.specs.Rows.{top_rows, types_rows, expressions_rows, operations_rows, keys_rows, statements_rows, parser_rows, control_rows, tables_rows, grammar_rows}
use Rattle.p4_grammar.specs.Words.{terminal_of}
use Rattle.p4_grammar.specs.Parses.{Parse, End, Word, Node, option_map, both, all_three}
use Rattle.p4_grammar.specs.Ahead.{IsForm, Begins, IsWord, below, after, joined, opened, token_at, first_of, first_symbol, nodes}
use Rattle.p4_grammar.specs.Expressions.{operator_of, run, operations, choice, level as level_of, rest_of_level, unary_of}
use Rattle.p4_grammar.specs.Levels.{level_form, tighter, has_operator_form, operator_word, all_levels, LevelsStand, skipped, with_levels, operation_at, LevelEnds, OperatorStands}
use Rattle.p4_grammar.proofs.RowsOfForms.{rights, Children, OneOf, Stands, rows_of_form, stands}
use Rattle.p4_grammar.proofs.AheadLemmas.{nodes_joined}

-- Operators.

abbrev pub is_operator : ℕ → Bool
is_operator x =
    (x == SIGN_STAR) || (x == SIGN_SLASH) || (x == SIGN_PERCENT) || (x == SIGN_PLUS) || (x == SIGN_MINUS) || (x == SIGN_SATURATING_PLUS) || (x == SIGN_SATURATING_MINUS) || (x == SIGN_CONCAT) || (x == SIGN_SHIFT_LEFT) || (x == SIGN_SHIFT_RIGHT) || (x == SIGN_LESS) || (x == SIGN_AT_MOST) || (x == SIGN_GREATER) || (x == SIGN_AT_LEAST) || (x == SIGN_EQUAL) || (x == SIGN_NOT_EQUAL) || (x == SIGN_AMPERSAND) || (x == SIGN_CARET) || (x == SIGN_BAR) || (x == SIGN_AND) || (x == SIGN_OR)

keyword_is_none : (k : Keyword) → is_operator (terminal_of (word.Keyword k)) ≡ true → ⊥
keyword_is_none keyword.Action e = absurd (cc)
keyword_is_none _ e = absurd (cc)

pub operator_known : (w : AnyWord) → is_operator (terminal_of w) ≡ true → IsSome (operator_of w)
operator_known (word.Sign sign.Star) e = refl
operator_known (word.Sign sign.Slash) e = refl
operator_known (word.Sign sign.Percent) e = refl
operator_known (word.Sign sign.Plus) e = refl
operator_known (word.Sign sign.Minus) e = refl
operator_known (word.Sign sign.SaturatingPlus) e = refl
operator_known (word.Sign sign.SaturatingMinus) e = refl
operator_known (word.Sign sign.Concat) e = refl
operator_known (word.Sign sign.ShiftLeft) e = refl
operator_known (word.Sign sign.ShiftRight) e = refl
operator_known (word.Sign sign.Ampersand) e = refl
operator_known (word.Sign sign.Caret) e = refl
operator_known (word.Sign sign.Bar) e = refl
operator_known (word.Sign sign.Less) e = refl
operator_known (word.Sign sign.AtMost) e = refl
operator_known (word.Sign sign.Greater) e = refl
operator_known (word.Sign sign.AtLeast) e = refl
operator_known (word.Sign sign.Equal) e = refl
operator_known (word.Sign sign.NotEqual) e = refl
operator_known (word.Sign sign.And) e = refl
operator_known (word.Sign sign.Or) e = refl
operator_known (word.Keyword k) e = absurd (keyword_is_none k e)
operator_known _ e = absurd (cc)

-- one token, which is an operator
abbrev pub OneOperator : Parse → Type 0
OneOperator End = ⊥
OneOperator (Word t End) = is_operator (terminal_of t.word) ≡ true
OneOperator (Word t (Word u a)) = ⊥
OneOperator (Word t (Node k r u a)) = ⊥
OneOperator (Node k r u a) = ⊥

product_operator_rights : rights PRODUCT_OPERATOR grammar_rows ≡ (SIGN_STAR ∷ []) ∷ (SIGN_SLASH ∷ []) ∷ (SIGN_PERCENT ∷ []) ∷ []
unfolding grammar_rows top_rows types_rows expressions_rows operations_rows keys_rows statements_rows parser_rows control_rows tables_rows
product_operator_rights = refl

sign_star_alone : (b : Parse) → Children (SIGN_STAR ∷ []) b → OneOperator b
sign_star_alone (Word t End) h = ap is_operator h.0
sign_star_alone _ h = absurd (assumption)

sign_slash_alone : (b : Parse) → Children (SIGN_SLASH ∷ []) b → OneOperator b
sign_slash_alone (Word t End) h = ap is_operator h.0
sign_slash_alone _ h = absurd (assumption)

sign_percent_alone : (b : Parse) → Children (SIGN_PERCENT ∷ []) b → OneOperator b
sign_percent_alone (Word t End) h = ap is_operator h.0
sign_percent_alone _ h = absurd (assumption)

product_operator_go : (r : Row) (b : Parse) → OneOf ((SIGN_STAR ∷ []) ∷ (SIGN_SLASH ∷ []) ∷ (SIGN_PERCENT ∷ []) ∷ []) r b → OneOperator b
product_operator_go r b (inl h) = sign_star_alone b h.1
product_operator_go r b (inr (inl h)) = sign_slash_alone b h.1
product_operator_go r b (inr (inr (inl h))) = sign_percent_alone b h.1
product_operator_go r b (inr (inr (inr h))) = absurd h

product_operator_alone : (k : ℕ) (r : Row) (b : Parse) → IsForm PRODUCT_OPERATOR k r b → OneOperator b
product_operator_alone k r b h = product_operator_go r b (rw product_operator_rights at (rows_of_form PRODUCT_OPERATOR k r b h))

sum_operator_rights : rights SUM_OPERATOR grammar_rows ≡ (SIGN_PLUS ∷ []) ∷ (SIGN_MINUS ∷ []) ∷ (SIGN_SATURATING_PLUS ∷ []) ∷ (SIGN_SATURATING_MINUS ∷ []) ∷ (SIGN_CONCAT ∷ []) ∷ []
unfolding grammar_rows top_rows types_rows expressions_rows operations_rows keys_rows statements_rows parser_rows control_rows tables_rows
sum_operator_rights = refl

sign_plus_alone : (b : Parse) → Children (SIGN_PLUS ∷ []) b → OneOperator b
sign_plus_alone (Word t End) h = ap is_operator h.0
sign_plus_alone _ h = absurd (assumption)

sign_minus_alone : (b : Parse) → Children (SIGN_MINUS ∷ []) b → OneOperator b
sign_minus_alone (Word t End) h = ap is_operator h.0
sign_minus_alone _ h = absurd (assumption)

sign_saturating_plus_alone : (b : Parse) → Children (SIGN_SATURATING_PLUS ∷ []) b → OneOperator b
sign_saturating_plus_alone (Word t End) h = ap is_operator h.0
sign_saturating_plus_alone _ h = absurd (assumption)

sign_saturating_minus_alone : (b : Parse) → Children (SIGN_SATURATING_MINUS ∷ []) b → OneOperator b
sign_saturating_minus_alone (Word t End) h = ap is_operator h.0
sign_saturating_minus_alone _ h = absurd (assumption)

sign_concat_alone : (b : Parse) → Children (SIGN_CONCAT ∷ []) b → OneOperator b
sign_concat_alone (Word t End) h = ap is_operator h.0
sign_concat_alone _ h = absurd (assumption)

sum_operator_go : (r : Row) (b : Parse) → OneOf ((SIGN_PLUS ∷ []) ∷ (SIGN_MINUS ∷ []) ∷ (SIGN_SATURATING_PLUS ∷ []) ∷ (SIGN_SATURATING_MINUS ∷ []) ∷ (SIGN_CONCAT ∷ []) ∷ []) r b → OneOperator b
sum_operator_go r b (inl h) = sign_plus_alone b h.1
sum_operator_go r b (inr (inl h)) = sign_minus_alone b h.1
sum_operator_go r b (inr (inr (inl h))) = sign_saturating_plus_alone b h.1
sum_operator_go r b (inr (inr (inr (inl h)))) = sign_saturating_minus_alone b h.1
sum_operator_go r b (inr (inr (inr (inr (inl h))))) = sign_concat_alone b h.1
sum_operator_go r b (inr (inr (inr (inr (inr h))))) = absurd h

sum_operator_alone : (k : ℕ) (r : Row) (b : Parse) → IsForm SUM_OPERATOR k r b → OneOperator b
sum_operator_alone k r b h = sum_operator_go r b (rw sum_operator_rights at (rows_of_form SUM_OPERATOR k r b h))

shift_operator_rights : rights SHIFT_OPERATOR grammar_rows ≡ (SIGN_SHIFT_LEFT ∷ []) ∷ (SIGN_SHIFT_RIGHT ∷ []) ∷ []
unfolding grammar_rows top_rows types_rows expressions_rows operations_rows keys_rows statements_rows parser_rows control_rows tables_rows
shift_operator_rights = refl

sign_shift_left_alone : (b : Parse) → Children (SIGN_SHIFT_LEFT ∷ []) b → OneOperator b
sign_shift_left_alone (Word t End) h = ap is_operator h.0
sign_shift_left_alone _ h = absurd (assumption)

sign_shift_right_alone : (b : Parse) → Children (SIGN_SHIFT_RIGHT ∷ []) b → OneOperator b
sign_shift_right_alone (Word t End) h = ap is_operator h.0
sign_shift_right_alone _ h = absurd (assumption)

shift_operator_go : (r : Row) (b : Parse) → OneOf ((SIGN_SHIFT_LEFT ∷ []) ∷ (SIGN_SHIFT_RIGHT ∷ []) ∷ []) r b → OneOperator b
shift_operator_go r b (inl h) = sign_shift_left_alone b h.1
shift_operator_go r b (inr (inl h)) = sign_shift_right_alone b h.1
shift_operator_go r b (inr (inr h)) = absurd h

shift_operator_alone : (k : ℕ) (r : Row) (b : Parse) → IsForm SHIFT_OPERATOR k r b → OneOperator b
shift_operator_alone k r b h = shift_operator_go r b (rw shift_operator_rights at (rows_of_form SHIFT_OPERATOR k r b h))

order_operator_rights : rights ORDER_OPERATOR grammar_rows ≡ (SIGN_LESS ∷ []) ∷ (SIGN_AT_MOST ∷ []) ∷ (SIGN_GREATER ∷ []) ∷ (SIGN_AT_LEAST ∷ []) ∷ []
unfolding grammar_rows top_rows types_rows expressions_rows operations_rows keys_rows statements_rows parser_rows control_rows tables_rows
order_operator_rights = refl

sign_less_alone : (b : Parse) → Children (SIGN_LESS ∷ []) b → OneOperator b
sign_less_alone (Word t End) h = ap is_operator h.0
sign_less_alone _ h = absurd (assumption)

sign_at_most_alone : (b : Parse) → Children (SIGN_AT_MOST ∷ []) b → OneOperator b
sign_at_most_alone (Word t End) h = ap is_operator h.0
sign_at_most_alone _ h = absurd (assumption)

sign_greater_alone : (b : Parse) → Children (SIGN_GREATER ∷ []) b → OneOperator b
sign_greater_alone (Word t End) h = ap is_operator h.0
sign_greater_alone _ h = absurd (assumption)

sign_at_least_alone : (b : Parse) → Children (SIGN_AT_LEAST ∷ []) b → OneOperator b
sign_at_least_alone (Word t End) h = ap is_operator h.0
sign_at_least_alone _ h = absurd (assumption)

order_operator_go : (r : Row) (b : Parse) → OneOf ((SIGN_LESS ∷ []) ∷ (SIGN_AT_MOST ∷ []) ∷ (SIGN_GREATER ∷ []) ∷ (SIGN_AT_LEAST ∷ []) ∷ []) r b → OneOperator b
order_operator_go r b (inl h) = sign_less_alone b h.1
order_operator_go r b (inr (inl h)) = sign_at_most_alone b h.1
order_operator_go r b (inr (inr (inl h))) = sign_greater_alone b h.1
order_operator_go r b (inr (inr (inr (inl h)))) = sign_at_least_alone b h.1
order_operator_go r b (inr (inr (inr (inr h)))) = absurd h

order_operator_alone : (k : ℕ) (r : Row) (b : Parse) → IsForm ORDER_OPERATOR k r b → OneOperator b
order_operator_alone k r b h = order_operator_go r b (rw order_operator_rights at (rows_of_form ORDER_OPERATOR k r b h))

equality_operator_rights : rights EQUALITY_OPERATOR grammar_rows ≡ (SIGN_EQUAL ∷ []) ∷ (SIGN_NOT_EQUAL ∷ []) ∷ []
unfolding grammar_rows top_rows types_rows expressions_rows operations_rows keys_rows statements_rows parser_rows control_rows tables_rows
equality_operator_rights = refl

sign_equal_alone : (b : Parse) → Children (SIGN_EQUAL ∷ []) b → OneOperator b
sign_equal_alone (Word t End) h = ap is_operator h.0
sign_equal_alone _ h = absurd (assumption)

sign_not_equal_alone : (b : Parse) → Children (SIGN_NOT_EQUAL ∷ []) b → OneOperator b
sign_not_equal_alone (Word t End) h = ap is_operator h.0
sign_not_equal_alone _ h = absurd (assumption)

equality_operator_go : (r : Row) (b : Parse) → OneOf ((SIGN_EQUAL ∷ []) ∷ (SIGN_NOT_EQUAL ∷ []) ∷ []) r b → OneOperator b
equality_operator_go r b (inl h) = sign_equal_alone b h.1
equality_operator_go r b (inr (inl h)) = sign_not_equal_alone b h.1
equality_operator_go r b (inr (inr h)) = absurd h

equality_operator_alone : (k : ℕ) (r : Row) (b : Parse) → IsForm EQUALITY_OPERATOR k r b → OneOperator b
equality_operator_alone k r b h = equality_operator_go r b (rw equality_operator_rights at (rows_of_form EQUALITY_OPERATOR k r b h))

-- Levels.

pub level_is_form : (x : Level) → nat_lt (level_form x) FORM_COUNT ≡ true
level_is_form level.Products = refl
level_is_form level.Sums = refl
level_is_form level.Shifts = refl
level_is_form level.Conjunctions = refl
level_is_form level.Exclusions = refl
level_is_form level.Disjunctions = refl
level_is_form level.Orders = refl
level_is_form level.Equalities = refl
level_is_form level.Ands = refl
level_is_form level.Ors = refl

-- the forms of levels
abbrev pub forms_of : List Level → List ℕ
forms_of [] = []
forms_of (x ∷ xs) = level_form x ∷ forms_of xs

-- the symbol of the operators of a level
abbrev pub operator_symbol : Level → ℕ
operator_symbol level.Products = PRODUCT_OPERATOR
operator_symbol level.Sums = SUM_OPERATOR
operator_symbol level.Shifts = SHIFT_OPERATOR
operator_symbol level.Conjunctions = SIGN_AMPERSAND
operator_symbol level.Exclusions = SIGN_CARET
operator_symbol level.Disjunctions = SIGN_BAR
operator_symbol level.Orders = ORDER_OPERATOR
operator_symbol level.Equalities = EQUALITY_OPERATOR
operator_symbol level.Ands = SIGN_AND
operator_symbol level.Ors = SIGN_OR

level_rights : (x : Level) → rights (level_form x) grammar_rows ≡ [] ∷ (operator_symbol x ∷ UNARY ∷ (forms_of (tighter x) ++ level_form x ∷ [])) ∷ []
unfolding grammar_rows top_rows types_rows expressions_rows operations_rows keys_rows statements_rows parser_rows control_rows tables_rows
level_rights level.Products = refl
level_rights level.Sums = refl
level_rights level.Shifts = refl
level_rights level.Conjunctions = refl
level_rights level.Exclusions = refl
level_rights level.Disjunctions = refl
level_rights level.Orders = refl
level_rights level.Equalities = refl
level_rights level.Ands = refl
level_rights level.Ors = refl

-- What is behind the operand: the tighter levels, and the rest of the level.

at_node : (x : Level) (k : ℕ) (r : Row) (u b : Parse) (ys : List ℕ) → Children (level_form x ∷ ys) (Node k r u b) → IsForm (level_form x) k r u × Children ys b
at_node x k r u b ys h = rw (level_is_form x) at h

no_word : {A : Type 0} (x : Level) (t : Token) (b : Parse) (ys : List ℕ) → Children (level_form x ∷ ys) (Word t b) → A
no_word x t b ys h = absurd ((rw (level_is_form x) at h).0)

-- the levels and the last of them at the end of a row
record Tail (xs : List Level) (x : Level) (q rest : Parse) : Type 0 where
  levels : LevelsStand xs q
  again : Begins (level_form x) (skipped xs q)
  end : after (skipped xs q) ≡ rest

tail_stands : (xs : List Level) (x : Level) (b a : Parse) → Children (forms_of xs ++ level_form x ∷ []) b → Tail xs x (joined b a) a
tail_stands [] x End a h = absurd h
tail_stands [] x (Word t b) a h = no_word x t b [] h
tail_stands [] x (Node k r u End) a h = record { levels = tt; again = (at_node x k r u End [] h).0; end = refl }
tail_stands [] x (Node k r u (Word t b)) a h = absurd ((at_node x k r u (Word t b) [] h).1)
tail_stands [] x (Node k r u (Node l s v b)) a h = absurd ((at_node x k r u (Node l s v b) [] h).1)
tail_stands (y ∷ ys) x End a h = absurd h
tail_stands (y ∷ ys) x (Word t b) a h = no_word y t b (forms_of ys ++ level_form x ∷ []) h
tail_stands (y ∷ ys) x (Node k r u b) a h =
    let both_of = at_node y k r u b (forms_of ys ++ level_form x ∷ []) h in
    let more = tail_stands ys x b a both_of.1 in
    record { levels = (both_of.0, more.levels); again = more.again; end = more.end }

not_empty : {A : Type 0} (xs : List Level) (x : Level) → Children (forms_of xs ++ level_form x ∷ []) End → A
not_empty [] x h = absurd h
not_empty (y ∷ ys) x h = absurd h

abbrev pub operations_of : Option Span → Option Operator → Option Expression → Option (List Operation) → Option (List Operation)
operations_of s o e more = both (λ one ys. one ∷ ys) (all_three (λ at by operand. roll-Operation (record { operator = by; operand = operand; span = at })) s o e) more

tail_value : (xs : List Level) (x : Level) (b a : Parse) (s : Option Span) (o : Option Operator) (e : Option Expression) →
    Children (forms_of xs ++ level_form x ∷ []) b →
    rest_of_level s o e b ≡ operations_of s o (with_levels xs e (joined b a)) (level_of (below (skipped xs (joined b a))))
tail_value [] x End a s o e h = absurd h
tail_value [] x (Word t b) a s o e h = no_word x t b [] h
tail_value [] x (Node k r u End) a s o e h = refl
tail_value [] x (Node k r u (Word t b)) a s o e h = absurd ((at_node x k r u (Word t b) [] h).1)
tail_value [] x (Node k r u (Node l q v b)) a s o e h = absurd ((at_node x k r u (Node l q v b) [] h).1)
tail_value (y ∷ ys) x End a s o e h = absurd h
tail_value (y ∷ ys) x (Word t b) a s o e h = no_word y t b (forms_of ys ++ level_form x ∷ []) h
tail_value (y ∷ ys) x (Node k r u End) a s o e h = not_empty ys x ((at_node y k r u End (forms_of ys ++ level_form x ∷ []) h).1)
tail_value (y ∷ ys) x (Node k r u (Word t b)) a s o e h =
    tail_value ys x (Word t b) a s o (both run e (level_of u)) ((at_node y k r u (Word t b) (forms_of ys ++ level_form x ∷ []) h).1)
tail_value (y ∷ ys) x (Node k r u (Node l q v b)) a s o e h =
    tail_value ys x (Node l q v b) a s o (both run e (level_of u)) ((at_node y k r u (Node l q v b) (forms_of ys ++ level_form x ∷ []) h).1)

-- An operator that a level begins with, once the level is entered.

pub record OperatorNext (f : Bool) (x : Level) (p : Parse) : Type 0 where
  pub enters : IsTrue f → (form : ℕ) × Begins form (opened p)
  pub word : IsWord (operator_word f (opened p))
  pub known : (t : Token) → token_at (operator_word f (opened p)) ≡ Some t → IsSome (operator_of t.word)
  pub stands : (t : Token) (o : Operator) → token_at (operator_word f (opened p)) ≡ Some t → operator_of t.word ≡ Some o →
      OperatorStands x o t.span p (after (operator_word f (opened p)))

stands_at : (x : Level) (p : Parse) (t : Token) (o : Operator) (k : ℕ) (r : Row) (u b a : Parse) → IsForm UNARY k r u →
    Children (forms_of (tighter x) ++ level_form x ∷ []) b → after p ≡ a → nodes (Node k r u (joined b a)) < nodes p →
    level_of (below p) ≡ rest_of_level (Some t.span) (operator_of t.word) (unary_of u) b → operator_of t.word ≡ Some o →
    OperatorStands x o t.span p (Node k r u (joined b a))
stands_at x p t o k r u b a h c e less v known =
    let tail = tail_stands (tighter x) x b a c in record {
      operand = h;
      levels = tail.levels;
      again = tail.again;
      rest = tail.end ∙ sym e;
      value = v ∙ ap (λ (by : Option Operator). rest_of_level (Some t.span) by (unary_of u) b) known ∙ tail_value (tighter x) x b a (Some t.span) (Some o) (unary_of u) c;
      fewer = less;
    }

-- the operator is a word of the level's own row
next_word : (x : Level) (s k : ℕ) (r : Row) (b a : Parse) → nat_lt s FORM_COUNT ≡ false → is_operator s ≡ true →
    Children (s ∷ UNARY ∷ (forms_of (tighter x) ++ level_form x ∷ [])) b → OperatorNext false x (Node k r b a)
next_word x s k r End a e o h = absurd h
next_word x s k r (Node l q v b) a e o h = absurd ((rw e at h).0)
next_word x s k r (Word t End) a e o h = absurd h.1
next_word x s k r (Word t (Word w b)) a e o h = absurd h.1.0
next_word x s k r (Word t (Node l q u b)) a e o h =
    let symbol : terminal_of t.word ≡ s = (rw e at h).0 in record {
      enters = λ i. absurd (cc);
      word = tt;
      known = λ w is. let same : t ≡ w = cc in subst (λ (y : Token). IsSome (operator_of y.word)) same (operator_known t.word (ap is_operator symbol ∙ o));
      stands = λ w by is known. let same : t ≡ w = cc in
          subst (λ (y : Token). OperatorStands x by y.span (Node k r (Word t (Node l q u b)) a) (Node l q u (joined b a))) same
          (stands_at x (Node k r (Word t (Node l q u b)) a) t by l q u b a h.1.0 h.1.1 refl (omega (arith, nodes_joined b a)) refl
          (ap (λ (y : Token). operator_of y.word) same ∙ known));
    }

-- the operator is a form
next_form : (x : Level) (s k : ℕ) (r : Row) (b a : Parse) → nat_lt s FORM_COUNT ≡ true → ((i : ℕ) (q : Row) (v : Parse) → IsForm s i q v → OneOperator v) →
    Children (s ∷ UNARY ∷ (forms_of (tighter x) ++ level_form x ∷ [])) b → OperatorNext true x (Node k r b a)
next_form x s k r End a e alone h = absurd h
next_form x s k r (Word t b) a e alone h = absurd ((rw e at h).0)
next_form x s k r (Node i m v End) a e alone h = absurd h.1
next_form x s k r (Node i m v (Word w b)) a e alone h = absurd h.1.0
next_form x s k r (Node i m End (Node l q u b)) a e alone h = absurd (alone i m End (rw e at h).0)
next_form x s k r (Node i m (Node j n z y) (Node l q u b)) a e alone h = absurd (alone i m (Node j n z y) (rw e at h).0)
next_form x s k r (Node i m (Word t (Word w y)) (Node l q u b)) a e alone h = absurd (alone i m (Word t (Word w y)) (rw e at h).0)
next_form x s k r (Node i m (Word t (Node j n z y)) (Node l q u b)) a e alone h = absurd (alone i m (Word t (Node j n z y)) (rw e at h).0)
next_form x s k r (Node i m (Word t End) (Node l q u b)) a e alone h =
    let form : IsForm s i m (Word t End) = (rw e at h).0 in
    let symbol : is_operator (terminal_of t.word) ≡ true = alone i m (Word t End) form in record {
      enters = λ one. (s, form);
      word = tt;
      known = λ w is. let same : t ≡ w = cc in subst (λ (y : Token). IsSome (operator_of y.word)) same (operator_known t.word symbol);
      stands = λ w by is known. let same : t ≡ w = cc in
          subst (λ (y : Token). OperatorStands x by y.span (Node k r (Node i m (Word t End) (Node l q u b)) a) (Node l q u (joined b a))) same
          (stands_at x (Node k r (Node i m (Word t End) (Node l q u b)) a) t by l q u b a h.1.0 h.1.1 refl (omega (arith, nodes_joined b a)) refl
          (ap (λ (y : Token). operator_of y.word) same ∙ known));
    }

level_next : (x : Level) (k : ℕ) (r : Row) (b a : Parse) → Children (operator_symbol x ∷ UNARY ∷ (forms_of (tighter x) ++ level_form x ∷ [])) b →
    OperatorNext (has_operator_form x) x (Node k r b a)
level_next level.Products k r b a h = next_form level.Products PRODUCT_OPERATOR k r b a refl product_operator_alone h
level_next level.Sums k r b a h = next_form level.Sums SUM_OPERATOR k r b a refl sum_operator_alone h
level_next level.Shifts k r b a h = next_form level.Shifts SHIFT_OPERATOR k r b a refl shift_operator_alone h
level_next level.Conjunctions k r b a h = next_word level.Conjunctions SIGN_AMPERSAND k r b a refl refl h
level_next level.Exclusions k r b a h = next_word level.Exclusions SIGN_CARET k r b a refl refl h
level_next level.Disjunctions k r b a h = next_word level.Disjunctions SIGN_BAR k r b a refl refl h
level_next level.Orders k r b a h = next_form level.Orders ORDER_OPERATOR k r b a refl order_operator_alone h
level_next level.Equalities k r b a h = next_form level.Equalities EQUALITY_OPERATOR k r b a refl equality_operator_alone h
level_next level.Ands k r b a h = next_word level.Ands SIGN_AND k r b a refl refl h
level_next level.Ors k r b a h = next_word level.Ors SIGN_OR k r b a refl refl h

level_ends : (k : ℕ) (r : Row) (b a : Parse) → Children [] b → LevelEnds (Node k r b a) (joined b a)
level_ends k r End a h = record { value = refl; rest = refl }
level_ends k r (Word t b) a h = absurd h
level_ends k r (Node l q u b) a h = absurd h

abbrev pub LevelRow : Level → Parse → Type 0
LevelRow x p =
    ((first_symbol p ≡ None) × LevelEnds p (opened p))
    ⊎ ((first_symbol p ≡ Some (operator_symbol x)) × OperatorNext (has_operator_form x) x p)

level_go : (x : Level) (k : ℕ) (r : Row) (b a : Parse) → OneOf ([] ∷ (operator_symbol x ∷ UNARY ∷ (forms_of (tighter x) ++ level_form x ∷ [])) ∷ []) r b → LevelRow x (Node k r b a)
level_go x k r b a (inl h) = inl (ap first_of h.0, level_ends k r b a h.1)
level_go x k r b a (inr (inl h)) = inr (ap first_of h.0, level_next x k r b a h.1)
level_go x k r b a (inr (inr h)) = absurd h

pub level_row : (x : Level) (p : Parse) → Begins (level_form x) p → LevelRow x p
level_row x End h = absurd h
level_row x (Word t a) h = absurd h
level_row x (Node k r b a) h =
    level_go x k r b a (subst (λ (all : List (List ℕ)). OneOf all r b) (level_rights x) (rows_of_form (level_form x) k r b h))

-- OPERATIONS

operations_rights : rights OPERATIONS grammar_rows ≡ (PRODUCTS ∷ SUMS ∷ SHIFTS ∷ CONJUNCTIONS ∷ EXCLUSIONS ∷ DISJUNCTIONS ∷ ORDERS ∷ EQUALITIES ∷ ANDS ∷ ORS ∷ CHOICE ∷ []) ∷ []
unfolding grammar_rows top_rows types_rows expressions_rows operations_rows keys_rows statements_rows parser_rows control_rows tables_rows
operations_rights = refl

-- all levels, and a choice
pub record OperationsRow (p : Parse) : Type 0 where
  pub levels : LevelsStand all_levels (opened p)
  pub last : Begins CHOICE (skipped all_levels (opened p))
  pub rest : after (skipped all_levels (opened p)) ≡ after p
  pub value : (e : Option Expression) → operations e (below p) ≡ choice (with_levels all_levels e (opened p)) (below (skipped all_levels (opened p)))

operations_of_row : (k : ℕ) (r : Row) (b a : Parse) → Children (PRODUCTS ∷ SUMS ∷ SHIFTS ∷ CONJUNCTIONS ∷ EXCLUSIONS ∷ DISJUNCTIONS ∷ ORDERS ∷ EQUALITIES ∷ ANDS ∷ ORS ∷ CHOICE ∷ []) b → OperationsRow (Node k r b a)
operations_of_row k r (Node k0 r0 u0 (Node k1 r1 u1 (Node k2 r2 u2 (Node k3 r3 u3 (Node k4 r4 u4 (Node k5 r5 u5 (Node k6 r6 u6 (Node k7 r7 u7 (Node k8 r8 u8 (Node k9 r9 u9 (Node k10 r10 u10 End))))))))))) a h =
    record { levels = (h.0, (h.1.0, (h.1.1.0, (h.1.1.1.0, (h.1.1.1.1.0, (h.1.1.1.1.1.0, (h.1.1.1.1.1.1.0, (h.1.1.1.1.1.1.1.0, (h.1.1.1.1.1.1.1.1.0, (h.1.1.1.1.1.1.1.1.1.0, tt)))))))))); last = h.1.1.1.1.1.1.1.1.1.1.0; rest = refl; value = λ e. refl }
operations_of_row k r _ a h = absurd (assumption)

operations_go : (k : ℕ) (r : Row) (b a : Parse) → OneOf ((PRODUCTS ∷ SUMS ∷ SHIFTS ∷ CONJUNCTIONS ∷ EXCLUSIONS ∷ DISJUNCTIONS ∷ ORDERS ∷ EQUALITIES ∷ ANDS ∷ ORS ∷ CHOICE ∷ []) ∷ []) r b → OperationsRow (Node k r b a)
operations_go k r b a (inl h) = operations_of_row k r b a h.1
operations_go k r b a (inr h) = absurd h

pub operations_row : (p : Parse) → Begins OPERATIONS p → OperationsRow p
operations_row End h = absurd h
operations_row (Word t a) h = absurd h
operations_row (Node k r b a) h = operations_go k r b a (rw operations_rights at (rows_of_form OPERATIONS k r b h))
