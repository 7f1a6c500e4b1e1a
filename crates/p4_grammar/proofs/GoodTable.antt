-- The grammar's rows pass the tests, and so are a good table.
use Rattle.std.proofs.Common.{◌≡◌, ◌≢◌, ℕ, ◌<◌, ◌≤◌, true, List, [], ◌∷◌, length, refl, sym, subst, inl, inr, arith}
use Rattle.std.specs.Prelude.{Some, slice_get}
use Rattle.std.specs.List.{AllByRecursion}
use Rattle.std.proofs.lemmas.Bool.{and_parts, ltb-true, cases_eq}
use Rattle.ll1_engine.specs.declared.grammar.Row.{Row}
use Rattle.ll1_engine.specs.declared.fault.Break.{Break}
use Rattle.ll1_engine.specs.declared.fault.Break.TheVariants.{Barren, Rank, Nullable as NullableTwice, First, Follow}
use Rattle.ll1_engine.specs.Table.{IsToken, IsRow, FitsIn}
use Rattle.ll1_engine.specs.Marks.{Has}
use Rattle.ll1_engine.specs.Conditions.{MayRank, IsGood, IsFirstBreak}
use Rattle.p4_grammar.specs.declared.symbols.TheConstants.{FORM_COUNT, SYMBOL_COUNT, ROW_COUNT, ELSE_BRANCH, KEYWORD_ELSE, STATEMENT}
use Rattle.p4_grammar.specs.Rows.{row, ranked, top_rows, types_rows, expressions_rows, operations_rows, keys_rows, statements_rows, parser_rows, control_rows, tables_rows, grammar_rows}
use Rattle.p4_grammar.proofs.TableTests.{rows_ok, lefts_ok, pairs_ok, all_from, rank_ok, walk_ok, all_below, row_below}
use Rattle.p4_grammar.proofs.TableTestsLemmas.{at_row_zero, not_both_nullable, no_shared_first, no_follow_met, may_rank, plain_besides, walked, word_is_token}
use Rattle.p4_grammar.proofs.Certificate.{certificate, productive_order, else_row, no_else_row}

rows_pass : rows_ok certificate grammar_rows ≡ true
unfolding grammar_rows top_rows types_rows expressions_rows operations_rows keys_rows statements_rows parser_rows control_rows tables_rows
rows_pass = refl

lefts_pass : lefts_ok grammar_rows FORM_COUNT ≡ true
unfolding grammar_rows top_rows types_rows expressions_rows operations_rows keys_rows statements_rows parser_rows control_rows tables_rows
lefts_pass = refl

pairs_pass : pairs_ok certificate grammar_rows ≡ true
unfolding grammar_rows top_rows types_rows expressions_rows operations_rows keys_rows statements_rows parser_rows control_rows tables_rows
pairs_pass = refl

ranks_pass : all_from (rank_ok KEYWORD_ELSE ELSE_BRANCH else_row no_else_row) 0 grammar_rows ≡ true
unfolding grammar_rows top_rows types_rows expressions_rows operations_rows keys_rows statements_rows parser_rows control_rows tables_rows
ranks_pass = refl

walk_passes : walk_ok FORM_COUNT grammar_rows productive_order [] ≡ true
unfolding grammar_rows top_rows types_rows expressions_rows operations_rows keys_rows statements_rows parser_rows control_rows tables_rows
walk_passes = refl

below_passes : all_from (λ i r. row_below SYMBOL_COUNT r) 0 grammar_rows ≡ true
unfolding grammar_rows top_rows types_rows expressions_rows operations_rows keys_rows statements_rows parser_rows control_rows tables_rows
below_passes = refl

count_passes : length grammar_rows ≡ ROW_COUNT
unfolding grammar_rows top_rows types_rows expressions_rows operations_rows keys_rows statements_rows parser_rows control_rows tables_rows
count_passes = refl

the_else : IsRow grammar_rows else_row (ranked ELSE_BRANCH (KEYWORD_ELSE ∷ STATEMENT ∷ []))
unfolding grammar_rows top_rows types_rows expressions_rows operations_rows keys_rows statements_rows parser_rows control_rows tables_rows
the_else = refl

no_else : IsRow grammar_rows no_else_row (row ELSE_BRANCH [])
unfolding grammar_rows top_rows types_rows expressions_rows operations_rows keys_rows statements_rows parser_rows control_rows tables_rows
no_else = refl

word_past : FORM_COUNT ≤ KEYWORD_ELSE
word_past = omega arith

rows_apart : no_else_row ≢ else_row
rows_apart e = absurd (omega arith)

may_have_rank : (k : ℕ) (r : Row) → IsRow grammar_rows k r → 0 < r.rank → MayRank grammar_rows k r
may_have_rank k r e ranked_here =
    elim (cases_eq k else_row) [
      | inl same ↦ (
          let e' : IsRow grammar_rows else_row r = subst (λ (n : ℕ). IsRow grammar_rows n r) same e in
          let known : ranked ELSE_BRANCH (KEYWORD_ELSE ∷ STATEMENT ∷ []) ≡ r = same_some (the_else) e' in
          subst (λ (n : ℕ). MayRank grammar_rows n r) (sym same) (subst (λ (q : Row). MayRank grammar_rows else_row q) known
          (may_rank certificate grammar_rows rows_pass lefts_pass pairs_pass KEYWORD_ELSE ELSE_BRANCH else_row no_else_row (STATEMENT ∷ []) (ranked ELSE_BRANCH (KEYWORD_ELSE ∷ STATEMENT ∷ [])) (row ELSE_BRANCH []) ranks_pass the_else no_else rows_apart refl refl refl word_past refl)))
      | inr other ↦ (let plain : r.rank ≡ 0 = plain_besides certificate grammar_rows rows_pass lefts_pass pairs_pass KEYWORD_ELSE ELSE_BRANCH else_row no_else_row k r ranks_pass e other in absurd (omega arith))
    ]
  where
    same_some : {a b : Row} → slice_get grammar_rows else_row ≡ Some a → slice_get grammar_rows else_row ≡ Some b → a ≡ b
    same_some x y = cc

pub word_is_token_here : (x : ℕ) → FORM_COUNT ≤ x → IsToken grammar_rows x
word_is_token_here x past = word_is_token certificate grammar_rows rows_pass lefts_pass pairs_pass x past

none_known : (x : ℕ) → Has [] x → ⊥
none_known x h = cc

pub good_table : IsGood grammar_rows
good_table k r Barren e = walked certificate grammar_rows rows_pass lefts_pass pairs_pass productive_order [] (λ x h. absurd (none_known x h)) walk_passes k r e
good_table k r Rank e = may_have_rank k r e
good_table k r NullableTwice e = not_both_nullable certificate grammar_rows rows_pass lefts_pass pairs_pass k r e
good_table k r First e = no_shared_first certificate grammar_rows rows_pass lefts_pass pairs_pass k r e
good_table k r Follow e = no_follow_met certificate grammar_rows rows_pass lefts_pass pairs_pass k r e

all_are_below : (n : ℕ) (xs : List ℕ) → all_below n xs ≡ true → AllByRecursion (λ y. y < n) xs
all_are_below n [] h = tt
all_are_below n (x ∷ xs) h = (let a = and_parts _ (all_below n xs) h in (ltb-true x n a.0, all_are_below n xs a.1))

pub table_fits : FitsIn SYMBOL_COUNT ROW_COUNT grammar_rows
table_fits = record {
  start = omega arith;
  count = count_passes;
  below = λ k r e. (
      let a = and_parts _ (all_below SYMBOL_COUNT r.right) (at_row_zero (λ i q. row_below SYMBOL_COUNT q) grammar_rows k r below_passes e) in
      record { left = ltb-true r.left SYMBOL_COUNT a.0; right = all_are_below SYMBOL_COUNT r.right a.1 });
}

-- no row breaks a condition
pub no_fault : (k : ℕ) (b : Break) → IsFirstBreak grammar_rows k b → ⊥
no_fault k Barren f = f.breaks (good_table k f.r Barren f.row)
no_fault k Rank f = f.breaks.1 (good_table k f.r Rank f.row f.breaks.0)
no_fault k NullableTwice f = good_table k f.r NullableTwice f.row f.breaks
no_fault k First f = good_table k f.r First f.row f.breaks
no_fault k Follow f = good_table k f.r Follow f.row f.breaks
