-- A report is told apart line by line: the bounds, the statements with their verdicts, the counts.
use Rattle.std.proofs.Common.{◌≡◌, ℕ, ◌+◌, ◌^◌, ◌<◌, ◌≤◌, List, [], ◌∷◌, ◌++◌, length, refl, ap, sym, ◌∙◌, append_assoc, arith}
use Prim.Native.Nat.{suc}
use lib.Chars.{codes}
use mathlib.Core.HLevel.{is_prop→PathP}
use Rattle.std.specs.Coded.{le_prop}
use Rattle.std.specs.Fmt.{decimal}
use Rattle.std.specs.List.{AllByRecursion, concat}
use Rattle.tg_base.specs.declared.place.Span.{Span}
use Rattle.p4_program.specs.declared.bounds.Bounds.{Bounds}
use Rattle.p4_program.specs.declared.bounds.TheConstants.{MAX_BYTES, MAX_STEPS, MAX_ENTRIES, MAX_BUDGET}
use Rattle.p4_meaning.specs.VerdictText.{verdict_text}
use Rattle.p4_meaning.specs.declared.test.Test.{Test}
use Rattle.p4_meaning.specs.declared.verdict.Verdict.{Verdict}
use Rattle.p4_meaning.specs.declared.verdict.Verdict.TheVariants.{Covered, Unreachable, Unsteady, Undecided}
use Rattle.testgen_engine.specs.Statements.{StartsNoDigit}
use Rattle.testgen_engine.specs.Report.{bounds_line, statement_line, statement_lines, verdict_counts, test_counts, counts_line, counts_of}
use Rattle.p4_program.specs.Placed.{PlaceFits}
use Rattle.testgen_engine.specs.Telling.{VerdictFits}
use Rattle.testgen_engine.proofs.Digits.{same_decimal_behind, decimal_apart}
use Rattle.testgen_engine.proofs.Lists.{append_left_injective, concat-then, same_pieces, differ_at}

-- bounds are their four numbers
same_bounds : (b c : Bounds) → b.bytes ≡ c.bytes → b.steps ≡ c.steps → b.entries ≡ c.entries → b.budget ≡ c.budget → b ≡ c
same_bounds b c p q r s =
    λ i. record {
      bytes = p i;
      steps = q i;
      entries = r i;
      budget = s i;
      some_bytes = is_prop→PathP (λ j. 1 ≤ p j) (λ j. le_prop) b.some_bytes c.some_bytes i;
      most_bytes = is_prop→PathP (λ j. p j ≤ MAX_BYTES) (λ j. le_prop) b.most_bytes c.most_bytes i;
      some_steps = is_prop→PathP (λ j. 1 ≤ q j) (λ j. le_prop) b.some_steps c.some_steps i;
      most_steps = is_prop→PathP (λ j. q j ≤ MAX_STEPS) (λ j. le_prop) b.most_steps c.most_steps i;
      most_entries = is_prop→PathP (λ j. r j ≤ MAX_ENTRIES) (λ j. le_prop) b.most_entries c.most_entries i;
      some_budget = is_prop→PathP (λ j. 1 ≤ s j) (λ j. le_prop) b.some_budget c.some_budget i;
      most_budget = is_prop→PathP (λ j. s j ≤ MAX_BUDGET) (λ j. le_prop) b.most_budget c.most_budget i;
    }

-- the pieces of a line of bounds
abbrev bounds_pieces : Bounds → List (List ℕ)
bounds_pieces b = codes "bounds bytes " ∷ decimal b.bytes ∷ codes " steps " ∷ decimal b.steps
    ∷ codes " entries " ∷ decimal b.entries ∷ codes " budget " ∷ decimal b.budget ∷ codes "\n" ∷ []

-- one line of bounds stands at the front
pub same_bounds_line : (b c : Bounds) (x y : List ℕ) → bounds_line b ++ x ≡ bounds_line c ++ y → (b ≡ c) × (x ≡ y)
same_bounds_line b c x y e =
    let bytes = same_decimal_behind (codes "bounds bytes ") b.bytes c.bytes _ _ (same_pieces (bounds_pieces b) (bounds_pieces c) x y e) (omega arith) (omega arith) refl refl in
    let steps = same_decimal_behind (codes " steps ") b.steps c.steps _ _ bytes.1 (omega arith) (omega arith) refl refl in
    let entries = same_decimal_behind (codes " entries ") b.entries c.entries _ _ steps.1 (omega arith) (omega arith) refl refl in
    let budget = same_decimal_behind (codes " budget ") b.budget c.budget _ _ entries.1 (omega arith) (omega arith) refl refl in
    (same_bounds b c bytes.0 steps.0 entries.0 budget.0, append_left_injective (codes "\n") x y budget.1)

-- one verdict stands before the end of a line
same_verdict : (v w : Verdict) (x y : List ℕ) → VerdictFits v → VerdictFits w → verdict_text v ++ (codes "\n" ++ x) ≡ verdict_text w ++ (codes "\n" ++ y) → (v ≡ w) × (x ≡ y)
same_verdict (Covered m) (Covered n) x y p q e =
    let test = same_decimal_behind (codes "covered ") m n (codes "\n" ++ x) (codes "\n" ++ y) e (omega arith) (omega arith) refl refl in
    (ap Covered test.0, append_left_injective (codes "\n") x y test.1)
same_verdict (Covered m) Unreachable x y p q e = absurd (differ_at 0 _ _ e refl)
same_verdict (Covered m) Unsteady x y p q e = absurd (differ_at 0 _ _ e refl)
same_verdict (Covered m) Undecided x y p q e = absurd (differ_at 0 _ _ e refl)
same_verdict Unreachable (Covered n) x y p q e = absurd (differ_at 0 _ _ e refl)
same_verdict Unreachable Unreachable x y p q e = (refl, append_left_injective (codes "unreachable\n") x y e)
same_verdict Unreachable Unsteady x y p q e = absurd (differ_at 2 _ _ e refl)
same_verdict Unreachable Undecided x y p q e = absurd (differ_at 2 _ _ e refl)
same_verdict Unsteady (Covered n) x y p q e = absurd (differ_at 0 _ _ e refl)
same_verdict Unsteady Unreachable x y p q e = absurd (differ_at 2 _ _ e refl)
same_verdict Unsteady Unsteady x y p q e = (refl, append_left_injective (codes "unsteady\n") x y e)
same_verdict Unsteady Undecided x y p q e = absurd (differ_at 2 _ _ e refl)
same_verdict Undecided (Covered n) x y p q e = absurd (differ_at 0 _ _ e refl)
same_verdict Undecided Unreachable x y p q e = absurd (differ_at 2 _ _ e refl)
same_verdict Undecided Unsteady x y p q e = absurd (differ_at 2 _ _ e refl)
same_verdict Undecided Undecided x y p q e = (refl, append_left_injective (codes "undecided\n") x y e)

-- the pieces of a statement's line behind its number
abbrev line_pieces : Span → Verdict → List (List ℕ)
line_pieces place verdict = codes " " ∷ decimal place.line ∷ codes ":" ∷ decimal place.column ∷ codes " " ∷ verdict_text verdict ∷ codes "\n" ∷ []

-- one place and one verdict stand behind the number of a statement
same_statement_line : (number : ℕ) (s t : Span) (v w : Verdict) (x y : List ℕ) → PlaceFits s → PlaceFits t → VerdictFits v → VerdictFits w
    → statement_line number s v ++ x ≡ statement_line number t w ++ y → (s ≡ t) × (v ≡ w) × (x ≡ y)
same_statement_line number s t v w x y p q h k e =
    let behind = append_left_injective (decimal number) _ _ (same_pieces (decimal number ∷ line_pieces s v) (decimal number ∷ line_pieces t w) x y e) in
    let line = same_decimal_behind (codes " ") s.line t.line _ _ behind (let l = p.line in omega arith) (let l = q.line in omega arith) refl refl in
    let column = same_decimal_behind (codes ":") s.column t.column _ _ line.1 (let l = p.column in omega arith) (let l = q.column in omega arith) refl refl in
    let verdict = same_verdict v w x y h k (append_left_injective (codes " ") _ _ column.1) in
    ((λ i. record { line = line.0 i; column = column.0 i }), verdict.0, verdict.1)

-- the lines of statements are told apart from what does not begin with a digit
pub same_statement_lines : (number : ℕ) (ss ts : List Span) (vs ws : List Verdict) (x y : List ℕ) → number + length ss < 2 ^ 64 → number + length ts < 2 ^ 64
    → length vs ≡ length ss → length ws ≡ length ts
    → AllByRecursion PlaceFits ss → AllByRecursion PlaceFits ts → AllByRecursion VerdictFits vs → AllByRecursion VerdictFits ws → StartsNoDigit x → StartsNoDigit y
    → statement_lines number ss vs ++ x ≡ statement_lines number ts ws ++ y → (ss ≡ ts) × (vs ≡ ws) × (x ≡ y)
same_statement_lines number [] [] [] [] x y few fewer l m p q h k a b e = (refl, refl, e)
same_statement_lines number [] (t ∷ ts) [] (w ∷ ws) x y few fewer l m p q h k a b e =
    let others = statement_lines (suc number) ts ws in
    let line = decimal number ∷ line_pieces t w in
    absurd (decimal_apart number _ x (sym (concat-then line (others ++ y)) ∙ sym (append_assoc (concat line) others y) ∙ sym e) (omega arith) refl a)
same_statement_lines number (s ∷ ss) [] (v ∷ vs) [] x y few fewer l m p q h k a b e =
    let others = statement_lines (suc number) ss vs in
    let line = decimal number ∷ line_pieces s v in
    absurd (decimal_apart number _ y (sym (concat-then line (others ++ x)) ∙ sym (append_assoc (concat line) others x) ∙ e) (omega arith) refl b)
same_statement_lines number (s ∷ ss) (t ∷ ts) (v ∷ vs) (w ∷ ws) x y few fewer l m p q h k a b e =
    let left = statement_lines (suc number) ss vs in
    let right = statement_lines (suc number) ts ws in
    let first = same_statement_line number s t v w (left ++ x) (right ++ y) p.0 q.0 h.0 k.0
    (sym (append_assoc (statement_line number s v) left x) ∙ e ∙ append_assoc (statement_line number t w) right y) in
    let others = same_statement_lines (suc number) ss ts vs ws x y (omega arith) (omega arith) (omega arith) (omega arith) p.1 q.1 h.1 k.1 a b first.2 in
    (cc (first.0, others.0), cc (first.1, others.1), others.2)
same_statement_lines number [] ts (v ∷ vs) ws x y few fewer l m p q h k a b e = absurd (omega arith)
same_statement_lines number ss [] vs (w ∷ ws) x y few fewer l m p q h k a b e = absurd (omega arith)
same_statement_lines number (s ∷ ss) ts [] ws x y few fewer l m p q h k a b e = absurd (omega arith)
same_statement_lines number ss (t ∷ ts) vs [] x y few fewer l m p q h k a b e = absurd (omega arith)

-- one number of tests stands in the line of counts behind the counts of verdicts
pub same_counts_line : (vs : List Verdict) (ts us : List Test) → length ts < 2 ^ 64 → length us < 2 ^ 64 → counts_line (counts_of vs ts) ≡ counts_line (counts_of vs us) → length ts ≡ length us
same_counts_line vs ts us few fewer e =
    let tests = append_left_injective (verdict_counts (counts_of vs ts)) (test_counts (counts_of vs ts)) (test_counts (counts_of vs us)) e in
    (same_decimal_behind (codes "tests ") (length ts) (length us) _ _ tests few fewer refl refl).0
