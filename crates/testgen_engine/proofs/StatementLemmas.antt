-- Lemmas on statements as words: a text has one statement at its front, and one list of statements.
use Rattle.std.proofs.Common.{◌≡◌, ◌≢◌, ℕ, ◌<◌, ◌≤◌, List, [], ◌∷◌, ◌++◌, length, get_or, refl, ap, sym, ◌∙◌, subst, append_assoc, length-append, arith}
use Rattle.std.proofs.lemmas.Bool.{false≢true, eq-eqb}
use Rattle.std.specs.Fmt.{decimal}
use Rattle.std.specs.List.{flat_map, AllByRecursion}
use Rattle.p4_program.specs.declared.program.StatementKind.{StatementKind}
use Rattle.p4_program.specs.declared.program.StatementKind.TheVariants.{AssignEgressSpec, MarkToDrop}
use Rattle.testgen_engine.specs.declared.skeleton.TheConstants.{MOST_STATEMENTS}
use Rattle.testgen_engine.specs.Skeleton.{head_text, tail_text, assign_text, drop_text, end_text, statement_text, FitsNineBits}
use Rattle.testgen_engine.specs.Statements.{StartsNoDigit, IsNumberAt, IsNoNumber, IsStatementAt, IsNoStatement, IsBody, IsNoBody, IsSkeletonOf, IsNoSkeleton}
use Rattle.testgen_engine.proofs.Digits.{same_number}
use Rattle.testgen_engine.proofs.Lists.{append_left_injective}

-- a statement has characters
some_statement : (kind : StatementKind) → 0 < length (statement_text kind)
unfolding drop_text assign_text
some_statement (AssignEgressSpec value) = omega arith
some_statement MarkToDrop = omega arith

pub shorter_statement : (text : List ℕ) (kind : StatementKind) (rest : List ℕ) → IsStatementAt text kind rest → length rest < length text
shorter_statement text kind rest h = omega (arith, ap length h.whole, length-append (statement_text kind) rest, some_statement kind)

-- what follows the number of an assignment is no digit
after_number : (rest : List ℕ) → StartsNoDigit (end_text ++ rest)
unfolding end_text
after_number rest = refl

-- the number of an assignment stands behind its front
number_of_statement : (text number rest : List ℕ) (value : ℕ) → text ≡ assign_text ++ number → IsStatementAt text (AssignEgressSpec value) rest → IsNumberAt number value (end_text ++ rest)
number_of_statement text number rest value e h = record {
  nine_bits = h.fits;
  whole = append_left_injective assign_text number (decimal value ++ (end_text ++ rest))
      (sym e ∙ h.whole ∙ append_assoc assign_text (decimal value ++ end_text) rest ∙ ap (λ xs. assign_text ++ xs) (append_assoc (decimal value) end_text rest));
  ends = after_number rest;
}

-- an assignment behind its front, its number and its end
pub assignment_at : (text number end rest : List ℕ) (value : ℕ) → text ≡ assign_text ++ number → IsNumberAt number value end → end ≡ end_text ++ rest → IsStatementAt text (AssignEgressSpec value) rest
assignment_at text number end rest value e h f = record {
  fits = h.nine_bits;
  whole = e ∙ ap (λ xs. assign_text ++ xs) (h.whole ∙ ap (λ xs. decimal value ++ xs) f ∙ sym (append_assoc (decimal value) end_text rest))
      ∙ sym (append_assoc assign_text (decimal value ++ end_text) rest);
}

pub no_statement-no_number : (text number : List ℕ) → ((rest : List ℕ) → text ≢ drop_text ++ rest) → text ≡ assign_text ++ number → IsNoNumber number → IsNoStatement text
no_statement-no_number text number drop e none (AssignEgressSpec value) rest h = none value (end_text ++ rest) (number_of_statement text number rest value e h)
no_statement-no_number text number drop e none MarkToDrop rest h = drop rest h.whole

pub no_statement-no_end : (text number end : List ℕ) (value : ℕ) → ((rest : List ℕ) → text ≢ drop_text ++ rest) → text ≡ assign_text ++ number → IsNumberAt number value end
    → ((rest : List ℕ) → end ≢ end_text ++ rest) → IsNoStatement text
no_statement-no_end text number end value drop e n none (AssignEgressSpec other) rest h = none rest (same_number number value other end (end_text ++ rest) n (number_of_statement text number rest other e h)).1
no_statement-no_end text number end value drop e n none MarkToDrop rest h = drop rest h.whole

-- a drop and an assignment differ in their first character
drop_apart : (x y : List ℕ) → drop_text ++ x ≡ assign_text ++ y → ⊥
unfolding drop_text assign_text
drop_apart x y e = false≢true (eq-eqb 109 115 (ap (λ xs. get_or xs 0 0) e))

-- a text begins with one statement
same_statement : (text : List ℕ) (a b : StatementKind) (x y : List ℕ) → IsStatementAt text a x → IsStatementAt text b y → (a ≡ b) × (x ≡ y)
same_statement text MarkToDrop MarkToDrop x y h k = (refl, append_left_injective drop_text x y (sym h.whole ∙ k.whole))
same_statement text MarkToDrop (AssignEgressSpec n) x y h k = absurd (drop_apart x ((decimal n ++ end_text) ++ y) (sym h.whole ∙ k.whole ∙ append_assoc assign_text (decimal n ++ end_text) y))
same_statement text (AssignEgressSpec m) MarkToDrop x y h k = absurd (drop_apart y ((decimal m ++ end_text) ++ x) (sym k.whole ∙ h.whole ∙ append_assoc assign_text (decimal m ++ end_text) x))
same_statement text (AssignEgressSpec m) (AssignEgressSpec n) x y h k =
    let number = (decimal m ++ end_text) ++ x in
    let e : text ≡ assign_text ++ number = h.whole ∙ append_assoc assign_text (decimal m ++ end_text) x in
    let same = same_number number m n (end_text ++ x) (end_text ++ y) (number_of_statement text number x m e h) (number_of_statement text number y n e k) in
    (ap AssignEgressSpec same.0, append_left_injective end_text x y same.1)

tail_apart_assign : (y : List ℕ) → tail_text ≡ assign_text ++ y → ⊥
unfolding tail_text assign_text
tail_apart_assign y e = false≢true (eq-eqb 125 115 (ap (λ xs. get_or xs 0 0) e))

tail_apart_drop : (y : List ℕ) → tail_text ≡ drop_text ++ y → ⊥
unfolding tail_text drop_text
tail_apart_drop y e = false≢true (eq-eqb 125 109 (ap (λ xs. get_or xs 0 0) e))

-- the skeleton's end begins with no statement: it begins with a brace
pub no_statement-tail : IsNoStatement tail_text
no_statement-tail (AssignEgressSpec value) rest h = tail_apart_assign _ (h.whole ∙ append_assoc assign_text (decimal value ++ end_text) rest)
no_statement-tail MarkToDrop rest h = tail_apart_drop rest h.whole

-- the first of some statements
statement_at_front : (kind : StatementKind) (kinds : List StatementKind) (x : List ℕ) → FitsNineBits kind → IsStatementAt (flat_map statement_text (kind ∷ kinds) ++ x) kind (flat_map statement_text kinds ++ x)
statement_at_front kind kinds x fits = record { fits = fits; whole = append_assoc (statement_text kind) (flat_map statement_text kinds) x }

-- statements, and then what begins with none, are told apart in one way
pub same_statements : (ks ls : List StatementKind) (x y : List ℕ) → AllByRecursion FitsNineBits ks → AllByRecursion FitsNineBits ls → IsNoStatement x → IsNoStatement y
    → flat_map statement_text ks ++ x ≡ flat_map statement_text ls ++ y → (ks ≡ ls) × (x ≡ y)
same_statements [] [] x y p q h k e = (refl, e)
same_statements [] (b ∷ ls) x y p q h k e = absurd (h b (flat_map statement_text ls ++ y) (subst (λ t. IsStatementAt t b (flat_map statement_text ls ++ y)) (sym e) (statement_at_front b ls y q.0)))
same_statements (a ∷ ks) [] x y p q h k e = absurd (k a (flat_map statement_text ks ++ x) (subst (λ t. IsStatementAt t a (flat_map statement_text ks ++ x)) e (statement_at_front a ks x p.0)))
same_statements (a ∷ ks) (b ∷ ls) x y p q h k e =
    let first = same_statement (flat_map statement_text (a ∷ ks) ++ x) a b (flat_map statement_text ks ++ x) (flat_map statement_text ls ++ y) (statement_at_front a ks x p.0)
    (subst (λ t. IsStatementAt t b (flat_map statement_text ls ++ y)) (sym e) (statement_at_front b ls y q.0)) in
    let others = same_statements ks ls x y p.1 q.1 h k first.1 in
    (cc (first.0, others.0), others.1)

-- the text of a skeleton has a body
pub body_of : (text body : List ℕ) (kinds : List StatementKind) → text ≡ head_text ++ body → IsSkeletonOf text kinds → IsBody body kinds
body_of text body kinds e s = record { fit = s.fit; whole = append_left_injective head_text body (flat_map statement_text kinds ++ tail_text) (sym e ∙ s.whole) }

pub no_skeleton_no_body : (text body : List ℕ) → text ≡ head_text ++ body → IsNoBody body → IsNoSkeleton text
no_skeleton_no_body text body e none kinds s = none kinds (body_of text body kinds e s)

pub same_body : (body : List ℕ) (ks ls : List StatementKind) → IsBody body ks → IsBody body ls → ks ≡ ls
same_body body ks ls h k = (same_statements ks ls tail_text tail_text h.fit k.fit no_statement-tail no_statement-tail (sym h.whole ∙ k.whole)).0

-- a text is that of one skeleton
pub same_skeleton : (text : List ℕ) (ks ls : List StatementKind) → IsSkeletonOf text ks → IsSkeletonOf text ls → ks ≡ ls
same_skeleton text ks ls h k =
    let body = flat_map statement_text ks ++ tail_text in
    same_body body ks ls (body_of text body ks h.whole h) (body_of text body ls h.whole k)

pub no_skeleton_many : (text body : List ℕ) (kinds : List StatementKind) → text ≡ head_text ++ body → IsBody body kinds → MOST_STATEMENTS < length kinds → IsNoSkeleton text
no_skeleton_many text body kinds e h many ls s =
    let same : length kinds ≡ length ls = ap length (same_body body kinds ls h (body_of text body ls e s)) in
    let few = s.few in
    absurd (omega arith)

-- a head and a body that is short enough are a skeleton
pub skeleton_of_body : (text body : List ℕ) (kinds : List StatementKind) → text ≡ head_text ++ body → IsBody body kinds → length kinds ≤ MOST_STATEMENTS → IsSkeletonOf text kinds
skeleton_of_body text body kinds e h few = record { few = few; fit = h.fit; whole = e ∙ ap (λ xs. head_text ++ xs) h.whole }

-- statements and then what is not the skeleton's end and begins with no statement are no body
pub no_body : (body : List ℕ) (kinds : List StatementKind) (rest : List ℕ) → AllByRecursion FitsNineBits kinds → body ≡ flat_map statement_text kinds ++ rest → IsNoStatement rest → rest ≢ tail_text → IsNoBody body
no_body body kinds rest fit e none other ls h = other (same_statements kinds ls rest tail_text fit h.fit none no_statement-tail (sym e ∙ h.whole)).1
