-- What is below a node of a form, by the rows of the form: which words and forms a reader stands before once it has entered it.
use Rattle.std.proofs.Common.{◌≡◌, ℕ, zero, suc, Bool, true, false, eqb, List, [], ◌∷◌, Option, None, Some, refl, sym, ap, ◌∙◌, inl, inr, ◌⊎◌}
use Rattle.std.specs.Prelude.{nat_lt, slice_get}
use Rattle.std.proofs.lemmas.Bool.{eq-eqb, false≢true}
use Rattle.p4_lexer.specs.declared.token.Token.{Token}
use Rattle.ll1_engine.specs.declared.grammar.Row.{Row}
use Rattle.ll1_engine.specs.Trees.{roots, AreTrees}
use Rattle.p4_grammar.specs.declared.symbols.TheConstants.{FORM_COUNT}
use Rattle.p4_grammar.specs.Rows.{grammar_rows}
use Rattle.p4_grammar.specs.Words.{terminal_of}
use Rattle.p4_grammar.specs.Parses.{Parse, End, Word, Node, trees_of}
use Rattle.p4_grammar.specs.Ahead.{IsForm, Begins, IsWord, after, joined, token_at, symbol_at}
use Rattle.p4_grammar.proofs.FormsAndWords.{left_is_form, word_is_no_form}

-- The right sides of a form.

abbrev pub kept : Bool → List ℕ → List (List ℕ) → List (List ℕ)
kept true x xs = x ∷ xs
kept false x xs = xs

abbrev pub rights : ℕ → List Row → List (List ℕ)
rights form [] = []
rights form (r ∷ g) = kept (eqb r.left form) r.right (rights form g)

abbrev pub IsAmong : List ℕ → List (List ℕ) → Type 0
IsAmong x [] = ⊥
IsAmong x (y ∷ ys) = (x ≡ y) ⊎ IsAmong x ys

kept_more : (b : Bool) (x y : List ℕ) (ys : List (List ℕ)) → IsAmong x ys → IsAmong x (kept b y ys)
kept_more true x y ys h = inr h
kept_more false x y ys h = h

kept_here : (b : Bool) (x y : List ℕ) (ys : List (List ℕ)) → b ≡ true → x ≡ y → IsAmong x (kept b y ys)
kept_here true x y ys t e = inl e
kept_here false x y ys t e = absurd (cc)

right_among : (g : List Row) (form k : ℕ) (r : Row) → slice_get g k ≡ Some r → r.left ≡ form → IsAmong r.right (rights form g)
right_among [] form k r e h = absurd (cc)
right_among (q ∷ g) form zero r e h = (
    let same : q ≡ r = cc in
    kept_here (eqb q.left form) r.right q.right (rights form g) (eq-eqb q.left form (ap (λ (x : Row). x.left) same ∙ h)) (ap (λ (x : Row). x.right) (sym same)))
right_among (q ∷ g) form (suc k) r e h = kept_more (eqb q.left form) r.right q.right (rights form g) (right_among g form k r e h)

-- What is below a node with this right side.

abbrev pub FormAt : Bool → ℕ → ℕ → Row → Parse → Type 0
FormAt true x k r b = IsForm x k r b
FormAt false x k r b = ⊥

abbrev pub WordAt : Bool → ℕ → Token → Type 0
WordAt true x t = ⊥
WordAt false x t = terminal_of t.word ≡ x

abbrev pub Children : List ℕ → Parse → Type 0
Children [] End = Unit {0}
Children [] (Word t a) = ⊥
Children [] (Node k r b a) = ⊥
Children (x ∷ xs) End = ⊥
Children (x ∷ xs) (Word t a) = WordAt (nat_lt x FORM_COUNT) x t × Children xs a
Children (x ∷ xs) (Node k r b a) = FormAt (nat_lt x FORM_COUNT) x k r b × Children xs a

form_at : (x k : ℕ) (r : Row) (b : Parse) → IsForm x k r b → (f : Bool) → nat_lt x FORM_COUNT ≡ f → FormAt f x k r b
form_at x k r b h true e = h
form_at x k r b h false e = absurd (false≢true (sym e ∙ (ap (λ (y : ℕ). nat_lt y FORM_COUNT) (sym h.left) ∙ left_is_form k r h.row)))

word_at : (x : ℕ) (t : Token) → terminal_of t.word ≡ x → (f : Bool) → nat_lt x FORM_COUNT ≡ f → WordAt f x t
word_at x t h true e = absurd (false≢true (sym (ap (λ (y : ℕ). nat_lt y FORM_COUNT) (sym h) ∙ word_is_no_form t.word) ∙ e))
word_at x t h false e = h

children : (xs : List ℕ) (b : Parse) → AreTrees grammar_rows (trees_of b) → roots (trees_of b) ≡ xs → Children xs b
children [] End v e = tt
children [] (Word t a) v e = absurd (cc)
children [] (Node k r b a) v e = absurd (cc)
children (x ∷ xs) End v e = absurd (cc)
children (x ∷ xs) (Word t a) v e = (
    let here : terminal_of t.word ≡ x = cc in
    let more : roots (trees_of a) ≡ xs = cc in
    (word_at x t here (nat_lt x FORM_COUNT) refl, children xs a v more))
children (x ∷ xs) (Node k r b a) v e = (
    let here : r.left ≡ x = cc in
    let more : roots (trees_of a) ≡ xs = cc in
    (form_at x k r b (record { row = v.0; left = here; right = v.1; valid = v.2 }) (nat_lt x FORM_COUNT) refl, children xs a v.3 more))

-- what is below a node by row r, which has one of these right sides
abbrev pub OneOf : List (List ℕ) → Row → Parse → Type 0
OneOf [] r b = ⊥
OneOf (xs ∷ more) r b = ((r.right ≡ xs) × Children xs b) ⊎ OneOf more r b

one_of : (all : List (List ℕ)) (r : Row) (b : Parse) → IsAmong r.right all → AreTrees grammar_rows (trees_of b) → roots (trees_of b) ≡ r.right → OneOf all r b
one_of [] r b h v e = absurd h
one_of (xs ∷ more) r b (inl h) v e = inl (h, children xs b v (e ∙ h))
one_of (xs ∷ more) r b (inr h) v e = inr (one_of more r b h v e)

pub rows_of_form : (form k : ℕ) (r : Row) (b : Parse) → IsForm form k r b → OneOf (rights form grammar_rows) r b
rows_of_form form k r b h = one_of (rights form grammar_rows) r b (right_among grammar_rows form k r h.row h.left) h.valid h.right

-- What a reader stands before.

abbrev pub StandsAt : Bool → ℕ → Parse → Type 0
StandsAt true x p = Begins x p
StandsAt false x p = IsWord p × (symbol_at p ≡ Some x)

-- p begins with trees of these symbols, and `rest` is behind them
abbrev pub Stands : List ℕ → Parse → Parse → Type 0
Stands [] p rest = p ≡ rest
Stands (x ∷ xs) p rest = StandsAt (nat_lt x FORM_COUNT) x p × Stands xs (after p) rest

node_stands : (f : Bool) (x k : ℕ) (r : Row) (b rest : Parse) → FormAt f x k r b → StandsAt f x (Node k r b rest)
node_stands true x k r b rest h = h
node_stands false x k r b rest h = absurd h

word_stands : (f : Bool) (x : ℕ) (t : Token) (rest : Parse) → WordAt f x t → StandsAt f x (Word t rest)
word_stands true x t rest h = absurd h
word_stands false x t rest h = (tt, ap Some h)

pub stands : (xs : List ℕ) (b a : Parse) → Children xs b → Stands xs (joined b a) a
stands [] End a h = refl
stands [] (Word t b) a h = absurd h
stands [] (Node k r u b) a h = absurd h
stands (x ∷ xs) End a h = absurd h
stands (x ∷ xs) (Word t b) a h = (word_stands (nat_lt x FORM_COUNT) x t (joined b a) h.0, stands xs b a h.1)
stands (x ∷ xs) (Node k r u b) a h = (node_stands (nat_lt x FORM_COUNT) x k r u (joined b a) h.0, stands xs b a h.1)

-- what is made of a token, if there is one
abbrev pub with_token : {A : Type 0} → (Token → Option A) → Option Token → Option A
with_token f None = None
with_token f (Some t) = f t

-- the symbol of a token that stands there
pub symbol_is : (p : Parse) (t : Token) → token_at p ≡ Some t → symbol_at p ≡ Some (terminal_of t.word)
symbol_is End t e = absurd (cc)
symbol_is (Word u a) t e = (let same : u ≡ t = cc in ap (λ (x : Token). Some (terminal_of x.word)) same)
symbol_is (Node k r u a) t e = absurd (cc)
