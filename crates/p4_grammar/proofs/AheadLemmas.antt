-- What is left of a derivation, a row or a token further on.
use Rattle.std.proofs.Common.{◌≡◌, ℕ, zero, suc, ◌+◌, ◌<◌, ◌≤◌, List, [], ◌∷◌, ◌++◌, append_assoc, Some, drop, length, refl, sym, ap, ◌∙◌, subst, arith}
use Rattle.std.specs.Prelude.{slice_get, slice_index_or}
use Rattle.p4_lexer.specs.declared.token.Token.{Token}
use Rattle.ll1_engine.specs.declared.grammar.Row.{Row}
use Rattle.ll1_engine.specs.Table.{IsRow}
use Rattle.ll1_engine.specs.Trees.{preorder}
use Rattle.p4_grammar.specs.Rows.{grammar_rows}
use Rattle.p4_grammar.specs.Parses.{Parse, End, Word, Node, trees_of, tokens_in}
use Rattle.p4_grammar.specs.Ahead.{Begins, IsWord, after, joined, opened, token_at, first_of, first_symbol, nodes}
use Rattle.p4_grammar.specs.Walk.{ahead, left_of, told_by, IsInStep}

-- The nodes ahead, which are fewer where one is entered.

pub nodes_joined : (a b : Parse) → nodes (joined a b) ≡ nodes a + nodes b
nodes_joined End b = omega arith
nodes_joined (Word t a) b = nodes_joined a b
nodes_joined (Node k r u a) b = omega (arith, nodes_joined a b)

pub nodes_opened : (form : ℕ) (p : Parse) → Begins form p → nodes (opened p) < nodes p
nodes_opened form End h = absurd h
nodes_opened form (Word t a) h = absurd h
nodes_opened form (Node k r u a) h = omega (arith, nodes_joined u a)

pub nodes_after : (p : Parse) → nodes (after p) ≤ nodes p
nodes_after End = omega arith
nodes_after (Word t a) = omega arith
nodes_after (Node k r u a) = omega arith

-- The rows and tokens of trees, and then more.

pub preorder_joined : (a b : Parse) → preorder (trees_of (joined a b)) ≡ preorder (trees_of a) ++ preorder (trees_of b)
preorder_joined End b = refl
preorder_joined (Word t a) b = preorder_joined a b
preorder_joined (Node k r u a) b =
    ap (λ (xs : List ℕ). k ∷ (preorder (trees_of u) ++ xs)) (preorder_joined a b)
    ∙ ap (λ (xs : List ℕ). k ∷ xs) (sym (append_assoc (preorder (trees_of u)) (preorder (trees_of a)) (preorder (trees_of b))))

pub tokens_joined : (a b : Parse) → tokens_in (joined a b) ≡ tokens_in a ++ tokens_in b
tokens_joined End b = refl
tokens_joined (Word t a) b = ap (λ (xs : List Token). t ∷ xs) (tokens_joined a b)
tokens_joined (Node k r u a) b =
    ap (λ (xs : List Token). tokens_in u ++ xs) (tokens_joined a b) ∙ sym (append_assoc (tokens_in u) (tokens_in a) (tokens_in b))

pub tokens_opened : (form : ℕ) (p : Parse) → Begins form p → tokens_in (opened p) ≡ tokens_in p
tokens_opened form End h = absurd h
tokens_opened form (Word t a) h = absurd h
tokens_opened form (Node k r u a) h = tokens_joined u a

-- Steps along a list.

pub drop_next : {A : Type 0} (i : ℕ) (xs : List A) (x : A) (rest : List A) → drop i xs ≡ x ∷ rest → drop (i + 1) xs ≡ rest
drop_next zero [] x rest e = absurd (cc)
drop_next zero (y ∷ ys) x rest e = cc
drop_next (suc i) [] x rest e = absurd (cc)
drop_next (suc i) (y ∷ ys) x rest e = (let same : suc i + 1 ≡ suc (i + 1) = omega arith in rw same (drop_next i ys x rest e))

pub at_drop : {A : Type 0} (i : ℕ) (xs : List A) (x : A) (rest : List A) → drop i xs ≡ x ∷ rest → slice_get xs i ≡ Some x
at_drop zero [] x rest e = absurd (cc)
at_drop zero (y ∷ ys) x rest e = cc
at_drop (suc i) [] x rest e = absurd (cc)
at_drop (suc i) (y ∷ ys) x rest e = at_drop i ys x rest e

-- The cursor's steps.

-- a node is next, by this row
pub record NodeIsNext (rows : List ℕ) (row : ℕ) (p : Parse) : Type 0 where
  pub k : ℕ
  pub r : Row
  pub told : slice_get rows row ≡ Some k
  pub known : IsRow grammar_rows k r
  pub symbol : first_symbol p ≡ first_of r.right

node_next : (rows : List ℕ) (row form : ℕ) (p : Parse) → drop row rows ≡ preorder (trees_of p) → Begins form p → NodeIsNext rows row p
node_next rows row form End e h = absurd h
node_next rows row form (Word t a) e h = absurd h
node_next rows row form (Node k r u a) e h =
    record { k = k; r = r; told = at_drop row rows k _ e; known = h.row; symbol = refl }

ahead_next_row : (rows : List ℕ) (tokens : List Token) (row token : ℕ) → ahead rows tokens (row + 1) token ≡ opened (ahead rows tokens row token)
unfolding ahead left_of
ahead_next_row rows tokens row token =
    (let same : row + 1 + token ≡ suc (row + token) = omega arith in ap (λ (n : ℕ). left_of (told_by rows tokens) n) same)

ahead_next_token : (rows : List ℕ) (tokens : List Token) (row token : ℕ) → ahead rows tokens row (token + 1) ≡ opened (ahead rows tokens row token)
unfolding ahead left_of
ahead_next_token rows tokens row token =
    (let same : row + (token + 1) ≡ suc (row + token) = omega arith in ap (λ (n : ℕ). left_of (told_by rows tokens) n) same)

rows_opened : (rows : List ℕ) (row form : ℕ) (p : Parse) → drop row rows ≡ preorder (trees_of p) → Begins form p →
    drop (row + 1) rows ≡ preorder (trees_of (opened p))
rows_opened rows row form End e h = absurd h
rows_opened rows row form (Word t a) e h = absurd h
rows_opened rows row form (Node k r u a) e h = drop_next row rows k _ e ∙ sym (preorder_joined u a)

-- the state behind a node that is entered
pub entered : (grammar : List Row) (rows : List ℕ) (tokens : List Token) (row token form : ℕ) → IsInStep grammar rows tokens row token →
    Begins form (ahead rows tokens row token) → IsInStep grammar rows tokens (row + 1) token × (ahead rows tokens (row + 1) token ≡ opened (ahead rows tokens row token))
entered grammar rows tokens row token form s h =
    let next : ahead rows tokens (row + 1) token ≡ opened (ahead rows tokens row token) = ahead_next_row rows tokens row token in (
      record {
        known = s.known;
        rows_ahead = rows_opened rows row form (ahead rows tokens row token) s.rows_ahead h ∙ ap (λ (p : Parse). preorder (trees_of p)) (sym next);
        tokens_ahead = s.tokens_ahead ∙ sym (tokens_opened form (ahead rows tokens row token) h) ∙ ap tokens_in (sym next);
      },
      next,
    )

pub next_row : (rows : List ℕ) (tokens : List Token) (grammar : List Row) (row token form : ℕ) (p : Parse) → IsInStep grammar rows tokens row token →
    ahead rows tokens row token ≡ p → Begins form p → NodeIsNext rows row p
next_row rows tokens grammar row token form p s same h = node_next rows row form p (s.rows_ahead ∙ ap (λ (q : Parse). preorder (trees_of q)) same) h

-- a token is next
pub record TokenIsNext (tokens : List Token) (token : ℕ) (p : Parse) : Type 0 where
  pub t : Token
  pub told : slice_get tokens token ≡ Some t
  pub first : token_at p ≡ Some t
  pub rest : drop (token + 1) tokens ≡ tokens_in (opened p)
  pub rows : preorder (trees_of (opened p)) ≡ preorder (trees_of p)
  pub behind : opened p ≡ after p

token_next : (tokens : List Token) (token : ℕ) (p : Parse) → drop token tokens ≡ tokens_in p → IsWord p → TokenIsNext tokens token p
token_next tokens token End e h = absurd h
token_next tokens token (Node k r u a) e h = absurd h
token_next tokens token (Word t a) e h =
    record { t = t; told = at_drop token tokens t _ e; first = refl; rest = drop_next token tokens t _ e; rows = refl; behind = refl }

pub next_token : (rows : List ℕ) (tokens : List Token) (grammar : List Row) (row token : ℕ) (p : Parse) → IsInStep grammar rows tokens row token →
    ahead rows tokens row token ≡ p → IsWord p → TokenIsNext tokens token p
next_token rows tokens grammar row token p s same h = token_next tokens token p (s.tokens_ahead ∙ ap tokens_in same) h

-- the state behind a token that is taken
pub taken : (grammar : List Row) (rows : List ℕ) (tokens : List Token) (row token : ℕ) → IsInStep grammar rows tokens row token →
    IsWord (ahead rows tokens row token) → IsInStep grammar rows tokens row (token + 1) × (ahead rows tokens row (token + 1) ≡ after (ahead rows tokens row token))
taken grammar rows tokens row token s h =
    let next : ahead rows tokens row (token + 1) ≡ opened (ahead rows tokens row token) = ahead_next_token rows tokens row token in
    let one : TokenIsNext tokens token (ahead rows tokens row token) = next_token rows tokens grammar row token _ s refl h in (
      record {
        known = s.known;
        rows_ahead = s.rows_ahead ∙ sym one.rows ∙ ap (λ (p : Parse). preorder (trees_of p)) (sym next);
        tokens_ahead = one.rest ∙ ap tokens_in (sym next);
      },
      next ∙ one.behind,
    )

-- What is read at an index.

pub read_at : {A : Type 0} (xs : List A) (i : ℕ) (x d : A) → slice_get xs i ≡ Some x → (slice_index_or xs i d ≡ x) × (i < length xs)
read_at [] i x d e = absurd (cc)
read_at (y ∷ ys) zero x d e = (cc, omega arith)
read_at (y ∷ ys) (suc i) x d e = (let more = read_at ys i x d e in (more.0, omega (arith, more.1)))

pub row_within : (grammar : List Row) (rows : List ℕ) (tokens : List Token) (row token form : ℕ) (p : Parse) → IsInStep grammar rows tokens row token →
    ahead rows tokens row token ≡ p → Begins form p → slice_index_or rows row 0 < length grammar
row_within grammar rows tokens row token form p s same h =
    let one = next_row rows tokens grammar row token form p s same h in
    let told = read_at rows row one.k 0 one.told in
    let known = read_at grammar_rows one.k one.r one.r one.known in
    subst (λ (g : List Row). slice_index_or rows row 0 < length g) (sym s.known) (subst (λ (i : ℕ). i < length grammar_rows) (sym told.0) known.1)

pub symbol_read : (grammar : List Row) (rows : List ℕ) (tokens : List Token) (row token form : ℕ) (p : Parse) (d : Row) → IsInStep grammar rows tokens row token →
    ahead rows tokens row token ≡ p → Begins form p → first_of (slice_index_or grammar (slice_index_or rows row 0) d).right ≡ first_symbol p
symbol_read grammar rows tokens row token form p d s same h =
    let one = next_row rows tokens grammar row token form p s same h in
    let told = read_at rows row one.k 0 one.told in
    let known = read_at grammar_rows one.k one.r d one.known in
    ap (λ (g : List Row). first_of (slice_index_or g (slice_index_or rows row 0) d).right) s.known
    ∙ ap (λ (i : ℕ). first_of (slice_index_or grammar_rows i d).right) told.0
    ∙ ap (λ (r : Row). first_of r.right) known.0
    ∙ sym one.symbol

pub get_first : (xs : List ℕ) → slice_get xs 0 ≡ first_of xs
get_first [] = refl
get_first (x ∷ xs) = refl

pub nodes_passed : (form : ℕ) (p : Parse) → Begins form p → nodes (after p) < nodes p
nodes_passed form End h = absurd h
nodes_passed form (Word t a) h = absurd h
nodes_passed form (Node k r u a) h = omega arith
