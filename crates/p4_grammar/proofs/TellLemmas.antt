-- The way along the rows of a derivation gives each token the number of the nodes that are open around it and count.
use Rattle.std.proofs.Common.{◌≡◌, ℕ, zero, suc, ◌+◌, ◌-◌, ◌<◌, ◌≤◌, Bool, true, false, cond, List, [], ◌∷◌, ◌++◌, length, take, drop, get_or, Option, Some, refl, sym, ap, ◌∙◌, subst, inl, inr, append_assoc, length-append, arith}
use Rattle.std.specs.Prelude.{slice_get, map}
use Rattle.std.specs.List.{AllByRecursion, count_by}
use Rattle.std.proofs.lemmas.Bool.{cond-true, cond-false, lt-ltb, le-ltb, ltb-true, ltb-false, cases_lt}
use Rattle.std.proofs.Math.ListN.{get_or-append}
use Rattle.std.proofs.Math.Dec.{ltb}
use Rattle.std.proofs.lemmas.List.{get_or-append-add, take-append-drop, take-append-le, length-take-le, length-map}
use Rattle.std.proofs.lemmas.List.Sums.{sum_by-cons}
use Rattle.p4_lexer.specs.declared.token.Token.{Token}
use Rattle.ll1_engine.specs.declared.grammar.Row.{Row}
use Rattle.ll1_engine.specs.Trees.{Trees, End, Leaf, Node, roots, leaves, AreTrees}
use Rattle.ll1_engine.specs.Open.{OpenNode, holder, open_around, rows_before}
use Rattle.ll1_engine.specs.Parse.{IsAllowedTree}
use Rattle.ll1_engine.proofs.TreesLemmas.{beside, roots_beside, leaves_beside, AreTrees_beside, size, size_beside}
use Rattle.ll1_engine.proofs.RowsBeforeLemmas.{rows_before_node}
use Rattle.p4_grammar.specs.declared.depth.Part.{Part}
use Rattle.p4_grammar.specs.declared.symbols.TheConstants.{FORM_COUNT}
use Rattle.p4_grammar.specs.Rows.{grammar_rows}
use Rattle.p4_grammar.specs.Words.{terminal_of, terminals_of}
use Rattle.p4_grammar.specs.Depth.{counts_in, counts_at, row_counts, node_counts, open_brackets, HasDepth}
use Rattle.p4_grammar.specs.Descent.{TellTokens, start, part_in, parts_below, node_depths}
use Rattle.p4_grammar.proofs.DescentLemmas.{word_first, form_first}
use Rattle.p4_grammar.proofs.FormsAndWords.{left_is_form, word_is_no_form}

abbrev pub symbols : List Part → List ℕ
symbols parts = map (λ p. p.symbol) parts

abbrev pub depths : List Part → List ℕ
depths parts = map (λ p. p.depth) parts

symbols_append : (ps qs : List Part) → symbols (ps ++ qs) ≡ symbols ps ++ symbols qs
symbols_append [] qs = refl
symbols_append (p ∷ ps) qs = ap (λ (xs : List ℕ). p.symbol ∷ xs) (symbols_append ps qs)

symbols_below : (left depth : ℕ) (xs : List ℕ) → symbols (map (part_in left depth) xs) ≡ xs
symbols_below left depth [] = refl
symbols_below left depth (x ∷ xs) = ap (λ (ys : List ℕ). x ∷ ys) (symbols_below left depth xs)

-- how many nodes that count are around each leaf of trees whose roots are these parts
abbrev pub leaf_depths : Trees → List Part → List ℕ
leaf_depths End parts = []
leaf_depths (Leaf x after) [] = []
leaf_depths (Leaf x after) (p ∷ ps) = p.depth ∷ leaf_depths after ps
leaf_depths (Node k r below after) [] = []
leaf_depths (Node k r below after) (p ∷ ps) = leaf_depths below (parts_below r p.depth) ++ leaf_depths after ps

pub leaf_depths_beside : (f h : Trees) (ps qs : List Part) → symbols ps ≡ roots f → leaf_depths (beside f h) (ps ++ qs) ≡ leaf_depths f ps ++ leaf_depths h qs
leaf_depths_beside End h [] qs e = refl
leaf_depths_beside End h (p ∷ ps) qs e = absurd (cc)
leaf_depths_beside (Leaf x f) h [] qs e = absurd (cc)
leaf_depths_beside (Leaf x f) h (p ∷ ps) qs e = ap (λ (ds : List ℕ). p.depth ∷ ds) (leaf_depths_beside f h ps qs (cc))
leaf_depths_beside (Node k r c f) h [] qs e = absurd (cc)
leaf_depths_beside (Node k r c f) h (p ∷ ps) qs e =
    ap (λ (ds : List ℕ). leaf_depths c (parts_below r p.depth) ++ ds) (leaf_depths_beside f h ps qs (cc))
    ∙ sym (append_assoc (leaf_depths c (parts_below r p.depth)) (leaf_depths f ps) (leaf_depths h qs))

pub length_leaf_depths : (f : Trees) (ps : List Part) → AreTrees grammar_rows f → symbols ps ≡ roots f → length (leaf_depths f ps) ≡ length (leaves f)
length_leaf_depths End ps v e = refl
length_leaf_depths (Leaf x f) [] v e = absurd (cc)
length_leaf_depths (Leaf x f) (p ∷ ps) v e = ap suc (length_leaf_depths f ps v (cc))
length_leaf_depths (Node k r c f) [] v e = absurd (cc)
length_leaf_depths (Node k r c f) (p ∷ ps) v e =
    length-append (leaf_depths c (parts_below r p.depth)) (leaf_depths f ps)
    ∙ (ap (λ (n : ℕ). n + length (leaf_depths f ps)) (length_leaf_depths c (parts_below r p.depth) v.2 (symbols_below r.left p.depth r.right ∙ sym v.1))
    ∙ (ap (λ (n : ℕ). length (leaves c) + n) (length_leaf_depths f ps v.3 (cc)) ∙ sym (length-append (leaves c) (leaves f))))

-- what a part of a node adds
abbrev pub one_if : Bool → ℕ
one_if b = cond b 1 0

added : (b : Bool) (d : ℕ) → cond b (d + 1) d ≡ d + one_if b
added true d = refl
added false d = omega arith

depth_below : (left d : ℕ) (xs : List ℕ) (h : ℕ) → get_or (depths (map (part_in left d) xs)) h d ≡ d + one_if (counts_at left (slice_get xs h))
depth_below left d [] h = omega arith
depth_below left d (x ∷ xs) zero = added (counts_in left x) d
depth_below left d (x ∷ xs) (suc h) = depth_below left d xs h

-- where leaf i is
below_holder : (k : ℕ) (r : Row) (c f : Trees) (i : ℕ) → i < length (leaves c) → holder (Node k r c f) i ≡ 0
below_holder k r c f i lt = cond-true (ltb i (length (leaves c))) _ _ (lt-ltb i (length (leaves c)) lt)

below_open : (k : ℕ) (r : Row) (c f : Trees) (i : ℕ) → i < length (leaves c) → open_around (Node k r c f) i ≡ record { row = k; place = holder c i } ∷ open_around c i
below_open k r c f i lt = cond-true (ltb i (length (leaves c))) _ _ (lt-ltb i (length (leaves c)) lt)

behind_holder : (k : ℕ) (r : Row) (c f : Trees) (i n : ℕ) → i ≡ length (leaves c) + n → holder (Node k r c f) i ≡ suc (holder f n)
behind_holder k r c f i n e =
    let less : i - length (leaves c) ≡ n = omega arith in
    cond-false (ltb i (length (leaves c))) _ _ (le-ltb i (length (leaves c)) (omega arith)) ∙ ap (λ (m : ℕ). suc (holder f m)) less

behind_open : (k : ℕ) (r : Row) (c f : Trees) (i n : ℕ) → i ≡ length (leaves c) + n → open_around (Node k r c f) i ≡ open_around f n
behind_open k r c f i n e =
    let less : i - length (leaves c) ≡ n = omega arith in
    cond-false (ltb i (length (leaves c))) _ _ (le-ltb i (length (leaves c)) (omega arith)) ∙ ap (open_around f) less

-- the depth of leaf i of these trees: that of the part that holds it, and the nodes around it that count
abbrev HasLeafDepth : Trees → List Part → ℕ → ℕ → Type 0
HasLeafDepth f ps d i = get_or (leaf_depths f ps) i 0 ≡ get_or (depths ps) (holder f i) d + count_by node_counts (open_around f i)

module _ (k : ℕ) (r : Row) (c f : Trees) (p : Part) (ps : List Part) (i d : ℕ) (row : slice_get grammar_rows k ≡ Some r) (size_below : length (leaf_depths c (parts_below r p.depth)) ≡ length (leaves c)) where
  depth_of_below : i < length (leaves c) → HasLeafDepth c (parts_below r p.depth) p.depth i → HasLeafDepth (Node k r c f) (p ∷ ps) d i
  depth_of_below here ih =
      let left : get_or (leaf_depths c (parts_below r p.depth) ++ leaf_depths f ps) i 0 ≡ get_or (leaf_depths c (parts_below r p.depth)) i 0 =
      get_or-append (leaf_depths c (parts_below r p.depth)) (leaf_depths f ps) 0 i (omega arith) in
      let part : get_or (depths (parts_below r p.depth)) (holder c i) p.depth ≡ p.depth + one_if (counts_at r.left (slice_get r.right (holder c i))) =
      depth_below r.left p.depth r.right (holder c i) in
      let right : get_or (depths (p ∷ ps)) (holder (Node k r c f) i) d ≡ p.depth = ap (λ (n : ℕ). get_or (depths (p ∷ ps)) n d) (below_holder k r c f i here) in
      let node : count_by node_counts (open_around (Node k r c f) i) ≡ one_if (row_counts (slice_get grammar_rows k) (holder c i)) + count_by node_counts (open_around c i) =
      ap (count_by node_counts) (below_open k r c f i here) ∙ sum_by-cons (λ (o : OpenNode). one_if (node_counts o)) (record { row = k; place = holder c i }) (open_around c i) in
      let one : one_if (row_counts (slice_get grammar_rows k) (holder c i)) ≡ one_if (counts_at r.left (slice_get r.right (holder c i))) =
      ap (λ (o : Option Row). one_if (row_counts o (holder c i))) row in
      omega arith

  depth_of_behind : (n : ℕ) → i ≡ length (leaves c) + n → HasLeafDepth f ps d n → HasLeafDepth (Node k r c f) (p ∷ ps) d i
  depth_of_behind n e ih =
      let at : length (leaf_depths c (parts_below r p.depth)) + n ≡ i = omega arith in
      let left : get_or (leaf_depths c (parts_below r p.depth) ++ leaf_depths f ps) i 0 ≡ get_or (leaf_depths f ps) n 0 =
      ap (λ (m : ℕ). get_or (leaf_depths c (parts_below r p.depth) ++ leaf_depths f ps) m 0) (sym at) ∙ get_or-append-add (leaf_depths c (parts_below r p.depth)) (leaf_depths f ps) n 0 in
      let right : get_or (depths (p ∷ ps)) (holder (Node k r c f) i) d ≡ get_or (depths ps) (holder f n) d =
      ap (λ (m : ℕ). get_or (depths (p ∷ ps)) m d) (behind_holder k r c f i n e) in
      let node : count_by node_counts (open_around (Node k r c f) i) ≡ count_by node_counts (open_around f n) = ap (count_by node_counts) (behind_open k r c f i n e) in
      omega arith

pub leaf_depth : (f : Trees) (ps : List Part) (i d : ℕ) → AreTrees grammar_rows f → symbols ps ≡ roots f → i < length (leaves f) → HasLeafDepth f ps d i
leaf_depth End ps i d v e lt = absurd (omega arith)
leaf_depth (Leaf x f) [] i d v e lt = absurd (cc)
leaf_depth (Leaf x f) (p ∷ ps) zero d v e lt = omega arith
leaf_depth (Leaf x f) (p ∷ ps) (suc i) d v e lt = leaf_depth f ps i d v (cc) (omega arith)
leaf_depth (Node k r c f) [] i d v e lt = absurd (cc)
leaf_depth (Node k r c f) (p ∷ ps) i d v e lt =
    let same : symbols (parts_below r p.depth) ≡ roots c = symbols_below r.left p.depth r.right ∙ sym v.1 in
    let size_below : length (leaf_depths c (parts_below r p.depth)) ≡ length (leaves c) = length_leaf_depths c (parts_below r p.depth) v.2 same in
    elim (cases_lt i (length (leaves c))) [
      | inl here ↦ depth_of_below k r c f p ps i d v.0 size_below here (leaf_depth c (parts_below r p.depth) i p.depth v.2 same here)
      | inr there ↦ (
          let n : ℕ = i - length (leaves c) in
          let at : i ≡ length (leaves c) + n = omega arith in
          let all : length (leaves c ++ leaves f) ≡ length (leaves c) + length (leaves f) = length-append (leaves c) (leaves f) in
          depth_of_behind k r c f p ps i d v.0 size_below n at (leaf_depth f ps n d v.3 (cc) (omega arith)))
    ]

-- none of these is a form
abbrev pub AreWords : List ℕ → Type 0
AreWords xs = AllByRecursion (λ x. FORM_COUNT ≤ x) xs

-- the rows begin with those of the nodes that begin before the last of so many leaves
abbrev pub Lead : List ℕ → Trees → ℕ → Type 0
Lead rows f count = (last : ℕ) → count ≡ suc last → (more : List ℕ) × (rows ≡ rows_before f last ++ more)

-- what the way gives first, and then something
abbrev Gives : List ℕ → List Part → ℕ → Trees → Type 0
Gives rows parts count f = (more : List ℕ) × (node_depths rows parts ≡ take count (leaf_depths f parts) ++ more)

-- so many of the leaves are these words
pub record Starts (f : Trees) (words : List ℕ) : Type 0 where
  pub rest : List ℕ
  pub leaves_are : leaves f ≡ words ++ rest
  pub are_words : AreWords words

gives_below : (rows : List ℕ) (k : ℕ) (r : Row) (c f : Trees) (p : Part) (ps : List Part) (count : ℕ) → AreTrees grammar_rows (Node k r c f) → symbols (p ∷ ps) ≡ r.left ∷ roots f →
    Gives rows (parts_below r p.depth ++ ps) count (beside c f) → Gives (k ∷ rows) (p ∷ ps) count (Node k r c f)
gives_below rows k r c f p ps count v e g =
    let form : p.symbol < FORM_COUNT = (let same : p.symbol ≡ r.left = cc in subst (λ (x : ℕ). x < FORM_COUNT) (sym same) (ltb-true r.left FORM_COUNT (left_is_form k r v.0))) in
    let same : symbols (parts_below r p.depth) ≡ roots c = symbols_below r.left p.depth r.right ∙ sym v.1 in (
      g.0,
      form_first rows k r p ps form v.0 ∙ (g.1 ∙ ap (λ (ds : List ℕ). take count ds ++ g.0) (leaf_depths_beside c f (parts_below r p.depth) ps same)),
    )

pub gives : (n : ℕ) (f : Trees) (parts : List Part) (rows words : List ℕ) → size f ≤ n → AreTrees grammar_rows f → symbols parts ≡ roots f → Starts f words → Lead rows f (length words) → Gives rows parts (length words) f
gives n f parts rows [] s v e w l = (node_depths rows parts, refl)
gives n End parts rows (x ∷ words) s v e w l = absurd (let i : [] ≡ x ∷ (words ++ w.rest) = w.leaves_are in cc)
gives n (Leaf y f) [] rows (x ∷ words) s v e w l = absurd (cc)
gives n (Node k r c f) [] rows (x ∷ words) s v e w l = absurd (cc)
gives zero (Leaf y f) (p ∷ ps) rows (x ∷ words) s v e w l = absurd (omega arith)
gives zero (Node k r c f) (p ∷ ps) rows (x ∷ words) s v e w l = absurd (omega arith)
gives (suc n) (Leaf y f) (p ∷ ps) rows (x ∷ words) s v e w l =
    let i : y ∷ leaves f ≡ x ∷ (words ++ w.rest) = w.leaves_are in
    let same : x ≡ p.symbol = cc in
    let g = gives n f ps rows words (omega arith) v (cc) (record { rest = w.rest; leaves_are = cc; are_words = w.are_words.1 })
    (λ last j. l (suc last) (ap suc j)) in (
      g.0,
      word_first rows p ps (subst (λ (z : ℕ). FORM_COUNT ≤ z) same w.are_words.0) ∙ ap (λ (ds : List ℕ). p.depth ∷ ds) g.1,
    )
gives (suc n) (Node k r c f) (p ∷ ps) rows (x ∷ words) s v e w l =
    let q = l (length words) refl in
    let begin : rows ≡ k ∷ (rows_before (beside c f) (length words) ++ q.0) = q.1 ∙ ap (λ (ks : List ℕ). ks ++ q.0) (rows_before_node k r c f (length words)) in
    let same : symbols (parts_below r p.depth) ≡ roots c = symbols_below r.left p.depth r.right ∙ sym v.1 in
    let roots_are : symbols (parts_below r p.depth ++ ps) ≡ roots (beside c f) =
    symbols_append (parts_below r p.depth) ps ∙ (ap (λ (xs : List ℕ). xs ++ symbols ps) same ∙ (ap (λ (xs : List ℕ). roots c ++ xs) (cc) ∙ sym (roots_beside c f))) in
    let g = gives n (beside c f) (parts_below r p.depth ++ ps) (rows_before (beside c f) (length words) ++ q.0) (x ∷ words)
    (let b : size (beside c f) ≡ size c + size f = size_beside c f in omega arith) (AreTrees_beside grammar_rows c f v.2 v.3) roots_are
    (record { rest = w.rest; leaves_are = leaves_beside c f ∙ w.leaves_are; are_words = w.are_words })
    (λ last j. (q.0, ap (λ (m : ℕ). rows_before (beside c f) m ++ q.0) (let i : length words ≡ last = omega (arith, j) in i))) in
    subst (λ (ks : List ℕ). Gives ks (p ∷ ps) (suc (length words)) (Node k r c f)) (sym begin)
    (gives_below (rows_before (beside c f) (length words) ++ q.0) k r c f p ps (suc (length words)) v e g)

tokens_are_words : (tokens : List Token) (count : ℕ) → AreWords (take count (terminals_of tokens))
tokens_are_words tokens zero = tt
tokens_are_words [] (suc count) = tt
tokens_are_words (t ∷ tokens) (suc count) = (ltb-false (terminal_of t.word) FORM_COUNT (word_is_no_form t.word), tokens_are_words tokens count)

at_start : (h : ℕ) → get_or {A = ℕ} (0 ∷ []) h 0 ≡ 0
at_start zero = refl
at_start (suc h) = refl

-- a way along rows that tell the tokens
pub record Around (rows : List ℕ) (tokens : List Token) (at : ℕ) : Type 0 where
  pub within : at < length (node_depths rows (start ∷ []))
  pub depth : HasDepth tokens at (open_brackets (terminals_of tokens) at + get_or (node_depths rows (start ∷ [])) at 0)

pub around : (rows : List ℕ) (tokens : List Token) (count at : ℕ) → count ≤ length tokens → TellTokens rows tokens count → at < count → Around rows tokens at
around rows tokens count at enough t lt =
    let all : length (terminals_of tokens) ≡ length tokens = length-map tokens (λ t. terminal_of t.word) in
    let size_is : length (take count (terminals_of tokens)) ≡ count = length-take-le count (terminals_of tokens) (omega arith) in
    let top : symbols (start ∷ []) ≡ roots t.tree = sym t.derives.top in
    let g = gives (size t.tree) t.tree (start ∷ []) rows (take count (terminals_of tokens)) (omega arith) t.derives.valid top
    (record { rest = t.rest; leaves_are = t.derives.bottom; are_words = tokens_are_words tokens count })
    (λ last j. t.told last (sym size_is ∙ j)) in
    let leaves_count : length (leaf_depths t.tree (start ∷ [])) ≡ count + length t.rest =
    length_leaf_depths t.tree (start ∷ []) t.derives.valid top ∙ (ap length t.derives.bottom ∙ (length-append (take count (terminals_of tokens)) t.rest ∙ ap (λ (n : ℕ). n + length t.rest) size_is)) in
    let told_is : node_depths rows (start ∷ []) ≡ take count (leaf_depths t.tree (start ∷ [])) ++ g.0 =
    g.1 ∙ ap (λ (n : ℕ). take n (leaf_depths t.tree (start ∷ [])) ++ g.0) size_is in
    let front : length (take count (leaf_depths t.tree (start ∷ []))) ≡ count = length-take-le count (leaf_depths t.tree (start ∷ [])) (omega arith) in
    let here : get_or (node_depths rows (start ∷ [])) at 0 ≡ get_or (take count (leaf_depths t.tree (start ∷ []))) at 0 =
    ap (λ (xs : List ℕ). get_or xs at 0) told_is ∙ get_or-append (take count (leaf_depths t.tree (start ∷ []))) g.0 0 at (omega arith) in
    let there : get_or (leaf_depths t.tree (start ∷ [])) at 0 ≡ get_or (take count (leaf_depths t.tree (start ∷ []))) at 0 =
    ap (λ (xs : List ℕ). get_or xs at 0) (sym (take-append-drop count (leaf_depths t.tree (start ∷ []))))
    ∙ get_or-append (take count (leaf_depths t.tree (start ∷ []))) (drop count (leaf_depths t.tree (start ∷ []))) 0 at (omega arith) in
    let leaf : get_or (leaf_depths t.tree (start ∷ [])) at 0 ≡ get_or {A = ℕ} (0 ∷ []) (holder t.tree at) 0 + count_by node_counts (open_around t.tree at) =
    leaf_depth t.tree (start ∷ []) at 0 t.derives.valid top (let e : length (leaf_depths t.tree (start ∷ [])) ≡ length (leaves t.tree) = length_leaf_depths t.tree (start ∷ []) t.derives.valid top in omega arith) in
    let zero_here : get_or {A = ℕ} (0 ∷ []) (holder t.tree at) 0 ≡ 0 = at_start (holder t.tree at) in
    let same : take (at + 1) (take count (terminals_of tokens)) ≡ take (at + 1) (terminals_of tokens) =
    sym (take-append-le (at + 1) (take count (terminals_of tokens)) (drop count (terminals_of tokens)) (omega arith)) ∙ ap (λ (xs : List ℕ). take (at + 1) xs) (take-append-drop count (terminals_of tokens)) in
    let split : take count (terminals_of tokens) ++ t.rest ≡ take (at + 1) (terminals_of tokens) ++ (drop (at + 1) (take count (terminals_of tokens)) ++ t.rest) =
    ap (λ (xs : List ℕ). xs ++ t.rest) (sym (take-append-drop (at + 1) (take count (terminals_of tokens))) ∙ ap (λ (xs : List ℕ). xs ++ drop (at + 1) (take count (terminals_of tokens))) same)
    ∙ append_assoc (take (at + 1) (terminals_of tokens)) (drop (at + 1) (take count (terminals_of tokens))) t.rest in
    record {
      within = (let e : length (node_depths rows (start ∷ [])) ≡ count + length g.0 = ap length told_is ∙ (length-append (take count (leaf_depths t.tree (start ∷ []))) g.0 ∙ ap (λ (n : ℕ). n + length g.0) front) in omega arith);
      depth = record {
        rest = drop (at + 1) (take count (terminals_of tokens)) ++ t.rest;
        tree = t.tree;
        within = omega arith;
        derives = subst (IsAllowedTree grammar_rows t.tree) split t.derives;
        counted = ap (λ (n : ℕ). open_brackets (terminals_of tokens) at + n) (let e : get_or (node_depths rows (start ∷ [])) at 0 ≡ count_by node_counts (open_around t.tree at) = omega arith in e);
      };
    }
