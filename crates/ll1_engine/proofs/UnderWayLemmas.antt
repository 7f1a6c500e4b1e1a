-- The loop of the parser, over plain lists: the start, each step, each stop and the end.
use Rattle.std.proofs.Common.{◌≡◌, ℕ, ◌+◌, ◌<◌, ◌≤◌, List, [], ◌∷◌, ◌++◌, length, take, drop, get_or, Option, None, Some, Result, Ok, Err, Bool, true, refl, sym, ap, ◌∙◌, subst, inl, inr, append_assoc, arith}
use Rattle.std.proofs.lemmas.List.{append-nil, take-append-drop, length-take-le, take_more, drop_more, drop_all, take_all}
use Rattle.std.specs.Prelude.{OnOk, is_ok}
use Rattle.std.specs.List.{AllByRecursion}
use Rattle.ll1_engine.specs.declared.grammar.Row.{Row}
use Rattle.ll1_engine.specs.declared.fault.Stop.{Stop}
use Rattle.ll1_engine.specs.declared.fault.ParseFault.{ParseFault}
use Rattle.ll1_engine.specs.declared.fault.ParseFault.TheVariants.{Stop as Stopped}
use Rattle.ll1_engine.specs.Table.{IsRow, IsToken, FitsIn}
use Rattle.ll1_engine.specs.Conditions.{IsGood}
use Rattle.ll1_engine.specs.Prediction.{Predicts}
use Rattle.ll1_engine.specs.Trees.{Trees, End, Leaf, Node, roots, leaves, AreTrees}
use Rattle.ll1_engine.specs.Parse.{first_or, IsTreeOf, IsAllowedTree, StopsAt}
use Rattle.ll1_engine.specs.Open.{rows_before, TellTrees}
use Rattle.ll1_engine.proofs.StateLemmas.{Spans, State, State_start, State_expand, State_take, Spans_token, stuck_choice}
use Rattle.ll1_engine.proofs.FirstLemmas.{AreTokens}
use Rattle.ll1_engine.proofs.StopsAtLemmas.{tree_found, tree_only, stopped}

-- the stack is what is to be derived after the tokens before `at`
pub record IsUnderWay (symbols : ℕ) (g : List Row) (tokens : List ℕ) (place : ℕ) (rows stack : List ℕ) : Type 0 where
  pub within : place ≤ length tokens
  pub below : AllByRecursion (λ y. y < symbols) stack
  pub state : State g (take place tokens) (drop place tokens) rows stack
  pub told : TellTrees g rows tokens place

-- what the parser asks of its tokens
abbrev pub Known : ℕ → List Row → List ℕ → Type 0
Known symbols g tokens = AllByRecursion (λ t. (t < symbols) × IsToken g t) tokens

pub tokens_known : (n : ℕ) (g : List Row) (ts : List ℕ) → Known n g ts → AreTokens g ts
tokens_known n g [] h = tt
tokens_known n g (t ∷ ts) h = (h.0.1, tokens_known n g ts h.1)

pub known_drop : (n : ℕ) (g : List Row) (ts : List ℕ) (i : ℕ) (t : ℕ) (us : List ℕ) → Known n g ts → drop i ts ≡ t ∷ us → (t < n) × IsToken g t
known_drop n g [] i t us h e = absurd (nil_drop i e)
  where
    nil_drop : (i : ℕ) → drop i [] ≡ t ∷ us → ⊥
    nil_drop Rattle.std.proofs.Common.zero e = cc
    nil_drop (Rattle.std.proofs.Common.suc i) e = cc
known_drop n g (x ∷ ts) Rattle.std.proofs.Common.zero t us h e = let same : x ≡ t = cc in subst (λ (z : ℕ). (z < n) × IsToken g z) same h.0
known_drop n g (x ∷ ts) (Rattle.std.proofs.Common.suc i) t us h e = known_drop n g ts i t us h.1 e

pub below_append : (n : ℕ) (xs ys : List ℕ) → AllByRecursion (λ y. y < n) xs → AllByRecursion (λ y. y < n) ys → AllByRecursion (λ y. y < n) (xs ++ ys)
below_append n [] ys a b = b
below_append n (x ∷ xs) ys a b = (a.0, below_append n xs ys a.1 b)

pub ok_gives : {T E : Type 0} (r : Result T E) (P : Type 0) → true ≡ is_ok r → OnOk r P → P
ok_gives (Ok x) P e h = h
ok_gives (Err d) P e h = absurd (cc)

-- what holds of the stop that is answered
pub of_stop : {T : Type 0} (P : Stop → Type 0) (place : ℕ) (rows : List ℕ) (fault : ParseFault) (stop : Stop) → fault ≡ Stopped (record { at = place; rows = rows }) → ◌≡◌ {A = Result T ParseFault} (Err fault) (Err (Stopped stop))
    → P (record { at = place; rows = rows }) → P stop
of_stop {T} P place rows fault stop e f p = subst P (same (record { at = place; rows = rows }) e) p
  where
    same : (s : Stop) → fault ≡ Stopped s → s ≡ stop
    same s e = cc

-- the predicted row is a row of the symbol
pub predicted : (g : List Row) (x : ℕ) (next : Option ℕ) (k : ℕ) → Predicts g x next (Some k) → (r : Row) × IsRow g k r × (r.left ≡ x)
predicted g x None k p = (p.0, p.1, p.2)
predicted g x (Some t) k (inl p) = let same : p.0 ≡ k = cc in (p.2.0, subst (λ (z : ℕ). IsRow g z p.2.0) same p.2.1, p.2.2)
predicted g x (Some t) k (inr p) = (p.1.0, p.1.1, p.1.2)

some_first : (ts : List ℕ) (t : ℕ) → first_or ts None ≡ Some t → (us : List ℕ) × (ts ≡ t ∷ us)
some_first [] t e = absurd (cc)
some_first (x ∷ ts) t e = let same : x ≡ t = cc in (ts, ap (λ (z : ℕ). z ∷ ts) same)

module _ (n rows_count : ℕ) (g : List Row) (good : IsGood g) (fits : FitsIn n rows_count g) (tokens : List ℕ) (known : Known n g tokens) where
  pub under_way_start : (stack : List ℕ) → stack ≡ 0 ∷ [] → IsUnderWay n g tokens 0 [] stack
  under_way_start stack e =
      subst (IsUnderWay n g tokens 0 []) (sym e) (record { within = omega arith; below = (fits.start, tt); state = State_start g tokens; told = λ tree rest last a e. absurd (omega (arith, e)) })

  module _ (place : ℕ) (rows stack : List ℕ) (w : IsUnderWay n g tokens place rows stack) where
    whole : tokens ≡ take place tokens ++ drop place tokens
    whole = sym (take-append-drop place tokens)

    -- what stands next is a token below n
    pub next_below : (t : ℕ) (us : List ℕ) → drop place tokens ≡ t ∷ us → (t < n) × IsToken g t
    next_below t us e = known_drop n g tokens place t us known e

    stops : ((ts : List ℕ) → first_or ts None ≡ first_or (drop place tokens) None → ¬ Spans g stack ts) → StopsAt g tokens place
    stops stuck = stopped g good tokens (take place tokens) (drop place tokens) rows stack whole (tokens_known n g tokens known) w.state stuck place (length-take-le place tokens w.within)

    -- a token on the stack that does not stand next
    pub stop_at_token : (x : ℕ) (xs : List ℕ) → stack ≡ x ∷ xs → IsToken g x → ¬ (first_or (drop place tokens) None ≡ Some x) → StopsAt g tokens place
    stop_at_token x xs e tok none =
        stops (λ ts f s. let q = Spans_token g x xs ts tok (subst (λ (zs : List ℕ). Spans g zs ts) e s) in none (sym f ∙ ap (λ (zs : List ℕ). first_or zs None) q.1))

    -- a symbol for which no row is predicted
    pub stop_at_symbol : (x : ℕ) (xs : List ℕ) → stack ≡ x ∷ xs → ¬ IsToken g x → Predicts g x (first_or (drop place tokens) None) None → StopsAt g tokens place
    stop_at_symbol x xs e inner p =
        stops (λ ts f s. stuck_choice g good x xs ts inner (λ t us i. token_next ts t us f i) (subst (λ (z : Option ℕ). Predicts g x z None) (sym f) p)
        (subst (λ (zs : List ℕ). Rattle.ll1_engine.proofs.FirstLemmas.Follows g zs) e w.state.follows) (subst (λ (zs : List ℕ). Spans g zs ts) e s))
      where
        token_next : (ts : List ℕ) (t : ℕ) (us : List ℕ) → first_or ts None ≡ first_or (drop place tokens) None → ts ≡ t ∷ us → IsToken g t
        token_next ts t us f i = let q = some_first (drop place tokens) t (sym f ∙ ap (λ (zs : List ℕ). first_or zs None) i) in (next_below t q.0 q.1).1

    -- tokens are left, and nothing is on the stack
    pub stop_at_end : stack ≡ [] → place < length tokens → StopsAt g tokens place
    stop_at_end e lt = stops (λ ts f s. left_over ts (drop place tokens) (ap length (drop_more tokens place 0 lt)) f (subst (λ (zs : List ℕ). Spans g zs ts) e s))
      where
        left_over : (ts us : List ℕ) → length us ≡ length (get_or tokens place 0 ∷ drop (place + 1) tokens) → first_or ts None ≡ first_or us None → ¬ Spans g [] ts
        left_over ts [] l f s = (let h : 0 ≡ length (get_or tokens place 0 ∷ drop (place + 1) tokens) = l in omega arith)
        left_over [] (u ∷ us) l f s = (cc)
        left_over (t ∷ ts) (u ∷ us) l f s = rootless s.trees s.top s.bottom
          where
            rootless : (h : Trees) → roots h ≡ [] → leaves h ≡ t ∷ ts → ⊥
            rootless End a b = cc
            rootless (Leaf y h) a b = cc
            rootless (Node k r c h) a b = cc

    -- the token on the stack stands next
    pub under_way_token : (x : ℕ) (xs : List ℕ) → stack ≡ x ∷ xs → IsToken g x → first_or (drop place tokens) None ≡ Some x → IsUnderWay n g tokens (place + 1) rows xs
    under_way_token x xs e tok next =
        let q = some_first (drop place tokens) x next in
        let lt : place < length tokens = within_of q.0 q.1 in
        let more : drop place tokens ≡ get_or tokens place 0 ∷ drop (place + 1) tokens = drop_more tokens place 0 lt in
        let same : get_or tokens place 0 ≡ x = (let i : get_or tokens place 0 ∷ drop (place + 1) tokens ≡ x ∷ q.0 = sym more ∙ q.1 in cc) in
        let front : take (place + 1) tokens ≡ take place tokens ++ x ∷ [] = take_more tokens place 0 lt ∙ ap (λ (z : ℕ). take place tokens ++ z ∷ []) same in
        let st : State g (take place tokens) (x ∷ drop (place + 1) tokens) rows (x ∷ xs) =
        subst (λ (zs : List ℕ). State g (take place tokens) (x ∷ drop (place + 1) tokens) rows zs) e
        (subst (λ (zs : List ℕ). State g (take place tokens) zs rows stack) (more ∙ ap (λ (z : ℕ). z ∷ drop (place + 1) tokens) same) w.state) in
        let b : AllByRecursion (λ y. y < n) (x ∷ xs) = subst (AllByRecursion (λ y. y < n)) e w.below in
        record {
          within = omega arith;
          below = b.1;
          state = subst (λ (zs : List ℕ). State g zs (drop (place + 1) tokens) rows xs) (sym front) (State_take g (take place tokens) (drop (place + 1) tokens) rows xs x tok st);
          told = λ tree rest last a e. told_by_taking xs tok front st tree rest last a (omega (arith, e));
        }
      where
        -- the node of the token on the stack begins behind all of the rows
        told_by_taking : (ys : List ℕ) → IsToken g x → take (place + 1) tokens ≡ take place tokens ++ x ∷ [] → State g (take place tokens) (x ∷ drop (place + 1) tokens) rows (x ∷ ys)
            → (tree : Trees) (rest : List ℕ) (last : ℕ) → IsAllowedTree g tree (take (place + 1) tokens ++ rest) → last ≡ place → (more : List ℕ) × (rows ≡ rows_before tree last ++ more)
        told_by_taking ys tok front st tree rest last a e =
            let leaves_are : leaves tree ≡ take place tokens ++ x ∷ rest = a.bottom ∙ (ap (λ (zs : List ℕ). zs ++ rest) front ∙ append_assoc (take place tokens) (x ∷ []) rest) in
            let q = st.left (x ∷ rest) tree refl (record { valid = a.valid; top = a.top; bottom = leaves_are; ranks = a.ranks }) in
            let b : rows_before tree (length (take place tokens) + 0) ≡ rows = q.behind_rows 0 ∙ (ap (λ (zs : List ℕ). rows ++ zs) (token_first q.trees q.valid q.top tok) ∙ append-nil rows) in
            let n : length (take place tokens) ≡ place = length-take-le place tokens w.within in
            let m : length (take place tokens) + 0 ≡ last = omega arith in
            ([], sym b ∙ (ap (rows_before tree) m ∙ sym (append-nil (rows_before tree last))))
          where
            token_first : (f : Trees) → AreTrees g f → roots f ≡ x ∷ ys → IsToken g x → rows_before f 0 ≡ []
            token_first End v top t = absurd (cc)
            token_first (Leaf y f) v top t = refl
            token_first (Node k r c f) v top t = absurd (t k r v.0 (cc))

        within_of : (us : List ℕ) → drop place tokens ≡ x ∷ us → place < length tokens
        within_of us i = elim (Rattle.std.proofs.lemmas.Bool.cases_lt place (length tokens)) [
          | inl lt ↦ lt
          | inr ge ↦ absurd (let z : drop place tokens ≡ [] = drop_all place tokens ge in let j : x ∷ us ≡ [] = sym i ∙ z in cc)
        ]

    -- the predicted row in place of its symbol
    pub under_way_row : (x : ℕ) (xs : List ℕ) (k : ℕ) (r : Row) → stack ≡ x ∷ xs → Predicts g x (first_or (drop place tokens) None) (Some k) → IsRow g k r → (stack' : List ℕ) → stack' ≡ r.right ++ xs → IsUnderWay n g tokens place (rows ++ k ∷ []) stack'
    under_way_row x xs k r e p h stack' e' =
        let q = predicted g x (first_or (drop place tokens) None) k p in
        let one : q.0 ≡ r = Rattle.ll1_engine.proofs.TreesLemmas.same_row g k q.0 r q.1 h in
        let left : r.left ≡ x = ap (λ (z : Row). z.left) (sym one) ∙ q.2 in
        let st : State g (take place tokens) (drop place tokens) rows (r.left ∷ xs) = subst (λ (zs : List ℕ). State g (take place tokens) (drop place tokens) rows zs) (e ∙ ap (λ (z : ℕ). z ∷ xs) (sym left)) w.state in
        let b : AllByRecursion (λ y. y < n) (x ∷ xs) = subst (AllByRecursion (λ y. y < n)) e w.below in
        subst (IsUnderWay n g tokens place (rows ++ k ∷ [])) (sym e') (record {
          within = w.within;
          below = below_append n r.right xs (fits.below k r h).right b.1;
          told = λ tree rest last a i. (let m = w.told tree rest last a i in
              (m.0 ++ k ∷ [], ap (λ (zs : List ℕ). zs ++ k ∷ []) m.1 ∙ append_assoc (rows_before tree last) m.0 (k ∷ [])));
          state = State_expand g good (take place tokens) (drop place tokens) rows xs k r h (λ t us i. (next_below t us i).1) (subst (λ (z : ℕ). Predicts g z (first_or (drop place tokens) None) (Some k)) (sym left) p) st;
        })

    finished : stack ≡ [] → length tokens ≤ place → State g tokens [] rows []
    finished e ge =
        subst (λ (zs : List ℕ). State g tokens [] rows zs) e
        (subst (λ (zs : List ℕ). State g tokens zs rows stack) (drop_all place tokens ge) (subst (λ (zs : List ℕ). State g zs (drop place tokens) rows stack) (take_all place tokens ge) w.state))

    pub tree_at_end : stack ≡ [] → length tokens ≤ place → IsTreeOf g rows tokens
    tree_at_end e ge = tree_found g tokens rows (tokens_known n g tokens known) (finished e ge)

    pub only_at_end : stack ≡ [] → length tokens ≤ place → (other : List ℕ) → IsTreeOf g other tokens → other ≡ rows
    only_at_end e ge other t = tree_only g tokens rows other (finished e ge) t
