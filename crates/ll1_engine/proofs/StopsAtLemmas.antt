-- What a finished parse has found, and what a stopped one shows. Each symbol derives some list, so the stack that is
-- left once a token has matched derives one too. Hence the place of a stop is exact.
use Rattle.std.proofs.Common.{◌≡◌, ℕ, ◌+◌, ◌<◌, ◌≤◌, List, [], ◌∷◌, ◌++◌, length, take, None, refl, sym, ap, ◌∙◌, subst, append_assoc, arith}
use Rattle.std.proofs.lemmas.List.{append-nil, take_at, length-append}
use Rattle.ll1_engine.specs.declared.grammar.Row.{Row}
use Rattle.ll1_engine.specs.Trees.{Trees, End, Leaf, Node, roots, preorder, Productive}
use Rattle.ll1_engine.specs.Conditions.{IsGood}
use Rattle.ll1_engine.specs.Parse.{first_or, IsTreeOf, CanGoOn, StopsAt}
use Rattle.ll1_engine.proofs.FirstLemmas.{AreTokens, AreTokens_append, AreTokens_parts}
use Rattle.ll1_engine.proofs.ProductiveLemmas.{productive}
use Rattle.ll1_engine.proofs.StateLemmas.{Spans, Ranked, State}
use Rattle.ll1_engine.proofs.HasTreeLemmas.{derived_has_tree}

-- nothing is left on the stack, and no token
pub tree_found : (g : List Row) (tokens rows : List ℕ) → AreTokens g tokens → State g tokens [] rows [] → IsTreeOf g rows tokens
tree_found g tokens rows t st =
    let s = st.grown [] (record { trees = End; valid = tt; top = refl; bottom = refl; order = refl; ranks = tt }) in
    record { tree = s.trees; allowed = record { valid = s.valid; top = s.top; bottom = s.bottom ∙ append-nil tokens; terminal = t; ranks = s.ranks }; order = s.order ∙ append-nil rows }

pub tree_only : (g : List Row) (tokens rows other : List ℕ) → State g tokens [] rows [] → IsTreeOf g other tokens → other ≡ rows
tree_only g tokens rows other st t =
    let q = st.only other (let a = t.allowed in record { trees = t.tree; valid = a.valid; top = a.top; bottom = a.bottom ∙ sym (append-nil tokens); order = t.order; ranks = a.ranks }) in
    q.2 ∙ (ap (λ (zs : List ℕ). rows ++ zs) (no_rows q.0 q.1) ∙ append-nil rows)
  where
    none : (f : Trees) (more : List ℕ) → roots f ≡ [] → preorder f ≡ more → more ≡ []
    none End more e o = sym o
    none (Leaf x f) more e o = absurd (cc)
    none (Node k r c f) more e o = absurd (cc)

    no_rows : (more : List ℕ) → Ranked g [] [] more → more ≡ []
    no_rows more r = none r.trees more r.top r.order

-- no list with a tree begins with what was taken and the token after it
past : (g : List Row) (taken tokens : List ℕ) (place : ℕ) (more : List ℕ) → length taken ≡ place → tokens ≡ taken ++ more
    → ((ts : List ℕ) → first_or ts None ≡ first_or more None → ¬ Spans g (0 ∷ []) (taken ++ ts)) → place < length tokens → ¬ CanGoOn g (take (place + 1) tokens)
past g taken tokens place [] at w none lt c = absurd (let e : length tokens ≡ length taken + 0 = ap length w ∙ length-append taken [] in omega arith)
past g taken tokens place (t ∷ us) at w none lt c =
    let front : take (place + 1) tokens ≡ taken ++ t ∷ [] = ap (λ (zs : List ℕ). take (place + 1) zs) (w ∙ sym (append_assoc taken (t ∷ []) us)) ∙ take_at (taken ++ t ∷ []) us (place + 1) (let e : length (taken ++ t ∷ []) ≡ length taken + 1 = length-append taken (t ∷ []) in omega arith) in
    let d = c.whole.tree.allowed in
    none (t ∷ c.rest) refl (record {
      trees = c.whole.tree.tree;
      valid = d.valid;
      top = d.top;
      bottom = d.bottom ∙ (ap (λ (zs : List ℕ). zs ++ c.rest) front ∙ append_assoc taken (t ∷ []) c.rest);
    })

-- the stack derives nothing that goes on with the token that stands next
pub stopped : (g : List Row) → IsGood g → (tokens taken rest rows stack : List ℕ) → tokens ≡ taken ++ rest → AreTokens g tokens → State g taken rest rows stack
    → ((ts : List ℕ) → first_or ts None ≡ first_or rest None → ¬ Spans g stack ts) → (place : ℕ) → length taken ≡ place → StopsAt g tokens place
stopped g good tokens taken rest rows stack whole terminal st stuck place at =
    record {
      within = within;
      before = subst (CanGoOn g) (sym front) (record {
        rest = a.tokens;
        whole = derived_has_tree g good (taken ++ a.tokens) (record {
          trees = s.trees;
          valid = s.valid;
          top = s.top;
          bottom = s.bottom;
          terminal = AreTokens_append g taken a.tokens (AreTokens_parts g taken rest (subst (AreTokens g) whole terminal)).0 a.derives.terminal;
        });
      });
      stuck = λ lt c. past g taken tokens place rest at whole (λ ts e sp. stuck ts e (st.any ts e sp)) lt c;
      treeless = λ h. (let d = h.tree.allowed in stuck rest refl (st.any rest refl (record { trees = h.tree.tree; valid = d.valid; top = d.top; bottom = d.bottom ∙ whole })));
    }
  where
    front : take place tokens ≡ taken
    front = ap (λ (zs : List ℕ). take place zs) whole ∙ take_at taken rest place at

    within : place ≤ length tokens
    within = let e : length tokens ≡ length taken + length rest = ap length whole ∙ length-append taken rest in omega arith

    a : Productive g stack
    a = productive g good stack

    s : Spans g (0 ∷ []) (taken ++ a.tokens)
    s = st.begun a.tokens (record { trees = a.derives.trees; valid = a.derives.valid; top = a.derives.top; bottom = a.derives.bottom })
