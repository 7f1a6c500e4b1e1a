-- Tokens are read in one way: they have at most one tree or one refusal, never both, and not neither.
use Rattle.std.proofs.Common.{◌≡◌, ℕ, zero, suc, ◌+◌, ◌<◌, ◌≤◌, List, [], ◌∷◌, ◌++◌, length, take, drop, Option, None, Some, MatchOption, refl, sym, ap, ◌∙◌, subst, inl, inr, append_assoc, arith}
use Rattle.std.specs.Prelude.{slice_get}
use Rattle.std.proofs.lemmas.Bool.{cases_lt}
use Rattle.std.proofs.lemmas.List.{length-take-le, take-append-drop, take-append-le}
use Rattle.std.proofs.lemmas.Option.{same_Some}
use Rattle.tg_base.specs.declared.place.Span.{Span}
use Rattle.tg_base.specs.declared.place.Refusal.{Refusal}
use Rattle.tg_base.specs.declared.place.Code.{Code}
use Rattle.tg_base.specs.declared.place.Code.TheVariants.{Syntax, TooDeep}
use Rattle.p4_lexer.specs.declared.token.Token.{Token}
use Rattle.p4_lexer.specs.declared.token.Tokens.{Tokens}
use Rattle.p4_tree.specs.declared.declarations.Source.{Source}
use Rattle.ll1_engine.specs.Trees.{Trees, preorder}
use Rattle.ll1_engine.specs.Parse.{HasTree, CanGoOn, StopsAt}
use Rattle.ll1_engine.proofs.OneTreeLemmas.{one_tree}
use Rattle.ll1_engine.proofs.ProductiveLemmas.{productive}
use Rattle.ll1_engine.proofs.HasTreeLemmas.{derived_has_tree}
use Rattle.p4_grammar.specs.declared.limits.TheConstants.{MAX_DEPTH}
use Rattle.p4_grammar.specs.Rows.{grammar_rows}
use Rattle.p4_grammar.specs.Words.{terminals_of}
use Rattle.p4_grammar.specs.Derivation.{HasDerivation, IsPlaceOf}
use Rattle.p4_grammar.specs.Depth.{HasDepth, IsShallow, IsShallowBefore, IsFirstDeep, IsDepthFault}
use Rattle.p4_grammar.specs.Parses.{Parse, trees_of, tokens_in, IsParseOf}
use Rattle.p4_grammar.specs.Walk.{told_by}
use Rattle.p4_grammar.specs.Sources.{IsSourceOf, parts_of}
use Rattle.p4_grammar.specs.Reading.{IsReading, IsReadFault}
use Rattle.p4_grammar.proofs.GoodTable.{good_table}
use Rattle.p4_grammar.proofs.WalkLemmas.{told_is}

one_parse : (tokens : List Token) (p q : Parse) → IsParseOf p tokens → IsParseOf q tokens → q ≡ p
one_parse tokens p q a b =
    let trees : trees_of q ≡ trees_of p = one_tree grammar_rows good_table (terminals_of tokens) (trees_of p) (trees_of q) a.derives b.derives in
    sym (told_is q b.derives.valid b.derives.top)
    ∙ (ap (λ (t : Trees). told_by (preorder t) (tokens_in q)) trees
    ∙ (ap (λ (ts : List Token). told_by (preorder (trees_of p)) ts) (b.bears ∙ sym a.bears) ∙ told_is p a.derives.valid a.derives.top))

same_source : (s t : Source) → t.parts ≡ s.parts → t.end ≡ s.end → t ≡ s
same_source s t p e = λ i. record { parts = p i; end = e i }

pub one_source : (tokens : Tokens) (source other : Source) → IsSourceOf source tokens → IsSourceOf other tokens → other ≡ source
one_source tokens source other a b =
    let parse : b.parse ≡ a.parse = one_parse tokens.tokens a.parse b.parse a.derives b.derives in
    same_source source other (same_Some other.parts source.parts (sym b.parts ∙ (ap parts_of parse ∙ a.parts))) (b.end ∙ sym a.end)

-- what begins a list that goes on goes on too
begins_on : (ts : List ℕ) (m n : ℕ) → m ≤ n → n ≤ length ts → CanGoOn grammar_rows (take n ts) → CanGoOn grammar_rows (take m ts)
begins_on ts m n few within on =
    let size : length (take n ts) ≡ n = length-take-le n ts within in
    let same : take m (take n ts) ≡ take m ts =
    sym (take-append-le m (take n ts) (drop n ts) (omega arith)) ∙ ap (λ (xs : List ℕ). take m xs) (take-append-drop n ts) in
    let split : take n ts ++ on.rest ≡ take m ts ++ (drop m (take n ts) ++ on.rest) =
    ap (λ (xs : List ℕ). xs ++ on.rest) (sym (take-append-drop m (take n ts)) ∙ ap (λ (xs : List ℕ). xs ++ drop m (take n ts)) same)
    ∙ append_assoc (take m ts) (drop m (take n ts)) on.rest in
    record { rest = drop m (take n ts) ++ on.rest; whole = subst (HasTree grammar_rows) split on.whole }

not_later : (ts : List ℕ) (p q : ℕ) → StopsAt grammar_rows ts p → StopsAt grammar_rows ts q → p < q → ⊥
not_later ts p q a b less = a.stuck (omega (arith, b.within)) (begins_on ts (p + 1) q (omega arith) b.within b.before)

stops_once : (ts : List ℕ) (p q : ℕ) → StopsAt grammar_rows ts p → StopsAt grammar_rows ts q → p ≡ q
stops_once ts p q a b =
    elim (cases_lt p q) [
      | inl less ↦ absurd (not_later ts p q a b less)
      | inr more ↦ elim (cases_lt q p) [ inl less ↦ absurd (not_later ts q p b a less) | inr same ↦ omega arith ]
    ]

not_deeper : (tokens : List Token) (p q : ℕ) → IsFirstDeep tokens p → IsFirstDeep tokens q → p < q → ⊥
not_deeper tokens p q a b less = (let few = b.first p a.depth less a.here in let over = a.over in omega arith)

deep_once : (tokens : List Token) (p q : ℕ) → IsFirstDeep tokens p → IsFirstDeep tokens q → p ≡ q
deep_once tokens p q a b =
    elim (cases_lt p q) [
      | inl less ↦ absurd (not_deeper tokens p q a b less)
      | inr more ↦ elim (cases_lt q p) [ inl less ↦ absurd (not_deeper tokens q p b a less) | inr same ↦ omega arith ]
    ]

same_span : (o : Option Token) (end a b : Span) → MatchOption o (a ≡ end) (λ t. a ≡ t.span) → MatchOption o (b ≡ end) (λ t. b ≡ t.span) → a ≡ b
same_span None end a b x y = x ∙ sym y
same_span (Some t) end a b x y = x ∙ sym y

same_refusal : (tokens : Tokens) (at : ℕ) (r s : Refusal) → r.code ≡ s.code → IsPlaceOf tokens at (record { line = r.line; column = r.column }) → IsPlaceOf tokens at (record { line = s.line; column = s.column }) → r ≡ s
same_refusal tokens at r s code x y =
    let place = same_span (slice_get tokens.tokens at) tokens.end (record { line = r.line; column = r.column }) (record { line = s.line; column = s.column }) x y in
    λ i. record { code = code i; line = (place i).line; column = (place i).column }

not_deep : (tokens : Tokens) (refusal : Refusal) → IsShallow tokens.tokens → IsDepthFault tokens refusal → ⊥
not_deep tokens refusal few fault = (let most = few fault.at fault.deep.depth fault.deep.here in let over = fault.deep.over in omega arith)

pub one_refusal : (tokens : Tokens) (r s : Refusal) → IsReadFault tokens r → IsReadFault tokens s → r ≡ s
one_refusal tokens r s (inl a) (inl b) =
    let at : a.at ≡ b.at = deep_once tokens.tokens a.at b.at a.deep b.deep in
    same_refusal tokens a.at r s (a.code ∙ sym b.code) a.place (subst (λ (n : ℕ). IsPlaceOf tokens n (record { line = s.line; column = s.column })) (sym at) b.place)
one_refusal tokens r s (inl a) (inr b) = absurd (not_deep tokens r b.0 a)
one_refusal tokens r s (inr a) (inl b) = absurd (not_deep tokens s a.0 b)
one_refusal tokens r s (inr a) (inr b) =
    let at : a.1.at ≡ b.1.at = stops_once (terminals_of tokens.tokens) a.1.at b.1.at a.1.stops b.1.stops in
    same_refusal tokens a.1.at r s (a.1.code ∙ sym b.1.code) a.1.place (subst (λ (n : ℕ). IsPlaceOf tokens n (record { line = s.line; column = s.column })) (sym at) b.1.place)

-- tokens that have a derivation and are shallow are not refused
pub derived_or_refused : (tokens : Tokens) (refusal : Refusal) → HasDerivation tokens.tokens → IsShallow tokens.tokens → IsReadFault tokens refusal → ⊥
derived_or_refused tokens refusal derived shallow (inl fault) = not_deep tokens refusal shallow fault
derived_or_refused tokens refusal derived shallow (inr fault) = fault.1.stops.treeless derived

pub no_both : (tokens : Tokens) (source : Source) (refusal : Refusal) → IsReading source tokens → IsReadFault tokens refusal → ⊥
no_both tokens source refusal read fault =
    derived_or_refused tokens refusal (record { rows = _; tree = record { tree = trees_of read.tree.parse; allowed = read.tree.derives.derives; order = refl } }) read.shallow fault

-- each token, and the end, has a place
span_of : (o : Option Token) (end : Span) → (span : Span) × MatchOption o (span ≡ end) (λ t. span ≡ t.span)
span_of None end = (end, refl)
span_of (Some t) end = (t.span, refl)

refusal_at : (tokens : Tokens) (at : ℕ) (code : Code) → (refusal : Refusal) × (refusal.code ≡ code) × IsPlaceOf tokens at (record { line = refusal.line; column = refusal.column })
refusal_at tokens at code =
    let s = span_of (slice_get tokens.tokens at) tokens.end in
    (record { code = code; line = s.0.line; column = s.0.column }, refl, s.1)

module _ (tokens : Tokens) (none : (refusal : Refusal) → IsReadFault tokens refusal → ⊥) where
  shallow_before : (n : ℕ) → IsShallowBefore tokens.tokens n
  shallow_before zero k depth lt h = absurd (omega arith)
  shallow_before (suc n) k depth lt h =
      elim (cases_lt k n) [
        | inl less ↦ shallow_before n k depth less h
        | inr more ↦ elim (cases_lt MAX_DEPTH depth) [
          | inl over ↦ absurd (
              let at : k ≡ n = omega arith in
              let r = refusal_at tokens n TooDeep in
              none r.0 (inl (record {
                at = n;
                deep = record { depth = depth; here = subst (λ (m : ℕ). HasDepth tokens.tokens m depth) at h; over = over; first = shallow_before n };
                code = r.1;
                place = r.2;
              })))
          | inr few ↦ few
        ]
      ]

  -- tokens that are not refused are shallow
  pub unrefused_shallow : IsShallow tokens.tokens
  unrefused_shallow k depth h = shallow_before (suc k) k depth (omega arith) h

  never_stops : (at : ℕ) → StopsAt grammar_rows (terminals_of tokens.tokens) at → ⊥
  never_stops at stops =
      let r = refusal_at tokens at Syntax in
      none r.0 (inr (unrefused_shallow, record { at = at; stops = stops; code = r.1; place = r.2 }))

  start_goes_on : CanGoOn grammar_rows []
  start_goes_on =
      let p = productive grammar_rows good_table (0 ∷ []) in
      record { rest = p.tokens; whole = derived_has_tree grammar_rows good_table p.tokens p.derives }

  module _ (underived : HasDerivation tokens.tokens → ⊥) where
    goes_on : (n : ℕ) → n ≤ length (terminals_of tokens.tokens) → (CanGoOn grammar_rows (take n (terminals_of tokens.tokens)) → ⊥) → ⊥
    goes_on zero within stuck = stuck start_goes_on
    goes_on (suc n) within stuck =
        goes_on n (omega arith) (λ on. never_stops n (record {
          within = omega arith;
          before = on;
          stuck = λ lt more. stuck (subst (λ (m : ℕ). CanGoOn grammar_rows (take m (terminals_of tokens.tokens))) (let e : n + 1 ≡ suc n = omega arith in e) more);
          treeless = underived;
        }))

    underived_refused : ⊥
    underived_refused =
        let n : ℕ = length (terminals_of tokens.tokens) in
        goes_on n (omega arith) (λ on. never_stops n (record { within = omega arith; before = on; stuck = λ lt more. absurd (omega arith); treeless = underived }))

  -- and are not without a derivation
  pub unrefused_derived : (HasDerivation tokens.tokens → ⊥) → ⊥
  unrefused_derived underived = underived_refused underived
