-- The loop over the tokens, at one token.
use Rattle.std.proofs.Common.{◌≡◌, ℕ, ◌+◌, ◌-◌, ◌<◌, ◌≤◌, Bool, true, false, List, [], ◌∷◌, length, take, drop, get_or, refl, sym, ap, ◌∙◌, subst, inl, inr, arith}
use Rattle.std.specs.List.{count_by}
use Rattle.std.proofs.lemmas.Bool.{cases_lt}
use mir.Val.{bool_byte}
use Rattle.std.proofs.Math.ListN.{get_or-append}
use Rattle.std.proofs.lemmas.List.{drop_more, length-map, get_or-map, length-take-le, take-append-drop}
use Rattle.std.proofs.lemmas.List.Sums.{count_by_more_no, count_by_more_yes}
use Rattle.p4_lexer.specs.declared.token.Token.{Token}
use Rattle.p4_grammar.specs.declared.limits.TheConstants.{MAX_DEPTH}
use Rattle.p4_grammar.specs.Words.{terminal_of, terminals_of}
use Rattle.p4_grammar.specs.Depth.{is_opening, is_closing, open_brackets, HasDepth, IsShallowBefore}
use Rattle.p4_grammar.specs.Descent.{TellTokens, start, node_depths}
use Rattle.p4_grammar.proofs.DepthLemmas.{depth_determined}
use Rattle.p4_grammar.proofs.TellLemmas.{one_if, around}

-- one token more
pub count_more : (p : ℕ → Bool) (tokens : List Token) (at symbol : ℕ) (t : Token) → at < length tokens → symbol ≡ terminal_of t.word → t ≡ get_or tokens at t →
    count_by p (take (at + 1) (terminals_of tokens)) ≡ count_by p (take at (terminals_of tokens)) + one_if (p symbol)
count_more p tokens at symbol t lt e got = by_test (p symbol) refl
  where
    size : at < length (terminals_of tokens)
    size = (let s : length (terminals_of tokens) ≡ length tokens = length-map tokens (λ t. terminal_of t.word) in omega arith)

    here : get_or (terminals_of tokens) at 0 ≡ symbol
    here = get_or-map (λ (u : Token). terminal_of u.word) tokens at t 0 lt ∙ (ap (λ (u : Token). terminal_of u.word) (sym got) ∙ sym e)

    by_test : (b : Bool) → p symbol ≡ b → count_by p (take (at + 1) (terminals_of tokens)) ≡ count_by p (take at (terminals_of tokens)) + one_if b
    by_test true q = count_by_more_yes p (terminals_of tokens) at 0 size (ap p here ∙ q)
    by_test false q = (let m = count_by_more_no p (terminals_of tokens) at 0 size (ap p here ∙ q) in omega (arith, m))

-- and the count with it
pub counted_more : (p : ℕ → Bool) (tokens : List Token) (at count symbol byte : ℕ) (t : Token) (passes : Bool) → at < length tokens → symbol ≡ terminal_of t.word → t ≡ get_or tokens at t →
    count ≡ count_by p (take at (terminals_of tokens)) → passes ≡ p symbol → byte ≡ bool_byte passes → count + byte ≡ count_by p (take (at + 1) (terminals_of tokens))
counted_more p tokens at count symbol byte t passes lt e got c f b =
    let one : byte ≡ one_if (p symbol) = b ∙ (ap bool_byte f ∙ byte_is (p symbol)) in
    let more = count_more p tokens at symbol t lt e got in
    omega (arith, more)
  where
    byte_is : (b : Bool) → bool_byte b ≡ one_if b
    byte_is true = refl
    byte_is false = refl

-- a token of the first ones
pub read_token : (tokens : List Token) (count at : ℕ) (t : Token) → count ≤ length tokens → at < count → t ≡ get_or (take count tokens) at t → t ≡ get_or tokens at t
read_token tokens count at t within lt e =
    let size : length (take count tokens) ≡ count = length-take-le count tokens within in
    e ∙ (sym (get_or-append (take count tokens) (drop count tokens) t at (omega arith)) ∙ ap (λ (ts : List Token). get_or ts at t) (take-append-drop count tokens))

module _ (rows : List ℕ) (tokens : List Token) (count at : ℕ) (within : count ≤ length tokens) (t : TellTokens rows tokens count) (lt : at < count) where
  more : drop at (node_depths rows (start ∷ [])) ≡ get_or (node_depths rows (start ∷ [])) at 0 ∷ drop (at + 1) (node_depths rows (start ∷ []))
  more = drop_more (node_depths rows (start ∷ [])) at 0 (around rows tokens count at within t lt).within

  pub tells_more : (ahead : List ℕ) → ahead ≡ drop at (node_depths rows (start ∷ [])) → ahead ≡ [] → ⊥
  tells_more ahead a e = (let q : [] ≡ get_or (node_depths rows (start ∷ [])) at 0 ∷ drop (at + 1) (node_depths rows (start ∷ [])) = sym e ∙ (a ∙ more) in cc)

  pub next_ahead : (ahead next : List ℕ) (d : ℕ) → ahead ≡ drop at (node_depths rows (start ∷ [])) → ahead ≡ d ∷ next → next ≡ drop (at + 1) (node_depths rows (start ∷ []))
  next_ahead ahead next d a e = (let q : d ∷ next ≡ get_or (node_depths rows (start ∷ [])) at 0 ∷ drop (at + 1) (node_depths rows (start ∷ [])) = sym e ∙ (a ∙ more) in cc)

  pub depth_here : (ahead next : List ℕ) (d opened closed : ℕ) → ahead ≡ drop at (node_depths rows (start ∷ [])) → ahead ≡ d ∷ next →
      opened ≡ count_by is_opening (take at (terminals_of tokens)) → closed ≡ count_by is_closing (take (at + 1) (terminals_of tokens)) → HasDepth tokens at ((opened - closed) + d)
  depth_here ahead next d opened closed a e o c =
      let q : d ∷ next ≡ get_or (node_depths rows (start ∷ [])) at 0 ∷ drop (at + 1) (node_depths rows (start ∷ [])) = sym e ∙ (a ∙ more) in
      let same : get_or (node_depths rows (start ∷ [])) at 0 ≡ d = cc in
      subst (λ (n : ℕ). HasDepth tokens at n)
      (ap (λ (n : ℕ). open_brackets (terminals_of tokens) at + n) same
      ∙ (ap (λ (n : ℕ). (n - count_by is_closing (take (at + 1) (terminals_of tokens))) + d) (sym o) ∙ ap (λ (n : ℕ). (opened - n) + d) (sym c)))
      (around rows tokens count at within t lt).depth

pub shallow_more : (tokens : List Token) (at depth : ℕ) → IsShallowBefore tokens at → HasDepth tokens at depth → depth ≤ MAX_DEPTH → IsShallowBefore tokens (at + 1)
shallow_more tokens at depth before h few k other lt o =
    elim (cases_lt k at) [
      | inl less ↦ before k other less o
      | inr more ↦ (
          let same : k ≡ at = omega arith in
          let one : other ≡ depth = depth_determined tokens at other depth (subst (λ (n : ℕ). HasDepth tokens n other) same o) h in
          omega arith)
    ]
