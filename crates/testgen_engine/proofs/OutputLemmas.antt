-- Lemmas on what calls add to outputs.
use Rattle.std.proofs.Common.{◌≡◌, ◌≢◌, ℕ, ◌-◌, ◌<◌, ◌≤◌, true, false, if◌then◌else◌, List, [], ◌++◌, length, take, drop, refl, ap, sym, ◌∙◌, subst, append_assoc, arith, length-take, Result, Ok, Err, IsErr}
use Rattle.std.proofs.lemmas.Result.{MatchResult-from_err}
use Rattle.std.proofs.lemmas.Bool.{eqb-true, eq-eqb, false≢true}
use Rattle.tg_base.specs.declared.desk.Out.{Out}
use Rattle.tg_base.specs.declared.desk.Out.TheVariants.{Report, Proofs, Test, Notes}
use Rattle.tg_base.specs.Moment.{Moment, output_after}
use Rattle.tg_base.proofs.MomentLaws.{output_after_twice, output_after_nothing}
use Rattle.testgen_engine.specs.Findings.{IsPrefix}
use Rattle.testgen_engine.proofs.Lists.{take-rest}
use Rattle.testgen_engine.specs.Outputs.{is_same, only, Adds, AddsPrefixes, TakesPiece, Writes}

-- what one call and then another add
pub adds_both : (first second third : Moment) (a b : Out → List ℕ) → Adds first second a → Adds second third b → Adds first third (λ out. a out ++ b out)
adds_both first second third a b h k = record {
  each = λ out. k.each out ∙ ap (λ o. output_after o (b out)) (h.each out) ∙ output_after_twice (first.outputs out) (a out) (b out);
}

-- outputs that stay have nothing added
pub adds_nothing : (before after : Moment) → ((out : Out) → after.outputs out ≡ before.outputs out) → Adds before after (λ out. [])
adds_nothing before after h = record { each = λ out. h out ∙ sym (output_after_nothing (before.outputs out)) }

-- a text that is equal is added as well
pub adds_equal : (before after : Moment) (a b : Out → List ℕ) → ((out : Out) → a out ≡ b out) → Adds before after a → Adds before after b
adds_equal before after a b e h = record { each = λ out. h.each out ∙ ap (output_after (before.outputs out)) (e out) }

-- outputs that are compared are one just where the test says so
pub same-is_same : (a b : Out) → is_same a b ≡ true → a ≡ b
same-is_same Report Report h = refl
same-is_same Proofs Proofs h = refl
same-is_same (Test m) (Test n) h = ap Test (eqb-true m n h)
same-is_same Notes Notes h = refl
same-is_same Report Proofs h = cc
same-is_same Report (Test n) h = cc
same-is_same Report Notes h = cc
same-is_same Proofs Report h = cc
same-is_same Proofs (Test n) h = cc
same-is_same Proofs Notes h = cc
same-is_same (Test m) Report h = cc
same-is_same (Test m) Proofs h = cc
same-is_same (Test m) Notes h = cc
same-is_same Notes Report h = cc
same-is_same Notes Proofs h = cc
same-is_same Notes (Test n) h = cc

pub is_same-same : (a : Out) → is_same a a ≡ true
is_same-same Report = refl
is_same-same Proofs = refl
is_same-same (Test n) = eq-eqb n n refl
is_same-same Notes = refl

-- one write adds its piece to its output alone
pub adds_piece : (before after : Moment) (out : Out) (piece : List ℕ) → after.outputs out ≡ output_after (before.outputs out) piece
    → ((other : Out) → other ≢ out → after.outputs other ≡ before.outputs other) → Adds before after (only out piece)
adds_piece before after out piece at others = record {
  each = λ other.
      elim (is_same out other) as (λ b. is_same out other ≡ b → after.outputs other ≡ output_after (before.outputs other) (if b then piece else [])) [
        | true ↦ λ h. subst (λ o. after.outputs o ≡ output_after (before.outputs o) piece) (same-is_same out other h) at
        | false ↦ λ h. others other (λ e. false≢true (sym h ∙ subst (λ o. is_same o other ≡ true) e (is_same-same other))) ∙ sym (output_after_nothing (before.outputs other))
      ] refl;
}

-- and leaves what follows the piece
pub takes_piece : (before after : Moment) (out : Out) (count : ℕ) (text : List ℕ) → 0 < count → count ≤ length text → after.outputs out ≡ output_after (before.outputs out) (take count text)
    → ((other : Out) → other ≢ out → after.outputs other ≡ before.outputs other) → TakesPiece before after out text (take (length text - count) (drop count text))
takes_piece before after out count text some within at others = record {
  piece = take count text;
  some = omega (arith, length-take count text);
  whole = sym (take-rest text count within);
  adds = adds_piece before after out (take count text) at others;
}

-- one that fails leaves every output as it was
pub all_stay : (before after : Moment) (out : Out) → after.outputs out ≡ before.outputs out
    → ((other : Out) → other ≢ out → after.outputs other ≡ before.outputs other) → (other : Out) → after.outputs other ≡ before.outputs other
all_stay before after out at others other =
    elim (is_same out other) as (λ b. is_same out other ≡ b → after.outputs other ≡ before.outputs other) [
      | true ↦ λ h. subst (λ o. after.outputs o ≡ before.outputs o) (same-is_same out other h) at
      | false ↦ λ h. others other (λ e. false≢true (sym h ∙ subst (λ o. is_same o other ≡ true) e (is_same-same other)))
    ] refl

pub ruleset pieces = (takes_piece, all_stay)

-- a text in two parts
only-append : (out other : Out) (a b : List ℕ) → only out a other ++ only out b other ≡ only out (a ++ b) other
only-append out other a b =
    elim (is_same out other) as (λ t. (if t then a else []) ++ (if t then b else []) ≡ (if t then a ++ b else [])) [ true ↦ refl | false ↦ refl ]

-- one more piece of a text for one output
pub adds_more : (first second third : Moment) (out : Out) (prefix piece : List ℕ) → Adds first second (only out prefix) → Adds second third (only out piece)
    → Adds first third (only out (prefix ++ piece))
adds_more first second third out prefix piece h k =
    adds_equal first third _ _ (λ other. only-append out other prefix piece) (adds_both first second third _ _ h k)

-- a prefix of a text is one for its output
only_prefix : (out other : Out) (prefix text : List ℕ) → IsPrefix prefix text → IsPrefix (only out prefix other) (only out text other)
only_prefix out other prefix text h =
    elim (is_same out other) as (λ t. IsPrefix (if t then prefix else []) (if t then text else [])) [ true ↦ h | false ↦ record { rest = []; whole_is = refl } ]

-- where nothing is written, prefixes of any texts are
adds_no_prefix : (before after : Moment) (text : Out → List ℕ) → ((out : Out) → after.outputs out ≡ before.outputs out) → AddsPrefixes before after text
adds_no_prefix before after text stays = record { taken = λ out. []; adds = adds_nothing before after stays; prefixes = λ out. record { rest = text out; whole_is = refl } }

-- what one call and then a prefix of another add
pub prefixes_after : (first second third : Moment) (a b : Out → List ℕ) → Adds first second a → AddsPrefixes second third b → AddsPrefixes first third (λ out. a out ++ b out)
prefixes_after first second third a b h k = record {
  taken = λ out. a out ++ k.taken out;
  adds = adds_both first second third a k.taken h k.adds;
  prefixes = λ out.
      let p = k.prefixes out in
      record { rest = p.rest; whole_is = ap (λ xs. a out ++ xs) p.whole_is ∙ sym (append_assoc (a out) (k.taken out) p.rest) };
}

-- prefixes of texts are prefixes of what goes on
pub prefixes_more : (before after : Moment) (a more all : Out → List ℕ) → AddsPrefixes before after a → ((out : Out) → a out ++ more out ≡ all out) → AddsPrefixes before after all
prefixes_more before after a more all h e = record {
  taken = h.taken;
  adds = h.adds;
  prefixes = λ out.
      let p = h.prefixes out in
      record { rest = p.rest ++ more out; whole_is = sym (e out) ∙ ap (λ xs. xs ++ more out) p.whole_is ∙ append_assoc (h.taken out) p.rest (more out) };
}

prefixes_equal : (before after : Moment) (a b : Out → List ℕ) → ((out : Out) → a out ≡ b out) → AddsPrefixes before after a → AddsPrefixes before after b
prefixes_equal before after a b e h = record {
  taken = h.taken;
  adds = h.adds;
  prefixes = λ out. let p = h.prefixes out in record { rest = p.rest; whole_is = sym (e out) ∙ p.whole_is };
}

-- a call that fails after a prefix was written
pub writes_prefixes : {T E : Type 0} (before after : Moment) (text : Out → List ℕ) (r : Result T E) → IsErr r → AddsPrefixes before after text → Writes before after text r
writes_prefixes before after text r failed h = MatchResult-from_err r (λ _. Adds before after text) (λ _. AddsPrefixes before after text) failed (λ _. h)

pub writes_prefix : {T E : Type 0} (before now after : Moment) (out : Out) (prefix rest text : List ℕ) (r : Result T E) → IsErr r → Adds before now (only out prefix)
    → ((other : Out) → after.outputs other ≡ now.outputs other) → text ≡ prefix ++ rest → Writes before after (only out text) r
writes_prefix before now after out prefix rest text r failed h stays e =
    writes_prefixes before after (only out text) r failed
    (record { taken = only out prefix; adds = record { each = λ other. stays other ∙ h.each other }; prefixes = λ other. only_prefix out other prefix text (record { rest = rest; whole_is = e }) })

-- a call that fails before it writes
pub writes_nothing : {T E : Type 0} (before : Moment) (text : Out → List ℕ) (r : Result T E) → IsErr r → Writes before before text r
writes_nothing before text r failed = writes_prefixes before before text r failed (adds_no_prefix before before text (λ out. refl))

-- a call that goes on from what was added
pub writes_after : {T E : Type 0} (first second third : Moment) (a b all : Out → List ℕ) (r : Result T E) → Adds first second a → ((out : Out) → a out ++ b out ≡ all out)
    → Writes second third b r → Writes first third all r
writes_after first second third a b all (Ok x) h e k = adds_equal first third _ _ e (adds_both first second third a b h k)
writes_after first second third a b all (Err x) h e k = prefixes_equal first third _ _ e (prefixes_after first second third a b h k)
