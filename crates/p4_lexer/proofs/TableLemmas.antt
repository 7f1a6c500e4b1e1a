-- The macros in force when one is defined or taken away.
use Rattle.std.proofs.Common.{◌≡◌, ℕ, Bool, true, false, cond, not, zero, suc, ◌<◌, List, [], ◌∷◌, ◌++◌, length, map, Option, Some, None, refl, sym, ap, subst, arith, ◌⊎◌, inl, inr, ◌∙◌, Contains}
use Rattle.std.proofs.lemmas.Option.{slice_get_within}
use Rattle.std.proofs.lemmas.Slice.Eq.{bytes_eq-Decides}
use Rattle.std.specs.List.{filter, slice_get}
use Rattle.std.specs.Str.{bytes_eq}
use Rattle.p4_lexer.specs.declared.extents.Extent.{Extent}
use Rattle.p4_lexer.specs.declared.extents.PieceAt.{PieceAt}
use Rattle.p4_lexer.specs.declared.macro_table.Definition.{Definition}
use Rattle.p4_lexer.specs.declared.macro_table.MacroTable.{MacroTable}
use Rattle.p4_lexer.specs.Extents.{bytes_at, cut_at}
use Rattle.p4_lexer.specs.MacroTable.{definition_words, definition_name, number_of, AreSame, AreInForce}
use Rattle.p4_lexer.specs.Scope.{Macro, macro_of, without}
use Rattle.p4_lexer.specs.SourceWords.{is_word}
use Rattle.p4_lexer.specs.Stack.{AreMarks}

-- the other macros stay
without_tests : (m : Macro) (a b c : Bool) (o p : Option Macro) → (a ≡ true → b ≡ c) → (a ≡ false → b ≡ true → c ≡ true → ⊥) → p ≡ cond c None o
    → cond (not a) (cond b (Some m) p) p ≡ cond c None (cond b (Some m) o)
without_tests m true true true o p same apart e = e
without_tests m true true false o p same apart e = let f = same refl in absurd (cc)
without_tests m true false true o p same apart e = e
without_tests m true false false o p same apart e = e
without_tests m false true true o p same apart e = absurd (apart refl refl refl)
without_tests m false true false o p same apart e = refl
without_tests m false false true o p same apart e = e
without_tests m false false false o p same apart e = e

macro_kept : (q : List ℕ) (m : Macro) (a : Bool) (macros : List Macro) → macro_of (cond (not a) (m ∷ macros) macros) q ≡ cond (not a) (cond (bytes_eq m.name q) (Some m) (macro_of macros q)) (macro_of macros q)
macro_kept q m true macros = refl
macro_kept q m false macros = refl

either_none : (c : Bool) (o : Option Macro) → o ≡ cond c o o
either_none true o = refl
either_none false o = refl

pub macro_without : (macros : List Macro) (name q : List ℕ) → macro_of (without macros name) q ≡ cond (bytes_eq name q) None (macro_of macros q)
macro_without [] name q = either_none (bytes_eq name q) None
macro_without (m ∷ macros) name q =
    macro_kept q m (bytes_eq m.name name) (without macros name)
    ∙ without_tests m (bytes_eq m.name name) (bytes_eq m.name q) (bytes_eq name q) (macro_of macros q) (macro_of (without macros name) q)
    (λ e. ap (λ k. bytes_eq k q) ((bytes_eq-Decides m.name name).0 e))
    (λ e f g. let same : m.name ≡ name = (bytes_eq-Decides m.name q).0 f ∙ sym ((bytes_eq-Decides name q).0 g) in
    let yes : bytes_eq m.name name ≡ true = (bytes_eq-Decides m.name name).1 same in cc)
    (macro_without macros name q)

-- a list with one more at its end
pub get_front : {A : Type 0} (xs ys : List A) (n : ℕ) → n < length xs → slice_get (xs ++ ys) n ≡ slice_get xs n
get_front [] ys n h = absurd (omega arith)
get_front (x ∷ xs) ys zero h = refl
get_front (x ∷ xs) ys (suc n) h = get_front xs ys n (omega arith)

pub get_last : {A : Type 0} (xs : List A) (x : A) (n : ℕ) → n ≡ length xs → slice_get (xs ++ x ∷ []) n ≡ Some x
get_last [] x zero h = refl
get_last [] x (suc n) h = absurd (omega arith)
get_last (y ∷ xs) x zero h = absurd (omega arith)
get_last (y ∷ xs) x (suc n) h = get_last xs x n (omega arith)

pub word_of_more : (ds : List Definition) (d : Definition) (n k : ℕ) (p : PieceAt) → slice_get (definition_words (slice_get (ds ++ d ∷ []) n)) k ≡ Some p
    → (slice_get (definition_words (slice_get ds n)) k ≡ Some p) ⊎ (slice_get d.words k ≡ Some p)
word_of_more [] d zero k p e = inr e
word_of_more [] d (suc n) k p e = absurd (cc)
word_of_more (c ∷ ds) d zero k p e = inl e
word_of_more (c ∷ ds) d (suc n) k p e = word_of_more ds d n k p e

-- a word among pieces is one of them
pub among_pieces : (f : PieceAt → Bool) (ps : List PieceAt) (k : ℕ) (p : PieceAt) → slice_get (filter f ps) k ≡ Some p → Contains ps p
among_pieces f [] k p e = absurd (cc)
among_pieces f (q ∷ ps) k p e = at_test (f q) k (λ j h. further (among_pieces f ps j p h)) e where
  further : Contains ps p → Contains (q ∷ ps) p
  further (j, h, is) = (suc j, omega arith, is)

  at_test : (b : Bool) (k : ℕ) → ((j : ℕ) → slice_get (filter f ps) j ≡ Some p → Contains (q ∷ ps) p) → slice_get (cond b (q ∷ filter f ps) (filter f ps)) k ≡ Some p → Contains (q ∷ ps) p
  at_test true zero more e = (0, omega arith, cc)
  at_test true (suc k) more e = more k e
  at_test false k more e = more k e

-- the cuts of words are the words among the cuts
pub words_cut : (text : List ℕ) (ps : List PieceAt) → map (cut_at text) (filter (λ p. is_word p.kind) ps) ≡ filter (λ c. is_word c.kind) (map (cut_at text) ps)
words_cut text [] = refl
words_cut text (p ∷ ps) = at_test (is_word p.kind) (words_cut text ps) where
  at_test : (b : Bool) → map (cut_at text) (filter (λ p. is_word p.kind) ps) ≡ filter (λ c. is_word c.kind) (map (cut_at text) ps)
      → map (cut_at text) (cond b (p ∷ filter (λ p. is_word p.kind) ps) (filter (λ p. is_word p.kind) ps)) ≡ cond b (cut_at text p ∷ filter (λ c. is_word c.kind) (map (cut_at text) ps)) (filter (λ c. is_word c.kind) (map (cut_at text) ps))
  at_test true e = ap (λ cs. cut_at text p ∷ cs) e
  at_test false e = e

-- a macro is the same by a table that has the same definition at its number
pub same_there : (t u : MacroTable) (o : Option ℕ) (m : Option Macro) → u.text.now ≡ t.text.now → ((n : ℕ) → o ≡ Some n → slice_get u.definitions n ≡ slice_get t.definitions n) → AreSame t o m → AreSame u o m
same_there t u None None e f h = tt
same_there t u None (Some m) e f h = absurd h
same_there t u (Some n) None e f h = absurd h
same_there t u (Some n) (Some m) e f h =
    subst (λ d. (m.name ≡ definition_name u.text.now d) × (map (cut_at u.text.now) (definition_words d) ≡ filter (λ c. is_word c.kind) m.words)) (sym (f n refl))
    (subst (λ text. (m.name ≡ definition_name text (slice_get t.definitions n)) × (map (cut_at text) (definition_words (slice_get t.definitions n)) ≡ filter (λ c. is_word c.kind) m.words)) (sym e) h)

-- the macros in force when a name is taken away
pub undefined : (t u : MacroTable) (macros : List Macro) (name : List ℕ) → u.text.now ≡ t.text.now → u.definitions ≡ t.definitions
    → ((q : List ℕ) → number_of u q ≡ cond (bytes_eq name q) None (number_of t q)) → AreInForce t macros → AreInForce u (without macros name)
undefined t u macros name et ed en all q = subst (AreSame u (number_of u q)) (sym (macro_without macros name q))
    (subst (λ o. AreSame u o (cond (bytes_eq name q) None (macro_of macros q))) (sym (en q)) (at_test (bytes_eq name q))) where
      at_test : (b : Bool) → AreSame u (cond b None (number_of t q)) (cond b None (macro_of macros q))
      at_test true = tt
      at_test false = same_there t u (number_of t q) (macro_of macros q) et (λ n e. ap (λ ds. slice_get ds n) ed) (all q)

pub unmarked_still : (t u : MacroTable) (marks : List Bool) (name : List ℕ) → ((q : List ℕ) → number_of u q ≡ cond (bytes_eq name q) None (number_of t q)) → AreMarks t marks [] → AreMarks u marks []
unmarked_still t u marks name en are q n e = at_test (bytes_eq name q) (sym (en q) ∙ e) where
  at_test : (b : Bool) → cond b None (number_of t q) ≡ Some n → slice_get marks n ≡ Some false
  at_test true h = absurd (cc)
  at_test false h = are q n h

-- the number of a macro in force is one of a definition
number_within : (t : MacroTable) (marks : List Bool) (q : List ℕ) (n : ℕ) → length marks ≡ length t.definitions → AreMarks t marks [] → number_of t q ≡ Some n → n < length t.definitions
number_within t marks q n el are e = omega (arith, slice_get_within marks n false (are q n e))

-- the macros in force with one more
pub defined : (t u : MacroTable) (macros : List Macro) (marks : List Bool) (name : Extent) (pieces : List PieceAt) → u.text.now ≡ t.text.now
    → u.definitions ≡ t.definitions ++ record { name = name; words = filter (λ p. is_word p.kind) pieces } ∷ []
    → ((q : List ℕ) → number_of u q ≡ cond (bytes_eq (bytes_at t.text.now name) q) (Some (length t.definitions)) (number_of t q))
    → length marks ≡ length t.definitions → AreMarks t marks [] → AreInForce t macros
    → AreInForce u (record { name = bytes_at t.text.now name; words = map (cut_at t.text.now) pieces } ∷ without macros (bytes_at t.text.now name))
defined t u macros marks name pieces et ed en el are all q =
    subst (λ o. AreSame u o (cond (bytes_eq (bytes_at t.text.now name) q) (Some (record { name = bytes_at t.text.now name; words = map (cut_at t.text.now) pieces })) (macro_of (without macros (bytes_at t.text.now name)) q))) (sym (en q))
    (subst (λ o. AreSame u (cond (bytes_eq (bytes_at t.text.now name) q) (Some (length t.definitions)) (number_of t q)) (cond (bytes_eq (bytes_at t.text.now name) q) (Some (record { name = bytes_at t.text.now name; words = map (cut_at t.text.now) pieces })) o)) (sym (macro_without macros (bytes_at t.text.now name) q)) (at_test (bytes_eq (bytes_at t.text.now name) q))) where
      at_test : (b : Bool) → AreSame u (cond b (Some (length t.definitions)) (number_of t q)) (cond b (Some (record { name = bytes_at t.text.now name; words = map (cut_at t.text.now) pieces })) (cond b None (macro_of macros q)))
      at_test true =
          let there : slice_get u.definitions (length t.definitions) ≡ Some (record { name = name; words = filter (λ p. is_word p.kind) pieces }) =
          ap (λ ds. slice_get ds (length t.definitions)) ed ∙ get_last t.definitions (record { name = name; words = filter (λ p. is_word p.kind) pieces }) (length t.definitions) refl in
          subst (λ o. (bytes_at t.text.now name ≡ definition_name u.text.now o) × (map (cut_at u.text.now) (definition_words o) ≡ filter (λ c. is_word c.kind) (map (cut_at t.text.now) pieces))) (sym there)
          (ap (λ text. bytes_at text name) (sym et), ap (λ text. map (cut_at text) (filter (λ p. is_word p.kind) pieces)) et ∙ words_cut t.text.now pieces)
      at_test false = same_there t u (number_of t q) (macro_of macros q) et
          (λ n e. ap (λ ds. slice_get ds n) ed ∙ get_front t.definitions (record { name = name; words = filter (λ p. is_word p.kind) pieces } ∷ []) n (number_within t marks q n el are e)) (all q)

pub marks_more : (t u : MacroTable) (marks : List Bool) (name : List ℕ) → ((q : List ℕ) → number_of u q ≡ cond (bytes_eq name q) (Some (length t.definitions)) (number_of t q))
    → length marks ≡ length t.definitions → AreMarks t marks [] → AreMarks u (marks ++ false ∷ []) []
marks_more t u marks name en el are q n e = at_test (bytes_eq name q) (sym (en q) ∙ e) where
  at_test : (b : Bool) → cond b (Some (length t.definitions)) (number_of t q) ≡ Some n → slice_get (marks ++ false ∷ []) n ≡ Some false
  at_test true h = let same : length t.definitions ≡ n = cc in get_last marks false n (omega arith)
  at_test false h =
      let before : n < length t.definitions = number_within t marks q n el are h in
      get_front marks (false ∷ []) n (omega arith) ∙ are q n h
