-- The frames in which the replacement of a word stands: pushed, popped and passed word by word.
use Rattle.std.proofs.Common.{◌≡◌, ℕ, Bool, true, false, cond, ◌||◌, zero, suc, ◌+◌, List, [], ◌∷◌, ◌++◌, Option, Some, None, map, drop, append_assoc, refl, sym, ap, subst, arith, ◌⊎◌, inl, inr, ◌∙◌}
use Rattle.std.proofs.lemmas.Bool.{false_from_ne_true, cases_eq}
use Rattle.std.proofs.lemmas.Slice.Eq.{bytes_eq-Decides}
use Rattle.std.specs.List.{list_any, filter, slice_get, slice_set}
use Rattle.std.specs.Str.{bytes_eq}
use Rattle.tg_base.specs.declared.place.Span.{Span}
use Rattle.p4_lexer.specs.declared.extents.PieceAt.{PieceAt}
use Rattle.p4_lexer.specs.declared.extents.WordAt.{WordAt}
use Rattle.p4_lexer.specs.declared.macro_table.MacroTable.{MacroTable}
use Rattle.p4_lexer.specs.declared.replacing.Frame.{Frame}
use Rattle.p4_lexer.specs.Cuts.{Cut}
use Rattle.p4_lexer.specs.Extents.{placed_at, cut_at}
use Rattle.p4_lexer.specs.MacroTable.{AreInForce, AreSame, IsMacro, name_of_number, words_of_number, number_of}
use Rattle.p4_lexer.specs.Scope.{Macro, macro_of}
use Rattle.p4_lexer.specs.SourceWords.{Placed, is_word}
use Rattle.p4_lexer.specs.Replacement.{Item, Word, Replaced, Gives, none, kept, replaced, names_macro, words_at}
use Rattle.p4_lexer.specs.Stack.{names, inside_word, words_left, FramesGive, WordGives, AreFrames, AreMarks}
use Rattle.p4_lexer.proofs.ReplacementLemmas.{of_name, gives_with, gives_total}

-- the words of a macro by the definition's
abbrev in_place : Span → Cut → Placed
in_place place c = record { cut = c; place = place; replacement = true }

words_among : (place : Span) (cuts : List Cut) → words_at place cuts ≡ map (in_place place) (filter (λ c. is_word c.kind) cuts)
words_among place [] = refl
words_among place (c ∷ cuts) = at_test (is_word c.kind) (words_among place cuts) where
  at_test : (b : Bool) → words_at place cuts ≡ map (in_place place) (filter (λ c. is_word c.kind) cuts)
      → cond b (in_place place c ∷ words_at place cuts) (words_at place cuts) ≡ map (in_place place) (cond b (c ∷ filter (λ c. is_word c.kind) cuts) (filter (λ c. is_word c.kind) cuts))
  at_test true e = ap (λ ws. in_place place c ∷ ws) e
  at_test false e = e

cut_words : (t : MacroTable) (place : Span) (ps : List PieceAt) → map (in_place place) (map (cut_at t.text.now) ps) ≡ map (λ p. placed_at t.text.now (inside_word place p)) ps
cut_words t place [] = refl
cut_words t place (p ∷ ps) = ap (λ ws. placed_at t.text.now (inside_word place p) ∷ ws) (cut_words t place ps)

whole_words : (t : MacroTable) (place : Span) (n : ℕ) (m : Macro) → IsMacro t n m → words_at place m.words ≡ words_left t place (record { number = n; next = 0 })
whole_words t place n m is = words_among place m.words ∙ ap (λ cs. map (in_place place) cs) (sym is.1) ∙ cut_words t place (words_of_number t n)

-- a word that stays
pub kept_gives : (t : MacroTable) (macros : List Macro) (frames : List Frame) (w : WordAt) → AreSame t None (names_macro macros (names t frames) (placed_at t.text.now w))
    → (more : List Item) → FramesGive t macros w.place frames more → WordGives t macros frames w (Word (placed_at t.text.now w) ∷ more)
kept_gives t macros frames w same more h = at_macro (names_macro macros (names t frames) (placed_at t.text.now w)) refl same where
  at_macro : (o : Option Macro) → names_macro macros (names t frames) (placed_at t.text.now w) ≡ o → AreSame t None o → WordGives t macros frames w (Word (placed_at t.text.now w) ∷ more)
  at_macro None e same = (Word (placed_at t.text.now w) ∷ [], more, refl, kept (names t frames) (placed_at t.text.now w) [] [] e (none (names t frames)), h)
  at_macro (Some m) e same = absurd same

-- a name that is replaced: its macro's words stand in a frame of their own
pub put_gives : (t : MacroTable) (macros : List Macro) (frames : List Frame) (w : WordAt) (n : ℕ) → AreSame t (Some n) (names_macro macros (names t frames) (placed_at t.text.now w))
    → (more : List Item) → FramesGive t macros w.place (record { number = n; next = 0 } ∷ frames) more → WordGives t macros frames w (Replaced (placed_at t.text.now w) ∷ more)
put_gives t macros frames w n same more (first, rest, e, g, h) = at_macro (names_macro macros (names t frames) (placed_at t.text.now w)) refl same where
  v : Placed
  v = placed_at t.text.now w

  at_macro : (o : Option Macro) → names_macro macros (names t frames) (placed_at t.text.now w) ≡ o → AreSame t (Some n) o → WordGives t macros frames w (Replaced (placed_at t.text.now w) ∷ more)
  at_macro None e same = absurd same
  at_macro (Some m) o is =
      let inner : Gives macros (m.name ∷ names t frames) (words_at w.place m.words) first =
      subst (λ q. Gives macros (q ∷ names t frames) (words_at w.place m.words) first) (sym is.0)
      (subst (λ ws. Gives macros (name_of_number t n ∷ names t frames) ws first) (sym (whole_words t w.place n m is)) g) in (
        Replaced (placed_at t.text.now w) ∷ first ++ [],
        rest,
        ap (λ xs. Replaced (placed_at t.text.now w) ∷ xs) (e ∙ sym (append_assoc first [] rest)),
        replaced (names t frames) (placed_at t.text.now w) [] m first [] o inner (none (names t frames)),
        h,
      )

-- a frame that has no words left
pub frame_ends : (t : MacroTable) (macros : List Macro) (place : Span) (f : Frame) (outer : List Frame) → slice_get (words_of_number t f.number) f.next ≡ None
    → (more : List Item) → FramesGive t macros place outer more → FramesGive t macros place (f ∷ outer) more
frame_ends t macros place f outer e more h =
    ([], more, refl, subst (λ ws. Gives macros (names t (f ∷ outer)) (map (λ p. placed_at t.text.now (inside_word place p)) ws) []) (sym (nothing_left (words_of_number t f.number) f.next e)) (none (names t (f ∷ outer))), h) where
      nothing_left : (ps : List PieceAt) (k : ℕ) → slice_get ps k ≡ None → drop k ps ≡ []
      nothing_left [] zero e = refl
      nothing_left [] (suc k) e = refl
      nothing_left (p ∷ ps) zero e = absurd (cc)
      nothing_left (p ∷ ps) (suc k) e = nothing_left ps k e

word_left : (ps : List PieceAt) (k : ℕ) (p : PieceAt) → slice_get ps k ≡ Some p → drop k ps ≡ p ∷ drop (k + 1) ps
word_left [] k p e = absurd (cc)
word_left (q ∷ ps) zero p e = let same : q ≡ p = cc in ap (λ r. r ∷ ps) same
word_left (q ∷ ps) (suc k) p e = let n : suc k + 1 ≡ suc (k + 1) = omega arith in rw n (word_left ps k p e)

-- a frame's next word
pub frame_goes : (t : MacroTable) (macros : List Macro) (place : Span) (f : Frame) (outer : List Frame) (p : PieceAt) → slice_get (words_of_number t f.number) f.next ≡ Some p
    → (more : List Item) → WordGives t macros (record { number = f.number; next = f.next + 1 } ∷ outer) (inside_word place p) more → FramesGive t macros place (f ∷ outer) more
frame_goes t macros place f outer p e more (first, rest, e1, g, (first2, rest2, e2, g2, h)) = (
  first ++ first2,
  rest2,
  e1 ∙ ap (λ xs. first ++ xs) e2 ∙ sym (append_assoc first first2 rest2),
  subst (λ ws. Gives macros (names t (f ∷ outer)) (map (λ p. placed_at t.text.now (inside_word place p)) ws) (first ++ first2)) (sym (word_left (words_of_number t f.number) f.next p e))
      (gives_with macros (names t (f ∷ outer)) (placed_at t.text.now (inside_word place p)) (words_left t place (record { number = f.number; next = f.next + 1 })) first first2 g g2),
  h,
)

-- frames give something
pub frames_total : (t : MacroTable) (macros : List Macro) (place : Span) (frames : List Frame) → (items : List Item) × FramesGive t macros place frames items
frames_total t macros place [] = ([], refl)
frames_total t macros place (f ∷ outer) =
    let first = gives_total macros (names t (f ∷ outer)) (words_left t place f) in
    let rest = frames_total t macros place outer in
    (first.0 ++ rest.0, (first.0, rest.0, refl, first.1, rest.1))

-- the name of a number in force
name_is : (t : MacroTable) (name : List ℕ) (n : ℕ) (o : Option Macro) (macros : List Macro) → macro_of macros name ≡ o → AreSame t (Some n) o → name_of_number t n ≡ name
name_is t name n None macros e same = absurd same
name_is t name n (Some m) macros e is = sym is.0 ∙ of_name macros name m e

pub named_number : (t : MacroTable) (macros : List Macro) (name : List ℕ) (n : ℕ) → AreInForce t macros → number_of t name ≡ Some n → name_of_number t n ≡ name
named_number t macros name n all e = name_is t name n (macro_of macros name) macros refl (subst (λ o. AreSame t o (macro_of macros name)) e (all name))

set_there : (marks : List Bool) (n : ℕ) (b c : Bool) → slice_get marks n ≡ Some c → slice_get (slice_set marks n b) n ≡ Some b
set_there [] n b c e = absurd (cc)
set_there (m ∷ marks) zero b c e = refl
set_there (m ∷ marks) (suc n) b c e = set_there marks n b c e

set_elsewhere : (marks : List Bool) (n k : ℕ) (b : Bool) → (n ≡ k → ⊥) → slice_get (slice_set marks n b) k ≡ slice_get marks k
set_elsewhere [] n k b ne = refl
set_elsewhere (m ∷ marks) zero zero b ne = absurd (ne refl)
set_elsewhere (m ∷ marks) zero (suc k) b ne = refl
set_elsewhere (m ∷ marks) (suc n) zero b ne = refl
set_elsewhere (m ∷ marks) (suc n) (suc k) b ne = set_elsewhere marks n k b (λ e. ne (ap suc e))

-- another number has another name
other_name : (t : MacroTable) (macros : List Macro) (n : ℕ) (own name : List ℕ) (k : ℕ) → number_of t own ≡ Some n → number_of t name ≡ Some k → (n ≡ k → ⊥) → bytes_eq name own ≡ false
other_name t macros n own name k there here ne =
    false_from_ne_true (bytes_eq name own) (λ e. let same = (bytes_eq-Decides name own).0 e in
    let again : number_of t own ≡ Some k = subst (λ q. number_of t q ≡ Some k) same here in
    ne (let eq : Some n ≡ Some k = sym there ∙ again in cc))

-- the mark of one more frame
pub marks_put : (t : MacroTable) (macros : List Macro) (marks : List Bool) (frames : List Frame) (name : List ℕ) (n : ℕ) → AreInForce t macros → number_of t name ≡ Some n
    → AreMarks t marks frames → AreMarks t (slice_set marks n true) (record { number = n; next = 0 } ∷ frames)
marks_put t macros marks frames name n all there are other k here = at_number (cases_eq n k) where
  own : name_of_number t n ≡ name
  own = named_number t macros name n all there

  at_number : (n ≡ k) ⊎ (n ≡ k → ⊥) → slice_get (slice_set marks n true) k ≡ Some (bytes_eq other (name_of_number t n) || list_any (bytes_eq other) (names t frames))
  at_number (inl e) =
      let same : name_of_number t n ≡ other = ap (name_of_number t) e ∙ named_number t macros other k all here in
      let yes : bytes_eq other (name_of_number t n) ≡ true = (bytes_eq-Decides other (name_of_number t n)).1 (sym same) in
      rw yes (subst (λ j. slice_get (slice_set marks n true) j ≡ Some true) e (set_there marks n true (list_any (bytes_eq name) (names t frames)) (are name n there)))
  at_number (inr ne) =
      let no : bytes_eq other (name_of_number t n) ≡ false = subst (λ q. bytes_eq other q ≡ false) (sym own) (other_name t macros n name other k there here ne) in
      rw no (set_elsewhere marks n k true ne ∙ are other k here)

-- the mark of a frame that has ended
pub marks_taken : (t : MacroTable) (macros : List Macro) (marks : List Bool) (f : Frame) (outer : List Frame) → AreInForce t macros → AreFrames t (f ∷ outer)
    → AreMarks t marks (f ∷ outer) → AreMarks t (slice_set marks f.number false) outer
marks_taken t macros marks f outer all (there, apart, frames) are other k here = at_number (cases_eq f.number k) where
  at_number : (f.number ≡ k) ⊎ (f.number ≡ k → ⊥) → slice_get (slice_set marks f.number false) k ≡ Some (list_any (bytes_eq other) (names t outer))
  at_number (inl e) =
      let same : name_of_number t f.number ≡ other = ap (name_of_number t) e ∙ named_number t macros other k all here in
      let no : list_any (bytes_eq other) (names t outer) ≡ false = subst (λ q. list_any (bytes_eq q) (names t outer) ≡ false) same apart in
      rw no (subst (λ j. slice_get (slice_set marks f.number false) j ≡ Some false) e
      (set_there marks f.number false (list_any (bytes_eq (name_of_number t f.number)) (names t (f ∷ outer))) (are (name_of_number t f.number) f.number there)))
  at_number (inr ne) =
      let no : bytes_eq other (name_of_number t f.number) ≡ false = other_name t macros f.number (name_of_number t f.number) other k there here ne in
      set_elsewhere marks f.number k false ne ∙ are other k here ∙ ap (λ b. Some (b || list_any (bytes_eq other) (names t outer))) no
