-- One event more, as the loop over events meets it.
use Rattle.std.proofs.Common.{◌≡◌, ℕ, Bool, true, false, cond, zero, suc, ◌+◌, ◌<◌, ◌≤◌, List, [], ◌∷◌, ◌++◌, length, drop, Some, None, refl, sym, ap, subst, arith, ◌⊎◌, Contains, IsTrue, slice_index_or, MatchBool}
use Rattle.std.specs.List.{All, filter}
use Rattle.std.specs.Str.{bytes_eq}
use Rattle.p4_lexer.specs.declared.extents.Extent.{Extent}
use Rattle.p4_lexer.specs.declared.extents.PieceAt.{PieceAt}
use Rattle.p4_lexer.specs.declared.extents.WordAt.{WordAt}
use Rattle.p4_lexer.specs.declared.extents.Event.{Event}
use Rattle.p4_lexer.specs.declared.extents.Event.TheVariants.{Word as WordEvent, Define, Undefine}
use Rattle.p4_lexer.specs.declared.macro_table.MacroTable.{MacroTable}
use Rattle.p4_lexer.specs.declared.replacing.Replacing.{Replacing}
use Rattle.p4_lexer.specs.Events.{IsEventIn, IsPieceOf, event_pieces}
use Rattle.p4_lexer.specs.Extents.{IsIn, placed_at, bytes_at}
use Rattle.p4_lexer.specs.MacroTable.{AreInForce, IsWordOf, number_of}
use Rattle.p4_lexer.specs.Scope.{Macro}
use Rattle.p4_lexer.specs.SourceWords.{is_word}
use Rattle.p4_lexer.specs.Replacement.{Gives}
use Rattle.p4_lexer.specs.Stack.{AreMarks, Reaches, Overfills, Adds, word_of_item}
use Rattle.p4_lexer.proofs.EventLemmas.{Comes, comes_word, comes_defined, comes_undefined, IsAll, overfull, whole, added_pieces, added_inside}

-- the event at hand
pub record IsHere (events : List Event) (at : ℕ) (e : Event) : Type 0 where
  pub before : at < length events
  pub is : slice_index_or events at e ≡ e

rest_is : (events : List Event) (at : ℕ) (e : Event) → IsHere events at e → drop at events ≡ e ∷ drop (at + 1) events
rest_is [] at e h = let b = h.before in absurd (omega arith)
rest_is (d ∷ events) zero e h = ap (λ x. x ∷ events) h.is
rest_is (d ∷ events) (suc at) e h =
    let b = h.before in
    let n : suc at + 1 ≡ suc (at + 1) = omega arith in
    rw n (rest_is events at e (record { before = omega arith; is = h.is }))

pub here : (events : List Event) (at : ℕ) (e v : Event) → at < length events → e ≡ slice_index_or events at e → e ≡ v → IsHere events at v
here events at e v before is same = record { before = before; is = subst (λ x. slice_index_or events at x ≡ x) same (sym is) }

pub in_text : (text : List ℕ) (events : List Event) (at : ℕ) (e : Event) → All (IsEventIn text) events → IsHere events at e → IsEventIn text e
in_text text events at e all h = subst (IsEventIn text) h.is (all at e h.before)

pub is_piece : (events : List Event) (at : ℕ) (e : Event) (p : PieceAt) → IsHere events at e → Contains (event_pieces e) p → IsPieceOf events p
is_piece events at e p h has = (e, (at, h.before, h.is), has)

own_piece : (events : List Event) (at : ℕ) (w : WordAt) → IsHere events at (WordEvent w) → IsPieceOf events w.piece
own_piece events at w h = is_piece events at (WordEvent w) w.piece h (0, omega arith, refl)

word_in : (text : List ℕ) (events : List Event) (at : ℕ) (t : MacroTable) (s : Replacing) (w : WordAt) → Comes text events at t s → All (IsEventIn text) events → IsHere events at (WordEvent w) → IsIn t.text.now w.piece.extent
word_in text events at t s w c all h = subst (λ x. IsIn x w.piece.extent) (sym c.same_text) (in_text text events at (WordEvent w) all h)

-- what the replacement of a word tells
abbrev Told : MacroTable → WordAt → Replacing → Replacing → Bool → Type 0
Told t w s n fits = (macros : List Macro) → AreInForce t macros → AreMarks t s.marks []
    → MatchBool fits (Reaches t macros w.place (Gives macros [] (placed_at t.text.now w ∷ [])) s n) (Overfills t w.place (Gives macros [] (placed_at t.text.now w ∷ [])) s n)

pub word_step : (text : List ℕ) (events : List Event) (at : ℕ) (t : MacroTable) (s n : Replacing) (w : WordAt) (fits : Bool) → fits ≡ true → Comes text events at t s → All (IsEventIn text) events → IsHere events at (WordEvent w)
    → Told t w s n fits → Adds (λ p. (p ≡ w.piece) ⊎ IsWordOf t p) s.items n.items → (IsTrue fits → n.frames ≡ []) → length n.marks ≡ length s.marks → Comes text events (at + 1) t n
word_step text events at t s n w false e c all h tells adds ef el = absurd (cc)
word_step text events at t s n w true e c all h tells adds ef el =
    comes_word text events at t s n w c (rest_is events at (WordEvent w) h) (word_in text events at t s w c all h) (own_piece events at w h) (tells c.macros c.in_force c.marks) adds (ef refl) el

pub word_stops : (text : List ℕ) (events : List Event) (at : ℕ) (t : MacroTable) (s n : Replacing) (w : WordAt) (fits : Bool) → fits ≡ false → Comes text events at t s → All (IsEventIn text) events → IsHere events at (WordEvent w)
    → Told t w s n fits → Adds (λ p. (p ≡ w.piece) ⊎ IsWordOf t p) s.items n.items → IsAll text events n.items (Some w.place)
word_stops text events at t s n w true e c all h tells adds = absurd (cc)
word_stops text events at t s n w false e c all h tells adds =
    overfull text events at t s n w c (rest_is events at (WordEvent w) h) (word_in text events at t s w c all h) (tells c.macros c.in_force c.marks) adds

pub stopped_pieces : (text : List ℕ) (events : List Event) (at : ℕ) (t : MacroTable) (s n : Replacing) (w : WordAt) → Comes text events at t s → IsHere events at (WordEvent w)
    → Adds (λ p. (p ≡ w.piece) ⊎ IsWordOf t p) s.items n.items → All (λ i. IsPieceOf events (word_of_item i).piece) n.items
stopped_pieces text events at t s n w c h adds = added_pieces events t w s.items n.items c.known (own_piece events at w h) c.pieces adds

pub stopped_inside : (text : List ℕ) (events : List Event) (at : ℕ) (t : MacroTable) (s n : Replacing) (w : WordAt) → Comes text events at t s → All (IsEventIn text) events → IsHere events at (WordEvent w)
    → Adds (λ p. (p ≡ w.piece) ⊎ IsWordOf t p) s.items n.items → All (λ i. IsIn text (word_of_item i).piece.extent) n.items
stopped_inside text events at t s n w c all h adds = added_inside text t w s.items n.items c.same_text c.words (word_in text events at t s w c all h) c.inside adds

pub define_step : (text : List ℕ) (events : List Event) (at : ℕ) (t u : MacroTable) (s n : Replacing) (name : Extent) (ps : List PieceAt) → Comes text events at t s → All (IsEventIn text) events → IsHere events at (Define name ps)
    → u.text ≡ t.text → u.definitions ≡ t.definitions ++ record { name = name; words = filter (λ p. is_word p.kind) ps } ∷ []
    → ((q : List ℕ) → number_of u q ≡ cond (bytes_eq (bytes_at t.text.now name) q) (Some (length t.definitions)) (number_of t q))
    → n ≡ record s { marks = s.marks ++ false ∷ [] } → Comes text events (at + 1) u n
define_step text events at t u s n name ps c all h et ed en is =
    comes_defined text events at t u s name ps c (rest_is events at (Define name ps) h)
    (subst (λ x. All (λ p. IsIn x p.extent) ps) (sym c.same_text) (in_text text events at (Define name ps) all h).1) (λ p has. is_piece events at (Define name ps) p h has) et ed en n is

pub undefine_step : (text : List ℕ) (events : List Event) (at : ℕ) (t u : MacroTable) (s : Replacing) (name : Extent) → Comes text events at t s → IsHere events at (Undefine name)
    → u.text ≡ t.text → u.definitions ≡ t.definitions → ((q : List ℕ) → number_of u q ≡ cond (bytes_eq (bytes_at t.text.now name) q) None (number_of t q))
    → Comes text events (at + 1) u s
undefine_step text events at t u s name c h et ed en = comes_undefined text events at t u s name c (rest_is events at (Undefine name) h) et ed en

pub at_end : (text : List ℕ) (events : List Event) (at : ℕ) (t : MacroTable) (s : Replacing) → Comes text events at t s → length events ≤ at → IsAll text events s.items None
at_end text events at t s c ends = whole text events at t s c (nothing events at ends) where
  nothing : (es : List Event) (k : ℕ) → length es ≤ k → drop k es ≡ []
  nothing [] zero h = refl
  nothing [] (suc k) h = refl
  nothing (e ∷ es) zero h = absurd (omega arith)
  nothing (e ∷ es) (suc k) h = nothing es k (omega arith)
