-- The loop over the frames of one word: from its first item to its last.
use Rattle.std.proofs.Common.{◌≡◌, Bool, true, false, List, [], ◌∷◌, ◌++◌, reverse, append_assoc, sym, ap, subst, ◌∙◌}
use Rattle.std.proofs.lemmas.List.{append-nil}
use Rattle.std.proofs.lemmas.List.Elements.{All-append}
use Rattle.std.specs.Bool.{MatchBool}
use Rattle.std.specs.List.{All}
use Rattle.tg_base.specs.declared.place.Span.{Span}
use Rattle.p4_lexer.specs.declared.extents.PieceAt.{PieceAt}
use Rattle.p4_lexer.specs.declared.extents.WordAt.{WordAt}
use Rattle.p4_lexer.specs.declared.extents.Item.{Item as ItemAt}
use Rattle.p4_lexer.specs.declared.macro_table.MacroTable.{MacroTable}
use Rattle.p4_lexer.specs.declared.replacing.Frame.{Frame}
use Rattle.p4_lexer.specs.declared.replacing.Replacing.{Replacing}
use Rattle.p4_lexer.specs.Extents.{placed_at}
use Rattle.p4_lexer.specs.Scope.{Macro}
use Rattle.p4_lexer.specs.Replacement.{Item, Gives}
use Rattle.p4_lexer.specs.Stack.{FramesGive, WordGives, AreFrames, AreMarks, Reaches, Overfills, Adds, word_of_item}
use Rattle.p4_lexer.proofs.ReplacingLemmas.{reverse_more, reaches_more, overfills_more}

-- outside any frame a word gives what it gives
abbrev WordAlone : MacroTable → List Macro → WordAt → List Item → Type 0
WordAlone t macros w = Gives macros [] (placed_at t.text.now w ∷ [])

whole_word : (t : MacroTable) (macros : List Macro) (w : WordAt) (fs : List Frame) → fs ≡ [] → (items : List Item) → WordGives t macros (reverse fs) w items → WordAlone t macros w items
whole_word t macros w fs e items h = bare items (subst (λ gs. WordGives t macros (reverse gs) w items) e h) where
  bare : (items : List Item) → WordGives t macros [] w items → WordAlone t macros w items
  bare items (first, rest, e, g, none) = subst (WordAlone t macros w) (sym (e ∙ ap (λ r. first ++ r) none ∙ append-nil first)) g

pub no_frames : (t : MacroTable) (s : Replacing) → s.frames ≡ [] → AreFrames t (reverse s.frames)
no_frames t s e = subst (λ fs. AreFrames t (reverse fs)) (sym e) tt

pub bare_marks : (t : MacroTable) (s : Replacing) → s.frames ≡ [] → AreMarks t s.marks [] → AreMarks t s.marks (reverse s.frames)
bare_marks t s e marks = subst (λ fs. AreMarks t s.marks (reverse fs)) (sym e) marks

-- the first item of the word
pub first_reaches : (t : MacroTable) (macros : List Macro) (w : WordAt) (s n : Replacing) (fits : Bool) → fits ≡ true → s.frames ≡ []
    → MatchBool fits (Reaches t macros w.place (WordGives t macros (reverse s.frames) w) s n) (Overfills t w.place (WordGives t macros (reverse s.frames) w) s n)
    → Reaches t macros w.place (Gives macros [] (placed_at t.text.now w ∷ [])) s n
first_reaches t macros w s n false h e r = absurd (cc)
first_reaches t macros w s n true h e r = record {
  given = r.given;
  items = r.items;
  left = r.left;
  frames = r.frames;
  marks = r.marks;
  goes = λ more g. whole_word t macros w s.frames e _ (r.goes more g);
}

pub first_overfills : (t : MacroTable) (macros : List Macro) (w : WordAt) (s n : Replacing) (fits : Bool) → fits ≡ false → s.frames ≡ []
    → MatchBool fits (Reaches t macros w.place (WordGives t macros (reverse s.frames) w) s n) (Overfills t w.place (WordGives t macros (reverse s.frames) w) s n)
    → Overfills t w.place (Gives macros [] (placed_at t.text.now w ∷ [])) s n
first_overfills t macros w s n true h e r = absurd (cc)
first_overfills t macros w s n false h e r = record {
  given = r.given;
  item = r.item;
  more = r.more;
  items = r.items;
  left = r.left;
  heavy = r.heavy;
  within = r.within;
  there = r.there;
  goes = whole_word t macros w s.frames e _ r.goes;
}

-- what a step is told of the frames, and what it tells
abbrev Stepped : MacroTable → List Macro → Span → Frame → Replacing → Replacing → Bool → Type 0
Stepped t macros place f o n fits = AreFrames t (f ∷ reverse o.frames) → AreMarks t o.marks (f ∷ reverse o.frames)
    → MatchBool fits (Reaches t macros place (FramesGive t macros place (f ∷ reverse o.frames)) o n) (Overfills t place (FramesGive t macros place (f ∷ reverse o.frames)) o n)

told : (t : MacroTable) (macros : List Macro) (place : Span) (Whole : List Item → Type 0) (f : Frame) (s m o n : Replacing) (fits : Bool) → Reaches t macros place Whole s m
    → m.frames ≡ o.frames ++ f ∷ [] → o.marks ≡ m.marks → Stepped t macros place f o n fits
    → MatchBool fits (Reaches t macros place (FramesGive t macros place (f ∷ reverse o.frames)) o n) (Overfills t place (FramesGive t macros place (f ∷ reverse o.frames)) o n)
told t macros place Whole f s m o n fits r ef em step =
    let turned = reverse_more o.frames m.frames f ef in
    step (subst (AreFrames t) turned r.frames) (subst (λ ms. AreMarks t ms (f ∷ reverse o.frames)) (sym em) (subst (AreMarks t m.marks) turned r.marks))

pub next_reaches : (t : MacroTable) (macros : List Macro) (place : Span) (Whole : List Item → Type 0) (f : Frame) (s m o n : Replacing) (fits : Bool) → fits ≡ true
    → Reaches t macros place Whole s m → m.frames ≡ o.frames ++ f ∷ [] → o.marks ≡ m.marks → o.items ≡ m.items → o.left ≡ m.left → Stepped t macros place f o n fits
    → Reaches t macros place Whole s n
next_reaches t macros place Whole f s m o n false h r ef em ei el step = absurd (cc)
next_reaches t macros place Whole f s m o n true h r ef em ei el step = reaches_more t macros place Whole f s m o n r ef ei el (told t macros place Whole f s m o n true r ef em step)

pub next_overfills : (t : MacroTable) (macros : List Macro) (place : Span) (Whole : List Item → Type 0) (f : Frame) (s m o n : Replacing) (fits : Bool) → fits ≡ false
    → Reaches t macros place Whole s m → m.frames ≡ o.frames ++ f ∷ [] → o.marks ≡ m.marks → o.items ≡ m.items → o.left ≡ m.left → Stepped t macros place f o n fits
    → Overfills t place Whole s n
next_overfills t macros place Whole f s m o n true h r ef em ei el step = absurd (cc)
next_overfills t macros place Whole f s m o n false h r ef em ei el step = overfills_more t macros place Whole f s m o n r ef ei el (told t macros place Whole f s m o n false r ef em step)

-- the pieces of what came
All-weaker : {A : Type 0} (P Q : A → Type 0) (xs : List A) → ((x : A) → P x → Q x) → All P xs → All Q xs
All-weaker P Q xs f all = λ k d h. f _ (all k d h)

pub adds_first : (P Q : PieceAt → Type 0) (old new : List ItemAt) → ((p : PieceAt) → P p → Q p) → Adds P old new → Adds Q old new
adds_first P Q old new f (given, e, all) = (given, e, All-weaker (λ i. P (word_of_item i).piece) (λ i. Q (word_of_item i).piece) given (λ i. f (word_of_item i).piece) all)

pub adds_more : (P Q : PieceAt → Type 0) (old mid new : List ItemAt) → ((p : PieceAt) → P p → Q p) → Adds Q old mid → Adds P mid new → Adds Q old new
adds_more P Q old mid new f (given, e, all) (more, e2, all2) = (
  given ++ more,
  e2 ∙ ap (λ xs. xs ++ more) e ∙ append_assoc old given more,
  All-append (λ i. Q (word_of_item i).piece) given more all (All-weaker (λ i. P (word_of_item i).piece) (λ i. Q (word_of_item i).piece) more (λ i. f (word_of_item i).piece) all2),
)
