-- A word is replaced item by item: each step reaches on, or finds the item that does not fit.
use Rattle.std.proofs.Common.{◌≡◌, ℕ, Bool, true, false, cond, ◌+◌, ◌<◌, List, [], ◌∷◌, ◌++◌, Option, Some, None, map, reverse, append_assoc, refl, sym, ap, subst, arith, ◌∙◌, IfOk, Result, Ok, Err}
use Rattle.std.proofs.lemmas.List.{append-nil, reverse-append, map-append}
use Rattle.std.specs.Bool.{MatchBool}
use Rattle.std.specs.List.{list_any, slice_get, slice_set}
use Rattle.std.specs.Str.{bytes_eq}
use Rattle.tg_base.specs.declared.place.Span.{Span}
use Rattle.p4_lexer.specs.declared.extents.PieceAt.{PieceAt}
use Rattle.p4_lexer.specs.declared.extents.WordAt.{WordAt}
use Rattle.p4_lexer.specs.declared.extents.Item.{Item as ItemAt}
use Rattle.p4_lexer.specs.declared.extents.Item.TheVariants.{Word as WordItem, Replaced as ReplacedItem}
use Rattle.p4_lexer.specs.declared.macro_table.MacroTable.{MacroTable}
use Rattle.p4_lexer.specs.declared.replacing.Frame.{Frame}
use Rattle.p4_lexer.specs.declared.replacing.Replacing.{Replacing}
use Rattle.p4_lexer.specs.Extents.{IsIn, placed_at, item_at, bytes_at}
use Rattle.p4_lexer.specs.MacroTable.{AreInForce, AreSame, name_of_number, words_of_number, number_of}
use Rattle.p4_lexer.specs.Scope.{Macro}
use Rattle.p4_lexer.specs.Replacement.{Item, names_macro}
use Rattle.p4_lexer.specs.Stack.{names, inside_word, FramesGive, WordGives, AreFrames, AreMarks, weight_at, total_at, Reaches, Overfills}
use Rattle.p4_lexer.proofs.StackLemmas.{kept_gives, put_gives, frame_ends, frame_goes, frames_total, named_number, marks_put, marks_taken}

pub reverse_more : {A : Type 0} (xs ys : List A) (x : A) → ys ≡ xs ++ x ∷ [] → reverse ys ≡ x ∷ reverse xs
reverse_more xs ys x e = ap reverse e ∙ reverse-append xs (x ∷ [])

one_left : (more w all : ℕ) → more + w ≡ all → more + (w + 0) ≡ all
one_left more w all e = omega arith

-- a word that stays and fits
pub reaches_kept : (t : MacroTable) (macros : List Macro) (w : WordAt) (s n : Replacing) → AreSame t None (names_macro macros (names t (reverse s.frames)) (placed_at t.text.now w))
    → AreFrames t (reverse s.frames) → AreMarks t s.marks (reverse s.frames) → n.marks ≡ s.marks → n.frames ≡ s.frames → n.items ≡ s.items ++ WordItem w ∷ []
    → n.left + weight_at (WordItem w) ≡ s.left → Reaches t macros w.place (WordGives t macros (reverse s.frames) w) s n
reaches_kept t macros w s n same frames marks em ef ei el = record {
  given = WordItem w ∷ [];
  items = ei;
  left = one_left n.left (weight_at (WordItem w)) s.left el;
  frames = subst (λ fs. AreFrames t (reverse fs)) (sym ef) frames;
  marks = subst (λ fs. AreMarks t n.marks (reverse fs)) (sym ef) (subst (λ ms. AreMarks t ms (reverse s.frames)) (sym em) marks);
  goes = λ more h. kept_gives t macros (reverse s.frames) w same more (subst (λ fs. FramesGive t macros w.place (reverse fs) more) ef h);
}

-- a word that stays and does not fit
pub overfills_kept : (t : MacroTable) (macros : List Macro) (w : WordAt) (s n : Replacing) → AreSame t None (names_macro macros (names t (reverse s.frames)) (placed_at t.text.now w))
    → IsIn t.text.now w.piece.extent → n.items ≡ s.items → n.left ≡ s.left → s.left < weight_at (WordItem w) → Overfills t w.place (WordGives t macros (reverse s.frames) w) s n
overfills_kept t macros w s n same inside ei el heavy =
    let more = frames_total t macros w.place (reverse s.frames) in
    record {
      given = [];
      item = WordItem w;
      more = more.0;
      items = ei ∙ sym (append-nil s.items);
      left = omega arith;
      heavy = omega arith;
      within = inside;
      there = refl;
      goes = kept_gives t macros (reverse s.frames) w same more.0 more.1;
    }

-- whichever it is
pub kept_comes : (t : MacroTable) (macros : List Macro) (w : WordAt) (s n : Replacing) (fits : Bool) → IsIn t.text.now w.piece.extent → AreSame t None (names_macro macros (names t (reverse s.frames)) (placed_at t.text.now w))
    → AreFrames t (reverse s.frames) → AreMarks t s.marks (reverse s.frames) → n.marks ≡ s.marks → n.frames ≡ s.frames → n.items ≡ cond fits (s.items ++ WordItem w ∷ []) s.items
    → MatchBool fits (n.left + weight_at (WordItem w) ≡ s.left) ((n.left ≡ s.left) × (s.left < weight_at (WordItem w)))
    → MatchBool fits (Reaches t macros w.place (WordGives t macros (reverse s.frames) w) s n) (Overfills t w.place (WordGives t macros (reverse s.frames) w) s n)
kept_comes t macros w s n true inside same frames marks em ef ei el = reaches_kept t macros w s n same frames marks em ef ei el
kept_comes t macros w s n false inside same frames marks em ef ei el = overfills_kept t macros w s n same inside ei el.0 el.1

-- of the value of a result
pub both_ok : {X E : Type 0} (r : Result X E) (P Q R : X → Type 0) → ((x : X) → P x → Q x → R x) → IfOk r P → IfOk r Q → IfOk r R
both_ok (Ok x) P Q R f p q = f x p q
both_ok (Err e) P Q R f p q = tt

unmarked_apart : (b : Bool) (o : Option Bool) → o ≡ Some b → o ≡ Some false → b ≡ false
unmarked_apart b o e f = cc

-- a name that is replaced and fits
reaches_put : (t : MacroTable) (macros : List Macro) (w : WordAt) (s n : Replacing) (k : ℕ) → AreInForce t macros
    → AreSame t (Some k) (names_macro macros (names t (reverse s.frames)) (placed_at t.text.now w))
    → number_of t (bytes_at t.text.now w.piece.extent) ≡ Some k → slice_get s.marks k ≡ Some false
    → AreFrames t (reverse s.frames) → AreMarks t s.marks (reverse s.frames) → n.marks ≡ slice_set s.marks k true → n.frames ≡ s.frames ++ record { number = k; next = 0 } ∷ []
    → n.items ≡ s.items ++ ReplacedItem w ∷ [] → n.left + weight_at (ReplacedItem w) ≡ s.left → Reaches t macros w.place (WordGives t macros (reverse s.frames) w) s n
reaches_put t macros w s n k all same there unmarked frames marks em ef ei el =
    let name = bytes_at t.text.now w.piece.extent in
    let f : Frame = record { number = k; next = 0 } in
    let turned : reverse n.frames ≡ f ∷ reverse s.frames = reverse_more s.frames n.frames f ef in
    let own : name_of_number t k ≡ name = named_number t macros name k all there in
    let apart : list_any (bytes_eq name) (names t (reverse s.frames)) ≡ false = unmarked_apart (list_any (bytes_eq name) (names t (reverse s.frames))) (slice_get s.marks k) (marks name k there) unmarked in
    record {
      given = ReplacedItem w ∷ [];
      items = ei;
      left = one_left n.left (weight_at (ReplacedItem w)) s.left el;
      frames = subst (AreFrames t) (sym turned)
          (subst (λ q. number_of t q ≡ Some k) (sym own) there, subst (λ q. list_any (bytes_eq q) (names t (reverse s.frames)) ≡ false) (sym own) apart, frames);
      marks = subst (AreMarks t n.marks) (sym turned)
          (subst (λ ms. AreMarks t ms (f ∷ reverse s.frames)) (sym em) (marks_put t macros s.marks (reverse s.frames) name k all there marks));
      goes = λ more h. put_gives t macros (reverse s.frames) w k same more (subst (λ fs. FramesGive t macros w.place fs more) turned h);
    }

pub put_reaches : (t : MacroTable) (macros : List Macro) (w : WordAt) (s m n : Replacing) (k : ℕ) (fits : Bool) → fits ≡ true → AreInForce t macros
    → AreSame t (Some k) (names_macro macros (names t (reverse s.frames)) (placed_at t.text.now w))
    → number_of t (bytes_at t.text.now w.piece.extent) ≡ Some k → slice_get s.marks k ≡ Some false
    → AreFrames t (reverse s.frames) → AreMarks t s.marks (reverse s.frames)
    → m.marks ≡ s.marks → m.frames ≡ s.frames → m.items ≡ cond fits (s.items ++ ReplacedItem w ∷ []) s.items
    → MatchBool fits (m.left + weight_at (ReplacedItem w) ≡ s.left) ((m.left ≡ s.left) × (s.left < weight_at (ReplacedItem w)))
    → n.marks ≡ slice_set m.marks k true → n.frames ≡ m.frames ++ record { number = k; next = 0 } ∷ [] → n.items ≡ m.items → n.left ≡ m.left
    → Reaches t macros w.place (WordGives t macros (reverse s.frames) w) s n
put_reaches t macros w s m n k false h all same there unmarked frames marks mm mf mi ml em ef ei el = absurd (cc)
put_reaches t macros w s m n k true h all same there unmarked frames marks mm mf mi ml em ef ei el =
    reaches_put t macros w s n k all same there unmarked frames marks (em ∙ ap (λ ms. slice_set ms k true) mm) (ef ∙ ap (λ fs. fs ++ record { number = k; next = 0 } ∷ []) mf) (ei ∙ mi)
    (ap (λ l. l + weight_at (ReplacedItem w)) el ∙ ml)

-- a name that is replaced and does not fit
pub overfills_put : (t : MacroTable) (macros : List Macro) (w : WordAt) (s n : Replacing) (k : ℕ) (fits : Bool) → fits ≡ false → IsIn t.text.now w.piece.extent
    → AreSame t (Some k) (names_macro macros (names t (reverse s.frames)) (placed_at t.text.now w))
    → n.items ≡ cond fits (s.items ++ ReplacedItem w ∷ []) s.items → MatchBool fits (n.left + weight_at (ReplacedItem w) ≡ s.left) ((n.left ≡ s.left) × (s.left < weight_at (ReplacedItem w)))
    → Overfills t w.place (WordGives t macros (reverse s.frames) w) s n
overfills_put t macros w s n k true h inside same ei el = absurd (cc)
overfills_put t macros w s n k false h inside same ei (el, heavy) =
    let more = frames_total t macros w.place (record { number = k; next = 0 } ∷ reverse s.frames) in
    record {
      given = [];
      item = ReplacedItem w;
      more = more.0;
      items = ei ∙ sym (append-nil s.items);
      left = omega arith;
      heavy = omega arith;
      within = inside;
      there = refl;
      goes = put_gives t macros (reverse s.frames) w k same more.0 more.1;
    }

-- a frame ends
pub reaches_end : (t : MacroTable) (macros : List Macro) (place : Span) (f : Frame) (s n : Replacing) → AreInForce t macros → slice_get (words_of_number t f.number) f.next ≡ None
    → AreFrames t (f ∷ reverse s.frames) → AreMarks t s.marks (f ∷ reverse s.frames) → n.marks ≡ slice_set s.marks f.number false → n.frames ≡ s.frames
    → n.items ≡ s.items → n.left ≡ s.left → Reaches t macros place (FramesGive t macros place (f ∷ reverse s.frames)) s n
reaches_end t macros place f s n all ended frames marks em ef ei el = record {
  given = [];
  items = ei ∙ sym (append-nil s.items);
  left = omega arith;
  frames = subst (λ fs. AreFrames t (reverse fs)) (sym ef) frames.2;
  marks = subst (λ fs. AreMarks t n.marks (reverse fs)) (sym ef) (subst (λ ms. AreMarks t ms (reverse s.frames)) (sym em) (marks_taken t macros s.marks f (reverse s.frames) all frames marks));
  goes = λ more h. frame_ends t macros place f (reverse s.frames) ended more (subst (λ fs. FramesGive t macros place (reverse fs) more) ef h);
}

-- a frame behind its next word
pub frames_behind : (t : MacroTable) (f : Frame) (s m : Replacing) → m.frames ≡ s.frames ++ record { number = f.number; next = f.next + 1 } ∷ [] → AreFrames t (f ∷ reverse s.frames) → AreFrames t (reverse m.frames)
frames_behind t f s m e frames = subst (AreFrames t) (sym (reverse_more s.frames m.frames (record { number = f.number; next = f.next + 1 }) e)) frames

pub marks_behind : (t : MacroTable) (f : Frame) (s m : Replacing) → m.frames ≡ s.frames ++ record { number = f.number; next = f.next + 1 } ∷ [] → m.marks ≡ s.marks
    → AreMarks t s.marks (f ∷ reverse s.frames) → AreMarks t m.marks (reverse m.frames)
marks_behind t f s m e em marks =
    subst (AreMarks t m.marks) (sym (reverse_more s.frames m.frames (record { number = f.number; next = f.next + 1 }) e)) (subst (λ ms. AreMarks t ms (f ∷ reverse s.frames)) (sym em) marks)

-- what the next word reaches, the frame with its next word reaches
pub step_reaches : (t : MacroTable) (macros : List Macro) (place : Span) (f : Frame) (p : PieceAt) (s m n : Replacing) → slice_get (words_of_number t f.number) f.next ≡ Some p
    → m.frames ≡ s.frames ++ record { number = f.number; next = f.next + 1 } ∷ [] → m.items ≡ s.items → m.left ≡ s.left
    → (fits : Bool)
    → MatchBool fits (Reaches t macros place (WordGives t macros (reverse m.frames) (inside_word place p)) m n) (Overfills t place (WordGives t macros (reverse m.frames) (inside_word place p)) m n)
    → MatchBool fits (Reaches t macros place (FramesGive t macros place (f ∷ reverse s.frames)) s n) (Overfills t place (FramesGive t macros place (f ∷ reverse s.frames)) s n)
step_reaches t macros place f p s m n there ef ei el true r = record {
  given = r.given;
  items = r.items ∙ ap (λ is. is ++ r.given) ei;
  left = r.left ∙ el;
  frames = r.frames;
  marks = r.marks;
  goes = λ more h. frame_goes t macros place f (reverse s.frames) p there (map (item_at t.text.now) r.given ++ more)
      (subst (λ fs. WordGives t macros fs (inside_word place p) (map (item_at t.text.now) r.given ++ more)) (reverse_more s.frames m.frames (record { number = f.number; next = f.next + 1 }) ef) (r.goes more h));
}
step_reaches t macros place f p s m n there ef ei el false r = record {
  given = r.given;
  item = r.item;
  more = r.more;
  items = r.items ∙ ap (λ is. is ++ r.given) ei;
  left = r.left ∙ el;
  heavy = r.heavy;
  within = r.within;
  there = r.there;
  goes = frame_goes t macros place f (reverse s.frames) p there (map (item_at t.text.now) r.given ++ item_at t.text.now r.item ∷ r.more)
      (subst (λ fs. WordGives t macros fs (inside_word place p) (map (item_at t.text.now) r.given ++ item_at t.text.now r.item ∷ r.more)) (reverse_more s.frames m.frames (record { number = f.number; next = f.next + 1 }) ef) r.goes);
}

-- totals add up
pub total_append : (xs ys : List ItemAt) → total_at (xs ++ ys) ≡ total_at xs + total_at ys
total_append [] ys = omega arith
total_append (x ∷ xs) ys = omega (arith, total_append xs ys)

given_append : (t : MacroTable) (xs ys : List ItemAt) (more : List Item) → map (item_at t.text.now) (xs ++ ys) ++ more ≡ map (item_at t.text.now) xs ++ (map (item_at t.text.now) ys ++ more)
given_append t xs ys more = ap (λ is. is ++ more) (map-append (item_at t.text.now) xs ys) ∙ append_assoc (map (item_at t.text.now) xs) (map (item_at t.text.now) ys) more

-- one step more: the innermost frame was taken, and what it gives came
pub reaches_more : (t : MacroTable) (macros : List Macro) (place : Span) (Whole : List Item → Type 0) (f : Frame) (s m o n : Replacing) → Reaches t macros place Whole s m
    → m.frames ≡ o.frames ++ f ∷ [] → o.items ≡ m.items → o.left ≡ m.left
    → Reaches t macros place (FramesGive t macros place (f ∷ reverse o.frames)) o n → Reaches t macros place Whole s n
reaches_more t macros place Whole f s m o n r ef ei el q = record {
  given = r.given ++ q.given;
  items = q.items ∙ ap (λ is. is ++ q.given) (ei ∙ r.items) ∙ append_assoc s.items r.given q.given;
  left = omega (arith, total_append r.given q.given, r.left, q.left);
  frames = q.frames;
  marks = q.marks;
  goes = λ more h. subst Whole (sym (given_append t r.given q.given more))
      (r.goes (map (item_at t.text.now) q.given ++ more) (subst (λ fs. FramesGive t macros place fs (map (item_at t.text.now) q.given ++ more)) (sym (reverse_more o.frames m.frames f ef)) (q.goes more h)));
}

pub overfills_more : (t : MacroTable) (macros : List Macro) (place : Span) (Whole : List Item → Type 0) (f : Frame) (s m o n : Replacing) → Reaches t macros place Whole s m
    → m.frames ≡ o.frames ++ f ∷ [] → o.items ≡ m.items → o.left ≡ m.left
    → Overfills t place (FramesGive t macros place (f ∷ reverse o.frames)) o n → Overfills t place Whole s n
overfills_more t macros place Whole f s m o n r ef ei el q = record {
  given = r.given ++ q.given;
  item = q.item;
  more = q.more;
  items = q.items ∙ ap (λ is. is ++ q.given) (ei ∙ r.items) ∙ append_assoc s.items r.given q.given;
  left = omega (arith, total_append r.given q.given, r.left, q.left);
  heavy = q.heavy;
  within = q.within;
  there = q.there;
  goes = subst Whole (sym (given_append t r.given q.given (item_at t.text.now q.item ∷ q.more)))
      (r.goes (map (item_at t.text.now) q.given ++ item_at t.text.now q.item ∷ q.more)
      (subst (λ fs. FramesGive t macros place fs (map (item_at t.text.now) q.given ++ item_at t.text.now q.item ∷ q.more)) (sym (reverse_more o.frames m.frames f ef)) q.goes));
}
