-- The loop over events: what came so far, and with what the rest gives, all that the source gives.
use Rattle.std.proofs.Common.{◌≡◌, ℕ, false, cond, ◌+◌, ◌<◌, List, [], ◌∷◌, ◌++◌, length, drop, map, reverse, Option, Some, None, append_assoc, refl, sym, ap, subst, arith, ◌⊎◌, inl, inr, ◌∙◌, Contains, length-append}
use Rattle.std.proofs.lemmas.List.{append-nil, map-append}
use Rattle.std.proofs.lemmas.List.Elements.{All-append}
use Rattle.std.specs.List.{All, filter, slice_get}
use Rattle.std.specs.Str.{bytes_eq}
use Rattle.tg_base.specs.declared.place.Span.{Span}
use Rattle.p4_lexer.specs.declared.limits.TheConstants.{MAX_WEIGHT}
use Rattle.p4_lexer.specs.declared.extents.Extent.{Extent}
use Rattle.p4_lexer.specs.declared.extents.PieceAt.{PieceAt}
use Rattle.p4_lexer.specs.declared.extents.WordAt.{WordAt}
use Rattle.p4_lexer.specs.declared.extents.Event.{Event}
use Rattle.p4_lexer.specs.declared.extents.Event.TheVariants.{Word as WordEvent, Define, Undefine}
use Rattle.p4_lexer.specs.declared.extents.Item.{Item as ItemAt}
use Rattle.p4_lexer.specs.declared.extents.Item.TheVariants.{Word as WordItem, Replaced as ReplacedItem}
use Rattle.p4_lexer.specs.declared.macro_table.MacroTable.{MacroTable}
use Rattle.p4_lexer.specs.declared.replacing.Replacing.{Replacing}
use Rattle.p4_lexer.specs.Events.{IsPieceOf, IsNextPlace}
use Rattle.p4_lexer.specs.Extents.{IsIn, item_at, placed_at, bytes_at, cut_at, words_of}
use Rattle.p4_lexer.specs.declared.macro_table.Definition.{Definition}
use Rattle.p4_lexer.specs.MacroTable.{AreInForce, AreSame, AreWordsIn, IsWordOf, number_of, definition_words}
use Rattle.p4_lexer.specs.Scope.{Macro, without}
use Rattle.p4_lexer.specs.SourceWords.{is_word}
use Rattle.p4_lexer.specs.Replacement.{Item, Gives, AreItems}
use Rattle.p4_lexer.specs.Stack.{FramesGive, AreMarks, Reaches, Overfills, Adds, word_of_item, total_at}
use Rattle.p4_lexer.specs.Weight.{word_of, weight, total_weight, within}
use Rattle.p4_lexer.proofs.ReplacementLemmas.{items_total}
use Rattle.p4_lexer.proofs.ReplacingLemmas.{total_append}
use Rattle.p4_lexer.proofs.TableLemmas.{undefined, unmarked_still, defined, marks_more, word_of_more, among_pieces}
use Rattle.p4_lexer.proofs.WithinLemmas.{weight_is, total_is, within_stops, within_all}

pub record Comes (text : List ℕ) (events : List Event) (at : ℕ) (t : MacroTable) (s : Replacing) : Type 0 where
  pub same_text : t.text.now ≡ text
  pub words : AreWordsIn t
  pub known : (p : PieceAt) → IsWordOf t p → IsPieceOf events p
  pub pieces : All (λ i. IsPieceOf events (word_of_item i).piece) s.items
  pub inside : All (λ i. IsIn text (word_of_item i).piece.extent) s.items
  pub frames : s.frames ≡ []
  pub same_length : length s.marks ≡ length t.definitions
  pub macros : List Macro
  pub in_force : AreInForce t macros
  pub marks : AreMarks t s.marks []
  pub left : s.left + total_at s.items ≡ MAX_WEIGHT
  pub goes : (rest : List Item) → AreItems (words_of text macros (drop at events)) rest → AreItems (words_of text [] events) (map (item_at text) s.items ++ rest)

-- what was added are pieces of the events, in the text
abbrev pub Own : MacroTable → WordAt → PieceAt → Type 0
Own t w p = (p ≡ w.piece) ⊎ IsWordOf t p

pub added_pieces : (events : List Event) (t : MacroTable) (w : WordAt) (old new : List ItemAt) → ((p : PieceAt) → IsWordOf t p → IsPieceOf events p) → IsPieceOf events w.piece
    → All (λ i. IsPieceOf events (word_of_item i).piece) old → Adds (Own t w) old new → All (λ i. IsPieceOf events (word_of_item i).piece) new
added_pieces events t w old new known own all (given, e, adds) =
    subst (All (λ i. IsPieceOf events (word_of_item i).piece)) (sym e) (All-append (λ i. IsPieceOf events (word_of_item i).piece) old given all (λ k d h. by _ (adds k d h))) where
      by : (p : PieceAt) → Own t w p → IsPieceOf events p
      by p (inl e) = subst (IsPieceOf events) (sym e) own
      by p (inr h) = known p h

pub added_inside : (text : List ℕ) (t : MacroTable) (w : WordAt) (old new : List ItemAt) → t.text.now ≡ text → AreWordsIn t → IsIn t.text.now w.piece.extent
    → All (λ i. IsIn text (word_of_item i).piece.extent) old → Adds (Own t w) old new → All (λ i. IsIn text (word_of_item i).piece.extent) new
added_inside text t w old new same words own all (given, e, adds) =
    subst (All (λ i. IsIn text (word_of_item i).piece.extent)) (sym e) (All-append (λ i. IsIn text (word_of_item i).piece.extent) old given all (λ k d h. by _ (adds k d h))) where
      by : (p : PieceAt) → Own t w p → IsIn text p.extent
      by p (inl e) = subst (λ x. IsIn x p.extent) same (subst (λ q. IsIn t.text.now q.extent) (sym e) own)
      by p (inr h) = subst (λ x. IsIn x p.extent) same (words p h)

with_rest : (text : List ℕ) (old new given : List ItemAt) (rest : List Item) → new ≡ old ++ given → map (item_at text) old ++ (map (item_at text) given ++ rest) ≡ map (item_at text) new ++ rest
with_rest text old new given rest e =
    sym (append_assoc (map (item_at text) old) (map (item_at text) given) rest) ∙ ap (λ is. is ++ rest) (sym (map-append (item_at text) old given) ∙ ap (map (item_at text)) (sym e))

left_on : (a b c m : ℕ) (old new given : List ItemAt) → new ≡ old ++ given → a + total_at given ≡ b → b + total_at old ≡ m → a + total_at new ≡ m
left_on a b c m old new given e h g = subst (λ is. a + total_at is ≡ m) (sym e) (omega (arith, total_append old given))

-- a word of the source
pub comes_word : (text : List ℕ) (events : List Event) (at : ℕ) (t : MacroTable) (s n : Replacing) (w : WordAt) → (c : Comes text events at t s) → drop at events ≡ WordEvent w ∷ drop (at + 1) events
    → IsIn t.text.now w.piece.extent → IsPieceOf events w.piece → Reaches t c.macros w.place (Gives c.macros [] (placed_at t.text.now w ∷ [])) s n → Adds (Own t w) s.items n.items
    → n.frames ≡ [] → length n.marks ≡ length s.marks → Comes text events (at + 1) t n
comes_word text events at t s n w c here inside known r adds ef el = record {
  same_text = c.same_text;
  words = c.words;
  known = c.known;
  pieces = added_pieces events t w s.items n.items c.known known c.pieces adds;
  inside = added_inside text t w s.items n.items c.same_text c.words inside c.inside adds;
  frames = ef;
  same_length = el ∙ c.same_length;
  macros = c.macros;
  in_force = c.in_force;
  marks = subst (λ fs. AreMarks t n.marks (reverse fs)) ef r.marks;
  left = left_on n.left s.left 0 MAX_WEIGHT s.items n.items r.given r.items r.left c.left;
  goes = λ rest h.
      let own : Gives c.macros [] (placed_at t.text.now w ∷ []) (map (item_at t.text.now) r.given ++ []) = r.goes [] (subst (λ fs. FramesGive t c.macros w.place (reverse fs) []) (sym ef) refl) in
      let bare : Gives c.macros [] (placed_at text w ∷ []) (map (item_at text) r.given) =
      subst (Gives c.macros [] (placed_at text w ∷ [])) (append-nil (map (item_at text) r.given)) (subst (λ x. Gives c.macros [] (placed_at x w ∷ []) (map (item_at x) r.given ++ [])) c.same_text own) in
      let all : AreItems (words_of text c.macros (drop at events)) (map (item_at text) r.given ++ rest) =
      subst (λ es. AreItems (words_of text c.macros es) (map (item_at text) r.given ++ rest)) (sym here) (map (item_at text) r.given, rest, refl, bare, h) in
      subst (AreItems (words_of text [] events)) (with_rest text s.items n.items r.given rest r.items) (c.goes (map (item_at text) r.given ++ rest) all);
}

-- what came of a source that weighs too much, and of one that does not
abbrev pub IsAll : List ℕ → List Event → List ItemAt → Option Span → Type 0
IsAll text events items place =
    (all : List Item) × AreItems (words_of text [] events) all × (map (item_at text) items ≡ within MAX_WEIGHT all) × IsNextPlace all (within MAX_WEIGHT all) place

item_place : (text : List ℕ) (i : ItemAt) → (word_of (item_at text i)).place ≡ (word_of_item i).place
item_place text (WordItem w) = refl
item_place text (ReplacedItem w) = refl

pub overfull : (text : List ℕ) (events : List Event) (at : ℕ) (t : MacroTable) (s n : Replacing) (w : WordAt) → (c : Comes text events at t s) → drop at events ≡ WordEvent w ∷ drop (at + 1) events
    → IsIn t.text.now w.piece.extent → Overfills t w.place (Gives c.macros [] (placed_at t.text.now w ∷ [])) s n → Adds (Own t w) s.items n.items
    → IsAll text events n.items (Some w.place)
overfull text events at t s n w c here own r adds =
    let last : Item = item_at text r.item in
    let came : List Item = map (item_at text) n.items in
    let rest = items_total (words_of text c.macros (drop (at + 1) events)) in
    let first : List Item = map (item_at text) r.given ++ last ∷ r.more in
    let gives : Gives c.macros [] (placed_at text w ∷ []) (map (item_at text) r.given ++ last ∷ r.more) =
    subst (λ x. Gives c.macros [] (placed_at x w ∷ []) (map (item_at x) r.given ++ item_at x r.item ∷ r.more)) c.same_text r.goes in
    let here_gives : AreItems (words_of text c.macros (drop at events)) (first ++ rest.0) =
    subst (λ es. AreItems (words_of text c.macros es) (first ++ rest.0)) (sym here) (first, rest.0, refl, gives, rest.1) in
    let are : AreItems (words_of text [] events) (map (item_at text) s.items ++ (first ++ rest.0)) = c.goes (first ++ rest.0) here_gives in
    let split : map (item_at text) s.items ++ (first ++ rest.0) ≡ came ++ last ∷ (r.more ++ rest.0) =
    ap (λ is. map (item_at text) s.items ++ is) (append_assoc (map (item_at text) r.given) (last ∷ r.more) rest.0) ∙ with_rest text s.items n.items r.given (last ∷ (r.more ++ rest.0)) r.items in
    let inside : All (λ i. IsIn text (word_of_item i).piece.extent) n.items = added_inside text t w s.items n.items c.same_text c.words own c.inside adds in
    let weighs : n.left + total_at n.items ≡ MAX_WEIGHT = left_on n.left s.left 0 MAX_WEIGHT s.items n.items r.given r.items r.left c.left in
    let total : n.left + total_weight came ≡ MAX_WEIGHT = subst (λ k. n.left + k ≡ MAX_WEIGHT) (sym (total_is text n.items inside)) weighs in
    let heavy : n.left < weight last = subst (λ k. n.left < k) (sym (weight_is text r.item (subst (λ x. IsIn x (word_of_item r.item).piece.extent) c.same_text r.within))) r.heavy in
    let stops : within MAX_WEIGHT (came ++ last ∷ (r.more ++ rest.0)) ≡ came = within_stops came last (r.more ++ rest.0) MAX_WEIGHT n.left total heavy in (
      came ++ last ∷ (r.more ++ rest.0),
      subst (AreItems (words_of text [] events)) split are,
      sym stops,
      (last, r.more ++ rest.0, ap (λ is. is ++ last ∷ (r.more ++ rest.0)) (sym stops), item_place text r.item ∙ r.there),
    )

pub whole : (text : List ℕ) (events : List Event) (at : ℕ) (t : MacroTable) (s : Replacing) → (c : Comes text events at t s) → drop at events ≡ [] → IsAll text events s.items None
whole text events at t s c ends =
    let came : List Item = map (item_at text) s.items in
    let are : AreItems (words_of text [] events) came =
    subst (AreItems (words_of text [] events)) (append-nil came) (c.goes [] (subst (λ es. AreItems (words_of text c.macros es) []) (sym ends) refl)) in
    let total : s.left + total_weight came ≡ MAX_WEIGHT = subst (λ k. s.left + k ≡ MAX_WEIGHT) (sym (total_is text s.items c.inside)) c.left in
    let fits : within MAX_WEIGHT came ≡ came = within_all came MAX_WEIGHT (omega arith) in
    (came, are, sym fits, sym fits)

-- nothing yet
pub comes_first : (text : List ℕ) (events : List Event) (t : MacroTable) (s : Replacing) → t.text.now ≡ text → t.definitions ≡ [] → ((q : List ℕ) → number_of t q ≡ None)
    → s ≡ record { marks = []; frames = []; items = []; left = MAX_WEIGHT } → Comes text events 0 t s
comes_first text events t s et ed en es =
    let no_word : (p : PieceAt) → IsWordOf t p → ⊥ = λ p h. no_words t.definitions ed h.0 h.1 p h.2 in
    subst (Comes text events 0 t) (sym es)
    (record {
      same_text = et;
      words = λ p h. absurd (no_word p h);
      known = λ p h. absurd (no_word p h);
      pieces = λ k d h. absurd (omega arith);
      inside = λ k d h. absurd (omega arith);
      frames = refl;
      same_length = ap length (sym ed);
      macros = [];
      in_force = λ q. subst (λ o. AreSame t o None) (sym (en q)) tt;
      marks = λ q n e. let f = en q in absurd (cc);
      left = omega arith;
      goes = λ rest h. h;
    }) where
      no_words : (ds : List Definition) → ds ≡ [] → (n k : ℕ) (p : PieceAt) → slice_get (definition_words (slice_get ds n)) k ≡ Some p → ⊥
      no_words [] e n k p h = cc
      no_words (d ∷ ds) e n k p h = cc

-- a name that is taken away
pub comes_undefined : (text : List ℕ) (events : List Event) (at : ℕ) (t u : MacroTable) (s : Replacing) (name : Extent) → (c : Comes text events at t s) → drop at events ≡ Undefine name ∷ drop (at + 1) events
    → u.text ≡ t.text → u.definitions ≡ t.definitions → ((q : List ℕ) → number_of u q ≡ cond (bytes_eq (bytes_at t.text.now name) q) None (number_of t q))
    → Comes text events (at + 1) u s
comes_undefined text events at t u s name c here et ed en =
    let same : u.text.now ≡ t.text.now = ap (λ r. r.now) et in
    let back : (p : PieceAt) → IsWordOf u p → IsWordOf t p = λ p h. (h.0, h.1, subst (λ ds. slice_get (definition_words (slice_get ds h.0)) h.1 ≡ Some p) ed h.2) in
    record {
      same_text = same ∙ c.same_text;
      words = λ p h. subst (λ x. IsIn x p.extent) (sym same) (c.words p (back p h));
      known = λ p h. c.known p (back p h);
      pieces = c.pieces;
      inside = c.inside;
      frames = c.frames;
      same_length = c.same_length ∙ ap length (sym ed);
      macros = without c.macros (bytes_at text name);
      in_force = subst (λ x. AreInForce u (without c.macros (bytes_at x name))) c.same_text (undefined t u c.macros (bytes_at t.text.now name) same ed en c.in_force);
      marks = unmarked_still t u s.marks (bytes_at t.text.now name) en c.marks;
      left = c.left;
      goes = λ rest h. c.goes rest (subst (λ es. AreItems (words_of text c.macros es) rest) (sym here) h);
    }

-- a name that is defined
pub comes_defined : (text : List ℕ) (events : List Event) (at : ℕ) (t u : MacroTable) (s : Replacing) (name : Extent) (ps : List PieceAt) → (c : Comes text events at t s)
    → drop at events ≡ Define name ps ∷ drop (at + 1) events → All (λ p. IsIn t.text.now p.extent) ps → ((p : PieceAt) → Contains ps p → IsPieceOf events p)
    → u.text ≡ t.text → u.definitions ≡ t.definitions ++ record { name = name; words = filter (λ p. is_word p.kind) ps } ∷ []
    → ((q : List ℕ) → number_of u q ≡ cond (bytes_eq (bytes_at t.text.now name) q) (Some (length t.definitions)) (number_of t q))
    → (n : Replacing) → n ≡ record s { marks = s.marks ++ false ∷ [] } → Comes text events (at + 1) u n
comes_defined text events at t u s name ps c here inside known et ed en n is =
    let same : u.text.now ≡ t.text.now = ap (λ r. r.now) et in
    let by : (p : PieceAt) → IsWordOf u p → IsWordOf t p ⊎ Contains ps p = λ p h.
    more_words t.definitions (record { name = name; words = filter (λ q. is_word q.kind) ps }) ps refl h.0 h.1 p (subst (λ ds. slice_get (definition_words (slice_get ds h.0)) h.1 ≡ Some p) ed h.2) in
    subst (Comes text events (at + 1) u) (sym is)
    (record {
      same_text = same ∙ c.same_text;
      words = λ p h. subst (λ x. IsIn x p.extent) (sym same) (in_text p (by p h));
      known = λ p h. of_events p (by p h);
      pieces = c.pieces;
      inside = c.inside;
      frames = c.frames;
      same_length = longer s.marks t.definitions u.definitions false (record { name = name; words = filter (λ q. is_word q.kind) ps }) ed c.same_length;
      macros = record { name = bytes_at text name; words = map (cut_at text) ps } ∷ without c.macros (bytes_at text name);
      in_force = subst (λ x. AreInForce u (record { name = bytes_at x name; words = map (cut_at x) ps } ∷ without c.macros (bytes_at x name))) c.same_text
          (defined t u c.macros s.marks name ps same ed en c.same_length c.marks c.in_force);
      marks = marks_more t u s.marks (bytes_at t.text.now name) en c.same_length c.marks;
      left = c.left;
      goes = λ rest h. c.goes rest (subst (λ es. AreItems (words_of text c.macros es) rest) (sym here) h);
    }) where
      more_words : (ds : List Definition) (d : Definition) (ps : List PieceAt) → d.words ≡ filter (λ q. is_word q.kind) ps → (i k : ℕ) (p : PieceAt) → slice_get (definition_words (slice_get (ds ++ d ∷ []) i)) k ≡ Some p
          → ((j : ℕ) × (l : ℕ) × (slice_get (definition_words (slice_get ds j)) l ≡ Some p)) ⊎ Contains ps p
      more_words ds d ps e i k p h = part (word_of_more ds d i k p h) where
        part : (slice_get (definition_words (slice_get ds i)) k ≡ Some p) ⊎ (slice_get d.words k ≡ Some p) → ((j : ℕ) × (l : ℕ) × (slice_get (definition_words (slice_get ds j)) l ≡ Some p)) ⊎ Contains ps p
        part (inl g) = inl (i, k, g)
        part (inr g) = inr (among_pieces (λ q. is_word q.kind) ps k p (subst (λ ws. slice_get ws k ≡ Some p) e g))

      in_text : (p : PieceAt) → IsWordOf t p ⊎ Contains ps p → IsIn t.text.now p.extent
      in_text p (inl h) = c.words p h
      in_text p (inr (k, h, e)) = subst (λ q. IsIn t.text.now q.extent) e (inside k p h)

      of_events : (p : PieceAt) → IsWordOf t p ⊎ Contains ps p → IsPieceOf events p
      of_events p (inl h) = c.known p h
      of_events p (inr h) = known p h

      longer : {A B : Type 0} (xs : List A) (ys zs : List B) (x : A) (y : B) → zs ≡ ys ++ y ∷ [] → length xs ≡ length ys → length (xs ++ x ∷ []) ≡ length zs
      longer xs ys zs x y e h = omega (arith, length-append xs (x ∷ []), length-append ys (y ∷ []), ap length e)
