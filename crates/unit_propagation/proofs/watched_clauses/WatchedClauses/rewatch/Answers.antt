-- The list that the clause comes to has room for it, and the clause is found by its new literals.
use Rattle.std.proofs.Common.{◌≡◌, ◌≢◌, ◌≤◌, ◌<◌, ◌++◌, ◌∷◌, [], ℕ, List, Vec, Global, refl, ap, sym, ◌∙◌, subst, arith, map, length, get_or, inl, inr}
use Rattle.std.specs.Prelude.{vec_capacity, swap_remove}
use Rattle.std.proofs.Math.ListN.{set}
use Rattle.std.proofs.lemmas.List.{length-map, length-set, map-set, get_or-set_other, get_or_default}
use Rattle.std.proofs.lemmas.Option.{get_or_from_slice_get, slice_get_within}
use Rattle.cnf_core.specs.declared.formula.Lit.{Lit}
use Rattle.unit_propagation.specs.LitCodes.{code_of}
use Rattle.unit_propagation.specs.Watching.{Watched, IsIndexed, IsHeld, MovesWatch, list_at, pair_of}
use Rattle.unit_propagation.proofs.PairLemmas.{code_below, code_same, other_only, watches_not}
use Rattle.unit_propagation.proofs.ListLemmas.{map_read, set_keeps}
use Rattle.unit_propagation.proofs.IndexedLemmas.{watch_count_less, indexed_moved, lists_moved, AreMoved}
use Rattle.unit_propagation.proofs.watched_clauses.WatchedClauses.rewatch.Goals as goal

-- the literal's list has room for a clause that comes to it
fits : (w : Watched) (c : ℕ) (from : Lit) (place : ℕ) (other to : Lit) (rooms held : List ℕ) →
    IsIndexed w.width w.clauses w.pairs w.lists → IsHeld w.clauses held → ((i : ℕ) → get_or held i 0 ≤ get_or rooms i 0) →
    MovesWatch w c from place other to → length (list_at w.lists to) < get_or rooms (code_of to) 0
fits w c from place other to rooms held h counts room moves =
    let d = pair_of other to in
    let is_not = watches_not (get_or w.pairs c d) to (λ is. elim (other_only (get_or w.pairs c d) from other to (moves.pair d) is) [
      | inl is_from ↦ moves.not_from is_from
      | inr is_other ↦ moves.not_other is_other
    ]) in
    let less = watch_count_less w.width w.clauses w.pairs w.lists held to c d [] h counts moves.inside is_not (moves.stands []) in
    let most = room (code_of to) in
    omega arith

-- the list that the clause leaves
left : (lists : List (Vec ℕ Global)) (k place c : ℕ) (old new : Vec ℕ Global) (r : ℕ) → k < length lists → old ≡ get_or lists k old →
    new.items ≡ swap_remove old.items place r → r ≡ get_or old.items place r → place < length old.items → get_or old.items place c ≡ c →
    map (λ (v : Vec ℕ Global). v.items) (set lists k new) ≡ set (map (λ (v : Vec ℕ Global). v.items) lists) k (swap_remove (get_or (map (λ (v : Vec ℕ Global). v.items) lists) k []) place c)
left lists k place c old new r inside at is value within here =
    let f = λ (v : Vec ℕ Global). v.items in
    let same : r ≡ c = value ∙ get_or_default old.items place r c within ∙ here in
    map-set f lists k new ∙ ap (λ (xs : List ℕ). set (map f lists) k xs)
    (is ∙ ap (λ (x : ℕ). swap_remove old.items place x) same ∙ ap (λ (xs : List ℕ). swap_remove xs place c) (map_read f lists k old [] inside at))

inside_of : (w v : Watched) (c : ℕ) (from : Lit) (place : ℕ) (other to : Lit) → v ≡ w → MovesWatch w c from place other to → MovesWatch v c from place other to
inside_of w v c from place other to same moves = subst (λ (x : Watched). MovesWatch x c from place other to) (sym same) moves

pub append-requires-clause-room : goal.append-requires-clause-room
append-requires-clause-room c =
    let f = λ (v : Vec ℕ Global). v.items in
    let g = λ (v : Vec ℕ Global). vec_capacity v in
    let inside = c.self.inside in
    let lists = inside.lists.items in
    let w : Watched = record { width = inside.width; clauses = inside.clauses; pairs = inside.pairs.items; lists = map f lists } in
    let moves = inside_of c.args.self.now w c.args.clause c.args.from c.args.place c.args.other c.args.to c.self.view_is c.requires.moves in
    let h = c.self.invariant in
    let apart : code_of c.args.to ≢ c.code.result = λ same. moves.not_from (code_same c.args.to c.args.from (same ∙ c.code.ensures)) in
    let new = c.swap_remove-number.new.self in
    let list_same : list_at (map f (set lists c.code.result new)) c.args.to ≡ list_at (map f lists) c.args.to =
    ap (λ (ls : List (List ℕ)). list_at ls c.args.to) (map-set f lists c.code.result new) ∙ get_or-set_other (map f lists) c.code.result (code_of c.args.to) new.items [] apart in
    let room_same : get_or (map g (set lists c.code.result new)) (code_of c.args.to) 0 ≡ get_or (map g lists) (code_of c.args.to) 0 =
    ap (λ (ls : List ℕ). get_or ls (code_of c.args.to) 0) (map-set g lists c.code.result new) ∙ get_or-set_other (map g lists) c.code.result (code_of c.args.to) (vec_capacity new) 0 apart in
    let less = fits w c.args.clause c.args.from c.args.place c.args.other c.args.to (map g lists) inside.held.items h.indexed h.held h.room moves in
    let size = ap length list_same in
    omega arith

moved : (c : goal.After-append) → map (λ (v : Vec ℕ Global). v.items) c.append.new.lists.items ≡
    set (set (map (λ (v : Vec ℕ Global). v.items) c.self.inside.lists.items) (code_of c.args.from) (swap_remove (list_at (map (λ (v : Vec ℕ Global). v.items) c.self.inside.lists.items) c.args.from) c.args.place c.args.clause))
    (code_of c.args.to)
    (list_at (set (map (λ (v : Vec ℕ Global). v.items) c.self.inside.lists.items) (code_of c.args.from) (swap_remove (list_at (map (λ (v : Vec ℕ Global). v.items) c.self.inside.lists.items) c.args.from) c.args.place c.args.clause)) c.args.to ++ c.args.clause ∷ [])
moved c =
    let f = λ (v : Vec ℕ Global). v.items in
    let inside = c.self.inside in
    let lists = inside.lists.items in
    let w : Watched = record { width = inside.width; clauses = inside.clauses; pairs = inside.pairs.items; lists = map f lists } in
    let moves = inside_of c.args.self.now w c.args.clause c.args.from c.args.place c.args.other c.args.to c.self.view_is c.requires.moves in
    let width = ap (λ (x : Watched). x.width) c.self.view_is in
    let size = length-map lists f in
    let below = code_below c.args.from inside.width (length (map f lists)) (omega (arith, c.requires.from_within)) c.self.invariant.indexed.size in
    let at_code : c.code.result < length lists = omega (arith, c.code.ensures) in
    let read = map_read f lists c.code.result c.index_mut-list.result.now [] at_code c.index_mut-list.ensures.value in
    let list_is : c.index_mut-list.result.now.items ≡ list_at (map f lists) c.args.from = read ∙ ap (λ (i : ℕ). get_or (map f lists) i []) c.code.ensures in
    let within : c.args.place < length c.index_mut-list.result.now.items =
    subst (λ (xs : List ℕ). c.args.place < length xs) (sym list_is) (slice_get_within (list_at (map f lists) c.args.from) c.args.place c.args.clause moves.here) in
    let here : get_or c.index_mut-list.result.now.items c.args.place c.args.clause ≡ c.args.clause =
    ap (λ (xs : List ℕ). get_or xs c.args.place c.args.clause) list_is ∙ get_or_from_slice_get (list_at (map f lists) c.args.from) c.args.place c.args.clause c.args.clause moves.here in
    let mid = left lists c.code.result c.args.place c.args.clause c.index_mut-list.result.now c.swap_remove-number.new.self c.swap_remove-number.result at_code c.index_mut-list.ensures.value
    c.swap_remove-number.ensures.items c.swap_remove-number.ensures.value within here in
    let mid_is : map f (set lists c.code.result c.swap_remove-number.new.self) ≡ set (map f lists) (code_of c.args.from) (swap_remove (list_at (map f lists) c.args.from) c.args.place c.args.clause) =
    mid ∙ ap (λ (i : ℕ). set (map f lists) i (swap_remove (get_or (map f lists) i []) c.args.place c.args.clause)) c.code.ensures in
    let same : c.swap_remove-number.result ≡ c.args.clause =
    c.swap_remove-number.ensures.value ∙ get_or_default c.index_mut-list.result.now.items c.args.place c.swap_remove-number.result c.args.clause within ∙ here in
    let left = map f (set lists c.code.result c.swap_remove-number.new.self) in
    c.append.ensures.lists ∙ ap (λ (n : ℕ). set left (code_of c.args.to) (list_at left c.args.to ++ n ∷ [])) same
    ∙ ap (λ (ls : List (List ℕ)). set ls (code_of c.args.to) (list_at ls c.args.to ++ c.args.clause ∷ [])) mid_is

are_moved : (c : goal.After-append) → AreMoved (map (λ (v : Vec ℕ Global). v.items) c.self.inside.lists.items) (map (λ (v : Vec ℕ Global). v.items) c.append.new.lists.items)
    c.args.from c.args.place c.args.clause c.args.to
are_moved c =
    let f = λ (v : Vec ℕ Global). v.items in
    let lists = map f c.self.inside.lists.items in
    let width = ap (λ (x : Watched). x.width) c.self.view_is in
    let from_inside = code_below c.args.from c.self.inside.width (length lists) (omega (arith, c.requires.from_within)) c.self.invariant.indexed.size in
    let to_inside = code_below c.args.to c.self.inside.width (length lists) (omega (arith, c.requires.to_within)) c.self.invariant.indexed.size in
    subst (λ (ls : List (List ℕ)). AreMoved lists ls c.args.from c.args.place c.args.clause c.args.to) (sym (moved c))
    (lists_moved lists c.args.from c.args.place c.args.clause c.args.to from_inside to_inside c.requires.moves.not_from)

pub invariant_of-self : goal.invariant_of-self
invariant_of-self c =
    let f = λ (v : Vec ℕ Global). v.items in
    let g = λ (v : Vec ℕ Global). vec_capacity v in
    let inside = c.self.inside in
    let lists = inside.lists.items in
    let w : Watched = record { width = inside.width; clauses = inside.clauses; pairs = inside.pairs.items; lists = map f lists } in
    let moves = inside_of c.args.self.now w c.args.clause c.args.from c.args.place c.args.other c.args.to c.self.view_is c.requires.moves in
    let h = c.self.invariant in
    let width = ap (λ (x : Watched). x.width) c.self.view_is in
    let a = length-map lists f in
    let b = length-map c.append.new.lists.items f in
    let d = length-set lists c.code.result c.swap_remove-number.new.self in
    let below = code_below c.args.from inside.width (length (map f lists)) (omega (arith, c.requires.from_within)) h.indexed.size in
    let read = map_read g lists c.code.result c.index_mut-list.result.now 0 (omega (arith, c.code.ensures)) c.index_mut-list.ensures.value in
    record {
      indexed = indexed_moved w c.args.clause c.args.from c.args.place c.args.other c.args.to (map f c.append.new.lists.items) h.indexed moves
          (omega (arith, c.append.ensures.size)) (are_moved c);
      held_size = h.held_size;
      held = h.held;
      room = λ i.
          let before = h.room i in
          let keeps = set_keeps (map g lists) c.code.result (vec_capacity c.swap_remove-number.new.self) (omega (arith, c.swap_remove-number.ensures.capacity)) i in
          let same = ap (λ (ls : List ℕ). get_or ls i 0) (map-set g lists c.code.result c.swap_remove-number.new.self) in
          let after = c.append.ensures.rooms i in
          omega arith;
    }

pub returns-clause-list : goal.returns-clause-list
returns-clause-list c =
    let f = λ (v : Vec ℕ Global). v.items in
    let lists = map f c.self.inside.lists.items in
    let same = ap (λ (x : Watched). swap_remove (list_at x.lists c.args.from) c.args.place c.args.clause) c.self.view_is in
    elim (are_moved c c.args.from) [
      | inl (_, is) ↦ is ∙ same
      | inr (inl (is_to, not_from, _)) ↦ absurd (not_from refl)
      | inr (inr (not_from, not_to, _)) ↦ absurd (not_from refl)
    ]
