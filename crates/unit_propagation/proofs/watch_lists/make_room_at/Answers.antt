-- The list keeps its clauses, and its room is at least the number that it is counted for.
use Rattle.std.proofs.Common.{◌≡◌, ◌<◌, ◌≤◌, [], ℕ, List, Vec, Global, ap, ◌∙◌, arith, map, length, get_or, inl, inr}
use Rattle.std.specs.Prelude.{vec_capacity}
use Rattle.std.proofs.Math.ListN.{set}
use Rattle.std.proofs.lemmas.Bool.{cases_eq}
use Rattle.std.proofs.lemmas.List.{map-set, set-get_or, length-map, get_or-set_same, get_or-set_other}
use Rattle.unit_propagation.proofs.ListLemmas.{map_read, set_keeps}
use Rattle.unit_propagation.proofs.watch_lists.make_room_at.Goals as goal

same_lists : (lists : List (Vec ℕ Global)) (k : ℕ) (old new : Vec ℕ Global) → k < length lists → old ≡ get_or lists k old → new.items ≡ old.items →
    map (λ (v : Vec ℕ Global). v.items) (set lists k new) ≡ map (λ (v : Vec ℕ Global). v.items) lists
same_lists lists k old new inside at same =
    let f = λ (v : Vec ℕ Global). v.items in
    map-set f lists k new ∙ ap (λ (xs : List ℕ). set (map f lists) k xs) (same ∙ map_read f lists k old [] inside at) ∙ set-get_or (map f lists) k []

more_room : (lists : List (Vec ℕ Global)) (k : ℕ) (old new : Vec ℕ Global) → k < length lists → old ≡ get_or lists k old → vec_capacity old ≤ vec_capacity new →
    (i : ℕ) → get_or (map (λ (v : Vec ℕ Global). vec_capacity v) lists) i 0 ≤ get_or (map (λ (v : Vec ℕ Global). vec_capacity v) (set lists k new)) i 0
more_room lists k old new inside at more i =
    let f = λ (v : Vec ℕ Global). vec_capacity v in
    let read = map_read f lists k old 0 inside at in
    let keeps = set_keeps (map f lists) k (vec_capacity new) (omega arith) i in
    let same = ap (λ (xs : List ℕ). get_or xs i 0) (map-set f lists k new) in
    omega arith

pub returns-in_err-reserve_for-clause-lists : goal.returns-in_err-reserve_for-clause-lists
returns-in_err-reserve_for-clause-lists c =
    same_lists c.args.lists.now.items c.args.at c.index_mut.result.now c.reserve_for.new.list c.requires.lists c.index_mut.ensures.value c.in_err-reserve_for.ensures.items

pub returns-in_err-reserve_for-clause-room : goal.returns-in_err-reserve_for-clause-room
returns-in_err-reserve_for-clause-room c = λ i.
    let before = c.requires.room i in
    let more = more_room c.args.lists.now.items c.args.at c.index_mut.result.now c.reserve_for.new.list c.requires.lists c.index_mut.ensures.value c.in_err-reserve_for.ensures.capacity i in
    omega arith

pub returns-clause-lists : goal.returns-clause-lists
returns-clause-lists c =
    same_lists c.args.lists.now.items c.args.at c.index_mut.result.now c.reserve_for.new.list c.requires.lists c.index_mut.ensures.value c.in_ok-reserve_for.ensures.items

pub returns-clause-room : goal.returns-clause-room
returns-clause-room c = λ i.
    let held = c.args.held.now.items in
    let lists = c.args.lists.now.items in
    let f = λ (v : Vec ℕ Global). vec_capacity v in
    let new = c.reserve_for.new.list in
    let before = c.requires.room i in
    let more = more_room lists c.args.at c.index_mut.result.now new c.requires.lists c.index_mut.ensures.value c.in_ok-reserve_for.ensures.capacity i in
    elim (cases_eq i c.args.at) [
      | inl same ↦
          let here : get_or (set held c.args.at c.in-Some.wanted) i 0 ≡ c.in-Some.wanted =
          ap (λ (j : ℕ). get_or (set held c.args.at c.in-Some.wanted) j 0) same ∙ get_or-set_same held c.args.at c.in-Some.wanted 0 c.requires.numbers in
          let size = length-map lists f in
          let there : get_or (map f (set lists c.args.at new)) i 0 ≡ vec_capacity new =
          ap (λ (xs : List ℕ). get_or xs i 0) (map-set f lists c.args.at new) ∙ ap (λ (j : ℕ). get_or (set (map f lists) c.args.at (vec_capacity new)) j 0) same
          ∙ get_or-set_same (map f lists) c.args.at (vec_capacity new) 0 (omega (arith, c.requires.lists)) in
          omega (arith, here, there, c.in_ok-reserve_for.ensures.room)
      | inr other ↦
          let same = get_or-set_other held c.args.at i c.in-Some.wanted 0 other in
          omega arith
    ]
