-- There is room in the lists of the watched literals, and the clause is found there afterwards.
use Rattle.std.proofs.Common.{◌≡◌, ◌≤◌, ◌<◌, ◌++◌, ◌∷◌, [], ℕ, List, Vec, Global, ap, sym, ◌∙◌, subst, arith, map, length, get_or}
use Rattle.std.specs.Prelude.{vec_capacity, Contains, IsTrue}
use Rattle.std.proofs.lemmas.List.{length-map}
use Rattle.std.proofs.lemmas.List.Elements.{All-contains}
use Rattle.cnf_core.specs.declared.formula.Lit.{Lit}
use Rattle.unit_propagation.specs.declared.pair.Pair.{Pair}
use Rattle.unit_propagation.specs.Units.{IsWithin}
use Rattle.unit_propagation.specs.LitCodes.{code_of}
use Rattle.unit_propagation.specs.Watching.{Watched, IsIndexed, IsHeld, ListsRoom, ListsClause, watches}
use Rattle.unit_propagation.proofs.PairLemmas.{code_below}
use Rattle.unit_propagation.proofs.IndexedLemmas.{watch_count, indexed_more, held_more}
use Rattle.unit_propagation.proofs.watched_clauses.WatchedClauses.add.Goals as goal

fits : (width : ℕ) (clauses : List (List Lit)) (pairs : List Pair) (lists : List (List ℕ)) (rooms held more : List ℕ) (clause : List Lit) (p : Pair) →
    IsIndexed width clauses pairs lists → IsHeld clauses held → IsWithin width clause → ((l : Lit) → IsTrue (watches p l) → Contains clause l) →
    ((l : Lit) → Contains clause l → get_or held (code_of l) 0 < get_or more (code_of l) 0) → ((i : ℕ) → get_or more i 0 ≤ get_or rooms i 0) → ListsRoom p lists rooms
fits width clauses pairs lists rooms held more clause p h counts within stands grows room l is =
    let there = stands l is in
    let below = All-contains (λ k. k.var < width) clause l within there in
    let few = watch_count width clauses pairs lists held l h counts in
    let up = grows l there in
    let most = room (code_of l) in
    (code_below l width (length lists) below h.size, omega arith)

pub list_clause-requires : goal.list_clause-requires
list_clause-requires c =
    let f = λ (v : Vec ℕ Global). v.items in
    let inside = c.self.inside in
    let width = ap (λ (w : Watched). w.width) c.self.view_is in
    let h = c.self.invariant in
    let within : IsWithin inside.width c.args.clause.now = subst (λ (n : ℕ). IsWithin n c.args.clause.now) (sym width) c.requires.within in
    subst (λ (ls : List (List ℕ)). ListsRoom c.args.pair.now ls (map (λ (v : Vec ℕ Global). vec_capacity v) c.make_room.new.lists.items)) (sym c.in_ok-make_room.ensures.lists)
    (fits inside.width inside.clauses inside.pairs.items (map f inside.lists.items) (map (λ (v : Vec ℕ Global). vec_capacity v) c.make_room.new.lists.items)
    inside.held.items c.make_room.new.held.items c.args.clause.now c.args.pair.now h.indexed h.held within c.requires.stands
    c.in_ok-make_room.ensures.grows c.in_ok-make_room.ensures.room)

pub invariant_of-self-2 : goal.invariant_of-self-2
invariant_of-self-2 c =
    let f = λ (v : Vec ℕ Global). v.items in
    let inside = c.self.inside in
    let h = c.self.invariant in
    let width = ap (λ (w : Watched). w.width) c.self.view_is in
    let within : IsWithin inside.width c.args.clause.now = subst (λ (n : ℕ). IsWithin n c.args.clause.now) (sym width) c.requires.within in
    let clauses_is : c.push.new.self ≡ inside.clauses ++ c.args.clause.now ∷ [] = c.in_ok-push.ensures.pushed in
    let pairs_is : c.push_reserved.new.self.items ≡ inside.pairs.items ++ c.args.pair.now ∷ [] =
    c.push_reserved.ensures.items ∙ ap (λ (ps : List Pair). ps ++ c.args.pair.now ∷ []) c.in_ok-reserve.ensures.items in
    let number : c.in-Some.number ≡ length inside.clauses = c.in-Some.ensures.is ∙ c.len.ensures in
    let listed : ListsClause c.args.pair.now (length inside.clauses) (map f inside.lists.items) (map f c.list_clause.new.lists.items) =
    subst (λ (n : ℕ). ListsClause c.args.pair.now n (map f inside.lists.items) (map f c.list_clause.new.lists.items)) number
    (subst (λ (ls : List (List ℕ)). ListsClause c.args.pair.now c.in-Some.number ls (map f c.list_clause.new.lists.items)) c.in_ok-make_room.ensures.lists c.list_clause.ensures.listed) in
    let before = length-map inside.lists.items f in
    let mid = length-map c.make_room.new.lists.items f in
    let after = length-map c.list_clause.new.lists.items f in
    let same = ap length c.in_ok-make_room.ensures.lists in
    record {
      indexed = subst (λ (ps : List Pair). IsIndexed inside.width c.push.new.self ps (map f c.list_clause.new.lists.items)) (sym pairs_is)
          (subst (λ (cs : List (List Lit)). IsIndexed inside.width cs (inside.pairs.items ++ c.args.pair.now ∷ []) (map f c.list_clause.new.lists.items)) (sym clauses_is)
          (indexed_more inside.width inside.clauses inside.pairs.items (map f inside.lists.items) (map f c.list_clause.new.lists.items) c.args.clause.now c.args.pair.now
          h.indexed within c.requires.stands (omega (arith, c.list_clause.ensures.size)) listed));
      held_size = omega (arith, h.held_size, c.in_ok-make_room.ensures.size);
      held = subst (λ (cs : List (List Lit)). IsHeld cs c.make_room.new.held.items) (sym clauses_is)
          (held_more inside.clauses c.args.clause.now inside.held.items c.make_room.new.held.items h.held c.in_ok-make_room.ensures.keeps
          c.in_ok-make_room.ensures.grows);
      room = λ i. let a = c.in_ok-make_room.ensures.room i in let b = c.list_clause.ensures.rooms i in omega arith;
    }
