-- The list is written back with the clause at its end.
use Rattle.std.proofs.Common.{◌≡◌, ◌++◌, ◌∷◌, [], ℕ, List, Vec, Global, ap, ◌∙◌, arith, map, get_or}
use Rattle.std.specs.Prelude.{vec_capacity}
use Rattle.std.proofs.Math.ListN.{set}
use Rattle.std.proofs.lemmas.List.{map-set}
use Rattle.unit_propagation.specs.LitCodes.{code_of}
use Rattle.unit_propagation.specs.Watching.{list_at}
use Rattle.unit_propagation.proofs.ListLemmas.{map_read, set_keeps}
use Rattle.unit_propagation.proofs.watch_lists.append.Goals as goal

pub returns-clause-lists : goal.returns-clause-lists
returns-clause-lists c =
    let lists = c.args.lists.now.items in
    let f = λ (v : Vec ℕ Global). v.items in
    let new = c.push_reserved.new.self in
    let read : c.index_mut-list.result.now.items ≡ get_or (map f lists) c.place.result [] =
    map_read f lists c.place.result c.index_mut-list.result.now [] (omega (arith, c.place.ensures, c.requires.inside)) c.index_mut-list.ensures.value in
    let items : new.items ≡ list_at (map f lists) c.args.l ++ c.args.number ∷ [] =
    c.push_reserved.ensures.items ∙ ap (λ (xs : List ℕ). xs ++ c.args.number ∷ []) (read ∙ ap (λ (i : ℕ). get_or (map f lists) i []) c.place.ensures) in
    map-set f lists c.place.result new ∙ ap (λ (i : ℕ). set (map f lists) i new.items) c.place.ensures
    ∙ ap (λ (xs : List ℕ). set (map f lists) (code_of c.args.l) xs) items

pub returns-clause-rooms : goal.returns-clause-rooms
returns-clause-rooms c = λ i.
    let lists = c.args.lists.now.items in
    let f = λ (v : Vec ℕ Global). vec_capacity v in
    let new = c.push_reserved.new.self in
    let read : vec_capacity c.index_mut-list.result.now ≡ get_or (map f lists) c.place.result 0 =
    map_read f lists c.place.result c.index_mut-list.result.now 0 (omega (arith, c.place.ensures, c.requires.inside)) c.index_mut-list.ensures.value in
    let more = set_keeps (map f lists) c.place.result (vec_capacity new) (omega (arith, read, c.push_reserved.ensures.capacity)) i in
    let same = ap (λ (xs : List ℕ). get_or xs i 0) (map-set f lists c.place.result new) in
    omega arith
