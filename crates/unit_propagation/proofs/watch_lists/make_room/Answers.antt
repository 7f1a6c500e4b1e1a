-- One literal more has its room.
use Rattle.std.proofs.Common.{◌≡◌, ◌<◌, ℕ, List, Vec, Global, ap, sym, ◌∙◌, subst, arith, take, length, get_or, inl, inr}
use Rattle.std.specs.Prelude.{Contains}
use Rattle.std.proofs.lemmas.List.{length-map, take_more, take_all}
use Rattle.std.proofs.lemmas.List.Elements.{Contains-push_cases}
use Rattle.cnf_core.specs.declared.formula.Lit.{Lit}
use Rattle.unit_propagation.specs.LitCodes.{code_of}
use Rattle.unit_propagation.proofs.watch_lists.make_room.Goals as goal

pub loop-l-preserved : goal.loop-l-preserved
loop-l-preserved c =
    let inv = c.loop-l.invariant in
    let after = c.in_ok-make_room_at.ensures in
    let f = λ (v : Vec ℕ Global). v.items in
    let clause = c.args.clause.now in
    let i = c.loop-l.l-index in
    let x = get_or clause i c.l-item.result in
    let old_size = length-map c.loop-l.lists.items f in
    let new_size = length-map c.make_room_at.new.lists.items f in
    let size = ap length after.lists in
    record {
      lists = after.lists ∙ inv.lists;
      list_count = omega (arith, inv.list_count);
      size = after.size ∙ inv.size;
      keeps = λ k. let a = inv.keeps k in let b = after.keeps k in omega arith;
      grows = λ k stands.
          let b = after.keeps (code_of k) in
          elim (Contains-push_cases (take i clause) x k (subst (λ (ls : List Lit). Contains ls k) (take_more clause i c.l-item.result c.loop-l-test.true) stands)) [
            | inl before ↦ let a = inv.grows k before in omega arith
            | inr is ↦
                let a = inv.keeps (code_of k) in
                let at : c.place.result ≡ code_of k = c.place.ensures ∙ ap code_of (c.l-item.is ∙ is) in
                let g : get_or c.loop-l.held.items (code_of k) 0 < get_or c.make_room_at.new.held.items (code_of k) 0 =
                subst (λ (j : ℕ). get_or c.loop-l.held.items j 0 < get_or c.make_room_at.new.held.items j 0) at after.grows in
                omega arith
          ];
      room = after.room;
    }

pub returns-clause-grows : goal.returns-clause-grows
returns-clause-grows c = λ l stands. c.loop-l.invariant.grows l (subst (λ (ls : List Lit). Contains ls l) (sym (take_all c.loop-l.l-index c.args.clause.now c.loop-l-test.false)) stands)
