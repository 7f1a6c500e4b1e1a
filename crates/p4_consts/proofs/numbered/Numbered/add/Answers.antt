use Rattle.std.proofs.Common.{sym, ◌∷◌, [], ◌++◌, subst, nat_eq, arith}
use Rattle.std.specs.HashMap.{get}
use Rattle.p4_consts.specs.Numbered.{IsLatest}
use Rattle.p4_consts.proofs.NumberedLaws.{latest_added}
use Rattle.p4_consts.proofs.numbered.Numbered.add.Goals as goal

pub invariant_of-self-in-Ok : goal.invariant_of-self-in-Ok
invariant_of-self-in-Ok g c = λ k.
    subst (λ items. IsLatest items k (get nat_eq c.insert.new.self k)) (sym c.in_ok-push.ensures.items)
    (subst (IsLatest (c.self.inside.entries.items ++ (c.args.number, c.args.value) ∷ []) k)
    (sym (c.in-Ok.ensures.updates.0 k))
    (latest_added c.self.inside.entries.items c.args.number c.args.value k (get nat_eq c.self.inside.latest k) c.len-place.result (omega arith) (c.self.invariant k)))
