use Rattle.std.proofs.Common.{sym, ap, ◌∙◌, ◌∷◌, [], ◌++◌, subst, is_some, ◌≡◌, false, nat_eq}
use Rattle.std.specs.Map.{lookup}
use Rattle.std.specs.Cmp.Lexicographic.{pointwise}
use Rattle.p4_consts.proofs.NameLaws.{shown_lookup, shown_insert, shown, kept, joined}
use Rattle.p4_consts.proofs.names.Names.declare.Goals as goal

pub returns-then-contains_key-clause-ok : goal.returns-then-contains_key-clause-ok
returns-then-contains_key-clause-ok g c =
    rw (← c.self.view_is, shown_lookup (λ k. k.items) c.args.name.now c.self.inside.entries.entries)
    (kept _ _ _ (sym c.contains_key.ensures ∙ c.if-contains_key.true))

pub returns-clause-ok : goal.returns-clause-ok
returns-clause-ok g c =
    rw (← c.self.view_is, shown_lookup (λ k. k.items) c.args.name.now c.self.inside.entries.entries)
    (joined _ _ _ _ (sym c.contains_key.ensures ∙ c.if-contains_key.false)
    (ap (shown (λ k. k.items)) c.in_ok-insert.ensures.entries
    ∙ shown_insert (λ k. k.items) c.in_ok-key.key c.args.value c.self.inside.entries.entries
    (subst (λ n. is_some (lookup (λ k. pointwise nat_eq n k.items) c.self.inside.entries.entries) ≡ false) (sym c.in_ok-key.ensures.items)
    (sym c.contains_key.ensures ∙ c.if-contains_key.false))
    ∙ ap (λ n. shown (λ k. k.items) c.self.inside.entries.entries ++ (n, c.args.value) ∷ []) c.in_ok-key.ensures.items))
