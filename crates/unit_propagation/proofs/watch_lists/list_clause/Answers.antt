-- Both lists get the clause where the two literals differ, and none where they are one.
use Rattle.std.proofs.Common.{◌≡◌, ◌≢◌, ◌<◌, ◌++◌, ◌∷◌, [], ℕ, List, Vec, Global, refl, ap, sym, ◌∙◌, subst, arith, map, length, inl, inr}
use Rattle.std.proofs.Math.ListN.{set}
use Rattle.std.proofs.lemmas.List.{get_or-set_same, get_or-set_other, length-set, length-map}
use Rattle.cnf_core.specs.declared.formula.Lit.{Lit}
use Rattle.cnf_core.proofs.Literals.{lit-cases}
use Rattle.unit_propagation.specs.declared.pair.Pair.{Pair}
use Rattle.unit_propagation.specs.LitCodes.{code_of}
use Rattle.unit_propagation.specs.Watching.{list_at, ListsClause}
use Rattle.unit_propagation.proofs.PairLemmas.{watches_cases, watches_first, watches_second, watches_not, code_same}
use Rattle.unit_propagation.proofs.watch_lists.list_clause.Goals as goal

-- a clause that goes into two lists
both : (p : Pair) (c : ℕ) (old : List (List ℕ)) → p.first ≢ p.second → code_of p.first < length old → code_of p.second < length old →
    ListsClause p c old (set (set old (code_of p.first) (list_at old p.first ++ c ∷ [])) (code_of p.second) (list_at (set old (code_of p.first) (list_at old p.first ++ c ∷ [])) p.second ++ c ∷ []))
both p c old differ first second l = elim (lit-cases p.first l) [
  | inl is_first ↦ inl (watches_first p l differ is_first, at_first is_first)
  | inr not_first ↦ elim (lit-cases p.second l) [
    | inl is_second ↦ inl (watches_second p l differ is_second, at_second is_second)
    | inr not_second ↦ inr (
      watches_not p l (λ is. elim (watches_cases p l is).1 [ inl a ↦ not_first a | inr b ↦ not_second b ]),
      get_or-set_other mid (code_of p.second) (code_of l) added [] (λ same. not_second (sym (code_same l p.second same)))
          ∙ get_or-set_other old (code_of p.first) (code_of l) (list_at old p.first ++ c ∷ []) [] (λ same. not_first (sym (code_same l p.first same))),
    )
  ]
] where
  mid : List (List ℕ)
  mid = set old (code_of p.first) (list_at old p.first ++ c ∷ [])

  added : List ℕ
  added = list_at mid p.second ++ c ∷ []

  at_first : p.first ≡ l → list_at (set mid (code_of p.second) added) l ≡ list_at old l ++ c ∷ []
  at_first is_first =
      get_or-set_other mid (code_of p.second) (code_of l) added [] (λ same. differ (is_first ∙ code_same l p.second same))
      ∙ ap (λ (k : Lit). list_at mid k) (sym is_first) ∙ get_or-set_same old (code_of p.first) (list_at old p.first ++ c ∷ []) [] first ∙ ap (λ (k : Lit). list_at old k ++ c ∷ []) is_first

  at_second : p.second ≡ l → list_at (set mid (code_of p.second) added) l ≡ list_at old l ++ c ∷ []
  at_second is_second =
      ap (λ (k : Lit). list_at (set mid (code_of p.second) added) k) (sym is_second)
      ∙ get_or-set_same mid (code_of p.second) added [] (let size = length-set old (code_of p.first) (list_at old p.first ++ c ∷ []) in omega arith)
      ∙ ap (λ (cs : List ℕ). cs ++ c ∷ []) (get_or-set_other old (code_of p.first) (code_of p.second) (list_at old p.first ++ c ∷ []) [] (λ same. differ (sym (code_same p.second p.first same)))
      ∙ ap (λ (k : Lit). list_at old k) is_second)

pub append-requires-clause-inside : goal.append-requires-clause-inside
append-requires-clause-inside c =
    let there = (c.requires c.args.pair.now.first (watches_first c.args.pair.now c.args.pair.now.first (c.is_watched.ensures.0 c.if-is_watched.true) refl)).0 in
    let size = length-map c.args.lists.now.items (λ (v : Vec ℕ Global). v.items) in
    omega arith

pub append-requires-clause-room : goal.append-requires-clause-room
append-requires-clause-room c = (c.requires c.args.pair.now.first (watches_first c.args.pair.now c.args.pair.now.first (c.is_watched.ensures.0 c.if-is_watched.true) refl)).1

pub returns-then-is_watched-clause-listed : goal.returns-then-is_watched-clause-listed
returns-then-is_watched-clause-listed c =
    let p = c.args.pair.now in
    let f = λ (v : Vec ℕ Global). v.items in
    let lists = map f c.args.lists.now.items in
    let differ = c.is_watched.ensures.0 c.if-is_watched.true in
    let mid = set lists (code_of p.first) (list_at lists p.first ++ c.args.number ∷ []) in
    let end : map f c.append-then-is_watched.new.lists.items ≡ set mid (code_of p.second) (list_at mid p.second ++ c.args.number ∷ []) =
    c.append-then-is_watched.ensures.lists ∙ ap (λ (ls : List (List ℕ)). set ls (code_of p.second) (list_at ls p.second ++ c.args.number ∷ [])) c.append.ensures.lists in
    subst (ListsClause p c.args.number lists) (sym end)
    (both p c.args.number lists differ (c.requires p.first (watches_first p p.first differ refl)).0 (c.requires p.second (watches_second p p.second differ refl)).0)
