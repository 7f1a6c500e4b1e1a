-- Among the entries of a table one wins at most: those that a bounded input has, and the constant ones of a program.
use Rattle.std.proofs.Common.{◌≡◌, ◌≢◌, ℕ, zero, suc, ◌≤◌, Bool, true, false, ◌==◌, List, [], ◌∷◌, map, Option, Some, None, ⊎_elim, refl, sym, ap, ◌∙◌, subst, arith}
use Rattle.std.specs.Prelude.{cond, Contains, filter, slice_get, option_and_then, IsSomeAnd}
use Rattle.std.specs.Option.{option_map_or}
use Rattle.std.proofs.lemmas.Bool.{eqb-true, ltb-false}
use Rattle.std.proofs.lemmas.Option.{none-some, same_Some}
use Rattle.p4_program.specs.declared.bounds.Bounds.{Bounds}
use Rattle.p4_program.specs.declared.typed.input.Entry.{Entry}
use Rattle.p4_program.specs.declared.typed.input.Input.{Input}
use Rattle.p4_program.specs.declared.typed.instances.NamedTable.{NamedTable}
use Rattle.p4_program.specs.declared.typed.tables.ConstantEntry.{ConstantEntry}
use Rattle.p4_program.specs.BoundedInput.{BoundedInput}
use Rattle.p4_program.specs.Entries.{PatternsFit, EntryFits, FitsTable, Differ, Apart}
use Rattle.p4_program.specs.Syntax.Callables.{CoreTable, CoreControl, CoreCallable, OfAction, OfParser, OfControl}
use Rattle.p4_program.specs.Syntax.Lookup.{tables_in, table_in, table_at, is_ordered, ordered_at}
use Rattle.p4_program.specs.Syntax.Programs.{CoreProgram}
use Rattle.p4_program.specs.WellFormed.Callables.{TableFits, ConstantEntryFits, table_scope}
use Rattle.p4_program.specs.WellFormed.Programs.{WellFormed}
use Rattle.p4_meaning.specs.Runs.Tables.{of_entry, of_constant, of_constants, candidates_in}
use Rattle.p4_program.specs.Winners.{Candidate, all_match, beats, prefix_length, Wins}
use Rattle.p4_meaning.proofs.PatternLaws.{same_patterns, prefix_keys}
use Rattle.p4_meaning.proofs.ListLaws.{Each, Pairs, each_all, pairs_all, each_in, each_by, first_or_later, none_in}

-- ---- one winner, where no two entries that match are equally strong

module _ (ordered : Bool) (key : List ℕ) where
  -- of two entries that match one beats the other
  abbrev pub Settles : Candidate → Candidate → Type 0
  Settles d e = all_match d.keys key ≡ true → all_match e.keys key ≡ true → beats ordered d e ≡ false → beats ordered e d ≡ false → ⊥

  one_of : (es : List Candidate) (w v : Candidate) → Pairs Settles es → Contains es w → Contains es v → all_match w.keys key ≡ true → all_match v.keys key ≡ true
      → beats ordered w v ≡ false → beats ordered v w ≡ false → w ≡ v
  one_of [] w v h c k mw mv b b' = none_in w c
  one_of (e ∷ es) w v h c k mw mv b b' =
      ⊎_elim
      (λ (first : e ≡ w). ⊎_elim
      (λ (second : e ≡ v). sym first ∙ second)
      (λ later. absurd (subst (λ x. Settles x v) first (each_in (Settles e) es v h.0 later) mw mv b b')) (first_or_later e es v k))
      (λ later. ⊎_elim
      (λ (second : e ≡ v). absurd (subst (λ x. Settles x w) second (each_in (Settles e) es w h.0 later) mv mw b' b))
      (λ later'. one_of es w v h.1 later later' mw mv b b') (first_or_later e es v k)) (first_or_later e es w c)

  pub one_wins : (es : List Candidate) (w v : Candidate) → Pairs Settles es → Wins ordered es key w → Wins ordered es key v → w ≡ v
  one_wins es w v h f g = one_of es w v h f.stands g.stands f.match g.match (g.unbeaten w f.stands f.match) (f.unbeaten v g.stands g.match)

-- entries of different ranks, of an ordered table
by_rank : (key : List ℕ) (d e : Candidate) → d.rank ≢ e.rank → Settles true key d e
by_rank key d e differ m n b b' =
    let up : e.rank ≤ d.rank = ltb-false d.rank e.rank b in
    let down : d.rank ≤ e.rank = ltb-false e.rank d.rank b' in
    differ (omega (arith, up, down))

-- entries of different keys, of another table
by_keys : (t : CoreTable) (key : List ℕ) (d e : Candidate) → is_ordered t ≡ false → prefix_keys t.keys ≤ 1 → PatternsFit t.keys d.keys → PatternsFit t.keys e.keys
    → d.keys ≢ e.keys → Settles false key d e
by_keys t key d e unordered one f g differ m n b b' =
    let up : prefix_length d.keys ≤ prefix_length e.keys = ltb-false (prefix_length e.keys) (prefix_length d.keys) b in
    let down : prefix_length e.keys ≤ prefix_length d.keys = ltb-false (prefix_length d.keys) (prefix_length e.keys) b' in
    differ (same_patterns t.keys d.keys e.keys key f g unordered one (omega (arith, up, down)) m n)

-- ---- entries that the control plane has put into the table of this number

module _ (p : CoreProgram) (n : ℕ) (t : CoreTable) (is : table_at p n ≡ Some t) (one : prefix_keys t.keys ≤ 1) (key : List ℕ) where
  fits_table : (e : Entry) → EntryFits p e → e.table ≡ n → FitsTable p e t
  fits_table e h here =
      let at_n : IsSomeAnd (table_at p n) (FitsTable p e) = subst (λ k. IsSomeAnd (table_at p k) (FitsTable p e)) here h in
      subst (λ o. IsSomeAnd o (FitsTable p e)) is at_n

  ordered_is : (e : Entry) → e.table ≡ n → ordered_at p e.table ≡ is_ordered t
  ordered_is e here = ap (λ k. ordered_at p k) here ∙ ap (λ o. option_map_or is_ordered o false) is

  settles : (d e : Entry) → EntryFits p d → EntryFits p e → d.table ≡ n → e.table ≡ n → Apart p d e → Settles (is_ordered t) key (of_entry d) (of_entry e)
  settles d e f g here there apart =
      let differ : Differ (is_ordered t) d e = subst (λ b. Differ b d e) (ordered_is d here) (apart.differ (here ∙ sym there)) in
      case (is_ordered t) refl differ
    where
      case : (b : Bool) → is_ordered t ≡ b → Differ b d e → Settles b key (of_entry d) (of_entry e)
      case true o differ = by_rank key (of_entry d) (of_entry e) differ
      case false o differ =
          by_keys t key (of_entry d) (of_entry e) o one (fits_table d f here).keys (fits_table e g there).keys differ

  abbrev here : List Entry → List Candidate
  here es = map of_entry (filter (λ e. e.table == n) es)

  each_settled : (d : Entry) (es : List Entry) → EntryFits p d → d.table ≡ n → Each (EntryFits p) es → Each (Apart p d) es → Each (Settles (is_ordered t) key (of_entry d)) (here es)
  each_settled d [] f at h a = tt
  each_settled d (e ∷ es) f at h a = case (e.table == n) refl (each_settled d es f at h.1 a.1)
    where
      case : (b : Bool) → (e.table == n) ≡ b → Each (Settles (is_ordered t) key (of_entry d)) (here es)
          → Each (Settles (is_ordered t) key (of_entry d)) (map of_entry (cond b (e ∷ filter (λ e. e.table == n) es) (filter (λ e. e.table == n) es)))
      case true same rest = (settles d e f h.0 at (eqb-true e.table n same) a.0, rest)
      case false other rest = rest

  pub entries_settled : (es : List Entry) → Each (EntryFits p) es → Pairs (Apart p) es → Pairs (Settles (is_ordered t) key) (here es)
  entries_settled [] h a = tt
  entries_settled (e ∷ es) h a = case (e.table == n) refl (entries_settled es h.1 a.1)
    where
      case : (b : Bool) → (e.table == n) ≡ b → Pairs (Settles (is_ordered t) key) (here es)
          → Pairs (Settles (is_ordered t) key) (map of_entry (cond b (e ∷ filter (λ e. e.table == n) es) (filter (λ e. e.table == n) es)))
      case true same rest = (each_settled e es h.0 (eqb-true e.table n same) h.1 a.0, rest)
      case false other rest = rest

-- ---- constant entries

-- the ranks from a place on
ranked : (low place : ℕ) (es : List ConstantEntry) → low ≤ place → Each (λ c. low ≤ c.rank) (of_constants place es)
ranked low place [] l = tt
ranked low place (e ∷ es) l = (l, ranked low (suc place) es (omega (arith, l)))

ordered_settled : (key : List ℕ) (place : ℕ) (es : List ConstantEntry) → Pairs (Settles true key) (of_constants place es)
ordered_settled key place [] = tt
ordered_settled key place (e ∷ es) = (
  each_by (λ c. suc place ≤ c.rank) (Settles true key (of_constant place e)) (of_constants (suc place) es)
      (λ c l. by_rank key (of_constant place e) c (λ same. omega (arith, same, l))) (ranked (suc place) (suc place) es (omega arith)),
  ordered_settled key (suc place) es,
)

module _ (t : CoreTable) (one : prefix_keys t.keys ≤ 1) (key : List ℕ) (unordered : is_ordered t ≡ false) where
  abbrev Fitting : ConstantEntry → Type 0
  Fitting e = PatternsFit t.keys e.keys

  first_settled : (place later : ℕ) (d : ConstantEntry) (es : List ConstantEntry) → Fitting d → Each Fitting es → Each (λ e. d.keys ≢ e.keys) es
      → Each (Settles false key (of_constant place d)) (of_constants later es)
  first_settled place later d [] f h a = tt
  first_settled place later d (e ∷ es) f h a =
      (by_keys t key (of_constant place d) (of_constant later e) unordered one f h.0 a.0, first_settled place (suc later) d es f h.1 a.1)

  keys_settled : (place : ℕ) (es : List ConstantEntry) → Each Fitting es → Pairs (λ d e. d.keys ≢ e.keys) es → Pairs (Settles false key) (of_constants place es)
  keys_settled place [] h a = tt
  keys_settled place (e ∷ es) h a = (first_settled place (suc place) e es h.0 h.1 a.0, keys_settled (suc place) es h.1 a.1)

-- ---- a table of a well-formed program

all_at : {A : Type 0} (P : A → Type 0) (xs : List A) (k : ℕ) (x : A) → Each P xs → slice_get xs k ≡ Some x → P x
all_at P [] k x h e = absurd (none-some x e)
all_at P (y ∷ xs) zero x h e = subst P (same_Some y x e) h.0
all_at P (y ∷ xs) (suc k) x h e = all_at P xs k x h.1 e

module _ (p : CoreProgram) (well : WellFormed p) (t : CoreTable) where
  abbrev Fitted : Type 0
  Fitted = (n : ℕ) × (c : CoreControl) × (k : ℕ) × TableFits (table_scope p n c k) t

  in_callable : (n k : ℕ) (o : Option CoreCallable) → slice_get p.callables n ≡ o → option_and_then (λ c. slice_get (tables_in c) k) o ≡ Some t → Fitted
  in_callable n k None at e = absurd (none-some t e)
  in_callable n k (Some (OfAction a)) at e = absurd (none-some t e)
  in_callable n k (Some (OfParser q)) at e = absurd (none-some t e)
  in_callable n k (Some (OfControl c)) at e = (n, c, k, (well.callables_stand n (OfControl c) at).tables_fit k t e)

  named : (o : Option NamedTable) → option_and_then (table_in p.callables) o ≡ Some t → Fitted
  named None e = absurd (none-some t e)
  named (Some i) e = in_callable i.control i.table (slice_get p.callables i.control) refl e

  pub table_fits : (n : ℕ) → table_at p n ≡ Some t → Fitted
  table_fits n e = named (slice_get p.tables n) e

  constants_settled : (fitted : Fitted) (key : List ℕ) (es : List ConstantEntry) → t.entries ≡ Some es → Pairs (Settles (is_ordered t) key) (of_constants 0 es)
  constants_settled fitted key es e = case (is_ordered t) refl
    where
      case : (b : Bool) → is_ordered t ≡ b → Pairs (Settles b key) (of_constants 0 es)
      case true o = ordered_settled key 0 es
      case false o =
          let fit = fitted.3.entries_fit es e in
          keys_settled t fitted.3.one_prefix key o 0 es
          (each_by (ConstantEntryFits (table_scope p fitted.0 fitted.1 fitted.2) t) (λ c. PatternsFit t.keys c.keys) es (λ c f. f.keys_fit)
          (each_all (ConstantEntryFits (table_scope p fitted.0 fitted.1 fitted.2) t) es fit.each_fits))
          (pairs_all (λ d c. d.keys ≢ c.keys) es (fit.different o))

  candidates_settled : (b : Bounds) (x : Input) (bounded : BoundedInput p b x) (n : ℕ) → table_at p n ≡ Some t → (key : List ℕ) → (o : Option (List ConstantEntry))
      → t.entries ≡ o → Pairs (Settles (is_ordered t) key) (candidates_in o n x.entries)
  candidates_settled b x bounded n is key (Some es) e = constants_settled (table_fits n is) key es e
  candidates_settled b x bounded n is key None e =
      entries_settled p n t is (table_fits n is).3.one_prefix key x.entries (each_all (EntryFits p) x.entries bounded.entries.each_fits)
      (pairs_all (Apart p) x.entries bounded.entries.apart)

  pub one_winner : (b : Bounds) (x : Input) → BoundedInput p b x → (n : ℕ) → table_at p n ≡ Some t → (key : List ℕ) (w v : Candidate)
      → Wins (is_ordered t) (candidates_in t.entries n x.entries) key w → Wins (is_ordered t) (candidates_in t.entries n x.entries) key v → w ≡ v
  one_winner b x bounded n is key w v f g =
      one_wins (is_ordered t) key (candidates_in t.entries n x.entries) w v (candidates_settled b x bounded n is key t.entries refl) f g
