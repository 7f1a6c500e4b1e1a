-- An expression that applies no table leaves the store and begins nothing.
use Rattle.std.proofs.Common.{◌≡◌, ℕ, Bool, true, false, List, [], ◌∷◌, Some, None, refl, ◌∙◌}
use Rattle.std.specs.Prelude.{⊤, if◌then◌else◌}
use Rattle.p4_program.specs.declared.typed.expressions.Operator.{Operator}
use Rattle.p4_program.specs.declared.typed.paths.Path.{Path}
use Rattle.p4_program.specs.declared.typed.paths.Step.{Step}
use Rattle.p4_program.specs.Syntax.Expressions.{CoreExpression, CoreOperations, Constant, Read, IsValid, Lookahead, Unary, Operations, Slice, Resize, Choice, PartOf, ValidityOf, Hit, NoOperations, Behind}
use Rattle.p4_meaning.specs.Runs.Acts.{Environment, Act, After, Store, gives, stops, taking, value_of, values_of, at_path, Raised, stack_out_of_bounds}
use Rattle.p4_meaning.specs.Runs.Acts as act
use Rattle.p4_meaning.specs.Runs.Contents.{Content, Cell, HeaderOf, StackOf, StructOf, Contents, NoContents, Also, bits, is_true}
use Rattle.p4_meaning.specs.Runs.Courses.{Course, Ends, Reads, Begins, Makes}
use Rattle.p4_meaning.specs.Runs.Courses as course
use Rattle.p4_meaning.specs.Runs.Expressions.{Reach, applies, evaluate, evaluate_behind, part_read, with_operand, is_decided, operated, EachTable, EachTableBehind, AppliesNoTable}
use Rattle.p4_meaning.specs.Runs.Packets.{bits_from, within_packet}
use Rattle.p4_meaning.specs.Runs.Paths.{part, is_last_of_none}
use Rattle.p4_meaning.proofs.Along.{Along, Does, along_made, along_then, does_then, does_course, does_taking, does_if}
use Rattle.p4_meaning.proofs.ListLaws.{Each}

-- ---- the value of what stands at a place: no statement is begun

module _ (Mark : ℕ → Type 0) where
  mutual
    pub value_read : (c : Content) → Along Mark (λ value. ⊤) (value_of c)
    value_read (Cell scalar (Some value)) = tt
    value_read (Cell scalar None) = λ value among. tt
    value_read (HeaderOf true fields) = along_then Mark (λ values. ⊤) (λ value. ⊤) (values_of fields) (λ values. Ends (HeaderOf true values)) (values_read fields) (λ values u. tt)
    value_read (HeaderOf false fields) = tt
    value_read (StackOf elements next) = along_then Mark (λ values. ⊤) (λ value. ⊤) (values_of elements) (λ values. Ends (StackOf values 0)) (values_read elements) (λ values u. tt)
    value_read (StructOf fields) = along_then Mark (λ values. ⊤) (λ value. ⊤) (values_of fields) (λ values. Ends (StructOf values)) (values_read fields) (λ values u. tt)

    pub values_read : (cs : Contents) → Along Mark (λ values. ⊤) (values_of cs)
    values_read NoContents = tt
    values_read (Also c cs) =
        along_then Mark (λ value. ⊤) (λ values. ⊤) (value_of c) (λ value. course.◌>>=◌ (values_of cs) (λ values. Ends (Also value values))) (value_read c)
        (λ value u. along_then Mark (λ values. ⊤) (λ values. ⊤) (values_of cs) (λ values. Ends (Also value values)) (values_read cs) (λ values v. tt))

-- ---- expressions

mutual
  pub each_table : (P : ℕ → Type 0) → ((n : ℕ) → P n) → (e : CoreExpression) → EachTable P e
  each_table P h (Constant scalar value) = tt
  each_table P h (Read path) = tt
  each_table P h (IsValid path) = tt
  each_table P h (Lookahead width) = tt
  each_table P h (Unary o e) = each_table P h e
  each_table P h (Operations e rest) = (each_table P h e, each_table_behind P h rest)
  each_table P h (Slice e high low) = each_table P h e
  each_table P h (Resize signed width e) = each_table P h e
  each_table P h (Choice c a b) = (each_table P h c, each_table P h a, each_table P h b)
  each_table P h (PartOf e step) = each_table P h e
  each_table P h (ValidityOf e) = each_table P h e
  each_table P h (Hit table) = h table

  each_table_behind : (P : ℕ → Type 0) → ((n : ℕ) → P n) → (os : CoreOperations) → EachTableBehind P os
  each_table_behind P h NoOperations = tt
  each_table_behind P h (Behind operator e rest) = (each_table P h e, each_table_behind P h rest)

mutual
  no_table : (P : ℕ → Type 0) (e : CoreExpression) → AppliesNoTable e → EachTable P e
  no_table P (Constant scalar value) h = tt
  no_table P (Read path) h = tt
  no_table P (IsValid path) h = tt
  no_table P (Lookahead width) h = tt
  no_table P (Unary o e) h = no_table P e h
  no_table P (Operations e rest) h = (no_table P e h.0, no_table_behind P rest h.1)
  no_table P (Slice e high low) h = no_table P e h
  no_table P (Resize signed width e) h = no_table P e h
  no_table P (Choice c a b) h = (no_table P c h.0, no_table P a h.1, no_table P b h.2)
  no_table P (PartOf e step) h = no_table P e h
  no_table P (ValidityOf e) h = no_table P e h
  no_table P (Hit table) h = absurd h

  no_table_behind : (P : ℕ → Type 0) (os : CoreOperations) → EachTableBehind (λ table. ⊥) os → EachTableBehind P os
  no_table_behind P NoOperations h = tt
  no_table_behind P (Behind operator e rest) h = (no_table P e h.0, no_table_behind P rest h.1)

module _ (Mark : ℕ → Type 0) (R : Store → Store → Type 0) (stays : (s : Store) → R s s) (trans : (s t u : Store) → R s t → R t u → R s u) where
  abbrev Here : {A : Type 0} → Act A → Type 0
  Here a = Does Mark R stays trans a

  pub does_read : (path : Path) → Here (act.read path)
  does_read path old = does_course Mark R stays trans old (value_of (at_path path old)) (λ a. stays old) (value_read Mark (at_path path old))

  pub does_within : {A : Type 0} → (env : Environment) (width : ℕ) (f : ℕ → Act A) → ((cursor : ℕ) → Here (f cursor)) → Here (within_packet env width f)
  does_within env width f h old = does_if Mark R stays trans _ old (f old.cursor old) (stops _ old) (h old.cursor old) (stays old)

  pub does_either : {A : Type 0} → (b : Bool) (x y : Act A) → Here x → Here y → Here (if b then x else y)
  does_either true x y h k = h
  does_either false x y h k = k

  does_part_read : (step : Step) (x : Content) → Here (part_read step x)
  does_part_read step x =
      does_either (is_last_of_none step x) (stops (Raised stack_out_of_bounds)) (taking (value_of (part step x))) stays
      (does_taking Mark R stays trans (value_of (part step x)) (value_read Mark (part step x)))

  does_operand : (operator : Operator) (x : Content) (operand : Act Content) → Here operand → Here (with_operand operator x operand)
  does_operand operator x operand h =
      does_either (is_decided operator x) (gives x) (act.◌>>=◌ operand (λ y. gives (operated operator x y))) stays
      (does_then Mark R stays trans operand (λ y. gives (operated operator x y)) h (λ y. stays))

  mutual
    pub does_evaluate : (Γ : Reach) (e : CoreExpression) → EachTable (λ n. Here (applies Γ n)) e → Here (evaluate Γ e)
    does_evaluate Γ (Constant scalar value) h = stays
    does_evaluate Γ (Read path) h = does_read path
    does_evaluate Γ (IsValid path) h = stays
    does_evaluate Γ (Lookahead width) h = does_within Γ.environment width (λ cursor. gives (bits width (bits_from Γ.environment.input.packet cursor width))) (λ cursor. stays)
    does_evaluate Γ (Unary o e) h = does_then Mark R stays trans (evaluate Γ e) _ (does_evaluate Γ e h) (λ x. stays)
    does_evaluate Γ (Operations e rest) h =
        does_then Mark R stays trans (evaluate Γ e) (λ x. evaluate_behind Γ rest x) (does_evaluate Γ e h.0) (λ x. does_evaluate_behind Γ rest x h.1)
    does_evaluate Γ (Slice e high low) h = does_then Mark R stays trans (evaluate Γ e) _ (does_evaluate Γ e h) (λ x. stays)
    does_evaluate Γ (Resize signed width e) h = does_then Mark R stays trans (evaluate Γ e) _ (does_evaluate Γ e h) (λ x. stays)
    does_evaluate Γ (Choice c a b) h =
        does_then Mark R stays trans (evaluate Γ c) (λ x. if is_true x then evaluate Γ a else evaluate Γ b) (does_evaluate Γ c h.0)
        (λ x. does_either (is_true x) (evaluate Γ a) (evaluate Γ b) (does_evaluate Γ a h.1) (does_evaluate Γ b h.2))
    does_evaluate Γ (PartOf e step) h = does_then Mark R stays trans (evaluate Γ e) (part_read step) (does_evaluate Γ e h) (does_part_read step)
    does_evaluate Γ (ValidityOf e) h = does_then Mark R stays trans (evaluate Γ e) _ (does_evaluate Γ e h) (λ x. stays)
    does_evaluate Γ (Hit table) h = does_then Mark R stays trans (applies Γ table) _ h (λ x. stays)

    pub does_evaluate_behind : (Γ : Reach) (os : CoreOperations) (x : Content) → EachTableBehind (λ n. Here (applies Γ n)) os → Here (evaluate_behind Γ os x)
    does_evaluate_behind Γ NoOperations x h = stays
    does_evaluate_behind Γ (Behind operator e rest) x h =
        does_then Mark R stays trans (with_operand operator x (evaluate Γ e)) (λ y. evaluate_behind Γ rest y)
        (does_operand operator x (evaluate Γ e) (does_evaluate Γ e h.0)) (λ y. does_evaluate_behind Γ rest y h.1)

-- ---- the law

pub expression_leaves_store : (Γ : Reach) (e : CoreExpression) → AppliesNoTable e → (store : Store) (reads : List course.Read) (marks : List ℕ) (after : After Content)
    → Makes (evaluate Γ e store) reads marks after → (after.store ≡ store) × (marks ≡ [])
expression_leaves_store Γ e h store reads marks after m =
    let along = does_evaluate (λ n. ⊥) (λ s t. t ≡ s) (λ s. refl) (λ s t u p q. q ∙ p) Γ e (no_table _ e h) store in
    let made = along_made (λ n. ⊥) (λ (after : After Content). after.store ≡ store) (evaluate Γ e store) reads marks after along m in
    (made.1, none marks made.0)
  where
    none : (marks : List ℕ) → Each (λ n. ⊥) marks → marks ≡ []
    none [] each = refl
    none (n ∷ marks) each = absurd each.0
