-- Programs for which tests are made so far: the parser accepts at once, and of the controls only ingress has statements,
-- which set the port or drop the packet.
use Rattle.std.specs.Prelude.{ℕ, ◌≡◌, ◌≢◌, ⊤, List, [], ◌∷◌, Some, length, slice_get, All, IsSomeAnd}
use Rattle.p4_program.specs.declared.typed.callables.Target.TheVariants.{Accept}
use Rattle.p4_program.specs.declared.typed.paths.Path.{Path}
use Rattle.p4_program.specs.declared.typed.paths.Root.TheVariants.{OfBlock}
use Rattle.p4_program.specs.declared.typed.paths.Step.TheVariants.{Field}
use Rattle.p4_program.specs.Syntax.Callables.{CoreControl, CoreParser, CoreState, To, CoreCallable, OfAction, OfParser, OfControl}
use Rattle.p4_program.specs.Syntax.Expressions.{CoreExpression, Constant}
use Rattle.p4_program.specs.Syntax.Lookup.{control_at}
use Rattle.p4_program.specs.Syntax.Programs.{CoreProgram}
use Rattle.p4_program.specs.Syntax.Statements.{CoreWork, CoreStatement, CoreStatements, CoreCases, Assign, MarkToDrop, Numbered, Declare, If, Switch, NoStatements, Then, NoCases, Case}
use Rattle.p4_program.specs.WellFormed.Programs.{control_of_instance, parser_at}

-- the place of the standard metadata in the frame of ingress, and the number of `egress_spec` among its fields (v1model.p4)
abbrev pub standard_place : ℕ
standard_place = 2

abbrev pub egress_spec_field : ℕ
egress_spec_field = 1

pub record IsStandard (path : Path) : Type 0 where
  pub root : path.root ≡ OfBlock standard_place
  pub whole : path.steps ≡ []

pub record IsEgressSpec (path : Path) : Type 0 where
  pub root : path.root ≡ OfBlock standard_place
  pub field : path.steps ≡ Field egress_spec_field ∷ []

abbrev pub IsConstant : CoreExpression → Type 0
IsConstant (Constant scalar value) = ⊤
IsConstant _ = ⊥

pub record SetsPort (path : Path) (e : CoreExpression) : Type 0 where
  pub target : IsEgressSpec path
  pub constant : IsConstant e

abbrev pub BuiltWork : CoreWork → Type 0
BuiltWork (Assign path e) = SetsPort path e
BuiltWork (MarkToDrop path) = IsStandard path
BuiltWork _ = ⊥

abbrev pub BuiltStatement : CoreStatement → Type 0
BuiltStatement (Numbered number place work) = BuiltWork work
BuiltStatement _ = ⊥

abbrev pub BuiltStatements : CoreStatements → Type 0
BuiltStatements NoStatements = ⊤
BuiltStatements (Then statement rest) = BuiltStatement statement × BuiltStatements rest

-- no numbered statement stands there
abbrev mutual
  pub Unnumbered : CoreStatement → Type 0
  Unnumbered (Numbered number place work) = ⊥
  Unnumbered (Declare root value_type value) = ⊤
  Unnumbered (If place condition a b) = AllUnnumbered a × AllUnnumbered b
  Unnumbered (Switch table cases) = CasesUnnumbered cases

  pub AllUnnumbered : CoreStatements → Type 0
  AllUnnumbered NoStatements = ⊤
  AllUnnumbered (Then statement rest) = Unnumbered statement × AllUnnumbered rest

  pub CasesUnnumbered : CoreCases → Type 0
  CasesUnnumbered NoCases = ⊤
  CasesUnnumbered (Case labels body rest) = AllUnnumbered body × CasesUnnumbered rest

pub record ParserUnnumbered (q : CoreParser) : Type 0 where
  pub beginning : AllUnnumbered q.beginning
  pub states : All (λ state. AllUnnumbered state.statements) q.states

abbrev pub CallableUnnumbered : CoreCallable → Type 0
CallableUnnumbered (OfAction a) = AllUnnumbered a.body
CallableUnnumbered (OfParser q) = ParserUnnumbered q
CallableUnnumbered (OfControl c) = AllUnnumbered c.body

-- a state that leads to `accept` and does nothing
pub record AcceptsAtOnce (state : CoreState) : Type 0 where
  pub nothing : state.statements ≡ NoStatements
  pub accepts : state.transition ≡ To Accept

pub record BuiltParser (q : CoreParser) : Type 0 where
  pub no_variable : q.variables ≡ []
  pub nothing_before : q.beginning ≡ NoStatements
  pub one_state : length q.states ≡ 1
  pub accepts : All AcceptsAtOnce q.states

-- the callable is no action of this control
abbrev pub IsNotOf : ℕ → CoreCallable → Type 0
IsNotOf n (OfAction a) = a.within ≢ Some n
IsNotOf n (OfParser q) = ⊤
IsNotOf n (OfControl c) = ⊤

-- the control of this number declares nothing
pub record DeclaresNothing (p : CoreProgram) (n : ℕ) (c : CoreControl) : Type 0 where
  pub no_variable : c.variables ≡ []
  pub no_table : c.tables ≡ []
  pub no_child : c.children ≡ []
  pub no_action : All (IsNotOf n) p.callables

pub record EmptyControl (p : CoreProgram) (n : ℕ) (c : CoreControl) : Type 0 where
  pub declares_nothing : DeclaresNothing p n c
  pub no_statement : c.body ≡ NoStatements

-- no numbered statement stands in another callable than that of this number
abbrev pub NoOtherNumbered : ℕ → List CoreCallable → Type 0
NoOtherNumbered n cs = (k : ℕ) (d : CoreCallable) → k ≢ n → slice_get cs k ≡ Some d → CallableUnnumbered d

pub record BuiltIngress (p : CoreProgram) (n : ℕ) (c : CoreControl) : Type 0 where
  pub declares_nothing : DeclaresNothing p n c
  pub statements : BuiltStatements c.body
  pub no_other : NoOtherNumbered n p.callables

-- something holds of the control of an instance and its number
abbrev pub OfInstance : CoreProgram → ℕ → (ℕ → CoreControl → Type 0) → Type 0
OfInstance p i P = IsSomeAnd (control_of_instance p i) (λ n. IsSomeAnd (control_at p n) (P n))

pub record Built (p : CoreProgram) : Type 0 where
  pub parser : IsSomeAnd (parser_at p p.blocks.parser) BuiltParser
  pub verify : OfInstance p p.blocks.verify (EmptyControl p)
  pub ingress : OfInstance p p.blocks.ingress (BuiltIngress p)
  pub egress : OfInstance p p.blocks.egress (EmptyControl p)
  pub compute : OfInstance p p.blocks.compute (EmptyControl p)
  pub deparser : OfInstance p p.blocks.deparser (EmptyControl p)
