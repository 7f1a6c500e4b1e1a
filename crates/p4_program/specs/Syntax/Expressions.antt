-- Expressions without pointers (P4-16, "Expressions").
use Rattle.std.specs.Prelude.{ℕ, Bool}
use Rattle.bits_core.specs.declared.operator.Op.{Op}
use Rattle.p4_program.specs.declared.typed.expressions.Operator.{Operator}
use Rattle.p4_program.specs.declared.typed.paths.Path.{Path}
use Rattle.p4_program.specs.declared.typed.paths.Step.{Step}
use Rattle.p4_program.specs.declared.typed.types.Scalar.{Scalar}

mutual
  pub data CoreExpression : Type 0 where
    -- a number of bits, or the number of a member
    Constant : Scalar → (value : ℕ) → CoreExpression
    Read : Path → CoreExpression
    -- "Operations on headers": `isValid()`
    IsValid : Path → CoreExpression
    -- "Lookahead", of this many bits
    Lookahead : (width : ℕ) → CoreExpression
    Unary : Op → CoreExpression → CoreExpression
    -- an operand, and operators of one level with the operands behind them, from left to right
    Operations : CoreExpression → CoreOperations → CoreExpression
    Slice : CoreExpression → (high low : ℕ) → CoreExpression
    -- "Explicit casts": a value widened or cut to this many bits, by copies of the sign where the flag holds
    Resize : (signed : Bool) → (width : ℕ) → CoreExpression → CoreExpression
    -- "Conditional operator": the condition, and the values where it holds and where it does not
    Choice : (condition yes no : CoreExpression) → CoreExpression
    -- "Operations on struct types", "Operations on headers", "Operations on header stacks": a part of a value to which no path
    -- leads, and whether such a header is valid
    PartOf : CoreExpression → Step → CoreExpression
    ValidityOf : CoreExpression → CoreExpression
    -- "Match-action unit invocation": whether the application of the table of this number of the control is a hit
    Hit : (table : ℕ) → CoreExpression

  pub data CoreOperations : Type 0 where
    NoOperations : CoreOperations
    Behind : Operator → CoreExpression → CoreOperations → CoreOperations
