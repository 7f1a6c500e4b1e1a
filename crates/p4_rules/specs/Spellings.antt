-- How an index is written, without blanks: by it a key is named.
use Rattle.std.specs.Prelude.{List, ◌++◌, ℕ, true, false, Option, None, Some, codes}
use Rattle.p4_tree.specs.declared.expressions.BaseType.{BaseType, BaseType-Bit-0-None', BaseType-Bit-0-Some', BaseType-Named-1-None', BaseType-Named-1-Some'}
use Rattle.p4_tree.specs.declared.expressions.BaseType.TheVariants as base
use Rattle.p4_tree.specs.declared.expressions.WidthKind.{WidthKind}
use Rattle.p4_tree.specs.declared.expressions.WidthKind.TheVariants as width
use Rattle.p4_tree.specs.declared.expressions.TypeForm.{TypeForm, TypeForm', TypeForm-size-None', TypeForm-size-Some'}
use Rattle.p4_tree.specs.declared.expressions.Operator.{Operator}
use Rattle.p4_tree.specs.declared.expressions.Operator.TheVariants as sign
use Rattle.p4_tree.specs.declared.expressions.UnaryOperator.{UnaryOperator}
use Rattle.p4_tree.specs.declared.expressions.UnaryOperator.TheVariants as unary
use Rattle.p4_tree.specs.declared.expressions.ExpressionKind.{ExpressionKind, end_of-Expression, more_of-Expression, Row_of-Operation, end_of-Operation, more_of-Operation, Row_of-PostfixPart, end_of-PostfixPart, more_of-PostfixPart, end_of-TypeForm, more_of-TypeForm}
use Rattle.p4_tree.specs.declared.expressions.ExpressionKind.TheVariants as kind
use Rattle.p4_tree.specs.declared.expressions.PostfixKind.{PostfixKind}
use Rattle.p4_tree.specs.declared.expressions.PostfixKind.TheVariants as postfix

-- one text behind another, where there are both
abbrev pub with_text : (List ℕ → List ℕ → List ℕ) → Option (List ℕ) → Option (List ℕ) → Option (List ℕ)
with_text join (Some a) (Some b) = Some (join a b)
with_text join _ _ = None

abbrev pub then_text : Option (List ℕ) → Option (List ℕ) → Option (List ℕ)
then_text a b = with_text (λ x y. x ++ y) a b

-- a text between two others
abbrev pub between : List ℕ → Option (List ℕ) → List ℕ → Option (List ℕ)
between open_text middle close_text = then_text (Some open_text) (then_text middle (Some close_text))

abbrev pub operator_text : Operator → List ℕ
operator_text sign.Times = codes "*"
operator_text sign.Divide = codes "/"
operator_text sign.Remainder = codes "%"
operator_text sign.Plus = codes "+"
operator_text sign.Minus = codes "-"
operator_text sign.SaturatingPlus = codes "|+|"
operator_text sign.SaturatingMinus = codes "|-|"
operator_text sign.Concat = codes "++"
operator_text sign.ShiftLeft = codes "<<"
operator_text sign.ShiftRight = codes ">>"
operator_text sign.BitAnd = codes "&"
operator_text sign.BitXor = codes "^"
operator_text sign.BitOr = codes "|"
operator_text sign.Less = codes "<"
operator_text sign.AtMost = codes "<="
operator_text sign.Greater = codes ">"
operator_text sign.AtLeast = codes ">="
operator_text sign.Equal = codes "=="
operator_text sign.NotEqual = codes "!="
operator_text sign.And = codes "&&"
operator_text sign.Or = codes "||"

abbrev pub unary_text : UnaryOperator → List ℕ
unary_text unary.Not = codes "!"
unary_text unary.Complement = codes "~"
unary_text unary.Minus = codes "-"

abbrev mutual
  -- a constant as it is written; what no constant has in it has no text
  pub spelled : ExpressionKind → Option (List ℕ)
  spelled (kind.Literal l) = Some l.spelling
  spelled (kind.Text text) = None
  spelled (kind.Bool true) = Some (codes "true")
  spelled (kind.Bool false) = Some (codes "false")
  spelled (kind.Name name) = Some name.text
  spelled (kind.Base name) = Some name.text
  spelled (kind.List' count row) = None
  spelled (kind.Parenthesized' one (more_of-Expression k s end_of-Expression)) = between (codes "(") (spelled k) (codes ")")
  spelled (kind.ParenthesizedKey' one row) = None
  spelled (kind.Postfix' one (more_of-Expression k s end_of-Expression) count parts) = spelled_parts (spelled k) parts
  spelled (kind.Unary' o one (more_of-Expression k s end_of-Expression)) = then_text (Some (unary_text o)) (spelled k)
  spelled (kind.Cast' one (more_of-TypeForm t end_of-TypeForm) other (more_of-Expression k s end_of-Expression)) =
      then_text (between (codes "(") (spelled_type t) (codes ")")) (spelled k)
  spelled (kind.Operations' one (more_of-Expression k s end_of-Expression) count row) = spelled_operations (spelled k) row
  spelled (kind.Choice' one (more_of-Expression k s end_of-Expression) two (more_of-Expression l t end_of-Expression) three (more_of-Expression m u end_of-Expression)) =
      then_text (spelled k) (then_text (between (codes "?") (spelled l) (codes ":")) (spelled m))

  pub spelled_operations : Option (List ℕ) → {n : _} → Row_of-Operation n → Option (List ℕ)
  spelled_operations head end_of-Operation = head
  spelled_operations head (more_of-Operation o k s at rest) =
      spelled_operations (then_text head (then_text (Some (operator_text o)) (spelled k))) rest

  pub spelled_parts : Option (List ℕ) → {n : _} → Row_of-PostfixPart n → Option (List ℕ)
  spelled_parts head end_of-PostfixPart = head
  spelled_parts head (more_of-PostfixPart k s rest) = spelled_parts (then_text head (spelled_part k)) rest

  pub spelled_part : PostfixKind → Option (List ℕ)
  spelled_part (postfix.Member name) = Some (codes "." ++ name.text)
  spelled_part (postfix.Lookahead t) = None
  spelled_part (postfix.Index' k at) = between (codes "[") (spelled k) (codes "]")
  spelled_part (postfix.Slice' k at l to) = then_text (between (codes "[") (spelled k) (codes ":")) (then_text (spelled l) (Some (codes "]")))
  spelled_part (postfix.Call' count row) = None

  pub spelled_type : TypeForm → Option (List ℕ)
  spelled_type (TypeForm' b TypeForm-size-None' place) = spelled_base b
  spelled_type (TypeForm' b (TypeForm-size-Some' one (more_of-Expression k s end_of-Expression)) place) =
      then_text (spelled_base b) (between (codes "[") (spelled k) (codes "]"))

  pub spelled_base : BaseType → Option (List ℕ)
  spelled_base (base.Bit' BaseType-Bit-0-None') = Some (codes "bit")
  spelled_base (base.Bit' (BaseType-Bit-0-Some' w s)) = between (codes "bit<") (spelled_width w) (codes ">")
  spelled_base (base.Int' BaseType-Bit-0-None') = Some (codes "int")
  spelled_base (base.Int' (BaseType-Bit-0-Some' w s)) = between (codes "int<") (spelled_width w) (codes ">")
  spelled_base base.Bool = Some (codes "bool")
  spelled_base base.Error = Some (codes "error")
  spelled_base (base.Named' name BaseType-Named-1-None') = Some name.text
  spelled_base (base.Named' name (BaseType-Named-1-Some' one row)) = None

  pub spelled_width : WidthKind → Option (List ℕ)
  spelled_width (width.Literal l) = Some l.spelling
  spelled_width (width.Name name) = Some name.text
  spelled_width (width.Parenthesized' one (more_of-Expression k s end_of-Expression)) = between (codes "(") (spelled k) (codes ")")
