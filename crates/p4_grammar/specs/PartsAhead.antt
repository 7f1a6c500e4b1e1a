-- The parts behind an operand, one by one.
use Rattle.std.specs.Prelude.{◌≡◌, ◌<◌, [], ◌∷◌, Option, None, Some}
use Rattle.p4_tree.specs.declared.expressions.PostfixPart.{PostfixPart}
use Rattle.p4_grammar.specs.declared.symbols.TheConstants.{POSTFIX_PARTS}
use Rattle.p4_grammar.specs.Parses.{Parse, both}
use Rattle.p4_grammar.specs.Ahead.{Begins, below, after, nodes}
use Rattle.p4_grammar.specs.Expressions.{parts}

-- No part is at the head of p, and q is behind it; or this part is, and the rest of the parts is at the head of q.
abbrev pub PartStands : Option PostfixPart → Parse → Parse → Type 0
PartStands None p q = (parts (below p) ≡ Some []) × (q ≡ after p)
PartStands (Some part) p q =
    Begins POSTFIX_PARTS q × (parts (below p) ≡ both (λ one more. one ∷ more) (Some part) (parts (below q))) × (after q ≡ after p) × (nodes q < nodes p)
