-- Words that have a mark.
use Rattle.p4_lexer.specs.declared.piece.Kind.{Kind}
use Rattle.p4_lexer.specs.declared.piece.Kind.TheVariants.{Name, Number, Text, Sign}
use Rattle.p4_lexer.specs.Pieces.{IsPiece}
use Rattle.p4_lexer.specs.Cuts.{Cut}
use Rattle.p4_lexer.specs.Annotations.{Bare, Plain, Named, DefaultOnly, TableOnly}

-- the kinds of pieces that are words
abbrev pub IsWordKind : Kind → Type 0
IsWordKind Name = Unit {0}
IsWordKind Number = Unit {0}
IsWordKind Text = Unit {0}
IsWordKind Sign = Unit {0}
IsWordKind _ = ⊥

-- a name, a number, a string or a sign, spelled as one
abbrev pub IsWord : Cut → Type 0
IsWord c = IsWordKind c.kind × IsPiece c.kind c.bytes

-- a token before it is marked, whose word, if it has one, is such a word
abbrev pub IsProper : Bare → Type 0
IsProper (Plain w) = IsWord w.cut
IsProper (Named text place) = Unit {0}
IsProper (DefaultOnly place) = Unit {0}
IsProper (TableOnly place) = Unit {0}
