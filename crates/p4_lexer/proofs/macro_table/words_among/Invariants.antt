use Rattle.std.proofs.Common.{◌≡◌, take}
use Rattle.std.specs.List.{filter}
use Rattle.p4_lexer.specs.SourceWords.{is_word}
use Rattle.p4_lexer.proofs.macro_table.words_among.Given as goal

abbrev pub invariant-loop-piece : goal.invariant-loop-piece
invariant-loop-piece l = l.words ≡ filter (λ p. is_word p.kind) (take l.piece-index l.pieces)
