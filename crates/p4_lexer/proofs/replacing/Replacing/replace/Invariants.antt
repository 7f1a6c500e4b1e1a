use Rattle.std.proofs.Common.{◌≡◌, List, [], ◌∷◌, ◌⊎◌, length}
use Rattle.p4_lexer.specs.Extents.{placed_at}
use Rattle.p4_lexer.specs.MacroTable.{AreInForce, IsWordOf}
use Rattle.p4_lexer.specs.Scope.{Macro}
use Rattle.p4_lexer.specs.Replacement.{Gives}
use Rattle.p4_lexer.specs.Stack.{AreMarks, Reaches, Adds, steps_left}
use Rattle.p4_lexer.proofs.replacing.Replacing.replace.Given as goal

abbrev pub invariant-loop-frame : goal.invariant-loop-frame
invariant-loop-frame l = record {
  reaches : (macros : List Macro) → AreInForce l.table macros → AreMarks l.table l.fn.self.marks [] → Reaches l.table macros l.word.place (Gives macros [] (placed_at l.table.text.now l.word ∷ [])) l.fn.self l.self;
  adds : Adds (λ p. (p ≡ l.word.piece) ⊎ IsWordOf l.table p) l.fn.self.items l.self.items;
  same_length : length l.self.marks ≡ length l.fn.self.marks;
}

abbrev pub decreases-loop-frame : goal.decreases-loop-frame
decreases-loop-frame l = steps_left l.self
