use Rattle.std.proofs.Common.{◌≡◌, ℕ, ◌<◌, Bool, true, List, length, get_or, sym, ◌∙◌, arith}
use Rattle.std.specs.List.{prefix_len}
use Rattle.std.proofs.lemmas.List.Sums.{prefix_len_is}
use Rattle.p4_lexer.specs.declared.piece.Kind.TheVariants.{Blank}
use Rattle.p4_lexer.specs.declared.extents.PieceAt.{PieceAt}
use Rattle.p4_lexer.specs.Extents.{cut_at}
use Rattle.p4_lexer.specs.DirectiveSteps.{is_gap}
use Rattle.p4_lexer.proofs.directives.gaps_len.Goals as goal

abbrev none : PieceAt
none = record { kind = Blank; extent = record { at = 0; len = 0 } }

all_pass : (p : PieceAt → Bool) (xs : List PieceAt) → ((k : ℕ) → k < length xs → p (get_or xs k none) ≡ true) → length xs ≡ prefix_len p xs
all_pass p xs pass = sym (prefix_len_is p xs (length xs) none (omega arith) pass (λ below. absurd (omega arith)))

pub returns-then-not-is_gap-clause-value : goal.returns-then-not-is_gap-clause-value
returns-then-not-is_gap-clause-value c =
    sym (prefix_len_is (λ (p : PieceAt). is_gap (cut_at c.args.text.now p)) c.args.pieces.now c.loop-i.i none (omega arith) (λ k below. c.loop-i.invariant k none below) (λ _. sym c.is_gap.ensures ∙ c.if-not-is_gap.true))

pub returns-clause-value : goal.returns-clause-value
returns-clause-value c = all_pass (λ (p : PieceAt). is_gap (cut_at c.args.text.now p)) c.args.pieces.now (λ k below. c.loop-i.invariant k none (omega arith))
