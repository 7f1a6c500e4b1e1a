use denote.Enum.Bare.{same_true}
use Rattle.std.proofs.Common.{rules, sym, ◌∙◌}
use Rattle.p4_lexer.specs.contracts.piece.Kind.{the_type}
use Rattle.p4_lexer.proofs.EntryLemmas.{inside_of}
use Rattle.p4_lexer.proofs.annotations.text_of.Goals as goal

pub returns-then-is_quoted : goal.returns-then-is_quoted
returns-then-is_quoted c =
    let t = c.is_quoted.ensures.0 c.if-is_quoted.true in
    inside_of c.args.text.now c.args.word t.0 c.requires (same_true the_type (search rules) _ _ (sym c.if-eq.ensures)) (sym c.bytes_of.ensures ∙ t.1)
