use Rattle.std.proofs.Common.{◌∷◌, Decides, sym, subst}
use Rattle.p4_lexer.specs.Extents.{bare_at, placed_at}
use Rattle.p4_lexer.specs.Marks.{SignIsNext}
use Rattle.p4_lexer.proofs.NextLemmas.{next_plain}
use Rattle.p4_lexer.proofs.marks.bare_is_sign.Goals as goal

pub returns-in-Plain : goal.returns-in-Plain
returns-in-Plain c = λ rest.
    subst (λ b. Decides c.is_sign.result (SignIsNext c.args.sign (bare_at c.args.text.now b ∷ rest))) (sym c.in-Plain.is)
    (next_plain c.is_sign.result (placed_at c.args.text.now c.in-Plain.word) rest c.args.sign c.is_sign.ensures)
