use Rattle.std.proofs.Common.{refl, ap, ◌∙◌, []}
use Rattle.tg_base.specs.declared.place.Code.TheVariants.{NotText}
use Rattle.p4_lexer.specs.Tokens.{refusal_at}
use Rattle.p4_lexer.proofs.OpenFaultLemmas.{all_text, no_text_from}
use Rattle.p4_lexer.proofs.faults.text_fault.Goals as goal

pub returns-in-Some : goal.returns-in-Some
returns-in-Some c = no_text_from c.args.text.now c.in-Some.at c.refusal_at.result c.in-Some.ensures (c.refusal_at.ensures ∙ ap (refusal_at NotText) (c.place_behind-place.ensures [] refl))

pub returns-in-None : goal.returns-in-None
returns-in-None c = all_text c.args.text.now c.in-None.ensures
