-- Syntax decides where no token before it is too deep.
use Rattle.std.proofs.Common.{List, inr, subst}
use Rattle.tg_base.specs.declared.place.Refusal.{Refusal}
use Rattle.p4_lexer.specs.declared.token.Token.{Token}
use Rattle.p4_grammar.specs.Depth.{IsShallowBefore}
use Rattle.p4_grammar.specs.Reading.{IsReadFault}
use Rattle.p4_grammar.proofs.ReadingLemmas.{shallow_stopped, none_is_deep, refused_once}
use Rattle.p4_grammar.proofs.reading.stopped.Goals as goal

pub returns-in-Ok-None : goal.returns-in-Ok-None
returns-in-Ok-None c = λ refusal e.
    let shallow : IsShallowBefore c.as_slice-all.result.now c.args.stop.now.at =
    none_is_deep c.in-Ok-None.field-0 c.as_slice-all.result.now c.args.stop.now.at c.in-Ok-None.field-0-is c.in-Ok-None.ensures in
    subst (λ (r : Refusal). IsReadFault c.args.tokens.now r) (refused_once c.syntax_fault.result refusal e)
    (inr (
      shallow_stopped c.args.tokens.now.tokens c.args.stop.now.at c.requires.stops
          (subst (λ (ts : List Token). IsShallowBefore ts c.args.stop.now.at) c.as_slice-all.ensures shallow),
      c.syntax_fault.ensures,
    ))
