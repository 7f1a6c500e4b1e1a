use Rattle.p4_lexer.specs.declared.directives.DirectiveAt.TheVariants.{Undefine as UndefineAt}
use Rattle.std.proofs.Common.{true}
use Rattle.p4_lexer.proofs.ObeyLemmas.{obeys_define, obeys_as}
use Rattle.p4_lexer.proofs.obey.obey.Goals as goal

pub returns-in_ok-define-in-Define : goal.returns-in_ok-define-in-Define
returns-in_ok-define-in-Define c = λ in_force st.
    obeys_define c.args.text.now in_force c.args.place c.args.pieces.now c.args.directive c.in-Define.name c.in-Define.first c.define.new.scope c.args.events.now c.define.new.events c.in-Define.is
    (c.in_ok-define-in-Define.ensures in_force c.args.place st)

pub returns-in_ok-undefine-in-Undefine : goal.returns-in_ok-undefine-in-Undefine
returns-in_ok-undefine-in-Undefine c = λ in_force st.
    obeys_as c.args.text.now in_force c.args.place c.args.pieces.now c.args.directive (UndefineAt c.in-Undefine.name) c.undefine.new.scope c.args.events.now c.undefine.new.events true c.in-Undefine.is
    (c.in_ok-undefine-in-Undefine.ensures in_force c.args.place st)
