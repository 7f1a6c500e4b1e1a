use Rattle.std.proofs.Common.{◌++◌, ◌∷◌, [], map, ap, ◌∙◌, subst}
use Rattle.p4_lexer.specs.declared.extents.Event.TheVariants.{Define as DefineEvent}
use Rattle.p4_lexer.specs.Extents.{cut_at}
use Rattle.p4_lexer.specs.ScopeState.{StandsFor, defined_scope}
use Rattle.p4_lexer.proofs.ObeyLemmas.{defines}
use Rattle.p4_lexer.proofs.obey.define.Goals as goal

pub returns : goal.returns
returns c = λ in_force place st.
    let words = map (cut_at c.args.text.now) c.args.words.now in
    defines c.args.text.now in_force place c.args.name c.args.words.now c.args.scope.now _ c.args.events.now c.push.new.self c.if-not-scope.false st
    (subst (λ name. StandsFor c.define.new.self (defined_scope in_force name words)) c.bytes_of.ensures (c.in_ok-define.ensures in_force words st))
    (c.in_ok-push.ensures.ok ∙ ap (λ ps. c.args.events.now ++ DefineEvent c.args.name ps ∷ []) c.in_ok-from_slice.ensures)
    c.requires.name c.requires.words
