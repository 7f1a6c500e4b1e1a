use Rattle.std.proofs.Common.{refl, ◌∙◌, ap, cond, false}
use Rattle.std.specs.Str.{bytes_eq}
use Rattle.p4_lexer.proofs.ScopeLemmas.{undefined_so, with_names}
use Rattle.p4_lexer.proofs.scope.ScopeAt.undefine.Goals as goal

pub returns : goal.returns
returns c = λ scope st.
    with_names c.args.self.now _ scope _ refl refl refl
    (λ q. c.remove.ensures.updates.0 (record { ref_ptr = (0, 0); now = q }) ∙ ap (λ b. cond (bytes_eq c.args.name.now q) false b) (st.names q) ∙ undefined_so scope.macros c.args.name.now q) st
