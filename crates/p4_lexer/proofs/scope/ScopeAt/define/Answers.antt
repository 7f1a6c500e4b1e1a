use Rattle.std.proofs.Common.{refl, ◌∙◌, ap, cond, true}
use Rattle.std.specs.Str.{bytes_eq}
use Rattle.p4_lexer.proofs.ScopeLemmas.{defined_so, with_names}
use Rattle.p4_lexer.proofs.scope.ScopeAt.define.Goals as goal

pub returns : goal.returns
returns c = λ scope words st.
    with_names c.args.self.now _ scope _ refl refl refl
    (λ q. c.in_ok-insert.ensures.updates.0 (record { ref_ptr = (0, 0); now = q }) ∙ ap (λ b. cond (bytes_eq c.args.name.now q) true b) (st.names q) ∙ defined_so scope.macros c.args.name.now q words) st
