use Rattle.std.proofs.Common.{List, map, subst, sym, ◌∙◌}
use Rattle.p4_lexer.specs.declared.token.Word.TheVariants.{Named as NamedWord, DefaultOnly as DefaultOnlyWord, TableOnly as TableOnlyWord}
use Rattle.p4_lexer.specs.Annotations.{Bare, Named}
use Rattle.p4_lexer.specs.Extents.{bare_at, bytes_at}
use Rattle.p4_lexer.specs.Marks.{IsMarkOf}
use Rattle.p4_lexer.proofs.marks.Marker.mark.Goals as goal

pub returns-in_ok-owned-in-Named : goal.returns-in_ok-owned-in-Named
returns-in_ok-owned-in-Named c =
    let tokens = c.args.self.now.tokens in
    let words : List Bare = map (bare_at c.args.text.now) c.args.rest.now in
    let named = c.in-Named in
    let same = c.in_ok-owned-in-Named.ensures ∙ c.bytes_of.ensures in
    subst (λ b. IsMarkOf tokens (bare_at c.args.text.now b) words (NamedWord c.in_ok-owned-in-Named.owned)) (sym named.is)
    (subst (λ t. IsMarkOf tokens (Named (bytes_at c.args.text.now named.extent) named.field-1) words (NamedWord t)) (sym same)
    (IsMarkOf.named (bytes_at c.args.text.now named.extent) named.field-1 words))

pub returns-in-DefaultOnly : goal.returns-in-DefaultOnly
returns-in-DefaultOnly c =
    let words : List Bare = map (bare_at c.args.text.now) c.args.rest.now in
    subst (λ b. IsMarkOf c.args.self.now.tokens (bare_at c.args.text.now b) words DefaultOnlyWord) (sym c.in-DefaultOnly.is) (IsMarkOf.default_only c.in-DefaultOnly.field-0 words)

pub returns-in-TableOnly : goal.returns-in-TableOnly
returns-in-TableOnly c =
    let words : List Bare = map (bare_at c.args.text.now) c.args.rest.now in
    subst (λ b. IsMarkOf c.args.self.now.tokens (bare_at c.args.text.now b) words TableOnlyWord) (sym c.in-TableOnly.is) (IsMarkOf.table_only c.in-TableOnly.field-0 words)
