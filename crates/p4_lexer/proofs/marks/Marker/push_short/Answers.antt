use Rattle.std.proofs.Common.{List, ◌∷◌, [], ◌++◌, map, subst, sym, ◌∙◌}
use Rattle.p4_lexer.specs.declared.token.Token.{Token}
use Rattle.p4_lexer.specs.declared.token.Word.TheVariants.{CloseArguments}
use Rattle.p4_lexer.specs.Annotations.{Bare, Plain}
use Rattle.p4_lexer.specs.SourceWords.{Placed}
use Rattle.p4_lexer.specs.Extents.{bare_at, placed_at}
use Rattle.p4_lexer.specs.Marks.{left_of, BeginsWithGreater}
use Rattle.p4_lexer.specs.Marking.{Leads}
use Rattle.p4_lexer.proofs.ResultLemmas.{on_ok}
use Rattle.p4_lexer.proofs.BecomeLemmas.{same_word}
use Rattle.p4_lexer.proofs.PushLemmas.{leads_cut, cut_by, not_cut_by}
use Rattle.p4_lexer.proofs.marks.Marker.push_short.Goals as goal
use Rattle.std.proofs.Common.{refl}

pub returns-then-is_cut-clause-leads : goal.returns-then-is_cut-clause-leads
returns-then-is_cut-clause-leads c =
    let text = c.args.text.now in
    let m = c.args.self.now in
    let w : Placed = placed_at text c.args.word.now in
    let words : List Bare = map (bare_at text) c.args.rest.now in
    let t : Token = record { word = CloseArguments; span = c.args.word.now.place } in
    let cut = cut_by m w c.requires.follows (sym c.is_cut.ensures ∙ c.if-is_cut.true) in
    let none = c.requires.short cut.1.0 cut.1.1 cut.0 in
    on_ok c.push.result c.push.ensures.tokens (λ pushed.
    subst (λ ts. Leads m.tokens (Plain w ∷ words) ts words) (sym pushed)
    (subst (λ l. Leads m.tokens (Plain w ∷ words) (m.tokens ++ t ∷ []) (left_of w l ++ words)) none (leads_cut m.tokens w cut.1.0 words t cut.1.1 cut.0 refl refl)))

pub push_whole-requires-clause-whole : goal.push_whole-requires-clause-whole
push_whole-requires-clause-whole c = λ v left e g i.
    let w : Placed = placed_at c.args.text.now c.args.word.now in
    not_cut_by c.args.self.now w left c.requires.follows (sym c.is_cut.ensures ∙ c.if-is_cut.false) (subst (λ u. BeginsWithGreater u left) (sym (same_word w v e)) g) i
