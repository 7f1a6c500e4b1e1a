use Rattle.std.proofs.Common.{List, ◌∷◌, [], ◌++◌, map, subst, sym, ◌∙◌, refl}
use Rattle.p4_lexer.specs.declared.extents.Bare.TheVariants.{Plain as PlainAt}
use Rattle.p4_lexer.specs.declared.token.Token.{Token}
use Rattle.p4_lexer.specs.declared.token.Word.TheVariants.{CloseArguments}
use Rattle.p4_lexer.specs.Annotations.{Bare, Plain}
use Rattle.p4_lexer.specs.SourceWords.{Placed}
use Rattle.p4_lexer.specs.Extents.{bare_at, placed_at}
use Rattle.p4_lexer.specs.Marks.{left_of, BeginsWithGreater}
use Rattle.p4_lexer.specs.Marking.{Leads, IsBareOf, left_word}
use Rattle.p4_lexer.proofs.ResultLemmas.{on_ok}
use Rattle.p4_lexer.proofs.PushLemmas.{leads_cut, cut_by, not_cut_by, IsLeft, is_left, short_by_len}
use Rattle.p4_lexer.proofs.marks.Marker.push_word.Goals as goal
use Rattle.p4_lexer.proofs.marks.Marker.push_word.Goals.{else-word-gt1-via-then-word-gt1+else-is_cut, else-word-gt1-via-else-word-gt1}

pub push_short-requires-clause-word : goal.push_short-requires-clause-word
push_short-requires-clause-word c =
    let text = c.args.text.now in
    let w = c.args.word.now in
    let cut = cut_by c.args.self.now (placed_at text w) c.requires.follows (sym c.is_cut.ensures ∙ c.if-is_cut.true) in
    let left : IsLeft text w cut.1.0 = is_left text w cut.1.0 c.requires.word cut.1.1 c.if-word-gt1.true in
    subst (λ v. IsBareOf text (PlainAt v)) (sym c.left_word-left.ensures) left.word

pub push_short-requires-clause-short : goal.push_short-requires-clause-short
push_short-requires-clause-short c = λ more g i.
    let text = c.args.text.now in
    let w = c.args.word.now in
    let cut = cut_by c.args.self.now (placed_at text w) c.requires.follows (sym c.is_cut.ensures ∙ c.if-is_cut.true) in
    let left : IsLeft text w cut.1.0 = is_left text w cut.1.0 c.requires.word cut.1.1 c.if-word-gt1.true in
    left.short more (subst (λ v. BeginsWithGreater (placed_at text v) more) c.left_word-left.ensures g)

pub returns-then-is_cut-clause-leads : goal.returns-then-is_cut-clause-leads
returns-then-is_cut-clause-leads c =
    let text = c.args.text.now in
    let m = c.args.self.now in
    let w = c.args.word.now in
    let p : Placed = placed_at text w in
    let words : List Bare = map (bare_at text) c.args.rest.now in
    let t : Token = record { word = CloseArguments; span = w.place } in
    let cut = cut_by m p c.requires.follows (sym c.is_cut.ensures ∙ c.if-is_cut.true) in
    let left : IsLeft text w cut.1.0 = is_left text w cut.1.0 c.requires.word cut.1.1 c.if-word-gt1.true in
    let first : Leads m.tokens (Plain p ∷ words) (m.tokens ++ t ∷ []) (left_of p cut.1.0 ++ words) = leads_cut m.tokens p cut.1.0 words t cut.1.1 cut.0 refl refl in
    let second : Leads m.tokens (Plain p ∷ words) (m.tokens ++ t ∷ []) (Plain (placed_at text (left_word w)) ∷ words) =
    subst (λ l. Leads m.tokens (Plain p ∷ words) (m.tokens ++ t ∷ []) (l ++ words)) left.spelled first in
    let third : Leads m.tokens (Plain p ∷ words) c.push.new.self.tokens (Plain (placed_at text (left_word w)) ∷ words) =
    subst (λ ts. Leads m.tokens (Plain p ∷ words) ts (Plain (placed_at text (left_word w)) ∷ words)) (sym c.in_ok-push.ensures.tokens) second in
    let fourth : Leads m.tokens (Plain p ∷ words) c.push.new.self.tokens (Plain (placed_at text c.left_word-left.result) ∷ words) =
    subst (λ v. Leads m.tokens (Plain p ∷ words) c.push.new.self.tokens (Plain (placed_at text v) ∷ words)) (sym c.left_word-left.ensures) third in
    on_ok c.push_short.result c.push_short.ensures.leads (λ leads all reach. leads all (fourth all reach))

pub push_short-requires-2-clause-short : goal.push_short-requires-2-clause-short
push_short-requires-2-clause-short c = λ left g i.
    elim c.else-word-gt1.branch [
      | else-word-gt1-via-then-word-gt1+else-is_cut w ↦
          absurd (not_cut_by c.args.self.now (placed_at c.args.text.now c.args.word.now) left c.requires.follows (sym w.is_cut.ensures ∙ w.if-is_cut.false) g i)
      | else-word-gt1-via-else-word-gt1 w ↦ short_by_len c.args.text.now c.args.word.now left g w.if-word-gt1.false
    ]
