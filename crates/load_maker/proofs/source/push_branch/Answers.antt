-- A place with none of the first three remainders has the fourth.
use Rattle.std.proofs.Common.{◌≡◌, ◌++◌, ◌%◌, ap, sym, ◌∙◌, subst, OnOk, string_bytes, arith}
use Rattle.rand_pcg.specs.Lcg.{Lcg}
use Rattle.load_maker.specs.Source.{unset_field_branch}
use Rattle.load_maker.specs.Words.{word_at}
use Rattle.load_maker.proofs.SourceLemmas.{branch_unset_field}
use Rattle.load_maker.proofs.WordsLemmas.{word_at_after_words}
use Rattle.load_maker.proofs.source.push_branch.Goals as goal

pub returns-in_default-clause-branch : goal.returns-in_default-clause-branch
returns-in_default-clause-branch c =
    let g : Lcg = c.args.words.now in
    let field = c.draw-field.result in
    let value = c.draw-value-in_default.result in
    let three : c.args.place % 4 ≡ 3 = omega arith in
    let second : value ≡ word_at g 1 % 256 =
    c.draw-value-in_default.ensures.value ∙ ap (λ (h : Lcg). word_at h 0 % 256) c.draw-field.ensures.words
    ∙ ap (λ n. n % 256) (word_at_after_words 1 0 g) in
    subst (λ xs. OnOk c.push_unset_field.result (string_bytes c.push_unset_field.new.text ≡ string_bytes c.args.text.now ++ xs))
    (ap (λ n. unset_field_branch n value) c.draw-field.ensures.value
    ∙ ap (λ n. unset_field_branch (word_at g 0 % 256) n) second
    ∙ sym (branch_unset_field c.args.base c.args.place (word_at g) three))
    c.push_unset_field.ensures
