use Rattle.std.proofs.Common.{◌≡◌, Bool, true, false, drop, map, codes, sym, refl, ap, ◌∙◌, if◌then◌else◌}
use Rattle.std.specs.List.{prefix_len}
use Rattle.p4_lexer.specs.Extents.{cut_at}
use Rattle.p4_lexer.specs.DirectiveSteps.{is_gap, is_file_alone}
use Rattle.p4_lexer.proofs.DirectiveStepLemmas.{gaps_cut}
use Rattle.p4_lexer.proofs.directives.is_included.Goals as goal

first : (a b : Bool) → a ≡ true → true ≡ (if a then true else b)
first a b e = rw e refl

second : (a b r : Bool) → a ≡ false → r ≡ b → r ≡ (if a then true else b)
second a b r e f = rw e f

pub returns-then-is_file_alone : goal.returns-then-is_file_alone
returns-then-is_file_alone c =
    let cuts = map (cut_at c.args.text.now) c.args.pieces.now in
    let rest = drop (prefix_len is_gap cuts) cuts in
    c.if-is_file_alone.true ∙ first (is_file_alone (codes "<core.p4>") rest) (is_file_alone (codes "<v1model.p4>") rest)
    (ap (is_file_alone (codes "<core.p4>")) (sym (gaps_cut c.args.text.now c.args.pieces.now c.gaps_len.result c.gaps_len.ensures.value)) ∙ sym c.is_file_alone.ensures ∙ c.if-is_file_alone.true)

pub returns-else-is_file_alone : goal.returns-else-is_file_alone
returns-else-is_file_alone c =
    let cuts = map (cut_at c.args.text.now) c.args.pieces.now in
    let rest = drop (prefix_len is_gap cuts) cuts in
    let gaps = gaps_cut c.args.text.now c.args.pieces.now c.gaps_len.result c.gaps_len.ensures.value in
    second (is_file_alone (codes "<core.p4>") rest) (is_file_alone (codes "<v1model.p4>") rest) c.is_file_alone-else-is_file_alone.result
    (ap (is_file_alone (codes "<core.p4>")) (sym gaps) ∙ sym c.is_file_alone.ensures ∙ c.if-is_file_alone.false)
    (c.is_file_alone-else-is_file_alone.ensures ∙ ap (is_file_alone (codes "<v1model.p4>")) gaps)
