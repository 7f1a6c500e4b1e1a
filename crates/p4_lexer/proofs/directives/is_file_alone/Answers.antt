use Rattle.std.proofs.Common.{drop, map, sym, ap, ◌∙◌}
use Rattle.std.specs.List.{list_all}
use Rattle.std.proofs.Math.ListN.{drop_of_length-le}
use Rattle.std.proofs.lemmas.List.Folds.{list_all-map}
use Rattle.p4_lexer.specs.declared.extents.PieceAt.{PieceAt}
use Rattle.p4_lexer.specs.Cuts.{Cut}
use Rattle.p4_lexer.specs.Extents.{cut_at}
use Rattle.p4_lexer.specs.DirectiveSteps.{is_filler_kind, is_file_alone}
use Rattle.p4_lexer.proofs.DirectiveStepLemmas.{file_of_none, none_left_dropped, rest_of_pieces}
use Rattle.p4_lexer.proofs.directives.is_file_alone.Goals as goal

pub returns-then-done-file : goal.returns-then-done-file
returns-then-done-file c =
    let rest = drop c.loop-i.i c.args.pieces.now in
    c.are_filler.ensures
    ∙ ap (list_all (λ (p : PieceAt). is_filler_kind p.kind)) (rest_of_pieces c.args.pieces.now c.loop-i.i)
    ∙ sym (list_all-map (λ (x : Cut). is_filler_kind x.kind) (cut_at c.args.text.now) rest)
    ∙ sym (file_of_none (map (cut_at c.args.text.now) rest))
    ∙ ap (λ f. is_file_alone f (map (cut_at c.args.text.now) rest)) (sym (drop_of_length-le c.args.file.now c.if-done-file.true))
    ∙ sym c.loop-i.invariant.1

pub returns : goal.returns
returns c =
    none_left_dropped c.args.file.now c.loop-i.done
    ∙ ap (λ ps. is_file_alone (drop c.loop-i.done c.args.file.now) (map (cut_at c.args.text.now) ps)) (sym (drop_of_length-le c.args.pieces.now c.loop-i-test.false))
    ∙ sym c.loop-i.invariant.1
