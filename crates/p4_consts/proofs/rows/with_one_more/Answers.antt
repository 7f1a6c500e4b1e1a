use Rattle.std.proofs.Common.{Some, map, sym, ap, ◌∙◌, [], ◌∷◌, option_map}
use Rattle.std.proofs.lemmas.List.{map-append}
use Rattle.p4_consts.specs.Things.{judged_of}
use Rattle.p4_consts.proofs.NotedLaws.{all_of_pushed_right}
use Rattle.p4_consts.proofs.rows.with_one_more.Goals as goal

pub returns-in_ok-push-in-Some-Some : goal.returns-in_ok-push-in-Some-Some
returns-in_ok-push-in-Some-Some c = λ parts part e f.
    let judged = c.in-Some-Some.judged in
    let last = c.in-Some-Some.last in
    ap (λ js. Some (map judged_of js)) c.in_ok-push-in-Some-Some.ensures.ok
    ∙ ap Some (map-append judged_of judged (last ∷ []))
    ∙ sym (all_of_pushed_right parts part (map judged_of judged) (judged_of last)
    (sym e ∙ ap (option_map (map judged_of)) c.in-Some-Some.is-0) (sym f ∙ ap (option_map judged_of) c.in-Some-Some.is-1))
