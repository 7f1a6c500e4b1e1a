use Rattle.std.proofs.Common.{◌≡◌, length, map, ap, sym, subst, ◌∙◌, arith}
use Rattle.std.specs.Option.{MatchOption}
use Rattle.p4_program.specs.Numbered.{number_of, numbers_from}
use Rattle.testgen_engine.specs.Skeleton.{head_text, words_in}
use Rattle.testgen_engine.specs.Statements.{IsSkeletonOf, IsNoSkeleton}
use Rattle.testgen_engine.proofs.PlacedLemmas.{length_placed, numbers_placed}
use Rattle.testgen_engine.proofs.built.program_in.Goals as goal

pub invariant_of-result : goal.invariant_of-result
invariant_of-result c =
    let tokens = c.args.tokens.now in
    let text = c.as_slice-2.result.now in
    let kinds = c.as_slice-3.result.now in
    let is_skeleton_of = subst (λ r. MatchOption r (IsNoSkeleton text) (λ ks. IsSkeletonOf text ks)) c.in-Some.is c.in_ok-kinds.ensures in
    let few = is_skeleton_of.few in
    let placed = c.in_ok-statements.ensures.are in
    let as_many = ap length placed ∙ length_placed tokens 1 (words_in head_text) kinds ∙ ap length c.as_slice-3.ensures in
    record {
      within = omega arith;
      numbered = subst (λ ss. map number_of ss ≡ numbers_from 1 (length ss)) (sym placed) (numbers_placed tokens 1 (words_in head_text) kinds);
      placed = c.in_ok-statements.ensures.placed;
    }
