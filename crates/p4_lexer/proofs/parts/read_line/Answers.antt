use Rattle.std.proofs.Common.{◌≡◌, ◌+◌, ◌⊎◌, Some, None, ◌++◌, map, take, refl, sym, ap, ◌∙◌, subst, arith}
use Rattle.p4_lexer.specs.Directives.{IsDirective}
use Rattle.p4_lexer.specs.Places.{place_after}
use Rattle.p4_lexer.specs.Extents.{cut_at}
use Rattle.p4_lexer.specs.DirectiveExtents.{directive_at}
use Rattle.p4_lexer.specs.BadPieces.{AreInRow}
use Rattle.p4_lexer.specs.PartSteps.{Obeys}
use Rattle.p4_lexer.specs.Scanning.{IsFirstOf}
use Rattle.p4_lexer.specs.PartFaults.{IsBadWhereTaken, IsStray}
use Rattle.p4_lexer.proofs.LinePartLemmas.{hash_place}
use Rattle.p4_lexer.proofs.FaultReadLemmas.{slice_to_hash, line_reads, no_line_reads}
use Rattle.p4_lexer.proofs.parts.read_line.Goals as goal

pub line_fault-fault-requires-clause-row : goal.line_fault-fault-requires-clause-row
line_fault-fault-requires-clause-row c =
    let text = c.args.text.now in
    let at = c.args.at in
    let start = at + c.args.lead + 1 in (
      start,
      subst (AreInRow start) (sym c.as_slice-pieces.ensures) c.in_ok-line.ensures.row,
      omega (arith, c.requires.within),
      c.place_behind-first.ensures (take at text) c.requires.placed ∙ ap place_after (slice_to_hash text at c.args.lead),
    )

pub returns-in-Some : goal.returns-in-Some
returns-in-Some c = λ in_force st start begins long.
    let text = c.args.text.now in
    let at = c.args.at in
    let line = c.in_ok-line.line in
    let pieces = c.as_slice-pieces.ensures in
    let d = directive_at text line.pieces c.in-Some.directive in
    let place = c.place_behind-hash_place.result in
    let belongs = c.in_ok-belongs-in-Some.belongs in
    line_reads text at c.args.lead line.end line.pieces in_force c.obey.new.scope d place c.args.events.now c.obey.new.events belongs c.line_fault-fault.result start begins long c.in_ok-line.ensures
    (subst (λ ps. IsDirective (map (cut_at text) ps) (directive_at text ps c.in-Some.directive)) pieces ((c.in-Some.ensures.is (directive_at text c.as_slice-pieces.result.now c.in-Some.directive)).0 refl))
    (c.place_behind-hash_place.ensures (take at text) c.requires.placed ∙ ap (λ xs. place_after (take at text ++ xs)) (hash_place text at c.args.lead begins long))
    (subst (λ ps. Obeys text in_force place (directive_at text ps c.in-Some.directive) c.obey.new.scope c.args.events.now c.obey.new.events belongs) pieces (c.in_ok-belongs-in-Some.ensures in_force st))
    (subst (λ ps. IsFirstOf (λ f. IsBadWhereTaken text ps c.obey.new.scope.taken f ⊎ IsStray belongs place f) c.line_fault-fault.result) pieces c.line_fault-fault.ensures)

pub returns : goal.returns
returns c = λ in_force st start begins long.
    let text = c.args.text.now in
    let at = c.args.at in
    let line = c.in_ok-line.line in
    no_line_reads text at c.args.lead line.end line.pieces in_force c.args.scope.now c.args.events.now c.place_behind-hash_place.result c.no_directive.result st start begins long c.in_ok-line.ensures
    (λ d is. let found : None ≡ Some d = (c.in-None.ensures.is d).1 (subst (λ ps. IsDirective (map (cut_at text) ps) d) (sym c.as_slice-pieces.ensures) is) in cc)
    (c.place_behind-hash_place.ensures (take at text) c.requires.placed ∙ ap (λ xs. place_after (take at text ++ xs)) (hash_place text at c.args.lead begins long))
    c.no_directive.ensures
