use Rattle.std.proofs.Common.{List, ℕ, sym, refl, ◌∙◌, subst}
use Rattle.p4_lexer.specs.Pieces.{Begins}
use Rattle.p4_lexer.specs.Parts.{Piece}
use Rattle.p4_lexer.specs.Scanning.{IsFirstOf}
use Rattle.p4_lexer.specs.PartFaults.{IsBadThere}
use Rattle.p4_lexer.proofs.PartLemmas.{rest_read, cut_from, piece_there, word_told, no_word_told}
use Rattle.p4_lexer.proofs.parts.read_piece.Goals as goal

pub returns-in_ok-push : goal.returns-in_ok-push
returns-in_ok-push c = λ scope taken plain place.
    let text = c.args.text.now in
    let at = c.args.at in
    let p = c.piece_at-piece.result in
    let b = rest_read text at p.len (λ (xs : List ℕ). Begins xs p.kind p.len) c.piece_at-piece.ensures.begins in (
      Piece (cut_from text at p.kind p.len),
      piece_there text at p.kind p.len scope c.requires taken plain b,
      word_told text at p.kind p.len c.args.place scope c.args.events.now c.push.new.self c.requires (sym c.is_word.ensures ∙ c.if-is_word.true) b place c.in_ok-push.ensures.ok,
      refl,
      subst (λ q. IsFirstOf (IsBadThere text (record { kind = p.kind; extent = record { at = at; len = p.len } }) q) c.piece_fault-fault.result) place c.piece_fault-fault.ensures,
    )

pub returns-else-is_word : goal.returns-else-is_word
returns-else-is_word c = λ scope taken plain place.
    let text = c.args.text.now in
    let at = c.args.at in
    let p = c.piece_at-piece.result in
    let b = rest_read text at p.len (λ (xs : List ℕ). Begins xs p.kind p.len) c.piece_at-piece.ensures.begins in (
      Piece (cut_from text at p.kind p.len),
      piece_there text at p.kind p.len scope c.requires taken plain b,
      no_word_told text at p.kind p.len scope c.args.events.now (sym c.is_word.ensures ∙ c.if-is_word.false),
      refl,
      subst (λ q. IsFirstOf (IsBadThere text (record { kind = p.kind; extent = record { at = at; len = p.len } }) q) c.piece_fault-fault.result) place c.piece_fault-fault.ensures,
    )
