use Rattle.std.proofs.Common.{◌≡◌, ℕ, List, ◌++◌, length, take, drop, take-append-drop, sym, refl}
use Rattle.p4_lexer.specs.Parts.{Skipped, IsRestOfLine}
use Rattle.p4_lexer.proofs.PartLemmas.{rest_read, skipped_at, nothing_told}
use Rattle.p4_lexer.proofs.parts.skipped_len.Goals as goal

pub returns : goal.returns
returns c = λ scope untaken plain.
    let text = c.args.text.now in
    let at = c.args.at in
    let len = c.rest_of_line_len.result in
    let rest : IsRestOfLine (take len (drop at text)) (drop len (drop at text)) = rest_read text at len (λ (xs : List ℕ). IsRestOfLine (take len xs) (drop len xs)) c.rest_of_line_len.ensures.rest in
    let only : (bytes left : List ℕ) → drop at text ≡ bytes ++ left → IsRestOfLine bytes left → length bytes ≡ len = rest_read text at len (λ (xs : List ℕ). (bytes left : List ℕ) → xs ≡ bytes ++ left → IsRestOfLine bytes left → length bytes ≡ len) c.rest_of_line_len.ensures.only in (
      Skipped (take len (drop at text)),
      skipped_at text at len scope c.requires untaken plain rest (only (take len (drop at text)) (drop len (drop at text)) (sym (take-append-drop len (drop at text))) rest),
      λ events. nothing_told text at len scope events,
      refl,
      λ f none. none,
    )
