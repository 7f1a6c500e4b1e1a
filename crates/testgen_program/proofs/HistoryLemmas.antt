-- What a note of moved bytes does to the files that were opened.
use Rattle.std.proofs.Common.{◌≡◌, ℕ, List, [], ◌∷◌, ◌++◌, Option, Some, sym, ap, ◌∙◌}
use Rattle.tg_base.proofs.MomentLaws.{after_read_last}
use Rattle.tg_base.specs.Moment.{Opened, file_after, after_read}
use Rattle.testgen_program.specs.History.{last_one}

pub moved_last : (past : List Opened) (last : Option Opened) (file new : Opened) (bytes : List ℕ) → last ≡ Some file
    → new ≡ file_after file bytes → past ++ new ∷ [] ≡ after_read (past ++ last_one last) bytes
moved_last past last file new bytes is moved =
    ap (λ other. past ++ other ∷ []) moved
    ∙ sym (after_read_last past file bytes)
    ∙ ap (λ other. after_read (past ++ last_one other) bytes) (sym is)
