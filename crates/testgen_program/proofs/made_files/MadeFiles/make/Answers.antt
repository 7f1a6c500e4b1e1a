-- A set with one more name has every other name where it had it.
use Rattle.std.proofs.Common.{◌≡◌, ◌∙◌, Bool, true, false, cond, ap, sym, refl, rules}
use Rattle.std.specs.BTreeSet.{contains_text}
use Rattle.std.specs.Str.{bytes_eq}
use Rattle.std.specs.String.{string_bytes}
use Rattle.std.proofs.lemmas.Map.Text.{btree_set_updates_text}
use Rattle.std.proofs.lemmas.Slice.Eq.{bytes_eq-Decides}
use Rattle.testgen_program.proofs.made_files.MadeFiles.make.Goals as goal

fails : (b : Bool) (P : Type 0) → (b ≡ true → P) → (P → ⊥) → b ≡ false
fails true P holds denied = absurd (denied (holds refl))
fails false P holds denied = refl

pub returns-in-Ok-clause-others_stay : goal.returns-in-Ok-clause-others_stay
returns-in-Ok-clause-others_stay g c = λ other differs.
    let key = string_bytes c.in_ok-name.name in
    let named : key ≡ c.args.name.now = search rules in
    let apart : bytes_eq key other ≡ false = fails (bytes_eq key other) (key ≡ other) (bytes_eq-Decides key other).0 (λ same. differs (sym same ∙ named)) in
    btree_set_updates_text key c.args.self.now.names c.insert.new.self true c.in-Ok.ensures.updates other ∙ ap (λ b. cond b true (contains_text c.args.self.now.names other)) apart
