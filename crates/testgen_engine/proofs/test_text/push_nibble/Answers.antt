use Rattle.std.proofs.Common.{◌≡◌, false, IsTrue, [], ◌∷◌, ◌++◌, OnOk, string_bytes, sym, subst}
use Rattle.std.proofs.lemmas.Bool.{ltb-true}
use Rattle.std.proofs.lemmas.Fmt.{hex_one_digit}
use Rattle.std.specs.Fmt.{AppendsText}
use Rattle.p4_meaning.specs.Expected.{is_digit}
use Rattle.testgen_engine.specs.TestText.{glyph_of}
use Rattle.testgen_engine.proofs.test_text.push_nibble.Goals as goal

pub returns-in-Fixed : goal.returns-in-Fixed
returns-in-Fixed c =
    let old = string_bytes c.args.text.now in
    let new = string_bytes c.write.new.self in
    let small = ltb-true c.in-Fixed.digit 16 (subst (λ n. IsTrue (is_digit n)) c.in-Fixed.is c.requires) in
    let written = subst (λ o. OnOk c.write.result (AppendsText old new o)) c.in_radix.ensures c.write.ensures.bytes in
    subst (λ n. OnOk c.write.result (new ≡ old ++ glyph_of n ∷ [])) (sym c.in-Fixed.is)
    (subst (λ digits. OnOk c.write.result (new ≡ old ++ digits)) (hex_one_digit false c.in-Fixed.digit small) written)
