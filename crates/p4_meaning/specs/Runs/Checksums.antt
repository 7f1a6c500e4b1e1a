-- Checksums over data (v1model.p4, `verify_checksum`, `update_checksum`, `HashAlgorithm`).
use Rattle.std.specs.Prelude.{ℕ, ◌/◌, ◌==◌, Bool, not, ◌||◌, List, ⊤, if◌then◌else◌}
use Rattle.bits_core.specs.Checksum.{csum16_value, xor16_value}
use Rattle.p4_program.specs.declared.typed.paths.Path.{Path}
use Rattle.p4_program.specs.declared.typed.statements.Algorithm.{Algorithm}
use Rattle.p4_program.specs.declared.typed.statements.Algorithm.TheVariants.{Csum16, Xor16}
use Rattle.p4_program.specs.Syntax.Expressions.{CoreExpression}
use Rattle.p4_meaning.specs.Runs.Acts.{Act, Store, gives, becomes, writes, ◌>>=◌}
use Rattle.p4_meaning.specs.Runs.Contents.{Content, bits, number_in, is_true}
use Rattle.p4_meaning.specs.Runs.Expressions.{Reach, evaluate, evaluate_all}
use Rattle.p4_meaning.specs.Runs.Packets.{Row, row_of, digits}

-- numbers in a row, cut into words of 16 bits
abbrev pub words_of : Row → List ℕ
words_of row = digits 65536 (row.width / 16) row.value

abbrev pub sum_by : Algorithm → List ℕ → ℕ
sum_by Csum16 words = csum16_value words
sum_by Xor16 words = xor16_value words

abbrev pub checksum : Algorithm → List Content → ℕ
checksum algorithm values = sum_by algorithm (words_of (row_of values))

-- a sum that differs is marked, and one that does not leaves the mark
abbrev pub with_checked : Bool → Store → Store
with_checked right store = record store { wrong_sum = store.wrong_sum || not right }

-- data and sum are read only where the condition holds: the data from left to right, and then the sum
abbrev pub verifies_checksum : Reach → CoreExpression → List CoreExpression → CoreExpression → Algorithm → Act ⊤
verifies_checksum Γ condition es sum algorithm =
    evaluate Γ condition >>= λ holds.
    if is_true holds then
    (evaluate_all Γ es >>= λ values. evaluate Γ sum >>= λ expected.
    becomes (with_checked (checksum algorithm values == number_in expected)))
    else gives tt

-- the sum is stored, and what stood there is not read
abbrev pub updates_checksum : Reach → CoreExpression → List CoreExpression → Path → Algorithm → Act ⊤
updates_checksum Γ condition es path algorithm =
    evaluate Γ condition >>= λ holds.
    if is_true holds then (evaluate_all Γ es >>= λ values. writes path (bits 16 (checksum algorithm values))) else gives tt
