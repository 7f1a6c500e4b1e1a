-- Names of ASCII characters, as every name of a source is: its words have no others.
use Rattle.std.specs.Prelude.{ℕ, zero, suc, ◌<◌, ◌%◌, List, [], ◌∷◌, map, All}
use Rattle.std.specs.Str.{IsAscii}
use Rattle.std.proofs.Common.{zero-le, suc-le-suc}
use Rattle.std.proofs.Math.Nat.{mod-lt, not-suc-le-zero, le_of_suc-le-suc}
use Rattle.std.proofs.lemmas.Str.Ascii.{IsAscii-from_all}

-- A name with its bytes cut to seven bits. It is the name itself where that is of ASCII characters; a tree may hold other bytes.
abbrev pub ascii_bytes : List ℕ → List ℕ
ascii_bytes bs = map (λ b. b % 128) bs

pub each_byte : (bs : List ℕ) → All (λ b. b < 128) (ascii_bytes bs)
each_byte [] k d within = absurd (not-suc-le-zero within)
each_byte (b ∷ bs) zero d within = mod-lt b (suc-le-suc zero-le)
each_byte (b ∷ bs) (suc k) d within = each_byte bs k d (le_of_suc-le-suc within)

pub is_ascii : (bs : List ℕ) → IsAscii (ascii_bytes bs)
is_ascii bs = IsAscii-from_all (ascii_bytes bs) (each_byte bs)
