-- What a call adds to the outputs of a desk.
use Rattle.std.specs.Prelude.{◌≡◌, ℕ, ◌<◌, ◌==◌, Bool, true, false, List, [], ◌++◌, length, Result, MatchResult, if◌then◌else◌}
use Rattle.tg_base.specs.declared.desk.Out.{Out}
use Rattle.tg_base.specs.declared.desk.Out.TheVariants.{Report, Proofs, Test, Notes}
use Rattle.tg_base.specs.Moment.{Moment, output_after}
use Rattle.testgen_engine.specs.Findings.{IsPrefix}

-- two outputs are one
abbrev pub is_same : Out → Out → Bool
is_same Report Report = true
is_same Proofs Proofs = true
is_same (Test m) (Test n) = m == n
is_same Notes Notes = true
is_same _ _ = false

-- a text for one output, and none for the others
abbrev pub only : Out → List ℕ → Out → List ℕ
only out text other = if is_same out other then text else []

-- each output has taken its text, and nothing else
pub record Adds (before after : Moment) (text : Out → List ℕ) : Type 0 where
  pub each : (out : Out) → after.outputs out ≡ output_after (before.outputs out) (text out)

-- an output has taken a first piece of a text, of which this is left, and no other output has taken anything
pub record TakesPiece (before after : Moment) (out : Out) (text rest : List ℕ) : Type 0 where
  pub piece : List ℕ
  pub some : 0 < length piece
  pub whole : text ≡ piece ++ rest
  pub adds : Adds before after (only out piece)

-- each of these texts is a prefix of the other of its output
abbrev pub ArePrefixes : (Out → List ℕ) → (Out → List ℕ) → Type 0
ArePrefixes taken text = (out : Out) → IsPrefix (taken out) (text out)

-- each output has taken a prefix of its text, and nothing else
pub record AddsPrefixes (before after : Moment) (text : Out → List ℕ) : Type 0 where
  pub taken : Out → List ℕ
  pub adds : Adds before after taken
  pub prefixes : ArePrefixes taken text

-- a call that writes these texts adds them where it succeeds, and prefixes of them where it does not
abbrev pub Writes : {T E : Type 0} → Moment → Moment → (Out → List ℕ) → Result T E → Type 0
Writes before after text result = MatchResult result (λ _. Adds before after text) (λ _. AddsPrefixes before after text)
