-- Sizes: which integers are at least 1.
use Rattle.std.specs.Prelude.{◌≡◌, ℕ, ◌≤◌, ◌<◌, true, false}
use Rattle.std.proofs.Common.{zero, suc, refl, arith}
use Rattle.std.proofs.lemmas.Grind.{common_steps}
use Rattle.tg_base.specs.declared.place.Span.{Span}
use Rattle.tg_base.specs.declared.place.Code.TheVariants as code
use Rattle.p4_rules.specs.declared.faults.Pass.TheVariants.{Folding, Checking}
use Rattle.p4_rules.specs.Faults.{Right, fault_at}
use Rattle.p4_rules.specs.Expressions.{size_within}
use Rattle.p4_consts.specs.Integers.{signed}

pub size_below : (most m : ℕ) (place : Span) → size_within most place (signed true m) ≡ fault_at Folding code.Constant place
size_below most zero place = refl
size_below most (suc m) place = refl

pub size_past : (most m : ℕ) (place : Span) → 1 ≤ m → most < m → size_within most place (signed false m) ≡ fault_at Checking code.Limit place
size_past most m place some past = grind (arith, common_steps)

pub size_kept : (most m : ℕ) (place : Span) → 1 ≤ m → m ≤ most → size_within most place (signed false m) ≡ Right m
size_kept most m place some within = grind (arith, common_steps)
