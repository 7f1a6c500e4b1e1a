-- The places of statements.
use Rattle.std.specs.Prelude.{◌^◌, ◌<◌}
use Rattle.tg_base.specs.declared.place.Span.{Span}
use Rattle.p4_program.specs.declared.program.Statement.{Statement}

-- the line and the column have 32 bits
pub record PlaceFits (place : Span) : Type 0 where
  pub line : place.line < 2 ^ 32
  pub column : place.column < 2 ^ 32

abbrev pub IsPlaced : Statement → Type 0
IsPlaced statement = PlaceFits statement.place
