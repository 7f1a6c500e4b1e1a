-- Where a byte of a text stands.
use Rattle.std.specs.Prelude.{ℕ, ◌+◌, not, ◌==◌, List, count_by, if◌then◌else◌}
use Rattle.std.specs.List.{suffix_len}
use Rattle.tg_base.specs.declared.place.Span.{Span}
use Rattle.p4_lexer.specs.Bytes.{line_feed}

-- The place of the byte that stands behind these bytes: its line, and its byte in that line, both from 1. A line ends
-- with its line feed.
abbrev pub place_after : List ℕ → Span
place_after before = record { line = 1 + count_by (λ c. c == line_feed) before; column = 1 + suffix_len (λ c. not (c == line_feed)) before }

-- the place behind a byte that stands at a place
abbrev pub next_place : Span → ℕ → Span
next_place place c = if c == line_feed then record { line = place.line + 1; column = 1 } else record { line = place.line; column = place.column + 1 }
