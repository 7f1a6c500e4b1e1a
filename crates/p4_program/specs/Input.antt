-- Inputs within the bounds.
use Rattle.std.specs.Prelude.{◌<◌, ◌≤◌, length, replicate, min, All}
use Rattle.p4_program.specs.declared.bounds.Bounds.{Bounds}
use Rattle.p4_program.specs.declared.input.Input.{Input}
use Rattle.p4_program.specs.declared.input.TheConstants.{MAX_PORT, OPENING_BYTES}
use Rattle.p4_program.specs.declared.program.Program.{Program}

-- The port is one that does not stand for a drop, and the packet is of bytes: at least one, and no more than the
-- bounds allow.
pub record Bounded (p : Program) (b : Bounds) (x : Input) : Type 0 where
  pub port : x.port ≤ MAX_PORT
  pub bytes : All (λ byte. byte < 256) x.packet
  pub some_byte : 1 ≤ length x.packet
  pub most_bytes : length x.packet ≤ b.bytes

-- The opening input: port 0, and as many zero bytes as an Ethernet header has, or as the bounds allow.
abbrev pub opening_input : Bounds → Input
opening_input b = record { port = 0; packet = replicate (min b.bytes OPENING_BYTES) 0 }
