-- Runs of a forwarder of IPv4 packets, by evaluation.
use Rattle.std.proofs.Common.{[], ◌∷◌, ◌++◌, replicate, refl}
use Rattle.p4_program.specs.declared.outcome.Outcome.TheVariants.{Sent, Dropped}
use Rattle.p4_meaning.specs.Runs.Examples.{program}
use Rattle.p4_meaning.specs.Runs.ForwarderExample.{forwards, packet_at, ethernet_bytes, ipv4_bytes, forwarded_bytes, with_routes}
use Rattle.p4_meaning.specs.Runs.Run.{RunOf}
use Rattle.p4_meaning.specs.Runs.StatementExamples.{bounds}
use Rattle.p4_meaning.proofs.RunLaws.{run_seen}

-- no whole Ethernet header: all of it is payload
pub ethernet_short : RunOf (program forwards) bounds (packet_at 0 (replicate 13 0)) [] (Sent 0 (replicate 13 0)) (1 ∷ 9 ∷ 10 ∷ 11 ∷ [])
ethernet_short = run_seen (program forwards) bounds (packet_at 0 (replicate 13 0)) [] (Sent 0 (replicate 13 0)) (1 ∷ 9 ∷ 10 ∷ 11 ∷ []) refl

-- Ethernet is kept, and IPv4 is short
pub ipv4_short : RunOf (program forwards) bounds (packet_at 5 ethernet_bytes) [] (Sent 0 ethernet_bytes) (1 ∷ 2 ∷ 9 ∷ 10 ∷ 11 ∷ [])
ipv4_short = run_seen (program forwards) bounds (packet_at 5 ethernet_bytes) [] (Sent 0 ethernet_bytes) (1 ∷ 2 ∷ 9 ∷ 10 ∷ 11 ∷ []) refl

-- without an entry the default action drops
pub dropped_by_default : RunOf (program forwards) bounds (packet_at 1 (ethernet_bytes ++ ipv4_bytes)) [] Dropped (1 ∷ 2 ∷ 8 ∷ 3 ∷ [])
dropped_by_default = run_seen (program forwards) bounds (packet_at 1 (ethernet_bytes ++ ipv4_bytes)) [] Dropped (1 ∷ 2 ∷ 8 ∷ 3 ∷ []) refl

-- the host's own entry wins
pub forwarded : RunOf (program forwards) bounds with_routes [] (Sent 3 forwarded_bytes) (1 ∷ 2 ∷ 8 ∷ 4 ∷ 5 ∷ 6 ∷ 7 ∷ 9 ∷ 10 ∷ 11 ∷ [])
forwarded = run_seen (program forwards) bounds with_routes [] (Sent 3 forwarded_bytes) (1 ∷ 2 ∷ 8 ∷ 4 ∷ 5 ∷ 6 ∷ 7 ∷ 9 ∷ 10 ∷ 11 ∷ []) refl
