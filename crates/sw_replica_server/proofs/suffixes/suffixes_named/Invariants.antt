use Rattle.std.proofs.Common.{ℕ, ◌↔◌, map, take}
use Rattle.std.specs.List.{Contains}
use Rattle.sw_replica_server.specs.Suffixes.{AreSuffixes, HasSuffix}
use Rattle.sw_replica_server.proofs.suffixes.suffixes_named.Given as goal

-- the pieces so far are suffixes, and the set has these
abbrev pub invariant-loop-piece : goal.invariant-loop-piece
invariant-loop-piece l = record {
  each : AreSuffixes (map (λ piece. piece.now) (take l.piece-index l.piece-items));
  all : (suffix : ℕ) → Contains l.set.keys suffix ↔ HasSuffix (map (λ piece. piece.now) (take l.piece-index l.piece-items)) suffix;
}
