use Rattle.std.proofs.Common.{◌≡◌, ◌∷◌, map, take}
use Rattle.std.specs.List.{join_with_byte}
use Rattle.sw_replica_server.specs.ReplicaText.{files_member}
use Rattle.sw_replica_server.proofs.texts.files_text.Given as goal

-- the members of the lines before the place
abbrev pub invariant-loop-place : goal.invariant-loop-place
invariant-loop-place l = l.text.items ≡ 123 ∷ join_with_byte 44 (map files_member (take l.place l.line-items))
