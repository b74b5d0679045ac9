-- The control requests, which are of no node: they look at the whole cluster, or act on it. (This project's own.)
use Rattle.std.specs.Prelude.{◌≡◌, ◌≢◌, ⊤, ℕ, ◌^◌, ◌<◌, ◌≤◌, Bool, List, [], ◌∷◌, length, drop, map, codes, nat_eq, ◌&&◌, Some}
use Rattle.std.specs.List.{slice_split, starts_with}
use Rattle.std.specs.Str.{bytes_eq}
use Rattle.percent_encoding.specs.Percent.{percent_decode}
use Rattle.sw_container_server.specs.Places.{IsHashed}
use Rattle.sw_message.specs.declared.fields.Field.{Field}
use Rattle.sw_message.specs.declared.request.Request.{Request}
use Rattle.sw_object_server.specs.Places.{IsDevice}
use Rattle.sw_object_server.specs.Targets.{behind_segment, first_segment, is_slash}
use Rattle.sw_ring.specs.declared.ring.Ring.{Ring}
use Rattle.sw_control.specs.Passes.{IsReplication, IsRowPush, IsUpdate}
use Rattle.sw_control.specs.ShardRequests.{IsCleaving, IsShardCreation, IsShardsRead}
use Rattle.sw_control.specs.declared.asking.Control.{Control}
use Rattle.sw_control.specs.declared.asking.Control.TheVariants.{Trail, Files, Pending, Restart, Replicate, PushRows, Update, Refused}
use Rattle.sw_control.specs.declared.asking.Control.TheVariants.{CreateShards, Cleave, Shards}

-- whether the path's first segment is that of control requests
abbrev pub is_control : List ℕ → Bool
is_control path = starts_with nat_eq path (codes "/") && bytes_eq (percent_decode (first_segment (drop 1 path))) (codes ".swc")

-- the segments of a path behind its first one: cut at the slashes, and then percent-decoded, each by itself
abbrev pub segments_of : List ℕ → List (List ℕ)
segments_of path = map percent_decode (slice_split is_slash (behind_segment (drop 1 path)))

-- the words of a control request: its method, and the segments behind `.swc`
abbrev pub words_of : Request → List (List ℕ)
words_of r = r.method ∷ segments_of r.path

-- The requests that are known, each with the words that ask for it. A device is asked for by its name, and a pass by fields as well
abbrev pub AsksFor : Ring → List (List ℕ) → List Field → Control → Type 0
AsksFor ring words fields Trail = words ≡ codes "GET" ∷ codes "trail" ∷ []
AsksFor ring words fields (Files device) = (name : List ℕ) × IsDevice ring name (Some device) × (words ≡ codes "GET" ∷ codes "files" ∷ name ∷ [])
AsksFor ring words fields (Pending device) = (name : List ℕ) × IsDevice ring name (Some device) × (words ≡ codes "GET" ∷ codes "pending" ∷ name ∷ [])
AsksFor ring words fields (Restart device) = (name : List ℕ) × IsDevice ring name (Some device) × (words ≡ codes "POST" ∷ codes "restart" ∷ name ∷ [])
AsksFor ring words fields (Replicate asked) = (from : List ℕ) × (to : List ℕ) × (part : List ℕ) × IsReplication ring from to part fields asked
    × (words ≡ codes "POST" ∷ codes "replicate" ∷ from ∷ to ∷ part ∷ [])
AsksFor ring words fields (PushRows asked) = (from : List ℕ) × (to : List ℕ) × (account : List ℕ) × (container : List ℕ)
    × IsRowPush ring from to account container fields asked × (words ≡ codes "POST" ∷ codes "rows" ∷ from ∷ to ∷ account ∷ container ∷ [])
AsksFor ring words fields (Update asked) = (name : List ℕ) × IsUpdate ring name fields asked × (words ≡ codes "POST" ∷ codes "update" ∷ name ∷ [])
AsksFor ring words fields (CreateShards asked) = (name : List ℕ) × (account : List ℕ) × (container : List ℕ) × (per_shard : List ℕ)
    × IsShardCreation ring name account container per_shard fields asked
    × (words ≡ codes "POST" ∷ codes "ranges" ∷ name ∷ account ∷ container ∷ per_shard ∷ [])
AsksFor ring words fields (Cleave asked) = (name : List ℕ) × (account : List ℕ) × (container : List ℕ)
    × IsCleaving ring name account container fields asked × (words ≡ codes "POST" ∷ codes "cleave" ∷ name ∷ account ∷ container ∷ [])
AsksFor ring words fields (Shards asked) = (name : List ℕ) × (account : List ℕ) × (container : List ℕ)
    × IsShardsRead ring name account container asked × (words ≡ codes "GET" ∷ codes "shards" ∷ name ∷ account ∷ container ∷ [])
AsksFor ring words fields Refused = ⊥

-- what these words and fields ask for. They are refused exactly where they ask for nothing that is known
abbrev pub IsAsked : Ring → List (List ℕ) → List Field → Control → Type 0
IsAsked ring words fields Refused = (known : Control) → ¬ AsksFor ring words fields known
IsAsked ring words fields asked = AsksFor ring words fields asked

-- what a control request asks for
abbrev pub IsControl : Ring → Request → Control → Type 0
IsControl ring r asked = IsAsked ring (words_of r) r.fields asked

-- The devices that are asked for are among the ring's, and so is the partition; the container has a good name, and its hash is that of its path. A push is
-- from one device to another, and a shard has a name or more
abbrev pub IsPlaced : Ring → Control → Type 0
IsPlaced ring Trail = ⊤
IsPlaced ring (Files device) = device < length ring.devices
IsPlaced ring (Pending device) = device < length ring.devices
IsPlaced ring (Restart device) = device < length ring.devices
IsPlaced ring (Replicate asked) = (asked.from < length ring.devices) × (asked.to < length ring.devices) × (asked.from ≢ asked.to)
    × (asked.part < 2 ^ ring.power)
IsPlaced ring (PushRows asked) = (asked.from < length ring.devices) × (asked.to < length ring.devices) × (asked.from ≢ asked.to)
    × IsHashed ring asked.place
IsPlaced ring (Update asked) = asked.device < length ring.devices
IsPlaced ring (CreateShards asked) = (asked.device < length ring.devices) × IsHashed ring asked.place × (1 ≤ asked.per_shard)
IsPlaced ring (Cleave asked) = (asked.device < length ring.devices) × IsHashed ring asked.place
IsPlaced ring (Shards asked) = (asked.device < length ring.devices) × IsHashed ring asked.place
IsPlaced ring Refused = ⊤
