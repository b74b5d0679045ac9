-- The targets of requests for replicas: `/DEVICE/PARTITION` and `/DEVICE/PARTITION/SUFFIXES`, as a replicator of OpenStack Swift addresses a
-- device. Each segment is percent-decoded by itself, as the URL Standard says.
use Rattle.std.specs.Prelude.{ℕ, Bool, List, drop, codes, count_by, nat_eq, ◌==◌, ◌&&◌, ◌||◌, None, Some, if◌then◌else◌}
use Rattle.std.specs.List.{starts_with}
use Rattle.std.specs.Str.{bytes_eq}
use Rattle.percent_encoding.specs.Percent.{percent_decode}
use Rattle.sw_message.specs.declared.request.Request.{Request}
use Rattle.sw_object_server.specs.Targets.{behind_segment, first_segment, is_slash}
use Rattle.sw_replica_server.specs.declared.target.Target.{Target}

-- how many slashes a path has: one before each of its segments
abbrev pub slashes : List ℕ → ℕ
slashes path = count_by is_slash path

-- whether a request is for this server: its method is REPLICATE, and its path begins with a slash and has two or three segments
abbrev pub is_replication_of : Request → Bool
is_replication_of r =
    bytes_eq r.method (codes "REPLICATE") && (starts_with nat_eq r.path (codes "/") && ((slashes r.path == 2) || (slashes r.path == 3)))

-- what the segments of a path say, which are cut at the slashes behind its first byte: a third one only where there are three slashes
abbrev pub target_of : List ℕ → Target
target_of path =
    let behind_device : List ℕ = behind_segment (drop 1 path) in
    record {
      device = percent_decode (first_segment (drop 1 path));
      partition = percent_decode (first_segment behind_device);
      suffixes = if slashes path == 3 then Some (percent_decode (behind_segment behind_device)) else None;
    }
