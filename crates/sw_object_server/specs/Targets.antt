-- The targets of the object server: `/DEVICE/PARTITION/ACCOUNT/CONTAINER/OBJECT`, as a proxy of OpenStack Swift addresses a device. Each
-- segment is percent-decoded by itself, as the URL Standard says: a `%` without two hexadecimal digits behind it stands for itself.
use Rattle.std.specs.Prelude.{ℕ, Bool, List, drop, codes, count_by, nat_eq, nat_le, not, ◌==◌, ◌&&◌, Option, None, Some, if◌then◌else◌}
use Rattle.std.specs.List.{starts_with, before_first, after_first}
use Rattle.std.specs.Str.{bytes_eq}
use Rattle.percent_encoding.specs.Percent.{percent_decode}
use Rattle.sw_message.specs.declared.request.Request.{Request}
use Rattle.sw_fields.specs.Fields.{has_value}
use Rattle.sw_object_server.specs.declared.target.Parts.{Parts}
use Rattle.sw_object_server.specs.declared.verb.Verb.{Verb}
use Rattle.sw_object_server.specs.declared.verb.Verb.TheVariants.{Put, Get, Head, Post, Delete}

-- the byte between segments
abbrev pub is_slash : ℕ → Bool
is_slash b = b == 47

-- the first segment of a text, and what stands behind it
abbrev pub first_segment : List ℕ → List ℕ
first_segment text = before_first is_slash text

abbrev pub behind_segment : List ℕ → List ℕ
behind_segment text = after_first is_slash text

-- whether the path begins with a slash and has five segments or more
abbrev pub has_segments : List ℕ → Bool
has_segments path = starts_with nat_eq path (codes "/") && nat_le 5 (count_by is_slash path)

-- whether a request is for this server: its path has the segments of an object, and it isn't a container's row
abbrev pub is_for_objects : Request → Bool
is_for_objects r = has_segments r.path && not (has_value (codes "x-swc-server") (codes "container") r.fields)

-- the segments of a path, as they stand behind its first slash. The object is all that follows the fourth of them
abbrev pub segments_of : List ℕ → Parts
segments_of path =
    let behind_device : List ℕ = behind_segment (drop 1 path) in
    let behind_partition : List ℕ = behind_segment behind_device in
    let behind_account : List ℕ = behind_segment behind_partition in
    record {
      device = first_segment (drop 1 path);
      partition = first_segment behind_device;
      account = first_segment behind_partition;
      container = first_segment behind_account;
      object = behind_segment behind_account;
    }

-- what they say
abbrev pub decoded : Parts → Parts
decoded s = record {
  device = percent_decode s.device;
  partition = percent_decode s.partition;
  account = percent_decode s.account;
  container = percent_decode s.container;
  object = percent_decode s.object;
}

-- what a path names
abbrev pub parts_of : List ℕ → Parts
parts_of path = decoded (segments_of path)

-- the verb that a method is, where it is one of an object's
abbrev pub verb_of : List ℕ → Option Verb
verb_of method =
    if bytes_eq method (codes "PUT") then Some Put
    else if bytes_eq method (codes "GET") then Some Get
    else if bytes_eq method (codes "HEAD") then Some Head
    else if bytes_eq method (codes "POST") then Some Post
    else if bytes_eq method (codes "DELETE") then Some Delete
    else None
