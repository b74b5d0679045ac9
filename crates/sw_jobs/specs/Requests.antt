-- The requests of a generated load. (This project's own; `application/octet-stream` is what RFC 2046 calls bytes of which nothing is known.)
use Rattle.std.specs.Prelude.{◌≡◌, true, ℕ, ◌+◌, ◌-◌, ◌*◌, ◌/◌, ◌%◌, max, nat_lt, if◌then◌else◌, refl, List, [], ◌∷◌, ◌++◌, length, map, replicate}
use Rattle.std.specs.Prelude.{slice_index, codes, decimal, None, Some, unwrap_or}
use Rattle.std.specs.List.{range_with_len, slice_get}
use Rattle.std.specs.Str.{chars, is_utf8}
use Rattle.std.proofs.lemmas.Str.{IsUtf8-from_is_utf8}
use lib.Utf8.{encode}
use Rattle.md5.specs.Md5.{md5}
use Rattle.sw_hashpath.specs.HashParts.{partition_of}
use Rattle.sw_hashpath.specs.Paths.{hash_of}
use Rattle.sw_hashpath.specs.declared.name.Name.{Name}
use Rattle.sw_hashpath.specs.declared.secrets.Secrets.{Secrets}
use Rattle.sw_ring.specs.declared.ring.Ring.{Ring}
use Rattle.sw_state.specs.declared.content.Content.{Content}
use Rattle.sw_jobs.specs.Draws.{draw}
use Rattle.sw_jobs.specs.declared.job.Work.{Work}
use Rattle.sw_jobs.specs.declared.job.Work.TheVariants.{Put, Delete, Get}

-- ---- names

-- container k, of 0 to 3: `c` and a digit. 99 is 'c', 48 is '0'
abbrev pub container_name : ℕ → List ℕ
container_name k = 99 ∷ (48 + k) ∷ []

-- object k: `o` and the number in eight digits. 111 is 'o'
unfoldable pub object_name : ℕ → List ℕ
object_name k = 111 ∷ replicate (8 - length (decimal k)) 48 ++ decimal k

-- all names are of account `a`
unfoldable pub name_of : Secrets → List ℕ → List ℕ → Name
name_of secrets container object = record {
  account = codes "a";
  container = container;
  object = object;
  hash = hash_of secrets (codes "a") (Some container) (Some object);
}

-- ---- contents

-- the body of request i, of so many bytes: byte j is 7 i + j, modulo 256
unfoldable pub body_of : ℕ → ℕ → List ℕ
body_of i length = map (λ j. (7 * i + j) % 256) (range_with_len 0 length)

-- the type of bytes of which nothing is known
abbrev pub octets : List ℕ
octets = codes "application/octet-stream"

-- it is a text, as the type of a content has to be
pub octets-is_utf8 : is_utf8 octets ≡ true
unfolding is_utf8 chars encode
octets-is_utf8 = refl

-- a body as an object of no known type, with no metadata
unfoldable pub content_of : List ℕ → Content
content_of body = record {
  body = body;
  content_type = octets;
  etag = md5 body;
  heads = record { delete_at = None; items = []; in_range = refl };
  is_text = ∣ IsUtf8-from_is_utf8 octets octets-is_utf8 ∣₁;
}

-- ---- requests

-- the devices that keep the object whose path has this hash
abbrev pub keepers : Ring → List ℕ → List ℕ
keepers ring hash = unwrap_or (slice_get ring.object (partition_of hash ring.power)) []

-- the one of them that a draw picks
unfoldable pub picked : Ring → List ℕ → ℕ → ℕ
picked ring hash drawn = slice_index (keepers ring hash) (drawn % ring.replicas)

-- seven kinds in ten are puts, two are deletions, and one is a read
abbrev pub asked : ℕ → ℕ → Name → ℕ → Content → Work
asked kind device name time content = if nat_lt kind 7 then Put device name time content else if nat_lt kind 9 then Delete device name time else Get device name

-- request i, by its five draws: its kind, its container, its object, how long its body is, and its device
unfoldable pub drawn : Ring → ℕ → ℕ → ℕ → ℕ → ℕ → ℕ → ℕ → Work
drawn ring requests i kind container object length device =
    let name = name_of ring.secrets (container_name (container % 4)) (object_name (object % max 1 (requests / 4))) in
    asked (kind % 10) (picked ring name.hash device) name (140000000000000 + i) (content_of (body_of i (length % 1025)))

-- request i of so many, counted from 0: it has the draws 5 i to 5 i + 4
abbrev pub request : Ring → ℕ → ℕ → ℕ → Work
request ring seed requests i =
    drawn ring requests i (draw seed (5 * i)) (draw seed (5 * i + 1)) (draw seed (5 * i + 2)) (draw seed (5 * i + 3)) (draw seed (5 * i + 4))
