-- Which devices keep a container by its ring: as many as it has replicas, and the one that a request asks among them.
use Rattle.std.proofs.Common.{◌≡◌, ℕ, zero, suc, ◌<◌, ◌≤◌, ◌+◌, ◌-◌, ◌^◌, Bool, true, false, ◌&&◌, not, List, [], ◌∷◌, length, take, get_or, nat_eq}
use Rattle.std.proofs.Common.{arith, bytes_eq, is_none, None, Some, refl, sym, subst}
use Rattle.std.proofs.lemmas.Bool.{and_parts}
use Rattle.std.proofs.lemmas.Bool.Decides.{nat_tests}
use Rattle.std.proofs.lemmas.List.Elements.{All-take}
use Rattle.std.proofs.lemmas.List.Sums.{AllPass-from_list_all}
use Rattle.std.proofs.lemmas.Nat.{shr_below}
use Rattle.std.proofs.lemmas.Option.{get_or_from_slice_get}
use Rattle.std.proofs.lemmas.Slice.Eq.{bytes_eq-Decides}
use Rattle.std.specs.Int.{from_be_bytes, w32}
use Rattle.std.specs.List.{All, Contains}
use Rattle.sw_across_laws.specs.Laws.{HasReplica}
use Rattle.sw_container_server.specs.Places.{IsPlace}
use Rattle.sw_hashpath.specs.BadNames.{bad_name}
use Rattle.sw_hashpath.specs.HashParts.{IsDigest, partition_of}
use Rattle.sw_hashpath.specs.Paths.{hash_of}
use Rattle.sw_hashpath.specs.declared.place.Place.{Place}
use Rattle.sw_pass.specs.Rings.{is_place, replicas_in}
use Rattle.sw_pending_dir.proofs.Keys.{digest-md5}
use Rattle.sw_ring.specs.Faults.{has_repeat, has_unknown}
use Rattle.sw_ring.specs.Rows.{is_good}
use Rattle.sw_ring.specs.declared.ring.Ring.{Ring}

-- ---- partitions

abbrev IsByte : ℕ → Type 0
IsByte b = b < 256

-- four bytes are a number of 32 bits
word-below : (bytes : List ℕ) → ((i : ℕ) → get_or bytes i 0 < 256) → from_be_bytes w32 bytes < 2 ^ 32
word-below bytes small = omega (arith, small 0, small 1, small 2, small 3)

byte-at : (bytes : List ℕ) → All IsByte bytes → (i : ℕ) → get_or bytes i 0 < 256
byte-at [] small i = omega arith
byte-at (b ∷ bytes) small zero = small 0 0 (omega arith)
byte-at (b ∷ bytes) small (suc i) = byte-at bytes (λ k d within. small (suc k) d (omega (arith, within))) i

-- the hash of a place belongs to one of the partitions
partition-below : (hash : List ℕ) (power : ℕ) → IsDigest hash → power ≤ 32 → partition_of hash power < 2 ^ power
partition-below hash power digest most =
    let below : from_be_bytes w32 (take 4 hash) < 2 ^ 32 = word-below (take 4 hash) (byte-at (take 4 hash) (All-take IsByte 4 hash digest.1)) in
    let whole : power + (32 - power) ≡ 32 = omega arith in
    shr_below (from_be_bytes w32 (take 4 hash)) power (32 - power) (rw whole below)

module _ (ring : Ring) where
  place-below : (place : Place) → is_place ring.secrets place ≡ true → partition_of place.hash ring.power < 2 ^ ring.power
  place-below place is =
      let hashed = (and_parts (is_none (bad_name place.account (Some place.container) None))
      (bytes_eq place.hash (hash_of ring.secrets place.account (Some place.container) None)) is).1 in
      let same : place.hash ≡ hash_of ring.secrets place.account (Some place.container) None =
      (bytes_eq-Decides place.hash (hash_of ring.secrets place.account (Some place.container) None)).0 hashed in
      let most = ring.greatest_power in
      partition-below place.hash ring.power (subst IsDigest (sym same) (digest-md5 _)) (omega (arith, most))

  -- ---- rows

  as-many : (row : List ℕ) → is_good (length ring.devices) ring.replicas row ≡ true → length row ≡ ring.replicas
  as-many row good = by (first (nat_eq (length row) ring.replicas) (not (has_unknown (length ring.devices) row)) (not (has_repeat nat_eq row)) good)
    where
      first : (a b c : Bool) → (a && b && c) ≡ true → a ≡ true
      first true b c is = refl
      first false b c is = cc

      by : nat_eq (length row) ring.replicas ≡ true → length row ≡ ring.replicas
      by same = grind (arith, nat_tests)

  -- shards have a replica of each number that the ring has
  pub has-replica : (replica : ℕ) → replica < ring.replicas → HasReplica ring replica
  has-replica replica less place known =
      let below = place-below place known in
      let count = ring.container_count in
      let within : partition_of place.hash ring.power < length ring.container = omega (arith, below, count) in
      let many : length (replicas_in ring place) ≡ ring.replicas =
      as-many (replicas_in ring place)
      (AllPass-from_list_all (is_good (length ring.devices) ring.replicas) ring.container ring.container_rows (partition_of place.hash ring.power) [] within) in
      subst (λ (n : ℕ). replica < n) (sym many) less

  -- the device of a request is one of those that keep the container
  pub is-keeper : (device : ℕ) (place : Place) → IsPlace ring device place → Contains (replicas_in ring place) device
  is-keeper device place is =
      subst (λ (all : List ℕ). Contains all device)
      (sym (get_or_from_slice_get ring.container (partition_of place.hash ring.power) is.keeps.0 [] is.keeps.1)) is.keeps.2
