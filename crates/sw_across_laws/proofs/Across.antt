-- What a listing across answers over a door that is alone is the listing of the live objects.
use Rattle.std.proofs.Common.{◌≡◌, ℕ, true, List, slice_index_or, Some, sym, ◌∙◌, ap, subst, inl, inr, Result, Ok, Err}
use Rattle.std.proofs.lemmas.List.{get_or_default}
use Rattle.std.proofs.lemmas.List.Sums.{AllPass-from_list_all}
use Rattle.std.specs.List.{All, Contains}
use Rattle.sw_container_steps.specs.declared.cont_answer.ContAnswer.{ContAnswer}
use Rattle.sw_container_steps.specs.declared.cont_answer.ContAnswer.TheVariants as answers
use Rattle.sw_container_steps.specs.declared.sharding.Sharding.{Sharding}
use Rattle.sw_hashpath.specs.declared.place.Place.{Place}
use Rattle.sw_keeper.specs.declared.tables.Tables.{Tables}
use Rattle.sw_listing.specs.Listing.{listing}
use Rattle.sw_listing.specs.declared.entry.Entry.{Entry}
use Rattle.sw_listing.specs.declared.query.Query.{Query}
use Rattle.sw_listing_laws.specs.Laws.{AreLiveRows, DoAgree}
use Rattle.sw_listing_laws.specs.Plain.{Cluster}
use Rattle.sw_machine.specs.Machine.{Machine}
use Rattle.sw_pass.specs.Rings.{is_place, replicas_in}
use Rattle.sw_peer.specs.Sights.{Sight}
use Rattle.sw_peer.specs.declared.cont_event.ContEvent.TheVariants.{Sharded}
use Rattle.sw_ring.specs.declared.ring.Ring.{Ring}
use Rattle.sw_rows.specs.declared.numbered.Numbered.{Numbered}
use Rattle.sw_shard_listing.specs.Ranges.{begun, listed_in_turn}
use Rattle.sw_shard_range.specs.declared.range.Range.{Range}
use Rattle.sw_sharded_listing.proofs.Reading.{AreAllRead, all, no-answer, read-of}
use Rattle.sw_sharded_listing.specs.Across.{AreAllListed, IsListedNext, IsShardingRead}
use Rattle.sw_sharded_listing.specs.Laws.{IsReadAt, segments_of}
use Rattle.sw_sharded_listing.specs.Parts.{Part, are_places, parts_of, replica_at, served_in}
use Rattle.sw_across_laws.proofs.Doors.{door-kept}
use Rattle.sw_across_laws.proofs.Exact.{across-exact}
use Rattle.sw_across_laws.proofs.Keeping.{keeps-read}
use Rattle.sw_across_laws.proofs.Reading.{all-alone, all-there, read-there}
use Rattle.sw_across_laws.specs.Laws.{HasReplica, IsDoorTo, ListingsAcrossAreExact}
use Rattle.sw_across_laws.specs.Picked.{ArePicked}
use Rattle.sw_across_laws.specs.Showable.{AreNamed, IsShowable}

-- ---- replicas of this number

module _ (c : Cluster) (ring : Ring) (replica : ℕ) (keepers : (place : Place) → c.replicas place ≡ replicas_in ring place) (has : HasReplica ring replica) where
  abbrev IsKept : Range → Type 0
  IsKept r = Contains (c.replicas r.shard) (replica_at ring replica r.shard)

  kept : (r : Range) → is_place ring.secrets r.shard ≡ true → IsKept r
  kept r known =
      let less = has r.shard known in
      subst (λ (all : List ℕ). Contains all (replica_at ring replica r.shard)) (sym (keepers r.shard))
      (replica, less, get_or_default (replicas_in ring r.shard) replica (replica_at ring replica r.shard) 0 less)

  all-kept : (rs : List Range) → are_places ring.secrets rs ≡ true → All IsKept rs
  all-kept rs are = λ k d within.
      kept (slice_index_or rs k d) (AllPass-from_list_all (λ r. is_place ring.secrets r.shard) rs are k d within)

-- ---- the listing

abbrev split_by : Tables → Sharding
split_by t = record { ranges = t.ranges; cursor = t.cursor; points = t.points; emptied = t.emptied }

module _ (c : Cluster) (root : Place → Place) (m : Machine) (place : Place) (can : IsShowable c root m place) (named : AreNamed c m) (same : DoAgree m)
    (ring : Ring) (old : Sight) (door : IsDoorTo c m ring old) (device : ℕ) (among : Contains (c.replicas place) device) (replica : ℕ)
    (has : HasReplica ring replica) (query : Query) (entries : List Entry) (new : Sight) (alone : new.alone ≡ true) (rows : List Numbered)
    (are : AreLiveRows c m place rows) where
  abbrev parts_by : Sharding → List Part
  parts_by x = parts_of ring device place replica query.reverse x.ranges x.cursor

  -- the shards are known to the nodes, and the parts were listed
  abbrev WereListed : Sharding → Sight → Type 0
  WereListed x mid = (are_places ring.secrets (served_in x.ranges x.cursor) ≡ true) × AreAllListed query (parts_by x) mid (Ok entries) new

  all-read : (ps : List Part) (mid : Sight) → AreAllListed query ps mid (Ok entries) new → AreAllRead (begun query) ps mid entries new
  all-read ps mid (inl gives) = absurd (no-answer entries answers.NoMemory gives.2)
  all-read ps mid (inr listed) = all (begun query) ps mid entries new listed

  exact : (t : Tables) (mid : Sight) → IsReadAt device place t old mid → WereListed (split_by t) mid → entries ≡ listing query rows
  exact t mid first listed =
      r.2
      ∙ (ap (λ (ts : List Tables). listed_in_turn (begun query) (segments_of ps ts))
      (all-there c m ring ps r.0 mid new (door-kept c m ring old mid door (keeps-read device place t old mid first)) r.1 alone)
      ∙ across-exact c root m place can named same device among t there (replica_at ring replica) picked rows are query)
    where
      ps : List Part
      ps = parts_by (split_by t)

      r : AreAllRead (begun query) ps mid entries new
      r = all-read ps mid listed.1

      later : mid.alone ≡ true
      later = all-alone ps r.0 mid new r.1 alone

      there : m.containers.half.holds device place ≡ Some t
      there = read-there c m ring device place t old mid first door later

      picked : ArePicked c (replica_at ring replica) t
      picked = all-kept c ring replica door.keepers has (served_in t.ranges t.cursor) listed.0

  next : (read : Result Sharding ContAnswer) (mid : Sight) → IsShardingRead device place old read mid
      → IsListedNext ring device place query replica read mid (Ok entries) new → entries ≡ listing query rows
  next (Err answer) mid read listed = absurd (no-answer entries answer listed.1)
  next (Ok x) mid read (inr refused) = absurd (no-answer entries answers.Failed refused.2)
  next (Ok x) mid read (inl listed) =
      let first = read-of split_by device place (λ got. Sharded place got) old x mid read in
      exact first.0 mid first.1 (subst (λ (y : Sharding). WereListed y mid) first.2 listed)

pub listings-exact : ListingsAcrossAreExact
listings-exact c root m place can named same ring old door device among replica has query entries new alone across rows are =
    next c root m place can named same ring old door device among replica has query entries new alone rows are across.0 across.1 across.2 across.3
