-- What a listing across shards is a listing of.
use Rattle.std.proofs.Common.{◌≡◌, ℕ, Bool, true, false, cond, List, [], ◌∷◌, filter, Option, Some, refl, sym, ◌∙◌, ap, subst, inl, inr, Result, Ok, Err}
use Rattle.std.proofs.Common.{None, arith, length, nat_lt, take}
use Rattle.std.proofs.lemmas.List.{append-nil}
use Rattle.std.specs.Prelude.{Contains}
use Rattle.sw_container_steps.specs.Presence.{is_present}
use Rattle.sw_container_steps.specs.Reads.{listing_of}
use Rattle.sw_container_steps.specs.Serving.{unserved}
use Rattle.sw_container_steps.specs.declared.cont_answer.ContAnswer.{ContAnswer}
use Rattle.sw_container_steps.specs.declared.cont_answer.ContAnswer.TheVariants as answers
use Rattle.sw_container_steps.specs.declared.sharding.Sharding.{Sharding}
use Rattle.sw_hashpath.specs.declared.place.Place.{Place}
use Rattle.sw_keeper.specs.declared.tables.Tables.{Tables}
use Rattle.sw_listing.specs.Listing.{listing}
use Rattle.sw_listing.specs.declared.entry.Entry.{Entry}
use Rattle.sw_listing.specs.declared.query.Query.{Query}
use Rattle.sw_peer.specs.Sights.{Sight}
use Rattle.sw_peer.specs.declared.cont_event.ContEvent.TheVariants.{Sharded}
use Rattle.sw_ring.specs.declared.ring.Ring.{Ring}
use Rattle.sw_rows.specs.declared.numbered.Numbered.{Numbered}
use Rattle.sw_shard_listing.proofs.Splitting.{add-up}
use Rattle.sw_shard_listing.specs.Laws.{AreInTurn, AreSegments}
use Rattle.sw_shard_listing.specs.Ranges.{Segment, all_within, begun, is_between, within}
use Rattle.sw_shard_range.specs.declared.range.Range.{Range}
use Rattle.sw_sharded_listing.proofs.Turning.{in-turn, own-only, parts_from, tiled-from, turned-order}
use Rattle.sw_sharded_listing.proofs.Reading.{AreAllRead, all, no-answer, read-of}
use Rattle.sw_sharded_listing.specs.Across.{AreAllListed, IsListedNext, IsShardingRead}
use Rattle.sw_sharded_listing.specs.Laws.{AcrossLists, AreRead, IsListingOfAll, IsOneListing, IsReadAt, PartsAreInTurn, UnsplitListsOnce, segments_of}
use Rattle.sw_sharded_listing.specs.Parts.{Part, own_part, parts_of, turned}

all-of : (query : Query) (parts : List Part) (old : Sight) (entries : List Entry) (new : Sight) → AreAllListed query parts old (Ok entries) new
    → AreAllRead (begun query) parts old entries new
all-of query parts old entries new (inl gives) = absurd (no-answer entries answers.NoMemory gives.2)
all-of query parts old entries new (inr listed) = all (begun query) parts old entries new listed

-- how far the container is split, as these tables tell it
abbrev split_by : Tables → Sharding
split_by t = record { ranges = t.ranges; cursor = t.cursor; points = t.points; emptied = t.emptied }

module _ (ring : Ring) (device : ℕ) (place : Place) (query : Query) (replica : ℕ) (entries : List Entry) (old new : Sight) where
  abbrev parts_by : Tables → List Part
  parts_by t = parts_of ring device place replica query.reverse t.ranges t.cursor

  parts-listed : (sharding : Sharding) (mid : Sight) → IsListedNext ring device place query replica (Ok sharding) mid (Ok entries) new
      → AreAllListed query (parts_of ring device place replica query.reverse sharding.ranges sharding.cursor) mid (Ok entries) new
  parts-listed sharding mid (inl listed) = listed.1
  parts-listed sharding mid (inr refused) = absurd (no-answer entries answers.Failed refused.2)

  next : (read : Result Sharding ContAnswer) (mid : Sight) → IsShardingRead device place old read mid
      → IsListedNext ring device place query replica read mid (Ok entries) new → IsListingOfAll ring device place query replica entries old new
  next (Err answer) mid read listed = absurd (no-answer entries answer listed.1)
  next (Ok sharding) mid read listed =
      let first = read-of split_by device place (λ got. Sharded place got) old sharding mid read in
      let parts = all-of query (parts_by first.0) mid entries new
      (subst (λ (x : Sharding). AreAllListed query (parts_of ring device place replica query.reverse x.ranges x.cursor) mid (Ok entries) new) first.2
      (parts-listed sharding mid listed)) in
      record {
        first = first.0;
        mid = mid;
        is_first = first.1;
        read = parts.0;
        are_read = parts.1;
        lists = λ are turn. parts.2 ∙ add-up query (segments_of (parts_by first.0) parts.0) are turn;
      }

pub across-lists : AcrossLists
across-lists ring device place query replica entries old new across =
    next ring device place query replica entries old new across.0 across.1 across.2 across.3

-- ---- a container that isn't split

one-turned : (backwards : Bool) (part : Part) → turned backwards (part ∷ []) ≡ part ∷ []
one-turned true part = refl
one-turned false part = refl

-- all rows lie within no bounds
unbounded : (rows : List Numbered) → filter (λ (n : Numbered). is_between [] [] n.row.name) rows ≡ rows
unbounded [] = refl
unbounded (n ∷ rows) = ap (λ (ns : List Numbered). n ∷ ns) (unbounded rows)

none-in : {A : Type 0} (x : A) → Contains [] x → ⊥
none-in x is = let less = is.1 in omega (arith, less)

module _ (device : ℕ) (place : Place) (query : Query) (entries : List Entry) (mid new : Sight) where
  abbrev whole : Tables → Segment
  whole t = record { lower = []; upper = []; rows = unserved t }

  abbrev IsOnce : Type 0
  IsOnce = (t : Tables) × IsReadAt device place t mid new × (AreSegments (whole t ∷ []) → (front : ℕ) → Ok entries ≡ listing_of query (Some t) front)

  shown-there : (t : Tables) (front : ℕ) → is_present (Some t) ≡ true → listing_of query (Some t) front ≡ Ok (listing query (unserved t))
  shown-there t front there = ap (λ (b : Bool). cond b (Ok (listing query (unserved t))) (Err answers.Absent)) there

  once : (read : List Tables) → AreRead (own_part device place [] ∷ []) read mid new
      → (AreSegments (segments_of (own_part device place [] ∷ []) read) → AreInTurn query.reverse (segments_of (own_part device place [] ∷ []) read)
      → entries ≡ listing query (all_within (segments_of (own_part device place [] ∷ []) read)))
      → IsOnce
  once [] are lists = absurd are
  once (t ∷ u ∷ ts) are lists = absurd are.2
  once (t ∷ []) are lists =
      let read = subst (λ (s : Sight). IsReadAt device place t mid s) (sym are.2) are.1 in (
        t,
        read,
        λ one front. ap (λ (es : List Entry). Ok es)
            (lists one ((λ m n is none. absurd (none-in n none)), tt)
            ∙ ap (listing query) (append-nil (within (whole t)) ∙ unbounded (unserved t)))
            ∙ sym (shown-there t front read.present),
      )

pub unsplit-lists-once : UnsplitListsOnce
unsplit-lists-once ring device place query replica entries old new across = by (across-lists ring device place query replica entries old new across)
  where
    by : IsListingOfAll ring device place query replica entries old new → IsOneListing ring device place query replica entries old new
    by is = record {
      first = is.first;
      mid = is.mid;
      is_first = is.is_first;
      unsplit = λ none.
          let alone = ap (λ (x : Option (List Range)). parts_of ring device place replica query.reverse x is.first.cursor) none
          ∙ one-turned query.reverse (own_part device place []) in
          once device place query entries is.mid new is.read
          (subst (λ (parts : List Part). AreRead parts is.read is.mid new) alone is.are_read)
          (subst (λ (parts : List Part). AreSegments (segments_of parts is.read) → AreInTurn query.reverse (segments_of parts is.read)
          → entries ≡ listing query (all_within (segments_of parts is.read))) alone is.lists);
    }

-- ---- in turn

pub parts-are-in-turn : PartsAreInTurn
parts-are-in-turn ring device place replica backwards None cursor read tiled =
    in-turn backwards (turned backwards (parts_from ring device place replica [] [] true)) read
    (turned-order backwards (parts_from ring device place replica [] [] true) (own-only ring device place replica [] true).1)
parts-are-in-turn ring device place replica backwards (Some ranges) cursor read tiled =
    let parts = parts_from ring device place replica [] (take cursor ranges) (nat_lt cursor (length ranges)) in
    in-turn backwards (turned backwards parts) read
    (turned-order backwards parts (tiled-from ring device place replica [] 0 ranges cursor (nat_lt cursor (length ranges)) refl (tiled ranges refl)).1)
