-- One listing of a container that isn't split is that of the live objects too.
use Rattle.std.proofs.Common.{◌≡◌, ℕ, Bool, true, false, List, [], ◌∷◌, filter, unwrap_or, Option, None, Some, refl, sym, ◌∙◌, ap, subst}
use Rattle.std.proofs.lemmas.List.{append-nil}
use Rattle.std.proofs.lemmas.List.Elements.{All-nil}
use Rattle.std.specs.List.{All, Contains}
use Rattle.sw_container_steps.specs.Serving.{unserved}
use Rattle.sw_hashpath.specs.declared.place.Place.{Place}
use Rattle.sw_keeper.specs.Changes.{begun}
use Rattle.sw_keeper.specs.declared.tables.Tables.{Tables}
use Rattle.sw_listing.specs.Listing.{listing}
use Rattle.sw_listing.specs.declared.query.Query.{Query}
use Rattle.sw_listing_laws.specs.Laws.{AreLiveRows, DoAgree}
use Rattle.sw_listing_laws.specs.Plain.{Cluster}
use Rattle.sw_machine.specs.Machine.{Machine}
use Rattle.sw_rows.specs.declared.numbered.Numbered.{Numbered}
use Rattle.sw_shard_listing.proofs.Splitting.{add-up}
use Rattle.sw_shard_listing.specs.Ranges.{all_within, is_between, within}
use Rattle.sw_shard_range.specs.declared.range.Range.{Range}
use Rattle.sw_sharded_listing.specs.Laws.{segment_of}
use Rattle.sw_sharded_listing.specs.Parts.{Part, own_part, served_in, turned}
use Rattle.sw_across_laws.proofs.Exact.{across-exact}
use Rattle.sw_across_laws.proofs.Live.{are-live}
use Rattle.sw_across_laws.specs.Laws.{AreLiveAcross}
use Rattle.sw_across_laws.specs.Picked.{ArePicked, held_segments, picked_parts, tables_at}
use Rattle.sw_across_laws.specs.Showable.{AreNamed, IsShowable}

-- the listing of the rows that a replica has which isn't split
abbrev pub SinglesAreExact : Type 0
SinglesAreExact = (c : Cluster) (root : Place → Place) (m : Machine) (place : Place) → IsShowable c root m place → AreNamed c m → DoAgree m
    → (device : ℕ) → Contains (c.replicas place) device → (t : Tables) → m.containers.half.holds device place ≡ Some t → t.ranges ≡ None
    → (rows : List Numbered) → AreLiveRows c m place rows → (query : Query) → listing query (unserved t) ≡ listing query rows

-- ---- its one part

one-turned : (backwards : Bool) (part : Part) → turned backwards (part ∷ []) ≡ part ∷ []
one-turned true part = refl
one-turned false part = refl

-- all rows lie within no bounds
unbounded : (rows : List Numbered) → filter (λ (n : Numbered). is_between [] [] n.row.name) rows ≡ rows
unbounded [] = refl
unbounded (n ∷ rows) = ap (λ (ns : List Numbered). n ∷ ns) (unbounded rows)

module _ (m : Machine) (device : ℕ) (place : Place) (t : Tables) (there : m.containers.half.holds device place ≡ Some t) where
  abbrev own : Part
  own = own_part device place []

  shown-alone : all_within (held_segments m (own ∷ [])) ≡ unserved t
  shown-alone =
      append-nil (within (segment_of own (tables_at m own)))
      ∙ (unbounded (unserved (tables_at m own)) ∙ ap (λ (o : Option Tables). unserved (unwrap_or o (begun 0 None))) there)

  module _ (pick : Place → ℕ) (backwards : Bool) (none : t.ranges ≡ None) where
    shown-single : all_within (held_segments m (picked_parts pick device place backwards t.ranges t.cursor)) ≡ unserved t
    shown-single =
        ap (λ (ps : List Part). all_within (held_segments m ps))
        (ap (λ (o : Option (List Range)). picked_parts pick device place backwards o t.cursor) none ∙ one-turned backwards own)
        ∙ shown-alone

-- ---- its listing

pub single-exact : SinglesAreExact
single-exact c root m place can named same device among t there none rows are query =
    sym (ap (listing query) (shown-single m device place t there pick query.reverse none))
    ∙ (sym (add-up query (held_segments m (picked_parts pick device place query.reverse t.ranges t.cursor)) is.whole is.in_turn)
    ∙ across-exact c root m place can named same device among t there pick picked rows are query)
  where
    -- no shard is picked
    pick : Place → ℕ
    pick shard = 0

    picked : ArePicked c pick t
    picked =
        subst (λ (o : Option (List Range)). All (λ (r : Range). Contains (c.replicas r.shard) (pick r.shard)) (served_in o t.cursor)) (sym none)
        (All-nil (λ (r : Range). Contains (c.replicas r.shard) (pick r.shard)))

    is : AreLiveAcross c m place query.reverse (held_segments m (picked_parts pick device place query.reverse t.ranges t.cursor))
    is = are-live c root m place can named device among t there pick picked query.reverse
