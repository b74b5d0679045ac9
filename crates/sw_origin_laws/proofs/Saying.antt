-- What a new line tells: a container leaves names to shards of its own container, and tells of lists that name such.
use Rattle.std.proofs.Common.{◌≡◌, ℕ, Bool, true, false, cond, List, Option, None, Some, Result, Ok, Err, refl, sym, ◌∙◌, ap, subst}
use Rattle.std.proofs.lemmas.List.Elements.{All-contains}
use Rattle.std.specs.Option.{option_map}
use Rattle.sw_container_steps.specs.Presence.{deletion_after, is_no_time}
use Rattle.sw_container_steps.specs.Reads.{sharding_of}
use Rattle.sw_container_steps.specs.Rules.{cont_ending}
use Rattle.sw_container_steps.specs.Steps.{cont_refusal}
use Rattle.sw_container_steps.specs.declared.cont_answer.ContAnswer.{ContAnswer}
use Rattle.sw_container_steps.specs.declared.cont_answer.ContAnswer.TheVariants as answers
use Rattle.sw_container_steps.specs.declared.cont_change.ContChange.{ContChange}
use Rattle.sw_container_steps.specs.declared.cont_change.ContChange.TheVariants.{MergeRow}
use Rattle.sw_container_steps.specs.declared.cont_entry.ContEntry.{ContEntry}
use Rattle.sw_container_steps.specs.declared.sharding.Sharding.{Sharding}
use Rattle.sw_hashpath.specs.declared.place.Place.{Place}
use Rattle.sw_keeper.specs.declared.tables.Tables.{Tables}
use Rattle.sw_listing_laws.specs.Plain.{Cluster}
use Rattle.sw_machine.specs.Machine.{ContMakes, ContReads, ContSide, Machine}
use Rattle.sw_machine.specs.Sides.{TellsAt}
use Rattle.sw_peer.specs.Sights.{cont_lock}
use Rattle.sw_peer.specs.declared.cont_event.ContEvent.TheVariants as cont_events
use Rattle.sw_peer.specs.declared.line.Event.TheVariants.{AtContainer}
use Rattle.sw_point_laws.proofs.Merging.{redirected-left}
use Rattle.sw_point_laws.proofs.Outcomes.{refused}
use Rattle.sw_point_laws.proofs.Ranges.{range-of}
use Rattle.sw_point_laws.proofs.Reading.{read-told}
use Rattle.sw_rows.specs.declared.row.Row.{Row}
use Rattle.sw_shard_laws.proofs.Serving.{served-at}
use Rattle.sw_shard_laws.specs.Ledger.{index_in, served, served_in, shard_in}
use Rattle.sw_shard_range.specs.declared.range.Range.{Range}
use Rattle.sw_split_steps.specs.Tables.{standing, ways_of}
use Rattle.sw_origin_laws.proofs.Lists.{AreListed, AreShards, list_of}
use Rattle.sw_origin_laws.proofs.Origins.{IsOfOne, TellsOfRoot}

module _ (P : Place → Type 0) where
  -- the shard of a range of a list is one of those that it names
  pub shard-named : (ranges : List Range) (index : ℕ) (shard : Place) → AreShards P ranges → shard_in (ways_of ranges) index ≡ Some shard → P shard
  shard-named ranges index shard are is =
      let r = range-of ranges index shard is in
      subst P r.2 (All-contains (λ (x : Range). P x.shard) ranges r.0 are r.1)

  -- so is the one that a name is left to
  served-named : (t : Option Tables) (name : List ℕ) (shard : Place) → AreListed P (list_of t) → served (standing t) name ≡ Some shard → P shard
  served-named None name shard are is = cc
  served-named (Some t) name shard are is = by t.ranges refl are
    where
      by : (o : Option (List Range)) → t.ranges ≡ o → AreListed P o → P shard
      by None split listed = cc
      by (Some ranges) split listed =
          let at : served_in (Some (ways_of ranges)) t.cursor name ≡ Some shard =
          subst (λ (o : Option (List Range)). served_in (option_map ways_of o) t.cursor name ≡ Some shard) split is in
          shard-named ranges (index_in (ways_of ranges) name) shard listed (served-at (ways_of ranges) t.cursor name shard at).0

-- what is told of how far a container is split is its list
module _ (t : Tables) (sharding : Sharding) where
  abbrev told_of : Sharding
  told_of = record { ranges = t.ranges; cursor = t.cursor; points = t.points; emptied = t.emptied }

  told-list : (b : Bool) → Ok sharding ≡ cond b (Ok told_of) (Err answers.Absent) → sharding.ranges ≡ t.ranges
  told-list true is = let one : sharding ≡ told_of = cc in ap (λ (s : Sharding). s.ranges) one
  told-list false is = cc

sharding-list : (t : Option Tables) (front : ℕ) (sharding : Sharding) → Ok sharding ≡ sharding_of t front → sharding.ranges ≡ list_of t
sharding-list None front sharding is = cc
sharding-list (Some t) front sharding is = told-list t sharding (is_no_time (deletion_after t.put_time t.delete_time)) is

module _ (c : Cluster) (root : Place → Place) (m : Machine) (device : ℕ) (place : Place) (told : TellsAt (cont_lock c.nodes) m.containers device place)
    (listed : AreListed (IsOfOne root place) (list_of (m.containers.half.holds device place))) (entries : List ContEntry) (after : ContSide) where
  abbrev here : Option Tables
  here = m.containers.half.holds device place

  -- ---- a step

  left-to : (change : ContChange) (answer : ContAnswer) → ContMakes c.nodes m.containers device place change answer entries after → (row : Row) (shard : Place)
      → change ≡ MergeRow row → answer ≡ answers.Redirect shard → IsOfOne root place shard
  left-to change answer makes row shard change_is answer_is =
      let was = refused c.nodes m.containers device place change answer entries after makes told (ap cont_ending answer_is) in
      let so : cont_refusal here place (MergeRow row) ≡ Some (answers.Redirect shard) =
      subst (λ (a : ContAnswer). cont_refusal here place (MergeRow row) ≡ Some a) answer_is
      (subst (λ (ch : ContChange). cont_refusal here place ch ≡ Some answer) change_is was) in
      served-named (IsOfOne root place) here row.name shard listed (redirected-left here place row shard so)

  pub made-tells : (change : ContChange) (answer : ContAnswer) → ContMakes c.nodes m.containers device place change answer entries after
      → TellsOfRoot root (AtContainer (cont_events.Changed place change answer) entries)
  made-tells change answer makes = record { left = left; listed = λ p sharding es ranges is split. cc }
    where
      left : (p : Place) (row : Row) (shard : Place) (es : List ContEntry)
          → AtContainer (cont_events.Changed place change answer) entries ≡ AtContainer (cont_events.Changed p (MergeRow row) (answers.Redirect shard)) es
          → IsOfOne root p shard
      left p row shard es is =
          let place_is : place ≡ p = cc in
          let change_is : change ≡ MergeRow row = cc in
          let answer_is : answer ≡ answers.Redirect shard = cc in
          subst (λ (q : Place). IsOfOne root q shard) place_is (left-to change answer makes row shard change_is answer_is)

  -- ---- a read of how far it is split

  pub sharding-tells : (got : Result Sharding ContAnswer) → ContReads c.nodes m.containers device place sharding_of got entries after
      → TellsOfRoot root (AtContainer (cont_events.Sharded place got) entries)
  sharding-tells got reads = record { left = λ p row shard es is. cc; listed = ranges-told }
    where
      ranges-told : (p : Place) (sharding : Sharding) (es : List ContEntry) (ranges : List Range)
          → AtContainer (cont_events.Sharded place got) entries ≡ AtContainer (cont_events.Sharded p (Ok sharding)) es → sharding.ranges ≡ Some ranges
          → AreShards (IsOfOne root p) ranges
      ranges-told p sharding es ranges is split =
          let place_is : place ≡ p = cc in
          let got_is : got ≡ Ok sharding = cc in
          let was = read-told c.nodes m.containers device place sharding_of got entries after reads told sharding got_is in
          let list_is : list_of here ≡ Some ranges = sym (sharding-list here was.0 sharding was.1) ∙ split in
          subst (λ (q : Place). AreShards (IsOfOne root q) ranges) place_is
          (subst (λ (o : Option (List Range)). AreListed (IsOfOne root place) o) list_is listed)
