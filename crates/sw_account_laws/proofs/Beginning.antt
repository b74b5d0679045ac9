-- A machine at which nothing stands is sound with the account of nothing.
use Rattle.std.proofs.Common.{◌≡◌, [], Option, None, Some, sym, ◌∙◌, subst}
use Rattle.std.specs.List.{Contains}
use Rattle.sw_container_steps.specs.Entries.{rows_of}
use Rattle.sw_hashpath.specs.declared.place.Place.{Place}
use Rattle.sw_keeper.specs.declared.tables.Tables.{Tables}
use Rattle.sw_listing_laws.specs.Plain.{Cluster}
use Rattle.sw_machine.specs.Machine.{Machine}
use Rattle.sw_origin_laws.specs.Laws.{IsBare}
use Rattle.sw_pending_laws.proofs.Among.{none-among}
use Rattle.sw_point_laws.proofs.Ending.{runs-begin}
use Rattle.sw_point_laws.specs.Laws.{IsBegun}
use Rattle.sw_state.proofs.StateLaws.{same_state}
use Rattle.sw_state.specs.States.{state_of}
use Rattle.sw_account_laws.specs.Laws.{AccountsBegin, HasNoMetas}
use Rattle.sw_account_laws.specs.Sound.{IsSound, RangesLeadToShards, RecordsAreNamed, RowsAreOfWrites, StandForWrites}

module _ (c : Cluster) (root : Place → Place) (m : Machine) (bare : IsBare c m) (no_metas : HasNoMetas m) where
  begun-so : IsBegun c.nodes c.replicas m
  begun-so = runs-begin c.nodes c.replicas m (record { tell = bare.new.containers_tell; nothing = bare.none; no_messages = bare.new.no_messages })

  nothing-stands : StandForWrites c m []
  nothing-stands d h =
      same_state (m.objects.half.holds d h).state (state_of []) (bare.new.no_objects d h) (no_metas d h)

  none-filed : RecordsAreNamed c m []
  none-filed d key filed is = let never : None ≡ Some filed = sym (bare.new.no_records d key.hash key) ∙ is in cc

  no-rows : RowsAreOfWrites c root m
  no-rows d p plain n there =
      absurd (none-among n (subst (λ (t : Option Tables). Contains (rows_of t).list n) (bare.none d p) there))

  no-ranges : RangesLeadToShards c root m
  no-ranges d p t ranges there split = let never : None ≡ Some t = sym (bare.none d p) ∙ there in cc

  pub begins : IsSound c root m []
  begins = record {
    known = bare.new.no_writes;
    quiet = bare.new.no_messages;
    objects_tell = bare.new.objects_tell;
    containers_tell = bare.new.containers_tell;
    stand = nothing-stands;
    named = λ w there. absurd (none-among w there);
    filed = none-filed;
    origin = λ w base there is. absurd (none-among w there);
    recorded = λ w base there asked is place home device ring row row_is. absurd (none-among w there);
    rows = no-rows;
    ranges = no-ranges;
    points = begun-so.points;
    ordered = begun-so.ordered;
    listed = begun-so.listed;
  }

pub accounts-begin : AccountsBegin
accounts-begin c root m bare no_metas = begins c root m bare no_metas
