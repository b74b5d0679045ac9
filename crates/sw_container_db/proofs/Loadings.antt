-- The load of the tables of a place, where nothing is in doubt.
use Rattle.std.proofs.Common.{◌≡◌, ℕ, Bool, true, false, if◌then◌else◌, List, [], ◌∷◌, ◌++◌, Option, IfSome, refl, sym, ◌∙◌, ap, subst}
use Rattle.sw_hashpath.specs.declared.place.Place.{Place}
use Rattle.sw_keeper.specs.declared.tables.Tables.{Tables}
use Rattle.sw_container_db.specs.ContDirs.{ContKept, IsContDir}
use Rattle.sw_container_db.specs.LoadedList.{is_loaded, rows_held, tables_at, touched, trimmed, without}
use Rattle.sw_container_db.specs.Loading.{Loads}
use Rattle.sw_container_db.specs.declared.loaded_list.Loaded.{Loaded}
use Rattle.sw_container_db.specs.declared.sign.Doubt.{Doubt}
use Rattle.sw_container_db.proofs.LoadedLists.{is-found, none-found, touched-none, trimmed-twice}

module _ {K : Type 0} (tells : K → Bool) (holds : K → Place → Option Tables) (faults : K → ℕ) (k : ContKept K) (doubt : Option Doubt)
    (node : IsContDir tells holds faults k doubt) (place : Place) (n : ContKept K) where
  -- they were loaded
  pub hit-loads : is_loaded place k.loaded ≡ true → n.loaded ≡ touched place k.loaded → Loads tells holds k place n
  hit-loads is after =
      let one = is-found place k.loaded is in record {
        read = one.read;
        was = subst (λ (o : Option Loaded). IfSome o (λ l. one.read ≡ l.tables)) (sym one.found_is) refl;
        known = λ told. one.held (holds k.keeper) (node.held (sym node.same ∙ told));
        loaded = after ∙ (one.touched_is
            ∙ ap (λ (b : Bool). (if b then without place k.loaded else trimmed (rows_held one.read) k.loaded) ++ tables_at place one.read ∷ []) (sym is));
      }

  -- they weren't
  pub miss-loads : (read : Option Tables) → is_loaded place k.loaded ≡ false → (tells k.keeper ≡ true → read ≡ holds k.keeper place)
      → n.loaded ≡ trimmed (rows_held read) (trimmed 0 (touched place k.loaded)) ++ tables_at place read ∷ [] → Loads tells holds k place n
  miss-loads read isnt known after = record {
    read = read;
    was = none-found place k.loaded (λ l. read ≡ l.tables) isnt;
    known = known;
    loaded = after ∙ (ap (λ (xs : List Loaded). xs ++ tables_at place read ∷ [])
        (trimmed-twice (rows_held read) (touched place k.loaded) ∙ ap (trimmed (rows_held read)) (touched-none place k.loaded isnt))
        ∙ ap (λ (b : Bool). (if b then without place k.loaded else trimmed (rows_held read) k.loaded) ++ tables_at place read ∷ []) (sym isnt));
  }
