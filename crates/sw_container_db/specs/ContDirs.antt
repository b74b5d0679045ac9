-- What contracts see of the containers of one lock: a keeper, and the journal of what was done with it. (This project's own.)
use Rattle.std.specs.Prelude.{◌≡◌, ◌≢◌, ℕ, Bool, true, List, [], ◌∷◌, Option, None, Some, All, ⊤}
use Rattle.std.specs.List.{fold}
use Rattle.sw_hashpath.specs.declared.place.Place.{Place}
use Rattle.sw_keeper.specs.declared.tables.Tables.{Tables}
use Rattle.sw_step.specs.Rules.{CanStand, IsOf, stands}
use Rattle.sw_container_steps.specs.Entries.{entered}
use Rattle.sw_container_steps.specs.Laws.{sign_of}
use Rattle.sw_container_steps.specs.Rules.{ContHistory, ContJournal, cont_rules}
use Rattle.sw_container_steps.specs.declared.cont_entry.ContEntry.{ContEntry}
use Rattle.sw_container_db.specs.declared.loaded_list.Loaded.{Loaded}
use Rattle.sw_container_db.specs.declared.sign.Doubt.{Doubt}

-- a keeper now and as the journal began, the tables that are loaded, what was entered since it was last taken out, and the journal
pub record ContKept (K : Type 0) : Type 0 where
  pub keeper : K
  pub began : K
  pub loaded : List Loaded
  pub fresh : List ContEntry
  pub journal : ContJournal

-- what is known of the lock by them
abbrev pub cont_history_of : {K : Type 0} → (K → Bool) → (K → Place → Option Tables) → (K → ℕ) → ContKept K → ContHistory
cont_history_of tells holds faults k = record { told = tells k.began; opening = holds k.began; journal = k.journal; faults = faults k.keeper }

-- the one change that may be in doubt: a batch
abbrev pub doubts_in : Option Doubt → List (List ContEntry)
doubts_in None = []
doubts_in (Some d) = d.batch.items ∷ []

-- the tables that are loaded are those that are held
abbrev pub AreHeld : List Loaded → (Place → Option Tables) → Type 0
AreHeld loaded held = All (λ l. l.tables ≡ held l.place) loaded

-- a doubt is one of its place
abbrev pub AreOwn : Option Doubt → Type 0
AreOwn None = ⊤
AreOwn (Some d) = IsOf cont_rules d.place d.batch.items

-- its sign is that of what stands, and it would change that
abbrev pub IsSigned : Option Doubt → (Place → Option Tables) → Type 0
IsSigned None stood = ⊤
IsSigned (Some d) stood = (d.sign ≡ sign_of d.batch.items (stood d.place)) × (sign_of d.batch.items (fold entered (stood d.place) d.batch.items) ≢ d.sign)

-- the invariant: the keeper tells as it did, and the journal has the one doubt that there may be. Where the keeper tells what it holds, each place may
-- stand for what is held there, the sign of the doubt tells whether it was made, and what is loaded is what is held
pub record IsContDir {K : Type 0} (tells : K → Bool) (holds : K → Place → Option Tables) (faults : K → ℕ) (k : ContKept K) (doubt : Option Doubt)
    : Type 0 where
  pub same : tells k.keeper ≡ tells k.began
  pub doubts : k.journal.doubts ≡ doubts_in doubt
  pub own : AreOwn doubt
  pub fits : tells k.began ≡ true → (place : Place) → CanStand cont_rules (cont_history_of tells holds faults k) place (holds k.keeper place)
  pub signed : tells k.began ≡ true → IsSigned doubt (stands cont_rules (cont_history_of tells holds faults k))
  pub held : tells k.began ≡ true → AreHeld k.loaded (holds k.keeper)
