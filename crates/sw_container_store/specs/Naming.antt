-- What is told of the containers whose databases are there, over any databases. (This project's own.)
use Rattle.std.specs.Prelude.{◌≡◌, ◌⊎◌, ℕ, Bool, true, false, List, [], ◌∷◌, ◌++◌, Option, None, Some, MatchOption}
use Rattle.std.specs.List.Sorted.{IsPermutation, IsSorted}
use Rattle.sqlite_value.specs.Order.{Row as SqlRow}
use Rattle.sw_hashpath.specs.declared.place.Place.{Place}
use Rattle.sw_keeper.specs.Places.{place_cmp}
use Rattle.sw_container_store.specs.declared.open_list.OpenDatabase.{OpenDatabase}
use Rattle.sw_container_store.specs.declared.statements.Query.{Query}
use Rattle.sw_container_store.specs.OpenList.{after_room, found_hashed, without_hashed}
use Rattle.sw_container_store.specs.Telling.{TellsFormat, TellsPlace}

-- a place, or none
abbrev pub listed : Option Place → List Place
listed None = []
listed (Some place) = place ∷ []

module _ {H D : Type 0} where
  -- of one that isn't open: it was looked for, once, and isn't there
  pub record IsNoPlace (Finds : H → List ℕ → Bool → H → Type 0) (before after : H) (old new : List (OpenDatabase D)) (hash : List ℕ) (place : Option Place)
      : Type 0 where
    pub absent : Finds before hash false after
    pub none : place ≡ None
    pub list : new ≡ old

  -- or is there: it was opened, asked its format and whose it is, and closed again
  pub record IsClosedPlace (Finds : H → List ℕ → Bool → H → Type 0) (Opens : H → List ℕ → H → D → Type 0)
      (Shows : Query → SqlRow → D → D → List SqlRow → Type 0) (before after : H) (old new : List (OpenDatabase D)) (hash : List ℕ) (place : Option Place)
      : Type 0 where
    pub mid : H
    pub found : Finds before hash true mid
    pub opened : D
    pub opens : Opens mid hash after opened
    pub checked : D
    pub format : TellsFormat Shows opened checked
    pub asked : D
    pub told : TellsPlace Shows hash checked asked place
    pub list : new ≡ after_room old

  -- of one that is open: its file was looked for, once, and is there, and it was asked whose it is; it then is the one that was used last
  pub record IsOpenPlace (Finds : H → List ℕ → Bool → H → Type 0) (Shows : Query → SqlRow → D → D → List SqlRow → Type 0) (before after : H)
      (old new : List (OpenDatabase D)) (hash : List ℕ) (entry : OpenDatabase D) (place : Option Place) : Type 0 where
    pub found : Finds before hash true after
    pub asked : D
    pub told : TellsPlace Shows hash entry.database asked place
    pub list : new ≡ without_hashed old hash ++ record entry { database = asked } ∷ []

  -- what is told of the container whose hash this is
  abbrev pub IsPlaceOf : (H → List ℕ → Bool → H → Type 0) → (H → List ℕ → H → D → Type 0) → (Query → SqlRow → D → D → List SqlRow → Type 0) → H → H
      → List (OpenDatabase D) → List (OpenDatabase D) → List ℕ → Option Place → Type 0
  IsPlaceOf Finds Opens Shows before after old new hash place =
      MatchOption (found_hashed old hash)
      (IsNoPlace Finds before after old new hash place ⊎ IsClosedPlace Finds Opens Shows before after old new hash place)
      (λ entry. IsOpenPlace Finds Shows before after old new hash entry place)

  -- the places that are told of these, one after the other
  unfoldable pub NamesEach : (H → List ℕ → Bool → H → Type 0) → (H → List ℕ → H → D → Type 0) → (Query → SqlRow → D → D → List SqlRow → Type 0)
      → List (List ℕ) → H → H → List (OpenDatabase D) → List (OpenDatabase D) → List Place → Type 0
  NamesEach Finds Opens Shows [] before after old new places = (after ≡ before) × (new ≡ old) × (places ≡ [])
  NamesEach Finds Opens Shows (hash ∷ hashes) before after old new places =
      (mid : H) × (between : List (OpenDatabase D)) × (place : Option Place) × (more : List Place)
      × IsPlaceOf Finds Opens Shows before mid old between hash place × NamesEach Finds Opens Shows hashes mid after between new more
      × (places ≡ listed place ++ more)

  -- exactly the places that are told of the hashes of the databases that are there, in byte order of account, container and hash
  pub record IsNamed (Lists : H → List (List ℕ) → Type 0) (Finds : H → List ℕ → Bool → H → Type 0) (Opens : H → List ℕ → H → D → Type 0)
      (Shows : Query → SqlRow → D → D → List SqlRow → Type 0) (before after : H) (old new : List (OpenDatabase D)) (places : List Place) : Type 0 where
    pub hashes : List (List ℕ)
    pub lists : Lists before hashes
    pub found : List Place
    pub each : NamesEach Finds Opens Shows hashes before after old new found
    pub same : IsPermutation found places
    pub sorted : IsSorted place_cmp places
