-- Places that are told of hashes one after the other.
use Rattle.std.proofs.Common.{◌∙◌, ℕ, Bool, List, [], ◌∷◌, ◌++◌, Option, refl, sym, ap, subst, append_assoc}
use Rattle.std.proofs.lemmas.List.{append-nil}
use Rattle.sqlite_value.specs.Order.{Row as SqlRow}
use Rattle.sw_hashpath.specs.declared.place.Place.{Place}
use Rattle.sw_container_store.specs.declared.open_list.OpenDatabase.{OpenDatabase}
use Rattle.sw_container_store.specs.declared.statements.Query.{Query}
use Rattle.sw_container_store.specs.Naming.{IsPlaceOf, NamesEach, listed}

module _ {H D : Type 0} where
  -- one hash more behind the others
  pub names-more : (Finds : H → List ℕ → Bool → H → Type 0) (Opens : H → List ℕ → H → D → Type 0) (Shows : Query → SqlRow → D → D → List SqlRow → Type 0)
      (hashes : List (List ℕ)) (hash : List ℕ) (before mid after : H) (old between new : List (OpenDatabase D)) (places : List Place) (place : Option Place) →
      NamesEach Finds Opens Shows hashes before mid old between places → IsPlaceOf Finds Opens Shows mid after between new hash place →
      NamesEach Finds Opens Shows (hashes ++ hash ∷ []) before after old new (places ++ listed place)
  unfolding NamesEach
  names-more Finds Opens Shows [] hash before mid after old between new places place named told = (
    after,
    new,
    place,
    [],
    subst (λ (h : H). IsPlaceOf Finds Opens Shows h after old new hash place) named.0
        (subst (λ (list : List (OpenDatabase D)). IsPlaceOf Finds Opens Shows mid after list new hash place) named.1 told),
    (refl, refl, refl),
    ap (λ (list : List Place). list ++ listed place) named.2 ∙ sym (append-nil (listed place)),
  )
  names-more Finds Opens Shows (first ∷ hashes) hash before mid after old between new places place named told = (
    named.0,
    named.1,
    named.2,
    named.3 ++ listed place,
    named.4,
    names-more Finds Opens Shows hashes hash named.0 mid after named.1 between new named.3 place named.5 told,
    ap (λ (list : List Place). list ++ listed place) named.6 ∙ append_assoc (listed named.2) named.3 (listed place),
  )
