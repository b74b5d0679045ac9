-- Places of containers, and the container of an object. (OpenStack Swift's paths.)
use Rattle.std.specs.Prelude.{◌≡◌, None, Some}
use Rattle.sw_hashpath.specs.BadNames.{bad_name}
use Rattle.sw_hashpath.specs.Paths.{hash_of}
use Rattle.sw_hashpath.specs.declared.name.Name.{Name}
use Rattle.sw_hashpath.specs.declared.place.Place.{Place}
use Rattle.sw_hashpath.specs.declared.secrets.Secrets.{Secrets}

-- the place of a container: nothing is wrong with its names, and its hash is that of its path
pub record IsPlace (secrets : Secrets) (place : Place) : Type 0 where
  pub good : bad_name place.account (Some place.container) None ≡ None
  pub hashed : place.hash ≡ hash_of secrets place.account (Some place.container) None

-- the place of the container that an object of this name is in
pub record IsPlaceOf (secrets : Secrets) (name : Name) (place : Place) : Type 0 where
  pub account : place.account ≡ name.account
  pub container : place.container ≡ name.container
  pub hashed : place.hash ≡ hash_of secrets name.account (Some name.container) None
