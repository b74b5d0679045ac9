use Rattle.std.proofs.Common.{◌≡◌, ◌↔◌, Result, Err, Option, None, Some, ap, refl, rules}
use Rattle.std.specs.Prelude.{IsSome}
use Rattle.sw_hashpath.specs.declared.bad_name.BadName.{BadName}
use Rattle.sw_hashpath.specs.declared.name_error.NameError.{NameError}
use Rattle.sw_hashpath.specs.declared.name_error.NameError.TheVariants.{Bad, NoMemory}
use Rattle.sw_hashpath.specs.declared.place.Place.{Place}
use Rattle.sw_control.proofs.containers.place_of.Goals as goal

-- a cause is one
some_fault : (fault : Option BadName) (bad : BadName) → fault ≡ Some bad → IsSome fault
some_fault None bad is = cc
some_fault (Some known) bad is = search rules

-- memory is wanted where nothing is wrong with the names
no_fault : (fault : Option BadName) (made : Result Place NameError) → made ≡ Err NoMemory
    → ((bad : BadName) → (made ≡ Err (Bad bad)) ↔ (fault ≡ Some bad)) → fault ≡ None
no_fault None made wanting each = refl
no_fault (Some bad) made wanting each =
    let is_bad = (each bad).1 refl in
    cc

pub returns-in-Err-Bad-clause-place : goal.returns-in-Err-Bad-clause-place
returns-in-Err-Bad-clause-place c =
    some_fault _ c.in-Err-Bad.field-0-0 ((c.in-Err-Bad.ensures.bad c.in-Err-Bad.field-0-0).0 (ap Err c.in-Err-Bad.field-0-is))

pub returns-in-Err-NoMemory-clause-err : goal.returns-in-Err-NoMemory-clause-err
returns-in-Err-NoMemory-clause-err c = no_fault _ (Err c.in-Err-NoMemory.field-0) (ap Err c.in-Err-NoMemory.field-0-is) c.in-Err-NoMemory.ensures.bad
