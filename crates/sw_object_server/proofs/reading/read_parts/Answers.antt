use Rattle.std.proofs.Common.{◌≡◌, ◌↔◌, Result, Err, Option, None, Some, ap, refl}
use Rattle.std.proofs.lemmas.Result.{IfOk-weaker}
use Rattle.sw_hashpath.specs.declared.bad_name.BadName.{BadName}
use Rattle.sw_hashpath.specs.declared.name.Name.{Name}
use Rattle.sw_hashpath.specs.declared.name_error.NameError.{NameError}
use Rattle.sw_hashpath.specs.declared.name_error.NameError.TheVariants.{Bad, NoMemory}
use Rattle.sw_object_server.proofs.Asking.{misnamed, named}
use Rattle.sw_object_server.proofs.reading.read_parts.Goals as goal

pub returns-in-Ok-clause-asked : goal.returns-in-Ok-clause-asked
returns-in-Ok-clause-asked c =
    let good = rw (c.as_slice-account.ensures, c.as_slice-container.ensures, c.as_slice.ensures) at c.in-Ok.ensures.good in
    let is = rw (c.as_slice-account.ensures, c.as_slice-container.ensures, c.as_slice.ensures) at c.in-Ok.ensures.name in
    IfOk-weaker c.read_name.result _ _
    (λ asked asks. named c.args.ring.now c.args.parts.now _ c.args.verb c.in-Ok.name c.args.request asked refl good is asks)
    c.read_name.ensures.asked

pub returns-in-Err-Bad-clause-asked : goal.returns-in-Err-Bad-clause-asked
returns-in-Err-Bad-clause-asked c =
    let bad = (c.in-Err-Bad.ensures.bad c.in-Err-Bad.field-0-0).0 (ap Err c.in-Err-Bad.field-0-is) in
    let is = rw (c.as_slice-account.ensures, c.as_slice-container.ensures, c.as_slice.ensures) at bad in
    misnamed c.args.ring.now c.args.parts.now _ c.args.verb c.args.request c.in-Err-Bad.field-0-0 refl is

-- memory is wanted where nothing is wrong with the names
no_fault : (fault : Option BadName) (made : Result Name NameError) → made ≡ Err NoMemory
    → ((bad : BadName) → (made ≡ Err (Bad bad)) ↔ (fault ≡ Some bad)) → fault ≡ None
no_fault None made wanting each = refl
no_fault (Some bad) made wanting each =
    let is_bad = (each bad).1 refl in
    cc

pub returns-clause-for_named : goal.returns-clause-for_named
returns-clause-for_named c =
    let none = no_fault _ (Err c.in-Err-NoMemory.field-0) (ap Err c.in-Err-NoMemory.field-0-is) c.in-Err-NoMemory.ensures.bad in
    rw (c.as_slice-account.ensures, c.as_slice-container.ensures, c.as_slice.ensures) at none
