use Rattle.std.proofs.Common.{◌≡◌, true, subst, sym}
use Rattle.sw_cleanup.specs.Cleaning.{AreListedIn}
use Rattle.sw_hashdir.specs.Places.{dir_text}
use Rattle.sw_hashdir.specs.Readings.{IsSecondRead}
use Rattle.sw_hashdir.specs.Steps.{IsOurs}
use Rattle.sw_objdir.proofs.Looking.{dir-moved, looks-moved}
use Rattle.sw_objdir.proofs.Reading.{damaged-untold, second-asked, second-held}
use Rattle.sw_objdir.specs.Directories.{Kept}
use Rattle.sw_object_steps.specs.Steps.{asks_expiry}
use Rattle.sw_volume.specs.Tree.{contents}
use Rattle.sw_objdir.proofs.obj_dir.ObjDir.expiry.Goals as goal

pub invariant_of-self : goal.invariant_of-self
invariant_of-self g c =
    let v = g.V.Volume in let i = c.self.inside in
    let k : Kept _ =
    record { volume = i.volume; began = i.opening.value; secrets = i.secrets; power = i.power; journal = i.journal } in
    let read = c.read_expiry in
    dir-moved v.tells v.holds v.faults k read.new.volume c.self.invariant read.ensures.told read.ensures.same

pub returns-clause-looks : goal.returns-clause-looks
returns-clause-looks g c =
    let v = g.V.Volume in let i = c.self.inside in
    let k : Kept _ =
    record { volume = i.volume; began = i.opening.value; secrets = i.secrets; power = i.power; journal = i.journal } in
    let read = c.read_expiry in
    rw (sym c.self.view_is)
    (looks-moved v.tells v.holds v.faults k read.new.volume read.ensures.told read.ensures.same read.ensures.later)

pub returns-clause-second : goal.returns-clause-second
returns-clause-second g c =
    let v = g.V.Volume in let i = c.self.inside in
    let k : Kept _ =
    record { volume = i.volume; began = i.opening.value; secrets = i.secrets; power = i.power; journal = i.journal } in
    let name = c.args.name.now in let path = c.args.dir.now in let seen = c.args.seen.now in
    let ours : IsOurs k.secrets k.power name =
    subst (λ (x : Kept _). IsOurs x.secrets x.power name) (sym c.self.view_is) c.requires.ours in
    let path_is : path ≡ dir_text k.power name.hash =
    subst (λ (x : Kept _). path ≡ dir_text x.power name.hash) (sym c.self.view_is) c.requires.dir in
    let are : v.tells k.volume ≡ true → AreListedIn (contents (v.holds k.volume)) path seen.names.items =
    subst (λ (x : Kept _). v.tells x.volume ≡ true → AreListedIn (contents (v.holds x.volume)) path seen.names.items)
    (sym c.self.view_is) c.requires.names in
    rw (sym c.self.view_is)
    (second-held v.tells v.holds v.faults k c.self.invariant name path seen.names.items seen.picked ours path_is
    (λ told. (are told).are_names) c.requires.picked c.read_expiry.result
    (asks_expiry seen.outline c.args.change.now ≡ true) c.read_expiry.ensures.expiry)

pub returns-clause-damaged : goal.returns-clause-damaged
returns-clause-damaged g c =
    let v = g.V.Volume in let i = c.self.inside in
    let k : Kept _ =
    record { volume = i.volume; began = i.opening.value; secrets = i.secrets; power = i.power; journal = i.journal } in
    let name = c.args.name.now in let path = c.args.dir.now in let seen = c.args.seen.now in
    let ours : IsOurs k.secrets k.power name =
    subst (λ (x : Kept _). IsOurs x.secrets x.power name) (sym c.self.view_is) c.requires.ours in
    let path_is : path ≡ dir_text k.power name.hash =
    subst (λ (x : Kept _). path ≡ dir_text x.power name.hash) (sym c.self.view_is) c.requires.dir in
    let are : v.tells k.volume ≡ true → AreListedIn (contents (v.holds k.volume)) path seen.names.items =
    subst (λ (x : Kept _). v.tells x.volume ≡ true → AreListedIn (contents (v.holds x.volume)) path seen.names.items)
    (sym c.self.view_is) c.requires.names in
    rw (sym c.self.view_is)
    (damaged-untold v.tells v.holds v.faults k c.self.invariant name path seen.names.items seen.picked ours path_is
    (λ told. (are told).are_names) c.requires.picked c.read_expiry.result c.read_expiry.ensures.disorder)

pub returns-clause-read : goal.returns-clause-read
returns-clause-read g c =
    let v = g.V.Volume in let i = c.self.inside in
    let k : Kept _ =
    record { volume = i.volume; began = i.opening.value; secrets = i.secrets; power = i.power; journal = i.journal } in
    let seen = c.args.seen.now in
    rw (sym c.self.view_is)
    (second-asked v.tells v.holds v.faults c.read_expiry.result (v.tells k.volume ≡ true) (asks_expiry seen.outline c.args.change.now ≡ true)
    (IsSecondRead k.secrets c.args.name.now.hash (v.holds k.volume) c.args.dir.now seen.picked) c.read_expiry.ensures.second)

pub returns-clause-damage : goal.returns-clause-damage
returns-clause-damage g c = rw (sym c.self.view_is) c.read_expiry.ensures.damaged

pub returns-clause-said : goal.returns-clause-said
returns-clause-said g c = c.read_expiry.ensures.said
