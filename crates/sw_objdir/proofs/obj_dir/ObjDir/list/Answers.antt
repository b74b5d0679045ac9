use Rattle.std.proofs.Common.{◌≡◌, true, subst, sym}
use Rattle.sw_objdir.proofs.Listing.{dir-listed, looks-listed, none-listed}
use Rattle.sw_objdir.proofs.Looking.{dir-moved, looks-moved}
use Rattle.sw_objdir.specs.Directories.{Kept}
use Rattle.sw_hashdir.specs.Places.{dir_text, is_place}
use Rattle.sw_objdir.proofs.obj_dir.ObjDir.list.Goals as goal

pub invariant_of-self : goal.invariant_of-self
invariant_of-self g c =
    let v = g.V.Volume in let i = c.self.inside in
    let k : Kept _ = record { volume = i.volume; began = i.opening.value; secrets = i.secrets; power = i.power; journal = i.journal } in
    dir-moved v.tells v.holds v.faults k c.look.new.volume c.self.invariant c.look.ensures.told c.look.ensures.same

pub returns-in_err-seen-clause-looks : goal.returns-in_err-seen-clause-looks
returns-in_err-seen-clause-looks g c =
    let v = g.V.Volume in let i = c.self.inside in
    let k : Kept _ = record { volume = i.volume; began = i.opening.value; secrets = i.secrets; power = i.power; journal = i.journal } in
    rw (sym c.self.view_is) (looks-moved v.tells v.holds v.faults k c.look.new.volume c.look.ensures.told c.look.ensures.same c.look.ensures.cause.later)

pub invariant_of-self-2 : goal.invariant_of-self-2
invariant_of-self-2 g c =
    let v = g.V.Volume in let i = c.self.inside in
    let k : Kept _ = record { volume = i.volume; began = i.opening.value; secrets = i.secrets; power = i.power; journal = i.journal } in
    let place : is_place k.power c.args.hash.now ≡ true = subst (λ (x : Kept _). is_place x.power c.args.hash.now ≡ true)
    (sym c.self.view_is) c.requires.place in
    let path_is : c.args.dir.now ≡ dir_text k.power c.args.hash.now = subst (λ (x : Kept _). c.args.dir.now ≡ dir_text x.power c.args.hash.now)
    (sym c.self.view_is) c.requires.dir in
    dir-listed v.tells v.holds v.faults k c.self.invariant c.args.hash.now c.args.dir.now c.in_ok-seen.seen.outline place path_is c.in_ok-seen.ensures.outline
    c.look.new.volume c.look.ensures.told c.look.ensures.same c.look.ensures.cause.later c.settle.new.self c.settle.ensures

pub returns-clause-looks : goal.returns-clause-looks
returns-clause-looks g c =
    let v = g.V.Volume in let i = c.self.inside in
    let k : Kept _ = record { volume = i.volume; began = i.opening.value; secrets = i.secrets; power = i.power; journal = i.journal } in
    let place : is_place k.power c.args.hash.now ≡ true = subst (λ (x : Kept _). is_place x.power c.args.hash.now ≡ true)
    (sym c.self.view_is) c.requires.place in
    let path_is : c.args.dir.now ≡ dir_text k.power c.args.hash.now = subst (λ (x : Kept _). c.args.dir.now ≡ dir_text x.power c.args.hash.now)
    (sym c.self.view_is) c.requires.dir in
    rw (sym c.self.view_is)
    (looks-listed v.tells v.holds v.faults k c.self.invariant c.args.hash.now c.args.dir.now c.in_ok-seen.seen.outline place path_is
    c.in_ok-seen.ensures.outline
    c.look.new.volume c.look.ensures.told c.look.ensures.same c.look.ensures.cause.later c.settle.new.self c.settle.ensures)

pub returns-clause-settled : goal.returns-clause-settled
returns-clause-settled g c =
    let v = g.V.Volume in let i = c.self.inside in
    let k : Kept _ = record { volume = i.volume; began = i.opening.value; secrets = i.secrets; power = i.power; journal = i.journal } in
    let place : is_place k.power c.args.hash.now ≡ true = subst (λ (x : Kept _). is_place x.power c.args.hash.now ≡ true)
    (sym c.self.view_is) c.requires.place in
    let path_is : c.args.dir.now ≡ dir_text k.power c.args.hash.now = subst (λ (x : Kept _). c.args.dir.now ≡ dir_text x.power c.args.hash.now)
    (sym c.self.view_is) c.requires.dir in
    none-listed v.tells v.holds v.faults k c.self.invariant c.args.hash.now c.args.dir.now c.in_ok-seen.seen.outline place path_is c.in_ok-seen.ensures.outline
    c.look.new.volume c.look.ensures.told c.look.ensures.same c.look.ensures.cause.later c.settle.new.self c.settle.ensures

pub returns-in_err-seen-clause-dir : goal.returns-in_err-seen-clause-dir
returns-in_err-seen-clause-dir g c = invariant_of-self g c

pub returns-clause-dir : goal.returns-clause-dir
returns-clause-dir g c = invariant_of-self-2 g c

pub returns-clause-settles : goal.returns-clause-settles
returns-clause-settles g c = rw (sym c.self.view_is) c.settle.ensures
