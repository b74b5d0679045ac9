use Rattle.std.proofs.Common.{◌≤◌, ℕ, List, subst, sym, ◌∙◌, refl}
use Rattle.sw_volume.specs.Tree.{contents}
use Rattle.sw_volume.specs.Volume.{IsFileIn, ListsAll}
use Rattle.sw_cleanup.proofs.Listed.{listed_in}
use Rattle.sw_cleanup.specs.Cleaning.{AreListedIn}
use Rattle.sw_diskfile.specs.Picking.{IsPicked}
use Rattle.sw_diskfile.specs.declared.file_name.FileName.{FileName}
use Rattle.sw_object_steps.specs.declared.outline.Outline.{Outline}
use Rattle.std.specs.List.{All}
use Rattle.sw_hashdir.proofs.Lines.{named-times}
use Rattle.sw_hashdir.proofs.Putting.{outline-in}
use Rattle.sw_hashdir.specs.Steps.{IsOutlineIn}
use Rattle.sw_hashdir.proofs.listing.look.Goals as goal

pub returns-clause-names : goal.returns-clause-names
returns-clause-names g c = λ told. subst (λ (ns : List FileName). AreListedIn (contents (g.V.Volume.holds c.args.volume.now)) c.args.dir.now ns)
    (sym c.in_ok-names.ensures ∙ refl)
    (listed_in (contents (g.V.Volume.holds c.args.volume.now)) c.args.dir.now c.as_slice.result.now
    (subst (λ (ts : List (List ℕ)). ListsAll ts (IsFileIn (contents (g.V.Volume.holds c.args.volume.now)) c.args.dir.now)) (sym c.as_slice.ensures)
    (c.in_ok-listing.ensures.files told)))

pub returns-clause-times : goal.returns-clause-times
returns-clause-times g c =
    subst (λ (ns : List FileName). All (λ file. file.time ≤ 999999999999999) ns) (sym c.in_ok-names.ensures) (named-times c.as_slice.result.now)

pub returns-clause-outline : goal.returns-clause-outline
returns-clause-outline g c = λ told.
    let v = g.V.Volume in
    subst (λ (o : Outline). IsOutlineIn (v.holds c.args.volume.now) c.args.dir.now o) (sym c.of_files-outline.ensures)
    (outline-in (v.holds c.args.volume.now) c.args.dir.now c.in_ok-names.names.items c.pick-picked.result ((returns-clause-names g c told).are_names)
    (subst (λ (fs : List FileName). IsPicked fs c.pick-picked.result) c.deref.ensures.value c.pick-picked.ensures))
