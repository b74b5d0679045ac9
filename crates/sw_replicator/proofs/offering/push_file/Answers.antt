use Rattle.std.proofs.Common.{refl, sym, ◌∙◌, ap, subst, inr, Ok, Err, Some, None}
use Rattle.std.specs.Result.{is_ok}
use Rattle.sw_peer.proofs.Heard.{heard, local-heard}
use Rattle.sw_pass.proofs.Counts.{hinders-of}
use Rattle.sw_pass.specs.Outcomes.{fault_hindrance}
use Rattle.sw_peer.specs.Sights.{IsWriteRead, Nodes}
use Rattle.sw_peer.specs.declared.link.Link.TheVariants.{Local}
use Rattle.sw_replicator.proofs.Reading.{write-move, write-told}
use Rattle.sw_replicator.specs.Routes.{Leads}
use Rattle.sw_replicator.proofs.offering.push_file.Goals as goal

pub unwrap-requires : goal.unwrap-requires
unwrap-requires g c =
    let s = g.D.Door.sight in
    local-heard (IsWriteRead Local c.args.route.from c.args.route.part c.args.hash.now c.args.file.now) (s c.args.door.now) c.read_write-read.result
    (s c.read_write-read.new.self)
    c.read_write-read.ensures.read

pub transfer-requires-clause-leads : goal.transfer-requires-clause-leads
transfer-requires-clause-leads g c =
    let s = g.D.Door.sight in
    let moves = write-move c.args.route.from c.args.route.part c.args.hash.now c.args.file.now (s c.args.door.now) c.read_write-read.result
    (s c.read_write-read.new.self) c.read_write-read.ensures.read in
    subst (λ (n : Nodes). Leads n c.args.route) (sym moves.nodes) c.requires.leads

pub transfer-requires-clause-fits : goal.transfer-requires-clause-fits
transfer-requires-clause-fits g c =
    let s = g.D.Door.sight in
    let step = IsWriteRead Local c.args.route.from c.args.route.part c.args.hash.now c.args.file.now in
    let moves = write-move c.args.route.from c.args.route.part c.args.hash.now c.args.file.now (s c.args.door.now) c.read_write-read.result
    (s c.read_write-read.new.self) c.read_write-read.ensures.read in
    let is = write-told c.args.route.from c.args.route.part c.args.hash.now c.args.file.now (s c.args.door.now) (Some c.in-Ok-Some.stored)
    (s c.read_write-read.new.self)
    (heard step (s c.args.door.now) Local c.read_write-read.result (Ok (Ok (Some c.in-Ok-Some.stored))) (s c.read_write-read.new.self)
    (cc) c.read_write-read.ensures.read) c.requires.within in
    ap (λ (n : Nodes). n.fits c.in-Ok-Some.stored.name) moves.nodes ∙ is.fits_is

pub returns-in-Ok-Some-clause-pushes : goal.returns-in-Ok-Some-clause-pushes
returns-in-Ok-Some-clause-pushes g c =
    let s = g.D.Door.sight in
    let step = IsWriteRead Local c.args.route.from c.args.route.part c.args.hash.now c.args.file.now in
    inr (
      cc,
      (
        Ok (Some c.in-Ok-Some.stored),
        s c.read_write-read.new.self,
        heard step (s c.args.door.now) Local c.read_write-read.result (Ok (Ok (Some c.in-Ok-Some.stored))) (s c.read_write-read.new.self)
            (cc) c.read_write-read.ensures.read,
        c.transfer.ensures.pushes,
      ),
    )

pub returns-in-Ok-None-clause-pushes : goal.returns-in-Ok-None-clause-pushes
returns-in-Ok-None-clause-pushes g c =
    let s = g.D.Door.sight in
    let step = IsWriteRead Local c.args.route.from c.args.route.part c.args.hash.now c.args.file.now in
    inr (
      cc,
      (
        Ok None,
        s c.read_write-read.new.self,
        heard step (s c.args.door.now) Local c.read_write-read.result (Ok (Ok None)) (s c.read_write-read.new.self) (cc) c.read_write-read.ensures.read,
        (refl, c.hinder.ensures.counts.0, c.hinder.ensures.counts.1),
      ),
    )

pub returns-in-Err-clause-pushes : goal.returns-in-Err-clause-pushes
returns-in-Err-clause-pushes g c =
    let s = g.D.Door.sight in
    let step = IsWriteRead Local c.args.route.from c.args.route.part c.args.hash.now c.args.file.now in
    inr (
      cc,
      (
        Err c.in-Err.fault,
        s c.read_write-read.new.self,
        heard step (s c.args.door.now) Local c.read_write-read.result (Ok (Err c.in-Err.fault)) (s c.read_write-read.new.self)
            (cc) c.read_write-read.ensures.read,
        (
          refl,
          hinders-of c.of_fault.result (fault_hindrance c.in-Err.fault) c.args.outcome.now c.hinder-in-Err.new.outcome
              (is_ok c.hinder-in-Err.result) c.of_fault.ensures c.hinder-in-Err.ensures.counts,
        ),
      ),
    )
