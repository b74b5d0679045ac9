use Rattle.sw_peer.proofs.Heard.{heard, local-heard}
use Rattle.sw_pass.proofs.Counts.{hinders-of}
use Rattle.sw_pass.specs.Turns.{InTurn}
use Rattle.std.proofs.Common.{◌<◌, ◌^◌, ◌∙◌, refl, sym, ap, subst, map, List, Ok, Err}
use Rattle.std.specs.List.{All}
use Rattle.std.specs.Cmp.Lexicographic.{slice_cmp}
use Rattle.std.specs.List.Sorted.{IsStrictlySortedBy}
use Rattle.std.specs.Ordering.{nat_cmp}
use Rattle.std.specs.Result.{is_ok}
use Rattle.sw_pass.specs.Outcomes.{Hinders, asking, fault_hindrance, losing}
use Rattle.sw_pass.specs.declared.outcome.Outcome.{Outcome}
use Rattle.sw_object_steps.specs.Parts.{IsOfPart}
use Rattle.sw_peer.specs.Sights.{IsFilesRead, Nodes}
use Rattle.sw_peer.specs.declared.link.Link.TheVariants.{Local, Sent}
use Rattle.sw_replicator.proofs.Reading.{files-move, files-told, lines-within}
use Rattle.sw_replicator.specs.Pushing.{IsLinePushed}
use Rattle.sw_replicator.specs.Routes.{Leads}
use Rattle.sw_suffix.specs.declared.dir_line.DirLine.{DirLine}
use Rattle.sw_replicator.proofs.pushing.push_suffix.Goals as goal

-- the receiver didn't tell its files

pub returns-in-Ok-Err-clause-pushes : goal.returns-in-Ok-Err-clause-pushes
returns-in-Ok-Err-clause-pushes g c =
    let s = g.D.Door.sight in (
      Ok (Err c.in-Ok-Err.fault),
      s c.files_of.new.self,
      heard (IsFilesRead Sent c.args.route.to c.args.route.part c.args.one.now.suffix) (s c.args.door.now) Sent c.files_of.result (Ok (Err c.in-Ok-Err.fault))
          (s c.files_of.new.self) (cc) c.files_of.ensures.read,
      (
        refl,
        subst (λ (o : Outcome). Hinders (fault_hindrance c.in-Ok-Err.fault) o c.hinder.new.outcome (is_ok c.hinder.result)) c.count_asked.ensures
            (hinders-of c.of_fault.result (fault_hindrance c.in-Ok-Err.fault) c.count_asked.new.self c.hinder.new.outcome
            (is_ok c.hinder.result) c.of_fault.ensures c.hinder.ensures.counts),
      ),
    )

pub returns-in-Err-clause-pushes : goal.returns-in-Err-clause-pushes
returns-in-Err-clause-pushes g c =
    let s = g.D.Door.sight in (
      Err c.in-Err.field-0,
      s c.files_of.new.self,
      heard (IsFilesRead Sent c.args.route.to c.args.route.part c.args.one.now.suffix) (s c.args.door.now) Sent c.files_of.result (Err c.in-Err.field-0)
          (s c.files_of.new.self) c.in-Err.is c.files_of.ensures.read,
      (refl, c.lose.ensures ∙ ap losing c.count_asked.ensures, refl),
    )

-- the sender's are read

pub files_of-read-requires-clause-device : goal.files_of-read-requires-clause-device
files_of-read-requires-clause-device g c =
    let s = g.D.Door.sight in
    let moves = files-move Sent c.args.route.to c.args.route.part c.args.one.now.suffix (s c.args.door.now) c.files_of.result
    (s c.files_of.new.self) c.files_of.ensures.read in
    subst (λ (n : Nodes). c.args.route.from < n.devices) (sym moves.nodes) c.requires.leads.from

pub files_of-read-requires-clause-part : goal.files_of-read-requires-clause-part
files_of-read-requires-clause-part g c =
    let s = g.D.Door.sight in
    let moves = files-move Sent c.args.route.to c.args.route.part c.args.one.now.suffix (s c.args.door.now) c.files_of.result
    (s c.files_of.new.self) c.files_of.ensures.read in
    subst (λ (n : Nodes). c.args.route.part < 2 ^ n.power) (sym moves.nodes) c.requires.leads.part

pub unwrap-requires : goal.unwrap-requires
unwrap-requires g c =
    let s = g.D.Door.sight in
    local-heard (IsFilesRead Local c.args.route.from c.args.route.part c.args.one.now.suffix) (s c.files_of.new.self) c.files_of-read.result
    (s c.files_of-read.new.self) c.files_of-read.ensures.read

pub returns-in-Err-unwrap-clause-pushes : goal.returns-in-Err-unwrap-clause-pushes
returns-in-Err-unwrap-clause-pushes g c =
    let s = g.D.Door.sight in (
      Ok (Ok c.in-Ok-Ok.theirs),
      s c.files_of.new.self,
      heard (IsFilesRead Sent c.args.route.to c.args.route.part c.args.one.now.suffix) (s c.args.door.now) Sent c.files_of.result (Ok (Ok c.in-Ok-Ok.theirs))
          (s c.files_of.new.self) (cc) c.files_of.ensures.read,
      (
        Err c.in-Err-unwrap.fault,
        s c.files_of-read.new.self,
        heard (IsFilesRead Local c.args.route.from c.args.route.part c.args.one.now.suffix) (s c.files_of.new.self) Local c.files_of-read.result
            (Ok (Err c.in-Err-unwrap.fault)) (s c.files_of-read.new.self) (cc) c.files_of-read.ensures.read,
        (
          refl,
          subst (λ (o : Outcome). Hinders (fault_hindrance c.in-Err-unwrap.fault) o c.hinder-in-Err-unwrap.new.outcome (is_ok c.hinder-in-Err-unwrap.result))
              c.count_asked.ensures
              (hinders-of c.of_fault-in-Err-unwrap.result (fault_hindrance c.in-Err-unwrap.fault) c.count_asked.new.self c.hinder-in-Err-unwrap.new.outcome
              (is_ok c.hinder-in-Err-unwrap.result) c.of_fault-in-Err-unwrap.ensures c.hinder-in-Err-unwrap.ensures.counts),
        ),
      ),
    )

pub push_lines-requires-clause-leads : goal.push_lines-requires-clause-leads
push_lines-requires-clause-leads g c =
    let s = g.D.Door.sight in
    let asked = files-move Sent c.args.route.to c.args.route.part c.args.one.now.suffix (s c.args.door.now) c.files_of.result
    (s c.files_of.new.self) c.files_of.ensures.read in
    let read = files-move Local c.args.route.from c.args.route.part c.args.one.now.suffix (s c.files_of.new.self) c.files_of-read.result
    (s c.files_of-read.new.self) c.files_of-read.ensures.read in
    subst (λ (n : Nodes). Leads n c.args.route) (sym (read.nodes ∙ asked.nodes)) c.requires.leads

pub push_lines-requires-clause-within : goal.push_lines-requires-clause-within
push_lines-requires-clause-within g c =
    let s = g.D.Door.sight in
    subst (λ (xs : List DirLine). All (λ line. IsOfPart (s c.files_of-read.new.self).nodes.power c.args.route.part line.hash) xs) (sym c.deref-2.ensures.value)
    (lines-within Local c.args.route.from c.args.route.part c.args.one.now.suffix (s c.files_of.new.self) c.in-Ok.ours (s c.files_of-read.new.self)
    (heard (IsFilesRead Local c.args.route.from c.args.route.part c.args.one.now.suffix) (s c.files_of.new.self) Local c.files_of-read.result
    (Ok (Ok c.in-Ok.ours)) (s c.files_of-read.new.self) (cc) c.files_of-read.ensures.read))

pub push_lines-requires-clause-ascending : goal.push_lines-requires-clause-ascending
push_lines-requires-clause-ascending g c =
    let s = g.D.Door.sight in
    let are = files-told Sent c.args.route.to c.args.route.part c.args.one.now.suffix (s c.args.door.now) c.in-Ok-Ok.theirs (s c.files_of.new.self)
    (heard (IsFilesRead Sent c.args.route.to c.args.route.part c.args.one.now.suffix) (s c.args.door.now) Sent c.files_of.result (Ok (Ok c.in-Ok-Ok.theirs))
    (s c.files_of.new.self) (cc) c.files_of.ensures.read) in
    subst (λ (xs : List DirLine). IsStrictlySortedBy (slice_cmp nat_cmp) (map (λ line. line.hash) xs)) (sym c.deref.ensures.value) are.are.ascending

pub returns-clause-pushes : goal.returns-clause-pushes
returns-clause-pushes g c =
    let s = g.D.Door.sight in
    let one = IsLinePushed c.args.route.from c.args.route.to c.args.route.part in
    let end = s c.push_lines.new.door in (
      Ok (Ok c.in-Ok-Ok.theirs),
      s c.files_of.new.self,
      heard (IsFilesRead Sent c.args.route.to c.args.route.part c.args.one.now.suffix) (s c.args.door.now) Sent c.files_of.result (Ok (Ok c.in-Ok-Ok.theirs))
          (s c.files_of.new.self) (cc) c.files_of.ensures.read,
      (
        Ok c.in-Ok.ours,
        s c.files_of-read.new.self,
        heard (IsFilesRead Local c.args.route.from c.args.route.part c.args.one.now.suffix) (s c.files_of.new.self) Local c.files_of-read.result
            (Ok (Ok c.in-Ok.ours)) (s c.files_of-read.new.self) (cc) c.files_of-read.ensures.read,
        subst (λ (xs : List DirLine). InTurn (one xs) c.in-Ok.ours.items (s c.files_of-read.new.self) (asking c.args.outcome.now) end c.push_lines.new.outcome
            (is_ok c.push_lines.result)) c.deref.ensures.value
            (subst (λ (xs : List DirLine). InTurn (one c.deref.result.now) xs (s c.files_of-read.new.self)
            (asking c.args.outcome.now) end c.push_lines.new.outcome (is_ok c.push_lines.result)) c.deref-2.ensures.value
            (subst (λ (o : Outcome). InTurn (one c.deref.result.now) c.deref-2.result.now (s c.files_of-read.new.self) o end c.push_lines.new.outcome
            (is_ok c.push_lines.result)) c.count_asked.ensures c.push_lines.ensures.pushes)),
      ),
    )
