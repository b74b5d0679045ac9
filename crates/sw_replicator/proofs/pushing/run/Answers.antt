use Rattle.sw_peer.proofs.Heard.{heard, local-heard}
use Rattle.sw_pass.proofs.Counts.{hinders-from}
use Rattle.sw_pass.specs.Turns.{InTurn}
use Rattle.std.proofs.Common.{◌≡◌, ◌<◌, ◌∙◌, inl, inr, refl, sym, ap, subst, map, List, Ok, Err}
use Rattle.std.specs.List.{All}
use Rattle.std.specs.List.Sorted.{IsStrictlySortedBy}
use Rattle.std.specs.Ordering.{nat_cmp}
use Rattle.std.specs.Result.{is_ok}
use Rattle.sw_outside.specs.Counts.{raised}
use Rattle.sw_pass.specs.Outcomes.{asking, fault_hindrance, losing, nothing_yet}
use Rattle.sw_pass.specs.declared.outcome.Outcome.{Outcome}
use Rattle.sw_peer.specs.Sights.{IsHashesRead, Nodes}
use Rattle.sw_peer.specs.declared.link.Link.TheVariants.{Local, Sent}
use Rattle.sw_replicator.proofs.Asking.{asks-each, asks-once}
use Rattle.sw_replicator.proofs.Keeping.{suffixes-keep}
use Rattle.sw_replicator.proofs.Reading.{hashes-move, hashes-told}
use Rattle.sw_replicator.specs.Pushing.{IsSuffixPushed, differing}
use Rattle.sw_replicator.specs.Routes.{Leads}
use Rattle.sw_suffix.specs.declared.told.SuffixHash.{SuffixHash}
use Rattle.sw_replicator.proofs.pushing.run.Goals as goal

pub unwrap-requires : goal.unwrap-requires
unwrap-requires g c =
    let s = g.D.Door.sight in
    local-heard (IsHashesRead Local c.args.route.from c.args.route.part) (s c.args.door.now) c.hashes-read.result
    (s c.hashes-read.new.self) c.hashes-read.ensures.read

pub returns-in-Err-clause-pushes : goal.returns-in-Err-clause-pushes
returns-in-Err-clause-pushes g c =
    let s = g.D.Door.sight in (
      Err c.in-Err.fault,
      s c.hashes-read.new.self,
      heard (IsHashesRead Local c.args.route.from c.args.route.part) (s c.args.door.now) Local c.hashes-read.result (Ok (Err c.in-Err.fault))
          (s c.hashes-read.new.self) (cc) c.hashes-read.ensures.read,
      (
        refl,
        hinders-from c.of_fault.result (fault_hindrance c.in-Err.fault) c.args.outcome.now nothing_yet c.hinder.new.outcome
            (is_ok c.hinder.result) c.of_fault.ensures c.requires.fresh c.hinder.ensures.counts,
      ),
    )

pub returns-in-Err-clause-asks : goal.returns-in-Err-clause-asks
returns-in-Err-clause-asks g c =
    let s = g.D.Door.sight in
    asks-once c.hinder.result c.args.route.from c.args.route.to c.args.route.part (s c.args.door.now)
    (s c.hashes-read.new.self) c.of_fault.result c.args.outcome.now c.hinder.new.outcome c.hinder.ensures.counts
    (ap (λ (o : Outcome). o.left) c.requires.fresh) (inl (ap (λ (o : Outcome). o.asked) c.requires.fresh, c.hashes-read.ensures.asks))

pub returns-in-Ok-Err-clause-pushes : goal.returns-in-Ok-Err-clause-pushes
returns-in-Ok-Err-clause-pushes g c =
    let s = g.D.Door.sight in (
      Ok c.in-Ok.ours,
      s c.hashes-read.new.self,
      heard (IsHashesRead Local c.args.route.from c.args.route.part) (s c.args.door.now) Local c.hashes-read.result (Ok (Ok c.in-Ok.ours))
          (s c.hashes-read.new.self) (cc) c.hashes-read.ensures.read,
      (
        Ok (Err c.in-Ok-Err.fault),
        s c.hashes.new.self,
        heard (IsHashesRead Sent c.args.route.to c.args.route.part) (s c.hashes-read.new.self) Sent c.hashes.result (Ok (Err c.in-Ok-Err.fault))
            (s c.hashes.new.self) (cc) c.hashes.ensures.read,
        (
          refl,
          hinders-from c.of_fault-in-Ok-Err.result (fault_hindrance c.in-Ok-Err.fault) c.count_asked.new.self
              (asking nothing_yet) c.hinder-in-Ok-Err.new.outcome (is_ok c.hinder-in-Ok-Err.result) c.of_fault-in-Ok-Err.ensures
              (c.count_asked.ensures ∙ ap asking c.requires.fresh) c.hinder-in-Ok-Err.ensures.counts,
        ),
      ),
    )

pub returns-in-Ok-Err-clause-asks : goal.returns-in-Ok-Err-clause-asks
returns-in-Ok-Err-clause-asks g c =
    let s = g.D.Door.sight in
    let start : c.count_asked.new.self ≡ asking nothing_yet = c.count_asked.ensures ∙ ap asking c.requires.fresh in
    asks-once c.hinder-in-Ok-Err.result c.args.route.from c.args.route.to c.args.route.part (s c.args.door.now)
    (s c.hashes.new.self) c.of_fault-in-Ok-Err.result c.count_asked.new.self c.hinder-in-Ok-Err.new.outcome c.hinder-in-Ok-Err.ensures.counts
    (ap (λ (o : Outcome). o.left) start) (inr (ap (λ (o : Outcome). o.asked) start, c.hashes.ensures.asks ∙ ap raised c.hashes-read.ensures.asks))

pub returns-in-Err-hashes-clause-pushes : goal.returns-in-Err-hashes-clause-pushes
returns-in-Err-hashes-clause-pushes g c =
    let s = g.D.Door.sight in (
      Ok c.in-Ok.ours,
      s c.hashes-read.new.self,
      heard (IsHashesRead Local c.args.route.from c.args.route.part) (s c.args.door.now) Local c.hashes-read.result (Ok (Ok c.in-Ok.ours))
          (s c.hashes-read.new.self) (cc) c.hashes-read.ensures.read,
      (
        Err c.in-Err-hashes.field-0,
        s c.hashes.new.self,
        heard (IsHashesRead Sent c.args.route.to c.args.route.part) (s c.hashes-read.new.self) Sent c.hashes.result (Err c.in-Err-hashes.field-0)
            (s c.hashes.new.self) c.in-Err-hashes.is c.hashes.ensures.read,
        (refl, c.lose.ensures ∙ (ap losing c.count_asked.ensures ∙ ap (λ (o : Outcome). losing (asking o)) c.requires.fresh), refl),
      ),
    )

-- both were answered

pub push_suffixes-requires-clause-leads : goal.push_suffixes-requires-clause-leads
push_suffixes-requires-clause-leads g c =
    let s = g.D.Door.sight in
    let read = hashes-move Local c.args.route.from c.args.route.part (s c.args.door.now) c.hashes-read.result
    (s c.hashes-read.new.self) c.hashes-read.ensures.read in
    let asked = hashes-move Sent c.args.route.to c.args.route.part (s c.hashes-read.new.self) c.hashes.result (s c.hashes.new.self) c.hashes.ensures.read in
    subst (λ (n : Nodes). Leads n c.args.route) (sym (asked.nodes ∙ read.nodes)) c.requires.leads

pub push_suffixes-requires-clause-below : goal.push_suffixes-requires-clause-below
push_suffixes-requires-clause-below g c =
    let s = g.D.Door.sight in
    let are = hashes-told Local c.args.route.from c.args.route.part (s c.args.door.now) c.in-Ok.ours (s c.hashes-read.new.self)
    (heard (IsHashesRead Local c.args.route.from c.args.route.part) (s c.args.door.now) Local c.hashes-read.result (Ok (Ok c.in-Ok.ours))
    (s c.hashes-read.new.self) (cc) c.hashes-read.ensures.read) in
    subst (λ (xs : List SuffixHash). All (λ one. one.suffix < 4096) xs) (sym c.deref.ensures.value) are.below

pub push_suffixes-requires-clause-ascending : goal.push_suffixes-requires-clause-ascending
push_suffixes-requires-clause-ascending g c =
    let s = g.D.Door.sight in
    let are = hashes-told Sent c.args.route.to c.args.route.part (s c.hashes-read.new.self) c.in-Ok-Ok.theirs (s c.hashes.new.self)
    (heard (IsHashesRead Sent c.args.route.to c.args.route.part) (s c.hashes-read.new.self) Sent c.hashes.result (Ok (Ok c.in-Ok-Ok.theirs))
    (s c.hashes.new.self) (cc) c.hashes.ensures.read) in
    subst (λ (xs : List SuffixHash). IsStrictlySortedBy nat_cmp (map (λ one. one.suffix) xs)) (sym c.deref-2.ensures.value) are.ascending

pub returns-clause-pushes : goal.returns-clause-pushes
returns-clause-pushes g c =
    let s = g.D.Door.sight in
    let one = IsSuffixPushed c.args.route.from c.args.route.to c.args.route.part in
    let end = s c.push_suffixes.new.door in (
      Ok c.in-Ok.ours,
      s c.hashes-read.new.self,
      heard (IsHashesRead Local c.args.route.from c.args.route.part) (s c.args.door.now) Local c.hashes-read.result (Ok (Ok c.in-Ok.ours))
          (s c.hashes-read.new.self) (cc) c.hashes-read.ensures.read,
      (
        Ok (Ok c.in-Ok-Ok.theirs),
        s c.hashes.new.self,
        heard (IsHashesRead Sent c.args.route.to c.args.route.part) (s c.hashes-read.new.self) Sent c.hashes.result (Ok (Ok c.in-Ok-Ok.theirs))
            (s c.hashes.new.self) (cc) c.hashes.ensures.read,
        subst (λ (xs : List SuffixHash). InTurn one (differing c.in-Ok.ours.items xs) (s c.hashes.new.self) (asking nothing_yet) end
            c.push_suffixes.new.outcome (is_ok c.push_suffixes.result)) c.deref-2.ensures.value
            (subst (λ (xs : List SuffixHash). InTurn one (differing xs c.deref-2.result.now) (s c.hashes.new.self)
            (asking nothing_yet) end c.push_suffixes.new.outcome (is_ok c.push_suffixes.result)) c.deref.ensures.value
            (subst (λ (o : Outcome). InTurn one (differing c.deref.result.now c.deref-2.result.now) (s c.hashes.new.self) o end c.push_suffixes.new.outcome
            (is_ok c.push_suffixes.result)) (c.count_asked.ensures ∙ ap asking c.requires.fresh)
            c.push_suffixes.ensures.pushes)),
      ),
    )

pub returns-clause-asks : goal.returns-clause-asks
returns-clause-asks g c =
    let s = g.D.Door.sight in
    let keeps = suffixes-keep c.args.route.from c.args.route.to c.args.route.part (differing c.deref.result.now c.deref-2.result.now)
    (s c.hashes.new.self) c.count_asked.new.self (s c.push_suffixes.new.door) c.push_suffixes.new.outcome
    (is_ok c.push_suffixes.result) c.push_suffixes.ensures.pushes in
    asks-each c.push_suffixes.result c.args.route.from c.args.route.to c.args.route.part (s c.args.door.now) (s c.hashes-read.new.self) (s c.hashes.new.self)
    (s c.push_suffixes.new.door)
    c.in-Ok.ours c.in-Ok-Ok.theirs c.deref.result.now c.deref-2.result.now c.count_asked.new.self c.push_suffixes.new.outcome
    (heard (IsHashesRead Local c.args.route.from c.args.route.part) (s c.args.door.now) Local c.hashes-read.result (Ok (Ok c.in-Ok.ours))
    (s c.hashes-read.new.self) (cc) c.hashes-read.ensures.read)
    (heard (IsHashesRead Sent c.args.route.to c.args.route.part) (s c.hashes-read.new.self) Sent c.hashes.result (Ok (Ok c.in-Ok-Ok.theirs))
    (s c.hashes.new.self) (cc) c.hashes.ensures.read)
    keeps.moves c.deref.ensures.value c.deref-2.ensures.value (c.count_asked.ensures ∙ ap asking c.requires.fresh) c.hashes-read.ensures.asks
    c.hashes.ensures.asks
    c.push_suffixes.ensures.asks c.push_suffixes.ensures.asked
