-- No call changes what the nodes are.
use Rattle.std.proofs.Common.{◌≡◌, ◌<◌, true, subst, sym}
use Rattle.sw_nodes_tests.proofs.filings.Nodes.step.Goals as goal
use Rattle.sw_peer.proofs.Calls.{BaseFrame, StripeFrame, base-step, calls-moves, made-step, records-step}
use Rattle.sw_peer.specs.Sights.{IsAt, IsBaseRead, IsMade, IsRecordsRead, Moves, Nodes}

pub invariant_of-self : goal.invariant_of-self
invariant_of-self g c =
    let s = g.D.Door.sight in
    let link = c.args.link in
    let old = c.args.self.now in
    let same = (calls-moves (StripeFrame 0 0)
    (IsRecordsRead link 0 0)
    (records-step link 0 0)
    (s old.door) link c.records.result (s c.records.new.self) c.records.ensures.read).nodes in
    record {
      first = subst (λ (n : Nodes). 0 < n.devices) (sym same) old.first;
      halves = subst (λ (n : Nodes). n.lock_bits ≡ 1) (sym same) old.halves;
      ours = subst (λ (n : Nodes). n.fits old.filed.name ≡ true) (sym same) old.ours;
    }

pub invariant_of-self-in-OtherRecords : goal.invariant_of-self-in-OtherRecords
invariant_of-self-in-OtherRecords g c =
    let s = g.D.Door.sight in
    let link = c.args.link in
    let old = c.args.self.now in
    let same = (calls-moves (StripeFrame 0 1)
    (IsRecordsRead link 0 1)
    (records-step link 0 1)
    (s old.door) link c.records-in-OtherRecords.result (s c.records-in-OtherRecords.new.self) c.records-in-OtherRecords.ensures.read).nodes in
    record {
      first = subst (λ (n : Nodes). 0 < n.devices) (sym same) old.first;
      halves = subst (λ (n : Nodes). n.lock_bits ≡ 1) (sym same) old.halves;
      ours = subst (λ (n : Nodes). n.fits old.filed.name ≡ true) (sym same) old.ours;
    }

pub invariant_of-self-in-Base : goal.invariant_of-self-in-Base
invariant_of-self-in-Base g c =
    let s = g.D.Door.sight in
    let link = c.args.link in
    let old = c.args.self.now in
    let same = (calls-moves (BaseFrame 0 old.filed)
    (IsBaseRead link 0 old.filed)
    (base-step link 0 old.filed)
    (s old.door) link c.base_for.result (s c.base_for.new.self) c.base_for.ensures.read).nodes in
    record {
      first = subst (λ (n : Nodes). 0 < n.devices) (sym same) old.first;
      halves = subst (λ (n : Nodes). n.lock_bits ≡ 1) (sym same) old.halves;
      ours = subst (λ (n : Nodes). n.fits old.filed.name ≡ true) (sym same) old.ours;
    }

pub invariant_of-self-in-Change-2 : goal.invariant_of-self-in-Change-2
invariant_of-self-in-Change-2 g c =
    let s = g.D.Door.sight in
    let link = c.args.link in
    let old = c.args.self.now in
    let same = (calls-moves (Moves (IsAt 0 old.filed.name.hash))
    (IsMade link 0 old.filed.name c.in_ok-change-in-Change.change)
    (made-step link 0 old.filed.name c.in_ok-change-in-Change.change)
    (s old.door) link c.change-answer.result (s c.change-answer.new.self) c.change-answer.ensures.made).nodes in
    record {
      first = subst (λ (n : Nodes). 0 < n.devices) (sym same) old.first;
      halves = subst (λ (n : Nodes). n.lock_bits ≡ 1) (sym same) old.halves;
      ours = subst (λ (n : Nodes). n.fits old.filed.name ≡ true) (sym same) old.ours;
    }
