use Rattle.std.proofs.Common.{refl, sym, ◌∙◌, ap, Err}
use Rattle.sw_peer.proofs.Calls.{records-step}
use Rattle.sw_lossy.proofs.Losses.{becomes, nodes-after}
use Rattle.sw_lossy.specs.declared.acts.Fate.TheVariants.{Goes, IsLost, LosesReply, ComesTwice}
use Rattle.sw_lossy.proofs.lossy.pending.LossyPendingDoor.records.Goals as goal

pub returns-in-Goes-clause-read : goal.returns-in-Goes-clause-read
returns-in-Goes-clause-read g c =
    let now = c.args.self.now in
    becomes g.D.Door.sight g.met.D.FaithfulDoor.carries (records-step c.args.link c.args.device c.args.stripe) now.acts now.messages
    c.args.link Goes now.door c.next.new.self.door c.records.new.self c.records.result c.next.new.self.acts c.next.new.self.messages now.faults
    c.next.new.self.faults now.asks c.next.new.self.asks
    c.next.ensures.door (sym c.next.ensures.fate ∙ c.in-Goes.is) c.next.ensures.acts c.next.ensures.messages c.next.ensures.faults c.next.ensures.later
    c.next.ensures.risen
    c.records.ensures.read

pub returns-in-IsLost-clause-read : goal.returns-in-IsLost-clause-read
returns-in-IsLost-clause-read g c =
    let now = c.args.self.now in
    becomes g.D.Door.sight g.met.D.FaithfulDoor.carries (records-step c.args.link c.args.device c.args.stripe) now.acts now.messages
    c.args.link IsLost now.door c.next.new.self.door c.next.new.self.door (Err (record {})) c.next.new.self.acts c.next.new.self.messages now.faults
    c.next.new.self.faults now.asks c.next.new.self.asks
    c.next.ensures.door (sym c.next.ensures.fate ∙ c.in-IsLost.is) c.next.ensures.acts c.next.ensures.messages c.next.ensures.faults c.next.ensures.later
    c.next.ensures.risen
    (refl, refl)

pub returns-in-LosesReply-clause-read : goal.returns-in-LosesReply-clause-read
returns-in-LosesReply-clause-read g c =
    let now = c.args.self.now in
    becomes g.D.Door.sight g.met.D.FaithfulDoor.carries (records-step c.args.link c.args.device c.args.stripe) now.acts now.messages
    c.args.link LosesReply now.door c.next.new.self.door c.records-in-LosesReply.new.self (Err (record {})) c.next.new.self.acts c.next.new.self.messages
    now.faults c.next.new.self.faults now.asks c.next.new.self.asks
    c.next.ensures.door (sym c.next.ensures.fate ∙ c.in-LosesReply.is) c.next.ensures.acts c.next.ensures.messages c.next.ensures.faults c.next.ensures.later
    c.next.ensures.risen
    ((c.records-in-LosesReply.result, c.records-in-LosesReply.ensures.read), refl)

pub records-requires-in-ComesTwice-2-clause-device : goal.records-requires-in-ComesTwice-2-clause-device
records-requires-in-ComesTwice-2-clause-device g c =
    let s = g.D.Door.sight in
    rw (nodes-after (records-step c.args.link c.args.device c.args.stripe) (λ a b p. p.nodes)
    (s c.args.self.now.door) (s c.next.new.self.door) (s c.records-in-ComesTwice.new.self) c.args.link c.records-in-ComesTwice.result
    (ap s c.next.ensures.door)
    c.records-in-ComesTwice.ensures.read)
    c.requires.device

pub records-requires-in-ComesTwice-2-clause-stripe : goal.records-requires-in-ComesTwice-2-clause-stripe
records-requires-in-ComesTwice-2-clause-stripe g c =
    let s = g.D.Door.sight in
    rw (nodes-after (records-step c.args.link c.args.device c.args.stripe) (λ a b p. p.nodes)
    (s c.args.self.now.door) (s c.next.new.self.door) (s c.records-in-ComesTwice.new.self) c.args.link c.records-in-ComesTwice.result
    (ap s c.next.ensures.door)
    c.records-in-ComesTwice.ensures.read)
    c.requires.stripe

pub returns-in-ComesTwice-clause-read : goal.returns-in-ComesTwice-clause-read
returns-in-ComesTwice-clause-read g c =
    let now = c.args.self.now in
    becomes g.D.Door.sight g.met.D.FaithfulDoor.carries (records-step c.args.link c.args.device c.args.stripe) now.acts now.messages
    c.args.link ComesTwice now.door c.next.new.self.door c.records-in-ComesTwice-2.new.self c.records-in-ComesTwice-2.result c.next.new.self.acts
    c.next.new.self.messages now.faults c.next.new.self.faults now.asks c.next.new.self.asks
    c.next.ensures.door (sym c.next.ensures.fate ∙ c.in-ComesTwice.is) c.next.ensures.acts c.next.ensures.messages c.next.ensures.faults c.next.ensures.later
    c.next.ensures.risen (
      c.records-in-ComesTwice.new.self,
      (c.records-in-ComesTwice.result, c.records-in-ComesTwice.ensures.read),
      c.records-in-ComesTwice-2.ensures.read,
    )
