use Rattle.std.proofs.Common.{refl, sym, ◌∙◌, ap, Err}
use Rattle.sw_peer.proofs.Calls.{hashes-step}
use Rattle.sw_lossy.proofs.Losses.{becomes, nodes-after}
use Rattle.sw_lossy.specs.declared.acts.Fate.TheVariants.{Goes, IsLost, LosesReply, ComesTwice}
use Rattle.sw_lossy.proofs.lossy.LossyReplicaDoor.hashes.Goals as goal

pub returns-in-Goes-clause-read : goal.returns-in-Goes-clause-read
returns-in-Goes-clause-read g c =
    let now = c.args.self.now in
    becomes g.D.Door.sight g.met.D.FaithfulDoor.carries (hashes-step c.args.link c.args.device c.args.part) now.acts now.messages
    c.args.link Goes now.door c.next_asking.new.self.door c.hashes.new.self c.hashes.result c.next_asking.new.self.acts c.next_asking.new.self.messages
    now.faults c.next_asking.new.self.faults now.asks c.next_asking.new.self.asks
    c.next_asking.ensures.door (sym c.next_asking.ensures.fate ∙ c.in-Goes.is) c.next_asking.ensures.acts c.next_asking.ensures.messages
    c.next_asking.ensures.faults c.next_asking.ensures.later c.next_asking.ensures.risen
    c.hashes.ensures.read

pub returns-in-IsLost-clause-read : goal.returns-in-IsLost-clause-read
returns-in-IsLost-clause-read g c =
    let now = c.args.self.now in
    becomes g.D.Door.sight g.met.D.FaithfulDoor.carries (hashes-step c.args.link c.args.device c.args.part) now.acts now.messages
    c.args.link IsLost now.door c.next_asking.new.self.door c.next_asking.new.self.door (Err (record {})) c.next_asking.new.self.acts
    c.next_asking.new.self.messages now.faults c.next_asking.new.self.faults now.asks c.next_asking.new.self.asks
    c.next_asking.ensures.door (sym c.next_asking.ensures.fate ∙ c.in-IsLost.is) c.next_asking.ensures.acts c.next_asking.ensures.messages
    c.next_asking.ensures.faults c.next_asking.ensures.later c.next_asking.ensures.risen
    (refl, refl)

pub returns-in-LosesReply-clause-read : goal.returns-in-LosesReply-clause-read
returns-in-LosesReply-clause-read g c =
    let now = c.args.self.now in
    becomes g.D.Door.sight g.met.D.FaithfulDoor.carries (hashes-step c.args.link c.args.device c.args.part) now.acts now.messages
    c.args.link LosesReply now.door c.next_asking.new.self.door c.hashes-in-LosesReply.new.self (Err (record {})) c.next_asking.new.self.acts
    c.next_asking.new.self.messages now.faults c.next_asking.new.self.faults now.asks c.next_asking.new.self.asks
    c.next_asking.ensures.door (sym c.next_asking.ensures.fate ∙ c.in-LosesReply.is) c.next_asking.ensures.acts c.next_asking.ensures.messages
    c.next_asking.ensures.faults c.next_asking.ensures.later c.next_asking.ensures.risen
    ((c.hashes-in-LosesReply.result, c.hashes-in-LosesReply.ensures.read), refl)

pub hashes-requires-in-ComesTwice-2-clause-device : goal.hashes-requires-in-ComesTwice-2-clause-device
hashes-requires-in-ComesTwice-2-clause-device g c =
    let s = g.D.Door.sight in
    rw (nodes-after (hashes-step c.args.link c.args.device c.args.part) (λ a b p. p.nodes)
    (s c.args.self.now.door) (s c.next_asking.new.self.door) (s c.hashes-in-ComesTwice.new.self) c.args.link c.hashes-in-ComesTwice.result
    (ap s c.next_asking.ensures.door)
    c.hashes-in-ComesTwice.ensures.read)
    c.requires.device

pub hashes-requires-in-ComesTwice-2-clause-part : goal.hashes-requires-in-ComesTwice-2-clause-part
hashes-requires-in-ComesTwice-2-clause-part g c =
    let s = g.D.Door.sight in
    rw (nodes-after (hashes-step c.args.link c.args.device c.args.part) (λ a b p. p.nodes)
    (s c.args.self.now.door) (s c.next_asking.new.self.door) (s c.hashes-in-ComesTwice.new.self) c.args.link c.hashes-in-ComesTwice.result
    (ap s c.next_asking.ensures.door)
    c.hashes-in-ComesTwice.ensures.read)
    c.requires.part

pub returns-in-ComesTwice-clause-read : goal.returns-in-ComesTwice-clause-read
returns-in-ComesTwice-clause-read g c =
    let now = c.args.self.now in
    becomes g.D.Door.sight g.met.D.FaithfulDoor.carries (hashes-step c.args.link c.args.device c.args.part) now.acts now.messages
    c.args.link ComesTwice now.door c.next_asking.new.self.door c.hashes-in-ComesTwice-2.new.self c.hashes-in-ComesTwice-2.result c.next_asking.new.self.acts
    c.next_asking.new.self.messages now.faults c.next_asking.new.self.faults now.asks c.next_asking.new.self.asks
    c.next_asking.ensures.door (sym c.next_asking.ensures.fate ∙ c.in-ComesTwice.is) c.next_asking.ensures.acts c.next_asking.ensures.messages
    c.next_asking.ensures.faults c.next_asking.ensures.later c.next_asking.ensures.risen (
      c.hashes-in-ComesTwice.new.self,
      (c.hashes-in-ComesTwice.result, c.hashes-in-ComesTwice.ensures.read),
      c.hashes-in-ComesTwice-2.ensures.read,
    )
