use Rattle.std.proofs.Common.{refl, sym, ◌∙◌, ap, Err}
use Rattle.sw_peer.proofs.Calls.{write-step}
use Rattle.sw_lossy.proofs.Losses.{becomes, nodes-after}
use Rattle.sw_lossy.specs.declared.acts.Fate.TheVariants.{Goes, IsLost, LosesReply, ComesTwice}
use Rattle.sw_lossy.proofs.lossy.LossyReplicaDoor.read_write.Goals as goal

pub returns-in-Goes-clause-read : goal.returns-in-Goes-clause-read
returns-in-Goes-clause-read g c =
    let now = c.args.self.now in
    becomes g.D.Door.sight g.met.D.FaithfulDoor.carries (write-step c.args.link c.args.device c.args.part c.args.hash.now c.args.file.now) now.acts now.messages
    c.args.link Goes now.door c.next.new.self.door c.read_write.new.self c.read_write.result c.next.new.self.acts c.next.new.self.messages now.faults
    c.next.new.self.faults now.asks c.next.new.self.asks
    c.next.ensures.door (sym c.next.ensures.fate ∙ c.in-Goes.is) c.next.ensures.acts c.next.ensures.messages c.next.ensures.faults c.next.ensures.later
    c.next.ensures.risen
    c.read_write.ensures.read

pub returns-in-IsLost-clause-read : goal.returns-in-IsLost-clause-read
returns-in-IsLost-clause-read g c =
    let now = c.args.self.now in
    becomes g.D.Door.sight g.met.D.FaithfulDoor.carries (write-step c.args.link c.args.device c.args.part c.args.hash.now c.args.file.now) now.acts now.messages
    c.args.link IsLost now.door c.next.new.self.door c.next.new.self.door (Err (record {})) c.next.new.self.acts c.next.new.self.messages now.faults
    c.next.new.self.faults now.asks c.next.new.self.asks
    c.next.ensures.door (sym c.next.ensures.fate ∙ c.in-IsLost.is) c.next.ensures.acts c.next.ensures.messages c.next.ensures.faults c.next.ensures.later
    c.next.ensures.risen
    (refl, refl)

pub returns-in-LosesReply-clause-read : goal.returns-in-LosesReply-clause-read
returns-in-LosesReply-clause-read g c =
    let now = c.args.self.now in
    becomes g.D.Door.sight g.met.D.FaithfulDoor.carries (write-step c.args.link c.args.device c.args.part c.args.hash.now c.args.file.now) now.acts now.messages
    c.args.link LosesReply now.door c.next.new.self.door c.read_write-in-LosesReply.new.self (Err (record {})) c.next.new.self.acts c.next.new.self.messages
    now.faults c.next.new.self.faults now.asks c.next.new.self.asks
    c.next.ensures.door (sym c.next.ensures.fate ∙ c.in-LosesReply.is) c.next.ensures.acts c.next.ensures.messages c.next.ensures.faults c.next.ensures.later
    c.next.ensures.risen
    ((c.read_write-in-LosesReply.result, c.read_write-in-LosesReply.ensures.read), refl)

pub read_write-requires-in-ComesTwice-2-clause-device : goal.read_write-requires-in-ComesTwice-2-clause-device
read_write-requires-in-ComesTwice-2-clause-device g c =
    let s = g.D.Door.sight in
    rw (nodes-after (write-step c.args.link c.args.device c.args.part c.args.hash.now c.args.file.now) (λ a b p. p.nodes)
    (s c.args.self.now.door) (s c.next.new.self.door) (s c.read_write-in-ComesTwice.new.self) c.args.link c.read_write-in-ComesTwice.result
    (ap s c.next.ensures.door)
    c.read_write-in-ComesTwice.ensures.read)
    c.requires.device

pub read_write-requires-in-ComesTwice-2-clause-part : goal.read_write-requires-in-ComesTwice-2-clause-part
read_write-requires-in-ComesTwice-2-clause-part g c =
    let s = g.D.Door.sight in
    rw (nodes-after (write-step c.args.link c.args.device c.args.part c.args.hash.now c.args.file.now) (λ a b p. p.nodes)
    (s c.args.self.now.door) (s c.next.new.self.door) (s c.read_write-in-ComesTwice.new.self) c.args.link c.read_write-in-ComesTwice.result
    (ap s c.next.ensures.door)
    c.read_write-in-ComesTwice.ensures.read)
    c.requires.part

pub read_write-requires-in-ComesTwice-2-clause-within : goal.read_write-requires-in-ComesTwice-2-clause-within
read_write-requires-in-ComesTwice-2-clause-within g c =
    let s = g.D.Door.sight in
    rw (nodes-after (write-step c.args.link c.args.device c.args.part c.args.hash.now c.args.file.now) (λ a b p. p.nodes)
    (s c.args.self.now.door) (s c.next.new.self.door) (s c.read_write-in-ComesTwice.new.self) c.args.link c.read_write-in-ComesTwice.result
    (ap s c.next.ensures.door)
    c.read_write-in-ComesTwice.ensures.read)
    c.requires.within

pub returns-in-ComesTwice-clause-read : goal.returns-in-ComesTwice-clause-read
returns-in-ComesTwice-clause-read g c =
    let now = c.args.self.now in
    becomes g.D.Door.sight g.met.D.FaithfulDoor.carries (write-step c.args.link c.args.device c.args.part c.args.hash.now c.args.file.now) now.acts now.messages
    c.args.link ComesTwice now.door c.next.new.self.door c.read_write-in-ComesTwice-2.new.self c.read_write-in-ComesTwice-2.result c.next.new.self.acts
    c.next.new.self.messages now.faults c.next.new.self.faults now.asks c.next.new.self.asks
    c.next.ensures.door (sym c.next.ensures.fate ∙ c.in-ComesTwice.is) c.next.ensures.acts c.next.ensures.messages c.next.ensures.faults c.next.ensures.later
    c.next.ensures.risen (
      c.read_write-in-ComesTwice.new.self,
      (c.read_write-in-ComesTwice.result, c.read_write-in-ComesTwice.ensures.read),
      c.read_write-in-ComesTwice-2.ensures.read,
    )
