use Rattle.std.proofs.Common.{refl, sym, ◌∙◌, ap, Err}
use Rattle.sw_container_steps.specs.Reads.{sharding_of}
use Rattle.sw_peer.proofs.ContCalls.{look-step}
use Rattle.sw_peer.specs.declared.cont_event.ContEvent.TheVariants.{Sharded}
use Rattle.sw_lossy.proofs.Losses.{becomes, nodes-after}
use Rattle.sw_lossy.specs.declared.acts.Fate.TheVariants.{Goes, IsLost, LosesReply, ComesTwice}
use Rattle.sw_lossy.proofs.lossy.containers.LossyContainerDoor.sharding.Goals as goal

pub returns-in-Goes-clause-read : goal.returns-in-Goes-clause-read
returns-in-Goes-clause-read g c =
    let now = c.args.self.now in
    becomes g.D.Door.sight g.met.D.FaithfulDoor.carries (look-step c.args.link c.args.device c.args.place.now sharding_of
    (λ got. Sharded c.args.place.now got)) now.acts now.messages
    c.args.link Goes now.door c.next.new.self.door c.sharding.new.self c.sharding.result c.next.new.self.acts c.next.new.self.messages
    now.faults c.next.new.self.faults
    now.asks c.next.new.self.asks
    c.next.ensures.door (sym c.next.ensures.fate ∙ c.in-Goes.is) c.next.ensures.acts c.next.ensures.messages c.next.ensures.faults c.next.ensures.later
    c.next.ensures.risen
    c.sharding.ensures.read

pub returns-in-IsLost-clause-read : goal.returns-in-IsLost-clause-read
returns-in-IsLost-clause-read g c =
    let now = c.args.self.now in
    becomes g.D.Door.sight g.met.D.FaithfulDoor.carries (look-step c.args.link c.args.device c.args.place.now sharding_of
    (λ got. Sharded c.args.place.now got)) now.acts now.messages
    c.args.link IsLost now.door c.next.new.self.door c.next.new.self.door (Err (record {})) c.next.new.self.acts c.next.new.self.messages now.faults
    c.next.new.self.faults now.asks c.next.new.self.asks
    c.next.ensures.door (sym c.next.ensures.fate ∙ c.in-IsLost.is) c.next.ensures.acts c.next.ensures.messages c.next.ensures.faults c.next.ensures.later
    c.next.ensures.risen
    (refl, refl)

pub returns-in-LosesReply-clause-read : goal.returns-in-LosesReply-clause-read
returns-in-LosesReply-clause-read g c =
    let now = c.args.self.now in
    becomes g.D.Door.sight g.met.D.FaithfulDoor.carries (look-step c.args.link c.args.device c.args.place.now sharding_of
    (λ got. Sharded c.args.place.now got)) now.acts now.messages
    c.args.link LosesReply now.door c.next.new.self.door c.sharding-in-LosesReply.new.self (Err (record {})) c.next.new.self.acts c.next.new.self.messages
    now.faults c.next.new.self.faults now.asks c.next.new.self.asks
    c.next.ensures.door (sym c.next.ensures.fate ∙ c.in-LosesReply.is) c.next.ensures.acts c.next.ensures.messages c.next.ensures.faults c.next.ensures.later
    c.next.ensures.risen
    ((c.sharding-in-LosesReply.result, c.sharding-in-LosesReply.ensures.read), refl)

pub sharding-requires-in-ComesTwice-2-clause-device : goal.sharding-requires-in-ComesTwice-2-clause-device
sharding-requires-in-ComesTwice-2-clause-device g c =
    let s = g.D.Door.sight in
    rw (nodes-after (look-step c.args.link c.args.device c.args.place.now sharding_of (λ got. Sharded c.args.place.now got))
    (λ a b p. p.nodes)
    (s c.args.self.now.door) (s c.next.new.self.door) (s c.sharding-in-ComesTwice.new.self) c.args.link c.sharding-in-ComesTwice.result
    (ap s c.next.ensures.door)
    c.sharding-in-ComesTwice.ensures.read)
    c.requires.device

pub sharding-requires-in-ComesTwice-2-clause-fits : goal.sharding-requires-in-ComesTwice-2-clause-fits
sharding-requires-in-ComesTwice-2-clause-fits g c =
    let s = g.D.Door.sight in
    rw (nodes-after (look-step c.args.link c.args.device c.args.place.now sharding_of (λ got. Sharded c.args.place.now got))
    (λ a b p. p.nodes)
    (s c.args.self.now.door) (s c.next.new.self.door) (s c.sharding-in-ComesTwice.new.self) c.args.link c.sharding-in-ComesTwice.result
    (ap s c.next.ensures.door)
    c.sharding-in-ComesTwice.ensures.read)
    c.requires.fits

pub returns-in-ComesTwice-clause-read : goal.returns-in-ComesTwice-clause-read
returns-in-ComesTwice-clause-read g c =
    let now = c.args.self.now in
    becomes g.D.Door.sight g.met.D.FaithfulDoor.carries (look-step c.args.link c.args.device c.args.place.now sharding_of
    (λ got. Sharded c.args.place.now got)) now.acts now.messages
    c.args.link ComesTwice now.door c.next.new.self.door c.sharding-in-ComesTwice-2.new.self c.sharding-in-ComesTwice-2.result c.next.new.self.acts
    c.next.new.self.messages now.faults c.next.new.self.faults now.asks c.next.new.self.asks
    c.next.ensures.door (sym c.next.ensures.fate ∙ c.in-ComesTwice.is) c.next.ensures.acts c.next.ensures.messages c.next.ensures.faults c.next.ensures.later
    c.next.ensures.risen (
      c.sharding-in-ComesTwice.new.self,
      (c.sharding-in-ComesTwice.result, c.sharding-in-ComesTwice.ensures.read),
      c.sharding-in-ComesTwice-2.ensures.read,
    )
