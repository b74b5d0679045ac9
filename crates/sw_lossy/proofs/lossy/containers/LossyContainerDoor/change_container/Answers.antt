use Rattle.std.proofs.Common.{refl, sym, ◌∙◌, ap, Err}
use Rattle.sw_peer.proofs.ContCalls.{cont-made-step}
use Rattle.sw_lossy.proofs.Losses.{becomes, nodes-after}
use Rattle.sw_lossy.specs.declared.acts.Fate.TheVariants.{Goes, IsLost, LosesReply, ComesTwice}
use Rattle.sw_lossy.proofs.lossy.containers.LossyContainerDoor.change_container.Goals as goal

pub returns-in-Goes-clause-made : goal.returns-in-Goes-clause-made
returns-in-Goes-clause-made g c =
    let now = c.args.self.now in
    becomes g.D.Door.sight g.met.D.FaithfulDoor.carries (cont-made-step c.args.link c.args.device c.args.place.now c.args.change.now) now.acts now.messages
    c.args.link Goes now.door c.next.new.self.door c.change_container.new.self c.change_container.result c.next.new.self.acts c.next.new.self.messages
    now.faults c.next.new.self.faults now.asks c.next.new.self.asks
    c.next.ensures.door (sym c.next.ensures.fate ∙ c.in-Goes.is) c.next.ensures.acts c.next.ensures.messages c.next.ensures.faults c.next.ensures.later
    c.next.ensures.risen
    c.change_container.ensures.made

pub returns-in-IsLost-clause-made : goal.returns-in-IsLost-clause-made
returns-in-IsLost-clause-made g c =
    let now = c.args.self.now in
    becomes g.D.Door.sight g.met.D.FaithfulDoor.carries (cont-made-step c.args.link c.args.device c.args.place.now c.args.change.now) now.acts now.messages
    c.args.link IsLost now.door c.next.new.self.door c.next.new.self.door (Err (record {})) c.next.new.self.acts c.next.new.self.messages now.faults
    c.next.new.self.faults now.asks c.next.new.self.asks
    c.next.ensures.door (sym c.next.ensures.fate ∙ c.in-IsLost.is) c.next.ensures.acts c.next.ensures.messages c.next.ensures.faults c.next.ensures.later
    c.next.ensures.risen
    (refl, refl)

pub returns-in-LosesReply-clause-made : goal.returns-in-LosesReply-clause-made
returns-in-LosesReply-clause-made g c =
    let now = c.args.self.now in
    becomes g.D.Door.sight g.met.D.FaithfulDoor.carries (cont-made-step c.args.link c.args.device c.args.place.now c.args.change.now) now.acts now.messages
    c.args.link LosesReply now.door c.next.new.self.door c.change_container-in-LosesReply.new.self (Err (record {})) c.next.new.self.acts
    c.next.new.self.messages now.faults c.next.new.self.faults now.asks c.next.new.self.asks
    c.next.ensures.door (sym c.next.ensures.fate ∙ c.in-LosesReply.is) c.next.ensures.acts c.next.ensures.messages c.next.ensures.faults c.next.ensures.later
    c.next.ensures.risen
    ((c.change_container-in-LosesReply.result, c.change_container-in-LosesReply.ensures.made), refl)

pub change_container-requires-in-ComesTwice-2-clause-device : goal.change_container-requires-in-ComesTwice-2-clause-device
change_container-requires-in-ComesTwice-2-clause-device g c =
    let s = g.D.Door.sight in
    rw (nodes-after (cont-made-step c.args.link c.args.device c.args.place.now c.args.change.now) (λ a b p. p.nodes)
    (s c.args.self.now.door) (s c.next.new.self.door) (s c.change_container-in-ComesTwice.new.self) c.args.link c.change_container-in-ComesTwice.result
    (ap s c.next.ensures.door)
    c.change_container-in-ComesTwice.ensures.made)
    c.requires.device

pub change_container-requires-in-ComesTwice-2-clause-fits : goal.change_container-requires-in-ComesTwice-2-clause-fits
change_container-requires-in-ComesTwice-2-clause-fits g c =
    let s = g.D.Door.sight in
    rw (nodes-after (cont-made-step c.args.link c.args.device c.args.place.now c.args.change.now) (λ a b p. p.nodes)
    (s c.args.self.now.door) (s c.next.new.self.door) (s c.change_container-in-ComesTwice.new.self) c.args.link c.change_container-in-ComesTwice.result
    (ap s c.next.ensures.door)
    c.change_container-in-ComesTwice.ensures.made)
    c.requires.fits

pub returns-in-ComesTwice-clause-made : goal.returns-in-ComesTwice-clause-made
returns-in-ComesTwice-clause-made g c =
    let now = c.args.self.now in
    becomes g.D.Door.sight g.met.D.FaithfulDoor.carries (cont-made-step c.args.link c.args.device c.args.place.now c.args.change.now) now.acts now.messages
    c.args.link ComesTwice now.door c.next.new.self.door c.change_container-in-ComesTwice-2.new.self c.change_container-in-ComesTwice-2.result
    c.next.new.self.acts c.next.new.self.messages now.faults c.next.new.self.faults now.asks c.next.new.self.asks
    c.next.ensures.door (sym c.next.ensures.fate ∙ c.in-ComesTwice.is) c.next.ensures.acts c.next.ensures.messages c.next.ensures.faults c.next.ensures.later
    c.next.ensures.risen (
      c.change_container-in-ComesTwice.new.self,
      (c.change_container-in-ComesTwice.result, c.change_container-in-ComesTwice.ensures.made),
      c.change_container-in-ComesTwice-2.ensures.made,
    )
