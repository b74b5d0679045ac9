use Rattle.std.proofs.Common.{refl, sym, ◌∙◌, ap, Err}
use Rattle.sw_container_steps.specs.Reads.{range_parcel_of}
use Rattle.sw_peer.proofs.ContCalls.{look-step}
use Rattle.sw_peer.specs.declared.cont_event.ContEvent.TheVariants.{Cleft}
use Rattle.sw_lossy.proofs.Losses.{becomes, nodes-after}
use Rattle.sw_lossy.specs.declared.acts.Fate.TheVariants.{Goes, IsLost, LosesReply, ComesTwice}
use Rattle.sw_lossy.proofs.lossy.containers.LossyContainerDoor.rows_above.Goals as goal

pub returns-in-Goes-clause-read : goal.returns-in-Goes-clause-read
returns-in-Goes-clause-read g c =
    let now = c.args.self.now in
    becomes g.D.Door.sight g.met.D.FaithfulDoor.carries (look-step c.args.link c.args.device c.args.place.now (range_parcel_of c.args.range c.args.above)
    (λ got. Cleft c.args.place.now c.args.range c.args.above got)) now.acts now.messages
    c.args.link Goes now.door c.next.new.self.door c.rows_above.new.self c.rows_above.result c.next.new.self.acts c.next.new.self.messages
    now.faults c.next.new.self.faults
    now.asks c.next.new.self.asks
    c.next.ensures.door (sym c.next.ensures.fate ∙ c.in-Goes.is) c.next.ensures.acts c.next.ensures.messages c.next.ensures.faults c.next.ensures.later
    c.next.ensures.risen
    c.rows_above.ensures.read

pub returns-in-IsLost-clause-read : goal.returns-in-IsLost-clause-read
returns-in-IsLost-clause-read g c =
    let now = c.args.self.now in
    becomes g.D.Door.sight g.met.D.FaithfulDoor.carries (look-step c.args.link c.args.device c.args.place.now (range_parcel_of c.args.range c.args.above)
    (λ got. Cleft c.args.place.now c.args.range c.args.above got)) now.acts now.messages
    c.args.link IsLost now.door c.next.new.self.door c.next.new.self.door (Err (record {})) c.next.new.self.acts c.next.new.self.messages now.faults
    c.next.new.self.faults now.asks c.next.new.self.asks
    c.next.ensures.door (sym c.next.ensures.fate ∙ c.in-IsLost.is) c.next.ensures.acts c.next.ensures.messages c.next.ensures.faults c.next.ensures.later
    c.next.ensures.risen
    (refl, refl)

pub returns-in-LosesReply-clause-read : goal.returns-in-LosesReply-clause-read
returns-in-LosesReply-clause-read g c =
    let now = c.args.self.now in
    becomes g.D.Door.sight g.met.D.FaithfulDoor.carries (look-step c.args.link c.args.device c.args.place.now (range_parcel_of c.args.range c.args.above)
    (λ got. Cleft c.args.place.now c.args.range c.args.above got)) now.acts now.messages
    c.args.link LosesReply now.door c.next.new.self.door c.rows_above-in-LosesReply.new.self (Err (record {})) c.next.new.self.acts c.next.new.self.messages
    now.faults c.next.new.self.faults now.asks c.next.new.self.asks
    c.next.ensures.door (sym c.next.ensures.fate ∙ c.in-LosesReply.is) c.next.ensures.acts c.next.ensures.messages c.next.ensures.faults c.next.ensures.later
    c.next.ensures.risen
    ((c.rows_above-in-LosesReply.result, c.rows_above-in-LosesReply.ensures.read), refl)

pub rows_above-requires-in-ComesTwice-2-clause-device : goal.rows_above-requires-in-ComesTwice-2-clause-device
rows_above-requires-in-ComesTwice-2-clause-device g c =
    let s = g.D.Door.sight in
    rw (nodes-after (look-step c.args.link c.args.device c.args.place.now (range_parcel_of c.args.range c.args.above)
    (λ got. Cleft c.args.place.now c.args.range c.args.above got))
    (λ a b p. p.nodes)
    (s c.args.self.now.door) (s c.next.new.self.door) (s c.rows_above-in-ComesTwice.new.self) c.args.link c.rows_above-in-ComesTwice.result
    (ap s c.next.ensures.door)
    c.rows_above-in-ComesTwice.ensures.read)
    c.requires.device

pub rows_above-requires-in-ComesTwice-2-clause-fits : goal.rows_above-requires-in-ComesTwice-2-clause-fits
rows_above-requires-in-ComesTwice-2-clause-fits g c =
    let s = g.D.Door.sight in
    rw (nodes-after (look-step c.args.link c.args.device c.args.place.now (range_parcel_of c.args.range c.args.above)
    (λ got. Cleft c.args.place.now c.args.range c.args.above got))
    (λ a b p. p.nodes)
    (s c.args.self.now.door) (s c.next.new.self.door) (s c.rows_above-in-ComesTwice.new.self) c.args.link c.rows_above-in-ComesTwice.result
    (ap s c.next.ensures.door)
    c.rows_above-in-ComesTwice.ensures.read)
    c.requires.fits

pub returns-in-ComesTwice-clause-read : goal.returns-in-ComesTwice-clause-read
returns-in-ComesTwice-clause-read g c =
    let now = c.args.self.now in
    becomes g.D.Door.sight g.met.D.FaithfulDoor.carries (look-step c.args.link c.args.device c.args.place.now (range_parcel_of c.args.range c.args.above)
    (λ got. Cleft c.args.place.now c.args.range c.args.above got)) now.acts now.messages
    c.args.link ComesTwice now.door c.next.new.self.door c.rows_above-in-ComesTwice-2.new.self c.rows_above-in-ComesTwice-2.result c.next.new.self.acts
    c.next.new.self.messages now.faults c.next.new.self.faults now.asks c.next.new.self.asks
    c.next.ensures.door (sym c.next.ensures.fate ∙ c.in-ComesTwice.is) c.next.ensures.acts c.next.ensures.messages c.next.ensures.faults c.next.ensures.later
    c.next.ensures.risen (
      c.rows_above-in-ComesTwice.new.self,
      (c.rows_above-in-ComesTwice.result, c.rows_above-in-ComesTwice.ensures.read),
      c.rows_above-in-ComesTwice-2.ensures.read,
    )
