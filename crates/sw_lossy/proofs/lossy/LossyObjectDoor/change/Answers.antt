use Rattle.std.proofs.Common.{refl, sym, ◌∙◌, ap, subst, Err}
use Rattle.sw_peer.proofs.Calls.{made-step}
use Rattle.sw_peer.specs.Sights.{Calls, IsMade}
use Rattle.sw_object_steps.specs.declared.change.Change.{Change}
use Rattle.sw_lossy.proofs.Losses.{becomes, kept, nodes-after, uncopied}
use Rattle.sw_lossy.specs.Losses.{around, fate_of}
use Rattle.sw_lossy.specs.declared.acts.Fate.TheVariants.{Goes, IsLost, LosesReply, ComesTwice}
use Rattle.sw_lossy.proofs.lossy.LossyObjectDoor.change.Goals as goal

pub returns-in-Goes-clause-made : goal.returns-in-Goes-clause-made
returns-in-Goes-clause-made g c =
    let now = c.args.self.now in
    becomes g.D.Door.sight g.met.D.FaithfulDoor.carries (made-step c.args.link c.args.device c.args.name.now c.args.change) now.acts now.messages
    c.args.link Goes now.door c.next.new.self.door c.change.new.self c.change.result c.next.new.self.acts c.next.new.self.messages now.faults
    c.next.new.self.faults now.asks c.next.new.self.asks
    c.next.ensures.door (sym c.next.ensures.fate ∙ c.in-Goes.is) c.next.ensures.acts c.next.ensures.messages c.next.ensures.faults c.next.ensures.later
    c.next.ensures.risen
    c.change.ensures.made

pub returns-in-IsLost-clause-made : goal.returns-in-IsLost-clause-made
returns-in-IsLost-clause-made g c =
    let now = c.args.self.now in
    becomes g.D.Door.sight g.met.D.FaithfulDoor.carries (made-step c.args.link c.args.device c.args.name.now c.args.change) now.acts now.messages
    c.args.link IsLost now.door c.next.new.self.door c.next.new.self.door (Err (record {})) c.next.new.self.acts c.next.new.self.messages now.faults
    c.next.new.self.faults now.asks c.next.new.self.asks
    c.next.ensures.door (sym c.next.ensures.fate ∙ c.in-IsLost.is) c.next.ensures.acts c.next.ensures.messages c.next.ensures.faults c.next.ensures.later
    c.next.ensures.risen
    (refl, refl)

pub returns-in-LosesReply-clause-made : goal.returns-in-LosesReply-clause-made
returns-in-LosesReply-clause-made g c =
    let now = c.args.self.now in
    becomes g.D.Door.sight g.met.D.FaithfulDoor.carries (made-step c.args.link c.args.device c.args.name.now c.args.change) now.acts now.messages
    c.args.link LosesReply now.door c.next.new.self.door c.change-in-LosesReply.new.self (Err (record {})) c.next.new.self.acts c.next.new.self.messages
    now.faults c.next.new.self.faults now.asks c.next.new.self.asks
    c.next.ensures.door (sym c.next.ensures.fate ∙ c.in-LosesReply.is) c.next.ensures.acts c.next.ensures.messages c.next.ensures.faults c.next.ensures.later
    c.next.ensures.risen
    ((c.change-in-LosesReply.result, c.change-in-LosesReply.ensures.made), refl)

pub change-requires-in-Ok-2-clause-device : goal.change-requires-in-Ok-2-clause-device
change-requires-in-Ok-2-clause-device g c =
    let s = g.D.Door.sight in
    rw (nodes-after (made-step c.args.link c.args.device c.args.name.now c.args.change) (λ a b p. p.nodes)
    (s c.args.self.now.door) (s c.next.new.self.door) (s c.change-in-Ok.new.self) c.args.link c.change-in-Ok.result (ap s c.next.ensures.door)
    (subst (λ (x : Change). Calls (IsMade c.args.link c.args.device c.args.name.now x) (g.D.Door.sight c.next.new.self.door) c.args.link
    c.change-in-Ok.result (g.D.Door.sight c.change-in-Ok.new.self)) c.in-Ok.ensures c.change-in-Ok.ensures.made))
    c.requires.device

pub change-requires-in-Ok-2-clause-fits : goal.change-requires-in-Ok-2-clause-fits
change-requires-in-Ok-2-clause-fits g c =
    let s = g.D.Door.sight in
    rw (nodes-after (made-step c.args.link c.args.device c.args.name.now c.args.change) (λ a b p. p.nodes)
    (s c.args.self.now.door) (s c.next.new.self.door) (s c.change-in-Ok.new.self) c.args.link c.change-in-Ok.result (ap s c.next.ensures.door)
    (subst (λ (x : Change). Calls (IsMade c.args.link c.args.device c.args.name.now x) (g.D.Door.sight c.next.new.self.door) c.args.link
    c.change-in-Ok.result (g.D.Door.sight c.change-in-Ok.new.self)) c.in-Ok.ensures c.change-in-Ok.ensures.made))
    c.requires.fits

pub returns-in-Ok-clause-made : goal.returns-in-Ok-clause-made
returns-in-Ok-clause-made g c =
    let now = c.args.self.now in
    becomes g.D.Door.sight g.met.D.FaithfulDoor.carries (made-step c.args.link c.args.device c.args.name.now c.args.change) now.acts now.messages
    c.args.link ComesTwice now.door c.next.new.self.door c.change-in-Ok-2.new.self c.change-in-Ok-2.result c.next.new.self.acts c.next.new.self.messages
    now.faults c.next.new.self.faults now.asks c.next.new.self.asks
    c.next.ensures.door (sym c.next.ensures.fate ∙ c.in-ComesTwice.is) c.next.ensures.acts c.next.ensures.messages c.next.ensures.faults c.next.ensures.later
    c.next.ensures.risen (
      c.change-in-Ok.new.self,
      (
        c.change-in-Ok.result,
        (subst (λ (x : Change). Calls (IsMade c.args.link c.args.device c.args.name.now x) (g.D.Door.sight c.next.new.self.door) c.args.link
            c.change-in-Ok.result (g.D.Door.sight c.change-in-Ok.new.self)) c.in-Ok.ensures c.change-in-Ok.ensures.made),
      ),
      c.change-in-Ok-2.ensures.made,
    )

-- no memory for the copy: as if both copies had wanted it at once
pub returns-in-Err-clause-made : goal.returns-in-Err-clause-made
returns-in-Err-clause-made g c =
    let now = c.args.self.now in
    let old = around (g.D.Door.sight now.door) now.acts now.messages now.faults now.asks in
    let next = c.next.new.self in
    let new = around (g.D.Door.sight next.door) next.acts next.messages next.faults next.asks in
    let is_twice = sym c.next.ensures.fate ∙ c.in-ComesTwice.is in
    let same = kept (fate_of now.acts c.args.link now.messages) now.faults next.faults is_twice c.next.ensures.faults in
    uncopied c.args.link c.args.device c.args.name.now c.args.change (g.D.Door.sight now.door) (g.D.Door.sight next.door) now.acts next.acts now.messages
    next.messages now.faults next.faults
    now.asks next.asks is_twice (ap g.D.Door.sight c.next.ensures.door) c.next.ensures.acts c.next.ensures.messages same c.next.ensures.asks c.may_stand.ensures
