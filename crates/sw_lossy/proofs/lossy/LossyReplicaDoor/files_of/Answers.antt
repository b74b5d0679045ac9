use Rattle.std.proofs.Common.{refl, sym, ◌∙◌, ap, Err}
use Rattle.sw_peer.proofs.Calls.{files-step}
use Rattle.sw_lossy.proofs.Losses.{becomes, nodes-after}
use Rattle.sw_lossy.specs.declared.acts.Fate.TheVariants.{Goes, IsLost, LosesReply, ComesTwice}
use Rattle.sw_lossy.proofs.lossy.LossyReplicaDoor.files_of.Goals as goal

pub returns-in-Goes-clause-read : goal.returns-in-Goes-clause-read
returns-in-Goes-clause-read g c =
    let now = c.args.self.now in
    becomes g.D.Door.sight g.met.D.FaithfulDoor.carries (files-step c.args.link c.args.device c.args.part c.args.suffix) now.acts now.messages
    c.args.link Goes now.door c.next_asking.new.self.door c.files_of.new.self c.files_of.result c.next_asking.new.self.acts c.next_asking.new.self.messages
    now.faults c.next_asking.new.self.faults now.asks c.next_asking.new.self.asks
    c.next_asking.ensures.door (sym c.next_asking.ensures.fate ∙ c.in-Goes.is) c.next_asking.ensures.acts c.next_asking.ensures.messages
    c.next_asking.ensures.faults c.next_asking.ensures.later c.next_asking.ensures.risen
    c.files_of.ensures.read

pub returns-in-IsLost-clause-read : goal.returns-in-IsLost-clause-read
returns-in-IsLost-clause-read g c =
    let now = c.args.self.now in
    becomes g.D.Door.sight g.met.D.FaithfulDoor.carries (files-step c.args.link c.args.device c.args.part c.args.suffix) now.acts now.messages
    c.args.link IsLost now.door c.next_asking.new.self.door c.next_asking.new.self.door (Err (record {})) c.next_asking.new.self.acts
    c.next_asking.new.self.messages now.faults c.next_asking.new.self.faults now.asks c.next_asking.new.self.asks
    c.next_asking.ensures.door (sym c.next_asking.ensures.fate ∙ c.in-IsLost.is) c.next_asking.ensures.acts c.next_asking.ensures.messages
    c.next_asking.ensures.faults c.next_asking.ensures.later c.next_asking.ensures.risen
    (refl, refl)

pub returns-in-LosesReply-clause-read : goal.returns-in-LosesReply-clause-read
returns-in-LosesReply-clause-read g c =
    let now = c.args.self.now in
    becomes g.D.Door.sight g.met.D.FaithfulDoor.carries (files-step c.args.link c.args.device c.args.part c.args.suffix) now.acts now.messages
    c.args.link LosesReply now.door c.next_asking.new.self.door c.files_of-in-LosesReply.new.self (Err (record {})) c.next_asking.new.self.acts
    c.next_asking.new.self.messages now.faults c.next_asking.new.self.faults now.asks c.next_asking.new.self.asks
    c.next_asking.ensures.door (sym c.next_asking.ensures.fate ∙ c.in-LosesReply.is) c.next_asking.ensures.acts c.next_asking.ensures.messages
    c.next_asking.ensures.faults c.next_asking.ensures.later c.next_asking.ensures.risen
    ((c.files_of-in-LosesReply.result, c.files_of-in-LosesReply.ensures.read), refl)

pub files_of-requires-in-ComesTwice-2-clause-device : goal.files_of-requires-in-ComesTwice-2-clause-device
files_of-requires-in-ComesTwice-2-clause-device g c =
    let s = g.D.Door.sight in
    rw (nodes-after (files-step c.args.link c.args.device c.args.part c.args.suffix) (λ a b p. p.nodes)
    (s c.args.self.now.door) (s c.next_asking.new.self.door) (s c.files_of-in-ComesTwice.new.self) c.args.link c.files_of-in-ComesTwice.result
    (ap s c.next_asking.ensures.door)
    c.files_of-in-ComesTwice.ensures.read)
    c.requires.device

pub files_of-requires-in-ComesTwice-2-clause-part : goal.files_of-requires-in-ComesTwice-2-clause-part
files_of-requires-in-ComesTwice-2-clause-part g c =
    let s = g.D.Door.sight in
    rw (nodes-after (files-step c.args.link c.args.device c.args.part c.args.suffix) (λ a b p. p.nodes)
    (s c.args.self.now.door) (s c.next_asking.new.self.door) (s c.files_of-in-ComesTwice.new.self) c.args.link c.files_of-in-ComesTwice.result
    (ap s c.next_asking.ensures.door)
    c.files_of-in-ComesTwice.ensures.read)
    c.requires.part

pub returns-in-ComesTwice-clause-read : goal.returns-in-ComesTwice-clause-read
returns-in-ComesTwice-clause-read g c =
    let now = c.args.self.now in
    becomes g.D.Door.sight g.met.D.FaithfulDoor.carries (files-step c.args.link c.args.device c.args.part c.args.suffix) now.acts now.messages
    c.args.link ComesTwice now.door c.next_asking.new.self.door c.files_of-in-ComesTwice-2.new.self c.files_of-in-ComesTwice-2.result
    c.next_asking.new.self.acts c.next_asking.new.self.messages now.faults c.next_asking.new.self.faults now.asks c.next_asking.new.self.asks
    c.next_asking.ensures.door (sym c.next_asking.ensures.fate ∙ c.in-ComesTwice.is) c.next_asking.ensures.acts c.next_asking.ensures.messages
    c.next_asking.ensures.faults c.next_asking.ensures.later c.next_asking.ensures.risen (
      c.files_of-in-ComesTwice.new.self,
      (c.files_of-in-ComesTwice.result, c.files_of-in-ComesTwice.ensures.read),
      c.files_of-in-ComesTwice-2.ensures.read,
    )
