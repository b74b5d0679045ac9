-- One more is finished, among as many as were accepted.
use Rattle.std.proofs.Common.{◌≡◌, ◌∙◌, ℕ, ◌<◌, ◌≤◌, List, [], ◌∷◌, ◌++◌, length, sym, ap, subst}
use Rattle.sw_outside.proofs.Accepting.{finishes-more, has-room}
use Rattle.sw_outside.specs.Doors.{MemDoorsState, accepts_of, finished_of}
use Rattle.sw_outside.specs.Rolls.{Promised}
use Rattle.sw_outside.specs.declared.mem_doors.MemFinished.{MemFinished}
use Rattle.sw_outside.proofs.mem_doors.MemDoorsDoors.finish.Goals as goal

pub add-requires : goal.add-requires
add-requires c =
    let Within : MemDoorsState → Type 0 = λ d. d.accepted ≤ length d.connections in
    let Roomy : MemDoorsState → Type 0 = λ d. length d.finished < d.accepted in
    let roomy : Roomy c.args.self.now = has-room c.args.self.now (subst Within c.self.view_is c.self.invariant) c.requires in
    subst Roomy (sym c.self.view_is) roomy

pub returns-clause-finished : goal.returns-clause-finished
returns-clause-finished c =
    let Within : MemDoorsState → Type 0 = λ d. d.accepted ≤ length d.connections in
    let f : MemFinished = record { among = c.promised.result; source = c.args.input; sink = c.args.output; status = c.args.status } in
    finishes-more c.args.self.now c.add.new.self.items f (subst Within c.self.view_is c.self.invariant)
    (ap (λ (r : Promised MemFinished). r.items) c.add.ensures ∙ ap (λ (d : MemDoorsState). d.finished ++ f ∷ []) c.self.view_is)
    (c.promised.ensures ∙ ap (λ (d : MemDoorsState). d.accepted) c.self.view_is)
