use Rattle.std.proofs.Common.{◌≡◌, ◌∙◌, ℕ, Option, refl, sym, ap, subst, rules, false}
use Rattle.sw_core.specs.Worlds.{keeper_seen, AllNodes, opened, without_lines}
use Rattle.sw_nodes.proofs.Readying.{ready-of}
use Rattle.sw_cluster.specs.Ending.{IsRunOver}
use Rattle.sw_nodes.specs.Nodes.{IsReady, out_but}
use Rattle.sw_cluster.specs.Limits.{run_bytes}
use Rattle.sw_cluster.specs.Told.{counts, input, output}
use Rattle.sw_cluster.proofs.Mapped.{reads-told}
use Rattle.sw_cluster.proofs.Trailing.{nodes-ended, nodes-run}
use Rattle.sw_cluster.proofs.running.session.Goals as goal

pub serve-ended-requires-clause-ready : goal.serve-ended-requires-clause-ready
serve-ended-requires-clause-ready g c =
    let begun = c.requires.begun in
    subst (λ (w : AllNodes _ _). IsReady g.S.Stores.out c.args.ring.now w c.args.stores.now) (sym (c.new.ensures.door ∙ begun.2))
    (ready-of g.S.Stores.out c.args.ring.now (opened run_bytes c.args.ring.now begun.0) c.args.stores.now refl refl c.requires.out)

pub give_back-requires-clause-devices : goal.give_back-requires-clause-devices
give_back-requires-clause-devices g c =
    let ended = nodes-ended g.S.V.Volume.tells g.S.V.Volume.holds g.S.V.Volume.faults (keeper_seen g.S.K.Keeper.tells g.S.K.Keeper.holds g.S.K.Keeper.faults)
    c.args.ring.now g.S.Stores.faults g.S.Stores.calls g.S.Stores.rests
    g.S.Stores.out _ (input g.R.Source.left g.R.Source.faults g.R.Source.calls c.args.source.now c.serve-ended.new.source)
    (output g.W.Sink.taken g.W.Sink.faults g.W.Sink.calls c.args.out.now c.serve-ended.new.out) _ _ _ c.serve-ended.ensures.session refl
    (c.requires.begun.0, c.requires.begun.1, c.new.ensures.door ∙ c.requires.begun.2) c.requires.out in
    ap (λ (w : AllNodes _ _). w.devices) (c.take_trail.ensures.after ∙ ap without_lines c.into_door-world.ensures) ∙ ended.devices

pub give_back-requires-clause-lock_bits : goal.give_back-requires-clause-lock_bits
give_back-requires-clause-lock_bits g c =
    let ended = nodes-ended g.S.V.Volume.tells g.S.V.Volume.holds g.S.V.Volume.faults (keeper_seen g.S.K.Keeper.tells g.S.K.Keeper.holds g.S.K.Keeper.faults)
    c.args.ring.now g.S.Stores.faults g.S.Stores.calls g.S.Stores.rests
    g.S.Stores.out _ (input g.R.Source.left g.R.Source.faults g.R.Source.calls c.args.source.now c.serve-ended.new.source)
    (output g.W.Sink.taken g.W.Sink.faults g.W.Sink.calls c.args.out.now c.serve-ended.new.out) _ _ _ c.serve-ended.ensures.session refl
    (c.requires.begun.0, c.requires.begun.1, c.new.ensures.door ∙ c.requires.begun.2) c.requires.out in
    ap (λ (w : AllNodes _ _). w.lock_bits) (c.take_trail.ensures.after ∙ ap without_lines c.into_door-world.ensures) ∙ ended.lock_bits

pub give_back-requires-clause-lifted : goal.give_back-requires-clause-lifted
give_back-requires-clause-lifted g c device is =
    let ended = nodes-ended g.S.V.Volume.tells g.S.V.Volume.holds g.S.V.Volume.faults (keeper_seen g.S.K.Keeper.tells g.S.K.Keeper.holds g.S.K.Keeper.faults)
    c.args.ring.now g.S.Stores.faults g.S.Stores.calls g.S.Stores.rests
    g.S.Stores.out _ (input g.R.Source.left g.R.Source.faults g.R.Source.calls c.args.source.now c.serve-ended.new.source)
    (output g.W.Sink.taken g.W.Sink.faults g.W.Sink.calls c.args.out.now c.serve-ended.new.out) _ _ _ c.serve-ended.ensures.session refl
    (c.requires.begun.0, c.requires.begun.1, c.new.ensures.door ∙ c.requires.begun.2) c.requires.out in
    ended.lifted device (sym (ap (λ (w : AllNodes _ _). w.lifted) (c.take_trail.ensures.after ∙ ap without_lines c.into_door-world.ensures)) ∙ is)

pub give_back-requires-clause-out : goal.give_back-requires-clause-out
give_back-requires-clause-out g c d s =
    let ended = nodes-ended g.S.V.Volume.tells g.S.V.Volume.holds g.S.V.Volume.faults (keeper_seen g.S.K.Keeper.tells g.S.K.Keeper.holds g.S.K.Keeper.faults)
    c.args.ring.now g.S.Stores.faults g.S.Stores.calls g.S.Stores.rests
    g.S.Stores.out _ (input g.R.Source.left g.R.Source.faults g.R.Source.calls c.args.source.now c.serve-ended.new.source)
    (output g.W.Sink.taken g.W.Sink.faults g.W.Sink.calls c.args.out.now c.serve-ended.new.out) _ _ _ c.serve-ended.ensures.session refl
    (c.requires.begun.0, c.requires.begun.1, c.new.ensures.door ∙ c.requires.begun.2) c.requires.out in
    ended.are_out d s ∙ ap (λ (o : Option ℕ). out_but c.args.ring.now o d s)
    (sym (ap (λ (w : AllNodes _ _). w.lifted) (c.take_trail.ensures.after ∙ ap without_lines c.into_door-world.ensures)))

-- what holds of the stores that come back holds of those that were handed to the server, where these are one by their name
by-name : {A : Type 0} (P : A → Type 0) {x y : A} {n m : ℕ} → (n ≡ m → x ≡ y) → n ≡ m → P y → P x
by-name P same is p = subst P (sym (same is)) p

pub returns-clause-home : goal.returns-clause-home
returns-clause-home g c =
    let ended = nodes-ended g.S.V.Volume.tells g.S.V.Volume.holds g.S.V.Volume.faults (keeper_seen g.S.K.Keeper.tells g.S.K.Keeper.holds g.S.K.Keeper.faults)
    c.args.ring.now g.S.Stores.faults g.S.Stores.calls g.S.Stores.rests
    g.S.Stores.out _ (input g.R.Source.left g.R.Source.faults g.R.Source.calls c.args.source.now c.serve-ended.new.source)
    (output g.W.Sink.taken g.W.Sink.faults g.W.Sink.calls c.args.out.now c.serve-ended.new.out) _ _ _ c.serve-ended.ensures.session refl
    (c.requires.begun.0, c.requires.begun.1, c.new.ensures.door ∙ c.requires.begun.2) c.requires.out in
    by-name (λ (x : g.row.S.Denot). (d s : ℕ) → g.S.Stores.out x d s ≡ false) {m = c.serve-ended.new.server.stores.ghost_name} (search rules)
    (sym {a = c.serve-ended.new.server.stores.ghost_name} ended.same_stores) c.give_back.ensures.home

pub returns-clause-run : goal.returns-clause-run
returns-clause-run g c =
    let ended = nodes-ended g.S.V.Volume.tells g.S.V.Volume.holds g.S.V.Volume.faults (keeper_seen g.S.K.Keeper.tells g.S.K.Keeper.holds g.S.K.Keeper.faults)
    c.args.ring.now g.S.Stores.faults g.S.Stores.calls g.S.Stores.rests
    g.S.Stores.out _ (input g.R.Source.left g.R.Source.faults g.R.Source.calls c.args.source.now c.serve-ended.new.source)
    (output g.W.Sink.taken g.W.Sink.faults g.W.Sink.calls c.args.out.now c.serve-ended.new.out) _ _ _ c.serve-ended.ensures.session refl
    (c.requires.begun.0, c.requires.begun.1, c.new.ensures.door ∙ c.requires.begun.2) c.requires.out in
    by-name (λ (x : g.row.S.Denot). IsRunOver g.S.V.Volume.tells g.S.V.Volume.holds g.S.V.Volume.faults
    (keeper_seen g.S.K.Keeper.tells g.S.K.Keeper.holds g.S.K.Keeper.faults) c.args.ring.now c.args.world (g.S.Stores.rests x)
    (counts g.S.Stores.calls g.S.Stores.faults c.args.stores.now) (counts g.S.Stores.calls g.S.Stores.faults x)
    (input g.R.Source.left g.R.Source.faults g.R.Source.calls c.args.source.now c.serve-ended.new.source)
    (output g.W.Sink.taken g.W.Sink.faults g.W.Sink.calls c.args.out.now c.serve-ended.new.out) (g.C.Clock.readings c.args.clock.now)
    (g.C.Clock.readings c.serve-ended.new.clock)
    (record { steps = c.take_trail.result; moments = c.from.result }) c.status_of.result) {m = c.serve-ended.new.server.stores.ghost_name} (search rules)
    (sym {a = c.serve-ended.new.server.stores.ghost_name} ended.same_stores)
    (subst (λ (w : AllNodes _ _). IsRunOver g.S.V.Volume.tells g.S.V.Volume.holds g.S.V.Volume.faults
    (keeper_seen g.S.K.Keeper.tells g.S.K.Keeper.holds g.S.K.Keeper.faults) c.args.ring.now w (g.S.Stores.rests c.give_back.new.stores)
    (counts g.S.Stores.calls g.S.Stores.faults c.args.stores.now) (counts g.S.Stores.calls g.S.Stores.faults c.give_back.new.stores)
    (input g.R.Source.left g.R.Source.faults g.R.Source.calls c.args.source.now c.serve-ended.new.source)
    (output g.W.Sink.taken g.W.Sink.faults g.W.Sink.calls c.args.out.now c.serve-ended.new.out) (g.C.Clock.readings c.args.clock.now)
    (g.C.Clock.readings c.serve-ended.new.clock) (record { steps = c.take_trail.result; moments = c.from.result }) c.status_of.result) c.new.ensures.door
    (nodes-run g.S.V.Volume.tells g.S.V.Volume.holds g.S.V.Volume.faults (keeper_seen g.S.K.Keeper.tells g.S.K.Keeper.holds g.S.K.Keeper.faults) c.args.ring.now
    g.S.Stores.faults g.S.Stores.calls g.S.Stores.rests g.S.Stores.out
    _ (input g.R.Source.left g.R.Source.faults g.R.Source.calls c.args.source.now c.serve-ended.new.source)
    (output g.W.Sink.taken g.W.Sink.faults g.W.Sink.calls c.args.out.now c.serve-ended.new.out) _ _ _ c.serve-ended.ensures.session refl
    (c.requires.begun.0, c.requires.begun.1, c.new.ensures.door ∙ c.requires.begun.2) c.requires.out
    c.take_trail.new.self (g.S.Stores.rests c.give_back.new.stores) (counts g.S.Stores.calls g.S.Stores.faults c.give_back.new.stores) _ _
    c.take_trail.result c.from.result c.status_of.result
    c.status_of.ensures (c.take_trail.ensures.lines ∙ ap (λ (w : AllNodes _ _). w.lines) c.into_door-world.ensures)
    (c.take_trail.ensures.after ∙ ap without_lines c.into_door-world.ensures) c.from.ensures c.serve-ended.ensures.ticks c.give_back.ensures.world
    c.give_back.ensures.rests c.give_back.ensures.others c.give_back.ensures.told c.give_back.ensures.containers c.give_back.ensures.locks
    c.give_back.ensures.faults c.give_back.ensures.calls c.serve-ended.ensures.own_puts
    (reads-told g.R.Source.left g.R.Source.faults g.R.Source.calls c.args.source.now c.serve-ended.new.source _ _ _ _ c.serve-ended.ensures.reads)
    c.serve-ended.ensures.waits))
