use Rattle.std.proofs.Common.{◌≡◌, ℕ, refl, sym, subst, rules}
use Rattle.sw_cluster.proofs.Connecting.{connection-goes, connection-of, door_in, ring_in, same-door, still-each}
use Rattle.sw_cluster.proofs.Mapped.{reads-told}
use Rattle.sw_cluster.specs.Connections.{IsConnection}
use Rattle.sw_cluster.specs.Told.{Input, Output, input, output}
use Rattle.sw_cluster.proofs.connection.serve_connection.Goals as goal

-- what holds of the door that comes back holds of the one that was handed to the server, where these are one by their name
by-name : {A : Type 0} (P : A → Type 0) {x y : A} {n m : ℕ} → (n ≡ m → x ≡ y) → n ≡ m → P y → P x
by-name P same is p = subst P (sym (same is)) p

pub returns-clause-connection : goal.returns-clause-connection
returns-clause-connection g c =
    let source : Input = input g.R.Source.left g.R.Source.faults g.R.Source.calls c.args.source.now c.serve-ended.new.source in
    let sink : Output = output g.W.Sink.taken g.W.Sink.faults g.W.Sink.calls c.args.out.now c.serve-ended.new.out in
    by-name (λ (x : g.row.D.Denot). IsConnection g.D.Door.sight c.args.ring.now c.args.now c.args.door.now source sink x c.status_of.result)
    {m = c.serve-ended.new.server.door.ghost_name} (search rules)
    (sym {a = c.serve-ended.new.server.door.ghost_name} (same-door g.D.Door.sight c.args.ring.now ring_in door_in _ source sink _ _ _ refl
    c.serve-ended.ensures.session))
    (connection-of g.D.Door.sight c.args.ring.now ring_in door_in _ source sink _ _ _ refl c.serve-ended.ensures.session c.args.now c.status_of.result
    (still-each c.args.now _ _ c.serve-ended.ensures.ticks) c.status_of.ensures c.serve-ended.ensures.own_puts
    (reads-told g.R.Source.left g.R.Source.faults g.R.Source.calls c.args.source.now c.serve-ended.new.source _ _ _ _ c.serve-ended.ensures.reads)
    c.serve-ended.ensures.waits)

pub returns-clause-nodes : goal.returns-clause-nodes
returns-clause-nodes g c =
    (connection-goes g.D.Door.sight c.args.ring.now c.args.now c.args.door.now _ _ _ _ (returns-clause-connection g c)).nodes
