-- The nodes of a ring as the server of a session. (This project's own.)
use Rattle.std.specs.Prelude.{◌≡◌, ℕ, ◌+◌, ◌*◌, ◌^◌, ◌≤◌, Bool, true, not, ◌&&◌, List, length, None, Option, Some}
use Rattle.std.proofs.Common.{MutBor}
use Rattle.sw_nodes.specs.Server.{MayAnswer, MayHalt}
use Rattle.sw_core.specs.Worlds.{KeeperSeen, AllNodes, Lifts, first_of, nodes_of, shown}
use Rattle.sw_container_server.specs.Places.{IsHashed as IsHashedPlace}
use Rattle.sw_hashpath.specs.declared.name.Name.{Name}
use Rattle.sw_hashpath.specs.declared.place.Place.{Place}
use Rattle.sw_message.specs.declared.request.Request.{Request}
use Rattle.sw_message.specs.declared.response.Response.{Response}
use Rattle.sw_object_server.specs.Places.{IsHashed}
use Rattle.sw_outside.specs.Counts.{raised}
use Rattle.sw_peer.specs.Sights.{Nodes as NodesOfSight}
use Rattle.sw_ring.specs.declared.ring.Ring.{Ring}
use Rattle.sw_session.specs.declared.server.ServerFault.{ServerFault}
use Rattle.sw_session.specs.declared.server.ServerFault.TheVariants as servers
use Rattle.sw_stores.specs.Places.{ComeHome, is_among}
use Rattle.sw_stores.specs.Starting.{AreResting}
use Rattle.sw_volume.specs.Tree.{Folders}
use Rattle.sw_volume.specs.Volume.{raised_by}
use Rattle.sw_nodes.specs.Restarts.{restarts_in}

-- the nodes are those of the ring, or more of them
pub record AreNodesOf (ring : Ring) (nodes : NodesOfSight) : Type 0 where
  pub devices : length ring.devices ≤ nodes.devices
  pub power : ring.power ≡ nodes.power
  pub fits : (name : Name) → IsHashed ring name → nodes.fits name ≡ true
  pub fits_place : (place : Place) → IsHashedPlace ring place → nodes.fits_place place ≡ true

-- the places of all locks of a ring
abbrev pub places_of : Ring → ℕ → ℕ → Bool
places_of ring d s = is_among (2 ^ ring.lock_bits) 0 (length ring.devices * 2 ^ ring.lock_bits) d s

-- the places of a device
abbrev pub places_at : Ring → ℕ → ℕ → ℕ → Bool
places_at ring device d s = is_among (2 ^ ring.lock_bits) (first_of ring.lock_bits device) (2 ^ ring.lock_bits) d s

-- the places whose volumes and keepers are out, while this device is lifted
abbrev pub out_but : Ring → Option ℕ → ℕ → ℕ → Bool
out_but ring None d s = places_of ring d s
out_but ring (Some device) d s = places_of ring d s && not (places_at ring device d s)

-- the world is that of this ring, none of its devices is lifted, and the volumes and keepers of all its locks are out
pub record IsReady {V K S : Type 0} (out : S → ℕ → ℕ → Bool) (ring : Ring) (w : AllNodes V K) (stores : S) : Type 0 where
  pub whole : w.lifted ≡ None
  pub nodes : nodes_of (shown w.lifted w.devices) w.lock_bits w.power w.secrets ≡ nodes_of (length ring.devices) ring.lock_bits ring.power ring.secrets
  pub devices : w.devices ≡ length ring.devices
  pub lock_bits : w.lock_bits ≡ ring.lock_bits
  pub power : w.power ≡ ring.power
  pub secrets : w.secrets ≡ ring.secrets
  pub are_out : (d s : ℕ) → out stores d s ≡ places_of ring d s

-- the count of faults of the stores, by what halted the server
abbrev pub faults_by : ℕ → ServerFault → ℕ
faults_by before servers.Failed = raised before
faults_by before servers.NoMemory = before

-- a device was lifted, and its volumes and keepers given back, but they weren't all started again, though each was tried once at most: they rest
-- in the stores
pub record FailsToStart {V K S : Type 0} (tells : V → Bool) (files : V → Folders) (faults : V → ℕ) (keeps : KeeperSeen K) (store_calls : S → ℕ)
    (rests : S → ℕ → ℕ → Option (V × K)) (out : S → ℕ → ℕ → Bool) (ring : Ring) (device : ℕ) (w after : AllNodes V K) (stores stores_now : S) : Type 0 where
  pub given : List (V × K)
  pub up : Lifts tells files faults keeps w device given after
  pub resting : AreResting (rests stores_now) (2 ^ ring.lock_bits) (first_of ring.lock_bits device) given
  pub home : ComeHome (places_at ring device) (out stores) (out stores_now)
  pub tried : ℕ
  pub most : tried ≤ 2 ^ ring.lock_bits
  pub calls_are : store_calls stores_now ≡ raised_by tried (store_calls stores)

module _ {V K S : Type 0} (tells : V → Bool) (files : V → Folders) (faults : V → ℕ) (keeps : KeeperSeen K) (store_faults store_calls : S → ℕ) where
  -- a request was answered, and the nodes are ready for the next one. The stores were called once for each lock of a device that was
  -- restarted, and for nothing else
  pub record NodesAnswer (out : S → ℕ → ℕ → Bool) (ring ring_now : Ring) (w after : AllNodes V K) (stores stores_now : MutBor S)
      (request : Request) (moment : ℕ) (response : Response) : Type 0 where
    pub ring_is : ring_now ≡ ring
    pub may : MayAnswer tells files faults keeps ring w request moment response after
    pub faults_are : store_faults stores_now.now ≡ store_faults stores.now
    pub gained : ℕ
    pub gains : restarts_in after.lines ≡ restarts_in w.lines + gained
    pub calls_are : store_calls stores_now.now ≡ raised_by (gained * 2 ^ ring.lock_bits) (store_calls stores.now)
    pub same_stores : stores_now.ghost_name ≡ stores.ghost_name
    pub ready : IsReady out ring_now after stores_now.now

  -- a device couldn't be restarted: its volumes and keepers rest in the stores
  pub record NodesHalt (rests : S → ℕ → ℕ → Option (V × K)) (out : S → ℕ → ℕ → Bool) (ring ring_now : Ring)
      (w after : AllNodes V K) (stores stores_now : MutBor S) (request : Request) (fault : ServerFault) : Type 0 where
    pub ring_is : ring_now ≡ ring
    pub may : MayHalt tells files faults keeps ring w request after
    pub given : AreResting (rests stores_now.now) (2 ^ ring.lock_bits) (first_of ring.lock_bits may.device) may.given
    pub home : ComeHome (places_at ring may.device) (out stores.now) (out stores_now.now)
    pub faults_are : store_faults stores_now.now ≡ faults_by (store_faults stores.now) fault
    pub tried : ℕ
    pub most : tried ≤ 2 ^ ring.lock_bits
    pub calls_are : store_calls stores_now.now ≡ raised_by tried (store_calls stores.now)
    pub same_stores : stores_now.ghost_name ≡ stores.ghost_name
