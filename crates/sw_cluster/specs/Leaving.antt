-- How the nodes of a ring are left where their devices were to be restarted: what is asked for so that their volumes and keepers can be given
-- back. (This project's own.)
use Rattle.std.specs.Prelude.{◌≡◌, ℕ, ◌+◌, ◌*◌, ◌^◌, ◌<◌, ◌≤◌, Bool, Option, length, ◌⊎◌}
use Rattle.sw_core.specs.Worlds.{KeeperSeen, AllNodes}
use Rattle.sw_ring.specs.declared.ring.Ring.{Ring}
use Rattle.sw_volume.specs.Tree.{Folders}
use Rattle.sw_volume.specs.Volume.{raised_by}
use Rattle.sw_nodes.specs.Nodes.{FailsToStart, IsReady}
use Rattle.sw_cluster.specs.Rounds.{RestartsFirst}

module _ {V K S : Type 0} (tells : V → Bool) (files : V → Folders) (faults : V → ℕ) (keeps : KeeperSeen K) (store_calls : S → ℕ)
    (rests : S → ℕ → ℕ → Option (V × K))
    (out : S → ℕ → ℕ → Bool) (ring : Ring) where
  -- a device of these nodes is out: its volumes and keepers rest in the stores
  pub record IsOut (whole w : AllNodes V K) (stores : S) : Type 0 where
    pub device : ℕ
    pub stores_then : S
    pub ready : IsReady out ring whole stores_then
    pub fails : FailsToStart tells files faults keeps store_calls rests out ring device whole w stores_then stores

  -- the nodes are ready, or a device of them is out
  abbrev pub AreLeft : AllNodes V K → AllNodes V K → S → Type 0
  AreLeft whole w stores = ((w ≡ whole) × IsReady out ring whole stores) ⊎ IsOut whole w stores

  -- a device couldn't be restarted, though each of its volumes was tried once at most
  pub record FailsToRestart (whole w : AllNodes V K) (stores stores_now : S) : Type 0 where
    pub left : AreLeft whole w stores_now
    pub tried : ℕ
    pub most : tried ≤ 2 ^ ring.lock_bits
    pub calls_are : store_calls stores_now ≡ raised_by tried (store_calls stores)

  -- some first devices were restarted, and then one couldn't be
  pub record StopsAmong (began whole w : AllNodes V K) (stores stores_now : S) : Type 0 where
    pub device : ℕ
    pub is_device : device < length ring.devices
    pub restarted : RestartsFirst tells files faults keeps ring device began whole
    pub left : AreLeft whole w stores_now
    pub tried : ℕ
    pub most : tried ≤ 2 ^ ring.lock_bits
    pub calls_are : store_calls stores_now ≡ raised_by (tried + device * 2 ^ ring.lock_bits) (store_calls stores)
