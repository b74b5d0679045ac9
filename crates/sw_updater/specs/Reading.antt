-- Which records an update goes over: those of all stripes of its device, in order of folder and name. (This project's own.)
use Rattle.std.specs.Prelude.{◌≡◌, ℕ, ◌^◌, Bool, List, [], ◌∷◌, ◌++◌, ◌⊎◌, Result, Ok, Err}
use Rattle.std.specs.List.{range_with_len}
use Rattle.std.specs.List.Sorted.{IsPermutation, IsSortedBy}
use Rattle.std.specs.Ordering.{is_lt}
use Rattle.std.specs.declared.alloc.Global.{Global}
use Rattle.std.specs.declared.vec.Vec.{Vec}
use Rattle.sw_object_steps.specs.declared.dir_fault.DirFault.{DirFault}
use Rattle.sw_outside.specs.declared.errors.NoMemory.{NoMemory}
use Rattle.sw_peer.specs.Sights.{Calls, IsRecordsRead, Sight}
use Rattle.sw_peer.specs.declared.link.Link.TheVariants.{Local}
use Rattle.sw_pending.specs.Orders.{key_cmp}
use Rattle.sw_pending.specs.Records.{key_of}
use Rattle.sw_pending.specs.declared.filed.Filed.{Filed}
use Rattle.sw_ring.specs.declared.ring.Ring.{Ring}

-- what was read of one stripe, in front of what was read of the later ones
abbrev pub joined_with : List Filed → Result (List Filed) DirFault → Result (List Filed) DirFault
joined_with records (Ok more) = Ok (records ++ more)
joined_with records (Err fault) = Err fault

-- the records of these stripes were read at the device itself, one stripe after the other; the first fault ends it
abbrev pub AreRead : ℕ → List ℕ → Sight → Result (List Filed) DirFault → Sight → Type 0
AreRead device [] s got t = (t ≡ s) × (got ≡ Ok [])
AreRead device (stripe ∷ stripes) s got t =
    ((list : Vec Filed Global) × (mid : Sight) × (rest : Result (List Filed) DirFault)
    × Calls (IsRecordsRead Local device stripe) s Local (Ok (Ok list)) mid × AreRead device stripes mid rest t × (got ≡ joined_with list.items rest))
    ⊎ ((fault : DirFault) × Calls (IsRecordsRead Local device stripe) s Local (Ok (Err fault)) t × (got ≡ Err fault))

-- whether a record comes before another one, in order of folder and name
abbrev pub comes_before : Filed → Filed → Bool
comes_before filed other = is_lt (key_cmp (key_of filed) (key_of other))

-- these are the same records, in that order
pub record IsOrderOf (records ordered : List Filed) : Type 0 where
  pub same : IsPermutation records ordered
  pub sorted : IsSortedBy comes_before ordered

-- all stripes of a device of the ring were read
abbrev pub AreAllRead : Ring → ℕ → Sight → Result (List Filed) DirFault → Sight → Type 0
AreAllRead ring device = AreRead device (range_with_len 0 (2 ^ ring.lock_bits))

-- what that answered: all records in their order, or the first fault. Memory for joining them is wanted only after all were read
abbrev pub ArePending : Ring → ℕ → Sight → Result (Result (Vec Filed Global) DirFault) NoMemory → Sight → Type 0
ArePending ring device s (Ok (Ok ordered)) t = (records : List Filed) × AreAllRead ring device s (Ok records) t × IsOrderOf records ordered.items
ArePending ring device s (Ok (Err fault)) t = AreAllRead ring device s (Err fault) t
ArePending ring device s (Err wanting) t = (records : List Filed) × AreAllRead ring device s (Ok records) t
