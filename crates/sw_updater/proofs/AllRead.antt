-- All records of a device, as they are read and as they are answered.
use Rattle.std.proofs.Common.{◌≡◌, ℕ, ◌^◌, List, subst, Result, Ok, Err}
use Rattle.std.specs.List.{range_with_len}
use Rattle.std.specs.declared.alloc.Global.{Global}
use Rattle.std.specs.declared.vec.Vec.{Vec}
use Rattle.sw_object_steps.specs.declared.dir_fault.DirFault.{DirFault}
use Rattle.sw_peer.specs.Sights.{Sight}
use Rattle.sw_pending.specs.declared.filed.Filed.{Filed}
use Rattle.sw_ring.specs.declared.ring.Ring.{Ring}
use Rattle.sw_updater.specs.Reading.{AreAllRead, ArePending, AreRead, IsOrderOf}

module _ (ring : Ring) (device : ℕ) (s t : Sight) where
  -- so many stripes are all, and that is what was read
  pub all-read : (count : ℕ) (got told : Result (List Filed) DirFault) → count ≡ 2 ^ ring.lock_bits → got ≡ told
      → AreRead device (range_with_len 0 count) s got t → AreAllRead ring device s told t
  all-read count got told all is read =
      subst (λ (x : Result (List Filed) DirFault). AreAllRead ring device s x t) is
      (subst (λ (n : ℕ). AreRead device (range_with_len 0 n) s got t) all read)

  pub records-pending : (r : Result (Vec Filed Global) DirFault) (ordered : Vec Filed Global) → r ≡ Ok ordered → ArePending ring device s (Ok r) t
      → (records : List Filed) × AreAllRead ring device s (Ok records) t × IsOrderOf records ordered.items
  records-pending r ordered is = subst (λ (x : Result (Vec Filed Global) DirFault). ArePending ring device s (Ok x) t) is

  pub fault-pending : (r : Result (Vec Filed Global) DirFault) (fault : DirFault) → r ≡ Err fault → ArePending ring device s (Ok r) t
      → AreAllRead ring device s (Err fault) t
  fault-pending r fault is = subst (λ (x : Result (Vec Filed Global) DirFault). ArePending ring device s (Ok x) t) is
