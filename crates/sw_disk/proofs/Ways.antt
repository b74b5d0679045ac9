-- The folders on the way to one, step by step.
use Rattle.std.proofs.Common.{◌≡◌, inr, ℕ, zero, suc, ◌<◌, List, [], ◌∷◌, IsSome, length, refl, sym, ◌∙◌, ap, subst}
use Rattle.sw_disk.proofs.Above.{length-above}
use Rattle.sw_disk.proofs.States.{on_disk, on_disk-synced, there-after_made, stay-made}
use Rattle.sw_disk.specs.Calls.{folder_synced, made}
use Rattle.sw_disk.specs.Crash.{IsOnDisk}
use Rattle.sw_disk.specs.Disk.{DiskState}
use Rattle.sw_disk.specs.Keeping.{IsOrdered}
use Rattle.sw_disk.specs.Paths.{above, steps_above}

pub shorter : (dir : List ℕ) → ¬ (dir ≡ []) → length (above dir) < length dir
shorter [] ne = absurd (ne refl)
shorter (b ∷ bs) ne = length-above b bs

-- the disk's own folder outlives each crash
steps_above-own : (n : ℕ) → steps_above n [] ≡ []
steps_above-own zero = refl
steps_above-own (suc n) = steps_above-own n

pub on_disk-own : (s : DiskState) (dir : List ℕ) → dir ≡ [] → IsOnDisk s dir
on_disk-own s dir e = λ n ne. absurd (ne (ap (steps_above n) e ∙ steps_above-own n))

-- an empty folder that was found, synced into the one above it
pub on_disk-empty : (s t : DiskState) (dir : List ℕ) → ¬ (dir ≡ []) → IsOrdered s → IsSome (s.folders dir) → t ≡ folder_synced s (above dir) → IsOnDisk t dir
on_disk-empty s t dir ne ordered there e = subst (λ (x : DiskState). IsOnDisk x dir) (sym e)
    (on_disk-synced s dir (ordered.filled (above dir) (inr (dir, ne, refl, there))) there)

-- one that was made, and then synced into the one above it
pub on_disk-made : (s t u : DiskState) (dir : List ℕ) → IsOnDisk s (above dir) → t ≡ made s dir → u ≡ folder_synced t (above dir) → IsOnDisk u dir
on_disk-made s t u dir kept is_made is_synced =
    let kept' : IsOnDisk t (above dir) = subst (λ (x : DiskState). IsOnDisk x (above dir)) (sym is_made)
    (on_disk s (made s dir) (stay-made s dir) (above dir) kept) in
    let there : IsSome (t.folders dir) = subst (λ (x : DiskState). IsSome (x.folders dir)) (sym is_made) (there-after_made s dir) in
    subst (λ (x : DiskState). IsOnDisk x dir) (sym is_synced) (on_disk-synced t dir kept' there)
