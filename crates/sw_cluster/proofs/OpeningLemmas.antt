-- How a command ends by what it found where it opened its ring.
use Rattle.std.proofs.Common.{◌≡◌, ℕ, List, Option, None, Err, Ok, inl, inr, subst}
use Rattle.std.specs.Io.KnownBytes.{Appends}
use Rattle.sw_outside.specs.Taken.{AppendsPart}
use Rattle.sw_hashpath.specs.BadNames.{bad_name}
use Rattle.sw_ring.specs.declared.bad_ring.BadRing.{BadRing}
use Rattle.sw_ring.specs.declared.ring.Ring.{Ring}
use Rattle.sw_cluster.specs.Locating.{IsWritten, Locates}
use Rattle.sw_cluster.specs.Told.{Output}
use Rattle.sw_stores.specs.Telling.{Telling}
use Rattle.sw_cluster.specs.Opening.{EndsWith, IsOpening, IsRingRefused}
use Rattle.sw_cluster.specs.Whereabouts.{where_text}
use Rattle.sw_cluster.specs.declared.opening.OpenFault.{OpenFault}
use Rattle.sw_cluster.specs.declared.opening.OpenFault.TheVariants as faults

-- the ring was opened, and the command went on
pub opened : (told : Telling) (before mid now : ℕ) (kept : Type 0) (says : BadRing → Type 0) (goes_on : Ring → Type 0) (status : ℕ) (ring : Ring)
    → IsOpening told before mid (Ok ring) → goes_on ring → EndsWith told before now kept says goes_on status
opened told before mid now kept says goes_on status ring opens on = inr (inr (inr (ring, opens.0, on)))

-- it wasn't opened
pub not_opened : (told : Telling) (before now : ℕ) (kept : Type 0) (says : BadRing → Type 0) (goes_on : Ring → Type 0) (status : ℕ) (fault : OpenFault)
    → IsOpening told before now (Err fault) → IsRingRefused fault status says → kept → EndsWith told before now kept says goes_on status
not_opened told before now kept says goes_on status faults.Failed opening refused same = inl (refused, opening, same)
not_opened told before now kept says goes_on status (faults.Bad bad) opening refused same =
    inr (inr (inl (bad, opening.0, opening.1, refused.0, refused.1, same)))
not_opened told before now kept says goes_on status faults.NoMemory opening refused same = inr (inl (refused, opening, same))

-- a text that was written is that of the name
pub located : (ring : Ring) (account : List ℕ) (container object : Option (List ℕ)) (out : Output) (text : List ℕ) (status : ℕ)
    → text ≡ where_text ring account container object → bad_name account container object ≡ None → IsWritten out text status
    → Locates ring account container object out status
located ring account container object out text status text_is good written = record {
  complete = λ is. (subst (Appends out.before out.now) text_is (written.complete is).0, (written.complete is).1);
  usage = λ is. elim written.known [ inl complete ↦ cc | inr fault ↦ cc ];
  write_fault = λ is. (subst (AppendsPart out.before out.now) text_is (written.write_fault is).0, (written.write_fault is).1);
  no_memory = λ is. elim written.known [ inl complete ↦ cc | inr fault ↦ cc ];
  good = λ _. good;
  once = λ _. written.once;
  known = elim written.known [ inl complete ↦ inl complete | inr fault ↦ inr (inr (inl fault)) ];
}
