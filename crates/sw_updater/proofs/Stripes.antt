-- Reading stripes, one after the other.
use Rattle.std.proofs.Common.{◌≡◌, ◌≢◌, ◌∙◌, ℕ, ◌+◌, ◌-◌, zero, suc, List, ◌∷◌, ◌++◌, ap, inl, inr, refl, subst, sym, arith}
use Rattle.std.proofs.Common.{Result, Ok, Err, IsErr}
use Rattle.std.specs.List.{range_with_len}
use Rattle.std.specs.declared.alloc.Global.{Global}
use Rattle.std.specs.declared.vec.Vec.{Vec}
use Rattle.sw_object_steps.specs.declared.dir_fault.DirFault.{DirFault}
use Rattle.sw_outside.specs.declared.errors.NoMemory.{NoMemory}
use Rattle.sw_peer.proofs.Heard.{heard}
use Rattle.sw_peer.specs.Sights.{Calls, IsRecordsRead, Sight}
use Rattle.sw_peer.specs.declared.link.Link.TheVariants.{Local}
use Rattle.sw_peer.specs.declared.link.Lost.{Lost}
use Rattle.sw_pending.specs.declared.filed.Filed.{Filed}
use Rattle.sw_updater.specs.Reading.{AreRead, joined_with}
use Rattle.sw_updater.specs.Tasks.{Gives}

stripes-are : (stripe count : ℕ) → count ≢ 0 → range_with_len stripe count ≡ stripe ∷ range_with_len (stripe + 1) (count - 1)
stripes-are stripe zero some = absurd (some refl)
stripes-are stripe (suc n) some = let same : n ≡ suc n - 1 = omega arith in ap (λ (k : ℕ). stripe ∷ range_with_len (stripe + 1) k) same

pub failed-read : (device stripe count : ℕ) (s : Sight) (r : Result (Result (Vec Filed Global) DirFault) Lost) (fault : DirFault) (t : Sight) → count ≢ 0
    → r ≡ Ok (Err fault) → Calls (IsRecordsRead Local device stripe) s Local r t → AreRead device (range_with_len stripe count) s (Err fault) t
failed-read device stripe count s r fault t some is call =
    subst (λ (stripes : List ℕ). AreRead device stripes s (Err fault) t) (sym (stripes-are stripe count some))
    (inr (fault, heard (IsRecordsRead Local device stripe) s Local r (Ok (Err fault)) t is call, refl))

pub more-read : (device stripe count : ℕ) (s : Sight) (r : Result (Result (Vec Filed Global) DirFault) Lost) (list : Vec Filed Global) (mid : Sight)
    (rest : Result (List Filed) DirFault) (t : Sight) → count ≢ 0 → r ≡ Ok (Ok list) → Calls (IsRecordsRead Local device stripe) s Local r mid
    → AreRead device (range_with_len (stripe + 1) (count - 1)) mid rest t
    → AreRead device (range_with_len stripe count) s (joined_with list.items rest) t
more-read device stripe count s r list mid rest t some is call later =
    subst (λ (stripes : List ℕ). AreRead device stripes s (joined_with list.items rest) t) (sym (stripes-are stripe count some))
    (inl (list, mid, rest, heard (IsRecordsRead Local device stripe) s Local r (Ok (Ok list)) mid is call, later, refl))

-- what was read of the later stripes
pub fault-told : (r : Result (Vec Filed Global) DirFault) (got : Result (List Filed) DirFault) (fault : DirFault) → r ≡ Err fault → Gives (Ok r) got
    → got ≡ Err fault
fault-told r got fault is gives = subst (λ (x : Result (Vec Filed Global) DirFault). Gives (Ok x) got) is gives

pub records-told : (r : Result (Vec Filed Global) DirFault) (got : Result (List Filed) DirFault) (more : Vec Filed Global) → r ≡ Ok more → Gives (Ok r) got
    → got ≡ Ok more.items
records-told r got more is gives = subst (λ (x : Result (Vec Filed Global) DirFault). Gives (Ok x) got) is gives

pub fault-joined : (records : List Filed) (r : Result (Vec Filed Global) DirFault) (got : Result (List Filed) DirFault) (fault : DirFault) → r ≡ Err fault
    → Gives (Ok r) got → joined_with records got ≡ Err fault
fault-joined records r got fault is gives = ap (joined_with records) (fault-told r got fault is gives)

pub records-joined : (records : List Filed) (r : Result (Vec Filed Global) DirFault) (got : Result (List Filed) DirFault) (more : Vec Filed Global)
    (all : List Filed) → r ≡ Ok more → Gives (Ok r) got → all ≡ records ++ more.items → joined_with records got ≡ Ok all
records-joined records r got more all is gives joined = ap (joined_with records) (records-told r got more is gives) ∙ ap Ok (sym joined)

-- memory was wanted over records that were all read
wanted-over : (r : Result (Result (Vec Filed Global) DirFault) NoMemory) (got : Result (List Filed) DirFault) (records : List Filed) → IsErr r
    → got ≡ Ok records → Gives r got
wanted-over (Ok answer) got records err is = cc
wanted-over (Err wanting) got records err is = (records, is)

pub wanted-later : (r : Result (Result (Vec Filed Global) DirFault) NoMemory) (records : List Filed) (got : Result (List Filed) DirFault) (more : List Filed)
    → IsErr r → got ≡ Ok more → Gives r (joined_with records got)
wanted-later r records got more err is = wanted-over r (joined_with records got) (records ++ more) err (ap (joined_with records) is)
