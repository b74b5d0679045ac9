-- The records that were read are records of good names.
use Rattle.std.proofs.Common.{◌≡◌, ◌∙◌, ℕ, List, [], ◌∷◌, ◌++◌, ap, inl, inr, refl, subst, sym, Result, Ok, Err}
use Rattle.std.proofs.lemmas.List.Elements.{All-append, All-nil}
use Rattle.std.specs.List.{All}
use Rattle.std.specs.declared.alloc.Global.{Global}
use Rattle.std.specs.declared.vec.Vec.{Vec}
use Rattle.sw_hashpath.specs.declared.secrets.Secrets.{Secrets}
use Rattle.sw_object_steps.specs.declared.dir_fault.DirFault.{DirFault}
use Rattle.sw_peer.specs.Sights.{Calls, Comes, IsRecordsRead, Nodes, Sight}
use Rattle.sw_peer.specs.declared.link.Link.TheVariants.{Local}
use Rattle.sw_pending.specs.Outcomes.{IsRecord}
use Rattle.sw_pending.specs.declared.filed.Filed.{Filed}
use Rattle.sw_updater.proofs.Calling.{records-moves}
use Rattle.sw_updater.specs.Reading.{AreRead, joined_with}

abbrev pub AreGood : Secrets → Result (List Filed) DirFault → Type 0
AreGood secrets (Ok records) = All (IsRecord secrets) records
AreGood secrets (Err fault) = Unit {0}

-- those of one stripe
stripe-good : (device stripe : ℕ) (s : Sight) (list : Vec Filed Global) (t : Sight) → Calls (IsRecordsRead Local device stripe) s Local (Ok (Ok list)) t
    → All (IsRecord s.nodes.secrets) list.items
stripe-good device stripe s list t call =
    let came : Comes (IsRecordsRead Local device stripe) s (Ok list ∷ []) t =
    subst (λ (earlier : List (Result (Vec Filed Global) DirFault)). Comes (IsRecordsRead Local device stripe) s (earlier ++ Ok list ∷ []) t) (call.1 refl)
    call.2 in
    (came.1.step.shown refl).sound

joined-good : (secrets : Secrets) (records : List Filed) (rest : Result (List Filed) DirFault) → All (IsRecord secrets) records → AreGood secrets rest
    → AreGood secrets (joined_with records rest)
joined-good secrets records (Ok more) one all = All-append (IsRecord secrets) records more one all
joined-good secrets records (Err fault) one all = tt

pub good-records : (secrets : Secrets) (device : ℕ) (stripes : List ℕ) (s : Sight) (got : Result (List Filed) DirFault) (t : Sight)
    → s.nodes.secrets ≡ secrets → AreRead device stripes s got t → AreGood secrets got
good-records secrets device [] s got t same is = subst (AreGood secrets) (sym is.1) (All-nil (IsRecord secrets))
good-records secrets device (stripe ∷ stripes) s got t same (inl read) =
    let moves = records-moves Local device stripe s (Ok (Ok read.0)) read.1 read.3 in
    subst (AreGood secrets) (sym read.5)
    (joined-good secrets (read.0).items read.2
    (subst (λ (x : Secrets). All (IsRecord x) (read.0).items) same (stripe-good device stripe s read.0 read.1 read.3))
    (good-records secrets device stripes read.1 read.2 t (ap (λ (n : Nodes). n.secrets) moves.nodes ∙ same) read.4))
good-records secrets device (stripe ∷ stripes) s got t same (inr failed) = subst (AreGood secrets) (sym failed.2) tt
