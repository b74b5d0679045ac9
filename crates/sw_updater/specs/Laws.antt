-- What is promised of updates that are done. (This project's own.)
use Rattle.std.specs.Prelude.{◌≡◌, ⊤, ℕ, ◌^◌, Bool, true, false, not, ◌&&◌, ◌||◌, List, [], ◌∷◌, ◌++◌, Option, None, Some, ◌⊎◌, Result, Ok}
use Rattle.std.proofs.Common.{inl, inr}
use Rattle.std.specs.List.{All, list_any, range_with_len}
use Rattle.sw_object_steps.specs.Rules.{ObjHistory, obj_applied, obj_rules}
use Rattle.sw_object_steps.specs.Values.{ObjValue, is_same_key}
use Rattle.sw_object_steps.specs.declared.dir_fault.DirFault.{DirFault}
use Rattle.sw_object_steps.specs.declared.entry.ObjEntry.{ObjEntry}
use Rattle.sw_object_steps.specs.declared.entry.ObjEntry.TheVariants.{Dropped, Files, Marked, Wrote}
use Rattle.sw_pass.specs.declared.outcome.Outcome.{Outcome}
use Rattle.sw_peer.specs.Sights.{Sight}
use Rattle.sw_pending.specs.Records.{key_of}
use Rattle.sw_pending.specs.Rules.{are_done}
use Rattle.sw_pending.specs.declared.filed.Filed.{Filed}
use Rattle.sw_pending.specs.declared.key.RecordKey.{RecordKey}
use Rattle.sw_ring.specs.declared.ring.Ring.{Ring}
use Rattle.sw_step.specs.Rules.{about, stands}
use Rattle.sw_updater.specs.Reading.{AreRead}
use Rattle.sw_updater.specs.Updating.{IsUpdate}

-- whether an entry ends the record of this key: it drops it, or files it anew
abbrev pub ends : RecordKey → ObjEntry → Bool
ends key (Wrote name write records) = list_any (λ filed. is_same_key (key_of filed) key) records
ends key (Files by filed) = is_same_key (key_of filed) key
ends key (Marked by filed device) = false
ends key (Dropped by filed) = is_same_key (key_of filed) key

-- whether a device was done in the record that stood, which isn't in this one
abbrev pub takes_back : Option Filed → Filed → Bool
takes_back None filed = false
takes_back (Some stood) filed = not (are_done stood.done filed.done)

-- whether an entry marks the record of this key so that a device isn't done any more. No step enters such a mark: each has a device more than what stood
abbrev pub unmarks : RecordKey → ObjValue → ObjEntry → Bool
unmarks key v (Wrote name write records) = false
unmarks key v (Files by filed) = false
unmarks key v (Marked by filed device) = is_same_key (key_of filed) key && takes_back (v.records key) filed
unmarks key v (Dropped by filed) = false

-- whether one of these does, each over what those before it leave
abbrev pub any_unmarks : RecordKey → ObjValue → List ObjEntry → Bool
any_unmarks key v [] = false
any_unmarks key v (entry ∷ more) = unmarks key v entry || any_unmarks key (obj_applied v entry) more

-- Since this history of its lock an entry of its hash ends it. A door that isn't alone doesn't tell that what others entered came by steps: there an entry
-- may take a device back instead
pub record HasEnded (alone : Bool) (key : RecordKey) (old new : ObjHistory) : Type 0 where
  pub more : List ObjEntry
  pub grown : new.journal.entries ≡ old.journal.entries ++ more
  pub ended : (list_any (ends key) (about obj_rules key.hash more) ≡ true)
      ⊎ ((alone ≡ false) × (any_unmarks key (stands obj_rules old key.hash) (about obj_rules key.hash more) ≡ true))

-- so says the journal of the record's lock, from one sight to a later one, where it tells what it holds
abbrev pub HasEndedSince : ℕ → Sight → Sight → Filed → Type 0
HasEndedSince device s t filed =
    (t.objects.seen (s.nodes.lock device filed.name.hash)).told ≡ true
    → HasEnded t.alone (key_of filed) (s.objects.seen (s.nodes.lock device filed.name.hash)) (t.objects.seen (s.nodes.lock device filed.name.hash))

-- no read of a stripe failed, and each record that they gave has ended since its own
abbrev pub HaveEnded : (device : ℕ) (stripes : List ℕ) (s : Sight) (got : Result (List Filed) DirFault) (mid t : Sight) → AreRead device stripes s got mid
    → Type 0
HaveEnded device [] s got mid t are = ⊤
HaveEnded device (stripe ∷ stripes) s got mid t (inl read) =
    All (HasEndedSince device read.1 t) read.0.items × HaveEnded device stripes read.1 read.2 mid t read.4
HaveEnded device (stripe ∷ stripes) s got mid t (inr failed) = ⊥

-- where an update is done, each record of each stripe was dropped since it was read, or filed anew
abbrev pub DoneUpdatesEndRecords : Type 0
DoneUpdatesEndRecords = (ring : Ring) (device : ℕ) (s : Sight) (outcome : Outcome) (t : Sight) → (is : IsUpdate ring device s (Ok outcome) t)
    → outcome.done ≡ true → HaveEnded device (range_with_len 0 (2 ^ ring.lock_bits)) s is.0 is.1 t is.3
