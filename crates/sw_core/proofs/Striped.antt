-- The records of some hashes among those of all, and the step that reads them.
use Rattle.std.proofs.Common.{◌≡◌, ℕ, Bool, true, List, [], ◌∷◌, map, refl, sym, ap, subst, Result, Ok, Err, Vec, Global, if◌then◌else◌, false}
use Rattle.std.proofs.lemmas.List.Elements.{All-filter, filter_passes}
use Rattle.std.proofs.lemmas.List.Kept.{IsStrictlySortedBy-filter}
use Rattle.std.specs.List.{filter}
use Rattle.std.specs.List.Sorted.{IsStrictlySortedBy}
use Rattle.sw_hashpath.specs.declared.secrets.Secrets.{Secrets}
use Rattle.sw_objdir.specs.Directories.{Kept, is_told}
use Rattle.sw_objdir.specs.Filings.{IsFilingsStep}
use Rattle.sw_object_steps.specs.Filings.{AreFiled}
use Rattle.sw_object_steps.specs.Journals.{Hash}
use Rattle.sw_object_steps.specs.Values.{Records}
use Rattle.sw_object_steps.specs.declared.dir_fault.DirFault.{DirFault}
use Rattle.sw_object_steps.specs.declared.entry.ObjEntry.{ObjEntry}
use Rattle.sw_pending.specs.Orders.{key_cmp}
use Rattle.sw_pending.specs.Outcomes.{IsRecord}
use Rattle.sw_pending.specs.Records.{key_of}
use Rattle.sw_pending.specs.declared.filed.Filed.{Filed}
use Rattle.sw_pending.specs.declared.key.RecordKey.{RecordKey}
use Rattle.sw_pending_dir.proofs.Lists.{from_filter, in_filter}
use Rattle.sw_volume.specs.Tree.{Folders}

map-filter : {X Y : Type 0} (f : X → Y) (p : Y → Bool) (xs : List X) → map f (filter (λ x. p (f x)) xs) ≡ filter p (map f xs)
map-filter f p [] = refl
map-filter {X} f p (x ∷ xs) = by (p (f x)) (map-filter f p xs)
  where
    by : (b : Bool) → map f (filter (λ z. p (f z)) xs) ≡ filter p (map f xs)
        → map f (if b then x ∷ filter (λ z. p (f z)) xs else filter (λ z. p (f z)) xs)
        ≡ (if b then f x ∷ filter p (map f xs) else filter p (map f xs))
    by true rest = ap (λ ys. f x ∷ ys) rest
    by false rest = rest

-- those of these hashes
abbrev pub records_at : (Hash → Bool) → List Filed → List Filed
records_at at list = filter (λ filed. at filed.name.hash) list

-- of all records that are filed, those of these hashes are the records that are filed under them
filed-at : (secrets : Secrets) (at : Hash → Bool) (told : Bool) (records : Hash → Records) (list : List Filed)
    → AreFiled secrets (λ hash. true) told records list → AreFiled secrets at told records (records_at at list)
filed-at secrets at told records list are = record {
  ascending = subst (λ (ks : List RecordKey). IsStrictlySortedBy key_cmp ks) (sym (map-filter key_of (λ (key : RecordKey). at key.hash) list))
      (IsStrictlySortedBy-filter key_cmp (λ (key : RecordKey). at key.hash) (map key_of list) are.ascending);
  sound = All-filter (λ (filed : Filed). at filed.name.hash) (IsRecord secrets) list are.sound;
  within = filter_passes (λ (filed : Filed). at filed.name.hash) list;
  exact = λ told_is filed is. (
    (λ among. (are.exact told_is filed refl).0 (from_filter (λ (f : Filed). at f.name.hash) list filed among).0),
    (λ stands. in_filter (λ (f : Filed). at f.name.hash) list filed ((are.exact told_is filed refl).1 stands) is),
  );
}

-- the answer without the records of other hashes
abbrev pub KeepsAt : (Hash → Bool) → Result (Vec Filed Global) DirFault → Result (Vec Filed Global) DirFault → Type 0
KeepsAt at (Ok all) (Ok some) = some.items ≡ records_at at all.items
KeepsAt at (Ok all) (Err fault) = ⊥
KeepsAt at (Err fault) (Ok some) = ⊥
KeepsAt at (Err fault) (Err same) = same ≡ fault

module _ {V : Type 0} (tells : V → Bool) (files : V → Folders) (faults : V → ℕ) (k n : Kept V) (at : Hash → Bool) where
  abbrev pub ReadsAt : (Hash → Bool) → Result (Vec Filed Global) DirFault → Type 0
  ReadsAt hashes got = IsFilingsStep tells files faults k (λ told records list. AreFiled k.secrets hashes told records list.items) got n

  -- a read of the records of these hashes that adds so much
  abbrev pub Adds : List ObjEntry → Result (Vec Filed Global) DirFault → Type 0
  Adds entries got = (part : ReadsAt at got) × (entries ≡ part.reads.follows.entries.0)

  -- a read of all records is one of those of these hashes, and adds the same
  pub reads-at : (got kept : Result (Vec Filed Global) DirFault) → KeepsAt at got kept → (step : ReadsAt (λ hash. true) got)
      → Adds step.reads.follows.entries.0 kept
  reads-at (Ok all) (Ok some) keeps step = (
    record {
      same = step.same;
      all = step.all;
      reads = record {
        read = step.reads.read;
        follows = step.reads.follows;
        settles = step.reads.settles;
        settled = step.reads.settled;
        shown = λ is. subst (λ (list : List Filed). AreFiled k.secrets at (is_told tells files faults n) (λ hash. (step.reads.read hash).records) list)
            (sym keeps) (filed-at k.secrets at (is_told tells files faults n) (λ hash. (step.reads.read hash).records) all.items (step.reads.shown refl));
        orderly = λ is. cc;
        failed = λ is. cc;
        known = step.reads.known;
        kept = step.reads.kept;
        held = step.reads.held;
      };
    },
    refl,
  )
  reads-at (Err fault) (Err same) is step = subst (λ (f : DirFault). Adds step.reads.follows.entries.0 (Err f)) (sym is) (
    record {
      same = step.same;
      all = step.all;
      reads = record {
        read = step.reads.read;
        follows = step.reads.follows;
        settles = step.reads.settles;
        settled = step.reads.settled;
        shown = step.reads.shown;
        orderly = step.reads.orderly;
        failed = step.reads.failed;
        known = step.reads.known;
        kept = step.reads.kept;
        held = step.reads.held;
      };
    },
    refl,
  )
  reads-at (Ok all) (Err fault) keeps step = absurd keeps
  reads-at (Err fault) (Ok some) keeps step = absurd keeps

-- what is left of an answer, where it is records and where it is a fault
pub keeps-some : (at : Hash → Bool) (got kept : Result (Vec Filed Global) DirFault) (all some : Vec Filed Global) → got ≡ Ok all → kept ≡ Ok some
    → some.items ≡ records_at at all.items → KeepsAt at got kept
keeps-some at got kept all some was now is = rw (was, now) is

pub keeps-fault : (at : Hash → Bool) (got kept : Result (Vec Filed Global) DirFault) → ((all : Vec Filed Global) → got ≡ Ok all → ⊥) → kept ≡ got
    → KeepsAt at got kept
keeps-fault at (Ok all) kept none same = absurd (none all refl)
keeps-fault at (Err fault) kept none same = rw same refl
