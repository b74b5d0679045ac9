-- The last part of a step at a record: an entry is doubted, its file put or unlinked, and the entry made, left in doubt or taken back.
use Rattle.std.proofs.Common.{◌≡◌, ℕ, ◌+◌, ◌≤◌, Bool, true, ◌&&◌, nat_le, List, [], ◌∷◌, ◌++◌, length, refl, sym, ◌∙◌, ap, arith, inl, inr, ◌⊎◌, codes}
use Rattle.std.proofs.lemmas.Bool.{and_parts, leb-true}
use Rattle.sw_journal.specs.Entries.{about_record, record_left, with_last_entered, with_new_doubt, without_last_doubt}
use Rattle.sw_object_steps.specs.Journals.{Journal, bodies, entry_size, has_room, with_doubt, with_entry}
use Rattle.sw_object_steps.specs.declared.entry.ObjEntry.{ObjEntry}
use Rattle.sw_objdir.proofs.Looking.{dir-moved, looks-moved, looks-refl, tells-now}
use Rattle.sw_objdir.proofs.RecordFiles.{dir-doubted, dir-entered, here-doubted, here-entered, others-doubted, others-entered, still-may, still-set}
use Rattle.sw_objdir.proofs.RecordSettling.{IsOne}
use Rattle.sw_objdir.specs.Directories.{IsDir, Kept, is_told}
use Rattle.sw_objdir.specs.Recording.{Doubts, Enters, Wants, puts_for, text_left}
use Rattle.sw_objdir.specs.Stepping.{SameFiles}
use Rattle.sw_outside.specs.Counts.{raised}
use Rattle.sw_pending.specs.Names.{folder_text, name_text}
use Rattle.sw_pending.specs.declared.key.RecordKey.{RecordKey}
use Rattle.sw_pending_dir.specs.Steps.{KeepsRecords, SetsRecord}
use Rattle.sw_volume.specs.Tree.{Folders, contents}
use Rattle.sw_volume.specs.Volume.{MaySet, Sets, raised_by}

-- ---- the journal

-- whether there is room is asked with the size of the body: a record has none
pub room-for : (j : Journal) (e : ObjEntry) (b : Bool) → entry_size e ≡ 0
    → b ≡ (nat_le (length j.entries + length j.doubts + 1) j.max_entries && nat_le (bodies j.entries + bodies j.doubts + 0) j.max_bytes) → has_room j e ≡ b
room-for j e b size is =
    ap (λ (n : ℕ). nat_le (length j.entries + length j.doubts + 1) j.max_entries && nat_le (bodies j.entries + bodies j.doubts + n) j.max_bytes) size ∙ sym is

pub fits-in : (j : Journal) (e : ObjEntry) → has_room j e ≡ true → bodies j.entries + bodies j.doubts + entry_size e ≤ j.max_bytes
fits-in j e room = leb-true (bodies j.entries + bodies j.doubts + entry_size e) j.max_bytes
    (and_parts (nat_le (length j.entries + length j.doubts + 1) j.max_entries) (nat_le (bodies j.entries + bodies j.doubts + entry_size e) j.max_bytes) room).1

-- an entry is doubted, and then made or taken back
module _ (j d : Journal) (e : ObjEntry) (doubted : d ≡ with_new_doubt j e) where
  pub last-doubt : d.doubts ≡ j.doubts ++ e ∷ []
  last-doubt = ap (λ (x : Journal). x.doubts) doubted

  pub confirms-as : (f : Journal) → ((ds : List ObjEntry) (x : ObjEntry) → d.doubts ≡ ds ++ x ∷ [] → f ≡ with_last_entered d ds x) → f ≡ with_entry j e
  confirms-as f confirms = confirms j.doubts e last-doubt ∙ ap (λ (x : Journal). with_last_entered x j.doubts e) doubted

  pub withdraws-as : (f : Journal) → ((ds : List ObjEntry) (x : ObjEntry) → d.doubts ≡ ds ++ x ∷ [] → f ≡ without_last_doubt d ds) → f ≡ j
  withdraws-as f withdraws = withdraws j.doubts e last-doubt ∙ ap (λ (x : Journal). without_last_doubt x j.doubts) doubted

-- ---- the directory

module _ {V : Type 0} (tells : V → Bool) (files : V → Folders) (faults calls lists : V → ℕ) (k : Kept V) (dir : IsDir tells files faults k) (key : RecordKey)
    (e : ObjEntry) where
  -- memory was wanting before the volume was called
  pub wants-first : Wants tells files faults calls lists k key.hash e k
  wants-first = record {
    dir = dir;
    looks = looks-refl tells files faults k;
    puts = 0;
    within = omega arith;
    counts = record { called = refl; listed = refl; failed = refl };
    kept = refl;
  }

  -- in the call, which changed nothing
  pub wants-then : (v : V) (puts : ℕ) → puts ≤ puts_for (record_left e) → tells v ≡ tells k.volume → SameFiles tells files faults k (record k { volume = v })
      → faults k.volume ≤ faults v → calls v ≡ raised_by puts (calls k.volume) → lists v ≡ lists k.volume → faults v ≡ faults k.volume
      → Wants tells files faults calls lists k key.hash e (record k { volume = v })
  wants-then v puts within told_is stay up called listed fine = record {
    dir = dir-moved tells files faults k v dir told_is stay;
    looks = looks-moved tells files faults k v told_is stay up;
    puts = puts;
    within = within;
    counts = record { called = called; listed = listed; failed = fine };
    kept = refl;
  }

  -- before the call or in it, where it puts a record
  pub wants-once : puts_for (record_left e) ≡ 1 → (v : V) → tells v ≡ tells k.volume → SameFiles tells files faults k (record k { volume = v })
      → faults k.volume ≤ faults v → (calls v ≡ calls k.volume) ⊎ (calls v ≡ raised (calls k.volume)) → lists v ≡ lists k.volume
      → faults v ≡ faults k.volume → Wants tells files faults calls lists k key.hash e (record k { volume = v })
  wants-once puts v told_is stay up (inl none) listed fine = wants-then v 0 (omega arith) told_is stay up none listed fine
  wants-once puts v told_is stay up (inr one) listed fine = wants-then v 1 (omega (arith, puts)) told_is stay up one listed fine

  module _ (one : IsOne key e) (settled : about_record key k.journal.doubts ≡ []) (v : V) (told_is : tells v ≡ tells k.volume)
      (listed : lists v ≡ lists k.volume) (called : calls v ≡ raised (calls k.volume)) where
    -- it was made
    pub enters-as : (tells k.volume ≡ true → Sets (contents (files k.volume)) (contents (files v)) (folder_text key.hash) (name_text key) (text_left e))
        → (tells k.volume ≡ true → SetsRecord k.secrets key (record_left e) (files k.volume) (files v)) → faults v ≡ faults k.volume
        → Enters tells files faults calls lists k key e (record k { volume = v; journal = with_entry k.journal e })
    enters-as sets filed fine = record {
      dir = dir-entered tells files faults k dir key e one settled v told_is still filed-told;
      same = record { began = refl; secrets = refl; power = refl; told = told_is };
      here = here-entered tells files faults k dir key e one settled v told_is still filed-told;
      others = others-entered tells files faults k dir key e one settled v told_is still filed-told;
      sets = sets;
      counts = record { called = called; listed = listed; failed = fine };
      entered = refl;
    }
      where
        still : tells k.volume ≡ true → (rest file : List ℕ) → contents (files v) (codes "objects" ++ rest) file
            ≡ contents (files k.volume) (codes "objects" ++ rest) file
        still told = still-set (contents (files k.volume)) (contents (files v)) key (text_left e) (sets told)

        filed-told : is_told tells files faults k ≡ true → SetsRecord k.secrets key (record_left e) (files k.volume) (files v)
        filed-told told = filed (tells-now tells files faults k dir told)

    -- it was made or wasn't
    pub doubts-as : (tells k.volume ≡ true → MaySet (contents (files k.volume)) (contents (files v)) (folder_text key.hash) (name_text key) (text_left e))
        → (tells k.volume ≡ true → KeepsRecords k.secrets (files k.volume) (files v)
        ⊎ SetsRecord k.secrets key (record_left e) (files k.volume) (files v)) → faults v ≡ raised (faults k.volume) → faults k.volume ≤ faults v
        → Doubts tells files faults calls lists k key e (record k { volume = v; journal = with_doubt k.journal e })
    doubts-as may filed once up = record {
      dir = dir-doubted tells files faults k dir key e one settled v told_is still filed-told;
      same = record { began = refl; secrets = refl; power = refl; told = told_is };
      here = here-doubted tells files faults k dir key e one settled v told_is still filed-told;
      others = others-doubted tells files faults k dir key e one settled v told_is still filed-told;
      may = may;
      counts = record { called = called; listed = listed; failed = once };
      later = up;
      in_doubt = refl;
    }
      where
        still : tells k.volume ≡ true → (rest file : List ℕ) → contents (files v) (codes "objects" ++ rest) file
            ≡ contents (files k.volume) (codes "objects" ++ rest) file
        still told = still-may (contents (files k.volume)) (contents (files v)) key (text_left e) (may told)

        filed-told : is_told tells files faults k ≡ true → KeepsRecords k.secrets (files k.volume) (files v)
            ⊎ SetsRecord k.secrets key (record_left e) (files k.volume) (files v)
        filed-told told = filed (tells-now tells files faults k dir told)
