-- A mark and a drop, from what their parts left: how each ends.
use Rattle.std.proofs.Common.{◌≡◌, ℕ, Bool, true, false, ◌||◌, not, List, [], ◌∷◌, None, Some, Ok, Err, refl, sym, ◌∙◌, ap, subst}
use Rattle.sw_hashpath.specs.declared.name.Name.{Name}
use Rattle.sw_journal.specs.Entries.{about_record}
use Rattle.sw_object_steps.specs.Recorded.{dropping_entries, marking_entries, may_go}
use Rattle.sw_object_steps.specs.declared.answer.Answer.{Answer}
use Rattle.sw_object_steps.specs.declared.answer.Answer.TheVariants as answers
use Rattle.sw_object_steps.specs.declared.entry.ObjEntry.{ObjEntry}
use Rattle.sw_object_steps.specs.declared.entry.ObjEntry.TheVariants.{Dropped, Marked}
use Rattle.sw_objdir.proofs.RecordMaking.{ends-called, ends-step, failed-called, failed-step, idle-called, idle-step, wanting-called, wanting-step}
use Rattle.sw_objdir.proofs.RecordReady.{IsReady, found-own, ready-found, ready-listed}
use Rattle.sw_objdir.proofs.RecordReading.{Drop, IsOwn, Kind, Mark, own-hash, step_at}
use Rattle.sw_objdir.specs.Directories.{Kept}
use Rattle.sw_objdir.specs.Recording.{CalledFor, Decides, Ends, FindsAs, LooksGone, TellsGone}
use Rattle.sw_objdir.specs.Stepping.{IsStep}
use Rattle.sw_pending.specs.Records.{key_of, marked}
use Rattle.sw_pending.specs.Rules.{are_done, is_done}
use Rattle.sw_pending.specs.declared.filed.Filed.{Filed}
use Rattle.sw_pending.specs.declared.key.RecordKey.{RecordKey}
use Rattle.sw_volume.specs.Tree.{Folders}
use Rattle.sw_volume.specs.declared.errors.VolumeError.{VolumeError}
use Rattle.sw_volume.specs.declared.errors.VolumeError.TheVariants as volumes

-- what such a step is, and which calls it made
abbrev pub Ended : {V : Type 0} (tells : V → Bool) (files : V → Folders) (faults calls lists : V → ℕ) → Kept V → Name → Filed → Kind → Answer → Kept V → Type 0
Ended tells files faults calls lists k name filed kind answer n =
    IsStep tells files faults k name (step_at filed kind) answer n × CalledFor tells files faults calls lists k name filed (step_at filed kind) answer n

module _ {V : Type 0} (tells : V → Bool) (files : V → Folders) (faults calls lists : V → ℕ) (k : Kept V) (name : Name) (filed : Filed) where
  -- no record was found
  pub none-ends : (kind : Kind) (m : Kept V) → FindsAs tells files faults calls lists k name filed None m
      → Ended tells files faults calls lists k name filed kind (answers.Took false) m
  none-ends (Mark device) m finds =
      let ready = ready-found tells files faults calls lists k name filed (Mark device) None m finds refl in (
        idle-step tells files faults calls lists k name filed (Mark device) None true m ready refl,
        idle-called tells files faults calls lists k name filed (Mark device) None true m ready refl,
      )
  none-ends (Drop all) m finds =
      let ready = ready-found tells files faults calls lists k name filed (Drop all) None m finds refl in (
        idle-step tells files faults calls lists k name filed (Drop all) None true m ready refl,
        idle-called tells files faults calls lists k name filed (Drop all) None true m ready refl,
      )

  module _ (stood : Filed) (m : Kept V) (finds : FindsAs tells files faults calls lists k name filed (Some stood) m) where
    own : (kind : Kind) → IsOwn name filed stood
    own kind = found-own tells files faults calls lists k name filed kind (Some stood) m finds stood refl

    -- an entry of the record as it stood is one of the step's
    ends-as : (kind : Kind) (entry : List ℕ → ObjEntry) (n end : Kept V) (answer : Answer)
        → Ends tells files faults calls lists n (key_of stood) (entry stood.name.hash) answer end
        → Ends tells files faults calls lists n (key_of filed) (entry name.hash) answer end
    ends-as kind entry n end answer ends =
        subst (λ (key : RecordKey). Ends tells files faults calls lists n key (entry name.hash) answer end) (own kind).keyed
        (subst (λ (hash : List ℕ). Ends tells files faults calls lists n (key_of stood) (entry hash) answer end) (own-hash name filed stood (own kind)) ends)

    -- ---- a mark

    module _ (device : ℕ) where
      ready-mark : IsReady tells files faults calls lists k name filed (Mark device) (Some stood) true m
      ready-mark = ready-found tells files faults calls lists k name filed (Mark device) (Some stood) m finds refl

      -- the device was done
      pub done-ends : is_done device stood.done ≡ true → Ended tells files faults calls lists k name filed (Mark device) (answers.Took true) m
      done-ends done =
          let none : marking_entries name.hash (Some stood) device ≡ [] = rw done refl in (
            idle-step tells files faults calls lists k name filed (Mark device) (Some stood) true m ready-mark none,
            idle-called tells files faults calls lists k name filed (Mark device) (Some stood) true m ready-mark none,
          )

      -- it wasn't, and was to be marked
      pub mark-ends : is_done device stood.done ≡ false → (answer : Answer) (n : Kept V)
          → Ends tells files faults calls lists m (key_of stood) (Marked stood.name.hash (marked stood device) device) answer n
          → Ended tells files faults calls lists k name filed (Mark device) answer n
      mark-ends undone answer n ends =
          let one : marking_entries name.hash (Some stood) device ≡ Marked name.hash (marked stood device) device ∷ [] = rw undone refl in
          let so = ends-as (Mark device) (λ hash. Marked hash (marked stood device) device) m n answer ends in (
            ends-step tells files faults calls lists k name filed (Mark device) (Some stood) true m ready-mark (Marked name.hash (marked stood device) device)
                one refl (own (Mark device)).own answer n so,
            ends-called tells files faults calls lists k name filed (Mark device) (Some stood) true m ready-mark (Marked name.hash (marked stood device) device)
                one refl (own (Mark device)).own answer n so,
          )

    -- ---- a drop

    module _ (all : List ℕ) where
      -- what was decided of it, and the directory then
      pub record IsDecided (goes : Bool) (n : Kept V) : Type 0 where
        pub gone : Bool
        pub ready : IsReady tells files faults calls lists k name filed (Drop all) (Some stood) gone n
        pub goes_is : may_go (Some stood) all gone ≡ goes

      pub decided : (goes : Bool) (n : Kept V) → Decides tells files faults calls lists (are_done all stood.done) m name stood.time (Ok goes) n
          → IsDecided goes n
      decided goes n decides = by (are_done all stood.done) refl decides
        where
          by : (b : Bool) → are_done all stood.done ≡ b → Decides tells files faults calls lists b m name stood.time (Ok goes) n → IsDecided goes n
          by true done so =
              let unasked : not (are_done all stood.done) ≡ false = rw done refl in
              subst (λ (x : Kept V). IsDecided goes x) (sym so.same) (record {
                gone = true;
                ready = ready-found tells files faults calls lists k name filed (Drop all) (Some stood) m finds unasked;
                goes_is = let first : (are_done all stood.done || true) ≡ true = rw done refl in first ∙ sym so.goes_is;
              })
          by false undone so =
              let asked : not (are_done all stood.done) ≡ true = rw undone refl in
              record {
                gone = goes;
                ready = ready-listed tells files faults calls lists k name filed (Drop all) (Some stood) m finds asked goes n
                    (subst (λ (t : ℕ). LooksGone tells files faults calls lists m name t goes n)
                    (ap (λ (key : RecordKey). key.time) (own (Drop all)).keyed) so);
                goes_is = let rest : (are_done all stood.done || goes) ≡ goes = rw undone refl in rest;
              }

      -- it stays
      pub stays-ends : (n : Kept V) → Decides tells files faults calls lists (are_done all stood.done) m name stood.time (Ok false) n
          → Ended tells files faults calls lists k name filed (Drop all) (answers.Took false) n
      stays-ends n decides =
          let so = decided false n decides in
          let stays = so.goes_is in
          let none : dropping_entries name.hash (Some stood) (may_go (Some stood) all so.gone) ≡ [] = ap (dropping_entries name.hash (Some stood)) stays in (
            subst (λ (b : Bool). IsStep tells files faults k name (step_at filed (Drop all)) (answers.Took b) n) stays
                (idle-step tells files faults calls lists k name filed (Drop all) (Some stood) so.gone n so.ready none),
            subst (λ (b : Bool). CalledFor tells files faults calls lists k name filed (step_at filed (Drop all)) (answers.Took b) n) stays
                (idle-called tells files faults calls lists k name filed (Drop all) (Some stood) so.gone n so.ready none),
          )

      -- no doubt of it is left
      pub none-about : (n : Kept V) (goes : Bool) → Decides tells files faults calls lists (are_done all stood.done) m name stood.time (Ok goes) n
          → about_record (key_of stood) n.journal.doubts ≡ []
      none-about n goes decides = subst (λ (key : RecordKey). about_record key n.journal.doubts ≡ []) (sym (own (Drop all)).keyed)
          ((decided goes n decides).ready.about (own (Drop all)).own)

      -- it was to go
      pub drop-ends : (n : Kept V) → Decides tells files faults calls lists (are_done all stood.done) m name stood.time (Ok true) n
          → (answer : Answer) (end : Kept V) → Ends tells files faults calls lists n (key_of stood) (Dropped stood.name.hash stood) answer end
          → Ended tells files faults calls lists k name filed (Drop all) answer end
      drop-ends n decides answer end ends =
          let so = decided true n decides in
          let one : dropping_entries name.hash (Some stood) (may_go (Some stood) all so.gone) ≡ Dropped name.hash stood ∷ [] =
          ap (dropping_entries name.hash (Some stood)) so.goes_is in
          let as_own = ends-as (Drop all) (λ hash. Dropped hash stood) n end answer ends in (
            ends-step tells files faults calls lists k name filed (Drop all) (Some stood) so.gone n so.ready (Dropped name.hash stood) one so.goes_is
                (own (Drop all)).own answer end as_own,
            ends-called tells files faults calls lists k name filed (Drop all) (Some stood) so.gone n so.ready (Dropped name.hash stood) one so.goes_is
                (own (Drop all)).own answer end as_own,
          )

      -- the listing failed, or memory was wanting for it
      unlisted : (error : VolumeError) (n : Kept V) → Decides tells files faults calls lists (are_done all stood.done) m name stood.time (Err error) n
          → (not (are_done all stood.done) ≡ true) × TellsGone tells files faults calls lists m name stood.time (Err error) n
      unlisted error n decides = by (are_done all stood.done) decides
        where
          by : (b : Bool) → Decides tells files faults calls lists b m name stood.time (Err error) n
              → (not b ≡ true) × TellsGone tells files faults calls lists m name stood.time (Err error) n
          by true so = absurd so
          by false so = (refl, so)

      pub failed-ends : (n : Kept V) → Decides tells files faults calls lists (are_done all stood.done) m name stood.time (Err volumes.Failed) n
          → Ended tells files faults calls lists k name filed (Drop all) answers.Failed n
      failed-ends n decides =
          let so = unlisted volumes.Failed n decides in (
            failed-step tells files faults calls lists k name filed (Drop all) (Some stood) m finds so.0 n so.1.0 so.1.1,
            failed-called tells files faults calls lists k name filed (Drop all) (Some stood) m finds so.0 n so.1.0 so.1.1,
          )

      pub wanting-ends : (n : Kept V) → Decides tells files faults calls lists (are_done all stood.done) m name stood.time (Err volumes.NoMemory) n
          → Ended tells files faults calls lists k name filed (Drop all) answers.NoMemory n
      wanting-ends n decides =
          let so = unlisted volumes.NoMemory n decides in (
            wanting-step tells files faults calls lists k name filed (Drop all) (Some stood) m finds so.0 n so.1.0,
            wanting-called tells files faults calls lists k name filed (Drop all) (Some stood) m finds so.0 n so.1.0 so.1.1,
          )
