-- A read of several hashes at one lane, as the door over all lanes tells it.
use Rattle.std.proofs.Common.{◌≡◌, ◌==◌, ℕ, ◌-◌, ◌*◌, ◌^◌, ◌<◌, Bool, true, false, ◌&&◌, List, refl, sym, ◌∙◌, ap, subst}
use Rattle.std.proofs.Common.{Global, Option, Result, Ok, Err, Vec, inl, slice_set}
use Rattle.std.proofs.lemmas.Bool.{and_from, and_parts, eq-eqb}
use Rattle.std.specs.List.{slice_get}
use Rattle.std.specs.Str.{bytes_eq}
use borrow.Author.Tests.{eqb-true}
use Rattle.sw_core.proofs.Striped.{KeepsAt, reads-at}
use Rattle.sw_core.proofs.Witness.{hash_with, of-part, of-stripe, of-suffix}
use Rattle.sw_core.specs.Worlds.{lock_of, part_lock_of, stripe_in, stripe_lock_of}
use Rattle.sw_diskfile.specs.declared.file_name.FileName.{FileName}
use Rattle.sw_hashdir.specs.Steps.{is_hashed}
use Rattle.sw_hashpath.specs.HashParts.{IsDigest, partition_of, suffix_of}
use Rattle.sw_hashpath.specs.declared.secrets.Secrets.{Secrets}
use Rattle.sw_objdir.specs.Directories.{Kept}
use Rattle.sw_objdir.specs.Filings.{IsFilingsStep}
use Rattle.sw_objdir.specs.Stepping.{IsPartStep}
use Rattle.sw_object_steps.proofs.Hashes.{hash-same, hash-self}
use Rattle.sw_object_steps.specs.BaseRows.{IsBaseFor}
use Rattle.sw_object_steps.specs.Filings.{AreFiled}
use Rattle.sw_object_steps.specs.Histories.{IsGiven, IsRecorded, part_look}
use Rattle.sw_object_steps.specs.Journals.{Hash}
use Rattle.sw_object_steps.specs.Parts.{AreHashes, AreLines, IsFile, IsOfPart}
use Rattle.sw_object_steps.specs.Recorded.{doubts_records, doubts_write}
use Rattle.sw_object_steps.specs.Rules.{obj_rules}
use Rattle.sw_object_steps.specs.Values.{ObjValue}
use Rattle.sw_object_steps.specs.declared.dir_fault.DirFault.{DirFault}
use Rattle.sw_object_steps.specs.declared.stored.Stored.{Stored}
use Rattle.sw_peer.proofs.Calls.{BaseFrame, PartFrame, StripeFrame, base-step, calls-once, faithful-once, part-step, records-step}
use Rattle.sw_peer.specs.Sights.{Calls, IsBaseRead, IsFilesRead, IsHashesRead, IsInPart, IsInStripe, IsPartRead, IsRecordsRead, IsWriteRead, Nodes, Sight}
use Rattle.sw_peer.specs.Sights.{in_part, in_suffix, is_one}
use Rattle.sw_peer.specs.declared.link.Link.{Link}
use Rattle.sw_peer.specs.declared.part_read.PartRead.{PartRead}
use Rattle.sw_peer.specs.declared.part_read.PartRead.TheVariants.{Base, Files, Hashes, Write}
use Rattle.sw_pending.specs.declared.filed.Filed.{Filed}
use Rattle.sw_rows.specs.declared.row.Row.{Row}
use Rattle.sw_shared.proofs.Placing.{IsPut, held-same, moves, owner, puts, seen-before}
use Rattle.sw_shared.proofs.Seeing.{grows-on, numbers-now, power-found, reads, seats-now, secrets-found, stays}
use Rattle.sw_shared.specs.Doors.{HasTurn, IsShared, KeepsOf, SharedNodes, held_in, held_last, seen_in, seen_last, shared_sight}
use Rattle.sw_shared.specs.Turning.{HasSeen, InTurn, ObjView}
use Rattle.sw_state.specs.declared.state.State.{State}
use Rattle.sw_step.specs.Steps.{StepReads}
use Rattle.sw_suffix.specs.declared.dir_line.DirLine.{DirLine}
use Rattle.sw_suffix.specs.declared.told.SuffixHash.{SuffixHash}
use Rattle.sw_volume.specs.Tree.{Folders}

-- what is told of a step by the directory's own power and secrets is told by the nodes'
module _ {V : Type 0} (tells : V → Bool) (files : V → Folders) (faults : V → ℕ) (secrets : Secrets) (power : ℕ) (v u : ObjView V)
    (seen : HasSeen tells files faults secrets power v) where
  pub by-power : (step : ℕ → Kept V → Kept V → Type 0) → InTurn tells files faults (λ k n. step k.power k n) v u → InTurn tells files faults (step power) v u
  by-power step (k, n, turn, made) = (k, n, turn, subst (λ p. step p k n) (power-found tells files faults secrets power v seen k n u turn) made)

  pub by-secrets : (step : Secrets → Kept V → Kept V → Type 0) → InTurn tells files faults (λ k n. step k.secrets k n) v u
      → InTurn tells files faults (step secrets) v u
  by-secrets step (k, n, turn, made) = (k, n, turn, subst (λ p. step p k n) (secrets-found tells files faults secrets power v seen k n u turn) made)

module _ {V A : Type 0} (tells : V → Bool) (files : V → Folders) (faults : V → ℕ) (w : SharedNodes V) (is : IsShared tells files faults w) (device part : ℕ)
    (v u : ObjView V) (lanes : List (ObjView V)) (asks : ℕ) (put : IsPut w.lanes (part_lock_of w.lock_bits w.power device part) v u lanes) (link : Link)
    (at : Nodes → Hash → Bool) (damages : Bool) (reading : Nodes → Bool → (Hash → State) → A → Type 0) (read : Result A DirFault → PartRead) where
  abbrev place : ℕ
  place = part_lock_of w.lock_bits w.power device part

  abbrev old : Sight
  old = shared_sight tells files faults w

  abbrev new : Sight
  new = shared_sight tells files faults (record w { lanes = lanes; asks = asks })

  -- all these hashes are of the partition, and there is one
  pub part-came : (got : Result A DirFault) (h : Hash) → IsOfPart w.power part h → at old.nodes h ≡ true
      → ((k : Hash) → at old.nodes k ≡ true → partition_of k w.power ≡ part)
      → InTurn tells files faults (λ k n. IsPartStep tells files faults k (at old.nodes) damages (reading old.nodes) got n) v u
      → IsPartRead link device part at damages reading read old got new
  part-came got h of_part is_at inside (k, n, turn, step) =
      let seen = seen-before tells files faults w is place v u lanes asks put in
      let numbers = numbers-now tells files faults w.secrets w.power v seen k n u turn in
      let seats = seats-now tells files faults w.secrets w.power v seen k n u turn in
      let owns = owner tells files faults w is place v u lanes asks put numbers seats in
      let shows : Bool → (Hash → ObjValue) → ℕ → Result A DirFault → Type 0 = λ told stood front y. IsGiven (reading old.nodes told) stood y in
      let own : (key : Hash) → at old.nodes key ≡ true → new.objects.holds device key ≡ held_last tells files faults u.known.last key = λ key its.
      ap (λ (p : ℕ). held_in tells files faults (slice_get lanes (part_lock_of w.lock_bits w.power device p)) key) (inside key its)
      ∙ ap (λ o. held_in tells files faults o key) put.now in
      let made = reads tells files faults w.secrets w.power v seen k n u turn new.alone owns (at old.nodes) doubts_write part_look shows got step.reads
      (new.objects.holds device) own in
      let first = subst (λ o. StepReads obj_rules new.alone (seen_in tells files faults o) (at old.nodes) doubts_write part_look
      (shows (seen_last tells files faults u.known.last).told) got (seen_last tells files faults u.known.last) (new.objects.holds device)) (sym put.at) made in
      let both = subst (λ o. StepReads obj_rules new.alone (old.objects.seen place) (at old.nodes) doubts_write part_look
      (shows (seen_in tells files faults o).told) got (seen_in tells files faults o) (new.objects.holds device)) (sym put.now) first in
      record {
        moves = moves tells files faults w is place v u lanes asks put numbers seats (IsInPart w.power device part (at old.nodes)) device h
            (refl, of_part, is_at) (ap (part_lock_of w.lock_bits w.power device) of_part.part_is)
            (grows-on tells files faults w.secrets w.power v seen k n u turn step.reads.follows)
            (λ alone e x away equal. stays tells files faults w.secrets w.power v seen k n u turn x (step.all x) (owns alone));
        holds_all = λ alone e x. held-same tells files faults w is place v u lanes asks put numbers seats e x
            (λ equal. stays tells files faults w.secrets w.power v seen k n u turn x (step.all x) (owns alone));
        step = both;
        sound = step.sound;
        trail = inl refl;
      }

  pub door-part : (got : Result A DirFault) (h : Hash) → IsOfPart w.power part h → at old.nodes h ≡ true
      → ((k : Hash) → at old.nodes k ≡ true → partition_of k w.power ≡ part)
      → InTurn tells files faults (λ k n. IsPartStep tells files faults k (at old.nodes) damages (reading old.nodes) got n) v u
      → Calls (IsPartRead link device part at damages reading read) old link (Ok got) new
  door-part got h of_part is_at inside turn =
      calls-once (PartFrame device part at) (IsPartRead link device part at damages reading read) (part-step link device part at damages reading read) old new
      link got (faithful-once link) (part-came got h of_part is_at inside turn)

-- a read of what stands under the name of a record
module _ {V : Type 0} (tells : V → Bool) (files : V → Folders) (faults : V → ℕ) (w : SharedNodes V) (is : IsShared tells files faults w) (device : ℕ)
    (filed : Filed) (v u : ObjView V) (lanes : List (ObjView V)) (put : IsPut w.lanes (lock_of w.lock_bits w.power device filed.name.hash) v u lanes)
    (link : Link) where
  pub door-base : (got : Result (Option Row) DirFault) → IsDigest filed.name.hash
      → InTurn tells files faults (λ k n. IsPartStep tells files faults k (bytes_eq filed.name.hash) true
      (λ told s row. told ≡ true → IsBaseFor filed (s filed.name.hash) row) got n) v u
      → Calls (IsBaseRead link device filed) (shared_sight tells files faults w) link (Ok got)
      (shared_sight tells files faults (record w { lanes = lanes }))
  door-base got digest turn =
      calls-once (BaseFrame device filed) (IsBaseRead link device filed) (base-step link device filed) (shared_sight tells files faults w)
      (shared_sight tells files faults (record w { lanes = lanes })) link got (faithful-once link)
      (part-came tells files faults w is device (partition_of filed.name.hash w.power) v u lanes w.asks put link (is_one filed.name.hash) true
      (λ nodes told s row. told ≡ true → IsBaseFor filed (s filed.name.hash) row) (λ row. Base filed row) got filed.name.hash
      (record { digest = digest; part_is = refl }) (hash-self filed.name.hash)
      (λ key its. ap (λ (h : Hash). partition_of h w.power) (sym (hash-same filed.name.hash key its))) turn)

-- a read of the records of a stripe
module _ {V : Type 0} (tells : V → Bool) (files : V → Folders) (faults : V → ℕ) (w : SharedNodes V) (is : IsShared tells files faults w) (device stripe : ℕ)
    (v u : ObjView V) (lanes : List (ObjView V)) (put : IsPut w.lanes (stripe_lock_of w.lock_bits device stripe) v u lanes) (link : Link) where
  abbrev stripe_place : ℕ
  stripe_place = stripe_lock_of w.lock_bits device stripe

  abbrev was : Sight
  was = shared_sight tells files faults w

  abbrev is_now : Sight
  is_now = shared_sight tells files faults (record w { lanes = lanes })

  abbrev of_stripe : Hash → Bool
  of_stripe hash = stripe_in w.lock_bits w.power hash == stripe

  -- what stands at the lock of the stripe
  abbrev stripe_held : Hash → ObjValue
  stripe_held hash = held_in tells files faults (slice_get lanes stripe_place) hash

  -- the stripe has a hash
  pub door-records : (got : Result (Vec Filed Global) DirFault) (h : Hash) → stripe_in w.lock_bits w.power h ≡ stripe
      → InTurn tells files faults (λ k n. IsFilingsStep tells files faults k (λ told r list. AreFiled w.secrets of_stripe told r list.items) got n) v u
      → Calls (IsRecordsRead link device stripe) was link (Ok got) is_now
  door-records got h its (k, n, turn, step) =
      let seen = seen-before tells files faults w is stripe_place v u lanes w.asks put in
      let numbers = numbers-now tells files faults w.secrets w.power v seen k n u turn in
      let seats = seats-now tells files faults w.secrets w.power v seen k n u turn in
      let owns = owner tells files faults w is stripe_place v u lanes w.asks put numbers seats in
      let all : Hash → Bool = λ hash. true in
      let shows : Bool → (Hash → ObjValue) → ℕ → Result (Vec Filed Global) DirFault → Type 0 = λ told stood front y.
      IsRecorded (λ r list. AreFiled w.secrets of_stripe told r list.items) stood y in
      let made = reads tells files faults w.secrets w.power v seen k n u turn is_now.alone owns all doubts_records part_look shows got step.reads
      stripe_held (λ key own. ap (λ o. held_in tells files faults o key) put.now) in
      let first = subst (λ o. StepReads obj_rules is_now.alone (seen_in tells files faults o) all doubts_records part_look
      (shows (seen_last tells files faults u.known.last).told) got (seen_last tells files faults u.known.last) stripe_held) (sym put.at) made in
      let both = subst (λ o. StepReads obj_rules is_now.alone (was.objects.seen stripe_place) all doubts_records part_look
      (shows (seen_in tells files faults o).told) got (seen_in tells files faults o) stripe_held) (sym put.now) first in
      calls-once (StripeFrame device stripe) (IsRecordsRead link device stripe) (records-step link device stripe) was is_now link got (faithful-once link)
      (record {
        moves = moves tells files faults w is stripe_place v u lanes w.asks put numbers seats (IsInStripe was.nodes device stripe) device h (refl, its)
            (ap (stripe_lock_of w.lock_bits device) its) (grows-on tells files faults w.secrets w.power v seen k n u turn step.reads.follows)
            (λ alone e x away equal. stays tells files faults w.secrets w.power v seen k n u turn x (step.all x) (owns alone));
        some = (h, its);
        holds_all = λ alone e x. held-same tells files faults w is stripe_place v u lanes w.asks put numbers seats e x
            (λ equal. stays tells files faults w.secrets w.power v seen k n u turn x (step.all x) (owns alone));
        held = stripe_held;
        is_held = λ alone hash equal. ap (λ (l : ℕ). held_in tells files faults (slice_get lanes l) hash) (sym equal);
        step = both;
        trail = inl refl;
      })

-- ---- records of some hashes

keeps-at : (at : Hash → Bool) (got kept : Result (Vec Filed Global) DirFault) → KeepsOf at got kept → KeepsAt at got kept
keeps-at at (Ok all) (Ok some) keeps = keeps
keeps-at at (Ok all) (Err fault) keeps = absurd keeps
keeps-at at (Err fault) (Ok some) keeps = absurd keeps
keeps-at at (Err fault) (Err same) keeps = keeps

pub kept-records : {V : Type 0} (tells : V → Bool) (files : V → Folders) (faults : V → ℕ) (v u : ObjView V) (at : Hash → Bool)
    (got kept : Result (Vec Filed Global) DirFault) → KeepsOf at got kept
    → InTurn tells files faults (λ k n. IsFilingsStep tells files faults k (λ told r list. AreFiled k.secrets (λ hash. true) told r list.items) got n) v u
    → InTurn tells files faults (λ k n. IsFilingsStep tells files faults k (λ told r list. AreFiled k.secrets at told r list.items) kept n) v u
kept-records tells files faults v u at got kept keeps (k, n, turn, step) =
    (k, n, turn, (reads-at tells files faults k n at got kept (keeps-at at got kept keeps) step).0)

-- ---- turns of the door

module _ {V : Type 0} (tells : V → Bool) (files : V → Folders) (faults : V → ℕ) (w : SharedNodes V) (is : IsShared tells files faults w) (place : ℕ)
    (next : SharedNodes V) where
  turn-by-power : (step : ℕ → Kept V → Kept V → Type 0) → HasTurn tells files faults w place (λ k n. step k.power k n) next
      → HasTurn tells files faults w place (step w.power) next
  turn-by-power step had = record {
    before = had.before;
    after = had.after;
    at = had.at;
    turn = by-power tells files faults w.secrets w.power had.before had.after (is.lanes place had.before had.at) step had.turn;
    left = had.left;
  }

  turn-by-secrets : (step : Secrets → Kept V → Kept V → Type 0) → HasTurn tells files faults w place (λ k n. step k.secrets k n) next
      → HasTurn tells files faults w place (step w.secrets) next
  turn-by-secrets step had = record {
    before = had.before;
    after = had.after;
    at = had.at;
    turn = by-secrets tells files faults w.secrets w.power had.before had.after (is.lanes place had.before had.at) step had.turn;
    left = had.left;
  }

module _ {V : Type 0} (tells : V → Bool) (files : V → Folders) (faults : V → ℕ) (w next : SharedNodes V) (is : IsShared tells files faults w) (device : ℕ)
    (link : Link) where
  abbrev was_all : Sight
  was_all = shared_sight tells files faults w

  -- a read of a partition, behind which the count of messages that ask may have risen
  part-turn : {A : Type 0} (part asks : ℕ) (at : Nodes → Hash → Bool) (damages : Bool) (reading : Nodes → Bool → (Hash → State) → A → Type 0)
      (read : Result A DirFault → PartRead) (got : Result A DirFault) (h : Hash) → IsOfPart w.power part h → at was_all.nodes h ≡ true
      → ((k : Hash) → at was_all.nodes k ≡ true → partition_of k w.power ≡ part)
      → HasTurn tells files faults w (part_lock_of w.lock_bits w.power device part)
      (λ k n. IsPartStep tells files faults k (at was_all.nodes) damages (reading was_all.nodes) got n) next
      → Calls (IsPartRead link device part at damages reading read) was_all link (Ok got) (shared_sight tells files faults (record next { asks = asks }))
  part-turn part asks at damages reading read got h of_part is_at inside had =
      let place : ℕ = part_lock_of w.lock_bits w.power device part in
      subst (λ (x : SharedNodes V). Calls (IsPartRead link device part at damages reading read) was_all link (Ok got)
      (shared_sight tells files faults (record x { asks = asks }))) (sym had.left)
      (door-part tells files faults w is device part had.before had.after (slice_set w.lanes place had.after) asks
      (puts w.lanes place had.before had.after had.at) link at damages reading read got h of_part is_at inside had.turn)

  pub hashes-door : (part asks : ℕ) (got : Result (Vec SuffixHash Global) DirFault) → part < 2 ^ w.power
      → HasTurn tells files faults w (part_lock_of w.lock_bits w.power device part)
      (λ k n. IsPartStep tells files faults k (λ hash. partition_of hash k.power == part) false (λ told s got. AreHashes k.power part told s got.items) got n)
      next
      → Calls (IsHashesRead link device part) was_all link (Ok got) (shared_sight tells files faults (record next { asks = asks }))
  hashes-door part asks got below had =
      let hash : Hash = hash_with w.power part 0 in
      let of : IsOfPart w.power part hash = of-part w.power part 0 is.greatest below in
      part-turn part asks (in_part part) false (λ nodes told s got. AreHashes nodes.power part told s got.items) (λ got. Hashes part got) got hash of
      (eq-eqb _ _ of.part_is) (λ key its. eqb-true (partition_of key w.power) part its)
      (turn-by-power tells files faults w is (part_lock_of w.lock_bits w.power device part) next
      (λ p k n. IsPartStep tells files faults k (λ hash. partition_of hash p == part) false (λ told s got. AreHashes p part told s got.items) got n) had)

  pub files-door : (part suffix asks : ℕ) (got : Result (Vec DirLine Global) DirFault) → part < 2 ^ w.power → suffix < 4096
      → HasTurn tells files faults w (part_lock_of w.lock_bits w.power device part)
      (λ k n. IsPartStep tells files faults k (λ hash. (partition_of hash k.power == part) && (suffix_of hash == suffix)) false
      (λ told s got. AreLines k.power part suffix told s got.items) got n) next
      → Calls (IsFilesRead link device part suffix) was_all link (Ok got) (shared_sight tells files faults (record next { asks = asks }))
  files-door part suffix asks got below small had =
      let hash : Hash = hash_with w.power part suffix in
      let of : IsOfPart w.power part hash = of-part w.power part suffix is.greatest below in
      part-turn part asks (in_suffix part suffix) false (λ nodes told s got. AreLines nodes.power part suffix told s got.items)
      (λ got. Files part suffix got) got hash of
      (and_from _ _ (eq-eqb _ _ of.part_is) (eq-eqb _ _ (of-suffix w.power part suffix small)))
      (λ key its. eqb-true (partition_of key w.power) part (and_parts (partition_of key w.power == part) (suffix_of key == suffix) its).0)
      (turn-by-power tells files faults w is (part_lock_of w.lock_bits w.power device part) next
      (λ p k n. IsPartStep tells files faults k (λ hash. (partition_of hash p == part) && (suffix_of hash == suffix)) false
      (λ told s got. AreLines p part suffix told s got.items) got n) had)

  pub write-door : (part : ℕ) (hash : Hash) (file : FileName) (got : Result (Option Stored) DirFault) → IsOfPart w.power part hash
      → HasTurn tells files faults w (part_lock_of w.lock_bits w.power device part)
      (λ k n. IsPartStep tells files faults k (bytes_eq hash) true (λ told s got. IsFile (is_hashed k.secrets) hash file told s got) got n) next
      → Calls (IsWriteRead link device part hash file) was_all link (Ok got) (shared_sight tells files faults next)
  write-door part hash file got of had =
      part-turn part next.asks (is_one hash) true (λ nodes told s got. IsFile nodes.fits hash file told s got) (λ got. Write part hash file got) got hash of
      (hash-self hash) (λ key its. ap (λ (h : Hash). partition_of h w.power) (sym (hash-same hash key its)) ∙ of.part_is)
      (turn-by-secrets tells files faults w is (part_lock_of w.lock_bits w.power device part) next
      (λ x k n. IsPartStep tells files faults k (bytes_eq hash) true (λ told s got. IsFile (is_hashed x) hash file told s got) got n) had)

  pub base-door : (filed : Filed) (got : Result (Option Row) DirFault) → IsDigest filed.name.hash
      → HasTurn tells files faults w (lock_of w.lock_bits w.power device filed.name.hash)
      (λ k n. IsPartStep tells files faults k (bytes_eq filed.name.hash) true (λ told s row. told ≡ true → IsBaseFor filed (s filed.name.hash) row) got n)
      next
      → Calls (IsBaseRead link device filed) was_all link (Ok got) (shared_sight tells files faults next)
  base-door filed got digest had =
      let place : ℕ = lock_of w.lock_bits w.power device filed.name.hash in
      subst (λ (x : SharedNodes V). Calls (IsBaseRead link device filed) was_all link (Ok got) (shared_sight tells files faults x)) (sym had.left)
      (door-base tells files faults w is device filed had.before had.after (slice_set w.lanes place had.after)
      (puts w.lanes place had.before had.after had.at) link got digest had.turn)

  pub records-door : (stripe : ℕ) (got : Result (Vec Filed Global) DirFault) → stripe < 2 ^ w.lock_bits
      → HasTurn tells files faults w (stripe_lock_of w.lock_bits device stripe)
      (λ k n. IsFilingsStep tells files faults k (λ told r list. AreFiled k.secrets (λ hash. stripe_in w.lock_bits w.power hash == stripe) told r list.items)
      got n) next
      → Calls (IsRecordsRead link device stripe) was_all link (Ok got) (shared_sight tells files faults next)
  records-door stripe got below had =
      let place : ℕ = stripe_lock_of w.lock_bits device stripe in
      let own = turn-by-secrets tells files faults w is place next
      (λ x k n. IsFilingsStep tells files faults k (λ told r list. AreFiled x (λ hash. stripe_in w.lock_bits w.power hash == stripe) told r list.items) got n)
      had in
      let hash : Hash = hash_with w.power (stripe * 2 ^ (w.power - w.lock_bits)) 0 in
      subst (λ (x : SharedNodes V). Calls (IsRecordsRead link device stripe) was_all link (Ok got) (shared_sight tells files faults x)) (sym own.left)
      (door-records tells files faults w is device stripe own.before own.after (slice_set w.lanes place own.after)
      (puts w.lanes place own.before own.after own.at) link got hash (of-stripe w.lock_bits w.power stripe is.fine is.greatest below) own.turn)
