-- A changing step: what refuses it, and what it looked at.
use Rattle.std.proofs.Common.{◌≡◌, ℕ, false, ◌+◌, ◌-◌, ◌<◌, ◌≤◌, ◌^◌, Bool, true, List, [], length, refl, sym, ◌∙◌, ap, subst, arith, Option}
use Rattle.std.proofs.Common.{◌⊎◌, Some, IsSome, inl, inr, nat_le, ◌&&◌}
use Rattle.std.proofs.lemmas.List.{append-nil}
use Rattle.std.proofs.lemmas.Bool.{cases_Bool, leb-true, leb-false}
use Rattle.std.proofs.Math.Nat.{min-eq_left, min-eq_right}
use Rattle.sw_cleanup.specs.Cleaning.{AreListedIn}
use Rattle.sw_cleanup.specs.Directories.{StandsIn}
use Rattle.sw_diskfile.specs.FileNames.{name_text}
use Rattle.sw_diskfile.specs.Picking.{IsPicked}
use Rattle.sw_diskfile.specs.declared.file_name.FileName.{FileName}
use Rattle.sw_diskfile.specs.declared.picking.Picked.{Picked}
use Rattle.sw_hashdir.specs.Places.{dir_text}
use Rattle.sw_hashdir.specs.Readings.{IsSecondRead}
use Rattle.sw_object_steps.specs.Outlines.{picked_outline}
use Rattle.sw_hashpath.specs.declared.name.Name.{Name}
use Rattle.sw_journal.specs.Settling.{SettlesFirst}
use Rattle.sw_object_steps.specs.Recorded.{is_write}
use Rattle.sw_object_steps.specs.Rules.{obj_ending, obj_rules}
use Rattle.sw_object_steps.specs.Values.{ObjValue}
use Rattle.sw_objdir.proofs.Journaling.{write-step}
use Rattle.sw_objdir.proofs.Looking.{held-same, looks-trans, order-same, tells-now, told-same, values-same}
use Rattle.sw_objdir.proofs.Singled.{AreSingle, kept-single}
use Rattle.sw_objdir.specs.Calling.{Looked, entry_of, reads_of}
use Rattle.sw_objdir.specs.Writing.{Called}
use Rattle.sw_objdir.specs.Directories.{IsDir, Kept, held, history_of, is_told, steps_of, values_of}
use Rattle.sw_objdir.specs.Stepping.{IsSeenAs, IsStep, LooksAt}
use Rattle.sw_outside.specs.Counts.{raised}
use Rattle.sw_outside.specs.Faults.{HasRisen}
use Rattle.sw_object_steps.proofs.Answering.{is_refusal}
use Rattle.sw_object_steps.specs.Journals.{Hash, Journal, bodies, body_size, has_room, written}
use Rattle.sw_object_steps.specs.Outlines.{outline_of, standing_expiry}
use Rattle.sw_object_steps.specs.Steps.{asks_expiry, is_entered, refusal_by, write_of}
use Rattle.sw_object_steps.specs.declared.answer.Answer.{Answer}
use Rattle.sw_object_steps.specs.declared.answer.Answer.TheVariants as answers
use Rattle.sw_object_steps.specs.declared.change.Change.{Change}
use Rattle.sw_object_steps.specs.declared.outline.Outline.{Outline}
use Rattle.sw_hashpath.specs.declared.secrets.Secrets.{Secrets}
use Rattle.sw_pending_dir.proofs.Stepping.{keeps-same}
use Rattle.sw_pending_dir.specs.Places.{AllRecordsInOrder}
use Rattle.sw_step.specs.Rules.{CanStand, Refuses}
use Rattle.sw_volume.specs.Tree.{Folders, contents}
use Rattle.sw_volume.specs.Volume.{Contents, raised_by}

-- ---- refusals

pub refusal-ends : (answer : Answer) → is_refusal answer ≡ true → obj_ending answer ≡ Refuses
refusal-ends (answers.Done front) is = cc
refusal-ends (answers.Buried front) is = cc
refusal-ends (answers.Took is_there) is = cc
refusal-ends (answers.Conflict time) is = refl
refusal-ends (answers.NotFound time) is = refl
refusal-ends (answers.Mismatch second) is = refl
refusal-ends answers.Exists is = refl
refusal-ends answers.JournalFull is = cc
refusal-ends (answers.Damaged bad) is = cc
refusal-ends answers.Failed is = cc
refusal-ends answers.NoMemory is = cc

pub refusal-unentered : (answer : Answer) → is_refusal answer ≡ true → is_entered answer ≡ false
refusal-unentered (answers.Done front) is = cc
refusal-unentered (answers.Buried front) is = cc
refusal-unentered (answers.Took is_there) is = refl
refusal-unentered (answers.Conflict time) is = refl
refusal-unentered (answers.NotFound time) is = refl
refusal-unentered (answers.Mismatch second) is = refl
refusal-unentered answers.Exists is = refl
refusal-unentered answers.JournalFull is = refl
refusal-unentered (answers.Damaged bad) is = refl
refusal-unentered answers.Failed is = refl
refusal-unentered answers.NoMemory is = refl

-- the listing settled the doubt, where there was one, and nothing else did
pub settled-by : {j between : Journal} (after : Journal) (hash : Hash) (o : Outline) → SettlesFirst hash o j between → after ≡ between
    → (after ≡ j) ⊎ ((outline : Outline) × SettlesFirst hash outline j after)
settled-by {j} after hash o settles same = inr (o, subst (λ (x : Journal). SettlesFirst hash o j x) (sym same) settles)

-- one fault more, and the count didn't fall
pub risen-after : (a b c : ℕ) → b ≡ a → c ≡ raised b → b ≤ c → HasRisen a c
risen-after a b c same once up = elim (cases_Bool (nat_le (b + 1) (2 ^ 64 - 1))) [
  | inl within ↦ let le : b + 1 ≤ 2 ^ 64 - 1 = leb-true (b + 1) (2 ^ 64 - 1) within in let is : c ≡ b + 1 = once
      ∙ min-eq_left le in inl (omega (arith, same, is))
  | inr past ↦ let gt : 2 ^ 64 - 1 < b + 1 = leb-false (b + 1) (2 ^ 64 - 1) past in let is : c ≡ 2 ^ 64 - 1 = once
      ∙ min-eq_right (omega (arith, gt)) in inr (omega (arith, is))
]

pub room-as : (j : Journal) (name : Name) (change : Change) (size : ℕ) (b : Bool) → size ≡ body_size (write_of change).kind
    → b ≡ (nat_le (length j.entries + length j.doubts + 1) j.max_entries && nat_le (bodies j.entries + bodies j.doubts + size) j.max_bytes)
    → has_room j (entry_of name change) ≡ b
room-as j name change size b sizes is = rw (sym sizes) (sym is)

-- ---- files that stay

-- where the files of a directory are the same, its listing tells the same
pub listed-in : (old new : Contents) (dir : List ℕ) (names : List FileName) → ((f : List ℕ) → new dir f ≡ old dir f) → AreListedIn old dir names
    → AreListedIn new dir names
listed-in old new dir names same are = record {
  are_names = λ f. (λ is. moved f ((are.are_names f).0 is), λ stands. (are.are_names f).1 (back f stands));
  ascending = are.ascending;
}
  where
    moved : (f : FileName) → StandsIn old dir f → StandsIn new dir f
    moved f stands = record {
      is_time = stands.is_time;
      stands = subst (λ (o : Option (List ℕ)). IsSome o) (sym (same (name_text f))) stands.stands;
    }

    back : (f : FileName) → StandsIn new dir f → StandsIn old dir f
    back f stands = record { is_time = stands.is_time; stands = subst (λ (o : Option (List ℕ)). IsSome o) (same (name_text f)) stands.stands }

module _ {V : Type 0} (tells : V → Bool) (files : V → Folders) (faults calls lists : V → ℕ) where
  -- a directory in which only another volume came, with the same files
  pub dir-still : {at : Hash → Bool} (m n : Kept V) → IsDir tells files faults m → LooksAt tells files faults at m n → n.journal ≡ m.journal
      → IsDir tells files faults n
  dir-still m n dir looks same = record {
    same = looks.same.told ∙ (dir.same ∙ ap tells (sym looks.same.began));
    order = λ told. rw (looks.same.secrets, looks.same.power)
        (order-same m.secrets m.power (files m.volume) (files n.volume) (looks.still (tells-now tells files faults m dir (told-of told)))
        (dir.order (told-of told)));
    records_order = λ told. subst (λ (s : Secrets). AllRecordsInOrder s (files n.volume)) (sym looks.same.secrets)
        ((keeps-same m.secrets (files m.volume) (files n.volume) (looks.still (tells-now tells files faults m dir (told-of told)))).order
        (dir.records_order (told-of told)));
    kept = record {
      can = λ told hash. subst (λ (s : ObjValue). CanStand obj_rules (steps_of tells files faults n) hash s)
          (sym (values-same tells files faults m n dir looks.same looks.still hash))
          (rw (same, looks.same.began, looks.same.secrets, looks.same.power) (dir.kept.can (told-of told) hash));
      single = are.single;
      single_record = are.single_record;
      plain = are.plain;
    };
    least = subst (λ (p : ℕ). 1 ≤ p) (sym looks.same.power) dir.least;
    greatest = subst (λ (p : ℕ). p ≤ 32) (sym looks.same.power) dir.greatest;
  }
    where
      are : AreSingle n.journal.doubts
      are = subst (λ (j : Journal). AreSingle j.doubts) (sym same) (kept-single (history_of tells files faults m) (values_of tells files faults m) dir.kept)

      told-of : is_told tells files faults n ≡ true → is_told tells files faults m ≡ true
      told-of told = rw (sym looks.same.began, sym looks.same.secrets, sym looks.same.power) told

  -- a listing still tells the files that it told
  pub listed-still : {at : Hash → Bool} (k m : Kept V) → LooksAt tells files faults at k m → (dir : List ℕ) (names : List FileName)
      → (tells k.volume ≡ true → AreListedIn (contents (files k.volume)) dir names)
      → tells m.volume ≡ true → AreListedIn (contents (files m.volume)) dir names
  listed-still k m looks dir names are told =
      let old : tells k.volume ≡ true = sym looks.same.told ∙ told in
      listed-in (contents (files k.volume)) (contents (files m.volume)) dir names (λ f. looks.still old dir f) (are old)

  -- what was seen of the directory tells what the hash still holds
  module _ {at : Hash → Bool} (k n : Kept V) (dir : IsDir tells files faults k) (looks : LooksAt tells files faults at k n) (hash : Hash) (o : Outline) where
    told-before : is_told tells files faults n ≡ true → is_told tells files faults k ≡ true
    told-before told = sym (told-same tells files faults k n looks.same) ∙ told

    pub outline-still : (is_told tells files faults k ≡ true → o ≡ outline_of (held tells files faults k hash)) → is_told tells files faults n ≡ true → o
        ≡ outline_of (held tells files faults n hash)
    outline-still seen told = seen (told-before told) ∙ ap outline_of (sym (held-same tells files faults k n dir looks.same looks.still hash))

    pub second-now : (asked : Bool) (e : Option ℕ) → (is_told tells files faults k ≡ true → asked ≡ true → e ≡ standing_expiry (held tells files faults k hash))
        → is_told tells files faults n ≡ true → asked ≡ true → e ≡ standing_expiry (held tells files faults n hash)
    second-now asked e second told is = second (told-before told) is
        ∙ ap standing_expiry (sym (held-same tells files faults k n dir looks.same looks.still hash))

  -- a step that what stands refuses, where the doubts of its name are settled
  module _ (n : Kept V) (dir : IsDir tells files faults n) (name : Name) (settled : written name.hash n.journal.doubts ≡ []) (o : Outline)
      (change : Change) (writes : is_write change ≡ true) where
    pub step-refused : (answer : Answer) → is_refusal answer ≡ true → IsSeenAs tells files faults n name.hash o change (Some answer)
        → IsStep tells files faults n name change answer n
    step-refused answer is seen = record {
      same = record { began = refl; secrets = refl; power = refl; told = refl };
      others = λ hash apart. refl;
      changes = write-step (history_of tells files faults n) (values_of tells files faults n) dir.kept name change answer n.journal (faults n.volume)
          (record { entries = ([], sym (append-nil n.journal.entries)); max_entries = refl; max_bytes = refl }) (omega arith) Refuses
          (refusal-ends answer is) (λ fails. cc) writes settled seen.state seen.held_is (λ none. let some = seen.refuses in cc) []
          (record { leaves = record { not_made = refl; same = refl }; refused = seen.refuses })
          (values_of tells files faults n name.hash) (λ told. refl);
    }

  -- what the listing and the read told: the counts of both
  abbrev pub looked-so : {at : Hash → Bool} (k m n : Kept V) (name : Name) (change : Change) (names : List FileName) (picked : Picked)
      → (tells k.volume ≡ true → AreListedIn (contents (files k.volume)) (dir_text k.power name.hash) names)
      → IsPicked names picked → LooksAt tells files faults at k m → LooksAt tells files faults at m n
      → calls m.volume ≡ raised (calls k.volume) → lists m.volume ≡ raised (lists k.volume) → faults m.volume ≡ faults k.volume
      → calls n.volume ≡ raised_by (reads_of picked change) (calls m.volume) → lists n.volume ≡ lists m.volume → faults n.volume ≡ faults m.volume
      → SettlesFirst name.hash (picked_outline picked) k.journal m.journal → n.journal ≡ m.journal → (refused : Option Answer) (second : Option ℕ)
      → (tells k.volume ≡ true → asks_expiry (picked_outline picked) change ≡ true
      → IsSecondRead k.secrets name.hash (files k.volume) (dir_text k.power name.hash) picked second)
      → refusal_by (picked_outline picked) second change ≡ refused
      → Looked tells files faults calls lists k name change refused n
  looked-so k m n name change names picked are picks one two c l f c' l' f' settles kept refused second read decided = record {
    seen = record { names = names; picked = picked; are = are; picks = picks; journal = m.journal; settles = settles };
    same = (looks-trans tells files faults k m n one two).still;
    counts = record { called = c' ∙ ap (raised_by (reads_of picked change)) c; listed = l' ∙ l; failed = f' ∙ f };
    kept = kept;
    decides = record { second = second; read = read; decided = decided };
  }

  pub called-refused : (k n : Kept V) (name : Name) (change : Change) (answer : Answer) → is_refusal answer ≡ true
      → Looked tells files faults calls lists k name change (Some answer) n
      → Called tells files faults calls lists k name change answer n
  called-refused k n name change (answers.Done front) is looked = absurd cc
  called-refused k n name change (answers.Buried front) is looked = absurd cc
  called-refused k n name change (answers.Took is_there) is looked = absurd cc
  called-refused k n name change (answers.Conflict time) is looked = looked
  called-refused k n name change (answers.NotFound time) is looked = looked
  called-refused k n name change (answers.Mismatch second) is looked = looked
  called-refused k n name change answers.Exists is looked = looked
  called-refused k n name change answers.JournalFull is looked = absurd cc
  called-refused k n name change (answers.Damaged bad) is looked = absurd cc
  called-refused k n name change answers.Failed is looked = absurd cc
  called-refused k n name change answers.NoMemory is looked = absurd cc
