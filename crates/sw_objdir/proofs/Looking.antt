-- A step that only looks at files and settles doubts changes nothing that a hash stands for.
use Rattle.std.proofs.Common.{◌≡◌, ℕ, ◌≤◌, Bool, true, false, [], refl, sym, ◌∙◌, ap, subst, arith, length, inl, inr, Result, Err}
use Rattle.std.specs.List.{fold}
use Rattle.std.specs.Str.{bytes_eq}
use Rattle.std.proofs.lemmas.Bool.{and_parts, cases_Bool, cond-true, cond-false}
use Rattle.sw_hashdir.proofs.Standing.{order_moved, state_moved}
use Rattle.sw_hashdir.specs.Places.{AllInOrder, dir_text, holds, is_place, state_in, write_in}
use Rattle.sw_hashpath.specs.declared.decode_error.BadFile.{BadFile}
use Rattle.sw_hashpath.specs.declared.name.Name.{Name}
use Rattle.sw_hashpath.specs.declared.secrets.Secrets.{Secrets}
use Rattle.sw_history.proofs.Growing.{grows-refl, grows-trans}
use Rattle.sw_history.specs.Halves.{GrowsOf}
use Rattle.sw_object_steps.proofs.Settlings.{settles-keeps, settles-more, settles-wider}
use Rattle.sw_object_steps.proofs.Singles.{none-written}
use Rattle.sw_object_steps.specs.Singles.{single_journal}
use Rattle.sw_object_steps.specs.Histories.{IsGiven, got_look, part_look}
use Rattle.sw_object_steps.specs.Rules.{obj_applied, obj_ending, obj_rules}
use Rattle.sw_object_steps.specs.Values.{ObjValue, bare}
use Rattle.sw_objdir.proofs.Journaling.{read_with}
use Rattle.sw_objdir.proofs.Standing.{value-kept}
use Rattle.sw_objdir.specs.Directories.{IsDir, Kept, are_in_order, held, is_told, steps_of, value_at, values_of}
use Rattle.sw_objdir.specs.Stepping.{IsPartStep, IsReadStep, IsSameDir, IsStep, LooksAt, SameFiles}
use Rattle.sw_outside.specs.Faults.{HasRisen}
use Rattle.sw_object_steps.proofs.Hashes.{hash-same, hash-self}
use Rattle.sw_object_steps.specs.Journals.{Hash, Shows, written}
use Rattle.sw_object_steps.specs.declared.answer.Answer.{Answer}
use Rattle.sw_object_steps.specs.declared.change.Change.{Change}
use Rattle.sw_object_steps.specs.declared.dir_fault.DirFault.{DirFault}
use Rattle.sw_object_steps.specs.declared.dir_fault.DirFault.TheVariants as faulted
use Rattle.sw_object_steps.specs.declared.got.Got.{Got}
use Rattle.sw_object_steps.specs.declared.got.Got.TheVariants as gots
use Rattle.sw_pending_dir.proofs.Stepping.{keeps-same}
use Rattle.sw_state.specs.States.{state_of}
use Rattle.sw_state.specs.declared.state.State.{State}
use Rattle.sw_step.specs.Rules.{CanStand, Damages, Ending, Fails}
use Rattle.sw_step.specs.Steps.{EndsUnseen, IsDamaged, IsLost, Tells}
use Rattle.sw_volume.specs.Tree.{Folders, contents}
use Rattle.sw_volume.specs.Volume.{IsSame}

-- ---- files that stay stand for the same

pub order-same : (secrets : Secrets) (power : ℕ) (old new : Folders) → IsSame (contents old) (contents new) → AllInOrder secrets power old
    → AllInOrder secrets power new
order-same secrets power old new same order hash place =
    order_moved (write_in secrets hash) (contents old) (contents new) (dir_text power hash) (λ name. same (dir_text power hash) name) (order hash place)

pub holds-same : (secrets : Secrets) (power : ℕ) (old new : Folders) → IsSame (contents old) (contents new) → AllInOrder secrets power old → (hash : Hash)
    → holds secrets power new hash ≡ holds secrets power old hash
holds-same secrets power old new same order hash = elim (cases_Bool (is_place power hash)) [
  | inl place ↦ cond-true (is_place power hash) (state_in (write_in secrets hash) new (dir_text power hash)) (state_of []) place
      ∙ (state_moved (write_in secrets hash) old new (dir_text power hash) (λ name. same (dir_text power hash) name) (order hash place)
      ∙ sym (cond-true (is_place power hash) (state_in (write_in secrets hash) old (dir_text power hash)) (state_of []) place))
  | inr none ↦ cond-false (is_place power hash) _ _ none ∙ sym (cond-false (is_place power hash) _ _ none)
]

risen-from : (a b c : ℕ) → a ≤ b → HasRisen b c → HasRisen a c
risen-from a b c up (inl more) = inl (omega (arith, up, more))
risen-from a b c up (inr end) = inr end

module _ {V : Type 0} (tells : V → Bool) (files : V → Folders) (faults : V → ℕ) where
  -- ---- a directory

  pub tells-now : (k : Kept V) → IsDir tells files faults k → is_told tells files faults k ≡ true → tells k.volume ≡ true
  tells-now k dir told = dir.same ∙ (and_parts (tells k.began) (are_in_order k.secrets k.power (files k.began)) told).0

  pub values-told : (k : Kept V) (hash : Hash) → is_told tells files faults k ≡ true → values_of tells files faults k hash
      ≡ value_at k.secrets k.power (files k.volume) hash
  values-told k hash told = cond-true (is_told tells files faults k) (value_at k.secrets k.power (files k.volume) hash) (bare (state_of [])) told

  pub values-untold : (k : Kept V) (hash : Hash) → is_told tells files faults k ≡ false → values_of tells files faults k hash ≡ bare (state_of [])
  values-untold k hash none = cond-false (is_told tells files faults k) (value_at k.secrets k.power (files k.volume) hash) (bare (state_of [])) none

  pub held-told : (k : Kept V) (hash : Hash) → is_told tells files faults k ≡ true → held tells files faults k hash
      ≡ holds k.secrets k.power (files k.volume) hash
  held-told k hash told = ap (λ (v : ObjValue). v.state) (values-told k hash told)

  -- ---- two directories of which one is what looking made of the other

  pub told-same : (k n : Kept V) → IsSameDir tells files faults k n → is_told tells files faults n ≡ is_told tells files faults k
  told-same k n same = rw (same.began, same.secrets, same.power) refl

  pub values-same : (k n : Kept V) → IsDir tells files faults k → IsSameDir tells files faults k n → SameFiles tells files faults k n → (hash : Hash)
      → values_of tells files faults n hash ≡ values_of tells files faults k hash
  values-same k n dir same stay hash = elim (cases_Bool (is_told tells files faults k)) [
    | inl told ↦ values-told n hash (told-same k n same ∙ told)
        ∙ (rw (same.secrets, same.power) (value-kept k.secrets (files k.volume) (files n.volume)
        (keeps-same k.secrets (files k.volume) (files n.volume) (stay (tells-now k dir told))) hash k.power
        (holds-same k.secrets k.power (files k.volume) (files n.volume) (stay (tells-now k dir told)) (dir.order told) hash))
        ∙ sym (values-told k hash told))
    | inr none ↦ values-untold n hash (told-same k n same ∙ none) ∙ sym (values-untold k hash none)
  ]

  pub held-same : (k n : Kept V) → IsDir tells files faults k → IsSameDir tells files faults k n → SameFiles tells files faults k n → (hash : Hash)
      → held tells files faults n hash ≡ held tells files faults k hash
  held-same k n dir same stay hash = ap (λ (v : ObjValue). v.state) (values-same k n dir same stay hash)

  -- another volume with the same files
  pub dir-moved : (k : Kept V) (v : V) → IsDir tells files faults k → tells v ≡ tells k.volume → SameFiles tells files faults k (record k { volume = v })
      → IsDir tells files faults (record k { volume = v })
  dir-moved k v dir told_is stay = record {
    same = told_is ∙ dir.same;
    order = λ told. order-same k.secrets k.power (files k.volume) (files v) (stay (tells-now k dir told)) (dir.order told);
    records_order = λ told. (keeps-same k.secrets (files k.volume) (files v) (stay (tells-now k dir told))).order (dir.records_order told);
    kept = record {
      can = λ told hash. subst (λ (s : ObjValue). CanStand obj_rules (steps_of tells files faults k) hash s)
          (sym (values-same k (record k { volume = v }) dir (record { began = refl; secrets = refl; power = refl; told = told_is }) stay hash))
          (dir.kept.can told hash);
      single = dir.kept.single;
      single_record = dir.kept.single_record;
      plain = dir.kept.plain;
    };
    least = dir.least;
    greatest = dir.greatest;
  }

  pub looks-refl : {at : Hash → Bool} (k : Kept V) → LooksAt tells files faults at k k
  looks-refl k = record {
    same = record { began = refl; secrets = refl; power = refl; told = refl };
    settles = (0, refl);
    still = λ told d f. refl;
    later = omega arith;
  }

  -- a call of the volume that changes no file
  pub looks-moved : {at : Hash → Bool} (k : Kept V) (v : V) → tells v ≡ tells k.volume → SameFiles tells files faults k (record k { volume = v })
      → faults k.volume ≤ faults v → LooksAt tells files faults at k (record k { volume = v })
  looks-moved k v told_is stay up = record {
    same = record { began = refl; secrets = refl; power = refl; told = told_is };
    settles = (0, refl);
    still = stay;
    later = up;
  }

  pub looks-trans : {at : Hash → Bool} (a b c : Kept V) → LooksAt tells files faults at a b → LooksAt tells files faults at b c
      → LooksAt tells files faults at a c
  looks-trans {at} a b c one two = record {
    same = record {
      began = two.same.began ∙ one.same.began;
      secrets = two.same.secrets ∙ one.same.secrets;
      power = two.same.power ∙ one.same.power;
      told = two.same.told ∙ one.same.told;
    };
    settles = settles-more obj_rules at (steps_of tells files faults a) (steps_of tells files faults b) (steps_of tells files faults c)
        one.settles two.settles;
    still = λ told d f. two.still (one.same.told ∙ told) d f ∙ one.still told d f;
    later = let x = one.later in let y = two.later in omega (arith, x, y);
  }

  -- doubts of more hashes might have been settled
  pub looks-wider : (at among : Hash → Bool) → ((hash : Hash) → at hash ≡ true → among hash ≡ true) → (k n : Kept V)
      → LooksAt tells files faults at k n → LooksAt tells files faults among k n
  looks-wider at among into k n looks = record {
    same = looks.same;
    settles = settles-wider obj_rules at among into (steps_of tells files faults k) (steps_of tells files faults n) looks.settles;
    still = looks.still;
    later = looks.later;
  }

  module _ (at : Hash → Bool) (k n : Kept V) (looks : LooksAt tells files faults at k n) where
    -- it grew by the entries of doubts that were settled
    pub looks-grows : GrowsOf (steps_of tells files faults k) (steps_of tells files faults n)
    looks-grows =
        let keeps = settles-keeps obj_rules at looks.settles.0 (single_journal k.journal) (single_journal n.journal) looks.settles.1 in
        record {
          told = told-same k n looks.same;
          opening = λ hash. rw (looks.same.began, looks.same.secrets, looks.same.power) refl;
          entries = keeps.entries;
          max_entries = keeps.max_entries;
          max_bytes = keeps.max_bytes;
          faults = looks.later;
        }

    pub all-values : IsDir tells files faults k → (hash : Hash) → values_of tells files faults n hash ≡ values_of tells files faults k hash
    all-values dir = values-same k n dir looks.same looks.still

    pub all-held : IsDir tells files faults k → (hash : Hash) → held tells files faults n hash ≡ held tells files faults k hash
    all-held dir = held-same k n dir looks.same looks.still

    -- the same seen from behind it
    pub still-values : IsDir tells files faults n → (hash : Hash) → values_of tells files faults n hash ≡ values_of tells files faults k hash
    still-values after hash = sym (values-same n k after
        (record { began = sym looks.same.began; secrets = sym looks.same.secrets; power = sym looks.same.power; told = sym looks.same.told })
        (λ told d f. sym (looks.still (sym looks.same.told ∙ told) d f)) hash)

  -- ---- steps

  -- under every hash stands what stood there, before it and after it
  abbrev SameValues : Kept V → Kept V → Type 0
  SameValues k n = (hash : Hash) → values_of tells files faults n hash ≡ values_of tells files faults k hash

  module _ (k n : Kept V) (same : SameValues k n) (name : Name) (looks : LooksAt tells files faults (λ key. bytes_eq key name.hash) k n)
      (change : Change) (answer : Answer) where
    -- the step is made from what looking left
    pub step-after : (m : Kept V) → IsStep tells files faults n name change answer m → IsStep tells files faults k name change answer m
    step-after m step = record {
      same = record {
        began = step.same.began ∙ looks.same.began;
        secrets = step.same.secrets ∙ looks.same.secrets;
        power = step.same.power ∙ looks.same.power;
        told = step.same.told ∙ looks.same.told;
      };
      others = λ hash apart. step.others hash apart ∙ same hash;
      changes = record {
        own = step.changes.own;
        before = step.changes.before;
        looked = step.changes.looked;
        read = step.changes.read;
        made = step.changes.made;
        follows = grows-trans (steps_of tells files faults k) (steps_of tells files faults n) step.changes.before (looks-grows _ k n looks)
            step.changes.follows;
        settles = λ alone. settles-more obj_rules (λ key. bytes_eq key name.hash) (steps_of tells files faults k) (steps_of tells files faults n)
            step.changes.before looks.settles (step.changes.settles alone);
        settled = step.changes.settled;
        answered = step.changes.answered;
        orderly = step.changes.orderly;
        after = step.changes.after;
        failed = λ is. risen-from (faults k.volume) (faults n.volume) (faults m.volume) looks.later (step.changes.failed is);
        known = step.changes.known;
        kept = λ alone told other is. subst (λ (s : ObjValue). CanStand obj_rules step.changes.before other s) (same other)
            (step.changes.kept alone told other is);
        held = λ alone told x. step.changes.held alone told x ∙ same name.hash;
        leaves = λ alone told. step.changes.leaves alone told ∙ ap (λ (s : ObjValue). fold obj_applied s step.changes.made) (same name.hash);
      };
    }

    -- the step gave up before what stands was compared
    pub step-unsettled : (e : Ending) → obj_ending answer ≡ e → EndsUnseen obj_rules e (single_journal n.journal) [] (single_journal n.journal)
        → IsDir tells files faults n → (e ≡ Damages → is_told tells files faults n ≡ false)
        → (e ≡ Fails → HasRisen (faults k.volume) (faults n.volume)) → IsStep tells files faults k name change answer n
    step-unsettled e ends so after orderly cause = record {
      same = looks.same;
      others = λ hash apart. same hash;
      changes = record {
        own = hash-self name.hash;
        before = steps_of tells files faults n;
        looked = false;
        read = values_of tells files faults n name.hash;
        made = [];
        follows = looks-grows _ k n looks;
        settles = λ alone. looks.settles;
        settled = λ x. cc;
        answered = subst (λ (x : Ending). EndsUnseen obj_rules x (single_journal n.journal) [] (single_journal n.journal)) (sym ends) so;
        orderly = λ damaged. orderly (sym ends ∙ damaged);
        after = grows-refl (steps_of tells files faults n);
        failed = λ is. cause (sym ends ∙ is);
        known = λ told x. cc;
        kept = λ alone told other reached. subst (λ (s : ObjValue). CanStand obj_rules (steps_of tells files faults n) other s)
            (same other) (after.kept.can told other);
        held = λ alone told x. cc;
        leaves = λ alone told. same name.hash;
      };
    }

  -- ---- a read

  -- what was read: these states, beside the records that stand there
  abbrev pub read_as : Kept V → (Hash → State) → Hash → ObjValue
  read_as n s hash = read_with (s hash) (values_of tells files faults n hash)

  read-is : (n : Kept V) (s : Hash → State) → ((hash : Hash) → s hash ≡ held tells files faults n hash) → (hash : Hash)
      → read_as n s hash ≡ values_of tells files faults n hash
  read-is n s now hash = λ i. record { state = now hash i; records = (values_of tells files faults n hash).records }

  shows-damage : (told : Bool) (s : State) (front : ℕ) (got : Got) → Shows told s front got → got_look got ≡ IsDamaged → told ≡ false
  shows-damage told s front (gots.Found time content heads at) shown is = cc
  shows-damage told s front (gots.NotFound time) shown is = cc
  shows-damage told s front (gots.Damaged bad) shown is = shown
  shows-damage told s front gots.Failed shown is = cc
  shows-damage told s front gots.NoMemory shown is = cc

  pub reads : (k n : Kept V) (name : Name) (got : Got) → LooksAt tells files faults (λ key. bytes_eq key name.hash) k n → IsDir tells files faults n
      → (got_look got ≡ Tells → written name.hash n.journal.doubts ≡ []) → (s : Hash → State) → ((hash : Hash) → s hash ≡ held tells files faults n hash)
      → Shows (is_told tells files faults n) (s name.hash) (length n.journal.entries) got
      → (got_look got ≡ IsLost → HasRisen (faults k.volume) (faults n.volume)) → IsReadStep tells files faults k name got n
  reads k n name got looks after settled s now shown cause = record {
    same = looks.same;
    all = still-values _ k n looks after;
    reads = record {
      read = read_as n s;
      follows = looks-grows _ k n looks;
      settles = λ alone. looks.settles;
      settled = λ x key is. none-written key n.journal.doubts
          (subst (λ (h : Hash). written h n.journal.doubts ≡ []) (sym (hash-same key name.hash is)) (settled x));
      shown = λ x. shown;
      orderly = λ is. shows-damage (is_told tells files faults n) (s name.hash) (length n.journal.entries) got shown is;
      failed = cause;
      known = λ told x key is. subst (λ (v : ObjValue). CanStand obj_rules (steps_of tells files faults n) key v) (sym (read-is n s now key))
          (after.kept.can told key);
      kept = λ alone told key is. after.kept.can told key;
      held = λ alone told x key is. read-is n s now key;
    };
  }

  -- ---- a read of hashes of a partition

  pub part-reads : {A : Type 0} (k n : Kept V) (at : Hash → Bool) (damages : Bool) (reading : Bool → (Hash → State) → A → Type 0) (got : Result A DirFault)
      → LooksAt tells files faults at k n → IsDir tells files faults n
      → (part_look got ≡ Tells → (hash : Hash) → at hash ≡ true → written hash n.journal.doubts ≡ [])
      → (s : Hash → State) → ((hash : Hash) → s hash ≡ held tells files faults n hash)
      → (part_look got ≡ Tells → IsGiven (reading (is_told tells files faults n)) (read_as n s) got)
      → (part_look got ≡ IsDamaged → is_told tells files faults n ≡ false) → ((bad : BadFile) → got ≡ Err (faulted.Damaged bad) → damages ≡ true)
      → (part_look got ≡ IsLost → HasRisen (faults k.volume) (faults n.volume)) → IsPartStep tells files faults k at damages reading got n
  part-reads k n at damages reading got looks after settled s now shown orderly sound cause = record {
    same = looks.same;
    all = still-values at k n looks after;
    reads = record {
      read = read_as n s;
      follows = looks-grows _ k n looks;
      settles = λ alone. looks.settles;
      settled = λ x key is. none-written key n.journal.doubts (settled x key is);
      shown = shown;
      orderly = orderly;
      failed = cause;
      known = λ told x key is. subst (λ (v : ObjValue). CanStand obj_rules (steps_of tells files faults n) key v) (sym (read-is n s now key))
          (after.kept.can told key);
      kept = λ alone told key is. after.kept.can told key;
      held = λ alone told x key is. read-is n s now key;
    };
    sound = sound;
  }
