-- Which entries come under a lock where nobody else is at the nodes, and no change of a record is in doubt: none takes a device back.
use Rattle.std.proofs.Common.{◌≡◌, ℕ, zero, suc, Bool, true, false, List, [], ◌∷◌, ◌++◌, append_assoc, bytes_eq, inl, inr, ◌⊎◌, refl, sym, ◌∙◌, ap, subst}
use Rattle.std.proofs.lemmas.Bool.{cases_Bool, or_from, or_parts}
use Rattle.std.proofs.lemmas.List.{append-nil}
use Rattle.std.proofs.lemmas.List.Elements.{filter-append}
use Rattle.std.proofs.lemmas.List.Folds.{list_any-append}
use Rattle.std.specs.List.{filter, fold, list_any}
use Rattle.sw_object_steps.proofs.Ruling.{are-rules}
use Rattle.sw_object_steps.specs.Journals.{Hash}
use Rattle.sw_object_steps.specs.Recorded.{doubts_records, entry_files}
use Rattle.sw_object_steps.specs.Rules.{ObjHistory, ObjJournal, obj_applied, obj_key, obj_rules}
use Rattle.sw_object_steps.specs.Values.{ObjValue}
use Rattle.sw_object_steps.specs.declared.entry.ObjEntry.{ObjEntry}
use Rattle.sw_object_steps.specs.declared.entry.ObjEntry.TheVariants.{Dropped, Files, Marked, Wrote}
use Rattle.sw_pending.specs.declared.key.RecordKey.{RecordKey}
use Rattle.sw_step.proofs.Keeping.{stand-more}
use Rattle.sw_step.specs.Rules.{NoneOf, about, doubts_about, is_about, stands}
use Rattle.sw_step.specs.Steps.{OnlySettles, Settles, SettlesOne}
use Rattle.sw_updater.proofs.Standing.{any-unmarks-append}
use Rattle.sw_updater.specs.Laws.{any_unmarks, unmarks}

-- no change of a record is in doubt under the lock
abbrev pub IsClear : ObjJournal → Type 0
IsClear j = (hash : Hash) → NoneOf doubts_records (doubts_about obj_rules hash j.doubts)

-- so it is later, and no entry that came took a device back
pub record IsQuiet (h g : ObjHistory) : Type 0 where
  pub clear : IsClear g.journal
  pub more : List ObjEntry
  pub grown : g.journal.entries ≡ h.journal.entries ++ more
  pub keeps : (hash : Hash) (key : RecordKey) → any_unmarks key (stands obj_rules h hash) (about obj_rules hash more) ≡ false

pub quiet-same : (h g : ObjHistory) → g.journal ≡ h.journal → IsClear h.journal → IsQuiet h g
quiet-same h g same clear = record {
  clear = subst IsClear (sym same) clear;
  more = [];
  grown = ap (λ (j : ObjJournal). j.entries) same ∙ sym (append-nil h.journal.entries);
  keeps = λ hash key. refl;
}

pub quiet-trans : (h i g : ObjHistory) → ((hash : Hash) → i.opening hash ≡ h.opening hash) → IsQuiet h i → IsQuiet i g → IsQuiet h g
quiet-trans h i g opening p q = record {
  clear = q.clear;
  more = p.more ++ q.more;
  grown = q.grown ∙ (ap (λ (es : List ObjEntry). es ++ q.more) p.grown ∙ append_assoc h.journal.entries p.more q.more);
  keeps = λ hash key.
      ap (any_unmarks key (stands obj_rules h hash)) (filter-append (λ (e : ObjEntry). bytes_eq (obj_key e) hash) p.more q.more)
      ∙ (any-unmarks-append key (stands obj_rules h hash) (about obj_rules hash p.more) (about obj_rules hash q.more)
      ∙ or_from (any_unmarks key (stands obj_rules h hash) (about obj_rules hash p.more))
      (any_unmarks key (fold obj_applied (stands obj_rules h hash) (about obj_rules hash p.more)) (about obj_rules hash q.more)) (p.keeps hash key)
      (subst (λ (v : ObjValue). any_unmarks key v (about obj_rules hash q.more) ≡ false) (stand-more obj_rules are-rules h i hash p.more opening p.grown)
      (q.keeps hash key)));
}

-- ---- settled doubts

-- an entry that changes no record takes no device back
one-idle : (key : RecordKey) (v : ObjValue) (e : ObjEntry) → list_any (λ (other : RecordKey). true) (entry_files e) ≡ false → unmarks key v e ≡ false
one-idle key v (Wrote name w records) none = refl
one-idle key v (Files by filed) none = refl
one-idle key v (Marked by filed device) none = absurd cc
one-idle key v (Dropped by filed) none = refl

idle : (hash : Hash) (key : RecordKey) (v : ObjValue) (es : List ObjEntry) → doubts_records es ≡ false → any_unmarks key v (about obj_rules hash es) ≡ false
idle hash key v [] none = refl
idle hash key v (e ∷ es) none =
    let parts = or_parts (list_any (λ (other : RecordKey). true) (entry_files e)) (doubts_records es) none in
    elim (cases_Bool (bytes_eq (obj_key e) hash)) [
      | inl is ↦ rw is (or_from (unmarks key v e) (any_unmarks key (obj_applied v e) (about obj_rules hash es)) (one-idle key v e parts.0)
          (idle hash key (obj_applied v e) es parts.1))
      | inr isnt ↦ rw isnt (idle hash key v es parts.1)
    ]

module _ (test keep : List ObjEntry → Bool) (d : List ObjEntry) (behind : List (List ObjEntry)) where
  -- one among those that pass no test
  none-middle : (front : List (List ObjEntry)) → keep d ≡ true → NoneOf test (filter keep (front ++ d ∷ behind)) → test d ≡ false
  none-middle [] is none = (rw is at none).0
  none-middle (x ∷ front) is none = elim (cases_Bool (keep x)) [
    | inl kept ↦ none-middle front is (rw kept at none).1
    | inr not ↦ none-middle front is (rw not at none)
  ]

  -- and those without it
  none-others : (front : List (List ObjEntry)) → NoneOf test (filter keep (front ++ d ∷ behind)) → NoneOf test (filter keep (front ++ behind))
  none-others [] none = elim (cases_Bool (keep d)) [
    | inl kept ↦ (rw kept at none).1
    | inr not ↦ rw not at none
  ]
  none-others (x ∷ front) none = elim (cases_Bool (keep x)) [
    | inl kept ↦ let both = rw kept at none in rw kept (both.0, none-others front both.1)
    | inr not ↦ rw not (none-others front (rw not at none))
  ]

record AreSettled (j after : ObjJournal) : Type 0 where
  clear : IsClear after
  more : List ObjEntry
  grown : after.entries ≡ j.entries ++ more
  free : doubts_records more ≡ false

module _ (at : Hash → Bool) where
  one-settled : (j after : ObjJournal) → SettlesOne obj_rules at j after → IsClear j → AreSettled j after
  one-settled j after one clear = by one.settled
    where
      among : (hash : Hash) → NoneOf doubts_records (doubts_about obj_rules hash (one.front ++ one.doubt ∷ one.behind))
      among hash = subst (λ (ds : List (List ObjEntry)). NoneOf doubts_records (doubts_about obj_rules hash ds)) one.among (clear hash)

      is_free : doubts_records one.doubt ≡ false
      is_free = none-middle doubts_records (is_about obj_rules one.is_at.0) one.doubt one.behind one.front one.is_at.2.is (among one.is_at.0)

      others : (x : ObjJournal) → x.doubts ≡ one.front ++ one.behind → IsClear x
      others x same hash =
          subst (λ (ds : List (List ObjEntry)). NoneOf doubts_records (doubts_about obj_rules hash ds)) (sym same)
          (none-others doubts_records (is_about obj_rules hash) one.doubt one.behind one.front (among hash))

      by : (after ≡ record j { doubts = one.front ++ one.behind })
          ⊎ (after ≡ record j { entries = j.entries ++ one.doubt; doubts = one.front ++ one.behind }) → AreSettled j after
      by (inl gone) = record {
        clear = others after (ap (λ (x : ObjJournal). x.doubts) gone);
        more = [];
        grown = ap (λ (x : ObjJournal). x.entries) gone ∙ sym (append-nil j.entries);
        free = refl;
      }
      by (inr came) = record {
        clear = others after (ap (λ (x : ObjJournal). x.doubts) came);
        more = one.doubt;
        grown = ap (λ (x : ObjJournal). x.entries) came;
        free = is_free;
      }

  all-settled : (n : ℕ) (j after : ObjJournal) → Settles obj_rules at n j after → IsClear j → AreSettled j after
  all-settled zero j after same clear = record {
    clear = subst IsClear (sym same) clear;
    more = [];
    grown = ap (λ (x : ObjJournal). x.entries) same ∙ sym (append-nil j.entries);
    free = refl;
  }
  all-settled (suc n) j after more clear =
      let first = one-settled j more.0 more.1 clear in
      let rest = all-settled n more.0 after more.2 first.clear in
      record {
        clear = rest.clear;
        more = first.more ++ rest.more;
        grown = rest.grown ∙ (ap (λ (es : List ObjEntry). es ++ rest.more) first.grown ∙ append_assoc j.entries first.more rest.more);
        free =
            list_any-append (λ (entry : ObjEntry). list_any (λ (other : RecordKey). true) (entry_files entry)) first.more rest.more
            ∙ or_from (doubts_records first.more) (doubts_records rest.more) first.free rest.free;
      }

  pub settled-quiet : (h g : ObjHistory) → OnlySettles obj_rules at h g → IsClear h.journal → IsQuiet h g
  settled-quiet h g only clear =
      let settled = all-settled only.0 h.journal g.journal only.1 clear in
      record {
        clear = settled.clear;
        more = settled.more;
        grown = settled.grown;
        keeps = λ hash key. idle hash key (stands obj_rules h hash) settled.more settled.free;
      }
