-- What a mark and a drop of a record do to it, where they were answered.
use Rattle.std.proofs.Common.{◌≡◌, ◌==◌, ℕ, Bool, true, false, ◌||◌, List, [], ◌∷◌, ◌++◌, Option, Some, ◌⊎◌, inl, inr, refl, sym, ◌∙◌, ap, subst}
use Rattle.std.proofs.Common.{bytes_eq, if◌then◌else◌}
use Rattle.std.proofs.lemmas.Bool.{eq-eqb, or_left, or_parts, or_right}
use Rattle.std.proofs.lemmas.List.{append_cancel_left}
use Rattle.std.specs.List.{fold, list_any}
use Rattle.std.specs.Prelude.{◌&&◌}
use Rattle.sw_history.specs.Halves.{GrowsOf}
use Rattle.sw_object_steps.proofs.Hashes.{hash-self}
use Rattle.sw_object_steps.proofs.Recording.{same-self}
use Rattle.sw_object_steps.proofs.Ruling.{are-rules}
use Rattle.sw_object_steps.proofs.Telling.{none-wider, tells-record}
use Rattle.sw_object_steps.proofs.Undoubted.{none-written, state-told}
use Rattle.sw_object_steps.specs.Histories.{ChangesObject}
use Rattle.sw_object_steps.specs.Journals.{Hash}
use Rattle.sw_object_steps.specs.Recorded.{doubts_record, doubts_write, dropping_entries, found, is_gone, lists, marking_entries, may_go}
use Rattle.sw_object_steps.specs.Rules.{ObjHistory, ObjJournal, Writes, obj_applied, obj_rules}
use Rattle.sw_object_steps.specs.Values.{ObjValue, is_same_key}
use Rattle.sw_object_steps.specs.declared.answer.Answer.TheVariants as answers
use Rattle.sw_object_steps.specs.declared.change.Change.{Change}
use Rattle.sw_object_steps.specs.declared.change.Change.TheVariants.{DropRecord, MarkRecord}
use Rattle.sw_object_steps.specs.declared.entry.ObjEntry.{ObjEntry}
use Rattle.sw_object_steps.specs.declared.entry.ObjEntry.TheVariants.{Dropped, Marked}
use Rattle.sw_hashpath.specs.declared.name.Name.{Name}
use Rattle.sw_pending.proofs.Marks.{marks_add}
use Rattle.sw_pending.specs.Records.{key_of, marked}
use Rattle.sw_pending.specs.Rules.{are_done, is_done}
use Rattle.sw_pending.specs.declared.filed.Filed.{Filed}
use Rattle.sw_pending.specs.declared.key.RecordKey.{RecordKey}
use Rattle.sw_state.specs.declared.state.State.{State}
use Rattle.sw_step.proofs.Keeping.{stand-more}
use Rattle.sw_step.proofs.Settled.{added-is}
use Rattle.sw_step.specs.Rules.{CanStand, NoneOf, about, doubts_about, stands}
use Rattle.sw_step.specs.Steps.{Answers, IsDone}
use Rattle.sw_updater.proofs.Fates.{Since, StandsAt, since-grows, since-on, since-same}
use Rattle.sw_updater.proofs.Standing.{Stands}
use Rattle.sw_updater.specs.Laws.{ends}

-- ---- a step that was taken came so far, and was made

module _ (alone : Bool) (h : ObjHistory) (s : Hash → ObjValue) (name : Name) (change : Change) (is : Bool) (g : ObjHistory) (t : ObjValue)
    (step : ChangesObject alone h s name change (answers.Took is) g t) where
  abbrev Seen : Bool → Type 0
  Seen looked = Answers obj_rules looked step.read step.before.journal name.hash (Writes name change) (answers.Took is) step.made g.journal

  came : (looked : Bool) → Seen looked → looked ≡ true
  came true answered = refl
  came false answered = absurd answered

  pub looked : step.looked ≡ true
  looked = came step.looked step.answered

  pub is-done : IsDone obj_rules step.read step.before.journal name.hash (Writes name change) (answers.Took is) step.made g.journal
  is-done = subst Seen looked step.answered

-- ---- a step at this record

-- it finds this
pub found-stood : (P : ℕ → Type 0) (filed : Filed) (v : ObjValue) (s : Stands P (key_of filed) (v.records (key_of filed)))
    → found v filed.name.hash filed ≡ Some s.stood
found-stood P filed v s =
    let own = hash-self filed.name.hash in
    let stood = s.is in
    let same : is_same_key (key_of s.stood) (key_of filed) ≡ true =
    subst (λ (k : RecordKey). is_same_key k (key_of filed) ≡ true) (sym s.own) (same-self (key_of filed)) in
    rw own (rw stood (rw same refl))

-- what was settled first
abbrev Free : ObjValue → Filed → Change → List (List ObjEntry) → Type 0
Free v filed change ds = NoneOf (obj_rules.touches v filed.name.hash (Writes filed.name change)) ds

mark-frees : (v : ObjValue) (filed : Filed) (to : ℕ) (ds : List (List ObjEntry)) → Free v filed (MarkRecord filed to) ds
    → NoneOf (doubts_record (key_of filed)) ds
mark-frees v filed to ds = none-wider (doubts_record (key_of filed)) (obj_rules.touches v filed.name.hash (Writes filed.name (MarkRecord filed to))) (λ d is.
    let own = hash-self filed.name.hash in
    (or_parts (doubts_record (key_of filed) d) false (rw own at is)).0) ds

drop-frees : (v : ObjValue) (filed : Filed) (all : List ℕ) (ds : List (List ObjEntry)) → Free v filed (DropRecord filed all) ds
    → NoneOf (doubts_record (key_of filed)) ds
drop-frees v filed all ds = none-wider (doubts_record (key_of filed)) (obj_rules.touches v filed.name.hash (Writes filed.name (DropRecord filed all))) (λ d is.
    let own = hash-self filed.name.hash in
    let parts = or_parts (lists v filed.name.hash (DropRecord filed all) && doubts_write d)
    (list_any (λ key. doubts_record key d) (if bytes_eq filed.name.hash filed.name.hash then key_of filed ∷ [] else [])) is in
    (or_parts (doubts_record (key_of filed) d) false (rw own at parts.1)).0) ds

module _ (P : ℕ → Type 0) (alone : Bool) (h : ObjHistory) (s : Hash → ObjValue) (filed : Filed) (change : Change) (is : Bool) (g : ObjHistory) (t : ObjValue)
    (step : ChangesObject alone h s filed.name change (answers.Took is) g t)
    (frees : Free step.read filed change (doubts_about obj_rules filed.name.hash step.before.journal.doubts)
    → NoneOf (doubts_record (key_of filed)) (doubts_about obj_rules filed.name.hash step.before.journal.doubts)) (told : step.before.told ≡ true)
    (stood : StandsAt (key_of filed) P step.before) where
  abbrev was : ObjValue
  was = stands obj_rules step.before filed.name.hash

  can : CanStand obj_rules step.before filed.name.hash step.read
  can = step.known told (looked alone h s filed.name change is g t step)

  free : Free step.read filed change (doubts_about obj_rules filed.name.hash step.before.journal.doubts)
  free = step.settled (looked alone h s filed.name change is g t step)

  -- what was read is what the entries tell
  found-read : found step.read filed.name.hash filed ≡ Some stood.stood
  found-read =
      found-stood P filed step.read
      (record {
        stood = stood.stood;
        is = tells-record step.before filed.name.hash step.read can (key_of filed) (frees free) ∙ stood.is;
        own = stood.own;
        done = stood.done;
      })

  after : (es : List ObjEntry) → g.journal.entries ≡ step.before.journal.entries ++ es
      → stands obj_rules g filed.name.hash ≡ fold obj_applied was (about obj_rules filed.name.hash es)
  after es = stand-more obj_rules are-rules step.before g filed.name.hash es step.after.opening

-- it stands, with the device done that was marked
module _ (P : ℕ → Type 0) (alone : Bool) (h : ObjHistory) (s : Hash → ObjValue) (filed : Filed) (to : ℕ) (is : Bool) (g : ObjHistory) (t : ObjValue)
    (step : ChangesObject alone h s filed.name (MarkRecord filed to) (answers.Took is) g t) (told : step.before.told ≡ true)
    (stood : StandsAt (key_of filed) P step.before) where
  abbrev With : ℕ → Type 0
  With d = P d ⊎ (d ≡ to)

  with-done : is_done to stood.stood.done ≡ true → (d : ℕ) → With d → is_done d stood.stood.done ≡ true
  with-done done d (inl was_so) = stood.done d was_so
  with-done done d (inr same) = subst (λ (x : ℕ). is_done x stood.stood.done ≡ true) (sym same) done

  with-marked : (d : ℕ) → With d → is_done d (marked stood.stood to).done ≡ true
  with-marked d (inl was_so) = marks_add stood.stood to d ∙ or_right (d == to) (is_done d stood.stood.done) (stood.done d was_so)
  with-marked d (inr same) = marks_add stood.stood to d ∙ or_left (d == to) (is_done d stood.stood.done) (eq-eqb d to same)

  pub mark-stands : StandsAt (key_of filed) With g
  mark-stands = by (is_done to stood.stood.done) refl
    where
      hash : Hash
      hash = filed.name.hash

      entered : g.journal.entries ≡ step.before.journal.entries ++ marking_entries hash (Some stood.stood) to
      entered =
          ap (λ (j : ObjJournal). j.entries) (is-done alone h s filed.name (MarkRecord filed to) is g t step).entered
          ∙ ap (λ (o : Option Filed). step.before.journal.entries ++ marking_entries hash o to)
          (found-read P alone h s filed (MarkRecord filed to) is g t step
          (mark-frees step.read filed to (doubts_about obj_rules hash step.before.journal.doubts)) told stood)

      left : (es : List ObjEntry) → g.journal.entries ≡ step.before.journal.entries ++ es
          → stands obj_rules g hash ≡ fold obj_applied (stands obj_rules step.before hash) (about obj_rules hash es)
      left = after P alone h s filed (MarkRecord filed to) is g t step
          (mark-frees step.read filed to (doubts_about obj_rules hash step.before.journal.doubts)) told stood

      by : (done : Bool) → is_done to stood.stood.done ≡ done → StandsAt (key_of filed) With g
      by true done = record {
        stood = stood.stood;
        is = ap (λ (v : ObjValue). v.records (key_of filed)) (left [] (rw done at entered)) ∙ stood.is;
        own = stood.own;
        done = with-done done;
      }
      by false done = record {
        stood = marked stood.stood to;
        is =
            let own = hash-self hash in
            let same : is_same_key (key_of stood.stood) (key_of filed) ≡ true =
            subst (λ (k : RecordKey). is_same_key k (key_of filed) ≡ true) (sym stood.own) (same-self (key_of filed)) in
            let here : about obj_rules hash (Marked hash (marked stood.stood to) to ∷ []) ≡ Marked hash (marked stood.stood to) to ∷ [] = rw own refl in
            ap (λ (v : ObjValue). v.records (key_of filed)) (left (Marked hash (marked stood.stood to) to ∷ []) (rw done at entered))
            ∙ (ap (λ (es : List ObjEntry). (fold obj_applied (stands obj_rules step.before hash) es).records (key_of filed)) here
            ∙ rw same refl);
        own = stood.own;
        done = with-marked;
      }

-- it stands, not all of these devices are done, and what stands under its name is as late
pub record IsKept (P : ℕ → Type 0) (filed : Filed) (all : List ℕ) (g : ObjHistory) : Type 0 where
  pub stays : StandsAt (key_of filed) P g
  pub lacks : are_done all stays.stood.done ≡ false
  pub late : is_gone (stands obj_rules g filed.name.hash).state filed.time ≡ false

-- a drop enters that it went, or keeps it
module _ (P : ℕ → Type 0) (alone : Bool) (h : ObjHistory) (s : Hash → ObjValue) (filed : Filed) (all : List ℕ) (is : Bool) (g : ObjHistory) (t : ObjValue)
    (step : ChangesObject alone h s filed.name (DropRecord filed all) (answers.Took is) g t) (told : step.before.told ≡ true)
    (stood : StandsAt (key_of filed) P step.before) where
  abbrev pub IsAnswered : Type 0
  IsAnswered = (list_any (ends (key_of filed)) (about obj_rules filed.name.hash step.after.entries.0) ≡ true) ⊎ ((is ≡ false) × IsKept P filed all g)

  pub drop-answered : IsAnswered
  drop-answered = by (are_done all stood.stood.done || is_gone step.read.state filed.time) refl
    where
      hash : Hash
      hash = filed.name.hash

      done : IsDone obj_rules step.read step.before.journal hash (Writes filed.name (DropRecord filed all)) (answers.Took is) step.made g.journal
      done = is-done alone h s filed.name (DropRecord filed all) is g t step

      frees : Free step.read filed (DropRecord filed all) (doubts_about obj_rules hash step.before.journal.doubts)
          → NoneOf (doubts_record (key_of filed)) (doubts_about obj_rules hash step.before.journal.doubts)
      frees = drop-frees step.read filed all (doubts_about obj_rules hash step.before.journal.doubts)

      found-it : found step.read hash filed ≡ Some stood.stood
      found-it = found-read P alone h s filed (DropRecord filed all) is g t step frees told stood

      gone : Bool
      gone = is_gone step.read.state filed.time

      entered : g.journal.entries ≡ step.before.journal.entries ++ dropping_entries hash (Some stood.stood) (are_done all stood.stood.done || gone)
      entered =
          ap (λ (j : ObjJournal). j.entries) done.entered
          ∙ ap (λ (o : Option Filed). step.before.journal.entries ++ dropping_entries hash o (may_go o all gone)) found-it

      told-so : is ≡ (are_done all stood.stood.done || gone)
      told-so = taken done.answer_is ∙ ap (λ (o : Option Filed). may_go o all gone) found-it
        where
          taken : answers.Took is ≡ answers.Took (may_go (found step.read hash filed) all gone) → is ≡ may_go (found step.read hash filed) all gone
          taken same = cc

      went : step.after.entries.0 ≡ Dropped hash stood.stood ∷ [] → list_any (ends (key_of filed)) (about obj_rules hash step.after.entries.0) ≡ true
      went same =
          let own = hash-self hash in
          let here : about obj_rules hash (Dropped hash stood.stood ∷ []) ≡ Dropped hash stood.stood ∷ [] = rw own refl in
          let this : is_same_key (key_of stood.stood) (key_of filed) ≡ true =
          subst (λ (k : RecordKey). is_same_key k (key_of filed) ≡ true) (sym stood.own) (same-self (key_of filed)) in
          ap (λ (es : List ObjEntry). list_any (ends (key_of filed)) (about obj_rules hash es)) same
          ∙ (ap (list_any (ends (key_of filed))) here ∙ or_left (is_same_key (key_of stood.stood) (key_of filed)) false this)

      by : (goes : Bool) → (are_done all stood.stood.done || gone) ≡ goes → IsAnswered
      by true goes =
          inl (went (append_cancel_left step.before.journal.entries step.after.entries.0 (Dropped hash stood.stood ∷ [])
          (sym step.after.entries.1 ∙ rw goes at entered)))
      by false stays =
          let parts = or_parts (are_done all stood.stood.done) gone stays in
          let lacking = parts.0 in
          let lists_it : lists step.read hash (DropRecord filed all) ≡ true = rw found-it (rw lacking refl) in
          let same : stands obj_rules g hash ≡ stands obj_rules step.before hash =
          after P alone h s filed (DropRecord filed all) is g t step frees told stood [] (rw stays at entered) in
          let writes : NoneOf doubts_write (doubts_about obj_rules hash step.before.journal.doubts) =
          none-written step.read hash filed.name (DropRecord filed all) (doubts_about obj_rules hash step.before.journal.doubts) lists_it
          (free P alone h s filed (DropRecord filed all) is g t step frees told stood) in
          inr (
            told-so ∙ stays,
            record {
              stays = record {
                stood = stood.stood;
                is = ap (λ (v : ObjValue). v.records (key_of filed)) same ∙ stood.is;
                own = stood.own;
                done = stood.done;
              };
              lacks = parts.0;
              late =
                  ap (λ (v : ObjValue). is_gone v.state filed.time) same
                  ∙ (sym (ap (λ (x : State). is_gone x filed.time)
                  (state-told step.before hash step.read (can P alone h s filed (DropRecord filed all) is g t step frees told stood) writes))
                  ∙ parts.1);
            },
          )

-- ---- from the history before the step

module _ (P : ℕ → Type 0) (alone : Bool) (h : ObjHistory) (s : Hash → ObjValue) (filed : Filed) (is : Bool) (g : ObjHistory) (t : ObjValue) (p : GrowsOf h g)
    (told : g.told ≡ true) (stood : StandsAt (key_of filed) P h) where
  pub since-mark : (to : ℕ) → ChangesObject alone h s filed.name (MarkRecord filed to) (answers.Took is) g t
      → Since (key_of filed) h p.entries.0 (StandsAt (key_of filed) (λ d. P d ⊎ (d ≡ to)) g)
  since-mark to step =
      since-same (key_of filed) h g (step.follows.entries.0 ++ step.after.entries.0) p.entries.0 (StandsAt (key_of filed) (λ d. P d ⊎ (d ≡ to)) g)
      (added-is obj_rules step) p.entries.1
      (since-on (key_of filed) h step.before step.follows step.after.entries.0 (StandsAt (key_of filed) P step.before)
      (StandsAt (key_of filed) (λ d. P d ⊎ (d ≡ to)) g) (since-grows (key_of filed) h step.before step.follows P stood)
      (λ still. inr (mark-stands P alone h s filed to is g t step (sym step.after.told ∙ told) still)))

  pub since-drop : (all : List ℕ) → ChangesObject alone h s filed.name (DropRecord filed all) (answers.Took is) g t
      → Since (key_of filed) h p.entries.0 ((is ≡ false) × IsKept P filed all g)
  since-drop all step =
      since-same (key_of filed) h g (step.follows.entries.0 ++ step.after.entries.0) p.entries.0 ((is ≡ false) × IsKept P filed all g)
      (added-is obj_rules step) p.entries.1
      (since-on (key_of filed) h step.before step.follows step.after.entries.0 (StandsAt (key_of filed) P step.before)
      ((is ≡ false) × IsKept P filed all g) (since-grows (key_of filed) h step.before step.follows P stood)
      (λ still. by (drop-answered P alone h s filed all is g t step (sym step.after.told ∙ told) still)))
    where
      by : (list_any (ends (key_of filed)) (about obj_rules filed.name.hash step.after.entries.0) ≡ true) ⊎ ((is ≡ false) × IsKept P filed all g)
          → Since (key_of filed) step.before step.after.entries.0 ((is ≡ false) × IsKept P filed all g)
      by (inl went) = inl (inl went)
      by (inr kept) = inr kept
