-- What each stretch of an update does to a record, where nothing was missed for it.
use Rattle.std.proofs.Common.{◌≡◌, ◌==◌, ℕ, Bool, true, false, List, [], ◌∷◌, ◌⊎◌, inl, inr, refl, sym, ◌∙◌, ap, subst, Option, Some, None, Result, Ok, Err}
use Rattle.std.proofs.Common.{true≢false}
use Rattle.std.proofs.lemmas.Bool.{cases_Bool, eqb-true, or_cases, or_left, or_right}
use Rattle.sw_container_steps.specs.declared.cont_answer.ContAnswer.{ContAnswer}
use Rattle.sw_container_steps.specs.declared.cont_change.ContChange.TheVariants.{MergeRow}
use Rattle.sw_hashpath.specs.declared.place.Place.{Place}
use Rattle.sw_object_steps.specs.Rules.{ObjHistory}
use Rattle.sw_object_steps.specs.declared.answer.Answer.{Answer}
use Rattle.sw_object_steps.specs.declared.answer.Answer.TheVariants as answers
use Rattle.sw_object_steps.specs.declared.change.Change.TheVariants.{DropRecord, MarkRecord}
use Rattle.sw_object_steps.specs.declared.dir_fault.DirFault.{DirFault}
use Rattle.sw_pass.specs.Outcomes.{sending}
use Rattle.sw_pass.specs.Turns.{InTurn}
use Rattle.sw_pass.specs.declared.outcome.Outcome.{Outcome}
use Rattle.sw_peer.specs.ContSights.{IsContMade}
use Rattle.sw_peer.specs.Sights.{Calls, IsBaseRead, IsMade, Sight}
use Rattle.sw_peer.specs.declared.link.Link.TheVariants.{Local, Sent}
use Rattle.sw_peer.specs.declared.link.Lost.{Lost}
use Rattle.sw_pending.specs.Records.{key_of}
use Rattle.sw_pending.specs.Rules.{is_done}
use Rattle.sw_pending.specs.declared.filed.Filed.{Filed}
use Rattle.sw_pending.specs.declared.key.RecordKey.{RecordKey}
use Rattle.sw_redirect.specs.Hearing.{heard_of}
use Rattle.sw_redirect.specs.Sending.{Course, course}
use Rattle.sw_redirect.specs.declared.heard.Heard.{Heard}
use Rattle.sw_redirect.specs.declared.heard.Heard.TheVariants.{Acknowledged, Redirected, Refused}
use Rattle.sw_ring.specs.declared.ring.Ring.{Ring}
use Rattle.sw_rows.specs.declared.row.Row.{Row}
use Rattle.sw_updater.proofs.Fates.{StandsAt}
use Rattle.sw_updater.proofs.Following.{base-call-follows, cont-call-follows, follows-refl}
use Rattle.sw_updater.proofs.Leading.{Leads, base-gone, base-stays, drop-leads, leads-from, leads-on, leads-to, leads-trans, mark-leads}
use Rattle.sw_updater.proofs.Passing.{apart}
use Rattle.sw_updater.proofs.SentOn.{SendsOn, sent-on}
use Rattle.sw_updater.proofs.Standing.{done-all, stands-fewer}
use Rattle.sw_updater.proofs.Taking.{IsKept}
use Rattle.sw_updater.specs.Updating.{IsAfterBase, IsAfterDrop, IsDropCounted, IsDropped, IsFollowed, IsHeard, IsHeardAs, IsMarkCounted, IsMarked}
use Rattle.sw_updater.specs.Updating.{IsMarkedBehind, IsReadAgain, IsRowTold, IsSettled, IsTold, to_tell}

-- where something was missed
hindered : (c : Course) (t : Sight) → c ≡ course t true → c.missed ≡ false → ⊥
hindered c t is none = true≢false (sym (ap (λ (x : Course). x.missed) is) ∙ none)

-- all devices are among those that were done and those that were told
pub all-among : (done all : List ℕ) (d : ℕ) → is_done d all ≡ true → (is_done d done ≡ true) ⊎ (is_done d (to_tell done all) ≡ true)
all-among done [] d is = absurd cc
all-among done (a ∷ all) d is = elim (cases_Bool (is_done d done)) [
  | inl there ↦ inl there
  | inr not_there ↦ inr (elim (or_cases (d == a) (is_done d all) is) [
    | inl same ↦
        let lacking : is_done a done ≡ false = subst (λ (x : ℕ). is_done x done ≡ false) (eqb-true d a same) not_there in
        rw lacking (or_left (d == a) (is_done d (to_tell done all)) same)
    | inr later ↦ elim (all-among done all d later) [
      | inl there ↦ absurd (true≢false (sym there ∙ not_there))
      | inr behind ↦ elim (cases_Bool (is_done a done)) [
        | inl first ↦ rw first behind
        | inr lacks ↦ rw lacks (or_right (d == a) (is_done d (to_tell done all)) behind)
      ]
    ]
  ])
]

module _ (device : ℕ) (filed : Filed) (l : ℕ) where
  abbrev key : RecordKey
  key = key_of filed

  abbrev Stood : (ℕ → Type 0) → ObjHistory → Type 0
  Stood P = StandsAt key P

  abbrev Over : ObjHistory → Type 0
  Over g = ⊥

  -- from one course to the next
  pub record Unmissed (X Y : ObjHistory → Type 0) (c : Course) (o : Outcome) (d : Course) (p : Outcome) : Type 0 where
    pub before : c.missed ≡ false
    pub left : p.left ≡ o.left
    pub leads : Leads device filed l X Y c.sight d.sight

  unmissed-trans : (X Y Z : ObjHistory → Type 0) (a : Course) (o : Outcome) (b : Course) (p : Outcome) (c : Course) (q : Outcome)
      → (b.missed ≡ false → Unmissed X Y a o b p) → Unmissed Y Z b p c q → Unmissed X Z a o c q
  unmissed-trans X Y Z a o b p c q one two =
      let first = one two.before in
      record {
        before = first.before;
        left = two.left ∙ first.left;
        leads = leads-trans device filed l X Y Z a.sight b.sight c.sight first.leads two.leads;
      }

  -- a call by which nothing was missed
  unmissed-on : (X Y : ObjHistory → Type 0) (c : Course) (t : Sight) (o : Outcome) (d : Course) (p : Outcome) → Leads device filed l X Y c.sight t
      → d ≡ course t c.missed → p.left ≡ o.left → d.missed ≡ false → Unmissed X Y c o d p
  unmissed-on X Y c t o d p leads is left none = record {
    before = sym (ap (λ (x : Course). x.missed) is) ∙ none;
    left = left;
    leads = subst (λ (x : Course). Leads device filed l X Y c.sight x.sight) (sym is) leads;
  }

  -- ---- one device

  abbrev With : (ℕ → Type 0) → ℕ → ℕ → Type 0
  With P to d = P d ⊎ (d ≡ to)

  counted : (P : ℕ → Type 0) (to : ℕ) (answer : Answer) (t : Sight) (c : Course) (o : Outcome) (d : Course) (p : Outcome)
      → Calls (IsMade Local device filed.name (MarkRecord filed to)) c.sight Local (Ok answer) t
      → IsMarkCounted device filed answer t c.missed o d p true → d.missed ≡ false → Unmissed (Stood P) (Stood (With P to)) c o d p
  counted P to (answers.Took went) t c o d p call is none =
      unmissed-on (Stood P) (Stood (With P to)) c t o d p (mark-leads device filed l P to c.sight went t call) is.0 (ap (λ (x : Outcome). x.left) is.1) none
  counted P to answer t c o d p call is none = absurd (hindered d t is.0 none)

  marked : (P : ℕ → Type 0) (to : ℕ) (c : Course) (o : Outcome) (d : Course) (p : Outcome) → IsMarked device filed to c o d p true → d.missed ≡ false
      → Unmissed (Stood P) (Stood (With P to)) c o d p
  marked P to c o d p (inl is) none = counted P to is.0 is.1 c o d p is.2 is.3 none
  marked P to c o d p (inr wants) none = absurd (apart wants.2)

  -- sending a row on to a shard changes no record
  followed : (P : ℕ → Type 0) (ring : Ring) (row : Row) (to : ℕ) (shard : Place) (c : Course) (o : Outcome) (d : Course) (p : Outcome)
      → IsFollowed device filed ring row to shard c o d p true → d.missed ≡ false → Unmissed (Stood P) (Stood (With P to)) c o d p
  followed P ring row to shard c o d p (inl is) none = by is.3
    where
      e : Sight
      e = (is.0).sight

      sends : SendsOn (course c.sight false) o is.0 is.1
      sends = sent-on shard row ring c.sight o is.0 is.1 is.2

      by : IsMarkedBehind device filed to is.0 c.missed is.1 d p true → Unmissed (Stood P) (Stood (With P to)) c o d p
      by (inl has) =
          unmissed-trans (Stood P) (Stood P) (Stood (With P to)) c o (course e c.missed) is.1 d p
          (unmissed-on (Stood P) (Stood P) c e o (course e c.missed) is.1 (leads-on device filed l P c.sight e sends.follows) refl sends.left)
          (marked P to (course e c.missed) is.1 d p has.1 none)
      by (inr lacks) = absurd (hindered d e lacks.1 none)
  followed P ring row to shard c o d p (inr stopped) none = absurd (apart stopped.3)

  heard : (P : ℕ → Type 0) (ring : Ring) (row : Row) (to : ℕ) (h : Heard) (c : Course) (o : Outcome) (d : Course) (p : Outcome)
      → IsHeardAs device filed ring row to h c o d p true → d.missed ≡ false → Unmissed (Stood P) (Stood (With P to)) c o d p
  heard P ring row to Acknowledged c o d p is none = marked P to c o d p is none
  heard P ring row to (Redirected shard) c o d p is none = followed P ring row to shard c o d p is none
  heard P ring row to (Refused hindrance) c o d p is none = absurd (hindered d c.sight is.0 none)

  told : (P : ℕ → Type 0) (ring : Ring) (place : Place) (row : Row) (to : ℕ) (c : Course) (o : Outcome) (d : Course) (p : Outcome)
      → IsTold device filed ring place row to c o d p true → d.missed ≡ false → Unmissed (Stood P) (Stood (With P to)) c o d p
  told P ring place row to c o d p is none = by is.0 is.2 is.3
    where
      mid : Sight
      mid = is.1

      by : (answer : Result ContAnswer Lost) → Calls (IsContMade Sent to place (MergeRow row)) c.sight Sent answer mid
          → IsHeard device filed ring place row to answer (course mid c.missed) (sending o) d p true → Unmissed (Stood P) (Stood (With P to)) c o d p
      by (Ok answer) call hears =
          unmissed-trans (Stood P) (Stood P) (Stood (With P to)) c o (course mid c.missed) (sending o) d p
          (unmissed-on (Stood P) (Stood P) c mid o (course mid c.missed) (sending o)
          (leads-on device filed l P c.sight mid (cont-call-follows Sent to place (MergeRow row) c.sight (Ok answer) mid call)) refl refl)
          (heard P ring row to (heard_of place answer) (course mid c.missed) (sending o) d p hears none)
      by (Err lost) call hears = absurd (hindered d mid hears.0 none)

  -- all of them, one after the other
  abbrev Among : (ℕ → Type 0) → List ℕ → ℕ → Type 0
  Among P devices d = P d ⊎ (is_done d devices ≡ true)

  all-told : (P : ℕ → Type 0) (ring : Ring) (place : Place) (row : Row) (devices : List ℕ) (c : Course) (o : Outcome) (d : Course) (p : Outcome)
      → InTurn (IsTold device filed ring place row) devices c o d p true → d.missed ≡ false → Unmissed (Stood P) (Stood (Among P devices)) c o d p
  all-told P ring place row [] c o d p is none =
      unmissed-on (Stood P) (Stood (Among P [])) c c.sight o d p
      (leads-to device filed l (Stood P) (Stood P) (Stood (Among P [])) c.sight c.sight
      (λ g. stands-fewer P (Among P []) key _ none-among) (leads-on device filed l P c.sight c.sight (follows-refl c.sight)))
      is.0 (ap (λ (x : Outcome). x.left) is.1) none
    where
      none-among : (d : ℕ) → Among P [] d → P d
      none-among d (inl is) = is
      none-among d (inr is) = absurd (apart (sym is))
  all-told P ring place row (to ∷ devices) c o d p (inl went) none =
      let rest = all-told (With P to) ring place row devices went.0 went.1 d p went.3 none in
      unmissed-trans (Stood P) (Stood (With P to)) (Stood (Among P (to ∷ devices))) c o went.0 went.1 d p (told P ring place row to c o went.0 went.1 went.2)
      (record {
        before = rest.before;
        left = rest.left;
        leads = leads-to device filed l (Stood (With P to)) (Stood (Among (With P to) devices)) (Stood (Among P (to ∷ devices))) (went.0).sight d.sight
            (λ g. stands-fewer (Among (With P to) devices) (Among P (to ∷ devices)) key _ among) rest.leads;
      })
    where
      among : (e : ℕ) → Among P (to ∷ devices) e → Among (With P to) devices e
      among e (inl is) = inl (inl is)
      among e (inr is) = elim (or_cases (e == to) (is_done e devices) is) [
        | inl first ↦ inl (inr (eqb-true e to first))
        | inr later ↦ inr later
      ]
  all-told P ring place row (to ∷ devices) c o d p (inr stopped) none = absurd (apart stopped.1)

  -- ---- the end of the record

  abbrev Kept : (ℕ → Type 0) → List ℕ → Bool → ObjHistory → Type 0
  Kept P all dropped g = (dropped ≡ false) × IsKept P filed all g

  dropped-so : (P : ℕ → Type 0) (all : List ℕ) (c : Course) (o : Outcome) (d : Course) (p : Outcome) (dropped : Bool)
      → IsDropped device filed all c o d p dropped true → d.missed ≡ false → Unmissed (Stood P) (Kept P all dropped) c o d p
  dropped-so P all c o d p dropped (inl is) none = by is.0 is.2 is.3
    where
      by : (answer : Answer) → Calls (IsMade Local device filed.name (DropRecord filed all)) c.sight Local (Ok answer) is.1
          → IsDropCounted device filed answer is.1 c.missed o d p dropped true → Unmissed (Stood P) (Kept P all dropped) c o d p
      by (answers.Took went) call counts =
          unmissed-on (Stood P) (Kept P all dropped) c is.1 o d p
          (subst (λ (b : Bool). Leads device filed l (Stood P) (Kept P all b) c.sight is.1) (sym counts.2)
          (drop-leads device filed l P all c.sight went is.1 call))
          counts.0 (ap (λ (x : Outcome). x.left) counts.1) none
      by answer call counts = absurd (hindered d is.1 counts.0 none)
  dropped-so P all c o d p dropped (inr wants) none = absurd (apart wants.0.2)

  -- those that are done from the start
  abbrev pub Done : ℕ → Type 0
  Done d = is_done d filed.done ≡ true

  module _ (ring : Ring) (place : Place) (all : List ℕ) where
    abbrev Told : ℕ → Type 0
    Told = Among Done (to_tell filed.done all)

    -- where all were told it can't be kept
    none-kept : (dropped : Bool) (g : ObjHistory) → Kept Told all dropped g → Over g
    none-kept dropped g kept =
        let stays = kept.1.stays in
        true≢false (sym (done-all all stays.stood.done (λ d is. stays.done d (all-among filed.done all d is))) ∙ kept.1.lacks)

    row-told : (row : Row) (c : Course) (o : Outcome) (d : Course) (p : Outcome) → IsRowTold device filed ring place all row c o d p true → d.missed ≡ false
        → Unmissed (Stood Done) Over c o d p
    row-told row c o d p (inl is) none =
        let last = dropped-so Told all is.0 is.1 d p is.3.0 is.3.1 none in
        unmissed-trans (Stood Done) (Stood Told) Over c o is.0 is.1 d p (all-told Done ring place row (to_tell filed.done all) c o is.0 is.1 is.2)
        (record {
          before = last.before;
          left = last.left;
          leads = leads-to device filed l (Stood Told) (Kept Told all is.3.0) Over (is.0).sight d.sight (none-kept is.3.0) last.leads;
        })
    row-told row c o d p (inr stopped) none = absurd (apart stopped.1)

    -- a read of what stands, after a drop that kept the record
    read-again : (base : Result (Option Row) DirFault) (s : Sight) (mid : Sight) (missed : Bool) (o : Outcome) (d : Course) (p : Outcome)
        → Calls (IsBaseRead Local device filed) s Local (Ok base) mid → IsReadAgain device filed ring place all base (course mid missed) o d p true
        → d.missed ≡ false → Unmissed (IsKept Done filed all) Over (course s missed) o d p
    read-again (Ok (Some row)) s mid missed o d p call is none =
        unmissed-trans (IsKept Done filed all) (Stood Done) Over (course s missed) o (course mid missed) o d p
        (unmissed-on (IsKept Done filed all) (Stood Done) (course s missed) mid o (course mid missed) o
        (base-stays device filed l Done all s (Ok (Some row)) mid call) refl refl)
        (row-told row (course mid missed) o d p is none)
    read-again (Ok None) s mid missed o d p call is none =
        unmissed-on (IsKept Done filed all) Over (course s missed) mid o d p (base-gone device filed l Done all s mid call) is.0
        (ap (λ (x : Outcome). x.left) is.1) none
    read-again (Err fault) s mid missed o d p call is none = absurd (hindered d mid is.0 none)

    after-drop : (dropped missed : Bool) (c : Course) (o : Outcome) (d : Course) (p : Outcome)
        → IsAfterDrop device filed ring place all dropped missed c o d p true → missed ≡ c.missed → d.missed ≡ false
        → Unmissed (Kept Done all dropped) Over c o d p
    after-drop true missed c o d p is same none =
        unmissed-on (Kept Done all true) Over c c.sight o d p
        (record { follows = follows-refl c.sight; fate = λ under told kept. absurd (apart kept.0) }) is.0 (ap (λ (x : Outcome). x.left) is.1) none
    after-drop false true c o d p is same none = absurd (apart (same ∙ (sym (ap (λ (x : Course). x.missed) is.0) ∙ none)))
    after-drop false false c o d p is same none =
        let rest = read-again is.0 c.sight is.1 c.missed o d p is.2 is.3 none in
        record {
          before = rest.before;
          left = rest.left;
          leads = leads-from device filed l (IsKept Done filed all) (Kept Done all false) Over c.sight d.sight (λ g kept. kept.1) rest.leads;
        }

    after-base : (base : Result (Option Row) DirFault) (c : Course) (o : Outcome) (d : Course) (p : Outcome)
        → IsAfterBase device filed ring place all base c o d p true → d.missed ≡ false → Unmissed (Stood Done) Over c o d p
    after-base (Ok (Some row)) c o d p is none = row-told row c o d p is none
    after-base (Ok None) c o d p (inl is) none =
        unmissed-trans (Stood Done) (Kept Done all is.2) Over c o is.0 is.1 d p (dropped-so Done all c o is.0 is.1 is.2 is.3)
        (after-drop is.2 (is.0).missed is.0 is.1 d p is.4 refl none)
    after-base (Ok None) c o d p (inr stopped) none = absurd (apart stopped.1)
    after-base (Err fault) c o d p is none = absurd (hindered d c.sight is.0 none)

    -- the record that stood is over
    pub settled-over : (s : Sight) (o : Outcome) (d : Course) (p : Outcome) → IsSettled device filed ring place all s o d p true → d.missed ≡ false
        → Unmissed (Stood Done) Over (course s false) o d p
    settled-over s o d p is none =
        unmissed-trans (Stood Done) (Stood Done) Over (course s false) o (course is.1 false) o d p
        (unmissed-on (Stood Done) (Stood Done) (course s false) is.1 o (course is.1 false) o
        (leads-on device filed l Done s is.1 (base-call-follows device filed s is.0 is.1 is.2)) refl refl)
        (after-base is.0 (course is.1 false) o d p is.3 none)
