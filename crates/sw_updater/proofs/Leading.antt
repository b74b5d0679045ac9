-- What the calls for a record do to it, where they were answered and nothing hindered them.
use Rattle.std.proofs.Common.{◌≡◌, ℕ, Bool, true, false, List, ◌++◌, Option, None, ◌⊎◌, inl, inr, refl, sym, ◌∙◌, ap, append_assoc, subst}
use Rattle.std.proofs.Common.{Result, Ok, true≢false}
use Rattle.sw_hashpath.specs.HashParts.{partition_of}
use Rattle.sw_object_steps.proofs.Hashes.{hash-self}
use Rattle.sw_object_steps.proofs.Undoubted.{state-told}
use Rattle.sw_object_steps.specs.Halves.{ObjHalf}
use Rattle.sw_object_steps.specs.Journals.{Hash}
use Rattle.sw_object_steps.specs.Recorded.{is_gone}
use Rattle.sw_object_steps.specs.Rules.{ObjHistory, obj_rules}
use Rattle.sw_object_steps.specs.declared.answer.Answer.TheVariants as answers
use Rattle.sw_object_steps.specs.declared.change.Change.TheVariants.{DropRecord, MarkRecord}
use Rattle.sw_object_steps.specs.declared.entry.ObjEntry.{ObjEntry}
use Rattle.sw_object_steps.specs.declared.dir_fault.DirFault.{DirFault}
use Rattle.sw_peer.specs.Sights.{Calls, IsBaseRead, IsMade, IsSame, Nodes, Sight}
use Rattle.sw_peer.specs.declared.link.Link.TheVariants.{Local}
use Rattle.sw_pending.specs.Records.{key_of}
use Rattle.sw_pending.specs.declared.filed.Filed.{Filed}
use Rattle.sw_pending.specs.declared.key.RecordKey.{RecordKey}
use Rattle.sw_rows.specs.declared.row.Row.{Row}
use Rattle.sw_state.specs.declared.state.State.{State}
use Rattle.sw_step.specs.Rules.{stands}
use Rattle.sw_updater.proofs.Fates.{Since, StandsAt, since-grows, since-on, since-same}
use Rattle.sw_updater.proofs.Following.{Follows, base-call-follows, drop-follows, follows-same, follows-trans, local-once, mark-follows}
use Rattle.sw_updater.proofs.Lasting.{grows-late}
use Rattle.sw_updater.proofs.Taking.{IsKept, since-drop, since-mark}

module _ (device : ℕ) (filed : Filed) (l : ℕ) where
  abbrev key : RecordKey
  key = key_of filed

  -- the record is under this lock
  abbrev pub IsUnder : Sight → Type 0
  IsUnder s = s.nodes.lock device filed.name.hash ≡ l

  pub under-later : (s t : Sight) → Follows s t → IsUnder s → IsUnder t
  under-later s t follows under = ap (λ (n : Nodes). n.lock device filed.name.hash) follows.nodes ∙ under

  -- where the one was so of the lock, the record is over since, or the other is so
  pub record Leads (X Y : ObjHistory → Type 0) (s t : Sight) : Type 0 where
    pub follows : Follows s t
    pub fate : IsUnder s → (t.objects.seen l).told ≡ true → X (s.objects.seen l)
        → Since key (s.objects.seen l) (follows.grows l).entries.0 (Y (t.objects.seen l))

  pub leads-trans : (X Y Z : ObjHistory → Type 0) (a b c : Sight) → Leads X Y a b → Leads Y Z b c → Leads X Z a c
  leads-trans X Y Z a b c p q = record {
    follows = both;
    fate = λ under told x.
        let first = p.follows.grows l in
        let second = q.follows.grows l in
        since-same key (a.objects.seen l) (c.objects.seen l) (first.entries.0 ++ second.entries.0) (both.grows l).entries.0 (Z (c.objects.seen l))
        (second.entries.1
        ∙ (ap (λ (es : List ObjEntry). es ++ second.entries.0) first.entries.1
        ∙ append_assoc (a.objects.seen l).journal.entries first.entries.0 second.entries.0)) (both.grows l).entries.1
        (since-on key (a.objects.seen l) (b.objects.seen l) first second.entries.0 (Y (b.objects.seen l)) (Z (c.objects.seen l))
        (p.fate under (sym second.told ∙ told) x) (q.fate (under-later a b p.follows under) told));
  }
    where
      both : Follows a c
      both = follows-trans a b c p.follows q.follows

  pub leads-from : (X W Y : ObjHistory → Type 0) (s t : Sight) → ((g : ObjHistory) → W g → X g) → Leads X Y s t → Leads W Y s t
  leads-from X W Y s t from p = record { follows = p.follows; fate = λ under told w. p.fate under told (from (s.objects.seen l) w) }

  pub leads-to : (X Y Z : ObjHistory → Type 0) (s t : Sight) → ((g : ObjHistory) → Y g → Z g) → Leads X Y s t → Leads X Z s t
  leads-to X Y Z s t to p = record { follows = p.follows; fate = λ under told x. by (p.fate under told x) }
    where
      by : Since key (s.objects.seen l) (p.follows.grows l).entries.0 (Y (t.objects.seen l))
          → Since key (s.objects.seen l) (p.follows.grows l).entries.0 (Z (t.objects.seen l))
      by (inl over) = inl over
      by (inr y) = inr (to (t.objects.seen l) y)

  -- whatever came
  pub leads-on : (P : ℕ → Type 0) (s t : Sight) → Follows s t → Leads (StandsAt key P) (StandsAt key P) s t
  leads-on P s t follows = record {
    follows = follows;
    fate = λ under told. since-grows key (s.objects.seen l) (t.objects.seen l) (follows.grows l) P;
  }

  -- a mark
  pub mark-leads : (P : ℕ → Type 0) (to : ℕ) (s : Sight) (is : Bool) (t : Sight)
      → Calls (IsMade Local device filed.name (MarkRecord filed to)) s Local (Ok (answers.Took is)) t
      → Leads (StandsAt key P) (StandsAt key (λ d. P d ⊎ (d ≡ to))) s t
  mark-leads P to s is t call =
      leads-trans (StandsAt key P) (StandsAt key With) (StandsAt key With) s mid t
      (record { follows = first; fate = λ under. subst Marks under marks }) (leads-on With mid t (follows-same mid t once.2))
    where
      With : ℕ → Type 0
      With d = P d ⊎ (d ≡ to)

      once : (m : Sight) × IsMade Local device filed.name (MarkRecord filed to) s (answers.Took is) m × IsSame m t
      once = local-once (IsMade Local device filed.name (MarkRecord filed to)) s (answers.Took is) t call

      mid : Sight
      mid = once.0

      first : Follows s mid
      first = mark-follows device filed to s is mid once.1

      Marks : ℕ → Type 0
      Marks n = (mid.objects.seen n).told ≡ true → StandsAt key P (s.objects.seen n)
          → Since key (s.objects.seen n) (first.grows n).entries.0 (StandsAt key With (mid.objects.seen n))

      marks : Marks (s.nodes.lock device filed.name.hash)
      marks told stood =
          let n = s.nodes.lock device filed.name.hash in
          since-mark P mid.alone (s.objects.seen n) (s.objects.holds device) filed is (mid.objects.seen n) (mid.objects.holds device filed.name.hash)
          (first.grows n) told stood to once.1.step

  -- a drop
  pub drop-leads : (P : ℕ → Type 0) (all : List ℕ) (s : Sight) (is : Bool) (t : Sight)
      → Calls (IsMade Local device filed.name (DropRecord filed all)) s Local (Ok (answers.Took is)) t
      → Leads (StandsAt key P) (λ g. (is ≡ false) × IsKept P filed all g) s t
  drop-leads P all s is t call =
      leads-trans (StandsAt key P) Kept Kept s mid t (record { follows = first; fate = λ under. subst Drops under drops })
      (record {
        follows = follows-same mid t once.2;
        fate = λ under told kept. inr (subst (λ (half : ObjHalf). Kept (half.seen l)) (sym (ap (λ (x : Sight). x.objects) once.2.same)) kept);
      })
    where
      Kept : ObjHistory → Type 0
      Kept g = (is ≡ false) × IsKept P filed all g

      once : (m : Sight) × IsMade Local device filed.name (DropRecord filed all) s (answers.Took is) m × IsSame m t
      once = local-once (IsMade Local device filed.name (DropRecord filed all)) s (answers.Took is) t call

      mid : Sight
      mid = once.0

      first : Follows s mid
      first = drop-follows device filed all s is mid once.1

      Drops : ℕ → Type 0
      Drops n = (mid.objects.seen n).told ≡ true → StandsAt key P (s.objects.seen n)
          → Since key (s.objects.seen n) (first.grows n).entries.0 (Kept (mid.objects.seen n))

      drops : Drops (s.nodes.lock device filed.name.hash)
      drops told stood =
          let n = s.nodes.lock device filed.name.hash in
          since-drop P mid.alone (s.objects.seen n) (s.objects.holds device) filed is (mid.objects.seen n) (mid.objects.holds device filed.name.hash)
          (first.grows n) told stood all once.1.step

  -- a read of what stands, which tells that nothing as late does: so the record that was kept didn't stand
  gone-leads : (P : ℕ → Type 0) (all : List ℕ) (s t : Sight) → IsBaseRead Local device filed s (Ok None) t → IsUnder s → (t.objects.seen l).told ≡ true
      → IsKept P filed all (s.objects.seen l) → ⊥
  gone-leads P all s t read under = subst Never (sym (s.nodes.one_lock device hash) ∙ under) never
    where
      hash : Hash
      hash = filed.name.hash

      n : ℕ
      n = s.nodes.part_lock device (partition_of hash s.nodes.power)

      Never : ℕ → Type 0
      Never k = (t.objects.seen k).told ≡ true → IsKept P filed all (s.objects.seen k) → ⊥

      never : Never n
      never told kept =
          let own = hash-self hash in
          let state : (read.step.read hash).state ≡ (stands obj_rules (t.objects.seen n) hash).state =
          state-told (t.objects.seen n) hash (read.step.read hash) (read.step.known told refl hash own) (read.step.settled refl hash own) in
          let late : is_gone (stands obj_rules (t.objects.seen n) hash).state filed.time ≡ false =
          grows-late (s.objects.seen n) (t.objects.seen n) hash filed.time read.step.follows kept.late in
          true≢false (sym (read.step.shown refl told) ∙ (ap (λ (x : State). is_gone x filed.time) state ∙ late))

  pub base-gone : (P : ℕ → Type 0) (all : List ℕ) (s t : Sight) → Calls (IsBaseRead Local device filed) s Local (Ok (Ok None)) t
      → Leads (IsKept P filed all) (λ g. ⊥) s t
  base-gone P all s t call = record {
    follows = base-call-follows device filed s (Ok None) t call;
    fate = λ under told kept.
        let once = local-once (IsBaseRead Local device filed) s (Ok None) t call in
        absurd (gone-leads P all s once.0 once.1 under (sym ((follows-same once.0 t once.2).grows l).told ∙ told) kept);
  }

  pub base-stays : (P : ℕ → Type 0) (all : List ℕ) (s : Sight) (base : Result (Option Row) DirFault) (t : Sight)
      → Calls (IsBaseRead Local device filed) s Local (Ok base) t → Leads (IsKept P filed all) (StandsAt key P) s t
  base-stays P all s base t call =
      leads-from (StandsAt key P) (IsKept P filed all) (StandsAt key P) s t (λ g kept. kept.stays)
      (leads-on P s t (base-call-follows device filed s base t call))
