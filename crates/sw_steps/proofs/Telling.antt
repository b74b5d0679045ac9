-- One record is told to a device of its container, and marked or dropped, honestly: the row that is sent is the one to tell for the record, and goes to the
-- container of the record's name, or to a shard that this left it to; and a device is marked behind a row that counts as acknowledged by it.
use Rattle.std.proofs.Common.{◌≡◌, ℕ, Bool, true, false, List, [], ◌∷◌, refl, sym, ◌∙◌, ap, subst, inl, inr, Option, Some, Result, Ok, Err}
use Rattle.std.specs.Prelude.{⊤}
use Rattle.sw_container_steps.specs.declared.cont_answer.ContAnswer.{ContAnswer}
use Rattle.sw_container_steps.specs.declared.cont_answer.ContAnswer.TheVariants as conts
use Rattle.sw_container_steps.specs.declared.cont_change.ContChange.TheVariants.{MergeRow}
use Rattle.sw_hashpath.specs.HashParts.{partition_of}
use Rattle.sw_hashpath.specs.Places.{IsPlaceOf}
use Rattle.sw_hashpath.specs.declared.place.Place.{Place}
use Rattle.sw_hashpath.specs.declared.secrets.Secrets.{Secrets}
use Rattle.sw_machine.proofs.Doors.{base-reads}
use Rattle.sw_machine.specs.Honest.{WasTold}
use Rattle.sw_machine.specs.Machine.{RunLine}
use Rattle.sw_machine.specs.Messages.{Update_of}
use Rattle.sw_object_steps.proofs.Hashes.{hash-self}
use Rattle.sw_object_steps.specs.BaseRows.{IsBaseFor}
use Rattle.sw_object_steps.specs.Halves.{ObjHalf}
use Rattle.sw_object_steps.specs.Values.{ObjValue}
use Rattle.sw_object_steps.specs.declared.answer.Answer.{Answer}
use Rattle.sw_object_steps.specs.declared.answer.Answer.TheVariants as answers
use Rattle.sw_object_steps.specs.declared.change.Change.TheVariants.{DropRecord, MarkRecord}
use Rattle.sw_object_steps.specs.declared.dir_fault.DirFault.{DirFault}
use Rattle.sw_pass.specs.Outcomes.{sending}
use Rattle.sw_pass.specs.Rings.{replicas_in}
use Rattle.sw_pass.specs.Turns.{InTurn}
use Rattle.sw_pass.specs.declared.outcome.Outcome.{Outcome}
use Rattle.sw_peer.proofs.Calls.{BaseFrame, base-step, calls-moves}
use Rattle.sw_peer.specs.ContSights.{IsContMade}
use Rattle.sw_peer.specs.Sights.{Calls, IsBaseRead, IsMade, Nodes, Sight}
use Rattle.sw_peer.specs.declared.link.Link.TheVariants.{Local, Sent}
use Rattle.sw_peer.specs.declared.link.Lost.{Lost}
use Rattle.sw_pending.specs.Records.{key_of}
use Rattle.sw_pending.specs.declared.filed.Filed.{Filed}
use Rattle.sw_redirect.specs.Hearing.{heard_of}
use Rattle.sw_redirect.specs.Sending.{Course, IsSentOn, course}
use Rattle.sw_redirect.specs.declared.heard.Heard.{Heard}
use Rattle.sw_redirect.specs.declared.heard.Heard.TheVariants.{Acknowledged, Redirected, Refused}
use Rattle.sw_ring.specs.declared.ring.Ring.{Ring}
use Rattle.sw_rows.specs.declared.row.Row.{Row}
use Rattle.sw_updater.specs.Updating.{IsDropCounted, IsDropped, IsFollowed, IsHeard, IsHeardAs, IsMarkCounted, IsMarked, IsMarkedBehind, IsTold}
use Rattle.sw_steps.proofs.Acknowledging.{told-behind}
use Rattle.sw_steps.proofs.GoingBy.{GoesOnBy, came-local}
use Rattle.sw_steps.proofs.Honestly.{AreAllOf, Any, GoesHonestly, GoesTelling, Knows, change-goes, honestly-join, honestly-same, knows-later, telling-as}
use Rattle.sw_steps.proofs.Honestly.{telling-honest, telling-same, telling-then}
use Rattle.sw_steps.proofs.Leaving.{reads-leave}
use Rattle.sw_steps.proofs.Marking.{mark-leaves}
use Rattle.sw_steps.proofs.Sending.{IsHeardSo, IsTaken, Sends, followed-goes, heard-so, taken-goes, sent-owns, unfollowed-goes}
use Rattle.sw_steps.proofs.Sending as sending_on

module _ (device : ℕ) (filed : Filed) where
  -- the row is the one to tell for the record, as far as the lock of its name tells what stands there
  abbrev pub Stands : Sight → Row → Type 0
  Stands s row =
      s.alone ≡ true → (s.objects.seen (s.nodes.lock device filed.name.hash)).told ≡ true
      → IsBaseFor filed (s.objects.holds device filed.name.hash).state (Some row)

  -- ---- what stands is read

  abbrev pub Read : Sight → Result (Option Row) DirFault → Sight → Type 0
  Read = IsBaseRead Local device filed

  pub read-goes : (a : Sight) (got : Result (Option Row) DirFault) (b : Sight) → Calls Read a Local (Ok got) b → GoesOnBy a b
  read-goes a got b call =
      let moves : BaseFrame device filed a b = calls-moves (BaseFrame device filed) Read (base-step Local device filed) a Local (Ok got) b call in
      record { nodes = moves.nodes; alone = moves.alone; runs = reads-leave (base-reads device filed) (λ way row added. refl) Local a (Ok got) b call }

  -- the row that was read is the one to tell
  step-stands : (a : Sight) (row : Row) (b : Sight) → Read a (Ok (Some row)) b → Stands b row
  step-stands a row b read alone told =
      let tells : (b.objects.seen (a.nodes.part_lock device (partition_of filed.name.hash a.nodes.power))).told ≡ true =
      subst (λ (l : ℕ). (b.objects.seen l).told ≡ true) (a.nodes.one_lock device filed.name.hash)
      (subst (λ (n : Nodes). (b.objects.seen (n.lock device filed.name.hash)).told ≡ true) read.moves.nodes told) in
      subst (λ (v : ObjValue). IsBaseFor filed v.state (Some row)) (read.step.held alone tells refl filed.name.hash (hash-self filed.name.hash))
      (read.step.shown refl tells)

  pub read-stands : (a : Sight) (row : Row) (b : Sight) → Calls Read a Local (Ok (Ok (Some row))) b → Stands b row
  read-stands a row b call =
      let one = came-local Read a (Ok (Some row)) b call in
      subst (λ (x : Sight). Stands x row) (sym one.2.same) (step-stands a row one.0 one.1)

  -- ---- a device is marked

  mark-kept : (to : ℕ) (a : Sight) (answer : Answer) (b : Sight) → IsMade Local device filed.name (MarkRecord filed to) a answer b → b.alone ≡ true
      → (b.objects.seen (b.nodes.lock device filed.name.hash)).told ≡ true
      → (b.objects.holds device filed.name.hash).state ≡ (a.objects.holds device filed.name.hash).state
  mark-kept to a answer b made alone told =
      mark-leaves b.alone (a.objects.seen (a.nodes.lock device filed.name.hash)) (a.objects.holds device) filed.name filed to answer
      (b.objects.seen (a.nodes.lock device filed.name.hash)) (b.objects.holds device filed.name.hash) made.step alone
      (subst (λ (n : Nodes). (b.objects.seen (n.lock device filed.name.hash)).told ≡ true) made.moves.nodes told)

  mark-counted : (answer : Answer) (t : Sight) (missed : Bool) (o : Outcome) (d : Course) (p : Outcome) (on : Bool)
      → IsMarkCounted device filed answer t missed o d p on → d.sight ≡ t
  mark-counted (answers.Took went) t missed o d p on is = ap (λ (x : Course). x.sight) is.0
  mark-counted answer t missed o d p on is = ap (λ (x : Course). x.sight) is.0

  drop-counted : (answer : Answer) (t : Sight) (missed : Bool) (o : Outcome) (d : Course) (p : Outcome) (dropped on : Bool)
      → IsDropCounted device filed answer t missed o d p dropped on → d.sight ≡ t
  drop-counted (answers.Took went) t missed o d p dropped on is = ap (λ (x : Course). x.sight) is.0
  drop-counted answer t missed o d p dropped on is = ap (λ (x : Course). x.sight) is.0

  -- the row is still the one to tell then
  mark-stands : (to : ℕ) (row : Row) (a : Sight) (answer : Answer) (b : Sight)
      → Calls (IsMade Local device filed.name (MarkRecord filed to)) a Local (Ok answer) b → Stands a row → Stands b row
  mark-stands to row a answer b call stands =
      let one = came-local (IsMade Local device filed.name (MarkRecord filed to)) a answer b call in
      subst (λ (x : Sight). Stands x row) (sym one.2.same) (by one.0 one.1)
    where
      by : (t : Sight) → IsMade Local device filed.name (MarkRecord filed to) a answer t → Stands t row
      by t made alone tells =
          let there : (t.objects.seen (a.nodes.lock device filed.name.hash)).told ≡ true =
          subst (λ (n : Nodes). (t.objects.seen (n.lock device filed.name.hash)).told ≡ true) made.moves.nodes tells in
          subst (λ s. IsBaseFor filed s (Some row)) (sym (mark-kept to a answer t made alone tells))
          (stands (made.moves.alone alone) (sym (made.moves.objects.grows (a.nodes.lock device filed.name.hash)).told ∙ there))

  -- ---- the record is dropped

  pub dropped-goes : (secrets : Secrets) (replicas : Place → List ℕ) (all : List ℕ) → AreAllOf secrets replicas filed.name all → (c : Course) (o : Outcome)
      (d : Course) (p : Outcome) (dropped on : Bool) → IsDropped device filed all c o d p dropped on → GoesHonestly secrets replicas c.sight d.sight
  dropped-goes secrets replicas all are c o d p dropped on (inl is) =
      subst (λ (x : Sight). GoesHonestly secrets replicas c.sight x) (sym (drop-counted is.0 is.1 c.missed o d p dropped on is.3))
      (telling-honest secrets replicas c.sight is.1 (change-goes secrets replicas device filed.name (DropRecord filed all) c.sight is.0 is.1 is.2)
      (λ done. are))
  dropped-goes secrets replicas all are c o d p dropped on (inr wants) =
      honestly-same secrets replicas c.sight d.sight (ap (λ (x : Course). x.sight) wants.0.0)

  -- ---- the row goes to the container of the name

  module _ (ring : Ring) (place : Place) (placed : IsPlaceOf ring.secrets filed.name place) (row : Row) where
    abbrev Goes : (List RunLine → Type 0) → (List RunLine → Type 0) → Sight → Sight → Type 0
    Goes = GoesTelling ring.secrets (replicas_in ring)

    abbrev Nothing : List RunLine → Type 0
    Nothing = Any ring.secrets (replicas_in ring)

    -- the device knows the name's place, and the row is the one to tell
    abbrev Own : Sight → Type 0
    Own s = Knows ring.secrets s × Stands s row

    abbrev GoesOwning : (List RunLine → Type 0) → (List RunLine → Type 0) → Sight → Sight → Type 0
    GoesOwning so tells a b = Goes so tells a b × Own b

    sends : Sends ring device place row (λ to at. Update_of to filed place at row) Own (λ to at. ⊤)
    sends = record {
      arrives = λ to at answer entries. (refl, refl, refl);
      honest = λ to at done is. is;
      carried = λ to at a m alone stands own. (
        subst (λ (x : Secrets). IsPlaceOf x filed.name place) (sym own.0) placed,
        λ tells.
            subst (λ (half : ObjHalf). IsBaseFor filed (half.holds device filed.name.hash).state (Some row)) stands.objects
            (own.1 alone (subst (λ (half : ObjHalf). (half.seen (a.nodes.lock device filed.name.hash)).told ≡ true) (sym stands.objects) tells)),
      );
      still = λ to at a b may moves own. (
        knows-later ring.secrets a b moves.nodes own.0,
        λ alone tells.
            subst (λ (half : ObjHalf). IsBaseFor filed (half.holds device filed.name.hash).state (Some row)) (sym moves.objects)
            (own.1 (moves.alone alone)
            (subst (λ (half : ObjHalf). (half.seen (a.nodes.lock device filed.name.hash)).told ≡ true) moves.objects
            (subst (λ (n : Nodes). (b.objects.seen (n.lock device filed.name.hash)).told ≡ true) moves.nodes tells))),
      );
    }

    -- ---- a device is marked, behind a row that it was told

    abbrev Marks : ℕ → List RunLine → Type 0
    Marks to done = WasTold ring.secrets (replicas_in ring) done device (key_of filed) to

    marked-goes : (to : ℕ) (c : Course) (o : Outcome) (d : Course) (p : Outcome) (on : Bool) → Own c.sight → IsMarked device filed to c o d p on
        → GoesOwning (Marks to) Nothing c.sight d.sight
    marked-goes to c o d p on own (inl is) =
        let goes = change-goes ring.secrets (replicas_in ring) device filed.name (MarkRecord filed to) c.sight is.0 is.1 is.2 in
        subst (λ (x : Sight). GoesOwning (Marks to) Nothing c.sight x) (sym (mark-counted is.0 is.1 c.missed o d p on is.3)) (
          goes,
          (
            knows-later ring.secrets c.sight is.1 goes.goes.nodes own.0,
            mark-stands to row c.sight is.0 is.1 is.2 own.1,
          ),
        )
    marked-goes to c o d p on own (inr wants) =
        let same : d.sight ≡ c.sight = ap (λ (x : Course). x.sight) wants.0 in
        (telling-same ring.secrets (replicas_in ring) c.sight d.sight same, subst Own (sym same) own)

    was-told : (to : ℕ) (lines : List RunLine) → IsTaken sends to lines → Marks to lines
    was-told to lines taken = record {
      filed = filed;
      place = place;
      row = row;
      before = [];
      behind = taken.0;
      key_is = refl;
      lines_are = taken.1;
      acknowledged = taken.2;
    }

    -- behind lines that tell it
    then-marked : (to : ℕ) (a : Sight) (c : Course) (o : Outcome) (d : Course) (p : Outcome) (on : Bool) → Goes Nothing (Marks to) a c.sight → Own c.sight
        → IsMarked device filed to c o d p on → GoesOwning Nothing Nothing a d.sight
    then-marked to a c o d p on told own is =
        let marked = marked-goes to c o d p on own is in (
          telling-then ring.secrets (replicas_in ring) a c.sight d.sight told marked.0
              (λ done lines any tells. told-behind ring.secrets (replicas_in ring) done lines device (key_of filed) to tells) (λ xs ys tells any. tt),
          marked.1,
        )

    -- ---- the row is sent

    module _ (to : ℕ) (a : Sight) (r : Result ContAnswer Lost) (mid : Sight) (call : Calls (IsContMade Sent to place (MergeRow row)) a Sent r mid)
        (own : Own a) where
      -- nothing follows
      ends : (d : Course) (missed : Bool) → d ≡ course mid missed → GoesOwning Nothing Nothing a d.sight
      ends d missed is =
          subst (λ (x : Sight). GoesOwning Nothing Nothing a x) (sym (ap (λ (x : Course). x.sight) is))
          (unfollowed-goes sends to a r mid call own, sent-owns sends to place a r mid call tt own)

      -- it was left to a shard
      followed : (shard : Place) → r ≡ Ok (conts.Redirect shard) → (missed : Bool) (o : Outcome) (d : Course) (p : Outcome) (on : Bool)
          → IsFollowed device filed ring row to shard (course mid missed) o d p on → GoesOwning Nothing Nothing a d.sight
      followed shard is missed o d p on follows = by follows
        where
          sent-on : (e : Course) (between : Outcome) (more : Bool) → IsSentOn ring shard row mid o e between more
              → GoesOwning Nothing (sending_on.IsFollowed sends to e more) a e.sight
          sent-on e between more = followed-goes sends to a r mid call own shard is (λ d. tt) tt o e between more

          behind : (e : Course) (between : Outcome) → GoesOwning Nothing (sending_on.IsFollowed sends to e true) a e.sight
              → IsMarkedBehind device filed to e missed between d p on → GoesOwning Nothing Nothing a d.sight
          behind e between went (inl (none, marks)) =
              then-marked to a (course e.sight missed) between d p on
              (telling-as ring.secrets (replicas_in ring) a e.sight went.0 (λ done any. any) (λ lines tells. was-told to lines (tells refl none))) went.1 marks
          behind e between went (inr (some, same, counts, on_is)) =
              subst (λ (x : Sight). GoesOwning Nothing Nothing a x) (sym (ap (λ (x : Course). x.sight) same))
              (telling-as ring.secrets (replicas_in ring) a e.sight went.0 (λ done any. any) (λ lines tells. tt), went.1)

          by : IsFollowed device filed ring row to shard (course mid missed) o d p on → GoesOwning Nothing Nothing a d.sight
          by (inl (e, between, more, marks)) = behind e between (sent-on e between true more) marks
          by (inr (e, more, same, stops)) =
              let went = sent-on e p false more in
              subst (λ (x : Sight). GoesOwning Nothing Nothing a x) (sym (ap (λ (x : Course). x.sight) same))
              (telling-as ring.secrets (replicas_in ring) a e.sight went.0 (λ done any. any) (λ lines tells. tt), went.1)

      heard-goes : (answer : ContAnswer) → r ≡ Ok answer → (heard : Heard) → IsHeardSo place answer heard → (missed : Bool) (o : Outcome) (d : Course)
          (p : Outcome) (on : Bool) → IsHeardAs device filed ring row to heard (course mid missed) o d p on → GoesOwning Nothing Nothing a d.sight
      heard-goes answer is Acknowledged so missed o d p on marks =
          then-marked to a (course mid missed) o d p on
          (telling-as ring.secrets (replicas_in ring) a mid (taken-goes sends to a r mid call own answer is so) (λ done any. any) (was-told to))
          (sent-owns sends to place a r mid call tt own) marks
      heard-goes answer is (Redirected shard) so missed o d p on follows = followed shard (is ∙ ap Ok so.0) missed o d p on follows
      heard-goes answer is (Refused hindrance) so missed o d p on refused = ends d true refused.0

    answered-goes : (to : ℕ) (a : Sight) (r : Result ContAnswer Lost) (mid : Sight) → Calls (IsContMade Sent to place (MergeRow row)) a Sent r mid → Own a
        → (missed : Bool) (o : Outcome) (d : Course) (p : Outcome) (on : Bool) → IsHeard device filed ring place row to r (course mid missed) o d p on
        → GoesOwning Nothing Nothing a d.sight
    answered-goes to a (Ok answer) mid call own missed o d p on heard =
        heard-goes to a (Ok answer) mid call own answer refl (heard_of place answer) (heard-so place answer) missed o d p on heard
    answered-goes to a (Err lost) mid call own missed o d p on heard = ends to a (Err lost) mid call own d true heard.0

    told-goes : (to : ℕ) (c : Course) (o : Outcome) (d : Course) (p : Outcome) (on : Bool) → Own c.sight → IsTold device filed ring place row to c o d p on
        → GoesHonestly ring.secrets (replicas_in ring) c.sight d.sight × Own d.sight
    told-goes to c o d p on own is =
        let went = answered-goes to c.sight is.0 is.1 is.2 own c.missed (sending o) d p on is.3 in
        (telling-honest ring.secrets (replicas_in ring) c.sight d.sight went.0 (λ done. tt), went.1)

    pub all-told-go : (devices : List ℕ) (c : Course) (o : Outcome) (d : Course) (p : Outcome) (on : Bool) → Knows ring.secrets c.sight → Stands c.sight row
        → InTurn (IsTold device filed ring place row) devices c o d p on → GoesHonestly ring.secrets (replicas_in ring) c.sight d.sight
    all-told-go [] c o d p on knows own is = honestly-same ring.secrets (replicas_in ring) c.sight d.sight (ap (λ (x : Course). x.sight) is.0)
    all-told-go (to ∷ devices) c o d p on knows own (inl went) =
        let one = told-goes to c o went.0 went.1 true (knows, own) went.2 in
        honestly-join ring.secrets (replicas_in ring) c.sight (went.0).sight d.sight one.0
        (all-told-go devices went.0 went.1 d p on one.1.0 one.1.1 went.3)
    all-told-go (to ∷ devices) c o d p on knows own (inr stopped) = (told-goes to c o d p false (knows, own) stopped.0).0
