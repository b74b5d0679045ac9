-- What comes to a device, in a message or not, is what the ledger has.
use Rattle.std.proofs.Common.{◌≡◌, ℕ, true, List, [], ◌∷◌, Some, ◌⊎◌, inl, inr, refl, sym, ◌∙◌, ap, subst}
use Rattle.std.specs.List.{All, Contains}
use Rattle.std.proofs.lemmas.List.Elements.{All-cons, All-nil, All-weaker, Contains-append_right}
use Rattle.sw_container_steps.specs.declared.cont_answer.ContAnswer.{ContAnswer}
use Rattle.sw_container_steps.specs.declared.cont_answer.ContAnswer.TheVariants.{Redirect}
use Rattle.sw_container_steps.specs.declared.cont_change.ContChange.{ContChange}
use Rattle.sw_container_steps.specs.declared.cont_change.ContChange.TheVariants.{Ack, CloseRange, Create, EmptyOut, MergeRow, MergeRows, Remove}
use Rattle.sw_container_steps.specs.declared.cont_change.ContChange.TheVariants.{SetRanges, SetSync}
use Rattle.sw_container_steps.specs.declared.cont_entry.ContEntry.{ContEntry}
use Rattle.sw_hashpath.specs.Places.{IsPlaceOf}
use Rattle.sw_hashpath.specs.declared.name.Name.{Name}
use Rattle.sw_hashpath.specs.declared.place.Place.{Place}
use Rattle.sw_machine.specs.Honest.{CameTo, IsAcknowledged, WasTold}
use Rattle.sw_machine.specs.Machine.{Came, Machine, RunLine, Went, rows_in}
use Rattle.sw_machine.specs.Messages.{Arrives, Creation_of, Message, Ranges_of, Row_of, Rows_of, Update_of, Write_of}
use Rattle.sw_object_steps.specs.BaseRows.{IsRowOf}
use Rattle.sw_object_steps.specs.declared.answer.Answer.{Answer}
use Rattle.sw_object_steps.specs.declared.change.Change.TheVariants.{Receive}
use Rattle.sw_peer.specs.declared.cont_event.ContEvent.TheVariants as cont_events
use Rattle.sw_peer.specs.declared.line.Event.TheVariants.{AtContainer, Changed}
use Rattle.sw_peer.specs.declared.link.Link.{Link}
use Rattle.sw_peer.specs.declared.link.Link.TheVariants.{Local, Sent}
use Rattle.sw_pending.specs.declared.key.RecordKey.{RecordKey}
use Rattle.sw_pending_laws.proofs.Among.{behind, in-front}
use Rattle.sw_pending_laws.specs.Ledger.{IsHeld, IsRowIn, Ledger}
use Rattle.sw_pending_laws.specs.Sound.{ComesFromClients}
use Rattle.sw_rows.specs.declared.row.Row.{Row}
use Rattle.sw_state.specs.Bases.{base_at}
use Rattle.sw_state.specs.declared.base.Base.{Base}
use Rattle.sw_state.specs.declared.write.Write.{Write}
use Rattle.sw_listing_laws.proofs.Accounts.{Accounts, HasReached, IsAccounted, IsKnown, IsRight, Tells, told}
use Rattle.sw_listing_laws.proofs.Grounds.{ground, ground-place, named-object}
use Rattle.sw_listing_laws.proofs.Redirecting.{IsHeard}
use Rattle.sw_listing_laws.proofs.Standing.{reach}
use Rattle.sw_listing_laws.proofs.Stepping.{CanHear}
use Rattle.sw_listing_laws.specs.Plain.{Cluster, HadReached, IsNamed, IsOfWrite, IsPlainChange, IsPlainRow}

-- at the device itself, or in a message
either-link : {R : Type 0} (link : Link) → (link ≡ Local → R) → (link ≡ Sent → R) → R
either-link Local here there = here refl
either-link Sent here there = there refl

-- a message that was sent comes as this
abbrev pub Brings : (sent : List Message) → (Message → Type 0) → Type 0
Brings sent Arrived = (message : Message) × Contains sent message × Arrived message

module _ (c : Cluster) (m : Machine) (l : Ledger) (known : IsKnown c m.objects.known l.reached) where
  -- a row of a write that reached a device is one by the ledger
  pub of-write : (place : Place) (row : Row) → IsOfWrite c m place row → IsRowIn (ground c) l place row
  of-write place row w = (
    reach had.device (had.by).name.hash w.base,
    known.reaches had.device had.by w.base had.known had.base_is,
    sym (ground-place c (had.by).name place named (subst (λ (n : Name). IsPlaceOf c.nodes.secrets n place) (sym had.name_is) w.place_is)),
    subst (λ (o : List ℕ). IsRowOf o w.base row)
        (ap (λ (n : Name). n.object) (sym had.name_is) ∙ sym (named-object c (had.by).name named)) w.row_is,
  )
    where
      had : HadReached m w.name w.base
      had = w.reached

      named : IsNamed c (had.by).name
      named = known.named had.device had.by had.known

module _ (c : Cluster) (m : Machine) (l : Ledger) (accounts : Accounts c m l) where
  -- ---- writes

  had-reached : (name : Name) (b : Base) → HadReached m name b → HasReached l name.hash b
  had-reached name b had = (
    reach had.device (had.by).name.hash b,
    accounts.objects.known.reaches had.device had.by b had.known had.base_is,
    ap (λ (n : Name). n.hash) had.name_is,
    refl,
  )

  write-arrives : (device : ℕ) (name : Name) (write : Write) (answer : Answer) (message : Message)
      → Arrives message device (Changed name (Receive write) answer) → IsAccounted c l message → (b : Base) → base_at write.time write.kind ≡ Some b
      → HasReached l name.hash b
  write-arrives device name write answer (Write_of to n w) comes is b base_is =
      let one : write ≡ w = same comes.2 in
      subst (λ (x : Name). HasReached l x.hash b) (sym comes.1)
      (is b (subst (λ (x : Write). base_at x.time x.kind ≡ Some b) one base_is))
    where
      same : Receive write ≡ Receive w → write ≡ w
      same e = cc
  write-arrives device name write answer (Row_of to place at row) comes is b base_is = absurd comes
  write-arrives device name write answer (Rows_of to place at rows) comes is b base_is = absurd comes
  write-arrives device name write answer (Update_of to filed place at row) comes is b base_is = absurd comes
  write-arrives device name write answer (Creation_of to place time) comes is b base_is = absurd comes
  write-arrives device name write answer (Ranges_of to place ranges) comes is b base_is = absurd comes

  -- a write that comes has reached some device
  pub write-fair : (device : ℕ) (link : Link) (name : Name) (write : Write) (answer : Answer)
      → (link ≡ Sent → Brings m.sent (λ message. Arrives message device (Changed name (Receive write) answer)))
      → (link ≡ Local → (b : Base) → base_at write.time write.kind ≡ Some b → HadReached m name b)
      → (b : Base) → base_at write.time write.kind ≡ Some b → HasReached l name.hash b
  write-fair device link name write answer sent plain b base_is =
      either-link link (λ is. had-reached name b (plain is b base_is))
      (λ is. let got = sent is in write-arrives device name write answer got.0 got.2 (accounts.sent got.0 got.1) b base_is)

  -- ---- rows

  plain-row : (place : Place) (row : Row) → IsPlainRow c m place row → IsRight c l place row
  plain-row place row (inl hidden) = inl hidden
  plain-row place row (inr w) = inr (of-write c m l accounts.objects.known place row w)

  module _ (clients : ComesFromClients (ground c) l) where
    row-arrives : (device : ℕ) (place : Place) (row : Row) (answer : ContAnswer) (entries : List ContEntry) (message : Message)
        → Arrives message device (AtContainer (cont_events.Changed place (MergeRow row) answer) entries) → IsAccounted c l message → IsRight c l place row
    row-arrives device place row answer entries (Write_of to name write) comes is = absurd comes
    row-arrives device place row answer entries (Row_of to p at x) comes is =
        subst (λ (q : Place). IsRight c l q row) (sym comes.1) (subst (λ (y : Row). IsRight c l at y) (sym (same comes.2)) is)
      where
        same : MergeRow row ≡ MergeRow x → row ≡ x
        same e = cc
    row-arrives device place row answer entries (Rows_of to p at xs) comes is = cc
    row-arrives device place row answer entries (Update_of to filed p at x) comes is =
        subst (λ (q : Place). IsRight c l q row) (sym comes.1) (subst (λ (y : Row). IsRight c l at y) (sym (same comes.2)) (by is.2))
      where
        by : (at ≡ (ground c).place filed.name.hash) ⊎ (c.is_hidden at ≡ true) → IsRight c l at x
        by (inl own) = subst (λ (q : Place). IsRight c l q x) (sym own) (inr (clients.sent (told is.0 filed x) is.1))
        by (inr hidden) = inl hidden

        same : MergeRow row ≡ MergeRow x → row ≡ x
        same e = cc
    row-arrives device place row answer entries (Creation_of to p time) comes is = cc
    row-arrives device place row answer entries (Ranges_of to p ranges) comes is = cc

    rows-arrive : (device : ℕ) (place : Place) (rows : List Row) (answer : ContAnswer) (entries : List ContEntry) (message : Message)
        → Arrives message device (AtContainer (cont_events.Changed place (MergeRows rows) answer) entries) → IsAccounted c l message
        → All (IsRight c l place) rows
    rows-arrive device place rows answer entries (Write_of to name write) comes is = absurd comes
    rows-arrive device place rows answer entries (Row_of to p at x) comes is = cc
    rows-arrive device place rows answer entries (Rows_of to p at xs) comes is =
        subst (λ (q : Place). All (IsRight c l q) rows) (sym comes.1) (subst (λ (ys : List Row). All (IsRight c l at) ys) (sym (same comes.2)) is)
      where
        same : MergeRows rows ≡ MergeRows xs → rows ≡ xs
        same e = cc
    rows-arrive device place rows answer entries (Update_of to filed p at x) comes is = cc
    rows-arrive device place rows answer entries (Creation_of to p time) comes is = cc
    rows-arrive device place rows answer entries (Ranges_of to p ranges) comes is = cc

    -- the rows that come to a container may come there
    pub rows-fair : (device : ℕ) (link : Link) (place : Place) (change : ContChange) (answer : ContAnswer) (entries : List ContEntry)
        → (link ≡ Sent → Brings m.sent (λ message. Arrives message device (AtContainer (cont_events.Changed place change answer) entries)))
        → (link ≡ Local → IsPlainChange c m place change) → All (IsRight c l place) (rows_in change)
    rows-fair device link place (Create time) answer entries sent plain = All-nil (IsRight c l place)
    rows-fair device link place (Remove time) answer entries sent plain = All-nil (IsRight c l place)
    rows-fair device link place (SetRanges ranges) answer entries sent plain = All-nil (IsRight c l place)
    rows-fair device link place (Ack range other rowid) answer entries sent plain = All-nil (IsRight c l place)
    rows-fair device link place (CloseRange range devices) answer entries sent plain = All-nil (IsRight c l place)
    rows-fair device link place EmptyOut answer entries sent plain = All-nil (IsRight c l place)
    rows-fair device link place (SetSync other rowid) answer entries sent plain = All-nil (IsRight c l place)
    rows-fair device link place (MergeRow row) answer entries sent plain =
        All-cons (IsRight c l place) row []
        (either-link link (λ is. plain-row place row (plain is))
        (λ is. let got = sent is in row-arrives device place row answer entries got.0 got.2 (accounts.sent got.0 got.1)))
        (All-nil (IsRight c l place))
    rows-fair device link place (MergeRows rows) answer entries sent plain =
        either-link link (λ is. All-weaker (IsPlainRow c m place) (IsRight c l place) (plain-row place) rows (plain is))
        (λ is. let got = sent is in rows-arrive device place rows answer entries got.0 got.2 (accounts.sent got.0 got.1))

-- ---- marks

-- the row that came and was answered so is held there
held-there : (c : Cluster) (l : Ledger) (done : List RunLine) → Tells c l done → (device : ℕ) (place : Place) (row : Row) (answer : ContAnswer)
    → CameTo done device place (MergeRow row) answer → IsHeard answer → IsHeld (l.tables device place) row.name row.created_at row.deleted
held-there c l done tells device place row answer came heard =
    subst (λ (d : ℕ). IsHeld (l.tables d place) row.name row.created_at row.deleted) came.device_is
    (tells (Came came.came) came.among place row answer came.entries came.event_is heard)

-- a device that took an update, or left it to a shard, holds its row by the ledger, and that has that it was sent
pub hears : (c : Cluster) (l : Ledger) (done : List RunLine) → Tells c l done → (device : ℕ) (key : RecordKey) (to : ℕ)
    → WasTold c.nodes.secrets c.replicas done device key to → CanHear c l device key to
hears c l done tells device key to was = record {
  row = was.row;
  sent = subst (λ (k : RecordKey). Contains l.sent (record { from = device; key = k; row = was.row })) was.key_is went.0;
  held =
      subst (λ (k : RecordKey). IsHeld (l.tables to ((ground c).place k.hash)) (was.row).name (was.row).created_at (was.row).deleted) was.key_is
      (subst (λ (p : Place). IsHeld (l.tables to p) (was.row).name (was.row).created_at (was.row).deleted) went.1 (held was.acknowledged));
}
  where
    sending : RunLine
    sending = Went device (Update_of to was.filed was.place was.place was.row)

    contains : (line : RunLine) → Contains (sending ∷ was.behind) line → Contains done line
    contains line there =
        subst (λ (xs : List RunLine). Contains xs line) (sym was.lines_are) (Contains-append_right was.before (sending ∷ was.behind) line there)

    went : Contains l.sent (told device was.filed was.row) × (was.place ≡ (ground c).place (was.filed).name.hash)
    went = tells sending (contains sending (in-front sending was.behind))

    tells_behind : Tells c l was.behind
    tells_behind line there = tells line (contains line (behind sending was.behind line there))

    held : IsAcknowledged c.nodes.secrets c.replicas was.behind to was.place was.row
        → IsHeld (l.tables to was.place) (was.row).name (was.row).created_at (was.row).deleted
    held (inl taken) = held-there c l was.behind tells_behind to was.place was.row taken.0 taken.1 (inl taken.2)
    held (inr left) = held-there c l was.behind tells_behind to was.place was.row (Redirect left.0) left.1 (inr refl)
