-- Steps that change nothing, over nodes of which nothing is known.
use Rattle.std.proofs.Common.{◌≡◌, ℕ, Bool, true, false, [], Option, None, Some, refl, inl, Result, Ok, Err, ap, arith, max, nat_lt}
use Rattle.std.proofs.lemmas.Bool.Decides.{nat_tests}
use Rattle.sw_container_steps.specs.declared.cont_answer.ContAnswer.{ContAnswer}
use Rattle.sw_container_steps.specs.declared.cont_answer.ContAnswer.TheVariants as cont_answers
use Rattle.sw_container_steps.specs.declared.cont_change.ContChange.{ContChange}
use Rattle.sw_hashpath.specs.declared.name.Name.{Name}
use Rattle.sw_hashpath.specs.declared.place.Place.{Place}
use Rattle.sw_history.proofs.Growing.{grows-refl}
use Rattle.sw_keeper.specs.declared.tables.Tables.{Tables}
use Rattle.sw_nodes_tests.specs.Silent.{answer_to, silent, untold}
use Rattle.sw_object_steps.proofs.Hashes.{hash-self}
use Rattle.sw_object_steps.specs.Rules.{ObjHistory, Writes, obj_rules}
use Rattle.sw_object_steps.specs.Steps.{refusal_of}
use Rattle.sw_object_steps.specs.Values.{ObjValue, bare}
use Rattle.sw_object_steps.specs.declared.answer.Answer.{Answer}
use Rattle.sw_object_steps.specs.declared.answer.Answer.TheVariants as answers
use Rattle.sw_object_steps.specs.declared.change.Change.{Change}
use Rattle.sw_object_steps.specs.declared.change.Change.TheVariants.{Put, Post, Delete, Receive, MarkRecord, DropRecord}
use Rattle.sw_object_steps.specs.declared.got.Got.TheVariants as gots
use Rattle.sw_peer.proofs.Calls.{calls-once, faithful-once, made-step, moves-refl, read-step, wanting}
use Rattle.sw_peer.proofs.ContCalls.{cont-made-step, cont-wanting, look-step, look-wanting, none-alone}
use Rattle.sw_peer.specs.ContSights.{ContMoves, IsContMade, IsIn, IsLooked}
use Rattle.sw_peer.specs.Sights.{Calls, IsAt, IsMade, IsRead, Moves}
use Rattle.sw_peer.specs.declared.cont_event.ContEvent.{ContEvent}
use Rattle.sw_peer.specs.declared.link.Link.{Link}
use Rattle.sw_state.specs.States.{state_of}
use Rattle.sw_state.specs.declared.base.Base.TheVariants as bases
use Rattle.sw_state.specs.declared.state.State.{State}
use Rattle.sw_state.specs.declared.write.Kind.{Kind}
use Rattle.sw_state.specs.declared.write.Kind.TheVariants as kinds
use Rattle.sw_state.specs.declared.write.Write.{Write}
use Rattle.sw_step.specs.Rules.{Fails, Damages, Overflows, Refuses}
use Rattle.sw_step.specs.Steps.{EndsSeen}

abbrev h : ObjHistory
h = untold (bare (state_of []))

no : {P : Type 0} → false ≡ true → P
no {P} is = cc

-- a tombstone of this time, which has each write of it
abbrev buried : ℕ → State
buried time = record { base = Some (bases.Del time); meta = None; meta_is_later = refl }

has-already : (w : Write) → refusal_of (buried w.time) (Receive w) ≡ Some (answers.Conflict w.time)
has-already w = by w.kind
  where
    itself : nat_lt w.time w.time ≡ false
    itself = grind (arith, nat_tests)

    top : max w.time 0 ≡ w.time
    top = omega arith

    by : (kind : Kind) → refusal_of (buried w.time) (Receive (record { time = w.time; kind = kind })) ≡ Some (answers.Conflict w.time)
    by (kinds.Put content) = rw itself refl
    by kinds.Del = rw itself refl
    by (kinds.Meta heads) = rw itself (ap (λ (time : ℕ). Some (answers.Conflict time)) top)

-- a write that is sent is refused by what stands, or has no room
module _ (link : Link) (device : ℕ) (name : Name) (w : Write) where
  seen : (answer : Answer) (read : ObjValue)
      → EndsSeen obj_rules (obj_rules.ending answer) read h.journal name.hash (Writes name (Receive w)) answer [] h.journal
      → (obj_rules.ending answer ≡ Damages → ⊥) → (obj_rules.ending answer ≡ Fails → ⊥) → IsMade link device name (Receive w) silent answer silent
  seen answer read ends undamaged unfailed = record {
    moves = moves-refl (IsAt device name.hash) silent;
    step = record {
      own = hash-self name.hash;
      before = h;
      looked = true;
      read = read;
      made = [];
      follows = grows-refl h;
      settles = λ alone. no alone;
      settled = λ looked. tt;
      answered = ends;
      orderly = λ is. absurd (undamaged is);
      after = grows-refl h;
      failed = λ is. absurd (unfailed is);
      known = λ told. no told;
      kept = λ alone. no alone;
      held = λ alone. no alone;
      leaves = λ alone. no alone;
    };
    trail = inl refl;
  }

  refused : IsMade link device name (Receive w) silent (answers.Conflict w.time) silent
  refused = seen (answers.Conflict w.time) (bare (buried w.time))
      (record { leaves = record { not_made = refl; same = refl }; refused = has-already w }) undamaged unfailed
    where
      undamaged : Refuses ≡ Damages → ⊥
      undamaged is = cc

      unfailed : Refuses ≡ Fails → ⊥
      unfailed is = cc

  overflown : IsMade link device name (Receive w) silent answers.JournalFull silent
  overflown = seen answers.JournalFull (bare (state_of []))
      (record { leaves = record { not_made = refl; same = refl }; not_refused = new w.kind; full = refl }) undamaged unfailed
    where
      new : (kind : Kind) → refusal_of (state_of []) (Receive (record { time = w.time; kind = kind })) ≡ None
      new (kinds.Put content) = refl
      new kinds.Del = refl
      new (kinds.Meta heads) = refl

      undamaged : Overflows ≡ Damages → ⊥
      undamaged is = cc

      unfailed : Overflows ≡ Fails → ⊥
      unfailed is = cc

answered-step : (link : Link) (device : ℕ) (name : Name) (change : Change) (has_writes : Bool)
    → IsMade link device name change silent (answer_to has_writes change) silent
answered-step link device name (Receive w) true = refused link device name w
answered-step link device name (Receive w) false = overflown link device name w
answered-step link device name (Put time content none_match) true = wanting link device name (Put time content none_match) silent (λ alone. no alone)
answered-step link device name (Put time content none_match) false = wanting link device name (Put time content none_match) silent (λ alone. no alone)
answered-step link device name (Post time heads) true = wanting link device name (Post time heads) silent (λ alone. no alone)
answered-step link device name (Post time heads) false = wanting link device name (Post time heads) silent (λ alone. no alone)
answered-step link device name (Delete time second) true = wanting link device name (Delete time second) silent (λ alone. no alone)
answered-step link device name (Delete time second) false = wanting link device name (Delete time second) silent (λ alone. no alone)
answered-step link device name (MarkRecord filed told) true = wanting link device name (MarkRecord filed told) silent (λ alone. no alone)
answered-step link device name (MarkRecord filed told) false = wanting link device name (MarkRecord filed told) silent (λ alone. no alone)
answered-step link device name (DropRecord filed all) true = wanting link device name (DropRecord filed all) silent (λ alone. no alone)
answered-step link device name (DropRecord filed all) false = wanting link device name (DropRecord filed all) silent (λ alone. no alone)

pub answered-call : (link : Link) (device : ℕ) (name : Name) (change : Change) (has_writes : Bool)
    → Calls (IsMade link device name change) silent link (Ok (answer_to has_writes change)) silent
answered-call link device name change has_writes =
    calls-once (Moves (IsAt device name.hash)) (IsMade link device name change) (made-step link device name change) silent silent link
    (answer_to has_writes change) (faithful-once link) (answered-step link device name change has_writes)

missed-step : (link : Link) (device : ℕ) (name : Name) → IsRead link device name silent (gots.NotFound None) silent
missed-step link device name = record {
  moves = moves-refl (IsAt device name.hash) silent;
  holds_all = λ alone d hash. refl;
  step = record {
    read = λ hash. bare (state_of []);
    follows = grows-refl h;
    settles = λ alone. no alone;
    settled = λ tells key at. tt;
    shown = λ tells told. no told;
    orderly = λ damaged. refl;
    failed = λ lost. cc;
    known = λ told. no told;
    kept = λ alone. no alone;
    held = λ alone. no alone;
  };
  trail = inl refl;
}

pub missed-call : (link : Link) (device : ℕ) (name : Name) → Calls (IsRead link device name) silent link (Ok (gots.NotFound None)) silent
missed-call link device name =
    calls-once (Moves (IsAt device name.hash)) (IsRead link device name) (read-step link device name) silent silent link (gots.NotFound None)
    (faithful-once link) (missed-step link device name)

pub wanted-change : (link : Link) (device : ℕ) (place : Place) (change : ContChange)
    → Calls (IsContMade link device place change) silent link (Ok cont_answers.NoMemory) silent
wanted-change link device place change =
    calls-once (ContMoves (IsIn device place)) (IsContMade link device place change) (cont-made-step link device place change) silent silent link
    cont_answers.NoMemory (faithful-once link) (cont-wanting link device place change silent (none-alone device place silent refl))

pub wanted-look : {A : Type 0} (link : Link) (device : ℕ) (place : Place) (reading : Option Tables → ℕ → Result A ContAnswer)
    (event : Result A ContAnswer → ContEvent)
    → Calls (IsLooked link device place reading event) silent link (Ok (Err cont_answers.NoMemory)) silent
wanted-look {A} link device place reading event =
    calls-once (ContMoves (IsIn device place)) (IsLooked link device place reading event) (look-step link device place reading event) silent silent link
    (Err cont_answers.NoMemory) (faithful-once link) (look-wanting link device place reading event silent (none-alone device place silent refl))
