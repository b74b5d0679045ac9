-- What a pass has seen of an object directory, through a turn at its lock.
use Rattle.std.proofs.Common.{◌≡◌, ◌++◌, ◌&&◌, ℕ, Bool, true, List, Some, Option, ap, sym, ◌∙◌, subst, arith}
use Rattle.std.specs.List.{fold}
use Rattle.std.specs.Str.{bytes_eq}
use Rattle.sw_hashpath.specs.declared.name.Name.{Name}
use Rattle.sw_hashpath.specs.declared.secrets.Secrets.{Secrets}
use Rattle.sw_history.proofs.Growing.{grows-trans}
use Rattle.sw_history.specs.Halves.{GrowsOf}
use Rattle.sw_objdir.specs.Directories.{Kept, are_in_order, is_told, steps_of, value_at, values_of}
use Rattle.sw_objdir.specs.Stepping.{IsSameDir}
use Rattle.sw_object_steps.proofs.Hashes.{hash-self}
use Rattle.sw_object_steps.specs.Histories.{ChangesObject}
use Rattle.sw_object_steps.specs.Journals.{Hash}
use Rattle.sw_object_steps.specs.Rules.{ObjHistory, Writes, obj_applied, obj_rules}
use Rattle.sw_object_steps.specs.Values.{ObjValue}
use Rattle.sw_object_steps.specs.declared.answer.Answer.{Answer}
use Rattle.sw_object_steps.specs.declared.change.Change.{Change}
use Rattle.sw_object_steps.specs.declared.entry.ObjEntry.{ObjEntry}
use Rattle.sw_shared.proofs.Sharing.{shares-reads, shares-steps}
use Rattle.sw_shared.proofs.Turning.{some-same}
use Rattle.sw_shared.specs.Books.{began_of}
use Rattle.sw_shared.specs.Doors.{held_last, seen_last}
use Rattle.sw_shared.specs.Turning.{HasSeen, ObjView, Turns, booked}
use Rattle.sw_shared.specs.declared.booked.Began.{Began}
use Rattle.sw_shared.specs.declared.booked.BookedObjects.{BookedObjects}
use Rattle.sw_step.specs.Rules.{CanStand}
use Rattle.sw_step.specs.Steps.{Look, StepReads}
use Rattle.sw_turn.specs.Rule.{OwnsAll}
use Rattle.sw_volume.specs.Tree.{Folders}

module _ {V : Type 0} (tells : V → Bool) (files : V → Folders) (faults : V → ℕ) (secrets : Secrets) (power : ℕ) (v : ObjView V)
    (seen : HasSeen tells files faults secrets power v) (k n : Kept V) (w : ObjView V) (turn : Turns tells files faults v k n w) where
  abbrev steps : Kept V → ObjHistory
  steps d = steps_of tells files faults d

  abbrev values : Kept V → Hash → ObjValue
  values d hash = values_of tells files faults d hash

  -- the directory that was found began as the one that was seen
  one-opening : began_of k ≡ began_of seen.last
  one-opening = sym (some-same (began_of seen.last) (began_of k) (sym seen.tells_all.opening ∙ (sym turn.finds.grows.opening ∙ turn.finds.tells.opening)))

  pub secrets-found : k.secrets ≡ secrets
  secrets-found = ap (λ (b : Began V). b.secrets) one-opening ∙ seen.secrets_are

  pub power-found : k.power ≡ power
  power-found = ap (λ (b : Began V). b.power) one-opening ∙ seen.power_is

  -- what was seen has grown into what was found
  pub grew : GrowsOf (steps seen.last) (steps k)
  grew = record {
    told = ap (λ (b : Began V). tells b.volume && are_in_order b.secrets b.power (files b.volume)) one-opening;
    opening = λ key. ap (λ (b : Began V). value_at b.secrets b.power (files b.volume) key) one-opening;
    entries = (
      turn.finds.grows.entries.0,
      sym turn.finds.tells.entries ∙ (turn.finds.grows.entries.1
          ∙ ap (λ (es : List ObjEntry). es ++ turn.finds.grows.entries.0) seen.tells_all.entries),
    );
    max_entries = ap (λ (b : Began V). b.max_entries) one-opening;
    max_bytes = ap (λ (b : Began V). b.max_bytes) one-opening;
    faults = omega (arith, seen.tells_all.faults, turn.finds.grows.faults, turn.finds.tells.faults);
  }

  -- and is the same where the pass is alone
  pub same-alone : OwnsAll v → seen.last ≡ k
  same-alone owns = ap (λ (b : BookedObjects V). b.dir)
      (some-same (booked seen.last) (booked k) (sym seen.last_is ∙ (sym (ap (λ x. x.last) (turn.finds.alone owns)) ∙ turn.finds.last)))

  pub last-now : w.known.last ≡ Some (booked n)
  last-now = ap (λ (x : ObjView V). x.known.last) turn.left

  pub numbers-now : w.numbers ≡ v.numbers
  numbers-now = ap (λ (x : ObjView V). x.numbers) turn.left

  pub seats-now : w.seats ≡ v.seats
  seats-now = ap (λ (x : ObjView V). x.seats) turn.left

  -- it has seen the directory that it gave back
  pub has-seen : IsSameDir tells files faults k n → HasSeen tells files faults secrets power w
  has-seen same = record {
    last = n;
    last_is = last-now;
    tells_all = record {
      entries = ap (λ (x : ObjView V). x.known.entries) turn.left;
      opening = ap (λ (x : ObjView V). x.known.opening) turn.left;
      faults = ap (λ (x : ObjView V). x.known.faults) turn.left;
    };
    stands = turn.stands;
    secrets_are = same.secrets ∙ secrets-found;
    power_is = same.power ∙ power-found;
  }

  abbrev before : ObjHistory
  before = seen_last tells files faults v.known.last

  abbrev after : ObjHistory
  after = seen_last tells files faults w.known.last

  abbrev held : Hash → ObjValue
  held hash = held_last tells files faults v.known.last hash

  abbrev holds : Hash → ObjValue
  holds hash = held_last tells files faults w.known.last hash

  before-is : before ≡ steps seen.last
  before-is = ap (seen_last tells files faults) seen.last_is

  after-is : after ≡ steps n
  after-is = ap (seen_last tells files faults) last-now

  held-is : (hash : Hash) → held hash ≡ values seen.last hash
  held-is hash = ap (λ (o : Option (BookedObjects V)). held_last tells files faults o hash) seen.last_is

  holds-is : (hash : Hash) → holds hash ≡ values n hash
  holds-is hash = ap (λ (o : Option (BookedObjects V)). held_last tells files faults o hash) last-now

  -- what grew since the turn began has grown since the pass saw it last
  pub grows-on : GrowsOf (steps k) (steps n) → GrowsOf before after
  grows-on up = subst (λ (h : ObjHistory). GrowsOf h after) (sym before-is) (subst (λ (h : ObjHistory). GrowsOf (steps seen.last) h) (sym after-is)
      (grows-trans (steps seen.last) (steps k) (steps n) grew up))

  -- and what stands where it stood, where the pass is alone, stands where it was seen
  pub stays : (hash : Hash) → values n hash ≡ values k hash → OwnsAll v → holds hash ≡ held hash
  stays hash same owns = holds-is hash ∙ (same ∙ (sym (ap (λ (d : Kept V). values d hash) (same-alone owns)) ∙ sym (held-is hash)))

  -- a step that may change something. Of what was held it says something at the name's own hash alone
  pub changes : (alone : Bool) → (alone ≡ true → OwnsAll v) → (name : Name) (change : Change) (answer : Answer)
      → ChangesObject true (steps k) (values k) name change answer (steps n) (values n name.hash) → (s : Hash → ObjValue)
      → ((key : Hash) → bytes_eq key name.hash ≡ true → s key ≡ held key) → ChangesObject alone before s name change answer after (holds name.hash)
  changes alone owns name change answer step s own =
      let shared = shares-steps _ _ _ _ _ obj_rules alone (steps seen.last) (steps k) (values seen.last) (values k) name.hash (Writes name change) answer
      (steps n) (values n name.hash) grew (λ a. (ap steps (same-alone (owns a)), ap values (same-alone (owns a)))) step in
      let same : (key : Hash) → bytes_eq key name.hash ≡ true → s key ≡ values seen.last key = λ key is. own key is ∙ held-is key in
      let here : ChangesObject alone (steps seen.last) s name change answer (steps n) (values n name.hash) = record {
        own = shared.own;
        before = shared.before;
        looked = shared.looked;
        read = shared.read;
        made = shared.made;
        follows = shared.follows;
        settles = shared.settles;
        settled = shared.settled;
        answered = shared.answered;
        orderly = shared.orderly;
        after = shared.after;
        failed = shared.failed;
        known = shared.known;
        kept = λ a told other is. subst (λ (x : ObjValue). CanStand obj_rules shared.before other x) (sym (same other is)) (shared.kept a told other is);
        held = λ a told looked. shared.held a told looked ∙ sym (same name.hash (hash-self name.hash));
        leaves = λ a told. shared.leaves a told ∙ ap (λ (x : ObjValue). fold obj_applied x shared.made) (sym (same name.hash (hash-self name.hash)));
      } in
      subst (λ (h : ObjHistory). ChangesObject alone h s name change answer after (holds name.hash)) (sym before-is)
      (subst (λ (h : ObjHistory). ChangesObject alone (steps seen.last) s name change answer h (holds name.hash)) (sym after-is)
      (subst (λ (x : ObjValue). ChangesObject alone (steps seen.last) s name change answer (steps n) x) (sym (holds-is name.hash)) here))

  -- a read. Of what is held it says something at the hashes that are read alone
  pub reads : {B : Type 0} (alone : Bool) → (alone ≡ true → OwnsAll v) → (at : Hash → Bool) (touched : List ObjEntry → Bool) (look : B → Look)
      (reading : Bool → (Hash → ObjValue) → ℕ → B → Type 0) (got : B)
      → StepReads obj_rules true (steps k) at touched look (reading (is_told tells files faults n)) got (steps n) (values n) → (t : Hash → ObjValue)
      → ((key : Hash) → at key ≡ true → t key ≡ holds key) → StepReads obj_rules alone before at touched look (reading after.told) got after t
  reads alone owns at touched look reading got step t own =
      let shared = shares-reads obj_rules alone (steps seen.last) (steps k) at touched look (reading (is_told tells files faults n)) got (steps n) (values n)
      grew (λ a. ap steps (same-alone (owns a))) step in
      let same : (key : Hash) → at key ≡ true → t key ≡ values n key = λ key is. own key is ∙ holds-is key in
      let here : StepReads obj_rules alone (steps seen.last) at touched look (reading (steps n).told) got (steps n) t = record {
        read = shared.read;
        follows = shared.follows;
        settles = shared.settles;
        settled = shared.settled;
        shown = shared.shown;
        orderly = shared.orderly;
        failed = shared.failed;
        known = shared.known;
        kept = λ a told key is. subst (λ (x : ObjValue). CanStand obj_rules (steps n) key x) (sym (same key is)) (shared.kept a told key is);
        held = λ a told tells key is. shared.held a told tells key is ∙ sym (same key is);
      } in
      subst (λ (h : ObjHistory). StepReads obj_rules alone h at touched look (reading after.told) got after t) (sym before-is)
      (subst (λ (h : ObjHistory). StepReads obj_rules alone (steps seen.last) at touched look (reading h.told) got h t) (sym after-is) here)
