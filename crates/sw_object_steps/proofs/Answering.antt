-- How a step is answered by what stands.
use Rattle.std.proofs.Common.{◌≡◌, ℕ, Bool, true, false, ◌&&◌, Option, Some, None, option_map, nat_lt, max, if◌then◌else◌, refl, sym, ap}
use Rattle.std.proofs.Common.{◌∙◌, arith}
use Rattle.std.proofs.lemmas.Bool.Decides.{nat_tests}
use Rattle.sw_state.proofs.StateTests.{new_changes}
use Rattle.sw_state.specs.Bases.{is_new_base}
use Rattle.sw_state.specs.Metas.{Meta, is_after_base, is_after_meta}
use Rattle.sw_state.specs.States.{is_new, joined}
use Rattle.sw_state.specs.Writes.{tag_of}
use Rattle.sw_state.specs.declared.base.Base.{Base}
use Rattle.sw_state.specs.declared.base.Base.TheVariants as bases
use Rattle.sw_state.specs.declared.state.State.{State}
use Rattle.sw_state.specs.declared.write.Write.{Write}
use Rattle.sw_timestamp.specs.declared.tag.Tag.{Tag}
use Rattle.sw_timestamp.specs.declared.tag.Tag.TheVariants as tags
use Rattle.sw_object_steps.specs.declared.outline.Outline.{Outline}
use Rattle.sw_object_steps.specs.declared.outline.Mark.{Mark}
use Rattle.sw_object_steps.specs.declared.outline.Mark.TheVariants.{Object, Tombstone}
use Rattle.sw_object_steps.specs.Outlines.{burial_time, is_object, time_with, standing_expiry, has_object, is_before, is_below, is_new_to, mark_of, mark_time}
use Rattle.sw_object_steps.specs.Outlines.{outline_of, shown_time, standing_time, tombstone_time}
use Rattle.sw_object_steps.specs.Recorded.{is_write}
use Rattle.sw_object_steps.specs.Steps.{asks_expiry, asks_expiry_after, burial_refusal, conflict, deletion_refusal, expires_at}
use Rattle.sw_object_steps.specs.Steps.{expiring_deletion_refusal, expiry_refusal, latest_time, refusal_by, refusal_of, write_of}
use Rattle.sw_object_steps.specs.declared.answer.Answer.{Answer}
use Rattle.sw_object_steps.specs.declared.answer.Answer.TheVariants as answers
use Rattle.sw_object_steps.specs.declared.change.Change.{Change}
use Rattle.sw_object_steps.specs.declared.change.Change.TheVariants.{Put, Post, Delete, Receive, MarkRecord, DropRecord}

-- ---- outlines

below : (b : Option Base) (time : ℕ) (deletion : Bool) → is_below (option_map mark_of b) time deletion ≡ is_new_base b time deletion
below None time deletion = refl
below (Some (bases.Put at content)) time true = refl
below (Some (bases.Put at content)) time false = refl
below (Some (bases.Del at)) time true = grind (arith, nat_tests)
below (Some (bases.Del at)) time false = grind (arith, nat_tests)

before-base : (b : Option Base) (time : ℕ) → is_before (option_map mark_time (option_map mark_of b)) time ≡ is_after_base b time
before-base None time = refl
before-base (Some (bases.Put at content)) time = refl
before-base (Some (bases.Del at)) time = refl

before-meta : (m : Option Meta) (time : ℕ) → is_before (option_map (λ (x : Meta). x.0) m) time ≡ is_after_meta m time
before-meta None time = refl
before-meta (Some m) time = refl

-- an outline tells what is new
pub outline-new : (s : State) (time : ℕ) (tag : Tag) → is_new_to (outline_of s) time tag ≡ is_new s time tag
outline-new s time tags.Put = below s.base time false
outline-new s time tags.Del = below s.base time true
outline-new s time tags.Meta = rw (before-base s.base time, before-meta s.meta time) refl

-- where the second of expiry isn't asked for it doesn't matter
pub expiry-unasked : (o : Outline) (e f : Option ℕ) (change : Change) → asks_expiry o change ≡ false → refusal_by o e change ≡ refusal_by o f change
expiry-unasked o e f (Put time content none_match) unasked = refl
expiry-unasked o e f (Post time heads) unasked = refl
expiry-unasked o e f (Receive write) unasked = refl
expiry-unasked o e f (MarkRecord filed device) unasked = refl
expiry-unasked o e f (DropRecord filed all) unasked = refl
expiry-unasked o e f (Delete time None) unasked = refl
expiry-unasked o e f (Delete time (Some second)) unasked = by (standing_time o) unasked
  where
    by : (b : Option ℕ) → asks_expiry_after b (Some second) time ≡ false → expiring_deletion_refusal b e time second ≡ expiring_deletion_refusal b f time second
    by None none = refl
    by (Some standing) none = rw none refl

-- ---- refusals

-- whether it is the answer of a step that what stands refuses
abbrev pub is_refusal : Answer → Bool
is_refusal (answers.Conflict time) = true
is_refusal (answers.NotFound time) = true
is_refusal (answers.Mismatch second) = true
is_refusal answers.Exists = true
is_refusal (answers.Done front) = false
is_refusal (answers.Buried front) = false
is_refusal (answers.Took is) = false
is_refusal answers.JournalFull = false
is_refusal (answers.Damaged bad) = false
is_refusal answers.Failed = false
is_refusal answers.NoMemory = false

-- if there is an answer, it is a refusal
abbrev pub AreRefusals : Option Answer → Type 0
AreRefusals o = (answer : Answer) → o ≡ Some answer → is_refusal answer ≡ true

none : AreRefusals None
none answer is = cc

one : (a : Answer) → is_refusal a ≡ true → AreRefusals (Some a)
one a refuses answer is = let same : a ≡ answer = cc in ap is_refusal (sym same) ∙ refuses

either : (b : Bool) (o p : Option Answer) → AreRefusals o → AreRefusals p → AreRefusals (if b then o else p)
either true o p first second = first
either false o p first second = second

conflicts : (standing : Option ℕ) (time : ℕ) → AreRefusals (conflict standing time)
conflicts None time = none
conflicts (Some standing) time = either (nat_lt standing time) None (Some (answers.Conflict standing)) none (one (answers.Conflict standing) refl)

burials : (buried : Option ℕ) (time : ℕ) → AreRefusals (burial_refusal buried time)
burials None time = none
burials (Some buried) time = either (nat_lt buried time) None (Some (answers.NotFound (Some buried))) none (one (answers.NotFound (Some buried)) refl)

mismatches : (expiry : Option ℕ) (second : ℕ) → AreRefusals (expiry_refusal expiry second)
mismatches expiry second = either (expires_at expiry second) None (Some (answers.Mismatch expiry)) none (one (answers.Mismatch expiry) refl)

deletions : (o : Outline) (expiry : Option ℕ) (time : ℕ) (if_delete_at : Option ℕ) → AreRefusals (deletion_refusal o expiry time if_delete_at)
deletions o expiry time None =
    either (has_object o) (conflict (standing_time o) time) (burial_refusal (tombstone_time o) time)
    (conflicts (standing_time o) time) (burials (tombstone_time o) time)
deletions o expiry time (Some second) = by_standing (standing_time o)
  where
    by_standing : (b : Option ℕ) → AreRefusals (expiring_deletion_refusal b expiry time second)
    by_standing None = one (answers.NotFound None) refl
    by_standing (Some standing) =
        either (nat_lt standing time) (expiry_refusal expiry second) (Some (answers.Conflict standing))
        (mismatches expiry second) (one (answers.Conflict standing) refl)

pub refusals : (o : Outline) (expiry : Option ℕ) (change : Change) → AreRefusals (refusal_by o expiry change)
refusals o expiry (Put time content none_match) =
    either (none_match && has_object o) (Some answers.Exists) (conflict (standing_time o) time) (one answers.Exists refl) (conflicts (standing_time o) time)
refusals o expiry (Post time heads) =
    either (has_object o) (conflict (shown_time o) time) (Some (answers.NotFound (tombstone_time o)))
    (conflicts (shown_time o) time) (one (answers.NotFound (tombstone_time o)) refl)
refusals o expiry (Delete time if_delete_at) = deletions o expiry time if_delete_at
refusals o expiry (Receive w) =
    either (is_new_to o w.time (tag_of w.kind)) None (Some (answers.Conflict (latest_time o (tag_of w.kind)))) none
    (one (answers.Conflict (latest_time o (tag_of w.kind))) refl)
refusals o expiry (MarkRecord filed device) = none
refusals o expiry (DropRecord filed all) = none

-- ---- a step that isn't refused brings something new

passed : (b : Bool) (a : Answer) → (if b then None else Some a) ≡ None → b ≡ true
passed true a is = refl
passed false a is = cc

passed-too : (b : Bool) (o : Option Answer) (a : Answer) → (if b then o else Some a) ≡ None → b ≡ true
passed-too true o a is = refl
passed-too false o a is = cc

new-base : (b : Option Mark) (time : ℕ) (deletion : Bool) → conflict (option_map mark_time b) time ≡ None → is_below b time deletion ≡ true
new-base None time deletion is = refl
new-base (Some (Object at)) time deletion is = let lt : nat_lt at time ≡ true = passed (nat_lt at time) (answers.Conflict at) is in rw lt refl
new-base (Some (Tombstone at)) time deletion is = passed (nat_lt at time) (answers.Conflict at) is

new-put : (b : Option Mark) (time : ℕ) (blocked : Bool) → (if blocked then Some answers.Exists else conflict (option_map mark_time b) time) ≡ None →
    is_below b time false ≡ true
new-put b time true is = cc
new-put b time false is = new-base b time false is

new-post : (b : Option Mark) (m : Option ℕ) (time : ℕ) → (if is_object b then conflict (time_with b m) time else Some (answers.NotFound (burial_time b))) ≡ None
    → (is_before (option_map mark_time b) time && is_before m time) ≡ true
new-post None m time is = cc
new-post (Some (Tombstone at)) m time is = cc
new-post (Some (Object at)) None time is = let lt : nat_lt at time ≡ true = passed (nat_lt at time) (answers.Conflict at) is in rw lt refl
new-post (Some (Object at)) (Some meta) time is =
    let lt : nat_lt (max at meta) time ≡ true = passed (nat_lt (max at meta) time) (answers.Conflict (max at meta)) is in
    grind (arith, nat_tests)

new-deletion : (b : Option Mark) (time : ℕ) → (if is_object b then conflict (option_map mark_time b) time else burial_refusal (burial_time b) time) ≡ None →
    is_below b time true ≡ true
new-deletion None time is = refl
new-deletion (Some (Object at)) time is = new-base (Some (Object at)) time true is
new-deletion (Some (Tombstone at)) time is = passed (nat_lt at time) (answers.NotFound (Some at)) is

new-expiring : (b : Option Mark) (expiry : Option ℕ) (time second : ℕ) → expiring_deletion_refusal (option_map mark_time b) expiry time second ≡ None →
    is_below b time true ≡ true
new-expiring None expiry time second is = cc
new-expiring (Some (Object at)) expiry time second is = let lt : nat_lt at time ≡ true =
    passed-too (nat_lt at time) (expiry_refusal expiry second) (answers.Conflict at) is in rw lt refl
new-expiring (Some (Tombstone at)) expiry time second is = passed-too (nat_lt at time) (expiry_refusal expiry second) (answers.Conflict at) is

allowed : (o : Outline) (expiry : Option ℕ) (change : Change) → is_write change ≡ true → refusal_by o expiry change ≡ None →
    is_new_to o (write_of change).time (tag_of (write_of change).kind) ≡ true
allowed o expiry (Put time content none_match) writes is = new-put o.base time (none_match && has_object o) is
allowed o expiry (Post time heads) writes is = new-post o.base o.meta time is
allowed o expiry (Delete time None) writes is = new-deletion o.base time is
allowed o expiry (Delete time (Some second)) writes is = new-expiring o.base expiry time second is
allowed o expiry (Receive w) writes is = passed (is_new_to o w.time (tag_of w.kind)) (answers.Conflict (latest_time o (tag_of w.kind))) is
allowed o expiry (MarkRecord filed device) writes is = cc
allowed o expiry (DropRecord filed all) writes is = cc

pub allowed-new : (s : State) (change : Change) → is_write change ≡ true → refusal_of s change ≡ None
    → is_new s (write_of change).time (tag_of (write_of change).kind) ≡ true
allowed-new s change writes is =
    sym (outline-new s (write_of change).time (tag_of (write_of change).kind)) ∙ allowed (outline_of s) (standing_expiry s) change writes is

-- what stands has already what it refuses to take over
pub refused-held : (s : State) (w : Write) (answer : Answer) → refusal_of s (Receive w) ≡ Some answer → joined s w ≡ s
refused-held s w answer is = (new_changes s w).0 (sym (outline-new s w.time (tag_of w.kind)) ∙ by (is_new_to (outline_of s) w.time (tag_of w.kind)) is)
  where
    by : (b : Bool) → (if b then None else Some (answers.Conflict (latest_time (outline_of s) (tag_of w.kind)))) ≡ Some answer → b ≡ false
    by true told = cc
    by false told = refl
