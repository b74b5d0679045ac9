-- A write that is refused as too early: the time that is shown, and what stands of that time or later.
use Rattle.std.proofs.Common.{◌≡◌, ℕ, ◌≤◌, ◌&&◌, Bool, true, false, nat_lt, if◌then◌else◌, Option, None, Some, option_map, ◌⊎◌, inl, inr}
use Rattle.std.proofs.Common.{◌<◌, refl, sym, ◌∙◌, ap, subst, arith, max}
use Rattle.std.proofs.lemmas.Bool.{cases_lt}
use Rattle.std.specs.Option.{option_map_or}
use Rattle.sw_object_steps.specs.Outlines.{has_object, is_before, is_below, is_new_to, mark_of, mark_time, outline_of, shown_time, standing_time, time_with}
use Rattle.sw_object_steps.specs.Outlines.{standing_expiry, tombstone_time}
use Rattle.sw_object_steps.specs.Recorded.{is_write}
use Rattle.sw_object_steps.specs.Steps.{burial_refusal, conflict, expires_at, expiring_deletion_refusal, expiry_refusal, latest_time, refusal_of}
use Rattle.sw_object_steps.specs.Steps.{write_of}
use Rattle.sw_object_steps.specs.declared.answer.Answer.{Answer}
use Rattle.sw_object_steps.specs.declared.answer.Answer.TheVariants as answers
use Rattle.sw_object_steps.specs.declared.change.Change.{Change}
use Rattle.sw_object_steps.specs.declared.change.Change.TheVariants.{Put, Post, Delete, Receive, MarkRecord, DropRecord}
use Rattle.sw_state.specs.Bases.{base_time}
use Rattle.sw_state.specs.Metas.{Meta}
use Rattle.sw_state.specs.Writes.{tag_of}
use Rattle.sw_state.specs.declared.base.Base.{Base}
use Rattle.sw_state.specs.declared.base.Base.TheVariants as bases
use Rattle.sw_state.specs.declared.state.State.{State}
use Rattle.sw_timestamp.specs.declared.tag.Tag.{Tag}
use Rattle.sw_timestamp.specs.declared.tag.Tag.TheVariants as tags
use Rattle.sw_reply_laws.proofs.Lateness.{neither, not-below}
use Rattle.sw_reply_laws.specs.Objects.{HasBaseSince, HasMetaSince, IsAsLate, IsSince}

abbrev Shows : Option Answer → ℕ → Type 0
Shows refusal time = refusal ≡ Some (answers.Conflict time)

-- ---- what stands

abbrev times_of : Option Base → Option ℕ
times_of b = option_map mark_time (option_map mark_of b)

abbrev time_of : Option Meta → Option ℕ
time_of m = option_map (λ (x : Meta). x.0) m

base-times : (b : Option Base) → times_of b ≡ option_map base_time b
base-times None = refl
base-times (Some (bases.Put at content)) = refl
base-times (Some (bases.Del at)) = refl

since-itself : (o : Option ℕ) (time : ℕ) → o ≡ Some time → IsSince o time
since-itself None time is = cc
since-itself (Some at) time is = let same : at ≡ time = cc in omega (arith, same)

since-base : (s : State) (time : ℕ) → standing_time (outline_of s) ≡ Some time → HasBaseSince s time
since-base s time is = since-itself (option_map base_time s.base) time (sym (base-times s.base) ∙ is)

-- the time of an object is that of its data, or of its metadata
since-object : (b : Option Base) (m : Option Meta) (time : ℕ) → time_with (option_map mark_of b) (time_of m) ≡ Some time
    → IsSince (option_map base_time b) time ⊎ IsSince (time_of m) time
since-object None m time is = cc
since-object (Some (bases.Del at)) m time is = cc
since-object (Some (bases.Put at content)) None time is = inl (let same : at ≡ time = cc in omega (arith, same))
since-object (Some (bases.Put at content)) (Some m) time is = by (cases_lt at m.0)
  where
    same : max at m.0 ≡ time
    same = cc

    by : (at < m.0) ⊎ (m.0 ≤ at) → (time ≤ at) ⊎ (time ≤ m.0)
    by (inl less) = inr (omega (arith, same, less))
    by (inr more) = inl (omega (arith, same, more))

-- ---- refusals

conflict-since : (o : Option ℕ) (time shown : ℕ) → Shows (conflict o time) shown → (o ≡ Some shown) × (time ≤ shown)
conflict-since None time shown is = cc
conflict-since (Some standing) time shown is = by (nat_lt standing time) refl is
  where
    by : (p : Bool) → nat_lt standing time ≡ p → Shows (if p then None else Some (answers.Conflict standing)) shown
        → (Some standing ≡ Some shown) × (time ≤ shown)
    by true less is = cc
    by false less is =
        let same : standing ≡ shown = cc in
        let much = not-below standing time less in
        (ap Some same, omega (arith, same, much))

-- a write that would change nothing
old-since : (s : State) (tag : Tag) (time shown : ℕ) → is_new_to (outline_of s) time tag ≡ false → latest_time (outline_of s) tag ≡ shown
    → (time ≤ shown) × IsAsLate s tag shown
old-since s tags.Put time shown old latest = by s.base old latest
  where
    by : (b : Option Base) → is_below (option_map mark_of b) time false ≡ false → option_map_or (λ t. t) (times_of b) 0 ≡ shown
        → (time ≤ shown) × IsSince (option_map base_time b) shown
    by None old latest = cc
    by (Some (bases.Put at content)) old latest =
        let much = not-below at time (neither (nat_lt at time) _ old) in (omega (arith, latest, much), omega (arith, latest))
    by (Some (bases.Del at)) old latest = let much = not-below at time old in (omega (arith, latest, much), omega (arith, latest))
old-since s tags.Del time shown old latest = by s.base old latest
  where
    by : (b : Option Base) → is_below (option_map mark_of b) time true ≡ false → option_map_or (λ t. t) (times_of b) 0 ≡ shown
        → (time ≤ shown) × IsSince (option_map base_time b) shown
    by None old latest = cc
    by (Some (bases.Put at content)) old latest =
        let much = not-below at time (neither (nat_lt at time) _ old) in (omega (arith, latest, much), omega (arith, latest))
    by (Some (bases.Del at)) old latest = let much = not-below at time old in (omega (arith, latest, much), omega (arith, latest))
old-since s tags.Meta time shown old latest = by (times_of s.base) (time_of s.meta) (base-times s.base) old latest
  where
    -- one of both is as late as the later one
    later : (b m : ℕ) → max b m ≡ shown → time ≤ max b m → (time ≤ shown) × ((shown ≤ b) ⊎ (shown ≤ m))
    later b m is much = (omega (arith, is, much), one (cases_lt b m))
      where
        one : (b < m) ⊎ (m ≤ b) → (shown ≤ b) ⊎ (shown ≤ m)
        one (inl less) = inr (omega (arith, is, less))
        one (inr more) = inl (omega (arith, is, more))

    either : (p q : Bool) → (p && q) ≡ false → (p ≡ false) ⊎ (q ≡ false)
    either true q is = inr is
    either false q is = inl refl

    before : (at : ℕ) → is_before (Some at) time ≡ false → time ≤ at
    before at is = not-below at time is

    by : (b m : Option ℕ) → b ≡ option_map base_time s.base → (is_before b time && is_before m time) ≡ false
        → max (option_map_or (λ t. t) b 0) (option_map_or (λ t. t) m 0) ≡ shown
        → (time ≤ shown) × (IsSince (option_map base_time s.base) shown ⊎ IsSince m shown)
    by None None same old latest = cc
    by None (Some m) same old latest = let much = before m old in (omega (arith, latest, much), inr (omega (arith, latest)))
    by (Some b) None same old latest =
        let much = before b (first old) in
        (omega (arith, latest, much), inl (subst (λ (o : Option ℕ). IsSince o shown) same (omega (arith, latest))))
      where
        first : (is_before (Some b) time && true) ≡ false → is_before (Some b) time ≡ false
        first is = cleared (is_before (Some b) time) is
          where
            cleared : (p : Bool) → (p && true) ≡ false → p ≡ false
            cleared true is = cc
            cleared false is = refl
    by (Some b) (Some m) same old latest =
        let l = later b m latest (under (either (is_before (Some b) time) (is_before (Some m) time) old)) in (l.0, over l.1)
      where
        under : (is_before (Some b) time ≡ false) ⊎ (is_before (Some m) time ≡ false) → time ≤ max b m
        under (inl is) = let much = before b is in omega (arith, much)
        under (inr is) = let much = before m is in omega (arith, much)

        over : (shown ≤ b) ⊎ (shown ≤ m) → IsSince (option_map base_time s.base) shown ⊎ (shown ≤ m)
        over (inl base) = inl (subst (λ (o : Option ℕ). IsSince o shown) same base)
        over (inr meta) = inr meta

none-shown : (shown : ℕ) → Shows None shown → ⊥
none-shown shown is = cc

exists-shown : (shown : ℕ) → Shows (Some answers.Exists) shown → ⊥
exists-shown shown is = cc

missing-shown : (time : Option ℕ) (shown : ℕ) → Shows (Some (answers.NotFound time)) shown → ⊥
missing-shown time shown is = cc

mismatch-shown : (second : Option ℕ) (shown : ℕ) → Shows (Some (answers.Mismatch second)) shown → ⊥
mismatch-shown second shown is = cc

shown-is : (standing shown : ℕ) → Shows (Some (answers.Conflict standing)) shown → standing ≡ shown
shown-is standing shown is = cc

buried-shown : (o : Option ℕ) (time shown : ℕ) → Shows (burial_refusal o time) shown → ⊥
buried-shown None time shown is = none-shown shown is
buried-shown (Some buried) time shown is = by (nat_lt buried time) is
  where
    by : (p : Bool) → Shows (if p then None else Some (answers.NotFound (Some buried))) shown → ⊥
    by true is = none-shown shown is
    by false is = missing-shown (Some buried) shown is

-- the time that a refused write is shown isn't earlier than its own, and what stands is of that time or later
pub refused-late : (s : State) (change : Change) (shown : ℕ) → is_write change ≡ true → Shows (refusal_of s change) shown
    → ((write_of change).time ≤ shown) × IsAsLate s (tag_of (write_of change).kind) shown
refused-late s (Put time content none_match) shown writes is = by (none_match && has_object (outline_of s)) is
  where
    by : (p : Bool) → Shows (if p then Some answers.Exists else conflict (standing_time (outline_of s)) time) shown → (time ≤ shown) × HasBaseSince s shown
    by true is = absurd (exists-shown shown is)
    by false is = let c = conflict-since (standing_time (outline_of s)) time shown is in (c.1, since-base s shown c.0)
refused-late s (Post time heads) shown writes is = by (has_object (outline_of s)) is
  where
    by : (p : Bool) → Shows (if p then conflict (shown_time (outline_of s)) time else Some (answers.NotFound (tombstone_time (outline_of s)))) shown
        → (time ≤ shown) × (HasBaseSince s shown ⊎ HasMetaSince s shown)
    by true is = let c = conflict-since (shown_time (outline_of s)) time shown is in (c.1, since-object s.base s.meta shown c.0)
    by false is = absurd (missing-shown (tombstone_time (outline_of s)) shown is)
refused-late s (Delete time None) shown writes is = by (has_object (outline_of s)) is
  where
    by : (p : Bool) → Shows (if p then conflict (standing_time (outline_of s)) time else burial_refusal (tombstone_time (outline_of s)) time) shown
        → (time ≤ shown) × HasBaseSince s shown
    by true is = let c = conflict-since (standing_time (outline_of s)) time shown is in (c.1, since-base s shown c.0)
    by false is = absurd (buried-shown (tombstone_time (outline_of s)) time shown is)
refused-late s (Delete time (Some second)) shown writes is = by (standing_time (outline_of s)) refl is
  where
    by : (o : Option ℕ) → standing_time (outline_of s) ≡ o → Shows (expiring_deletion_refusal o (standing_expiry s) time second) shown
        → (time ≤ shown) × HasBaseSince s shown
    by None stands is = absurd (missing-shown None shown is)
    by (Some standing) stands is = at (nat_lt standing time) refl is
      where
        expired : (p : Bool) → Shows (if p then None else Some (answers.Mismatch (standing_expiry s))) shown → ⊥
        expired true is = none-shown shown is
        expired false is = mismatch-shown (standing_expiry s) shown is

        at : (p : Bool) → nat_lt standing time ≡ p
            → Shows (if p then expiry_refusal (standing_expiry s) second else Some (answers.Conflict standing)) shown → (time ≤ shown) × HasBaseSince s shown
        at true less is = absurd (expired (expires_at (standing_expiry s) second) is)
        at false less is =
            let same = shown-is standing shown is in
            let much = not-below standing time less in
            (omega (arith, same, much), since-base s shown (stands ∙ ap Some same))
refused-late s (Receive write) shown writes is = by (is_new_to (outline_of s) write.time (tag_of write.kind)) refl is
  where
    by : (p : Bool) → is_new_to (outline_of s) write.time (tag_of write.kind) ≡ p
        → Shows (if p then None else Some (answers.Conflict (latest_time (outline_of s) (tag_of write.kind)))) shown
        → (write.time ≤ shown) × IsAsLate s (tag_of write.kind) shown
    by true new is = absurd (none-shown shown is)
    by false old is = old-since s (tag_of write.kind) write.time shown old (shown-is (latest_time (outline_of s) (tag_of write.kind)) shown is)
refused-late s (MarkRecord filed device) shown writes is = cc
refused-late s (DropRecord filed all) shown writes is = cc
