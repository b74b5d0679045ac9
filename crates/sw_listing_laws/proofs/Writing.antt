-- What a write leaves of what a device has: all that it was, its record alone, or the record and the write.
use Rattle.std.proofs.Common.{◌≡◌, ℕ, Bool, true, false, ◌&&◌, nat_lt, List, [], ◌∷◌, ◌++◌, Option, None, Some, ◌⊎◌, inl, inr, refl, ◌∙◌, ap}
use Rattle.std.proofs.Common.{if◌then◌else◌}
use Rattle.std.specs.List.{fold}
use Rattle.std.specs.Option.{option_map}
use Rattle.sw_hashpath.specs.declared.name.Name.{Name}
use Rattle.sw_machine.specs.Machine.{KnownWrite, made_writes}
use Rattle.sw_object_steps.specs.Outlines.{burial_time, has_object, is_before, is_object, mark_time, outline_of, standing_expiry, standing_time}
use Rattle.sw_object_steps.specs.Rules.{obj_applied}
use Rattle.sw_object_steps.specs.Steps.{burial_refusal, conflict, deletion_refusal, expiring_deletion_refusal, expiry_refusal, put_refusal, refusal_of}
use Rattle.sw_object_steps.specs.Values.{ObjValue, with_records}
use Rattle.sw_object_steps.specs.declared.answer.Answer.TheVariants as answers
use Rattle.sw_object_steps.specs.declared.change.Change.TheVariants.{Put, Delete}
use Rattle.sw_object_steps.specs.declared.entry.ObjEntry.{ObjEntry}
use Rattle.sw_object_steps.specs.declared.entry.ObjEntry.TheVariants.{Files, Wrote}
use Rattle.sw_object_steps.specs.declared.outline.Mark.{Mark}
use Rattle.sw_object_steps.specs.declared.outline.Mark.TheVariants.{Object, Tombstone}
use Rattle.sw_pending.specs.declared.filed.Filed.{Filed}
use Rattle.sw_state.specs.States.{joined}
use Rattle.sw_state.specs.declared.content.Content.{Content}
use Rattle.sw_state.specs.declared.state.State.{State}
use Rattle.sw_state.specs.declared.write.Write.{Write}
use Rattle.sw_step.specs.Journals.{flat}
use Rattle.sw_listing_laws.proofs.Making.{IsFirst}

-- ---- first changes of one, or of two

firsts-of-one : {E : Type 0} (a : List E) (first behind : List (List E)) → a ∷ [] ≡ first ++ behind → (first ≡ []) ⊎ (first ≡ a ∷ [])
firsts-of-one a [] behind is = inl refl
firsts-of-one a (x ∷ []) behind is = inr cc
firsts-of-one a (x ∷ y ∷ first) behind is = cc

firsts-of-two : {E : Type 0} (a b : List E) (first behind : List (List E)) → a ∷ b ∷ [] ≡ first ++ behind
    → (first ≡ []) ⊎ ((first ≡ a ∷ []) ⊎ (first ≡ a ∷ b ∷ []))
firsts-of-two a b [] behind is = inl refl
firsts-of-two a b (x ∷ []) behind is = inr (inl cc)
firsts-of-two a b (x ∷ y ∷ []) behind is = inr (inr cc)
firsts-of-two a b (x ∷ y ∷ z ∷ first) behind is = cc

-- ---- a write

-- these records are filed
abbrev pub with_filed : ObjValue → List Filed → ObjValue
with_filed v records = record v { records = with_records v.records records }

-- they are, and the write is made
abbrev pub with_write : ObjValue → List Filed → Write → ObjValue
with_write v records w = record { state = joined v.state w; records = with_records v.records records }

-- what was made of it leaves this of what stood, and makes these known
abbrev pub Leaves : ObjValue → Name → List ObjEntry → ObjValue → List KnownWrite → Type 0
Leaves v name made t news = (fold obj_applied v made ≡ t) × (made_writes name made ≡ news)

module _ (v : ObjValue) (name : Name) (records : List Filed) (w : Write) (made : List ObjEntry) where
  pub data WriteLeaves : Type 0 where
    Nothing : Leaves v name made v [] → WriteLeaves
    Filing : Leaves v name made (with_filed v records) [] → WriteLeaves
    Writing : Leaves v name made (with_write v records w) (record { name = name; write = w } ∷ []) → WriteLeaves

leaves-of : (v : ObjValue) (name : Name) (made is : List ObjEntry) → made ≡ is → Leaves v name made (fold obj_applied v is) (made_writes name is)
leaves-of v name made is same = (ap (fold obj_applied v) same, ap (made_writes name) same)

module _ (v : ObjValue) (name : Name) (w : Write) (made : List ObjEntry) where
  -- of a write that files no record
  plain-first : IsFirst ((Wrote name w [] ∷ []) ∷ []) made → WriteLeaves v name [] w made
  plain-first part = by (firsts-of-one (Wrote name w [] ∷ []) part.first part.behind part.cut)
    where
      by : (part.first ≡ []) ⊎ (part.first ≡ (Wrote name w [] ∷ []) ∷ []) → WriteLeaves v name [] w made
      by (inl none) = Nothing (leaves-of v name made [] (part.made_is ∙ ap flat none))
      by (inr all) = Writing (leaves-of v name made (Wrote name w [] ∷ []) (part.made_is ∙ ap flat all))

  pub plain-write : (made ≡ Wrote name w [] ∷ []) ⊎ IsFirst ((Wrote name w [] ∷ []) ∷ []) made → WriteLeaves v name [] w made
  plain-write (inl all) = Writing (leaves-of v name made (Wrote name w [] ∷ []) all)
  plain-write (inr part) = plain-first part

  -- of one that files a record
  module _ (filed : Filed) where
    abbrev changes : List (List ObjEntry)
    changes = (Files name.hash filed ∷ []) ∷ (Wrote name w [] ∷ []) ∷ []

    filing-first : IsFirst changes made → WriteLeaves v name (filed ∷ []) w made
    filing-first part = by (firsts-of-two (Files name.hash filed ∷ []) (Wrote name w [] ∷ []) part.first part.behind part.cut)
      where
        by : (part.first ≡ []) ⊎ ((part.first ≡ (Files name.hash filed ∷ []) ∷ []) ⊎ (part.first ≡ changes)) → WriteLeaves v name (filed ∷ []) w made
        by (inl none) = Nothing (leaves-of v name made [] (part.made_is ∙ ap flat none))
        by (inr (inl one)) = Filing (leaves-of v name made (Files name.hash filed ∷ []) (part.made_is ∙ ap flat one))
        by (inr (inr all)) = Writing (leaves-of v name made (Files name.hash filed ∷ Wrote name w [] ∷ []) (part.made_is ∙ ap flat all))

    pub filing-write : (made ≡ Wrote name w (filed ∷ []) ∷ []) ⊎ IsFirst changes made → WriteLeaves v name (filed ∷ []) w made
    filing-write (inl all) = Writing (leaves-of v name made (Wrote name w (filed ∷ []) ∷ []) all)
    filing-write (inr part) = filing-first part

-- ---- what isn't refused a client is later than what stands

conflict-before : (standing : Option ℕ) (time : ℕ) → conflict standing time ≡ None → is_before standing time ≡ true
conflict-before None time allowed = refl
conflict-before (Some t) time allowed = by (nat_lt t time) allowed
  where
    by : (b : Bool) → (if b then None else Some (answers.Conflict t)) ≡ None → b ≡ true
    by true is = refl
    by false is = cc

put-before : (s : State) (time : ℕ) (none_match : Bool) → put_refusal (outline_of s) time none_match ≡ None
    → is_before (standing_time (outline_of s)) time ≡ true
put-before s time none_match allowed = by (none_match && has_object (outline_of s)) allowed
  where
    by : (b : Bool) → (if b then Some answers.Exists else conflict (standing_time (outline_of s)) time) ≡ None
        → is_before (standing_time (outline_of s)) time ≡ true
    by true is = cc
    by false is = conflict-before (standing_time (outline_of s)) time is

plain-before : (mark : Option Mark) (time : ℕ)
    → (if is_object mark then conflict (option_map mark_time mark) time else burial_refusal (burial_time mark) time) ≡ None
    → is_before (option_map mark_time mark) time ≡ true
plain-before None time allowed = refl
plain-before (Some (Object t)) time allowed = conflict-before (Some t) time allowed
plain-before (Some (Tombstone t)) time allowed = by (nat_lt t time) allowed
  where
    by : (b : Bool) → (if b then None else Some (answers.NotFound (Some t))) ≡ None → b ≡ true
    by true is = refl
    by false is = cc

expiring-before : (standing expiry : Option ℕ) (time second : ℕ) → expiring_deletion_refusal standing expiry time second ≡ None
    → is_before standing time ≡ true
expiring-before None expiry time second allowed = cc
expiring-before (Some t) expiry time second allowed = by (nat_lt t time) allowed
  where
    by : (b : Bool) → (if b then expiry_refusal expiry second else Some (answers.Conflict t)) ≡ None → b ≡ true
    by true is = refl
    by false is = cc

deletion-before : (s : State) (time : ℕ) (if_delete_at : Option ℕ) → deletion_refusal (outline_of s) (standing_expiry s) time if_delete_at ≡ None
    → is_before (standing_time (outline_of s)) time ≡ true
deletion-before s time None allowed = plain-before (outline_of s).base time allowed
deletion-before s time (Some second) allowed = expiring-before (standing_time (outline_of s)) (standing_expiry s) time second allowed

pub allowed-put : (s : State) (time : ℕ) (content : Content) (none_match : Bool) → refusal_of s (Put time content none_match) ≡ None
    → is_before (standing_time (outline_of s)) time ≡ true
allowed-put s time content none_match allowed = put-before s time none_match allowed

pub allowed-deletion : (s : State) (time : ℕ) (if_delete_at : Option ℕ) → refusal_of s (Delete time if_delete_at) ≡ None
    → is_before (standing_time (outline_of s)) time ≡ true
allowed-deletion s time if_delete_at allowed = deletion-before s time if_delete_at allowed
