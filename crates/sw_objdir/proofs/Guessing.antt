-- What stood as a step read it: also where a volume tells nothing there is a state whose files have the names that were listed.
use Rattle.std.proofs.Common.{◌≡◌, ℕ, Bool, true, false, List, [], Option, Some, None, refl, sym, ◌∙◌, ap, subst, if◌then◌else◌, inl, inr, nat_lt}
use Rattle.std.specs.Option.{option_and_then, option_map}
use Rattle.std.proofs.lemmas.Bool.{and_parts, cases_Bool}
use Rattle.sw_diskfile.specs.Picking.{IsGreatestOf, IsPicked, is_del, is_later_meta, is_meta}
use Rattle.sw_diskfile.specs.declared.file_name.FileName.{FileName}
use Rattle.sw_diskfile.specs.declared.picking.Picked.{Picked}
use Rattle.sw_hashdir.specs.Readings.{IsSecondOf, expiry_file, second_of}
use Rattle.sw_objdir.specs.Directories.{Kept, held, is_told}
use Rattle.sw_objdir.specs.Stepping.{IsSeenAs}
use Rattle.sw_object_steps.proofs.Answering.{expiry-unasked}
use Rattle.sw_object_steps.specs.Journals.{Hash}
use Rattle.sw_object_steps.specs.Outlines.{file_mark, mark_of, outline_of, picked_outline, standing_expiry}
use Rattle.sw_object_steps.specs.Steps.{asks_expiry, refusal_by, refusal_of}
use Rattle.sw_object_steps.specs.declared.answer.Answer.{Answer}
use Rattle.sw_object_steps.specs.declared.change.Change.{Change}
use Rattle.sw_object_steps.specs.declared.outline.Mark.TheVariants.{Object, Tombstone}
use Rattle.sw_object_steps.specs.declared.outline.Outline.{Outline}
use Rattle.sw_state.specs.DeleteTimes.{is_delete_time}
use Rattle.sw_state.specs.Metas.{Meta, is_later}
use Rattle.sw_state.specs.declared.base.Base.{Base}
use Rattle.sw_state.specs.declared.base.Base.TheVariants as bases
use Rattle.sw_state.specs.declared.heads.Heads.{Heads}
use Rattle.sw_state.specs.declared.state.State.{State}
use Rattle.sw_state.specs.declared.write.Kind.{Kind}
use Rattle.sw_state.specs.declared.write.Kind.TheVariants as kinds
use Rattle.sw_state.specs.declared.write.Write.{Write}
use Rattle.sw_state.specs.States.{heads_beside}
use Rattle.sw_timestamp.specs.declared.tag.Tag.{Tag}
use Rattle.sw_timestamp.specs.declared.tag.Tag.TheVariants as tags
use Rattle.sw_volume.specs.Tree.{Folders}

-- ---- a second that a write says

in-range : (found : Option Write) → is_delete_time (second_of found) ≡ true
in-range None = refl
in-range (Some w) = by w.kind
  where
    by : (kind : Kind) → is_delete_time (second_of (Some (record w { kind = kind }))) ≡ true
    by (kinds.Put content) = content.heads.in_range
    by kinds.Del = refl
    by (kinds.Meta heads) = heads.in_range

-- ---- a state of these files, whose data and metadata say this second

module _ (e : Option ℕ) (range : is_delete_time e ≡ true) where
  abbrev heads : Heads
  heads = record { delete_at = e; items = []; in_range = range }

  abbrev base_as : Bool → ℕ → Base
  base_as true time = bases.Del time
  base_as false time = bases.Put time (record { body = []; content_type = []; etag = []; heads = heads; is_text = ∣ ([], (refl, refl)) ∣₁ })

  abbrev base_in : Option FileName → Option Base
  base_in file = option_map (λ f. base_as (is_del f.tag) f.time) file

  abbrev meta_in : Option FileName → Option Meta
  meta_in file = option_map (λ f. (f.time, heads)) file

  later : (names : List FileName) (b m : Option FileName) → IsGreatestOf names (is_later_meta b) m → is_later (base_in b) (meta_in m) ≡ true
  later names b None picks = refl
  later names None (Some m) picks = refl
  later names (Some b) (Some m) picks =
      let after : nat_lt b.time m.time ≡ true = (and_parts (is_meta m.tag) (nat_lt b.time m.time) picks.passes).1 in
      by (is_del b.tag) after
    where
      by : (d : Bool) → nat_lt b.time m.time ≡ true → is_later (Some (base_as d b.time)) (Some (m.time, heads)) ≡ true
      by true after = after
      by false after = after

  base-marks : (b : Option FileName) → option_map mark_of (base_in b) ≡ option_map file_mark b
  base-marks None = refl
  base-marks (Some b) = ap Some (by (is_del b.tag))
    where
      by : (d : Bool) → mark_of (base_as d b.time) ≡ (if d then Tombstone b.time else Object b.time)
      by true = refl
      by false = refl

  meta-times : (m : Option FileName) → option_map (λ x. x.0) (meta_in m) ≡ option_map (λ f. f.time) m
  meta-times None = refl
  meta-times (Some m) = refl

  says : (b m : Option FileName) → (expiry_file (record { base = b; meta = m }) ≡ None → e ≡ None)
      → e ≡ option_and_then (λ x. x.delete_at) (heads_beside (base_in b) (meta_in m))
  says None m none = none refl
  says (Some b) m none = by b.tag m none
    where
      by : (tag : Tag) (x : Option FileName) → (expiry_file (record { base = Some (record b { tag = tag }); meta = x }) ≡ None → e ≡ None)
          → e ≡ option_and_then (λ y. y.delete_at) (heads_beside (Some (base_as (is_del tag) b.time)) (meta_in x))
      by tags.Put None is = refl
      by tags.Put (Some x) is = refl
      by tags.Del x is = is refl
      by tags.Meta None is = refl
      by tags.Meta (Some x) is = refl

  guess : (names : List FileName) (p : Picked) → IsPicked names p → (expiry_file p ≡ None → e ≡ None)
      → (s : State) × (picked_outline p ≡ outline_of s) × (e ≡ standing_expiry s)
  guess names p picks none = (
    record { base = base_in p.base; meta = meta_in p.meta; meta_is_later = later names p.base p.meta picks.meta },
    sym (λ i. record { base = base-marks p.base i; meta = meta-times p.meta i }),
    says p.base p.meta none,
  )

-- ---- what a step read

-- what an outline and the second that it asks for refuse, the state refuses
refusal-seen : (o : Outline) (s : State) (e : Option ℕ) (change : Change) → o ≡ outline_of s
    → (asks_expiry o change ≡ true → e ≡ standing_expiry s) → refusal_of s change ≡ refusal_by o e change
refusal-seen o s e change same second =
    ap (λ (x : Outline). refusal_by x (standing_expiry s) change) (sym same) ∙ by (asks_expiry o change) refl
  where
    by : (b : Bool) → asks_expiry o change ≡ b → refusal_by o (standing_expiry s) change ≡ refusal_by o e change
    by true asked = ap (λ (x : Option ℕ). refusal_by o x change) (sym (second asked))
    by false unasked = expiry-unasked o (standing_expiry s) e change unasked

pub seen-as : {V : Type 0} (tells : V → Bool) (files : V → Folders) (faults : V → ℕ) (k : Kept V) (hash : Hash) (names : List FileName) (p : Picked)
    (o : Outline) (e : Option ℕ) (change : Change) (refused : Option Answer) → IsPicked names p → o ≡ picked_outline p → IsSecondOf (expiry_file p) e
    → (is_told tells files faults k ≡ true → o ≡ outline_of (held tells files faults k hash))
    → (is_told tells files faults k ≡ true → asks_expiry o change ≡ true → e ≡ standing_expiry (held tells files faults k hash))
    → refusal_by o e change ≡ refused → IsSeenAs tells files faults k hash o change refused
seen-as tells files faults k hash names p o e change refused picks shape said outline second is = elim (cases_Bool (is_told tells files faults k)) [
  | inl told ↦ record {
    state = held tells files faults k hash;
    held_is = λ x. refl;
    outline_is = outline told;
    refuses = refusal-seen o (held tells files faults k hash) e change (outline told) (second told) ∙ is;
  }
  | inr none ↦ record {
    state = guessed.0;
    held_is = λ told. absurd (let clash = sym none ∙ told in cc);
    outline_is = shape ∙ guessed.1;
    refuses = refusal-seen o guessed.0 e change (shape ∙ guessed.1) (λ asked. guessed.2) ∙ is;
  }
]
  where
    guessed : (s : State) × (picked_outline p ≡ outline_of s) × (e ≡ standing_expiry s)
    guessed = guess e (subst (λ (x : Option ℕ). is_delete_time x ≡ true) (sym said.2) (in-range said.0)) names p picks
        (λ absent. said.2 ∙ ap second_of (said.1 absent))
