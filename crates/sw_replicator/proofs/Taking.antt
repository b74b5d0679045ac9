-- What a receiver has, as it takes the files of a suffix.
use Rattle.std.proofs.Common.{◌≡◌, Bool, true, false, ◌&&◌, nat_lt, List, [], ◌∷◌, ◌++◌, refl, sym, ◌∙◌, ap, subst, append_assoc, arith, Option, Some, None}
use Rattle.std.proofs.lemmas.Bool.Decides.{nat_tests}
use Rattle.std.proofs.lemmas.List.{append-nil}
use Rattle.std.specs.List.{AllByRecursion, fold}
use Rattle.std.specs.Option.{option_map, option_to_list}
use Rattle.sw_diskfile.specs.StateFiles.{name_of, picked_of}
use Rattle.sw_diskfile.specs.declared.file_name.FileName.{FileName}
use Rattle.sw_diskfile.specs.declared.picking.Picked.{Picked}
use Rattle.sw_history.specs.Halves.{GrowsOf}
use Rattle.sw_object_steps.proofs.Answering.{outline-new}
use Rattle.sw_object_steps.proofs.Ruling.{are-rules}
use Rattle.sw_object_steps.specs.Journals.{Hash}
use Rattle.sw_object_steps.specs.Outlines.{file_mark, is_new_to, mark_of, outline_of, picked_outline}
use Rattle.sw_object_steps.specs.Rules.{ObjHistory, obj_applied, obj_rules}
use Rattle.sw_object_steps.specs.Values.{ObjValue}
use Rattle.sw_object_steps.specs.declared.entry.ObjEntry.{ObjEntry}
use Rattle.sw_object_steps.specs.declared.entry.ObjEntry.TheVariants.{Dropped, Files, Marked, Wrote}
use Rattle.sw_object_steps.specs.declared.outline.Outline.{Outline}
use Rattle.sw_replicator.specs.Meeting.{state_by}
use Rattle.sw_replicator.specs.Pushing.{is_wanted}
use Rattle.sw_state.proofs.JoinLaws.{at_least_one_write, at_least_transitive, join_is_at_least, joined-together}
use Rattle.sw_state.proofs.StateLaws.{idempotent, joins_lists, state_of-writes_of}
use Rattle.sw_state.proofs.StateTests.{new_changes}
use Rattle.sw_state.proofs.BaseOrder.{above-itself}
use Rattle.sw_state.specs.Bases.{base_tag, base_time, is_deletion, is_new_base}
use Rattle.sw_state.specs.Metas.{Meta, is_after_base, is_after_meta}
use Rattle.sw_state.specs.States.{IsAtLeast, base_writes, is_new, joined, meta_writes, state_of, together, writes_of}
use Rattle.sw_state.specs.Writes.{tag_of}
use Rattle.sw_state.specs.declared.base.Base.{Base}
use Rattle.sw_state.specs.declared.base.Base.TheVariants as bases
use Rattle.sw_state.specs.declared.state.State.{State}
use Rattle.sw_state.specs.declared.write.Kind.TheVariants as kinds
use Rattle.sw_state.specs.declared.write.Write.{Write}
use Rattle.sw_step.proofs.Keeping.{stand-more}
use Rattle.sw_step.specs.Rules.{about, stands}
use Rattle.sw_suffix.specs.SuffixTexts.{files}
use Rattle.sw_timestamp.specs.declared.tag.Tag.TheVariants as tags

-- ---- growth

-- entries only add
entries-least : (v : ObjValue) (es : List ObjEntry) → IsAtLeast (fold obj_applied v es).state v.state
entries-least v [] = idempotent v.state
entries-least v (Files by filed ∷ es) = entries-least (obj_applied v (Files by filed)) es
entries-least v (Marked by filed device ∷ es) = entries-least (obj_applied v (Marked by filed device)) es
entries-least v (Dropped by filed ∷ es) = entries-least (obj_applied v (Dropped by filed)) es
entries-least v (Wrote name w records ∷ es) =
    let next : ObjValue = obj_applied v (Wrote name w records) in
    at_least_transitive (fold obj_applied next es).state next.state v.state (entries-least next es)
    (subst (λ (x : State). IsAtLeast x v.state) (sym (joined-together v.state w)) (join_is_at_least v.state (state_of (w ∷ []))).0)

-- so a later history stands for at least what the earlier did
pub grown-least : (h g : ObjHistory) (hash : Hash) → GrowsOf h g → IsAtLeast (state_by g hash) (state_by h hash)
grown-least h g hash p =
    subst (λ (v : ObjValue). IsAtLeast v.state (state_by h hash))
    (sym (stand-more obj_rules are-rules h g hash p.entries.0 p.opening p.entries.1))
    (entries-least (stands obj_rules h hash) (about obj_rules hash p.entries.0))

-- what is at least a state that a write doesn't change isn't changed by it
pub least-keeps : (v s : State) (w : Write) → IsAtLeast v s → joined s w ≡ s → joined v w ≡ v
least-keeps v s w least same = (at_least_one_write v w).1 (at_least_transitive v s (state_of (w ∷ [])) least ((at_least_one_write s w).0 same))

-- writes in files of one name change a state alike
pub file-alike : (s : State) (v w : Write) → name_of v ≡ name_of w → joined s v ≡ s → joined s w ≡ s
file-alike s v w same keeps =
    let old : is_new s v.time (tag_of v.kind) ≡ false = (new_changes s v).1 keeps in
    (new_changes s w).0 (ap (λ (f : FileName). is_new s f.time f.tag) (sym same) ∙ old)

-- ---- what the names of a state's files tell

mark-is : (b : Base) → file_mark (record { time = base_time b; tag = base_tag b }) ≡ mark_of b
mark-is (bases.Put time content) = refl
mark-is (bases.Del time) = refl

-- the outline of a state's files is that of the state
pub picked-outline : (s : State) → picked_outline (picked_of s) ≡ outline_of s
picked-outline s = rw (base s.base, meta s.meta) refl
  where
    base : (b : Option Base) → option_map file_mark (option_map (λ b. record { time = base_time b; tag = base_tag b }) b) ≡ option_map mark_of b
    base None = refl
    base (Some b) = ap Some (mark-is b)

    meta : (m : Option Meta) → option_map (λ (f : FileName). f.time) (option_map (λ m. record { time = m.0; tag = tags.Meta }) m) ≡ option_map (λ m. m.0) m
    meta None = refl
    meta (Some m) = refl

-- a write that isn't wanted changes nothing
pub unwanted-keeps : (s : State) (w : Write) → is_wanted (picked_of s) (name_of w) ≡ false → joined s w ≡ s
unwanted-keeps s w unwanted =
    (new_changes s w).0 (sym (outline-new s w.time (tag_of w.kind))
    ∙ (ap (λ (o : Outline). is_new_to o w.time (tag_of w.kind)) (sym (picked-outline s)) ∙ unwanted))

-- ---- what has all files of a state is at least it

-- no write in a file of this name changes the state
abbrev pub Covers : State → FileName → Type 0
Covers v file = (w : Write) → name_of w ≡ file → joined v w ≡ v

-- what no write of a list changes is their join
pub keeps-all : (v : State) (ws : List Write) → AllByRecursion (λ w. joined v w ≡ v) ws → together v (state_of ws) ≡ v
keeps-all v [] all =
    ap (λ (x : State). together x (state_of [])) (sym (state_of-writes_of v))
    ∙ (joins_lists (writes_of v) [] ∙ (ap state_of (append-nil (writes_of v)) ∙ state_of-writes_of v))
keeps-all v (w ∷ ws) all =
    ap (λ (x : State). together x (state_of (w ∷ ws))) (sym (state_of-writes_of v))
    ∙ (joins_lists (writes_of v) (w ∷ ws)
    ∙ (ap state_of (sym (append_assoc (writes_of v) (w ∷ []) ws))
    ∙ (sym (joins_lists (writes_of v ++ w ∷ []) ws)
    ∙ (ap (λ (x : State). together x (state_of ws)) all.0 ∙ keeps-all v ws all.1))))

abbrev base_files : Option Base → List FileName
base_files b = option_to_list (option_map (λ b. record { time = base_time b; tag = base_tag b }) b)

abbrev meta_files : Option Meta → List FileName
meta_files m = option_to_list (option_map (λ m. record { time = m.0; tag = tags.Meta }) m)

-- the writes of a state are in its files
file-writes : (v s : State) → AllByRecursion (Covers v) (files (picked_of s)) → AllByRecursion (λ w. joined v w ≡ v) (writes_of s)
file-writes v s all = by s.base s.meta all
  where
    metas : (m : Option Meta) → AllByRecursion (Covers v) (meta_files m) → AllByRecursion (λ w. joined v w ≡ v) (meta_writes m)
    metas None all = tt
    metas (Some m) all = (all.0 (record { time = m.0; kind = kinds.Meta m.1 }) refl, tt)

    by : (b : Option Base) (m : Option Meta) → AllByRecursion (Covers v) (base_files b ++ meta_files m)
        → AllByRecursion (λ w. joined v w ≡ v) (base_writes b ++ meta_writes m)
    by None m all = metas m all
    by (Some (bases.Put time content)) m all = (all.0 (record { time = time; kind = kinds.Put content }) refl, metas m all.1)
    by (Some (bases.Del time)) m all = (all.0 (record { time = time; kind = kinds.Del }) refl, metas m all.1)

pub files-least : (v s : State) → AllByRecursion (Covers v) (files (picked_of s)) → IsAtLeast v s
files-least v s all = subst (λ (x : State). IsAtLeast v x) (state_of-writes_of s) (keeps-all v (writes_of s) (file-writes v s all))

-- ---- states with the same files

abbrev IsOld : State → FileName → Type 0
IsOld v file = is_new v file.time file.tag ≡ false

-- a state's own files are not wanted
own-unwanted : (v : State) → AllByRecursion (IsOld v) (files (picked_of v))
own-unwanted v = by v.base v.meta refl refl
  where
    base-old : (b : Base) → v.base ≡ Some b → is_new_base v.base (base_time b) (is_deletion b) ≡ false
    base-old b is = ap (λ (x : Option Base). is_new_base x (base_time b) (is_deletion b)) is ∙ above-itself b

    both : (a : Bool) → (a && false) ≡ false
    both true = refl
    both false = refl

    meta-old : (m : Meta) → v.meta ≡ Some m → is_new v m.0 tags.Meta ≡ false
    meta-old m is =
        let itself : nat_lt m.0 m.0 ≡ false = grind (arith, nat_tests) in
        let old : is_after_meta v.meta m.0 ≡ false = ap (λ (x : Option Meta). is_after_meta x m.0) is ∙ itself in
        rw old (both (is_after_base v.base m.0))

    metas : (m : Option Meta) → v.meta ≡ m → AllByRecursion (IsOld v) (meta_files m)
    metas None is = tt
    metas (Some m) is = (meta-old m is, tt)

    by : (b : Option Base) (m : Option Meta) → v.base ≡ b → v.meta ≡ m → AllByRecursion (IsOld v) (base_files b ++ meta_files m)
    by None m is is' = metas m is'
    by (Some (bases.Put time content)) m is is' = (base-old (bases.Put time content) is, metas m is')
    by (Some (bases.Del time)) m is is' = (base-old (bases.Del time) is, metas m is')

own-covers : (v : State) (fs : List FileName) → AllByRecursion (IsOld v) fs → AllByRecursion (Covers v) fs
own-covers v [] all = tt
own-covers v (file ∷ fs) all = (λ w is. (new_changes v w).0 (ap (λ (f : FileName). is_new v f.time f.tag) is ∙ all.0), own-covers v fs all.1)

-- a state is at least one with the same files
pub alike-least : (v s : State) → picked_of v ≡ picked_of s → IsAtLeast v s
alike-least v s same = files-least v s (subst (λ (p : Picked). AllByRecursion (Covers v) (files p)) same (own-covers v (files (picked_of v)) (own-unwanted v)))
