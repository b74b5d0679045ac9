-- The entry of a write with the records that the entries before it filed: it leaves what those left, and the write without them.
use Rattle.std.proofs.Common.{◌≡◌, ℕ, Bool, List, [], ◌∷◌, ◌++◌, refl, sym, ◌∙◌, ap, inl, inr}
use Rattle.std.specs.List.{fold}
use Rattle.std.specs.Str.{bytes_eq}
use Rattle.std.proofs.lemmas.Bool.{cases_Bool}
use Rattle.std.proofs.lemmas.List.Elements.{filter-append}
use Rattle.std.proofs.lemmas.List.Sums.{fold-append}
use Rattle.sw_hashpath.specs.declared.name.Name.{Name}
use Rattle.sw_object_steps.specs.Journals.{Hash, Journal, with_entry}
use Rattle.sw_object_steps.specs.Recorded.{filed_entries}
use Rattle.sw_object_steps.specs.Rules.{obj_applied, obj_key, obj_rules}
use Rattle.sw_object_steps.specs.Singles.{History}
use Rattle.sw_object_steps.specs.Values.{ObjValue}
use Rattle.sw_object_steps.specs.declared.entry.ObjEntry.{ObjEntry}
use Rattle.sw_object_steps.specs.declared.entry.ObjEntry.TheVariants.{Files, Wrote}
use Rattle.sw_objdir.proofs.Journaling.{after}
use Rattle.sw_objdir.specs.Directories.{IsDir, IsKept, Kept, history_of, values_of}
use Rattle.sw_pending.specs.declared.filed.Filed.{Filed}
use Rattle.sw_state.specs.declared.write.Write.{Write}
use Rattle.sw_step.specs.Rules.{about}
use Rattle.sw_volume.specs.Tree.{Folders}

-- a journal with one entry of a write, behind these
abbrev pub with_merged : Journal → List ObjEntry → ObjEntry → Journal
with_merged j before entry = record j { entries = before ++ entry ∷ [] }

-- ---- what entries leave of a hash

abbrev leaves : ObjValue → Hash → List ObjEntry → ObjValue
leaves v hash es = fold obj_applied v (about obj_rules hash es)

leaves-append : (v : ObjValue) (hash : Hash) (xs ys : List ObjEntry) → leaves v hash (xs ++ ys) ≡ leaves (leaves v hash xs) hash ys
leaves-append v hash xs ys =
    ap (λ (es : List ObjEntry). fold obj_applied v es) (filter-append (λ (e : ObjEntry). bytes_eq (obj_key e) hash) xs ys)
    ∙ fold-append obj_applied v (about obj_rules hash xs) (about obj_rules hash ys)

module _ (hash : Hash) (name : Name) (w : Write) where
  filed-last : (records : List Filed) (v : ObjValue)
      → leaves (leaves v hash (filed_entries name.hash records)) hash (Wrote name w [] ∷ []) ≡ leaves v hash (Wrote name w records ∷ [])
  filed-last [] v = refl
  filed-last (filed ∷ more) v = elim (cases_Bool (bytes_eq name.hash hash)) [
    | inl is ↦ rw is (rw is at (filed-last more (obj_applied v (Files name.hash filed))))
    | inr isnt ↦ rw isnt (rw isnt at (filed-last more v))
  ]

  merged-leaves : (v : ObjValue) (before : List ObjEntry) (records : List Filed)
      → leaves v hash ((before ++ filed_entries name.hash records) ++ Wrote name w [] ∷ []) ≡ leaves v hash (before ++ Wrote name w records ∷ [])
  merged-leaves v before records =
      leaves-append v hash (before ++ filed_entries name.hash records) (Wrote name w [] ∷ [])
      ∙ (ap (λ (x : ObjValue). leaves x hash (Wrote name w [] ∷ [])) (leaves-append v hash before (filed_entries name.hash records))
      ∙ (filed-last records (leaves v hash before)
      ∙ sym (leaves-append v hash before (Wrote name w records ∷ []))))

-- ---- a history, and a directory

kept-merged : (h : History) (next : Hash → ObjValue) (j : Journal) (name : Name) (w : Write) (records : List Filed) (before : List ObjEntry)
    → j.entries ≡ before ++ filed_entries name.hash records → (f : ℕ) → IsKept (after h (with_entry j (Wrote name w [])) f) next
    → IsKept (after h (with_merged j before (Wrote name w records)) f) next
kept-merged h next j name w records before filed f kept = record {
  can = λ told hash. let can = kept.can told hash in (
    can.0,
    can.1,
    can.2 ∙ ap (λ (x : ObjValue). fold obj_applied x can.0)
        (ap (λ (es : List ObjEntry). leaves (h.opening hash) hash (es ++ Wrote name w [] ∷ [])) filed
        ∙ merged-leaves hash name w (h.opening hash) before records),
  );
  single = kept.single;
  single_record = kept.single_record;
  plain = kept.plain;
}

module _ {V : Type 0} (tells : V → Bool) (files : V → Folders) (faults : V → ℕ) where
  pub dir-merged : (k : Kept V) (v : V) (name : Name) (w : Write) (records : List Filed) (before : List ObjEntry)
      → k.journal.entries ≡ before ++ filed_entries name.hash records
      → IsDir tells files faults (record k { volume = v; journal = with_entry k.journal (Wrote name w []) })
      → IsDir tells files faults (record k { volume = v; journal = with_merged k.journal before (Wrote name w records) })
  dir-merged k v name w records before filed dir = record {
    same = dir.same;
    order = dir.order;
    records_order = dir.records_order;
    kept = kept-merged (history_of tells files faults k) (values_of tells files faults (record k { volume = v })) k.journal name w records before filed
        (faults v) dir.kept;
    least = dir.least;
    greatest = dir.greatest;
  }
