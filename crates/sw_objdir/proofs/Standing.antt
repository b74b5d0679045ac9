-- What stands under each hash, where files stay, or change in the directory of a hash alone.
use Rattle.std.proofs.Common.{◌≡◌, ℕ, List, [], ◌∷◌, ◌++◌, Option, None, codes, slice_index, ◌∙◌, ap, arith, inl, inr, ◌⊎◌, if◌then◌else◌}
use Rattle.std.specs.Str.{bytes_eq}
use Rattle.sw_cleanup.specs.Cleaning.{IsNameOf, obsolete_of}
use Rattle.sw_diskfile.specs.StateFiles.{name_of}
use Rattle.sw_diskfile.specs.declared.file_name.FileName.{FileName}
use Rattle.sw_hashdir.specs.Places.{dir_text, holds}
use Rattle.sw_hashdir.specs.Steps.{Writes}
use Rattle.sw_hashpath.specs.declared.name.Name.{Name}
use Rattle.sw_hashpath.specs.declared.secrets.Secrets.{Secrets}
use Rattle.sw_objdir.specs.Directories.{records_of, value_at}
use Rattle.sw_object_steps.specs.Journals.{Hash}
use Rattle.sw_object_steps.specs.Rules.{obj_applied}
use Rattle.sw_object_steps.specs.declared.entry.ObjEntry.TheVariants.{Wrote}
use Rattle.sw_pending_dir.proofs.Stepping.{elsewhere_keeps, keeps-same}
use Rattle.sw_pending_dir.specs.Steps.{KeepsRecords}
use Rattle.sw_state.specs.States.{joined}
use Rattle.sw_state.specs.declared.write.Write.{Write}
use Rattle.sw_volume.specs.Tree.{Folders, contents}
use Rattle.sw_volume.specs.Volume.{MaySet, Sets}

module _ (secrets : Secrets) (old new : Folders) where
  -- ---- what stands

  module _ (keeps : KeepsRecords secrets old new) (hash : Hash) where
    records-kept : records_of secrets new hash ≡ records_of secrets old hash
    records-kept = λ i key. if bytes_eq key.hash hash then keeps.same key i else None

    pub value-kept : (power : ℕ) → holds secrets power new hash ≡ holds secrets power old hash
        → value_at secrets power new hash ≡ value_at secrets power old hash
    value-kept power same = λ i. record { state = same i; records = λ key. records-kept i key }

    pub value-joins : (power : ℕ) (name : Name) (w : Write) → holds secrets power new hash ≡ joined (holds secrets power old hash) w
        → value_at secrets power new hash ≡ obj_applied (value_at secrets power old hash) (Wrote name w [])
    value-joins power name w joins = λ i. record { state = joins i; records = λ key. records-kept i key }

  -- ---- the directory of a hash is no folder of records

  module _ (power : ℕ) (hash : Hash) (dir : List ℕ) (dir_is : dir ≡ dir_text power hash) where
    elsewhere : (rest : List ℕ) → codes "async_pending/" ++ rest ≡ dir → ⊥
    elsewhere rest same = let first : 97 ≡ 111 = ap (λ (l : List ℕ). slice_index l 0) (same ∙ dir_is) in omega (arith, first)

    set-keeps : (file : List ℕ) (w : Option (List ℕ)) → Sets (contents old) (contents new) dir file w → KeepsRecords secrets old new
    set-keeps file w sets = elsewhere_keeps secrets old new
        (λ rest f. sets.elsewhere (codes "async_pending/" ++ rest) f (λ both. elsewhere rest both.0))

    pub may-keeps : (file : List ℕ) (w : Option (List ℕ)) → MaySet (contents old) (contents new) dir file w → KeepsRecords secrets old new
    may-keeps file w (inl same) = keeps-same secrets old new same
    may-keeps file w (inr sets) = set-keeps file w sets

    pub writes-keep : (names : List FileName) (name : Name) (w : Write) (before now : ℕ) → Writes old new dir names name w before now
        → KeepsRecords secrets old new
    writes-keep names name w before now wrote = elsewhere_keeps secrets old new
        (λ rest f. by rest f (wrote.unlinks.same_or_gone (codes "async_pending/" ++ rest) f))
      where
        by : (rest f : List ℕ) → (contents new (codes "async_pending/" ++ rest) f ≡ contents wrote.between (codes "async_pending/" ++ rest) f)
            ⊎ ((codes "async_pending/" ++ rest ≡ dir) × IsNameOf (obsolete_of (names ++ name_of w ∷ [])) f
            × (contents new (codes "async_pending/" ++ rest) f ≡ None))
            → contents new (codes "async_pending/" ++ rest) f ≡ contents old (codes "async_pending/" ++ rest) f
        by rest f (inl same) = same ∙ wrote.puts.elsewhere (codes "async_pending/" ++ rest) f (λ both. elsewhere rest both.0)
        by rest f (inr gone) = absurd (elsewhere rest gone.0)
