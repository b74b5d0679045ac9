-- What a listing tells of the state that a hash stands for, and what it makes of the directory.
use Rattle.std.proofs.Common.{◌≡◌, ℕ, ◌≤◌, Bool, true, List, [], refl, sym, ◌∙◌, ap}
use Rattle.std.specs.Str.{bytes_eq}
use Rattle.sw_hashdir.specs.Places.{dir_text, is_place}
use Rattle.sw_hashdir.specs.Steps.{IsOutlineIn}
use Rattle.sw_journal.specs.Settling.{SettlesFirst}
use Rattle.sw_objdir.proofs.Looking.{dir-moved, held-same, held-told, tells-now}
use Rattle.sw_objdir.proofs.Settled.{dir-settled, none-left, only-settles}
use Rattle.sw_objdir.specs.Directories.{IsDir, Kept, held, is_told}
use Rattle.sw_objdir.specs.Stepping.{LooksAt, SameFiles}
use Rattle.sw_object_steps.specs.Journals.{Hash, Journal, written}
use Rattle.sw_object_steps.specs.Outlines.{outline_of}
use Rattle.sw_object_steps.specs.declared.outline.Outline.{Outline}
use Rattle.sw_volume.specs.Tree.{Folders}

module _ {V : Type 0} (tells : V → Bool) (files : V → Folders) (faults : V → ℕ) (k : Kept V) (dir : IsDir tells files faults k) (hash : Hash) (path : List ℕ)
    (o : Outline)
    (place : is_place k.power hash ≡ true) (path_is : path ≡ dir_text k.power hash)
    (seen : tells k.volume ≡ true → IsOutlineIn (files k.volume) path o) where
  pub outline-held : is_told tells files faults k ≡ true → o ≡ outline_of (held tells files faults k hash)
  outline-held told =
      seen (tells-now tells files faults k dir told) k.secrets k.power hash place path_is (dir.order told)
      ∙ ap outline_of (sym (held-told tells files faults k hash told))

  module _ (v : V) (told_is : tells v ≡ tells k.volume) (stay : SameFiles tells files faults k (record k { volume = v })) (up : faults k.volume ≤ faults v)
      (j : Journal) (settles : SettlesFirst hash o k.journal j) where
    moved : Kept V
    moved = record k { volume = v }

    pub dir-listed : IsDir tells files faults (record k { volume = v; journal = j })
    dir-listed =
        dir-settled tells files faults (record k { volume = v }) (dir-moved tells files faults k v dir told_is stay) hash o j
        (λ told. outline-held told
        ∙ ap outline_of (sym (held-same tells files faults k (record k { volume = v }) dir
        (record { began = refl; secrets = refl; power = refl; told = told_is }) stay hash)))
        settles

    pub looks-listed : LooksAt tells files faults (λ key. bytes_eq key hash) k (record k { volume = v; journal = j })
    looks-listed = record {
      same = record { began = refl; secrets = refl; power = refl; told = told_is };
      settles = only-settles tells files faults k dir hash o j settles;
      still = stay;
      later = up;
    }

    pub none-listed : written hash j.doubts ≡ []
    none-listed = none-left tells files faults k dir hash o j settles
