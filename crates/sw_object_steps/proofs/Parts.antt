-- What a read of a partition tells of its hashes, it tells of any states that are the same at these.
use Rattle.std.proofs.Common.{◌≡◌, ℕ, Bool, true, List, ◌∙◌, ap, subst, Option, None, Some}
use Rattle.std.specs.List.{Contains}
use Rattle.sw_diskfile.specs.StateFiles.{picked_of}
use Rattle.sw_diskfile.specs.declared.file_name.FileName.{FileName}
use Rattle.sw_hashpath.specs.HashParts.{suffix_of}
use Rattle.sw_hashpath.specs.declared.name.Name.{Name}
use Rattle.sw_object_steps.specs.Journals.{Hash}
use Rattle.sw_object_steps.specs.Parts.{AreHashes, AreLines, Counts, IsFile, IsOfPart}
use Rattle.sw_object_steps.specs.declared.stored.Stored.{Stored}
use Rattle.sw_state.specs.States.{joined, writes_of}
use Rattle.sw_state.specs.declared.state.State.{State}
use Rattle.sw_suffix.specs.declared.dir_line.DirLine.{DirLine}
use Rattle.sw_suffix.specs.declared.told.SuffixHash.{SuffixHash}

pub lines-as : (power part suffix : ℕ) (b told : Bool) (s t : Hash → State) (lines : List DirLine) → (told ≡ true → b ≡ true)
    → (told ≡ true → (hash : Hash) → IsOfPart power part hash → suffix_of hash ≡ suffix → s hash ≡ t hash)
    → AreLines power part suffix b s lines → AreLines power part suffix told t lines
lines-as power part suffix b told s t lines tells same is = record {
  are = is.are;
  within = is.within;
  shown = λ yes hash of last. is.shown (tells yes) hash of last ∙ ap picked_of (same yes hash of last);
}

pub hashes-as : (power part : ℕ) (b told : Bool) (s t : Hash → State) (hashes : List SuffixHash) → (told ≡ true → b ≡ true)
    → (told ≡ true → (hash : Hash) → IsOfPart power part hash → s hash ≡ t hash)
    → AreHashes power part b s hashes → AreHashes power part told t hashes
hashes-as power part b told s t hashes tells same is = record {
  ascending = is.ascending;
  below = is.below;
  shown = λ yes suffix lt.
      let one = is.shown (tells yes) suffix lt in
      (one.0, lines-as power part suffix true true s t one.0 (λ e. e) (λ e hash of last. same yes hash of) one.1, one.2);
}

pub file-as : (fits : Name → Bool) (hash : Hash) (file : FileName) (told : Bool) (s t : Hash → State) (found : Option Stored)
    → (told ≡ true → s hash ≡ t hash) → IsFile fits hash file told s found → IsFile fits hash file told t found
file-as fits hash file told s t None same is = λ yes. subst (λ (x : State). ¬ (Counts x file)) (same yes) (is yes)
file-as fits hash file told s t (Some stored) same is = record {
  hash_is = is.hash_is;
  fits_is = is.fits_is;
  named = is.named;
  adds_nothing = λ yes. subst (λ (x : State). joined x stored.write ≡ x) (same yes) (is.adds_nothing yes);
  counts = λ yes. subst (λ (x : State). Counts x file → Contains (writes_of x) stored.write) (same yes) (is.counts yes);
}
