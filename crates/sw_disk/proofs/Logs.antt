-- The files that stand after changes.
use Rattle.std.proofs.Common.{◌≡◌, ⊎_elim, ℕ, Bool, true, false, cond, List, [], ◌∷◌, ◌++◌, Option, Some, None, refl, sym, ◌∙◌, ap, subst, Result, Ok, Err}
use Rattle.std.proofs.Common.{OnOk, arith, IsSome, not, ◌==◌, ◌↔◌, ◌<◌, length}
use Rattle.std.proofs.lemmas.Bool.{cases_Bool}
use Rattle.std.proofs.lemmas.Bool.Decides.{nat_tests}
use Rattle.std.proofs.lemmas.List.Sums.{fold-append}
use Rattle.std.proofs.lemmas.Slice.Eq.{bytes_eq-Decides}
use Rattle.std.specs.Option.{option_map}
use Rattle.std.specs.Str.{bytes_eq}
use Rattle.sw_disk.proofs.Turning.{and_on, is_path-self}
use Rattle.sw_disk.specs.Calls.{file_synced, moved, synced_file, with_file}
use Rattle.sw_disk.specs.Changes.{blank, next, run, Run}
use Rattle.sw_disk.specs.Disk.{DiskFile, DiskState, HasFile}
use Rattle.sw_disk.specs.Paths.{is_path}
use Rattle.sw_disk.specs.Standings.{bytes_at}
use Rattle.sw_disk.specs.declared.change.Change.{Change}
use Rattle.sw_outside.specs.Faults.{HasCause}
use Rattle.sw_volume.specs.Tree.{Folders, contents}
use Rattle.sw_volume.specs.Volume.{ListsAll, Sets}

pub run-push : (changes : List Change) (change : Change) → run (changes ++ change ∷ []) ≡ next (run changes) change
run-push changes change = fold-append next (record { now = blank; past = [] }) changes (change ∷ [])

-- the files of a volume are those of a disk
abbrev pub Tells : Folders → DiskState → Type 0
Tells files s = (dir file : List ℕ) → contents files dir file ≡ bytes_at s dir file

pub tells-push : (files : Folders) (changes : List Change) (change : Change) (after : List Change) → after ≡ changes ++ change ∷ [] → Tells files
    (next (run changes) change).now → Tells files (run after).now
tells-push files changes change after is tells dir file =
    tells dir file ∙ sym (ap (λ (cs : List Change). bytes_at (run cs).now dir file) is ∙ ap (λ (r : Run). bytes_at r.now dir file) (run-push changes change))

-- a path was set
pub tells-set : (old new : Folders) (s : DiskState) (dir file : List ℕ) (e : Option DiskFile) → Tells old s → Sets (contents old) (contents new) dir file
    (option_map (λ (f : DiskFile). f.bytes) e)
    → Tells new (with_file s dir file e)
tells-set old new s dir file e tells sets d f = ⊎_elim
    (λ on. let both = and_on (bytes_eq dir d) (bytes_eq file f) on in
    let here : contents new d f ≡ option_map (λ (x : DiskFile). x.bytes) e =
    sym (ap (λ (x : List ℕ). contents new x f) ((bytes_eq-Decides dir d).0 both.0)) ∙ sym
    (ap (λ (x : List ℕ). contents new dir x) ((bytes_eq-Decides file f).0 both.1)) ∙ sets.there in
    here ∙ sym (ap (λ (b : Bool). option_map (λ (x : DiskFile). x.bytes) (cond b e (s.files d f))) on))
    (λ off. sets.elsewhere d f (λ same. cc (
      off,
      subst (λ (x : List ℕ). is_path dir file x f ≡ true) (sym same.0)
          (subst (λ (x : List ℕ). is_path dir file dir x ≡ true) (sym same.1) (is_path-self dir file)),
    ))
    ∙ tells d f ∙ sym (ap (λ (b : Bool). option_map (λ (x : DiskFile). x.bytes) (cond b e (s.files d f))) off))
    (cases_Bool (is_path dir file d f))

bytes-synced : (b : Bool) (o : Option DiskFile) → option_map (λ (f : DiskFile). f.bytes) (cond b (option_map synced_file o) o) ≡ option_map
    (λ (f : DiskFile). f.bytes) o
bytes-synced true None = refl
bytes-synced true (Some f) = refl
bytes-synced false o = refl

pub tells-synced : (files : Folders) (s : DiskState) (dir file : List ℕ) → Tells files s → Tells files (file_synced s dir file)
tells-synced files s dir file tells d f = tells d f ∙ sym (bytes-synced (is_path dir file d f) (s.files d f))

-- a volume that counts no faults didn't fail
pub sound_is_ok : {T E : Type 0} (r : Result T E) (P : Type 0) → HasCause 0 0 r → OnOk r P → P
sound_is_ok (Ok v) P cause p = p
sound_is_ok (Err e) P cause p = absurd (omega (arith, cause.once))

-- a file was moved to another path: it was put there, and then taken away from its own
module _ (s : DiskState) (from_dir from_file dir file : List ℕ) (apart : ¬ ((dir ≡ from_dir) × (file ≡ from_file))) where
  not_both : (d f : List ℕ) → is_path dir file d f ≡ true → is_path from_dir from_file d f ≡ true → ⊥
  not_both d f to from =
      let there = and_on (bytes_eq dir d) (bytes_eq file f) to in
      let here = and_on (bytes_eq from_dir d) (bytes_eq from_file f) from in
      apart (
        (bytes_eq-Decides dir d).0 there.0 ∙ sym ((bytes_eq-Decides from_dir d).0 here.0),
        (bytes_eq-Decides file f).0 there.1 ∙ sym
            ((bytes_eq-Decides from_file f).0 here.1),
      )

  commute : (to from : Bool) (e x : Option DiskFile) → (to ≡ true → from ≡ true → ⊥) → cond from None (cond to e x) ≡ cond to e (cond from None x)
  commute true true e x never = absurd (never refl refl)
  commute true false e x never = refl
  commute false from e x never = refl

  pub tells-moved : (old mid new : Folders) (bytes : List ℕ) → Tells old s → contents old from_dir from_file ≡ Some bytes
      → Sets (contents old) (contents mid) dir file (Some bytes) → Sets (contents mid) (contents new) from_dir from_file None
      → Tells new (moved s from_dir from_file dir file)
  tells-moved old mid new bytes tells there put gone d f =
      let is : option_map (λ (x : DiskFile). x.bytes) (s.files from_dir from_file) ≡ Some bytes = sym (tells from_dir from_file) ∙ there in
      let staged = tells-set old mid s dir file (s.files from_dir from_file) tells
      (subst (λ (w : Option (List ℕ)). Sets (contents old) (contents mid) dir file w) (sym is) put) in
      tells-set mid new (with_file s dir file (s.files from_dir from_file)) from_dir from_file None staged gone d f
      ∙ ap (λ (o : Option DiskFile). option_map (λ (x : DiskFile). x.bytes) o)
      (commute (is_path dir file d f) (is_path from_dir from_file d f) (s.files from_dir from_file) (s.files d f) (not_both d f))

pub lists-told : (files : Folders) (s : DiskState) (dir : List ℕ) (names : List (List ℕ)) → Tells files s → ListsAll names
    (λ name. IsSome (contents files dir name))
    → ListsAll names (λ name. IsSome (bytes_at s dir name))
lists-told files s dir names tells lists = record {
  ascending = lists.ascending;
  exact = λ name. (
    λ has. subst (λ (o : Option (List ℕ)). IsSome o) (tells dir name) ((lists.exact name).0 has),
    λ stands. (lists.exact name).1 (subst (λ (o : Option (List ℕ)). IsSome o) (sym (tells dir name)) stands),
  );
}

file_of_bytes : (o : Option DiskFile) → IsSome (option_map (λ (f : DiskFile). f.bytes) o) → IsSome o
file_of_bytes None h = cc
file_of_bytes (Some f) h = refl

bytes_of_file : (o : Option DiskFile) → IsSome o → IsSome (option_map (λ (f : DiskFile). f.bytes) o)
bytes_of_file None h = cc
bytes_of_file (Some f) h = refl

-- a file stands in a folder where the list of its files isn't empty
pub has_file-listed : (s : DiskState) (dir : List ℕ) (names : List (List ℕ)) (empty : Bool) → ListsAll names (λ name. IsSome (bytes_at s dir name))
    → empty ≡ (length names == 0) → (not empty ≡ true) ↔ HasFile s dir
has_file-listed s dir [] empty lists is = (
  λ full. absurd (contrary empty full is),
  λ has. let listed = (lists.exact has.0).1 (bytes_of_file (s.files dir has.0) has.1) in
      let within : listed.0 < 0 = listed.1 in absurd (omega (arith, within)),
)
  where
    contrary : (b : Bool) → not b ≡ true → b ≡ true → ⊥
    contrary true n y = cc
    contrary false n y = cc
has_file-listed s dir (name ∷ names) empty lists is = (
  λ full. (name, file_of_bytes (s.files dir name) ((lists.exact name).0 (0, omega arith, refl))),
  λ has. ap not is ∙ grind (arith, nat_tests),
)
