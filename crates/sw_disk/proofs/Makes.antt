-- Which folders are there after changes.
use Rattle.std.proofs.Common.{◌≡◌, ◌⊎◌, ◌↔◌, inl, inr, ⊎_elim, ℕ, Bool, true, false, not, cond, ◌&&◌, ◌||◌, List, [], ◌∷◌, Option, Some, None, IsSome, refl}
use Rattle.std.proofs.Common.{sym, ◌∙◌, ap, subst, if◌then◌else◌, take, get_or, length, ◌<◌, ◌+◌}
use Rattle.std.proofs.lemmas.Bool.{cases_Bool}
use Rattle.std.proofs.lemmas.List.Folds.{list_any_more}
use Rattle.std.proofs.lemmas.Slice.Eq.{bytes_eq-Decides}
use Rattle.std.specs.List.{fold, list_any}
use Rattle.std.specs.Option.{unwrap_or}
use Rattle.std.specs.Str.{bytes_eq}
use Rattle.sw_disk.proofs.Turning.{and_both, and_on, differs}
use Rattle.sw_disk.specs.Calls.{is_made, synced_name}
use Rattle.sw_disk.specs.Changes.{Run, after, blank, next, run}
use Rattle.sw_disk.specs.Disk.{DiskState, HasFolder}
use Rattle.sw_disk.specs.Folders.{makes, makes_in, name_in, names_in}
use Rattle.sw_disk.specs.Paths.{above, last_name}
use Rattle.sw_disk.specs.Standings.{IsSubfolder}
use Rattle.sw_disk.specs.declared.change.Change.{Change}
use Rattle.sw_disk.specs.declared.change.Change.TheVariants.{Created, FileSynced, FolderSynced, Made, Moved, Removed}
use Rattle.sw_volume.specs.Tree.{Folders, contents}
use Rattle.sw_volume.specs.Volume.{ListsAll, Sets}

stays_made : (b : Bool) (o : Option Bool) → IsSome o → IsSome (cond b (is_made o) o)
stays_made true None h = refl
stays_made true (Some k) h = refl
stays_made false o h = h

now_made : (b : Bool) (o : Option Bool) → b ≡ true → IsSome (cond b (is_made o) o)
now_made true None e = refl
now_made true (Some k) e = refl
now_made false o e = cc

was_made : (b : Bool) (o : Option Bool) → IsSome (cond b (is_made o) o) → (b ≡ true) ⊎ IsSome o
was_made true o h = inl refl
was_made false o h = inr h

stays_synced : (b : Bool) (o : Option Bool) → IsSome o → IsSome (cond b (synced_name o) o)
stays_synced true None h = cc
stays_synced true (Some k) h = refl
stays_synced false o h = h

was_synced : (b : Bool) (o : Option Bool) → IsSome (cond b (synced_name o) o) → IsSome o
was_synced true None h = cc
was_synced true (Some k) h = refl
was_synced false o h = h

-- after one change more
one-makes : (s : DiskState) (c : Change) (dir : List ℕ) → (makes dir c ≡ true) ⊎ IsSome (s.folders dir) → IsSome ((after s c).folders dir)
one-makes s (Made d) dir (inl e) = now_made (bytes_eq d dir) (s.folders dir) e
one-makes s (Made d) dir (inr h) = stays_made (bytes_eq d dir) (s.folders dir) h
one-makes s (FolderSynced d) dir (inl e) = cc
one-makes s (FolderSynced d) dir (inr h) = stays_synced (bytes_eq d (above dir)) (s.folders dir) h
one-makes s (Created d f bytes) dir (inl e) = cc
one-makes s (Created d f bytes) dir (inr h) = h
one-makes s (FileSynced d f) dir (inl e) = cc
one-makes s (FileSynced d f) dir (inr h) = h
one-makes s (Moved fd ff d f) dir (inl e) = cc
one-makes s (Moved fd ff d f) dir (inr h) = h
one-makes s (Removed d f) dir (inl e) = cc
one-makes s (Removed d f) dir (inr h) = h

one-made : (s : DiskState) (c : Change) (dir : List ℕ) → IsSome ((after s c).folders dir) → (makes dir c ≡ true) ⊎ IsSome (s.folders dir)
one-made s (Made d) dir h = was_made (bytes_eq d dir) (s.folders dir) h
one-made s (FolderSynced d) dir h = inr (was_synced (bytes_eq d (above dir)) (s.folders dir) h)
one-made s (Created d f bytes) dir h = inr h
one-made s (FileSynced d f) dir h = inr h
one-made s (Moved fd ff d f) dir h = inr h
one-made s (Removed d f) dir h = inr h

or_first : (a b : Bool) → a ≡ true → (a || b) ≡ true
or_first true b e = refl
or_first false b e = cc

or_second : (a b : Bool) → b ≡ true → (a || b) ≡ true
or_second true b e = refl
or_second false b e = e

or_which : (a b : Bool) → (a || b) ≡ true → (a ≡ true) ⊎ (b ≡ true)
or_which true b e = inl refl
or_which false b e = inr e

from-makes : (r : Run) (cs : List Change) (dir : List ℕ) → (list_any (makes dir) cs ≡ true) ⊎ IsSome (r.now.folders dir) → IsSome
    ((fold next r cs).now.folders dir)
from-makes r [] dir (inl e) = cc
from-makes r [] dir (inr h) = h
from-makes r (c ∷ cs) dir (inl e) = from-makes (next r c) cs dir
    (⊎_elim (λ here. inr (one-makes r.now c dir (inl here))) (λ later. inl later) (or_which (makes dir c) (list_any (makes dir) cs) e))
from-makes r (c ∷ cs) dir (inr h) = from-makes (next r c) cs dir (inr (one-makes r.now c dir (inr h)))

to-makes : (r : Run) (cs : List Change) (dir : List ℕ) → IsSome ((fold next r cs).now.folders dir) → (list_any (makes dir) cs ≡ true) ⊎ IsSome
    (r.now.folders dir)
to-makes r [] dir h = inr h
to-makes r (c ∷ cs) dir h = ⊎_elim
    (λ later. inl (or_second (makes dir c) (list_any (makes dir) cs) later))
    (λ now. ⊎_elim (λ here. inl (or_first (makes dir c) (list_any (makes dir) cs) here)) (λ was. inr was) (one-made r.now c dir now))
    (to-makes (next r c) cs dir h)

none_blank : {P : Type 0} → IsSome {T = Bool} None → P
none_blank h = cc

-- a folder is there where it was made
pub there-makes : (cs : List Change) (dir : List ℕ) → (list_any (makes dir) cs ≡ true) ↔ IsSome ((run cs).now.folders dir)
there-makes cs dir = (
  λ e. from-makes (record { now = blank; past = [] }) cs dir (inl e),
  λ h. ⊎_elim (λ e. e) none_blank (to-makes (record { now = blank; past = [] }) cs dir h),
)

-- one that a change makes in a folder
made-in : (c : Change) (dir : List ℕ) → makes_in dir c ≡ true → (d : List ℕ) × ¬ (d ≡ []) × (above d ≡ dir) × (makes d c ≡ true)
made-in (Made d) dir e =
    let both = and_on (not (bytes_eq d [])) (bytes_eq (above d) dir) e in
    (d, λ none. not_both (bytes_eq d []) both.0 ((bytes_eq-Decides d []).1 none), (bytes_eq-Decides (above d) dir).0 both.1, (bytes_eq-Decides d d).1 refl)
  where
    not_both : (b : Bool) → not b ≡ true → b ≡ true → ⊥
    not_both true n y = cc
    not_both false n y = cc
made-in (Created d f bytes) dir e = cc
made-in (FileSynced d f) dir e = cc
made-in (FolderSynced d) dir e = cc
made-in (Moved fd ff d f) dir e = cc
made-in (Removed d f) dir e = cc

makes-in : (c : Change) (d dir : List ℕ) → ¬ (d ≡ []) → above d ≡ dir → makes d c ≡ true → makes_in dir c ≡ true
makes-in (Made e) d dir ne in_it is =
    let same : e ≡ d = (bytes_eq-Decides e d).0 is in
    subst (λ (x : List ℕ). (not (bytes_eq x []) && bytes_eq (above x) dir) ≡ true) (sym same)
    (and_both (not (bytes_eq d [])) (bytes_eq (above d) dir) (ap not (differs d [] (λ none. ne (sym none)))) ((bytes_eq-Decides (above d) dir).1 in_it))
makes-in (Created e f bytes) d dir ne in_it is = cc
makes-in (FileSynced e f) d dir ne in_it is = cc
makes-in (FolderSynced e) d dir ne in_it is = cc
makes-in (Moved fd ff e f) d dir ne in_it is = cc
makes-in (Removed e f) d dir ne in_it is = cc

any-made_in : (cs : List Change) (dir : List ℕ) → list_any (makes_in dir) cs ≡ true → (d : List ℕ) × ¬ (d ≡ []) × (above d ≡ dir) ×
    (list_any (makes d) cs ≡ true)
any-made_in [] dir e = cc
any-made_in (c ∷ cs) dir e = ⊎_elim
    (λ here. let m = made-in c dir here in (m.0, m.1, m.2, or_first (makes m.0 c) (list_any (makes m.0) cs) m.3))
    (λ later. let m = any-made_in cs dir later in (m.0, m.1, m.2, or_second (makes m.0 c) (list_any (makes m.0) cs) m.3))
    (or_which (makes_in dir c) (list_any (makes_in dir) cs) e)

any-makes_in : (cs : List Change) (d dir : List ℕ) → ¬ (d ≡ []) → above d ≡ dir → list_any (makes d) cs ≡ true → list_any (makes_in dir) cs ≡ true
any-makes_in [] d dir ne in_it e = cc
any-makes_in (c ∷ cs) d dir ne in_it e = ⊎_elim
    (λ here. or_first (makes_in dir c) (list_any (makes_in dir) cs) (makes-in c d dir ne in_it here))
    (λ later. or_second (makes_in dir c) (list_any (makes_in dir) cs) (any-makes_in cs d dir ne in_it later))
    (or_which (makes d c) (list_any (makes d) cs) e)

pub has_folder-makes_in : (cs : List Change) (dir : List ℕ) → (list_any (makes_in dir) cs ≡ true) ↔ HasFolder (run cs).now dir
has_folder-makes_in cs dir = (
  λ e. let m = any-made_in cs dir e in (m.0, m.1, m.2, (there-makes cs m.0).0 m.3),
  λ h. any-makes_in cs h.0 dir h.1 h.2 ((there-makes cs h.0).1 h.3),
)

-- the last names of the folders that were made in one
named-some : (c : Change) (dir n name : List ℕ) → name_in dir c ≡ Some n → names_in dir name c ≡ bytes_eq n name
named-some (Made d) dir n name e = go (makes_in dir (Made d)) e
  where
    go : (b : Bool) → (if b then Some (last_name d) else None) ≡ Some n → (b && bytes_eq (last_name d) name) ≡ bytes_eq n name
    go true is = ap (λ (o : Option (List ℕ)). bytes_eq (unwrap_or o []) name) is
    go false is = cc
named-some (Created d f bytes) dir n name e = cc
named-some (FileSynced d f) dir n name e = cc
named-some (FolderSynced d) dir n name e = cc
named-some (Moved fd ff d f) dir n name e = cc
named-some (Removed d f) dir n name e = cc

named-none : (c : Change) (dir name : List ℕ) → name_in dir c ≡ None → names_in dir name c ≡ false
named-none (Made d) dir name e = go (makes_in dir (Made d)) e
  where
    go : (b : Bool) → (if b then Some (last_name d) else None) ≡ None → (b && bytes_eq (last_name d) name) ≡ false
    go true is = cc
    go false is = refl
named-none (Created d f bytes) dir name e = refl
named-none (FileSynced d f) dir name e = refl
named-none (FolderSynced d) dir name e = refl
named-none (Moved fd ff d f) dir name e = refl
named-none (Removed d f) dir name e = refl

pub unnamed : (names : Folders) (c : Change) (dir : List ℕ) → name_in dir c ≡ None
    → (name : List ℕ) → IsSome (contents names [] name) ↔ (IsSome (contents names [] name) ⊎ (names_in dir name c ≡ true))
unnamed names c dir none name = (λ h. inl h, λ either. ⊎_elim (λ h. h) (λ e. contrary (named-none c dir name none) e) either)
  where
    contrary : {P : Type 0} → names_in dir name c ≡ false → names_in dir name c ≡ true → P
    contrary off on = cc

pub named : (old new : Folders) (c : Change) (dir n : List ℕ) → name_in dir c ≡ Some n → Sets (contents old) (contents new) [] n (Some [])
    → (name : List ℕ) → IsSome (contents new [] name) ↔ (IsSome (contents old [] name) ⊎ (names_in dir name c ≡ true))
named old new c dir n some sets name = ⊎_elim
    (λ on.
    let same : n ≡ name = (bytes_eq-Decides n name).0 on in (
      λ h. inr (named-some c dir n name some ∙ on),
      λ either. subst (λ (x : List ℕ). IsSome (contents new [] x)) same
          (subst (λ (o : Option (List ℕ)). IsSome o) (sym sets.there) refl),
    ))
    (λ off.
    let other : contents new [] name ≡ contents old [] name = sets.elsewhere [] name (λ both. cc (off, (bytes_eq-Decides n name).1 (sym both.1))) in (
      λ h. inl (subst (λ (o : Option (List ℕ)). IsSome o) other h),
      λ either. ⊎_elim (λ h. subst (λ (o : Option (List ℕ)). IsSome o) (sym other) h) (λ e. contrary off (sym (named-some c dir n name some) ∙ e)) either,
    ))
    (cases_Bool (bytes_eq n name))
  where
    contrary : {P : Type 0} → bytes_eq n name ≡ false → bytes_eq n name ≡ true → P
    contrary off on = cc

-- one name more
pub named-more : (p : Change → Bool) (xs : List Change) (i : ℕ) (d : Change) (Old New : Type 0) → i < length xs → Old ↔ (list_any p (take i xs) ≡ true)
    → New ↔ (Old ⊎ (p (get_or xs i d) ≡ true)) → New ↔ (list_any p (take (i + 1) xs) ≡ true)
named-more p xs i d Old New lt old new =
    let more : list_any p (take (i + 1) xs) ≡ (list_any p (take i xs) || p (get_or xs i d)) = list_any_more p xs i d lt in (
      λ h. more ∙ ⊎_elim (λ was. or_first (list_any p (take i xs)) (p (get_or xs i d)) (old.0 was))
          (λ now. or_second (list_any p (take i xs)) (p (get_or xs i d)) now) (new.0 h),
      λ e. new.1 (⊎_elim (λ was. inl (old.1 was)) (λ now. inr now) (or_which (list_any p (take i xs)) (p (get_or xs i d)) (sym more ∙ e))),
    )

made-named : (c : Change) (dir name : List ℕ) → names_in dir name c ≡ true → (d : List ℕ) × ¬ (d ≡ []) × (above d ≡ dir) × (last_name d ≡ name) ×
    (makes d c ≡ true)
made-named (Made d) dir name e =
    let both = and_on (makes_in dir (Made d)) (bytes_eq (last_name d) name) e in
    let m = made-in (Made d) dir both.0 in
    let same : d ≡ m.0 = (bytes_eq-Decides d m.0).0 m.3 in
    (m.0, m.1, m.2, ap last_name (sym same) ∙ (bytes_eq-Decides (last_name d) name).0 both.1, m.3)
made-named (Created d f bytes) dir name e = cc
made-named (FileSynced d f) dir name e = cc
made-named (FolderSynced d) dir name e = cc
made-named (Moved fd ff d f) dir name e = cc
made-named (Removed d f) dir name e = cc

named-made : (c : Change) (d dir name : List ℕ) → ¬ (d ≡ []) → above d ≡ dir → last_name d ≡ name → makes d c ≡ true → names_in dir name c ≡ true
named-made (Made e) d dir name ne in_it last is =
    let same : e ≡ d = (bytes_eq-Decides e d).0 is in
    and_both (makes_in dir (Made e)) (bytes_eq (last_name e) name) (makes-in (Made e) d dir ne in_it is)
    ((bytes_eq-Decides (last_name e) name).1 (ap last_name same ∙ last))
named-made (Created e f bytes) d dir name ne in_it last is = cc
named-made (FileSynced e f) d dir name ne in_it last is = cc
named-made (FolderSynced e) d dir name ne in_it last is = cc
named-made (Moved fd ff e f) d dir name ne in_it last is = cc
named-made (Removed e f) d dir name ne in_it last is = cc

any-made-named : (cs : List Change) (dir name : List ℕ) → list_any (names_in dir name) cs ≡ true
    → (d : List ℕ) × ¬ (d ≡ []) × (above d ≡ dir) × (last_name d ≡ name) × (list_any (makes d) cs ≡ true)
any-made-named [] dir name e = cc
any-made-named (c ∷ cs) dir name e = ⊎_elim
    (λ here. let m = made-named c dir name here in (m.0, m.1, m.2, m.3, or_first (makes m.0 c) (list_any (makes m.0) cs) m.4))
    (λ later. let m = any-made-named cs dir name later in (m.0, m.1, m.2, m.3, or_second (makes m.0 c) (list_any (makes m.0) cs) m.4))
    (or_which (names_in dir name c) (list_any (names_in dir name) cs) e)

any-named-made : (cs : List Change) (d dir name : List ℕ) → ¬ (d ≡ []) → above d ≡ dir → last_name d ≡ name → list_any (makes d) cs ≡ true → list_any
    (names_in dir name) cs ≡ true
any-named-made [] d dir name ne in_it last e = cc
any-named-made (c ∷ cs) d dir name ne in_it last e = ⊎_elim
    (λ here. or_first (names_in dir name c) (list_any (names_in dir name) cs) (named-made c d dir name ne in_it last here))
    (λ later. or_second (names_in dir name c) (list_any (names_in dir name) cs) (any-named-made cs d dir name ne in_it last later))
    (or_which (makes d c) (list_any (makes d) cs) e)

pub subfolder-names_in : (cs : List Change) (dir name : List ℕ) → (list_any (names_in dir name) cs ≡ true) ↔ IsSubfolder (run cs).now dir name
subfolder-names_in cs dir name = (
  λ e. let m = any-made-named cs dir name e in record { path = m.0; below = m.1; in_it = m.2; named = m.3; there = (there-makes cs m.0).0 m.4 },
  λ h. any-named-made cs h.path dir name h.below h.in_it h.named ((there-makes cs h.path).1 h.there),
)

pub lists-subfolders : (names : Folders) (cs : List Change) (dir : List ℕ) (listed : List (List ℕ))
    → ((name : List ℕ) → IsSome (contents names [] name) ↔ (list_any (names_in dir name) cs ≡ true)) → ListsAll listed (λ name. IsSome (contents names [] name))
    → ListsAll listed (IsSubfolder (run cs).now dir)
lists-subfolders names cs dir listed is lists = record {
  ascending = lists.ascending;
  exact = λ name. (
    λ has. (subfolder-names_in cs dir name).0 ((is name).0 ((lists.exact name).0 has)),
    λ below. (lists.exact name).1 ((is name).1 ((subfolder-names_in cs dir name).1 below)),
  );
}
