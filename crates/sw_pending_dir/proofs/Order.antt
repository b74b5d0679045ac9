-- The test of order, and what is said of each key.
use Rattle.std.proofs.Common.{◌≡◌, ℕ, refl, sym, ◌∙◌, ap, subst, inl, inr, zero, suc, Bool, true, is_some, List, [], ◌∷◌, map, Option, None, Some, arith}
use Rattle.std.proofs.lemmas.Bool.{and_from, and_parts}
use Rattle.std.proofs.lemmas.Map.Views.{Contains-keys_from_lookup}
use Rattle.std.proofs.lemmas.Slice.Eq.{bytes_eq-Decides}
use Rattle.std.specs.List.{Contains, list_all}
use Rattle.std.specs.Option.{unwrap_or}
use Rattle.sw_hashpath.specs.declared.secrets.Secrets.{Secrets}
use Rattle.sw_pending.specs.Names.{folder_text, name_text}
use Rattle.sw_pending.specs.declared.filed.Filed.{Filed}
use Rattle.sw_pending.specs.declared.key.RecordKey.{RecordKey}
use Rattle.sw_volume.specs.Tree.{Files, Folders, at, contents}
use Rattle.sw_pending_dir.specs.Laws.{OrderIsTold}
use Rattle.sw_pending_dir.specs.Places.{AllRecordsInOrder, file_names, is_folder_right, is_right, key_at, record_in, records_in_order}
use Rattle.sw_pending_dir.proofs.FolderReading.{key-at-is, key-at-own}
use Rattle.sw_pending_dir.proofs.Lists.{front_or_behind, none_of}
use Rattle.sw_pending_dir.proofs.Standing.{in-record, record-in}

-- ---- a test that all pass

module _ {X : Type 0} (p : X → Bool) where
  all-each : (xs : List X) (x : X) → list_all p xs ≡ true → Contains xs x → p x ≡ true
  all-each [] x all is = absurd (none_of x is)
  all-each (y ∷ ys) x all is = elim (front_or_behind y ys x is) [
    | inl here ↦ subst (λ (z : X). p z ≡ true) here (and_parts (p y) (list_all p ys) all).0
    | inr later ↦ all-each ys x (and_parts (p y) (list_all p ys) all).1 later
  ]

  each-all : (xs : List X) → ((x : X) → Contains xs x → p x ≡ true) → list_all p xs ≡ true
  each-all [] each = refl
  each-all (y ∷ ys) each = and_from _ _ (each y (zero, omega arith, refl)) (each-all ys (λ x is. each x (suc is.0, (let lt = is.1 in omega arith), is.2)))

-- ---- what stands is among what there is

name-there : (o : Option Files) (name bytes : List ℕ) → at (unwrap_or o []) name ≡ Some bytes
    → Contains (map (λ (e : List ℕ × List ℕ). e.0) (unwrap_or o [])) name
name-there o name bytes e = Contains-keys_from_lookup (λ x y same. (bytes_eq-Decides x y).0 same) name (unwrap_or o []) (rw e refl)

dir-there : (folders : Folders) (dir name bytes : List ℕ) → contents folders dir name ≡ Some bytes → (files : Files) × (at folders dir ≡ Some files)
dir-there folders dir name bytes e = by (at folders dir) e
  where
    by : (o : Option Files) → at (unwrap_or o []) name ≡ Some bytes → (files : Files) × (o ≡ Some files)
    by None is = cc
    by (Some files) is = (files, refl)

module _ (secrets : Secrets) (folders : Folders) where
  dirs-each : (rest : Folders) → list_all (λ (e : List ℕ × Files). is_folder_right secrets folders e.0) rest ≡ true
      → (dir : List ℕ) → Contains (map (λ (e : List ℕ × Files). e.0) rest) dir → is_folder_right secrets folders dir ≡ true
  dirs-each [] all dir there = absurd (none_of dir there)
  dirs-each (e ∷ rest) all dir there = elim (front_or_behind e.0 (map (λ (x : List ℕ × Files). x.0) rest) dir there) [
    | inl here ↦ subst (λ (d : List ℕ). is_folder_right secrets folders d ≡ true) here (and_parts (is_folder_right secrets folders e.0) _ all).0
    | inr later ↦ dirs-each rest (and_parts (is_folder_right secrets folders e.0) _ all).1 dir later
  ]

  some-record : (o : Option Filed) → is_some o ≡ true → (filed : Filed) × (o ≡ Some filed)
  some-record None e = cc
  some-record (Some filed) e = (filed, refl)

  -- what the test says
  told-order : records_in_order secrets folders ≡ true → AllRecordsInOrder secrets folders
  unfolding records_in_order
  told-order all key bytes is there =
      let dir : List ℕ = folder_text key.hash in
      let name : List ℕ = name_text key in
      let found = dir-there folders dir name bytes there in
      let inside : Contains (map (λ (e : List ℕ × Files). e.0) folders) dir =
      Contains-keys_from_lookup (λ x y same. (bytes_eq-Decides x y).0 same) dir folders (rw found.1 refl) in
      let right : is_right secrets (key_at dir name) (contents folders dir name) ≡ true =
      all-each (λ n. is_right secrets (key_at dir n) (contents folders dir n)) (file_names folders dir) name (dirs-each folders all dir inside)
      (name-there (at folders dir) name bytes there) in
      let so : is_right secrets (Some key) (Some bytes) ≡ true =
      subst (λ (o : Option (List ℕ)). is_right secrets (Some key) o ≡ true) there
      (subst (λ (o : Option RecordKey). is_right secrets o (contents folders dir name) ≡ true) (key-at-own dir key is refl) right) in
      let record_ = some-record (record_in secrets key bytes) so in
      (record_.0, record-in secrets key bytes record_.0 record_.1)

  -- and what passes it
  right-file : AllRecordsInOrder secrets folders → (dir name : List ℕ) → is_right secrets (key_at dir name) (contents folders dir name) ≡ true
  right-file order dir name = by (key_at dir name) refl (contents folders dir name) refl
    where
      by : (o : Option RecordKey) → key_at dir name ≡ o → (b : Option (List ℕ)) → contents folders dir name ≡ b → is_right secrets o b ≡ true
      by None e b there = refl
      by (Some key) e None there = refl
      by (Some key) e (Some bytes) there =
          let at = key-at-is dir name key e in
          let here : contents folders (folder_text key.hash) (name_text key) ≡ Some bytes =
          ap (λ (d : List ℕ). contents folders d (name_text key)) at.2 ∙ ap (contents folders dir) (sym at.1) ∙ there in
          let right = order key bytes at.0 here in
          ap is_some (in-record secrets key bytes right.0 right.1)

  order-told : AllRecordsInOrder secrets folders → records_in_order secrets folders ≡ true
  unfolding records_in_order
  order-told order =
      each-all (λ (e : List ℕ × Files). is_folder_right secrets folders e.0) folders
      (λ e there. each-all (λ n. is_right secrets (key_at e.0 n) (contents folders e.0 n)) (file_names folders e.0) (λ n is. right-file order e.0 n))

pub order_is_told : OrderIsTold
order_is_told secrets folders = (told-order secrets folders, order-told secrets folders)
