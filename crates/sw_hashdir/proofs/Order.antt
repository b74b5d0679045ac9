-- The test of order, and each hash's directory: what the test says.
use Rattle.std.proofs.Common.{◌≡◌, ℕ, ◌≤◌, ◌-◌, decimal, refl, ◌∙◌, ap, subst, zero, suc, Bool, true}
use Rattle.std.proofs.Common.{nat_le, List, [], ◌∷◌, ◌++◌, map, take, drop, length, length-append, Option, None, Some, arith, codes}
use Rattle.std.proofs.lemmas.Bool.{and_parts, and_from, cond-true, leb-true}
use Rattle.std.proofs.lemmas.List.{drop_at}
use Rattle.std.proofs.lemmas.Map.Views.{Contains-keys_from_lookup}
use Rattle.std.proofs.lemmas.Slice.Eq.{bytes_eq-Decides}
use Rattle.std.specs.List.{Contains, list_all}
use Rattle.std.specs.Option.{unwrap_or}
use Rattle.std.specs.Str.{bytes_eq}
use Rattle.hex.specs.Hex.{encode_lower}
use Rattle.sw_cleanup.specs.Directories.{IsInOrder, ReadsAs}
use Rattle.sw_diskfile.specs.StateFiles.{name_of}
use Rattle.sw_diskfile.specs.FileNames.{name_text, named}
use Rattle.sw_diskfile.proofs.Naming.{named_again}
use Rattle.sw_diskfile.specs.declared.file_name.FileName.{FileName}
use Rattle.sw_diskfile.proofs.Names.{names_differ}
use Rattle.sw_hashpath.specs.HashParts.{IsDigest, partition_of}
use Rattle.sw_hashpath.specs.declared.secrets.Secrets.{Secrets}
use Rattle.sw_metafile.proofs.HeadLines.{digest_again}
use Rattle.sw_metafile.specs.Reading.{digest_of}
use Rattle.sw_state.specs.declared.write.Write.{Write}
use Rattle.sw_timestamp.specs.declared.timestamp.TheConstants.{GREATEST}
use Rattle.sw_volume.specs.Tree.{Files, Folders, at, contents}
use Rattle.sw_object_steps.specs.Journals.{Hash}
use Rattle.sw_hashdir.specs.Places.{AllInOrder, dir_text, file_names, hash_in, in_order, is_dir_right, is_place, is_read_as, is_right, is_right_at, is_that}
use Rattle.sw_hashdir.specs.Places.{placed_at, write_in}
use Rattle.sw_hashdir.proofs.Standing.{place_is}

-- ---- a test of all passes each
module _ {X : Type 0} (p : X → Bool) where
  pub all-each : (xs : List X) (x : X) → list_all p xs ≡ true → Contains xs x → p x ≡ true
  all-each [] x all is = absurd (let lt = is.1 in omega arith)
  all-each (y ∷ ys) x all (zero, inside, here) = subst (λ (z : X). p z ≡ true) here (and_parts (p y) (list_all p ys) all).0
  all-each (y ∷ ys) x all (suc k, inside, here) = all-each ys x (and_parts (p y) (list_all p ys) all).1 (k, omega arith, here)

  pub each-all : (xs : List X) → ((x : X) → Contains xs x → p x ≡ true) → list_all p xs ≡ true
  each-all [] each = refl
  each-all (y ∷ ys) each = and_from _ _ (each y (zero, omega arith, refl)) (each-all ys (λ x is. each x (suc is.0, (let lt = is.1 in omega arith), is.2)))

-- ---- directories

name-there : (o : Option Files) (name bytes : List ℕ) → at (unwrap_or o []) name ≡ Some bytes
    → Contains (map (λ (e : List ℕ × List ℕ). e.0) (unwrap_or o [])) name
name-there o name bytes e = Contains-keys_from_lookup (λ x y same. (bytes_eq-Decides x y).0 same) name (unwrap_or o []) (rw e refl)

dir-there : (folders : Folders) (dir name bytes : List ℕ) → contents folders dir name ≡ Some bytes → (files : Files) × (at folders dir ≡ Some files)
dir-there folders dir name bytes e = by (at folders dir) e
  where
    by : (o : Option Files) → at (unwrap_or o []) name ≡ Some bytes → (files : Files) × (o ≡ Some files)
    by None is = cc
    by (Some files) is = (files, refl)

read-as : (decode : List ℕ → Option Write) (file : FileName) (bytes : List ℕ) (o : Option Write) → decode bytes ≡ o → file.time ≤ GREATEST
    → is_read_as decode file o ≡ true → ReadsAs decode bytes file
read-as decode file bytes None e le is = cc
read-as decode file bytes (Some w) e le is =
    let parts = and_parts (bytes_eq (name_text (name_of w)) (name_text file)) (nat_le w.time GREATEST) is in
    record {
      write = w;
      reads = e;
      named = names_differ (name_of w) file (leb-true w.time GREATEST parts.1) le
          ((bytes_eq-Decides (name_text (name_of w)) (name_text file)).0 parts.0);
    }

dir-right : (decode : List ℕ → Option Write) (folders : Folders) (dir : List ℕ) → is_dir_right decode folders dir ≡ true
    → IsInOrder decode (contents folders) dir
dir-right decode folders dir all = λ file bytes le e.
    let right : is_right decode (named (name_text file)) (contents folders dir (name_text file)) ≡ true =
    all-each (λ name. is_right decode (named name) (contents folders dir name)) (file_names decode folders dir) (name_text file) all
    (name-there (at folders dir) (name_text file) bytes e) in
    let so : is_right decode (Some file) (Some bytes) ≡ true =
    subst (λ (o : Option (List ℕ)). is_right decode (Some file) o ≡ true) e
    (subst (λ (o : Option FileName). is_right decode o (contents folders dir (name_text file)) ≡ true) (named_again file le) right) in
    read-as decode file bytes (decode bytes) refl le so

-- what the test says
pub told-order : (secrets : Secrets) (power : ℕ) (folders : Folders) → in_order secrets power folders ≡ true → AllInOrder secrets power folders
unfolding in_order
told-order secrets power folders all hash is = λ file bytes le e.
    let found = dir-there folders (dir_text power hash) (name_text file) bytes e in
    let there : Contains (map (λ (x : List ℕ × Files). x.0) folders) (dir_text power hash) =
    Contains-keys_from_lookup (λ x y same. (bytes_eq-Decides x y).0 same) (dir_text power hash) folders (rw found.1 refl) in
    let right : is_right_at secrets folders (dir_text power hash) (hash_in power (dir_text power hash))
    ≡ true = keys-each folders all (dir_text power hash) there in
    dir-right (write_in secrets hash) folders (dir_text power hash)
    (subst (λ (o : Option Hash). is_right_at secrets folders (dir_text power hash) o ≡ true) (place_is power hash is) right) file bytes le e
  where
    keys-each : (rest : Folders) → list_all (λ (x : List ℕ × Files). is_right_at secrets folders x.0 (hash_in power x.0)) rest ≡ true
        → (dir : List ℕ) → Contains (map (λ (x : List ℕ × Files). x.0) rest) dir → is_right_at secrets folders dir (hash_in power dir) ≡ true
    keys-each [] all dir there = absurd (let lt = there.1 in omega arith)
    keys-each (x ∷ xs) all dir (zero, inside, here) = subst (λ (d : List ℕ). is_right_at secrets folders d (hash_in power d) ≡ true) here
        (and_parts (is_right_at secrets folders x.0 (hash_in power x.0)) _ all).0
    keys-each (x ∷ xs) all dir (suc k, inside, here) = keys-each xs (and_parts (is_right_at secrets folders x.0 (hash_in power x.0)) _ all).1 dir
        (k, omega arith, here)

-- ---- each MD5 has a directory

pub digest-place : (power : ℕ) (hash : Hash) → IsDigest hash → length (encode_lower hash) ≡ 32 → is_place power hash ≡ true
unfolding is_place
digest-place power hash is len =
    let dir : List ℕ = dir_text power hash in
    let front : List ℕ = codes "objects/" ++ decimal (partition_of hash power) ++ 47 ∷ take 3 (drop 29 (encode_lower hash)) ++ 47 ∷ [] in
    let back : drop (length (dir_text power hash) - 32) (dir_text power hash) ≡ encode_lower hash =
    drop_at front (encode_lower hash) (length (dir_text power hash) - 32) (let sum = length-append front (encode_lower hash) in omega (arith, sum, len)) in
    let found : placed_at power (dir_text power hash) (Some hash)
    ≡ Some hash = cond-true (bytes_eq (dir_text power hash) (dir_text power hash)) (Some hash) None
    ((bytes_eq-Decides (dir_text power hash) (dir_text power hash)).1 refl) in
    let whole : hash_in power (dir_text power hash) ≡ Some hash = ap (placed_at power (dir_text power hash)) (ap digest_of back ∙ digest_again hash is)
    ∙ found in
    ap (is_that hash) whole ∙ (bytes_eq-Decides hash hash).1 refl
