-- What is in order passes the test.
use Rattle.std.proofs.Common.{◌≡◌, ◌≤◌, ℕ, ◌-◌, drop, length, true, List, refl, sym, ◌∙◌, ap, subst, Option, Some, None}
use Rattle.std.proofs.lemmas.Bool.{and_from, le-leb}
use Rattle.std.proofs.lemmas.Option.{cond_some}
use Rattle.std.proofs.lemmas.Slice.Eq.{bytes_eq-Decides}
use Rattle.std.specs.Str.{bytes_eq}
use Rattle.sw_cleanup.specs.Directories.{IsInOrder}
use Rattle.sw_diskfile.specs.StateFiles.{name_of}
use Rattle.sw_diskfile.proofs.Naming.{named_takes}
use Rattle.sw_diskfile.specs.FileNames.{name_text, named}
use Rattle.sw_diskfile.specs.declared.file_name.FileName.{FileName}
use Rattle.sw_hashpath.specs.declared.secrets.Secrets.{Secrets}
use Rattle.sw_metafile.specs.Reading.{digest_of}
use Rattle.sw_state.specs.declared.write.Write.{Write}
use Rattle.sw_timestamp.specs.declared.timestamp.TheConstants.{GREATEST}
use Rattle.sw_volume.specs.Tree.{Files, Folders, contents}
use Rattle.sw_object_steps.specs.Journals.{Hash}
use Rattle.sw_hashdir.specs.Places.{AllInOrder, dir_text, file_names, hash_in, in_order, is_place, is_read_as, is_right, is_right_at, is_that}
use Rattle.sw_hashdir.specs.Places.{placed_at, write_in}
use Rattle.sw_hashdir.proofs.Order.{each-all}

placed-is : (power : ℕ) (dir : List ℕ) (o : Option Hash) (h : Hash) → placed_at power dir o ≡ Some h → (dir ≡ dir_text power h)
placed-is power dir None h e = cc
placed-is power dir (Some g) h e =
    let found = cond_some (bytes_eq (dir_text power g) dir) g h e in
    sym ((bytes_eq-Decides (dir_text power g) dir).0 found.0) ∙ ap (dir_text power) found.1

right-file : (decode : List ℕ → Option Write) (folders : Folders) (dir name : List ℕ) → IsInOrder decode (contents folders) dir → (o : Option FileName)
    → named name ≡ o → (b : Option (List ℕ)) → contents folders dir name ≡ b → is_right decode o b ≡ true
right-file decode folders dir name order None e b s = refl
right-file decode folders dir name order (Some f) e None s = refl
right-file decode folders dir name order (Some f) e (Some bytes) s =
    let is = named_takes name f e in
    let r = order f bytes is.0 (ap (contents folders dir) (sym is.1) ∙ s) in
    ap (is_read_as decode f) r.reads
    ∙ and_from _ _ ((bytes_eq-Decides (name_text (name_of r.write)) (name_text f)).1 (ap name_text r.named))
    (le-leb r.write.time GREATEST (subst (λ (g : FileName). g.time ≤ GREATEST) (sym r.named) is.0))

right-dir : (secrets : Secrets) (power : ℕ) (folders : Folders) (dir : List ℕ) → AllInOrder secrets power folders → (o : Option Hash) → hash_in power dir ≡ o
    → is_right_at secrets folders dir o ≡ true
unfolding is_place
right-dir secrets power folders dir all None e = refl
right-dir secrets power folders dir all (Some hash) e =
    each-all (λ name. is_right (write_in secrets hash) (named name) (contents folders dir name)) (file_names (write_in secrets hash) folders dir)
    (λ name there. right-file (write_in secrets hash) folders dir name order (named name) refl (contents folders dir name) refl)
  where
    at : dir ≡ dir_text power hash
    at = placed-is power dir (digest_of (drop (length dir - 32) dir)) hash e

    place : is_place power hash ≡ true
    place = ap (is_that hash) (ap (hash_in power) (sym at) ∙ e) ∙ (bytes_eq-Decides hash hash).1 refl

    order : IsInOrder (write_in secrets hash) (contents folders) dir
    order = subst (λ (d : List ℕ). IsInOrder (write_in secrets hash) (contents folders) d) (sym at) (all hash place)

pub order-told : (secrets : Secrets) (power : ℕ) (folders : Folders) → AllInOrder secrets power folders → in_order secrets power folders ≡ true
unfolding in_order
order-told secrets power folders all =
    each-all (λ (e : List ℕ × Files). is_right_at secrets folders e.0 (hash_in power e.0)) folders
    (λ e there. right-dir secrets power folders e.0 all (hash_in power e.0) refl)
