-- A directory that begins, and one that is given back.
use Rattle.std.proofs.Common.{◌≡◌, ℕ, ◌≤◌, Bool, true, ◌&&◌, [], refl, ◌∙◌, subst, arith}
use Rattle.std.proofs.lemmas.Bool.{and_parts, and_from}
use Rattle.std.proofs.lemmas.List.Elements.{All-nil}
use Rattle.sw_hashdir.proofs.Order.{told-order}
use Rattle.sw_hashdir.proofs.Telling.{order-told}
use Rattle.sw_hashdir.specs.Places.{in_order}
use Rattle.sw_hashpath.specs.declared.secrets.Secrets.{Secrets}
use Rattle.sw_objdir.proofs.Looking.{values-told}
use Rattle.sw_objdir.specs.Directories.{IsDir, IsPlain, Kept, are_in_order, is_told, started, steps_of, value_at}
use Rattle.sw_object_steps.specs.Rules.{obj_rules}
use Rattle.sw_object_steps.specs.Values.{ObjValue}
use Rattle.sw_object_steps.specs.Journals.{Hash}
use Rattle.sw_pending_dir.proofs.Order.{order_is_told}
use Rattle.sw_pending_dir.specs.Places.{records_in_order}
use Rattle.sw_step.specs.Rules.{CanStand}
use Rattle.sw_volume.specs.Tree.{Folders}

module _ {V : Type 0} (tells : V → Bool) (files : V → Folders) (faults : V → ℕ) where
  orders : (secrets : Secrets) (power : ℕ) (v : V) → (tells v && are_in_order secrets power (files v)) ≡ true
      → (in_order secrets power (files v) ≡ true) × (records_in_order secrets (files v) ≡ true)
  orders secrets power v told = and_parts (in_order secrets power (files v)) (records_in_order secrets (files v))
      (and_parts (tells v) (are_in_order secrets power (files v)) told).1

  -- a directory that begins
  pub begins : (v : V) (secrets : Secrets) (power max_entries max_bytes : ℕ) → 1 ≤ power → power ≤ 32
      → IsDir tells files faults (started v secrets power max_entries max_bytes)
  begins v secrets power max_entries max_bytes least greatest = record {
    same = refl;
    order = λ told. told-order secrets power (files v) (orders secrets power v told).0;
    records_order = λ told. (order_is_told secrets (files v)).0 (orders secrets power v told).1;
    kept = record {
      can = λ told hash. ([], refl, values-told tells files faults (started v secrets power max_entries max_bytes) hash told);
      single = λ hash. omega arith;
      single_record = λ key. omega arith;
      plain = All-nil IsPlain;
    };
    least = least;
    greatest = greatest;
  }

  -- a directory that is opened again
  module _ (k : Kept V) (dir : IsDir tells files faults k) (told : is_told tells files faults k ≡ true) where
    pub reopens : (tells k.volume && are_in_order k.secrets k.power (files k.volume)) ≡ true
    reopens = and_from _ _ (dir.same ∙ (and_parts (tells k.began) (are_in_order k.secrets k.power (files k.began)) told).0)
        (and_from _ _ (order-told k.secrets k.power (files k.volume) (dir.order told))
        ((order_is_told k.secrets (files k.volume)).1 (dir.records_order told)))

    pub given-back : (hash : Hash) → CanStand obj_rules (steps_of tells files faults k) hash (value_at k.secrets k.power (files k.volume) hash)
    given-back hash = subst (λ (s : ObjValue). CanStand obj_rules (steps_of tells files faults k) hash s)
        (values-told tells files faults k hash told) (dir.kept.can told hash)
