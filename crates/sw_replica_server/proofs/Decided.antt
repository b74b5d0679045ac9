-- What the tests of a target come to.
use Rattle.std.proofs.Common.{◌≡◌, ℕ, List, Option, Some, None, slice_get, Contains, IfSome, refl, sym, subst, inl, inr}
use Rattle.std.proofs.lemmas.Option.{get_or_from_slice_get, slice_get_within}
use Rattle.sw_object_server.specs.Places.{IsDevice, IsPartition}
use Rattle.sw_ring.specs.declared.ring.Ring.{Ring}
use Rattle.sw_replica_server.specs.Asking.{AsksOf, IsAskedBy}
use Rattle.sw_replica_server.specs.Suffixes.{AreNamed, AreSuffixes, pieces}
use Rattle.sw_replica_server.specs.declared.asked.ReplicaAsked.TheVariants.{Files, Hashes, Refused}
use Rattle.sw_replica_server.specs.declared.target.Target.{Target}

-- what stands at a place is in the list
pub listed : (xs : List (List ℕ)) (n : List ℕ) (i : ℕ) → slice_get xs i ≡ Some n → Contains xs n
listed xs n i at = (i, slice_get_within xs i n at, get_or_from_slice_get xs i n n at)

module _ (ring : Ring) (target : Target) where
  -- the ring has no such device
  pub for-unknown : IsDevice ring target.device None → IsAskedBy ring target (Refused 404)
  unfolding IsAskedBy
  for-unknown none = inr (none, refl)

  module _ (device : ℕ) (known : IsDevice ring target.device (Some device)) where
    -- it has, and no such partition
    pub for-no-partition : IsPartition ring target.partition None → IsAskedBy ring target (Refused 400)
    unfolding IsAskedBy
    for-no-partition none = inl (listed ring.devices target.device device known, inr (λ has. none has.0 has.1.0 has.1.1, refl))

    module _ (part : ℕ) (is_part : IsPartition ring target.partition (Some part)) where
      -- no third segment
      pub for-hashes : target.suffixes ≡ None → IsAskedBy ring target (Hashes device part)
      unfolding IsAskedBy
      for-hashes none =
          inl (
            listed ring.devices target.device device known,
            inl (
              (part, is_part),
              inl (
                subst (λ (third : Option (List ℕ)). IfSome third (λ text. AreSuffixes (pieces text))) (sym none) tt,
                (device, part, known, is_part, subst (λ (third : Option (List ℕ)). AsksOf device part third (Hashes device part)) (sym none) refl),
              ),
            ),
          )

      module _ (text : List ℕ) (third_is : target.suffixes ≡ Some text) where
        -- one that isn't suffixes
        pub for-no-suffixes : ¬ AreSuffixes (pieces text) → IsAskedBy ring target (Refused 400)
        unfolding IsAskedBy
        for-no-suffixes none =
            inl (
              listed ring.devices target.device device known,
              inl (
                (part, is_part),
                inr (λ has. none (subst (λ (third : Option (List ℕ)). IfSome third (λ text. AreSuffixes (pieces text))) third_is has), refl),
              ),
            )

        -- and one that is
        pub for-files : (suffixes : List ℕ) → AreNamed text suffixes → IsAskedBy ring target (Files device part suffixes)
        unfolding IsAskedBy
        for-files suffixes named =
            inl (
              listed ring.devices target.device device known,
              inl (
                (part, is_part),
                inl (
                  subst (λ (third : Option (List ℕ)). IfSome third (λ text. AreSuffixes (pieces text))) (sym third_is) named.each,
                  (
                    device,
                    part,
                    known,
                    is_part,
                    subst (λ (third : Option (List ℕ)). AsksOf device part third (Files device part suffixes)) (sym third_is) (suffixes, named, refl),
                  ),
                ),
              ),
            )
