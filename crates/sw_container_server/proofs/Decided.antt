-- What the tests of a request come to.
use Rattle.std.proofs.Common.{◌≡◌, ℕ, List, [], ◌∷◌, Bool, true, false, Some, None, is_some, slice_get, Contains, refl, sym, ap, ◌∙◌, subst, inl, inr}
use Rattle.std.proofs.Common.{true≢false}
use Rattle.std.specs.Prelude.{IsSome, decimal}
use Rattle.std.specs.Str.{bytes_eq}
use Rattle.std.proofs.lemmas.Option.{get_or_from_slice_get, slice_get_within}
use Rattle.sw_hashpath.specs.declared.place.Place.{Place}
use Rattle.sw_message.specs.declared.request.Request.{Request}
use Rattle.sw_object_server.specs.Places.{IsDevice}
use Rattle.sw_object_server.specs.Tests.{IsDecided}
use Rattle.sw_ring.proofs.Repeats.{one_place}
use Rattle.sw_ring.specs.declared.ring.Ring.{Ring}
use Rattle.sw_container_server.specs.Asking.{AsksFor, IsAskedBy, asked_at}
use Rattle.sw_container_server.specs.Places.{IsKeeper, is_partition_of, name_fault, part_of, place_in}
use Rattle.sw_container_server.specs.Verdicts.{IsVerdict, Yields, verb_tests}
use Rattle.sw_container_server.specs.declared.asked.ContAsked.{ContAsked}
use Rattle.sw_container_server.specs.declared.asked.ContAsked.TheVariants as asks
use Rattle.sw_container_server.specs.declared.target.Target.{Target}
use Rattle.sw_container_server.specs.declared.verb.Verb.{Verb}
use Rattle.sw_container_server.specs.declared.verdict.Verdict.{Verdict}
use Rattle.sw_container_server.specs.declared.verdict.Verdict.TheVariants as verdicts

-- what stands at a place is in the list
listed : (xs : List (List ℕ)) (n : List ℕ) (i : ℕ) → slice_get xs i ≡ Some n → Contains xs n
listed xs n i at = (i, slice_get_within xs i n at, get_or_from_slice_get xs i n n at)

-- the tests of a verb decide on what is asked for as they do on its verdict
module _ (f : Verdict → ContAsked) (keeps : (status : ℕ) → f (verdicts.Refused status) ≡ asks.Refused status)
    (Else : Verdict → Type 0) (Asked : ContAsked → Type 0) (passes : (v : Verdict) → Else v → Asked (f v)) where
  moved : (list : List (ℕ × Type 0)) (v : Verdict) → IsDecided list verdicts.Refused Else v → IsDecided list asks.Refused Asked (f v)
  moved [] v p = passes v p
  moved (test ∷ list) v (inl p) = inl (p.0, moved list v p.1)
  moved (test ∷ list) v (inr p) = inr (p.0, ap f p.1 ∙ keeps test.0)

module _ (ring : Ring) (t : Target) (r : Request) (verb : Verb) where
  -- something is wrong with its names
  pub for-bad-names : IsSome (name_fault verb t) → IsAskedBy ring t r verb (asks.Refused 400)
  unfolding IsAskedBy
  for-bad-names bad = inr (λ good. true≢false (sym bad ∙ ap is_some good), refl)

  module _ (good : name_fault verb t ≡ None) where
    -- the ring has no such device
    pub for-unknown : IsDevice ring t.device None → IsAskedBy ring t r verb (asks.Refused 404)
    unfolding IsAskedBy
    for-unknown none = inl (good, inr (none, refl))

    module _ (device : ℕ) (known : IsDevice ring t.device (Some device)) where
      -- the partition is another one
      pub for-no-partition : is_partition_of ring (place_in ring t) t.partition ≡ false → IsAskedBy ring t r verb (asks.Refused 400)
      unfolding IsAskedBy
      for-no-partition other = inl (good, inl (listed ring.devices t.device device known, inr (λ here. true≢false (sym here ∙ other), refl)))

      module _ (here : is_partition_of ring (place_in ring t) t.partition ≡ true) where
        -- the device keeps other ones
        pub for-no-keeper : ¬ (IsKeeper ring (part_of ring (place_in ring t)) device) → IsAskedBy ring t r verb (asks.Refused 404)
        unfolding IsAskedBy
        for-no-keeper none =
            inl (
              good,
              inl (
                listed ring.devices t.device device known,
                inl (
                  here,
                  inr (
                    λ at. none (subst (λ (d : ℕ). IsKeeper ring (part_of ring (place_in ring t)) d)
                        (one_place t.device ring.devices at.0 device ring.distinct_names at.1 known) at.2),
                    refl,
                  ),
                ),
              ),
            )

        -- and its own verb decides
        pub for-verdict : IsKeeper ring (part_of ring (place_in ring t)) device → (verdict : Verdict) → IsVerdict ring t.object r verb verdict
            → IsAskedBy ring t r verb (asked_at device (place_in ring t) verdict)
        unfolding IsAskedBy
        for-verdict keeper verdict is =
            inl (
              good,
              inl (
                listed ring.devices t.device device known,
                inl (
                  here,
                  inl (
                    (device, known, keeper),
                    moved (asked_at device (place_in ring t)) (λ status. refl) (Yields ring t.object r verb) (AsksFor ring t r verb)
                        (λ v yields. (device, v, known, yields, refl)) (verb_tests ring r verb) verdict is,
                  ),
                ),
              ),
            )

      -- ---- the same of a place and its partition

      module _ (place : Place) (place_is : place ≡ place_in ring t) (part : ℕ) (part_is : part ≡ part_of ring place) where
        at-partition : (b : Bool) → bytes_eq t.partition (decimal part) ≡ b → is_partition_of ring (place_in ring t) t.partition ≡ b
        at-partition b is =
            subst (λ (p : Place). is_partition_of ring p t.partition ≡ b) place_is (subst (λ (n : ℕ). bytes_eq t.partition (decimal n) ≡ b) part_is is)

        pub for-other-partition : bytes_eq t.partition (decimal part) ≡ false → IsAskedBy ring t r verb (asks.Refused 400)
        for-other-partition other = for-no-partition (at-partition false other)

        module _ (here : bytes_eq t.partition (decimal part) ≡ true) where
          pub for-other-device : ¬ (IsKeeper ring part device) → IsAskedBy ring t r verb (asks.Refused 404)
          for-other-device none =
              for-no-keeper (at-partition true here)
              (subst (λ (p : Place). ¬ (IsKeeper ring (part_of ring p) device)) place_is (subst (λ (n : ℕ). ¬ (IsKeeper ring n device)) part_is none))

          pub for-its-verdict : IsKeeper ring part device → (verdict : Verdict) → IsVerdict ring t.object r verb verdict
              → IsAskedBy ring t r verb (asked_at device place verdict)
          for-its-verdict keeper verdict is =
              subst (λ (p : Place). IsAskedBy ring t r verb (asked_at device p verdict)) (sym place_is)
              (for-verdict (at-partition true here)
              (subst (λ (p : Place). IsKeeper ring (part_of ring p) device) place_is (subst (λ (n : ℕ). IsKeeper ring n device) part_is keeper))
              verdict is)
