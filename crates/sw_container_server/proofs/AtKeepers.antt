-- What a request asks for comes to a device that keeps its container, and is no step on shard ranges; and shards have the replica that a read asks for.
use Rattle.std.proofs.Common.{◌≡◌, ℕ, List, [], ◌∷◌, Option, Some, None, refl, sym, subst, inl, inr}
use Rattle.std.proofs.lemmas.Option.{slice_get_within}
use Rattle.sw_hashpath.specs.declared.place.Place.{Place}
use Rattle.sw_message.specs.declared.request.Request.{Request}
use Rattle.sw_object_server.specs.Tests.{IsDecided}
use Rattle.sw_ring.proofs.Repeats.{one_place}
use Rattle.sw_ring.specs.declared.ring.Ring.{Ring}
use Rattle.sw_container_server.proofs.Names.{hashed}
use Rattle.sw_container_server.proofs.Plain.{IsGood, yields-good}
use Rattle.sw_container_server.specs.Asking.{AsksFor, IsAtKeeper, IsAskedBy, IsAskedWith, IsPlaced, HasGoodNames, asked_at}
use Rattle.sw_container_server.specs.Laws.{AsksAtKeepers}
use Rattle.sw_container_server.specs.Places.{IsKeeper, IsPlace, part_of, place_in}
use Rattle.sw_container_server.specs.Targets.{is_row, target_of, verb_of}
use Rattle.sw_container_server.specs.Verdicts.{verb_tests}
use Rattle.sw_container_server.specs.declared.asked.ContAsked.{ContAsked}
use Rattle.sw_container_server.specs.declared.asked.ContAsked.TheVariants as asks
use Rattle.sw_container_server.specs.declared.target.Target.{Target}
use Rattle.sw_container_server.specs.declared.verb.Verb.{Verb}
use Rattle.sw_container_server.specs.declared.verdict.Verdict.{Verdict}
use Rattle.sw_container_server.specs.declared.verdict.Verdict.TheVariants as verdicts

module _ (ring : Ring) where
  refused : (status : ℕ) (asked : ContAsked) → asked ≡ asks.Refused status → IsPlaced ring asked
  refused status asked is = subst (λ (a : ContAsked). IsPlaced ring a) (sym is) tt

  good-at : (device : ℕ) (place : Place) (verdict : Verdict) → IsPlace ring device place → IsGood ring verdict → IsPlaced ring (asked_at device place verdict)
  good-at device place (verdicts.Refused status) at good = tt
  good-at device place (verdicts.Change change) at good = (at, good)
  good-at device place (verdicts.Info replica) at good = (at, good)
  good-at device place (verdicts.List query replica) at good = (at, good)

  module _ (t : Target) (r : Request) (verb : Verb) where
    -- its device keeps its container
    kept : HasGoodNames t verb → IsAtKeeper ring t → (asked : ContAsked) → AsksFor ring t r verb asked → IsPlaced ring asked
    kept good keeper asked is =
        let here : keeper.0 ≡ is.0 = one_place t.device ring.devices keeper.0 is.0 ring.distinct_names keeper.1 is.2 in
        let at : IsPlace ring is.0 (place_in ring t) = record {
          known = slice_get_within ring.devices is.0 t.device is.2;
          keeps = subst (λ (d : ℕ). IsKeeper ring (part_of ring (place_in ring t)) d) here keeper.2;
          hashed = hashed ring verb t (place_in ring t) good refl;
        } in
        subst (λ (a : ContAsked). IsPlaced ring a) (sym is.4)
        (good-at is.0 (place_in ring t) is.1 at (yields-good ring t.object r verb is.1 is.3))

    decided : HasGoodNames t verb → IsAtKeeper ring t → (left : List (ℕ × Type 0)) (asked : ContAsked)
        → IsDecided left asks.Refused (AsksFor ring t r verb) asked → IsPlaced ring asked
    decided good keeper [] asked is = kept good keeper asked is
    decided good keeper (test ∷ left) asked (inl passed) = decided good keeper left asked passed.1
    decided good keeper (test ∷ left) asked (inr failed) = refused test.0 asked failed.1

    pub asked-placed : (asked : ContAsked) → IsAskedBy ring t r verb asked → IsPlaced ring asked
    unfolding IsAskedBy
    asked-placed asked (inr failed) = refused 400 asked failed.1
    asked-placed asked (inl (good, inr failed)) = refused 404 asked failed.1
    asked-placed asked (inl (good, inl (device, inr failed))) = refused 400 asked failed.1
    asked-placed asked (inl (good, inl (device, inl (part, inr failed)))) = refused 404 asked failed.1
    asked-placed asked (inl (good, inl (device, inl (part, inl (keeper, left))))) = decided good keeper (verb_tests ring r verb) asked left

  placed-with : (r : Request) (verb : Option Verb) (asked : ContAsked) → IsAskedWith ring r verb asked → IsPlaced ring asked
  placed-with r None asked is = refused 405 asked is
  placed-with r (Some verb) asked is = asked-placed (target_of r.path) r verb asked is

pub asks_at_keepers : AsksAtKeepers
asks_at_keepers ring r device place query replica is =
    placed-with ring r (verb_of (is_row r.path) r.method) (asks.List device place query replica) is
