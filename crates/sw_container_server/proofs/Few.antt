-- What a request has a container take is a creation, a deletion or one row.
use Rattle.std.proofs.Common.{ℕ, List, [], ◌∷◌, Option, None, Some, inl, inr, sym, subst}
use Rattle.std.specs.Bool.{⊤}
use Rattle.sw_hashpath.specs.declared.place.Place.{Place}
use Rattle.sw_message.specs.declared.request.Request.{Request}
use Rattle.sw_object_server.specs.Tests.{IsDecided}
use Rattle.sw_ring.specs.declared.ring.Ring.{Ring}
use Rattle.sw_container_server.specs.Asking.{AsksFor, IsAskedBy, IsAskedWith, asked_at, tests}
use Rattle.sw_container_server.specs.Laws.{AsksForFew, IsOfClient}
use Rattle.sw_container_server.specs.Places.{place_in}
use Rattle.sw_container_server.specs.Targets.{is_row, target_of, verb_of}
use Rattle.sw_container_server.specs.Verdicts.{Yields}
use Rattle.sw_container_server.specs.declared.asked.ContAsked.{ContAsked}
use Rattle.sw_container_server.specs.declared.asked.ContAsked.TheVariants as asks
use Rattle.sw_container_server.specs.declared.target.Target.{Target}
use Rattle.sw_container_server.specs.declared.verb.Verb.{Verb}
use Rattle.sw_container_server.specs.declared.verb.Verb.TheVariants as verbs
use Rattle.sw_container_server.specs.declared.verdict.Verdict.{Verdict}

-- what is asked for, where it is a change
abbrev IsFew : ContAsked → Type 0
IsFew (asks.Refused status) = ⊤
IsFew (asks.Change device place change) = IsOfClient change
IsFew (asks.Info device place replica) = ⊤
IsFew (asks.List device place query replica) = ⊤

module _ (ring : Ring) (device : ℕ) (place : Place) where
  abbrev Yielded : Verdict → Type 0
  Yielded verdict = IsFew (asked_at device place verdict)

  yielded : (name : List ℕ) (r : Request) (verb : Verb) (verdict : Verdict) → Yields ring name r verb verdict → Yielded verdict
  yielded name r verbs.Put verdict y = subst Yielded (sym y.2) tt
  yielded name r verbs.Delete verdict y = subst Yielded (sym y.2) tt
  yielded name r verbs.Get verdict y = subst Yielded (sym y.4) tt
  yielded name r verbs.Head verdict y = subst Yielded (sym y.2) tt
  yielded name r verbs.PutRow verdict y = subst Yielded (sym y.2) tt
  yielded name r verbs.DeleteRow verdict y = subst Yielded (sym y.2) tt

asked-for : (ring : Ring) (t : Target) (r : Request) (verb : Verb) (asked : ContAsked) → AsksFor ring t r verb asked → IsFew asked
asked-for ring t r verb asked is = subst IsFew (sym is.4) (yielded ring is.0 (place_in ring t) t.object r verb is.1 is.3)

decided : (ring : Ring) (t : Target) (r : Request) (verb : Verb) (left : List (ℕ × Type 0)) (asked : ContAsked)
    → IsDecided left asks.Refused (AsksFor ring t r verb) asked → IsFew asked
decided ring t r verb [] asked is = asked-for ring t r verb asked is
decided ring t r verb (test ∷ left) asked (inl passed) = decided ring t r verb left asked passed.1
decided ring t r verb (test ∷ left) asked (inr refused) = subst IsFew (sym refused.1) tt

asked-with : (ring : Ring) (r : Request) (verb : Option Verb) (asked : ContAsked) → IsAskedWith ring r verb asked → IsFew asked
unfolding IsAskedBy
asked-with ring r None asked is = subst IsFew (sym is) tt
asked-with ring r (Some verb) asked is = decided ring (target_of r.path) r verb (tests ring (target_of r.path) r verb) asked is

pub asks_for_few : AsksForFew
asks_for_few ring r device place change is = asked-with ring r (verb_of (is_row r.path) r.method) (asks.Change device place change) is
