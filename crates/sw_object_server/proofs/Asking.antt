-- What the tests of a request's target are together.
use Rattle.std.proofs.Common.{◌≡◌, ℕ, true, None, Some, refl, subst}
use Rattle.sw_hashpath.specs.declared.bad_name.BadName.{BadName}
use Rattle.sw_hashpath.specs.declared.name.Name.{Name}
use Rattle.sw_message.specs.declared.request.Request.{Request}
use Rattle.sw_ring.specs.declared.ring.Ring.{Ring}
use Rattle.sw_object_server.specs.Reading.{AsksDevice, AsksName, AsksPartition, AsksVerb}
use Rattle.sw_object_server.specs.Places.{is_partition_of, name_fault, name_in}
use Rattle.sw_object_server.specs.declared.asked.Asked.{Asked}
use Rattle.sw_object_server.specs.declared.asked.Asked.TheVariants as asks
use Rattle.sw_object_server.specs.declared.target.Parts.{Parts}
use Rattle.sw_object_server.specs.declared.verb.Verb.{Verb}

-- the partition is the name's, so the verb decides
pub in_place : (ring : Ring) (parts : Parts) (verb : Verb) (name : Name) (r : Request) (asked : Asked) (device : ℕ)
    → is_partition_of ring name parts.partition ≡ true → AsksVerb verb device name r asked → AsksPartition ring parts verb name r device asked
in_place ring parts verb name r asked device here asks = rw here asks

-- the names that a path gives are good, so the device is looked for
pub named : (ring : Ring) (parts given : Parts) (verb : Verb) (name : Name) (r : Request) (asked : Asked)
    → parts ≡ given → name_fault parts ≡ None → name ≡ name_in ring parts → AsksDevice ring parts verb name r asked → AsksName ring given r verb asked
named ring parts given verb name r asked same good is asks =
    let here : AsksName ring parts r verb asked = rw good (subst (λ (n : Name). AsksDevice ring parts verb n r asked) is asks) in
    subst (λ (p : Parts). AsksName ring p r verb asked) same here

-- they aren't, so the request is refused
pub misnamed : (ring : Ring) (parts given : Parts) (verb : Verb) (r : Request) (bad : BadName)
    → parts ≡ given → name_fault parts ≡ Some bad → AsksName ring given r verb (asks.Refused 400)
misnamed ring parts given verb r bad same is =
    let here : AsksName ring parts r verb (asks.Refused 400) = rw is refl in
    subst (λ (p : Parts). AsksName ring p r verb (asks.Refused 400)) same here
