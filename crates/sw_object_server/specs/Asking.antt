-- What a request asks the nodes of a ring for, or the status that refuses it. (OpenStack Swift's object server; the order of the refusals is
-- this project's own.)
--
-- `Requirements.antt` says what each test is, and `Steps.antt` what is asked for where all are passed.
use Rattle.std.specs.Prelude.{ℕ, List, [], ◌∷◌}
use Rattle.sw_message.specs.declared.request.Request.{Request}
use Rattle.sw_ring.specs.declared.ring.Ring.{Ring}
use Rattle.sw_object_server.specs.Requirements.{HasDevice, HasDigest, HasGoodNames, HasLength, HasMetadata, HasTime, HasType, HasVerb, IsChange}
use Rattle.sw_object_server.specs.Requirements.{IsDelete, IsForObjects, IsInPartition, IsPut, IsSmall, NamesSecond, TakesMetadata}
use Rattle.sw_object_server.specs.Steps.{AsksFor}
use Rattle.sw_object_server.specs.Tests.{IsDecided}
use Rattle.sw_object_server.specs.declared.asked.Asked.{Asked}
use Rattle.sw_object_server.specs.declared.asked.Asked.TheVariants.{Refused}

-- what a request has to pass, in this order, each with the status that refuses it
abbrev pub tests : Ring → Request → List (ℕ × Type 0)
tests ring r =
    (400, IsForObjects r)
    ∷ (405, HasVerb r)
    ∷ (400, HasGoodNames r)
    ∷ (404, HasDevice ring r)
    ∷ (400, IsInPartition ring r)
    ∷ (400, (IsChange r → HasTime r))
    ∷ (411, (IsPut r → HasLength r))
    ∷ (413, (IsPut r → IsSmall r))
    ∷ (400, (IsPut r → HasType r))
    ∷ (400, (TakesMetadata r → HasMetadata ring r))
    ∷ (422, (IsPut r → HasDigest r))
    ∷ (400, (IsDelete r → NamesSecond r))
    ∷ []

-- the first that fails decides: the request is refused with its status. Where none fails, it asks for its step
unfoldable pub IsAsked : Ring → Request → Asked → Type 0
IsAsked ring r = IsDecided (tests ring r) Refused (AsksFor ring r)
