-- What is written for the requests of a session, one after the other. (This project's own.)
--
-- A server is known only as a relation between what it was, a request, the moment, the reply, and what it is then, and as one between
-- what it was, a request, the moment, why it can't go on, and what it is then.
use Rattle.std.specs.Prelude.{◌≡◌, ℕ, List, [], ◌∷◌, ◌++◌}
use Rattle.sw_http.specs.Continue.{continue_text}
use Rattle.sw_message.specs.Reply.{reply_text}
use Rattle.sw_message.specs.declared.request.Request.{Request}
use Rattle.sw_message.specs.declared.response.Response.{Response}
use Rattle.sw_session.specs.declared.server.ServerFault.{ServerFault}

-- which replies a server may give to a request at a moment, and what it is then
abbrev pub Serves : Type 0 → Type 1
Serves S = S → Request → ℕ → Response → S → Type 0

-- how a server may halt at a request at a moment, and what it is then
abbrev pub Halts : Type 0 → Type 1
Halts S = S → Request → ℕ → ServerFault → S → Type 0

-- what is written for a request: where its client waits to be told to go on, that comes first
abbrev pub written_for : Request → Response → List ℕ
written_for request response = continue_text request.fields ++ reply_text response

-- the text is what is written for each request, one after the other, each answered at its moment by what the server is after those before it
abbrev pub Replies : {S : Type 0} → Serves S → S → List Request → List ℕ → List ℕ → S → Type 0
Replies may start [] moments text after = (moments ≡ []) × ((text ≡ []) × (after ≡ start))
Replies {S} may start (request ∷ requests) moments text after =
    (response : Response) × (mid : S) × (moment : ℕ) × (later : List ℕ) × (rest : List ℕ)
    × may start request moment response mid × (moments ≡ moment ∷ later) × (text ≡ written_for request response ++ rest)
    × Replies may mid requests later rest after
