-- Where each reply was given while connections were served: how the nodes came to what they were then, and how they went on to the end.
use Rattle.std.proofs.Common.{ℕ, Bool, List, [], ◌∷◌, length, Option, Result, Ok, Err, ◌⊎◌, inl, inr, refl}
use Rattle.std.proofs.lemmas.List.Elements.{All-append, All-nil}
use Rattle.std.specs.Bool.{⊤}
use Rattle.std.specs.List.{All}
use Rattle.sw_core.specs.Worlds.{AllNodes, KeeperSeen}
use Rattle.sw_message.specs.declared.request.Request.{Request}
use Rattle.sw_message.specs.declared.response.Response.{Response}
use Rattle.sw_peer.specs.Sights.{Sight}
use Rattle.sw_quiet.specs.Quiet.{quiet_sight_of}
use Rattle.sw_ring.specs.declared.ring.Ring.{Ring}
use Rattle.sw_session.specs.Closing.{asks_to_close_of}
use Rattle.sw_volume.specs.Tree.{Folders}
use Rattle.sw_cluster.proofs.Connecting.{answers-keeps}
use Rattle.sw_cluster.proofs.Found.{GoesByAnswers, IsFound, earlier, later, session-found}
use Rattle.sw_cluster.proofs.Served.{Goes, all-go, first-go, goes-join, goes-same, served-one}
use Rattle.sw_cluster.specs.Answered.{Answered, answered_all, answered_by, answered_one, answered_to, before_restarting, before_wanting}
use Rattle.sw_cluster.specs.Connections.{DoorAnswers, NeverHalts}
use Rattle.sw_cluster.specs.Rounds.{EndsConnections, EndsServing, Round, ServesAll, ServesOne, StopsRestarting, StopsWaiting, read_in, written_in}
use Rattle.sw_cluster.specs.Told.{Counts, DoorsTold, Output, read_of, written_of}
use Rattle.sw_cluster.specs.declared.rounds.ServeFault.{ServeFault}
use Rattle.sw_cluster.specs.declared.rounds.ServeFault.TheVariants as serve_faults

module _ {V K : Type 0} (tells : V → Bool) (files : V → Folders) (faults : V → ℕ) (keeps : KeeperSeen K) (ring : Ring) where
  abbrev see : AllNodes V K → Sight
  see w = quiet_sight_of tells files faults keeps w

  abbrev Going : AllNodes V K → AllNodes V K → Type 0
  Going w after = Goes tells files faults keeps ring w after

  going-on : (a b c : AllNodes V K) → Going a b → Going b c → Going a c
  going-on a b c first next = goes-join tells files faults keeps ring a b c first next

  abbrev May : AllNodes V K → Request → ℕ → Response → AllNodes V K → Type 0
  May w r moment response after = DoorAnswers see ring w r moment response after

  pub answer-goes : (w after : AllNodes V K) (r : Request) (moment : ℕ) (response : Response) → May w r moment response after → Going w after
  answer-goes w after r moment response may =
      let kept = answers-keeps see ring w after r moment response may in record { nodes = kept.nodes; runs = kept.runs refl }

  goes-by-answers : GoesByAnswers May Going
  goes-by-answers = record {
    still = λ w. goes-same tells files faults keeps ring w w refl;
    join = going-on;
    by_answer = λ w r moment response after may. answer-goes w after r moment response may;
  }

  abbrev pub IsFoundIn : AllNodes V K → AllNodes V K → Answered (AllNodes V K) → Type 0
  IsFoundIn start after a = IsFound May Going Going start after a

  earlier-in : (first start after : AllNodes V K) → Going first start → (list : List (Answered (AllNodes V K))) → All (IsFoundIn start after) list
      → All (IsFoundIn first after) list
  earlier-in = earlier asks_to_close_of May NeverHalts Going Going goes-by-answers goes-by-answers (λ w r moment fault after halt. absurd halt)

  later-in : (start after end : AllNodes V K) → Going after end → (list : List (Answered (AllNodes V K))) → All (IsFoundIn start after) list
      → All (IsFoundIn start end) list
  later-in = later asks_to_close_of May NeverHalts Going Going goes-by-answers goes-by-answers (λ w r moment fault after halt. absurd halt)

  -- ---- in all connections

  one-found : (w : AllNodes V K) (r : Round) (after : AllNodes V K) (one : ServesOne tells files faults keeps ring w r after)
      → All (IsFoundIn w after) (answered_one tells files faults keeps ring w r after one)
  one-found w r after one =
      session-found asks_to_close_of May NeverHalts Going Going goes-by-answers goes-by-answers (λ w r moment fault after halt. absurd halt)
      w (read_of (read_in r)) (written_of (written_in r)) one.answered.moments after one.answered.ends.ended one.answered.ends.session

  one-goes : (w : AllNodes V K) (r : Round) (after : AllNodes V K) → ServesOne tells files faults keeps ring w r after → Going w after
  one-goes w r after one = served-one tells files faults keeps ring w after r.moment (read_in r) (written_in r) r.finished.status one.answered

  all-found : (w : AllNodes V K) (rounds : List Round) (after : AllNodes V K) (serves : ServesAll tells files faults keeps ring w rounds after)
      → All (IsFoundIn w after) (answered_all tells files faults keeps ring w rounds after serves)
  all-found w [] after serves = All-nil (IsFoundIn w after)
  all-found w (r ∷ rounds) after serves =
      let again = first-go tells files faults keeps ring (length ring.devices) serves.0 serves.1 serves.3 in
      let rest = all-go tells files faults keeps ring serves.1 after rounds serves.4 in
      All-append (IsFoundIn w after) (answered_one tells files faults keeps ring w r serves.0 serves.2)
      (answered_all tells files faults keeps ring serves.1 rounds after serves.4)
      (later-in w serves.0 after (going-on serves.0 serves.1 after again rest) _ (one-found w r serves.0 serves.2))
      (earlier-in w serves.1 after (going-on w serves.0 serves.1 (one-goes w r serves.0 serves.2) again) _ (all-found serves.1 rounds after serves.4))

  module _ (connections : ℕ) (began after : AllNodes V K) (a b : DoorsTold) (t u : Option (List ℕ)) (s x : Counts) where
    restarting-found : (stops : StopsRestarting tells files faults keeps ring connections began after a b t u s x)
        → All (IsFoundIn began after) (before_restarting tells files faults keeps ring connections began after a b t u s x stops)
    restarting-found stops =
        let again = first-go tells files faults keeps ring stops.device stops.served after stops.restarted in
        All-append (IsFoundIn began after) (answered_all tells files faults keeps ring began stops.rounds stops.then stops.serves)
        (answered_one tells files faults keeps ring stops.then stops.last stops.served stops.one)
        (later-in began stops.then after (going-on stops.then stops.served after (one-goes stops.then stops.last stops.served stops.one) again) _
        (all-found began stops.rounds stops.then stops.serves))
        (earlier-in began stops.then after (all-go tells files faults keeps ring began stops.then stops.rounds stops.serves) _
        (later-in stops.then stops.served after again _ (one-found stops.then stops.last stops.served stops.one)))

    connections-found : (came : Result ⊤ ServeFault) (ends : EndsConnections tells files faults keeps ring connections began after a b t u s x came)
        → All (IsFoundIn began after) (answered_by tells files faults keeps ring connections began after a b t u s x came ends)
    connections-found (Ok done) all = all-found began all.rounds after all.serves
    connections-found (Err serve_faults.Door) ends = all-found began ends.0.rounds after ends.0.serves
    connections-found (Err serve_faults.Store) ends = restarting-found ends.0
    connections-found (Err serve_faults.NoMemory) ends = by ends.0
      where
        by : (why : StopsWaiting tells files faults keeps ring connections began after a b t u s x
            ⊎ StopsRestarting tells files faults keeps ring connections began after a b t u s x)
            → All (IsFoundIn began after) (before_wanting tells files faults keeps ring connections began after a b t u s x why)
        by (inl waits) = all-found began waits.rounds after waits.serves
        by (inr stops) = restarting-found stops
    connections-found (Err serve_faults.Write) ends = All-nil (IsFoundIn began after)

  pub all-answers-found : (port connections : ℕ) (began after : AllNodes V K) (a b : DoorsTold) (out : Output) (t u : Option (List ℕ)) (s x : Counts)
      (ended : Result ⊤ ServeFault) (ends : EndsServing tells files faults keeps ring port connections began after a b out t u s x ended)
      → All (IsFoundIn began after) (answered_to tells files faults keeps ring port connections began after a b out t u s x ended ends)
  all-answers-found port connections began after a b out t u s x ended (inl mute) = All-nil (IsFoundIn began after)
  all-answers-found port connections began after a b out t u s x ended (inr over) =
      connections-found connections began after _ b t u s x over.came over.served
