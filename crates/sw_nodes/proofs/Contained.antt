-- What a request for containers leaves of the nodes.
use Rattle.std.proofs.Common.{◌≡◌, ℕ, ◌^◌, Bool, true, false, List, refl, sym, ap, subst, Result, Ok, Err, inl, inr, MutBor}
use Rattle.sw_container_server.specs.Places.{IsHashed}
use Rattle.sw_container_server.specs.Serving.{AreCounted, IsAnswered, IsFollowed, IsGivenUp, IsLeft, IsServed, IsShown, IsTold}
use Rattle.sw_container_server.specs.Targets.{is_for_containers}
use Rattle.sw_container_server.specs.declared.asked.ContAsked.{ContAsked}
use Rattle.sw_container_server.specs.declared.asked.ContAsked.TheVariants as asks
use Rattle.sw_container_steps.specs.declared.cont_answer.ContAnswer.{ContAnswer}
use Rattle.sw_container_steps.specs.declared.info.Info.{Info}
use Rattle.sw_control.specs.Asking.{is_control}
use Rattle.sw_core.proofs.Containing.{place-fits}
use Rattle.sw_core.specs.Worlds.{KeeperSeen, AllNodes, is_hashed_place, sight_of}
use Rattle.sw_hashpath.specs.declared.place.Place.{Place}
use Rattle.sw_hashpath.specs.declared.secrets.Secrets.{Secrets}
use Rattle.sw_listing.specs.declared.entry.Entry.{Entry}
use Rattle.sw_listing.specs.declared.query.Query.{Query}
use Rattle.sw_message.specs.declared.request.Request.{Request}
use Rattle.sw_message.specs.declared.response.Response.{Response}
use Rattle.sw_object_server.specs.Replies.{bare}
use Rattle.sw_peer.specs.Sights.{Sight}
use Rattle.sw_replica_server.specs.Targets.{is_replication_of}
use Rattle.sw_ring.specs.declared.ring.Ring.{Ring}
use Rattle.sw_sharded_listing.proofs.Steps.{AreSteps, IsAsked as IsAskedAcross, across-steps, counts-steps}
use Rattle.sw_volume.specs.Tree.{Folders}
use Rattle.sw_machine.proofs.Honesty.{honest-leaving}
use Rattle.sw_pass.specs.Rings.{replicas_in}
use Rattle.sw_nodes.proofs.ContAsking.{LeavesPoints, asked-leaves}
use Rattle.sw_nodes.proofs.Controlling.{on_true}
use Rattle.sw_nodes.proofs.Keeping.{Keeps, cont_change-keeps, inform-keeps, keeps-join, keeps-same, list-keeps, sharding-keeps}
use Rattle.sw_nodes.proofs.Restarting.{none-called, same-restarts}
use Rattle.sw_nodes.proofs.Serving.{goes_on, on_false}
use Rattle.sw_nodes.specs.Nodes.{IsReady, NodesAnswer}
use Rattle.sw_nodes.specs.Server.{IsContained}

-- ---- a request

-- each read of a container, or of one of its shards, keeps what it keeps by itself
read-steps : (at : ℕ → Place → Type 0) → AreSteps at Keeps
read-steps at = record {
  itself = λ s. keeps-same s s refl;
  join = keeps-join;
  sharded = λ device place s got t here. sharding-keeps device place s got t;
  informed = λ device place s got t here. inform-keeps device place s got t;
  listed = λ device place query s got t here. list-keeps device place query s got t;
}

module _ (ring : Ring) (device : ℕ) (place : Place) (replica : ℕ) where
  counted-keeps : (read : Result Info ContAnswer) (s : Sight) (told : Result Info ContAnswer) (t : Sight)
      → AreCounted ring device place replica read s told t → Keeps s t
  counted-keeps (Ok info) s told t (inl whole) = keeps-same s t whole.1
  counted-keeps (Ok info) s told t (inr split) =
      counts-steps ring device place replica Keeps (read-steps (IsAskedAcross ring device place replica)) s split.1 t split.2
  counted-keeps (Err answer) s told t same = keeps-same s t same.0

  told-keeps : (s : Sight) (told : Result Info ContAnswer) (t : Sight) → IsTold ring device place replica s told t → Keeps s t
  told-keeps s told t p =
      keeps-join s p.1 t (inform-keeps device place s p.0 p.1 p.2.called) (counted-keeps p.0 p.1 told t p.3)

  shown-keeps : (query : Query) (info : Info) (s : Sight) (listed : Result (List Entry) ContAnswer) (t : Sight)
      → IsShown ring device place replica query info s listed t → Keeps s t
  shown-keeps query info s listed t (inl whole) = list-keeps device place query s listed t whole.1.called
  shown-keeps query info s listed t (inr split) =
      across-steps ring device place replica Keeps (read-steps (IsAskedAcross ring device place replica)) query s listed t split.1

module _ {D : Type 0} (sight : D → Sight) (ring : Ring) (request : Request) (old new : D) where
  followed-keeps : (device : ℕ) (place : Place) (query : Query) (replica : ℕ) (told : Result Info ContAnswer) (mid : Sight) (response : Response)
      → IsFollowed ring mid (sight new) device place query replica told response → Keeps mid (sight new)
  followed-keeps device place query replica (Ok info) mid response followed =
      shown-keeps ring device place replica query info mid followed.0 (sight new) followed.1
  followed-keeps device place query replica (Err answer) mid response followed = keeps-same mid (sight new) followed.0

  served-keeps : (asked : ContAsked) (response : Response) → LeavesPoints asked → IsServed sight ring old new asked response → Keeps (sight old) (sight new)
  served-keeps (asks.Refused status) response leaves served = keeps-same (sight old) (sight new) (ap sight served.0)
  served-keeps (asks.Change device place change) response leaves served =
      cont_change-keeps device place change leaves (sight old) served.0 (sight new) served.1.called
  served-keeps (asks.Info device place replica) response leaves served = told-keeps ring device place replica (sight old) served.0 (sight new) served.1
  served-keeps (asks.List device place query replica) response leaves served =
      keeps-join (sight old) served.1 (sight new) (told-keeps ring device place replica (sight old) served.0 served.1 served.2)
      (followed-keeps device place query replica served.0 served.1 response served.3)

  left-keeps : (asked : ContAsked) → LeavesPoints asked → IsLeft ring (sight old) (sight new) asked → Keeps (sight old) (sight new)
  left-keeps (asks.Refused status) leaves left = absurd left
  left-keeps (asks.Change device place change) leaves left =
      cont_change-keeps device place change leaves (sight old) left.0 (sight new) left.1.called
  left-keeps (asks.Info device place replica) leaves left = told-keeps ring device place replica (sight old) (Ok left.0) (sight new) left.1
  left-keeps (asks.List device place query replica) leaves left =
      keeps-join (sight old) left.1 (sight new) (told-keeps ring device place replica (sight old) (Ok left.0) left.1 left.3)
      (shown-keeps ring device place replica query left.0 left.1 left.2 (sight new) left.4)

  pub answered-keeps : (response : Response) → IsAnswered sight old new ring request response → Keeps (sight old) (sight new)
  answered-keeps response x = served-keeps x.0 response (asked-leaves ring request x.0 x.1) x.2

  pub given_up-keeps : IsGivenUp sight old new ring request → Keeps (sight old) (sight new)
  given_up-keeps (inl same) = keeps-same (sight old) (sight new) (ap sight same)
  given_up-keeps (inr x) = left-keeps x.0 (asked-leaves ring request x.0 x.1) x.2

-- ---- a request to the nodes of a ring

module _ {V K S : Type 0} (tells : V → Bool) (files : V → Folders) (faults : V → ℕ) (keeps : KeeperSeen K) (store_faults store_calls : S → ℕ)
    (out : S → ℕ → ℕ → Bool)
    (ring : Ring) (w after : AllNodes V K) (stores : MutBor S) (request : Request) (moment : ℕ) (response : Response)
    (nodes : is_control request.path ≡ false) (other : is_replication_of request ≡ false) (containers : is_for_containers request ≡ true)
    (ready : IsReady out ring w stores.now) where
  abbrev see : AllNodes V K → Sight
  see w = sight_of tells files faults keeps w

  abbrev Answers : Type 0
  Answers = NodesAnswer tells files faults keeps store_faults store_calls out ring ring w after stores stores request moment response

  goes : Keeps (see w) (see after) → IsContained tells files faults keeps ring w request response after → Answers
  goes still contained = record {
    ring_is = refl;
    may = record {
      answers = on_false _ _ (is_control request.path) nodes (on_false _ _ (is_replication_of request) other
          (on_true _ _ (is_for_containers request) containers contained));
      nodes = still.nodes;
      runs = honest-leaving ring.secrets (replicas_in ring) (see w) (see after) (still.runs refl);
    };
    faults_are = refl;
    gained = 0;
    gains = same-restarts w.lines after.lines still.calm;
    calls_are = none-called (2 ^ ring.lock_bits) (store_calls stores.now) (store_calls stores.now) refl;
    same_stores = refl;
    ready = goes_on tells files faults keeps out ring w after stores.now ready still.nodes;
  }

  pub contained : IsAnswered see w after ring request response → Answers
  contained answered = goes (answered-keeps see ring request w after response answered) (inl answered)

  pub contained_not : response ≡ bare 500 → IsGivenUp see w after ring request → Answers
  contained_not reply left = goes (given_up-keeps see ring request w after left) (inr (reply, left))

  pub contained_ready : Answers → IsReady out ring after stores.now
  contained_ready answers = answers.ready

-- the places of the ring fit its nodes
pub places-fit : {V K S : Type 0} (out : S → ℕ → ℕ → Bool) (ring : Ring) (w : AllNodes V K) (stores : S) → IsReady out ring w stores → (place : Place) →
    IsHashed ring place
    → is_hashed_place w.secrets place ≡ true
places-fit out ring w stores ready place hashed =
    subst (λ (secrets : Secrets). is_hashed_place secrets place ≡ true) (sym ready.secrets) (place-fits ring.secrets place hashed.0 hashed.1)
