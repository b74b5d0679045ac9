-- A reply that shows a container of which no record waits shows exactly its live objects: an honest run of the machine leads from what the nodes began with to
-- what they were as the request came, and they are a door to its machine.
use Rattle.std.proofs.Common.{◌≡◌, ℕ, Bool, true, false, List, [], ◌⊎◌, inl, inr, refl, sym, ◌∙◌, ap, subst, MatchBool}
use Rattle.std.specs.Bool.{⊤}
use Rattle.sw_account_laws.proofs.Ending.{accounts-are-sound}
use Rattle.sw_account_laws.proofs.Going.{keeps-accounts}
use Rattle.sw_account_laws.specs.Accounts.{Account}
use Rattle.sw_across_laws.proofs.Doors.{door-stands}
use Rattle.sw_across_laws.specs.Laws.{IsDoorTo}
use Rattle.sw_container_server.specs.Serving as containers
use Rattle.sw_container_server.specs.Targets.{is_for_containers}
use Rattle.sw_control.specs.Asking.{is_control}
use Rattle.sw_core.specs.Worlds.{AllNodes, KeeperSeen, opened, sight_of}
use Rattle.sw_hashpath.specs.declared.name.Name.{Name}
use Rattle.sw_hashpath.specs.declared.place.Place.{Place}
use Rattle.sw_listing.specs.Listing.{listing}
use Rattle.sw_listing_laws.specs.Plain.{Cluster, RunsSoundly}
use Rattle.sw_listing_reply_laws.proofs.Showing.{replies-exact}
use Rattle.sw_listing_reply_laws.specs.Laws.{ShowsEntries, is_shown}
use Rattle.sw_machine.proofs.Honesty.{honest-join, honest-leaving}
use Rattle.sw_machine.proofs.Runs.{rows-are-merged}
use Rattle.sw_machine.specs.Doors.{StandsFor}
use Rattle.sw_machine.specs.Honest.{RunsHonestly}
use Rattle.sw_machine.specs.Machine.{Machine, Runs}
use Rattle.sw_message.specs.declared.request.Request.{Request}
use Rattle.sw_message.specs.declared.response.Response.{Response}
use Rattle.sw_nodes.proofs.Keeping.{runs-itself}
use Rattle.sw_nodes.specs.Server.{MayAnswer, MayHalt}
use Rattle.sw_object_server.specs.Replies.{bare}
use Rattle.sw_object_steps.specs.Journals.{Hash}
use Rattle.sw_origin_laws.proofs.Soundly.{honest-rooted}
use Rattle.sw_origin_laws.specs.Roots.{AreRooted, runs_of}
use Rattle.sw_pass.specs.Rings.{replicas_in}
use Rattle.sw_peer.specs.Sights.{Nodes, Sight}
use Rattle.sw_quiet.specs.Quiet.{quiet_sight_of}
use Rattle.sw_replica_server.specs.Targets.{is_replication_of}
use Rattle.sw_ring.specs.declared.ring.Ring.{Ring}
use Rattle.sw_session.specs.declared.server.ServerFault.{ServerFault}
use Rattle.sw_shard_range.specs.Names.{is_hidden}
use Rattle.sw_volume.specs.Tree.{Folders}
use Rattle.sw_cluster.proofs.Found.{GoesByAnswers, IsFound, session-found}
use Rattle.sw_cluster.proofs.FoundServing.{IsFoundIn, all-answers-found, answer-goes}
use Rattle.sw_cluster.proofs.Served.{goes-join}
use Rattle.sw_cluster.specs.Answered.{Answered}
use Rattle.sw_cluster.specs.Holding.{ring_nodes}
use Rattle.sw_cluster.specs.Limits.{run_bytes, serve_bytes}
use Rattle.sw_cluster.specs.Listing.{cluster_of}
use Rattle.sw_cluster.specs.Shown.{IsFair, LeadsTo, ServingShowsExactly, SessionShowsExactly, ShowsExactly, ShowsLive, StaysSound, start}
use Rattle.sw_cluster.specs.Told.{read_of, written_of}

-- a reply of want of memory tells nothing of a container
wanting-shows-none : (response : Response) → response ≡ bare 500 → is_shown response ≡ true → ⊥
wanting-shows-none response is shown = let no : false ≡ true = sym (ap is_shown is) ∙ shown in cc

-- what a request for a container is answered, of what is said of each kind of request
of-containers : (A B C D : Type 0) (control replication container : Bool) → control ≡ false → replication ≡ false → container ≡ true
    → MatchBool control A (MatchBool replication B (MatchBool container C D)) → C
of-containers A B C D true replication container n p q answers = cc
of-containers A B C D false true container n p q answers = cc
of-containers A B C D false false false n p q answers = cc
of-containers A B C D false false true n p q answers = answers

-- a server that is looked at through a sight, and began as the nodes of a ring
module _ {S : Type 0} (see : S → Sight) (ring : Ring) (began : S) (begins : (see began).nodes ≡ ring_nodes ring) where
  -- ---- the run that leads there

  begun : (account : Account) → StandsFor (see began) (start ring (see began) account)
  begun account = record { objects = refl; containers = refl }

  pub led-to : (w : S) → RunsHonestly ring.secrets (replicas_in ring) (see began) (see w) → (account : Account) → LeadsTo ring (see began) account (see w)
  led-to w runs account =
      let went = runs (start ring (see began) account) (begun account) in
      record {
        lines = went.0;
        machine = went.2.after;
        run = subst (λ (n : Nodes). Runs n (start ring (see began) account) went.0 went.2.after) begins went.2.run;
        honest = went.1 [];
        stands = went.2.stands;
      }

  nodes-stay : (w : S) → RunsHonestly ring.secrets (replicas_in ring) (see began) (see w) → (see w).nodes ≡ ring_nodes ring
  nodes-stay w runs = (runs (start ring (see began) []) (begun [])).2.nodes ∙ begins

  -- ---- what is shown then

  module _ (account : Account) (names : Hash → Name) (root : Place → Place) (w : S) (leads : LeadsTo ring (see began) account (see w))
      (fair : IsFair ring (see began) account names root (see w) leads) where
    abbrev c : Cluster
    c = cluster_of ring is_hidden names

    abbrev at_first : Machine
    at_first = start ring (see began) account

    -- each container lock tells its contents on
    door : (see w).nodes ≡ ring_nodes ring → IsDoorTo c leads.machine ring (see w)
    door nodes =
        door-stands c leads.machine ring (see w) nodes (λ place. refl) leads.stands
        (λ device place. ((rows-are-merged c.nodes at_first leads.lines leads.machine leads.run).place device place
        (fair.sound.containers_tell device place)).told)

    soundly : (sound : RunsSoundly c [] at_first leads.lines leads.machine)
        × AreRooted c root at_first leads.lines leads.machine (runs_of c [] at_first leads.lines leads.machine sound)
    soundly = honest-rooted c root [] at_first leads.lines leads.machine leads.run leads.honest fair.plain fair.rooted

    pub stays : StaysSound ring (see began) account names root (see w) leads
    stays =
        let run = runs_of c [] at_first leads.lines leads.machine soundly.0 in
        let went = keeps-accounts c.nodes at_first leads.lines leads.machine run account fair.sound.known in
        record {
          later = went.0;
          run = run;
          goes = went.2;
          sound = accounts-are-sound c root at_first account leads.lines leads.machine went.0 (λ place hidden. hidden) fair.roots fair.sound soundly.0
              soundly.1 went.2 fair.texts;
        }

  abbrev Contained : Answered S → Type 0
  Contained a = containers.IsAnswered see a.before a.after ring a.request a.response
      ⊎ ((a.response ≡ bare 500) × containers.IsGivenUp see a.before a.after ring a.request)

  shows-live : (a : Answered S) → (see a.before).nodes ≡ ring_nodes ring → (see a.after).alone ≡ true
      → (is_control a.request.path ≡ false → is_replication_of a.request ≡ false → is_for_containers a.request ≡ true → Contained a)
      → (account : Account) (leads : LeadsTo ring (see began) account (see a.before)) → ShowsLive ring (see began) account (see a.before) leads a
  shows-live a nodes alone answers account leads names root fair agree no_control no_replica for_containers device place query replica asked shown visible
      settled rows live =
      by (answers no_control no_replica for_containers)
    where
      by : Contained a → ShowsEntries query (listing query rows) a.response
      by (inl answered) =
          let run = soundly account names root a.before leads fair in
          replies-exact see (cluster_of ring is_hidden names) root (start ring (see began) account) account leads.lines leads.machine (λ place hidden. hidden)
          fair.roots fair.sound run.0 run.1 agree fair.texts ring a.before a.after (door account names root a.before leads fair nodes) alone a.request device
          place query replica asked a.response answered shown visible settled rows live
      by (inr wanted) = absurd (wanting-shows-none a.response wanted.0 shown)

  shows-exactly : (a : Answered S) → RunsHonestly ring.secrets (replicas_in ring) (see began) (see a.before)
      → RunsHonestly ring.secrets (replicas_in ring) (see began) (see a.after) → (see a.after).alone ≡ true
      → (is_control a.request.path ≡ false → is_replication_of a.request ≡ false → is_for_containers a.request ≡ true → Contained a)
      → ShowsExactly ring (see began) see a
  shows-exactly a runs on alone answers = record {
    led = led-to a.before runs;
    shows = shows-live a (nodes-stay a.before runs) alone answers;
    led_on = led-to a.after on;
    sound = λ account leads names root fair. stays account names root a.after leads fair;
  }

module _ {V K : Type 0} (tells : V → Bool) (files : V → Folders) (faults : V → ℕ) (keeps : KeeperSeen K) (ring : Ring) where
  -- ---- while connections are served

  abbrev see_quietly : AllNodes V K → Sight
  see_quietly w = quiet_sight_of tells files faults keeps w

  module _ (parts : List (V × K)) (after : AllNodes V K) where
    abbrev served : AllNodes V K
    served = opened serve_bytes ring parts

    serving-one : (a : Answered (AllNodes V K)) → IsFoundIn tells files faults keeps ring served after a
        → ShowsExactly ring (see_quietly served) see_quietly a
    serving-one a f =
        shows-exactly see_quietly ring served refl a
        (honest-leaving ring.secrets (replicas_in ring) (see_quietly served) (see_quietly a.before) f.from.runs)
        (honest-leaving ring.secrets (replicas_in ring) (see_quietly served) (see_quietly a.after)
        (goes-join tells files faults keeps ring served a.before a.after f.from
        (answer-goes tells files faults keeps ring a.before a.after a.request f.moment a.response f.answer)).runs) refl
        (λ no_control no_replica for_containers.
        of-containers _ _ _ _ (is_control a.request.path) (is_replication_of a.request) (is_for_containers a.request) no_control no_replica for_containers
        f.answer)

  pub serving-shows : (first : V × K → Type 0) → ServingShowsExactly tells files faults keeps ring first
  serving-shows first port connections rests rests_now doors doors_now out clock clock_now stores stores_now status serving k d within =
      serving-one serving.parts serving.over.after _
      (all-answers-found tells files faults keeps ring port connections (opened serve_bytes ring serving.parts) serving.over.after doors doors_now out clock
      clock_now _ stores_now serving.over.ended serving.over.ends k d within)

  -- ---- in a session

  abbrev see : AllNodes V K → Sight
  see w = sight_of tells files faults keeps w

  abbrev May : AllNodes V K → Request → ℕ → Response → AllNodes V K → Type 0
  May = MayAnswer tells files faults keeps ring

  abbrev Halt : AllNodes V K → Request → ℕ → ServerFault → AllNodes V K → Type 0
  Halt w r moment fault after = MayHalt tells files faults keeps ring w r after

  abbrev Comes : AllNodes V K → AllNodes V K → Type 0
  Comes w after = RunsHonestly ring.secrets (replicas_in ring) (see w) (see after)

  comes-by-answers : GoesByAnswers May Comes
  comes-by-answers = record {
    still = λ w. honest-leaving ring.secrets (replicas_in ring) (see w) (see w) (runs-itself (see w));
    join = λ a b c first next. honest-join ring.secrets (replicas_in ring) (see a) (see b) (see c) first next;
    by_answer = λ w r moment response after may. may.runs;
  }

  -- how it goes on to the end doesn't matter
  abbrev Anyhow : AllNodes V K → AllNodes V K → Type 0
  Anyhow w after = ⊤

  anyhow-by-answers : GoesByAnswers May Anyhow
  anyhow-by-answers = record {
    still = λ w. tt;
    join = λ a b c first next. tt;
    by_answer = λ w r moment response after may. tt;
  }

  module _ (parts : List (V × K)) (after : AllNodes V K) where
    abbrev run_over : AllNodes V K
    run_over = opened run_bytes ring parts

    session-one : (a : Answered (AllNodes V K)) → IsFound May Comes Anyhow run_over after a → ShowsExactly ring (see run_over) see a
    session-one a f =
        shows-exactly see ring run_over refl a f.from
        (honest-join ring.secrets (replicas_in ring) (see run_over) (see a.before) (see a.after) f.from f.answer.runs) refl
        (λ no_control no_replica for_containers.
        of-containers _ _ _ _ (is_control a.request.path) (is_replication_of a.request) (is_for_containers a.request) no_control no_replica for_containers
        f.answer.answers)

  pub session-shows : (first : V × K → Type 0) → SessionShowsExactly tells files faults keeps ring first
  session-shows first rests rests_now stores stores_now source sink clock clock_now trail status run k d within =
      session-one run.parts run.over.after _
      (session-found (λ request. false) May Halt Comes Anyhow comes-by-answers anyhow-by-answers (λ w r moment fault after halt. tt)
      (opened run_bytes ring run.parts) (read_of source) (written_of sink) trail.moments run.over.after run.over.ends.ended run.over.ends.session k d within)
