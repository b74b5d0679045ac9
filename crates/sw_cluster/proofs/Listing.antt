-- Each listing of an honest, plain run is exact.
use Rattle.std.proofs.Common.{List, [], ◌∷◌, ◌++◌, length, refl, sym, subst, append_assoc}
use Rattle.std.proofs.lemmas.List.{append-nil}
use Rattle.sw_listing_laws.proofs.Listed.{listings-exact}
use Rattle.sw_machine.specs.Honest.{AreHonest, IsHonest}
use Rattle.sw_listing_laws.specs.Plain.{Cluster, IsNamedLine, IsPlain, RunsSoundly}
use Rattle.sw_listing_laws.specs.Laws.{ArePlain, IsNew}
use Rattle.sw_machine.specs.Machine.{Came, Machine, RunLine, Runs, Steps, Went, machine_of}
use Rattle.sw_core.specs.Worlds.{nodes_of}
use Rattle.sw_peer.specs.Sights.{Sight}
use Rattle.sw_ring.specs.declared.ring.Ring.{Ring}
use Rattle.sw_pass.specs.Rings.{replicas_in}
use Rattle.sw_cluster.specs.Listing.{AreExact, IsExact, ListsExactly, cluster_of}

module _ (c : Cluster) where
  -- one line more, behind these
  soundly-behind : (done : List RunLine) (m : Machine) (lines : List RunLine) (mid : Machine) (line : RunLine) (after : Machine)
      → RunsSoundly c done m lines mid → Steps c.nodes mid line after → IsHonest c.nodes.secrets c.replicas (done ++ lines) line → IsPlain c mid line
      → IsNamedLine c line → RunsSoundly c done m (lines ++ line ∷ []) after
  soundly-behind done m [] mid line after so_far step honest plain named =
      let behind = subst (λ (ls : List RunLine). IsHonest c.nodes.secrets c.replicas ls line) (append-nil done) honest in (
        after,
        subst (λ (x : Machine). Steps c.nodes x line after) so_far step,
        behind,
        subst (λ (x : Machine). IsPlain c x line) so_far plain,
        named,
        refl,
      )
  soundly-behind done m (first ∷ lines) mid line after so_far step honest plain named = (
    so_far.0,
    so_far.1,
    so_far.2,
    so_far.3,
    so_far.4,
    soundly-behind (done ++ first ∷ []) so_far.0 lines mid line after so_far.5 step
        (subst (λ (ls : List RunLine). IsHonest c.nodes.secrets c.replicas ls line) (sym (append_assoc done (first ∷ []) lines)) honest) plain named,
  )

  module _ (began : Machine) (new : IsNew c began) where
    line-exact : (done : List RunLine) (m : Machine) (line : RunLine) (after : Machine) → RunsSoundly c [] began done m → Steps c.nodes m line after
        → IsExact c m line
    line-exact done m (Came line) after so_far step = λ place query listed entries is seen agree settled kept whole rows live.
        listings-exact c began done m line after new so_far step agree place query listed entries is seen settled kept whole rows live
    line-exact done m (Went from message) after so_far step = tt

    each-exact : (done : List RunLine) (m : Machine) (lines : List RunLine) (after : Machine) (run : Runs c.nodes m lines after)
        → RunsSoundly c [] began done m → AreHonest c.nodes.secrets c.replicas done lines → ArePlain c m lines after run → AreExact c m lines after run
    each-exact done m [] after run so_far honest plain = tt
    each-exact done m (line ∷ lines) after run so_far honest plain = (
      line-exact done m line run.0 so_far run.1,
      each-exact (done ++ line ∷ []) run.0 lines after run.2 (soundly-behind [] began done m line run.0 so_far run.1 honest.0 plain.0 plain.1) honest.1
          plain.2,
    )

pub lists-exactly : (ring : Ring) (began : Sight) (lines : List RunLine) (machine : Machine)
    (run : Runs (nodes_of (length ring.devices) ring.lock_bits ring.power ring.secrets) (machine_of began) lines machine)
    → AreHonest ring.secrets (replicas_in ring) [] lines → ListsExactly ring began lines machine run
lists-exactly ring began lines machine run honest is_hidden names new plain =
    each-exact (cluster_of ring is_hidden names) (machine_of began) new [] (machine_of began) lines machine run refl honest plain
