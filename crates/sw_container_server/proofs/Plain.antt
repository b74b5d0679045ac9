-- What a verb asks for is no step on shard ranges, and a read asks for a replica that there is.
use Rattle.std.proofs.Common.{◌≡◌, ℕ, ◌<◌, true, List, refl, sym, subst}
use Rattle.std.specs.Bool.{⊤}
use Rattle.sw_container_steps.specs.Steps.{is_plain}
use Rattle.sw_message.specs.declared.request.Request.{Request}
use Rattle.sw_ring.specs.declared.ring.Ring.{Ring}
use Rattle.sw_container_server.proofs.Replicas.{asked-below}
use Rattle.sw_container_server.specs.Verdicts.{Yields}
use Rattle.sw_container_server.specs.declared.verb.Verb.{Verb}
use Rattle.sw_container_server.specs.declared.verb.Verb.TheVariants as verbs
use Rattle.sw_container_server.specs.declared.verdict.Verdict.{Verdict}
use Rattle.sw_container_server.specs.declared.verdict.Verdict.TheVariants as verdicts

module _ (ring : Ring) where
  -- its change is such a step, and its replica is one of the ring's
  abbrev pub IsGood : Verdict → Type 0
  IsGood (verdicts.Refused status) = ⊤
  IsGood (verdicts.Change change) = is_plain change ≡ true
  IsGood (verdicts.Info replica) = replica < ring.replicas
  IsGood (verdicts.List query replica) = replica < ring.replicas

  pub yields-good : (name : List ℕ) (r : Request) (verb : Verb) (verdict : Verdict) → Yields ring name r verb verdict → IsGood verdict
  yields-good name r verbs.Put verdict y = subst IsGood (sym y.2) refl
  yields-good name r verbs.Delete verdict y = subst IsGood (sym y.2) refl
  yields-good name r verbs.Get verdict y = subst IsGood (sym y.4) (asked-below ring r.fields y.1 y.3)
  yields-good name r verbs.Head verdict y = subst IsGood (sym y.2) (asked-below ring r.fields y.0 y.1)
  yields-good name r verbs.PutRow verdict y = subst IsGood (sym y.2) refl
  yields-good name r verbs.DeleteRow verdict y = subst IsGood (sym y.2) refl
