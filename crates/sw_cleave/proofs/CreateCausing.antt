-- Why a pass that creates shards isn't done.
use Rattle.std.proofs.Common.{◌≡◌, ◌≢◌, ◌⊎◌, ◌∙◌, ℕ, Bool, true, false, List, [], ◌∷◌, Option, Some, None, Result, Ok, Err}
use Rattle.std.proofs.Common.{ap, arith, inl, inr, refl, sym, true≢false}
use Rattle.std.specs.Prelude.{◌==◌}
use Rattle.sw_cleave.proofs.Causing.{IsWhy, causes-of, why-cause, why-kept}
use Rattle.sw_cleave.proofs.CreateKeeping.{run-passes}
use Rattle.sw_cleave.proofs.Keeping.{Passes}
use Rattle.sw_cleave.specs.Causes.{HasCauses}
use Rattle.sw_cleave.specs.Creating.{AreCreated, IsCreated, IsCreatedAt, IsCreationHeard, IsCutNext, IsFoundNext, IsListGiven, IsListNext}
use Rattle.sw_cleave.specs.Creating.{IsRun, IsSetNext, IsShardingNext, IsSplit, UpToFirst}
use Rattle.sw_cleave.specs.declared.counting.Came.{Came}
use Rattle.sw_container_steps.specs.declared.cont_answer.ContAnswer.{ContAnswer}
use Rattle.sw_container_steps.specs.declared.cont_change.ContChange.{ContChange}
use Rattle.sw_container_steps.specs.declared.cont_change.ContChange.TheVariants.{SetRanges}
use Rattle.sw_container_steps.specs.declared.sharding.Sharding.{Sharding}
use Rattle.sw_container_steps.specs.declared.syncing.Parcel.{Parcel}
use Rattle.sw_hashpath.specs.declared.place.Place.{Place}
use Rattle.sw_outside.specs.Counts.{raised}
use Rattle.sw_pass.proofs.Counts.{HasCause}
use Rattle.sw_pass.specs.Outcomes.{cont_hindrance, ended, nothing_yet, sending}
use Rattle.sw_pass.specs.Rings.{replicas_in}
use Rattle.sw_pass.specs.declared.hindrance.Hindrance.TheVariants.{Failed}
use Rattle.sw_pass.specs.declared.outcome.Outcome.{Outcome}
use Rattle.sw_peer.specs.Sights.{Sight}
use Rattle.sw_peer.specs.declared.link.Lost.{Lost}
use Rattle.sw_ring.specs.declared.ring.Ring.{Ring}
use Rattle.sw_shard_range.specs.declared.range.Range.{Range}

-- ---- a shard that isn't created

heard-why : (answer : Result ContAnswer Lost) (o p : Outcome) (on : Bool) → IsCreationHeard answer o p false on → on ≡ true → IsWhy p
heard-why (Ok answer) o p on (inl held) went = absurd (true≢false (sym held.2))
heard-why (Ok answer) o p on (inr other) went = why-kept (cont_hindrance answer) o p on other.1 went
heard-why (Err lost) o p on gone went = inl (some (ap (λ (x : Outcome). x.lost) gone.0))
  where
    some : p.lost ≡ raised o.lost → p.lost ≢ 0
    some is = omega (arith, is)

module _ {A : Type 0} (one : A → Sight → Outcome → Sight → Outcome → Bool → Bool → Type 0) where
  first-why : ((x : A) (s : Sight) (o : Outcome) (t : Sight) (p : Outcome) (on : Bool) → one x s o t p false on → on ≡ true → IsWhy p)
      → (xs : List A) (s : Sight) (o : Outcome) (t : Sight) (p : Outcome) (on : Bool) → UpToFirst one xs s o t p false on → on ≡ true → IsWhy p
  first-why each [] s o t p on is went = absurd (true≢false (sym is.2))
  first-why each (x ∷ xs) s o t p on (inl more) went = first-why each xs more.0 more.1 t p on more.3 went
  first-why each (x ∷ xs) s o t p on (inr stopped) went = each x s o t p on stopped.0 went

creates-why : (time : ℕ) (ring : Ring) (ranges : List Range) (s : Sight) (o : Outcome) (t : Sight) (p : Outcome) (on : Bool)
    → AreCreated time ring ranges s o t p false on → on ≡ true → IsWhy p
creates-why time ring ranges s o t p on is went =
    first-why (λ (range : Range). IsCreatedAt time range.shard (replicas_in ring range.shard)) at ranges s o t p on is went
  where
    at : (range : Range) (a : Sight) (b : Outcome) (c : Sight) (d : Outcome) (on' : Bool)
        → IsCreatedAt time range.shard (replicas_in ring range.shard) a b c d false on' → on' ≡ true → IsWhy d
    at range a b c d on' made went' =
        first-why (IsCreated time range.shard) (λ to s' o' t' p' on2 sent. heard-why sent.0 (sending o') p' on2 sent.2) (replicas_in ring range.shard)
        a b c d on' made went'

-- ---- replicas that are left

module _ (ring : Ring) (device : ℕ) (place : Place) where
  given-why : (list : ContChange) (s : Sight) (o : Outcome) (t : Sight) (p : Outcome) (came : Came) (on : Bool)
      → IsListGiven ring device place list s o t p came on → (p.left ≡ 0) ⊎ HasCause p → came.done ≡ false → on ≡ true → IsWhy p
  given-why list s o t p came on is (inr cause) undone went = why-cause p cause
  given-why list s o t p came on is (inl none) undone went =
      absurd (true≢false (sym (ap (λ (n : ℕ). n == 0) none) ∙ (sym (ap (λ (x : Came). x.done) (is.1 went)) ∙ undone)))

  next-why : (list : ContChange) (answer : ContAnswer) (s : Sight) (o : Outcome) (t : Sight) (p : Outcome) (came : Came) (on : Bool)
      → IsSetNext ring device place list answer s o t p came on → (p.left ≡ 0) ⊎ HasCause p → came.done ≡ false → on ≡ true → IsWhy p
  next-why list answer s o t p came on (inl held) lefts undone went = given-why list s o t p came on held.1 lefts undone went
  next-why list answer s o t p came on (inr other) lefts undone went = why-kept (cont_hindrance answer) o p on other.3 went

  module _ (time : ℕ) where
    split-why : (ranges : List Range) (s : Sight) (o : Outcome) (t : Sight) (p : Outcome) (came : Came) (on : Bool)
        → IsSplit ring device place time ranges s o t p came on → (p.left ≡ 0) ⊎ HasCause p → came.done ≡ false → on ≡ true → IsWhy p
    split-why ranges s o t p came on (inl made) lefts undone went =
        next-why (SetRanges ranges) made.3.0 made.3.1 made.1 t p came on made.3.3 lefts undone went
    split-why ranges s o t p came on (inr stopped) lefts undone went = creates-why time ring ranges s o t p on stopped.0 went

    cut-why : (cut : Option (List Range)) (s : Sight) (o : Outcome) (t : Sight) (p : Outcome) (came : Came) (on : Bool)
        → IsCutNext ring device place time cut s o t p came on → (p.left ≡ 0) ⊎ HasCause p → came.done ≡ false → on ≡ true → IsWhy p
    cut-why (Some ranges) s o t p came on is lefts undone went = split-why ranges s o t p came on is lefts undone went
    cut-why None s o t p came on is lefts undone went = why-kept (Some Failed) o p on is.2 went

  module _ (per_shard time : ℕ) where
    found-why : (got : Result Parcel ContAnswer) (s : Sight) (o : Outcome) (t : Sight) (p : Outcome) (came : Came) (on : Bool)
        → IsFoundNext ring device place per_shard time got s o t p came on → (p.left ≡ 0) ⊎ HasCause p → came.done ≡ false → on ≡ true → IsWhy p
    found-why (Ok parcel) s o t p came on (inl cut) lefts undone went = cut-why time cut.0 s o t p came on cut.2 lefts undone went
    found-why (Ok parcel) s o t p came on (inr wanting) lefts undone went = absurd (true≢false (sym went ∙ wanting.2))
    found-why (Err answer) s o t p came on is lefts undone went = why-kept (cont_hindrance answer) o p on is.2 went

    list-why : (ranges : Option (List Range)) (s : Sight) (o : Outcome) (t : Sight) (p : Outcome) (came : Came) (on : Bool)
        → IsListNext ring device place per_shard time ranges s o t p came on → (p.left ≡ 0) ⊎ HasCause p → came.done ≡ false → on ≡ true → IsWhy p
    list-why None s o t p came on is lefts undone went = found-why is.0 is.1 o t p came on is.3 lefts undone went
    list-why (Some ranges) s o t p came on is lefts undone went = given-why (SetRanges ranges) s o t p came on is lefts undone went

    told-why : (got : Result Sharding ContAnswer) (s : Sight) (o : Outcome) (t : Sight) (p : Outcome) (came : Came) (on : Bool)
        → IsShardingNext ring device place per_shard time got s o t p came on → (p.left ≡ 0) ⊎ HasCause p → came.done ≡ false → on ≡ true → IsWhy p
    told-why (Ok sharding) s o t p came on is lefts undone went = list-why sharding.ranges s o t p came on is lefts undone went
    told-why (Err answer) s o t p came on is lefts undone went = why-kept (cont_hindrance answer) o p on is.2 went

    pub run-causes : (s t : Sight) (p : Outcome) (came : Came) (o : Outcome) → IsRun ring device place per_shard time s t p came true
        → o ≡ ended came.done came.left p → HasCauses s t o
    run-causes s t p came o is same =
        causes-of s t p came o passes (λ undone. told-why is.0 is.1 nothing_yet t p came true is.3 passes.counts.left undone refl) same
      where
        passes : Passes s nothing_yet t p
        passes = run-passes ring device place per_shard time s t p came true is
