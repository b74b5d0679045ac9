-- How `where` ends. (This project's own.)
use Rattle.std.specs.Prelude.{◌≡◌, ℕ, List, Option, None, IsSome, ◌⊎◌}
use Rattle.std.specs.Io.KnownBytes.{Appends}
use Rattle.sw_outside.specs.Counts.{raised}
use Rattle.sw_outside.specs.Taken.{AppendsPart}
use Rattle.sw_hashpath.specs.BadNames.{bad_name}
use Rattle.sw_ring.specs.declared.ring.Ring.{Ring}
use Rattle.sw_cluster.specs.Told.{IsSilent, Output}
use Rattle.sw_cluster.specs.Whereabouts.{where_text}
use Rattle.sw_cluster.specs.Statuses as statuses

-- a text was put whole, in one call, or a front of it where that call failed
pub record IsWritten (out : Output) (text : List ℕ) (status : ℕ) : Type 0 where
  pub complete : status ≡ statuses.complete → Appends out.before out.now text × (out.faults_now ≡ out.faults)
  pub write_fault : status ≡ statuses.write_fault → AppendsPart out.before out.now text × (out.faults_now ≡ raised out.faults)
  pub once : out.calls_now ≡ raised out.calls
  pub known : (status ≡ statuses.complete) ⊎ (status ≡ statuses.write_fault)

-- the text was put whole, or the names are refused, or the one call failed, or memory ran out
pub record Locates (ring : Ring) (account : List ℕ) (container object : Option (List ℕ)) (out : Output) (status : ℕ) : Type 0 where
  pub complete : status ≡ statuses.complete → Appends out.before out.now (where_text ring account container object) × (out.faults_now ≡ out.faults)
  pub usage : status ≡ statuses.usage → IsSome (bad_name account container object) × IsSilent out
  pub write_fault : status ≡ statuses.write_fault →
      AppendsPart out.before out.now (where_text ring account container object) × (out.faults_now ≡ raised out.faults)
  pub no_memory : status ≡ statuses.no_memory → IsSilent out
  pub good : (status ≡ statuses.complete) ⊎ (status ≡ statuses.write_fault) → bad_name account container object ≡ None
  pub once : (status ≡ statuses.complete) ⊎ (status ≡ statuses.write_fault) → out.calls_now ≡ raised out.calls
  pub known : (status ≡ statuses.complete) ⊎ ((status ≡ statuses.usage) ⊎ ((status ≡ statuses.write_fault) ⊎ (status ≡ statuses.no_memory)))
