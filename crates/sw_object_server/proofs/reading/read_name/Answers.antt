use Rattle.std.proofs.Common.{◌∙◌, Some, OnErr, Result, Ok, Err, refl, sym}
use Rattle.std.proofs.lemmas.Option.{slice_get_within}
use Rattle.sw_object_server.proofs.Asking.{in_place}
use Rattle.sw_object_server.proofs.reading.read_name.Goals as goal
use Rattle.sw_object_server.specs.declared.verdict.Verdict.TheVariants.{Refused, Change, Read}

pub returns-in-Refused-clause-asked : goal.returns-in-Refused-clause-asked
returns-in-Refused-clause-asked c = (
  Some c.in-Some.device,
  rw c.as_slice.ensures at ((c.in-Some.ensures.known c.in-Some.device).0 refl),
  in_place c.args.ring.now c.args.parts.now c.args.verb c.args.name c.args.request _ c.in-Some.device
      (rw (← c.partition.ensures.value, ← c.as_slice-2.ensures) (sym c.has_number.ensures ∙ c.if-not-has_number.false))
      (Refused c.in-Refused.status, rw c.in-Refused.is at c.in_ok-status.ensures.verdict, refl),
)

pub returns-in-Change-clause-asked : goal.returns-in-Change-clause-asked
returns-in-Change-clause-asked c = (
  Some c.in-Some.device,
  rw c.as_slice.ensures at ((c.in-Some.ensures.known c.in-Some.device).0 refl),
  in_place c.args.ring.now c.args.parts.now c.args.verb c.args.name c.args.request _ c.in-Some.device
      (rw (← c.partition.ensures.value, ← c.as_slice-2.ensures) (sym c.has_number.ensures ∙ c.if-not-has_number.false))
      (Change c.in-Change.change, rw c.in-Change.is at c.in_ok-status.ensures.verdict, refl),
)

pub returns-in-Read-clause-asked : goal.returns-in-Read-clause-asked
returns-in-Read-clause-asked c = (
  Some c.in-Some.device,
  rw c.as_slice.ensures at ((c.in-Some.ensures.known c.in-Some.device).0 refl),
  in_place c.args.ring.now c.args.parts.now c.args.verb c.args.name c.args.request _ c.in-Some.device
      (rw (← c.partition.ensures.value, ← c.as_slice-2.ensures) (sym c.has_number.ensures ∙ c.if-not-has_number.false))
      (Read c.in-Read.head_only, rw c.in-Read.is at c.in_ok-status.ensures.verdict, refl),
)

-- a device that the ring has is among its devices
pub returns-in-Change-clause-placed : goal.returns-in-Change-clause-placed
returns-in-Change-clause-placed c = (
  slice_get_within c.args.ring.now.devices c.in-Some.device c.as_slice.result.now ((c.in-Some.ensures.known c.in-Some.device).0 refl),
  c.requires,
)

pub returns-in-Read-clause-placed : goal.returns-in-Read-clause-placed
returns-in-Read-clause-placed c = (
  slice_get_within c.args.ring.now.devices c.in-Some.device c.as_slice.result.now ((c.in-Some.ensures.known c.in-Some.device).0 refl),
  c.requires,
)

told : {T E P : Type 0} (r : Result T E) → P → OnErr r P
told (Ok x) p = tt
told (Err e) p = p

-- memory was wanted at a device of the ring and in the name's partition, by what the verb asks for
pub returns-in_err-status-clause-for_some : goal.returns-in_err-status-clause-for_some
returns-in_err-status-clause-for_some c = told c.from_residual.result (record {
  device = c.in-Some.device;
  is_device = rw c.as_slice.ensures at ((c.in-Some.ensures.known c.in-Some.device).0 refl);
  in_partition = rw (← c.partition.ensures.value, ← c.as_slice-2.ensures) (sym c.has_number.ensures ∙ c.if-not-has_number.false);
  takes = c.in_err-status.ensures.for_some;
})
