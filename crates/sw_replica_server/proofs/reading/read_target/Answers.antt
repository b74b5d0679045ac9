use Rattle.std.proofs.Common.{OnErr, Result, Ok, Err, refl}
use Rattle.std.proofs.lemmas.Option.{slice_get_within}
use Rattle.sw_replica_server.proofs.Decided.{for-files, for-hashes, for-no-partition, for-no-suffixes, for-unknown}
use Rattle.sw_replica_server.proofs.reading.read_target.Goals as goal

-- no such device
pub returns-in_default-clause-exact : goal.returns-in_default-clause-exact
returns-in_default-clause-exact c = for-unknown c.args.ring.now c.args.target.now (rw c.as_slice.ensures at (c.in_default.ensures.unknown.0 refl))

-- no such partition
pub returns-in_default-partition_named-clause-exact : goal.returns-in_default-partition_named-clause-exact
returns-in_default-partition_named-clause-exact c =
    for-no-partition c.args.ring.now c.args.target.now c.in-Some.device (rw c.as_slice.ensures at ((c.in-Some.ensures.known c.in-Some.device).0 refl))
    (rw c.as_slice-2.ensures at c.in_default-partition_named.ensures.named)

-- no third segment
pub returns-in_default-suffixes-clause-exact : goal.returns-in_default-suffixes-clause-exact
returns-in_default-suffixes-clause-exact c =
    for-hashes c.args.ring.now c.args.target.now c.in-Some.device (rw c.as_slice.ensures at ((c.in-Some.ensures.known c.in-Some.device).0 refl))
    c.in-Some-partition_named.part (rw c.as_slice-2.ensures at c.in-Some-partition_named.ensures.named) c.in_default-suffixes.is

pub returns-in_default-suffixes-clause-placed : goal.returns-in_default-suffixes-clause-placed
returns-in_default-suffixes-clause-placed c = (
  slice_get_within c.args.ring.now.devices c.in-Some.device c.as_slice.result.now ((c.in-Some.ensures.known c.in-Some.device).0 refl),
  c.in-Some-partition_named.ensures.named.0,
)

-- it names suffixes
pub returns-in-Some-2-clause-exact : goal.returns-in-Some-2-clause-exact
returns-in-Some-2-clause-exact c =
    for-files c.args.ring.now c.args.target.now c.in-Some.device (rw c.as_slice.ensures at ((c.in-Some.ensures.known c.in-Some.device).0 refl))
    c.in-Some-partition_named.part (rw c.as_slice-2.ensures at c.in-Some-partition_named.ensures.named) c.in-Some-suffixes.text c.in-Some-suffixes.is
    c.in-Some-2.suffixes (rw (c.in-Some-2.is, c.as_slice-3.ensures) at c.in_ok-suffixes.ensures)

pub returns-in-Some-2-clause-placed : goal.returns-in-Some-2-clause-placed
returns-in-Some-2-clause-placed c = (
  slice_get_within c.args.ring.now.devices c.in-Some.device c.as_slice.result.now ((c.in-Some.ensures.known c.in-Some.device).0 refl),
  c.in-Some-partition_named.ensures.named.0,
)

-- it doesn't
pub returns-in-None-clause-exact : goal.returns-in-None-clause-exact
returns-in-None-clause-exact c =
    for-no-suffixes c.args.ring.now c.args.target.now c.in-Some.device (rw c.as_slice.ensures at ((c.in-Some.ensures.known c.in-Some.device).0 refl))
    c.in-Some-partition_named.part (rw c.as_slice-2.ensures at c.in-Some-partition_named.ensures.named) c.in-Some-suffixes.text c.in-Some-suffixes.is
    (rw (c.in-None.is, c.as_slice-3.ensures) at c.in_ok-suffixes.ensures)

told : {T E P : Type 0} (r : Result T E) → P → OnErr r P
told (Ok x) p = tt
told (Err e) p = p

-- memory was wanted at a device of the ring and in one of its partitions, for the suffixes that are named
pub returns-in_err-suffixes-clause-for_suffixes : goal.returns-in_err-suffixes-clause-for_suffixes
returns-in_err-suffixes-clause-for_suffixes c = told c.from_residual.result (record {
  device = c.in-Some.device;
  is_device = rw c.as_slice.ensures at ((c.in-Some.ensures.known c.in-Some.device).0 refl);
  partition = (c.in-Some-partition_named.part, rw c.as_slice-2.ensures at c.in-Some-partition_named.ensures.named);
  named = rw c.in-Some-suffixes.is refl;
})
