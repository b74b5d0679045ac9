use Rattle.std.proofs.Common.{refl, sym, ◌∙◌}
use Rattle.sw_container_server.specs.declared.verdict.Verdict.TheVariants as verdicts
use Rattle.sw_container_server.proofs.Decided.{for-its-verdict, for-other-device, for-other-partition, for-unknown}
use Rattle.sw_container_server.proofs.Names.{object-text}
use Rattle.sw_container_server.proofs.reading.read_place.Goals as goal

-- no such device
pub returns-in_default : goal.returns-in_default
returns-in_default c =
    for-unknown c.args.ring.now c.args.target c.args.request.now c.args.verb c.requires.good (rw c.as_slice.ensures at (c.in_default.ensures.unknown.0 refl))

-- another partition
pub returns-then-not-has_number : goal.returns-then-not-has_number
returns-then-not-has_number c =
    for-other-partition c.args.ring.now c.args.target c.args.request.now c.args.verb c.requires.good c.in-Some.device
    (rw c.as_slice.ensures at ((c.in-Some.ensures.known c.in-Some.device).0 refl)) c.args.place c.requires.place c.partition-part.result
    c.partition-part.ensures.value
    (rw (← c.as_slice-2.ensures) (sym c.has_number.ensures ∙ c.if-not-has_number.true))

-- a device that doesn't keep it
pub returns-then-not-keeps : goal.returns-then-not-keeps
returns-then-not-keeps c =
    for-other-device c.args.ring.now c.args.target c.args.request.now c.args.verb c.requires.good c.in-Some.device
    (rw c.as_slice.ensures at ((c.in-Some.ensures.known c.in-Some.device).0 refl)) c.args.place c.requires.place c.partition-part.result
    c.partition-part.ensures.value
    (rw (← c.as_slice-2.ensures) (sym c.has_number.ensures ∙ c.if-not-has_number.false)) (c.keeps.ensures.no c.if-not-keeps.true)

-- the name of a row is a text
pub read_verb-requires : goal.read_verb-requires
read_verb-requires c = object-text c.args.verb c.args.target c.requires.good

-- what the verb asks for
pub returns-in-Refused : goal.returns-in-Refused
returns-in-Refused c =
    for-its-verdict c.args.ring.now c.args.target c.args.request.now c.args.verb c.requires.good c.in-Some.device
    (rw c.as_slice.ensures at ((c.in-Some.ensures.known c.in-Some.device).0 refl)) c.args.place c.requires.place c.partition-part.result
    c.partition-part.ensures.value
    (rw (← c.as_slice-2.ensures) (sym c.has_number.ensures ∙ c.if-not-has_number.false)) (c.keeps.ensures.yes c.if-not-keeps.false)
    (verdicts.Refused c.in-Refused.status) (rw c.in-Refused.is at c.in_ok-status.ensures)

pub returns-in-Change : goal.returns-in-Change
returns-in-Change c =
    for-its-verdict c.args.ring.now c.args.target c.args.request.now c.args.verb c.requires.good c.in-Some.device
    (rw c.as_slice.ensures at ((c.in-Some.ensures.known c.in-Some.device).0 refl)) c.args.place c.requires.place c.partition-part.result
    c.partition-part.ensures.value
    (rw (← c.as_slice-2.ensures) (sym c.has_number.ensures ∙ c.if-not-has_number.false)) (c.keeps.ensures.yes c.if-not-keeps.false)
    (verdicts.Change c.in-Change.change) (rw c.in-Change.is at c.in_ok-status.ensures)

pub returns-in-Info : goal.returns-in-Info
returns-in-Info c =
    for-its-verdict c.args.ring.now c.args.target c.args.request.now c.args.verb c.requires.good c.in-Some.device
    (rw c.as_slice.ensures at ((c.in-Some.ensures.known c.in-Some.device).0 refl)) c.args.place c.requires.place c.partition-part.result
    c.partition-part.ensures.value
    (rw (← c.as_slice-2.ensures) (sym c.has_number.ensures ∙ c.if-not-has_number.false)) (c.keeps.ensures.yes c.if-not-keeps.false)
    (verdicts.Info c.in-Info.replica) (rw c.in-Info.is at c.in_ok-status.ensures)

pub returns : goal.returns
returns c =
    for-its-verdict c.args.ring.now c.args.target c.args.request.now c.args.verb c.requires.good c.in-Some.device
    (rw c.as_slice.ensures at ((c.in-Some.ensures.known c.in-Some.device).0 refl)) c.args.place c.requires.place c.partition-part.result
    c.partition-part.ensures.value
    (rw (← c.as_slice-2.ensures) (sym c.has_number.ensures ∙ c.if-not-has_number.false)) (c.keeps.ensures.yes c.if-not-keeps.false)
    (verdicts.List c.in-List.query c.in-List.replica) (rw c.in-List.is at c.in_ok-status.ensures)
