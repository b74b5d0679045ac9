use Rattle.std.proofs.Common.{Bool, Err, inl, inr, refl, ap, subst, ◌∙◌}
use Rattle.sw_core.specs.Listing.{is_failed}
use Rattle.sw_core.specs.Worlds.{keeper_seen, sight_of}
use Rattle.sw_peer.specs.Sights.{IsListed}
use Rattle.sw_steps.proofs.Stepping.{listed-runs, same-runs}
use Rattle.sw_steps.proofs.run.list_at.Goals as goal
use Rattle.sw_steps.proofs.run.list_at.Goals.{in-Ok, in-Err-Failed, in-Err-NoMemory}

pub returns-clause-made : goal.returns-clause-made
returns-clause-made g c = elim c.match-files.branch [
  | in-Ok w ↦ rw w.result-is (elim c.files.ensures.listed [
    | inl listed ↦ (refl, is_failed c.files.result, listed)
    | inr none ↦ absurd (let wanting = none.0 in let ok = w.in-Ok.is in cc)
  ])
  | in-Err-Failed w ↦ rw w.result-is (elim c.files.ensures.listed [
    | inl listed ↦ (refl, is_failed c.files.result, listed)
    | inr none ↦ absurd (let wanting = none.0 in let err = w.in-Err-Failed.is in let failed = w.in-Err-Failed.field-0-is in cc)
  ])
  | in-Err-NoMemory w ↦ rw w.result-is tt
]

pub returns-clause-tried : goal.returns-clause-tried
returns-clause-tried g c =
    let v = g.V.Volume in let k = g.K.Keeper in let see = sight_of v.tells v.holds v.faults (keeper_seen k.tells k.holds k.faults) in
    elim c.match-files.branch [
      | in-Ok w ↦ rw w.result-is tt
      | in-Err-Failed w ↦ rw w.result-is tt
      | in-Err-NoMemory w ↦ rw w.result-is (elim c.files.ensures.listed [
        | inl listed ↦ inr (subst (λ (b : Bool). IsListed c.args.device b (see c.args.world.now) (see c.files.new.self))
            (ap is_failed (w.in-Err-NoMemory.is ∙ ap Err w.in-Err-NoMemory.field-0-is)) listed)
        | inr none ↦ inl (ap see none.1)
      ])
    ]

pub returns-clause-runs : goal.returns-clause-runs
returns-clause-runs g c =
    let v = g.V.Volume in let k = g.K.Keeper in let see = sight_of v.tells v.holds v.faults (keeper_seen k.tells k.holds k.faults) in
    elim c.files.ensures.listed [
      | inl listed ↦ listed-runs c.args.device (is_failed c.files.result) (see c.args.world.now) (see c.files.new.self) listed
      | inr none ↦ same-runs see c.args.world.now c.files.new.self none.1
    ]
