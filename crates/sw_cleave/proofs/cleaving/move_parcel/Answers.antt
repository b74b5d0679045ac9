use Rattle.std.proofs.Common.{ℕ, List, false, true, inl, inr, refl, subst}
use Rattle.sw_cleave.proofs.Coming.{comes-ended, comes-then}
use Rattle.sw_cleave.specs.Cleaving.{IsClosed, IsOffered, IsParcelMoved, leaves}
use Rattle.sw_container_steps.specs.declared.cont_change.ContChange.TheVariants.{MergeRows}
use Rattle.sw_pass.specs.Turns.{InTurn}
use Rattle.sw_cleave.proofs.cleaving.move_parcel.Goals as goal

pub returns-in_err-offer_all-clause-cleaves : goal.returns-in_err-offer_all-clause-cleaves
returns-in_err-offer_all-clause-cleaves g c =
    let s = g.D.Door.sight in
    let moving = c.args.moving.now in
    comes-ended (IsParcelMoved moving.device moving.place.now moving.shard.now moving.range c.args.devices c.args.open_ranges c.args.parcel
    (s c.args.door.now) c.args.outcome.now (s c.offer_all.new.door) c.offer_all.new.outcome) c.from_residual.result c.from_residual.ensures.0
    (leaves c.args.open_ranges) (inr (
      subst (λ (all : List ℕ). InTurn (IsOffered moving.device moving.place.now moving.range c.args.parcel.top moving.shard.now (MergeRows c.args.parcel.rows))
          all (s c.args.door.now) c.args.outcome.now (s c.offer_all.new.door) c.offer_all.new.outcome false) c.as_slice.ensures
          c.in_err-offer_all.ensures.offers,
      refl,
    ))

pub returns-clause-cleaves : goal.returns-clause-cleaves
returns-clause-cleaves g c =
    let s = g.D.Door.sight in
    let moving = c.args.moving.now in
    comes-then (IsClosed moving.device moving.place.now moving.range c.args.devices c.args.open_ranges (s c.offer_all.new.door) c.offer_all.new.outcome
    (s c.close.new.door) c.close.new.outcome)
    (IsParcelMoved moving.device moving.place.now moving.shard.now moving.range c.args.devices c.args.open_ranges c.args.parcel (s c.args.door.now)
    c.args.outcome.now (s c.close.new.door) c.close.new.outcome)
    (λ came on is. inl (
      s c.offer_all.new.door,
      c.offer_all.new.outcome,
      subst (λ (all : List ℕ). InTurn (IsOffered moving.device moving.place.now moving.range c.args.parcel.top moving.shard.now (MergeRows c.args.parcel.rows))
          all (s c.args.door.now) c.args.outcome.now (s c.offer_all.new.door) c.offer_all.new.outcome true) c.as_slice.ensures
          c.in_ok-offer_all.ensures.offers,
      is,
    )) c.close.result c.close.ensures.closes
