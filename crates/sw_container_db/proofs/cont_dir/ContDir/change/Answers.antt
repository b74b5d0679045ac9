use Rattle.std.proofs.Common.{◌++◌, Option, sym, ◌∙◌, subst}
use Rattle.sw_keeper.specs.declared.tables.Tables.{Tables}
use Rattle.sw_step.proofs.Settled.{added-is}
use Rattle.sw_step.specs.Rules.{CanStand}
use Rattle.sw_container_steps.specs.Rules.{cont_rules}
use Rattle.sw_container_db.specs.Calling.{beside, settled_in}
use Rattle.sw_container_db.specs.ContDirs.{cont_history_of}
use Rattle.sw_container_db.proofs.Calls.{called-after, called-fault, read-step-wants, unready-step}
use Rattle.sw_container_db.proofs.Fresh.{fresh-both}
use Rattle.sw_container_db.proofs.Ends.{after-settling, unready}
use Rattle.sw_container_db.proofs.cont_dir.ContDir.change.Goals as goal

pub returns-in-Ok-clause-made : goal.returns-in-Ok-clause-made
returns-in-Ok-clause-made g c =
    let v = g.K.Keeper in let place = c.args.place.now in record {
      same = record {
        began = c.make.ensures.began ∙ c.ready.ensures.began;
        told = c.make.ensures.told ∙ c.ready.ensures.told;
        fresh = fresh-both c.args.self.now.journal.entries c.args.self.now.fresh c.ready.new.self.journal.entries c.ready.new.self.fresh
            c.make.new.self.journal.entries c.make.new.self.fresh c.ready.ensures.grows.entries.0
            (c.make.ensures.made.follows.entries.0 ++ c.make.ensures.made.after.entries.0) c.ready.ensures.grows.entries.1
            (added-is cont_rules c.make.ensures.made) c.ready.ensures.fresh c.make.ensures.fresh;
      };
      others = λ told p away. c.make.ensures.others (c.ready.ensures.told ∙ told) p away ∙ c.ready.ensures.same told p;
      made = after-settling (cont_history_of v.tells v.holds v.faults c.args.self.now) (cont_history_of v.tells v.holds v.faults c.ready.new.self)
          (cont_history_of v.tells v.holds v.faults c.make.new.self)
          (v.holds c.args.self.now.keeper) (v.holds c.ready.new.self.keeper) (v.holds c.make.new.self.keeper place) place c.args.change.now c.make.result
          c.ready.ensures.grows c.ready.ensures.settles (λ told. c.ready.ensures.same (c.ready.ensures.tied ∙ told)) c.make.ensures.made;
    }

pub returns-in-Err-clause-made : goal.returns-in-Err-clause-made
returns-in-Err-clause-made g c =
    let v = g.K.Keeper in let place = c.args.place.now in record {
      same = record { began = c.ready.ensures.began; told = c.ready.ensures.told; fresh = c.ready.ensures.fresh };
      others = λ told p away. c.ready.ensures.same told p;
      made = unready (cont_history_of v.tells v.holds v.faults c.args.self.now) (cont_history_of v.tells v.holds v.faults c.ready.new.self)
          (v.holds c.args.self.now.keeper) (v.holds c.ready.new.self.keeper place) place c.args.change.now c.in-Err.answer
          c.ready.ensures.grows c.ready.ensures.settles
          (λ told p. subst (λ (t : Option Tables). CanStand cont_rules (cont_history_of v.tells v.holds v.faults c.ready.new.self) p t)
          (c.ready.ensures.same (c.ready.ensures.tied ∙ (sym c.ready.ensures.grows.told ∙ told)) p) (c.ready.ensures.fits told p))
          (λ told. c.ready.ensures.same (c.ready.ensures.tied ∙ (sym c.ready.ensures.grows.told ∙ told)) place)
          c.in-Err.ensures.fault c.in-Err.ensures.cause;
    }

pub returns-in-Ok-clause-called : goal.returns-in-Ok-clause-called
returns-in-Ok-clause-called g c =
    let v = g.K.Keeper in
    called-after v.tells v.holds v.faults v.calls c.args.self.now c.ready.new.self c.args.place.now c.in-Ok.ensures.called c.ready.ensures.told
    c.make.new.self c.args.change.now c.make.result c.make.ensures.called

pub returns-in-Err-clause-called : goal.returns-in-Err-clause-called
returns-in-Err-clause-called g c =
    let v = g.K.Keeper in
    called-fault v.tells v.holds v.faults v.calls c.args.self.now c.ready.new.self c.args.place.now c.args.change.now c.in-Err.answer c.in-Err.ensures.fault
    c.in-Err.ensures.called

pub returns-in-Ok-clause-wanted : goal.returns-in-Ok-clause-wanted
returns-in-Ok-clause-wanted g c =
    let v = g.K.Keeper in let place = c.args.place.now in let seen = c.in-Ok.ensures.called in
    read-step-wants v.tells v.holds v.faults v.calls c.args.self.now c.make.new.self place c.args.change.now seen.read c.make.result seen.is_read
    (c.make.ensures.wanted (beside place seen.read (settled_in c.args.self.now)) seen.read seen.looked.loaded)

pub returns-in-Err-clause-wanted : goal.returns-in-Err-clause-wanted
returns-in-Err-clause-wanted g c =
    let v = g.K.Keeper in
    unready-step v.tells v.holds v.faults v.calls c.args.self.now c.ready.new.self c.args.place.now c.args.change.now c.in-Err.answer c.in-Err.ensures.wanted
