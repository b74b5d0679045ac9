use Rattle.std.proofs.Common.{◌≡◌, Option, None, Some, rules, subst, sym}
use Rattle.std.proofs.lemmas.List.{append-nil}
use Rattle.std.specs.Option.{IfSome}
use Rattle.sw_pending.specs.Outcomes.{IsRecord}
use Rattle.sw_pending.specs.Records.{key_of}
use Rattle.sw_pending.specs.declared.filed.Filed.{Filed}
use Rattle.sw_volume.specs.Tree.{contents}
use Rattle.sw_pending_dir.specs.Places.{bytes_at}
use Rattle.sw_pending_dir.specs.Readings.{IsFound}
use Rattle.sw_pending_dir.proofs.walking.add_record.Goals as goal

pub returns-in_ok-push-in-Some-clause-adds : goal.returns-in_ok-push-in-Some-clause-adds
returns-in_ok-push-in-Some-clause-adds g c = record {
  found = Some c.in-Some.filed;
  adds = search rules;
  keyed = subst (λ (o : Option Filed). IfSome o (λ filed. key_of filed ≡ c.args.key.now)) c.in-Some.is c.in_ok-read.ensures.keyed;
  sound = subst (λ (o : Option Filed). IfSome o (λ filed. IsRecord c.args.secrets.now filed)) c.in-Some.is c.in_ok-read.ensures.sound;
  stand = λ told. subst (λ (o : Option Filed). IsFound c.args.secrets.now c.args.key.now (bytes_at (contents
      (g.V.Volume.holds c.args.volume.now)) c.args.key.now) o)
      c.in-Some.is (c.in_ok-read.ensures.found told);
}

pub returns-in-None-clause-adds : goal.returns-in-None-clause-adds
returns-in-None-clause-adds g c = record {
  found = None;
  adds = sym (append-nil c.args.found.now.items);
  keyed = tt;
  sound = tt;
  stand = λ told. subst (λ (o : Option Filed). IsFound c.args.secrets.now c.args.key.now (bytes_at (contents
      (g.V.Volume.holds c.args.volume.now)) c.args.key.now) o)
      c.in-None.is (c.in_ok-read.ensures.found told);
}
