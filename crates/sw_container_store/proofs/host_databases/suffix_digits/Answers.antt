use Rattle.std.proofs.Common.{◌-◌, length, drop, arith}
use Rattle.std.proofs.lemmas.List.{take_all, length-drop}
use Rattle.sw_container_store.proofs.host_databases.suffix_digits.Goals as goal

pub returns : goal.returns
returns c = take_all (length c.args.digits.now - 29) (drop 29 c.args.digits.now) (let long = length-drop 29 c.args.digits.now in omega (arith, long))
