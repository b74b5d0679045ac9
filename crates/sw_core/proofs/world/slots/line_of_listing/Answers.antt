use Rattle.std.proofs.Common.{◌≡◌, [], refl, rules}
use Rattle.sw_core.specs.Listing.{is_failed}
use Rattle.sw_core.proofs.world.slots.line_of_listing.Goals as goal
use Rattle.sw_core.proofs.world.slots.line_of_listing.Goals.{in-Ok, in-Err-Failed, in-Err-NoMemory}

pub new-requires-3 : goal.new-requires-3
new-requires-3 c = record { settled = rw (c.since.ensures [] [] refl c.new.ensures.items) c.new-2.ensures.items; entered = refl }

said : (c : goal.After-drop-new) → c.match-listed.failed ≡ is_failed c.args.listed.now
said c = elim c.match-listed.branch [
  | in-Ok w ↦ search rules
  | in-Err-Failed w ↦ search rules
  | in-Err-NoMemory w ↦ search rules
]

pub returns : goal.returns
returns c =
    let none = c.since.ensures [] [] refl c.new.ensures.items in
    let known = said c in
    cc
