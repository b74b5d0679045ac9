use Rattle.std.proofs.Common.{refl}
use Rattle.sw_listing_json.specs.Json.{subdir_data}
use Rattle.sw_listing_json.proofs.values.write_entry.Goals as goal

pub returns-in_ok-write_subdir-in-Subdir : goal.returns-in_ok-write_subdir-in-Subdir
returns-in_ok-write_subdir-in-Subdir c =
    rw c.in-Subdir.is (record { object = subdir_data c.in-Subdir.text; is = refl; adds = c.in_ok-write_subdir-in-Subdir.ensures })
