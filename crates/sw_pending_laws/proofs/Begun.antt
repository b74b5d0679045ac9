-- Where nothing has happened there is nothing of which anything could fail.
use Rattle.std.proofs.Common.{◌≡◌, None, Some}
use Rattle.sw_rows.specs.declared.row.Row.{Row}
use Rattle.sw_pending_laws.proofs.Among.{none-among}
use Rattle.sw_pending_laws.specs.Laws.{BegunIsSound, begun}
use Rattle.sw_pending_laws.specs.Ledger.{Ground}
use Rattle.sw_pending_laws.specs.Sound.{ComesFromClients, IsSteady}

begun-steady : (g : Ground) → IsSteady g begun
begun-steady g = record {
  recorded = λ d key b asked. absurd (none-among (record { device = d; hash = key.hash; base = b }) asked);
  own = λ a asked. absurd (none-among a asked);
  sent = λ t told. absurd (none-among t told);
  heard = λ h told. absurd (none-among h told);
}

no-row : (row : Row) → None ≡ Some row → ⊥
no-row row is = cc

begun-plain : (g : Ground) → ComesFromClients g begun
begun-plain g = record {
  rows = λ d p name row shown found. absurd (no-row row found);
  origin = λ a reached. absurd (none-among a reached);
  sent = λ t told. absurd (none-among t told);
}

pub begun-sound : BegunIsSound
begun-sound g = (begun-steady g, begun-plain g)
