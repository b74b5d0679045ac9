-- How far the devices of a shard are known to have the rows of its range. (That a point is kept for each of them is this project's own.)
use Rattle.std.specs.Prelude.{ℕ, ◌-◌, ◌^◌, min, unwrap_or, List, fold}
use Rattle.sw_sync.specs.Points.{PointList, point_at}

-- the least number that is kept for a range and one of these devices; 0 where one of them has none
abbrev pub least_point : PointList → ℕ → List ℕ → ℕ
least_point points range devices = fold (λ least device. min least (unwrap_or (point_at points range device) 0)) (2 ^ 64 - 1) devices
