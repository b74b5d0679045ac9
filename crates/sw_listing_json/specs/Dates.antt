-- The date that a time is listed as: ISO 8601 in UTC with six decimals, as OpenStack Swift lists `last_modified`.
use Rattle.std.specs.Prelude.{◌≡◌, ℕ, ◌*◌, List, Some, false, pos}
use Rattle.jiff.specs.Types.{DateTime as Moment}
use Rattle.jiff.specs.Words.{civil_nanos, datetime_text}

-- the text shows the moment of this many units of 10 microseconds since 1970, which are 10,000 nanoseconds each. 84 is 'T'
pub record IsListedTime (units : ℕ) (text : List ℕ) : Type 0 where
  pub shown : Moment
  pub nanos : civil_nanos shown ≡ pos (units * 10000)
  pub is_text : text ≡ datetime_text false 84 (Some 6) shown
