-- What lines tell lasts: it is so as well of all lines that begin with these; and what came is so of all that end with these.
use Rattle.std.proofs.Common.{◌≡◌, ℕ, List, ◌∷◌, ◌++◌, ◌∙◌, ap, append_assoc, inl, inr}
use Rattle.std.proofs.lemmas.List.Elements.{All-weaker, Contains-append_left, Contains-append_right}
use Rattle.std.specs.Prelude.{Contains}
use Rattle.sw_container_steps.specs.declared.cont_answer.ContAnswer.{ContAnswer}
use Rattle.sw_container_steps.specs.declared.cont_answer.ContAnswer.TheVariants.{Redirect}
use Rattle.sw_container_steps.specs.declared.cont_change.ContChange.{ContChange}
use Rattle.sw_container_steps.specs.declared.cont_change.ContChange.TheVariants.{Create, MergeRow, MergeRows}
use Rattle.sw_container_steps.specs.declared.sharding.Sharding.{Sharding}
use Rattle.sw_hashpath.specs.declared.place.Place.{Place}
use Rattle.sw_hashpath.specs.declared.secrets.Secrets.{Secrets}
use Rattle.sw_machine.specs.Honest.{AllTook, AreMade, CameTo, IsAcknowledged, ToldRange, WasOffered, WasPushed, WasTaken, WasTold}
use Rattle.sw_machine.specs.Machine.{Came, RunLine, Went}
use Rattle.sw_machine.specs.Messages.{Update_of}
use Rattle.sw_pending.specs.declared.key.RecordKey.{RecordKey}
use Rattle.sw_rows.specs.declared.row.Row.{Row}
use Rattle.sw_shard_range.specs.declared.range.Range.{Range}

-- it is so as well of lines that begin with such ones
abbrev pub Lasts : (List RunLine → Type 0) → Type 0
Lasts so = (xs ys : List RunLine) → so xs → so (xs ++ ys)

-- it is so as well of lines that end with such ones
abbrev pub Remains : (List RunLine → Type 0) → Type 0
Remains so = (xs ys : List RunLine) → so ys → so (xs ++ ys)

-- a line with lines before and behind it, and more of these
pub split-on : (xs ys before : List RunLine) (line : RunLine) (behind : List RunLine) → xs ≡ before ++ line ∷ behind
    → xs ++ ys ≡ before ++ line ∷ (behind ++ ys)
split-on xs ys before line behind is = ap (λ (lines : List RunLine). lines ++ ys) is ∙ append_assoc before (line ∷ behind) ys

module _ (device : ℕ) (place : Place) where
  -- ---- what came to a container

  module _ (change : ContChange) where
    pub came-lasts : (answer : ContAnswer) → Lasts (λ lines. CameTo lines device place change answer)
    came-lasts answer xs ys is = record {
      came = is.came;
      entries = is.entries;
      among = Contains-append_left xs ys (Came is.came) is.among;
      device_is = is.device_is;
      event_is = is.event_is;
    }

    pub came-remains : (answer : ContAnswer) → Remains (λ lines. CameTo lines device place change answer)
    came-remains answer xs ys is = record {
      came = is.came;
      entries = is.entries;
      among = Contains-append_right xs ys (Came is.came) is.among;
      device_is = is.device_is;
      event_is = is.event_is;
    }

    pub taken-lasts : Lasts (λ lines. WasTaken lines device place change)
    taken-lasts xs ys is = (is.0, came-lasts is.0 xs ys is.1, is.2)

    pub taken-remains : Remains (λ lines. WasTaken lines device place change)
    taken-remains xs ys is = (is.0, came-remains is.0 xs ys is.1, is.2)

  -- ---- what it told of its ranges

  module _ (sharding : Sharding) (index : ℕ) (range : Range) where
    pub told-lasts : Lasts (λ lines. ToldRange lines device place sharding index range)
    told-lasts xs ys is = record {
      came = is.came;
      entries = is.entries;
      among = Contains-append_left xs ys (Came is.came) is.among;
      device_is = is.device_is;
      event_is = is.event_is;
      ranges = is.ranges;
      split = is.split;
      is_there = is.is_there;
    }

module _ (secrets : Secrets) (replicas : Place → List ℕ) where
  -- ---- why it keeps a point for a device of a shard

  pub offered-lasts : (device : ℕ) (place : Place) (index to rowid : ℕ) → Lasts (λ lines. WasOffered secrets replicas lines device place index to rowid)
  offered-lasts device place index to rowid xs ys is = record {
    sharding = is.sharding;
    range = is.range;
    parcel = is.parcel;
    above = is.above;
    before = is.before;
    came = is.came;
    entries = is.entries;
    behind = is.behind ++ ys;
    lines_are = split-on xs ys is.before (Came is.came) is.behind is.lines_are;
    told = is.told;
    above_is = is.above_is;
    device_is = is.device_is;
    event_is = is.event_is;
    rowid_is = is.rowid_is;
    taken = taken-lasts to is.range.shard (MergeRows is.parcel.rows) is.behind ys is.taken;
  }

  -- ---- rows that count as acknowledged

  pub all-took-lasts : (place : Place) (change : ContChange) → Lasts (λ lines. AllTook secrets replicas lines place change)
  all-took-lasts place change xs ys took = λ r among. taken-lasts r place change xs ys (took r among)

  pub acknowledged-lasts : (device : ℕ) (place : Place) (row : Row) → Lasts (λ lines. IsAcknowledged secrets replicas lines device place row)
  acknowledged-lasts device place row xs ys (inl taken) = inl (taken-lasts device place (MergeRow row) xs ys taken)
  acknowledged-lasts device place row xs ys (inr left) =
      inr (left.0, came-lasts device place (MergeRow row) (Redirect left.0) xs ys left.1, all-took-lasts left.0 (MergeRow row) xs ys left.2)

  pub pushed-lasts : (device : ℕ) (place : Place) (to rowid : ℕ) → Lasts (λ lines. WasPushed secrets replicas lines device place to rowid)
  pushed-lasts device place to rowid xs ys is = record {
    parcel = is.parcel;
    before = is.before;
    came = is.came;
    entries = is.entries;
    behind = is.behind ++ ys;
    lines_are = split-on xs ys is.before (Came is.came) is.behind is.lines_are;
    device_is = is.device_is;
    event_is = is.event_is;
    rowid_is = is.rowid_is;
    acknowledged = All-weaker (IsAcknowledged secrets replicas is.behind to place) (IsAcknowledged secrets replicas (is.behind ++ ys) to place)
        (λ row. acknowledged-lasts to place row is.behind ys) is.parcel.rows is.acknowledged;
  }

  pub was-told-lasts : (device : ℕ) (key : RecordKey) (to : ℕ) → Lasts (λ lines. WasTold secrets replicas lines device key to)
  was-told-lasts device key to xs ys is = record {
    filed = is.filed;
    place = is.place;
    row = is.row;
    before = is.before;
    behind = is.behind ++ ys;
    key_is = is.key_is;
    lines_are = split-on xs ys is.before (Went device (Update_of to is.filed is.place is.place is.row)) is.behind is.lines_are;
    acknowledged = acknowledged-lasts to is.place is.row is.behind ys is.acknowledged;
  }

  -- ---- shards that were made

  -- a replica of the shard was created
  abbrev pub AreThere : List RunLine → Range → Type 0
  AreThere lines range = (r : ℕ) → Contains (replicas range.shard) r → (time : ℕ) × WasTaken lines r range.shard (Create time)

  pub are-there-lasts : (range : Range) → Lasts (λ lines. AreThere lines range)
  are-there-lasts range xs ys there = λ r among. let one = there r among in (one.0, taken-lasts r range.shard (Create one.0) xs ys one.1)

  pub made-lasts : (place : Place) (ranges : List Range) → Lasts (λ lines. AreMade secrets replicas lines place ranges)
  made-lasts place ranges xs ys are = record {
    plain = are.plain;
    tiled = are.tiled;
    made = All-weaker (AreThere xs) (AreThere (xs ++ ys)) (λ range. are-there-lasts range xs ys) ranges are.made;
  }
