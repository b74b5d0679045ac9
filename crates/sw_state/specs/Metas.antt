-- Which metadata stands. OpenStack Swift's documentation of its object server lets the latest meta file count, where it
-- is later than the data; that the first stays where two have one time is this project's own.
use Rattle.std.specs.Prelude.{◌≡◌, refl, ℕ, Bool, true, false, nat_lt, if◌then◌else◌, Option, None, Some}
use Rattle.sw_state.specs.Bases.{base_time}
use Rattle.sw_state.specs.declared.base.Base.{Base}
use Rattle.sw_state.specs.declared.heads.Heads.{Heads}
use Rattle.sw_state.specs.declared.write.Kind.{Kind}
use Rattle.sw_state.specs.declared.write.Kind.TheVariants as kinds

-- a change of metadata: its time and the heads
abbrev pub Meta : Type 0
Meta = ℕ × Heads

-- the change of metadata that a write of this time and kind is, if it is one
abbrev pub meta_at : ℕ → Kind → Option Meta
meta_at time (kinds.Put content) = None
meta_at time kinds.Del = None
meta_at time (kinds.Meta heads) = Some (time, heads)

-- the later one, and else the first
abbrev pub later : Option Meta → Option Meta → Option Meta
later m None = m
later None (Some n) = Some n
later (Some m) (Some n) = Some (if nat_lt m.0 n.0 then n else m)

-- whether the meta, where there is one, is later than the base, where there is one
abbrev pub is_later : Option Base → Option Meta → Bool
is_later base None = true
is_later None (Some m) = true
is_later (Some b) (Some m) = nat_lt (base_time b) m.0

-- the meta where it counts beside the base
abbrev pub above_base : Option Base → Option Meta → Option Meta
above_base base m = if is_later base m then m else None

pub is_later-above_base : (base : Option Base) (m : Option Meta) → is_later base (above_base base m) ≡ true
is_later-above_base base m = by_test (is_later base m) refl
  where
    by_test : (b : Bool) → is_later base m ≡ b → is_later base (if b then m else None) ≡ true
    by_test true is = is
    by_test false is = refl

-- whether a meta of this time would be later than a base and than a meta, where there are these
abbrev pub is_after_base : Option Base → ℕ → Bool
is_after_base None time = true
is_after_base (Some b) time = nat_lt (base_time b) time

abbrev pub is_after_meta : Option Meta → ℕ → Bool
is_after_meta None time = true
is_after_meta (Some m) time = nat_lt m.0 time
