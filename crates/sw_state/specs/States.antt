-- The state that writes of one name leave, after the cleanup rule in OpenStack Swift's documentation of its object
-- server: the latest data or tombstone counts, and the latest meta that is later than it.
use Rattle.std.specs.Prelude.{◌≡◌, ℕ, ◌<◌, Bool, true, false, List, [], ◌∷◌, ◌++◌, ◌↔◌, ◌&&◌, max, Contains, Option, None, Some}
use Rattle.sw_state.specs.Bases.{base_at, higher, is_above, is_new_base}
use Rattle.sw_state.specs.Metas.{Meta, above_base, is_after_base, is_after_meta, is_later, is_later-above_base, later, meta_at}
use Rattle.sw_state.specs.Writes.{tag_of}
use Rattle.sw_state.specs.declared.base.Base.{Base}
use Rattle.sw_state.specs.declared.base.Base.TheVariants as bases
use Rattle.sw_state.specs.declared.heads.Heads.{Heads}
use Rattle.sw_state.specs.declared.state.State.{State}
use Rattle.sw_state.specs.declared.write.Kind.TheVariants as kinds
use Rattle.sw_state.specs.declared.write.Write.{Write}
use Rattle.sw_timestamp.specs.declared.tag.Tag.{Tag}
use Rattle.sw_timestamp.specs.declared.tag.Tag.TheVariants as tags

-- the highest of the puts and deletions, and the first of equals
abbrev pub base_of : List Write → Option Base
base_of [] = None
base_of (w ∷ ws) = higher (base_at w.time w.kind) (base_of ws)

-- the meta of the greatest time, and the first of equals
abbrev pub latest_meta : List Write → Option Meta
latest_meta [] = None
latest_meta (w ∷ ws) = later (meta_at w.time w.kind) (latest_meta ws)

-- a base and a meta beside it, where that is later
abbrev pub state_with : Option Base → Option Meta → State
state_with b m = record { base = b; meta = above_base b m; meta_is_later = is_later-above_base b m }

-- the latest meta that is later than the base
abbrev pub top_of : List Write → Option Meta
top_of ws = above_base (base_of ws) (latest_meta ws)

abbrev pub state_of : List Write → State
state_of ws = state_with (base_of ws) (latest_meta ws)

-- the writes that a state consists of: that of its base, and then that of its meta
abbrev pub base_writes : Option Base → List Write
base_writes None = []
base_writes (Some (bases.Put time content)) = record { time = time; kind = kinds.Put content } ∷ []
base_writes (Some (bases.Del time)) = record { time = time; kind = kinds.Del } ∷ []

abbrev pub meta_writes : Option Meta → List Write
meta_writes None = []
meta_writes (Some m) = record { time = m.0; kind = kinds.Meta m.1 } ∷ []

abbrev pub writes_of : State → List Write
writes_of s = base_writes s.base ++ meta_writes s.meta

-- a state with one write more
abbrev pub joined : State → Write → State
joined s w = state_of (writes_of s ++ w ∷ [])

-- the state of two states together
abbrev pub together : State → State → State
together v u = state_of (writes_of v ++ writes_of u)

-- a state that another adds nothing to
abbrev pub IsAtLeast : State → State → Type 0
IsAtLeast v u = together v u ≡ v

-- what the two parts of a state say of the writes, as relations: the base is the base of one of the writes and none is
-- above it, or there is none
abbrev pub IsBaseOf : List Write → Option Base → Type 0
IsBaseOf ws None = (w : Write) → Contains ws w → base_at w.time w.kind ≡ None
IsBaseOf ws (Some b) =
    ((w : Write) × Contains ws w × (base_at w.time w.kind ≡ Some b))
    × ((w : Write) (c : Base) → Contains ws w → base_at w.time w.kind ≡ Some c → is_above c b ≡ false)

-- the top is the meta of one of the writes, is later than the base, and none of the metas is later than it; or no meta
-- is later than the base
abbrev pub IsTopOf : List Write → Option Base → Option Meta → Type 0
IsTopOf ws base None = (w : Write) (n : Meta) → Contains ws w → meta_at w.time w.kind ≡ Some n → is_later base (Some n) ≡ false
IsTopOf ws base (Some m) =
    ((w : Write) × Contains ws w × (meta_at w.time w.kind ≡ Some m))
    × (is_later base (Some m) ≡ true)
    × ((w : Write) (n : Meta) → Contains ws w → meta_at w.time w.kind ≡ Some n → ¬ (m.0 < n.0))

pub record IsStateOf (ws : List Write) (s : State) : Type 0 where
  pub is_base : IsBaseOf ws s.base
  pub is_top : IsTopOf ws s.base s.meta

-- writes of one kind and time are equal
abbrev pub Agree : List Write → Type 0
Agree ws = (v w : Write) → Contains ws v → Contains ws w → v.time ≡ w.time → tag_of v.kind ≡ tag_of w.kind → v ≡ w

-- two lists have the same writes, in whatever order and however often
abbrev pub SameWrites : List Write → List Write → Type 0
SameWrites ws vs = (w : Write) → Contains ws w ↔ Contains vs w

-- whether a write of this time and tag would change the state
abbrev pub is_new : State → ℕ → Tag → Bool
is_new s time tags.Put = is_new_base s.base time false
is_new s time tags.Del = is_new_base s.base time true
is_new s time tags.Meta = is_after_base s.base time && is_after_meta s.meta time

-- the metadata of an object: the meta's, where there is one, and else the content's
abbrev pub heads_beside : Option Base → Option Meta → Option Heads
heads_beside None m = None
heads_beside (Some (bases.Del time)) m = None
heads_beside (Some (bases.Put time content)) None = Some content.heads
heads_beside (Some (bases.Put time content)) (Some m) = Some m.1

abbrev pub effective_heads : State → Option Heads
effective_heads s = heads_beside s.base s.meta

-- the time of an object: the later of its content's and its meta's
abbrev pub time_beside : Option Base → Option Meta → Option ℕ
time_beside None m = None
time_beside (Some (bases.Del time)) m = None
time_beside (Some (bases.Put time content)) None = Some time
time_beside (Some (bases.Put time content)) (Some m) = Some (max time m.0)

abbrev pub object_time : State → Option ℕ
object_time s = time_beside s.base s.meta
