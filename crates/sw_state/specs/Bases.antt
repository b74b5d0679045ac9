-- Which put or deletion stands. OpenStack Swift's documentation lets the latest time win; that a deletion wins over a
-- put of its time, and that what came first stays where neither wins, is this project's own.
use Rattle.std.specs.Prelude.{ℕ, Bool, true, false, ◌&&◌, ◌||◌, ◌==◌, not, nat_lt, if◌then◌else◌, Option, None, Some}
use Rattle.sw_state.specs.declared.base.Base.{Base}
use Rattle.sw_state.specs.declared.base.Base.TheVariants as bases
use Rattle.sw_state.specs.declared.write.Kind.{Kind}
use Rattle.sw_state.specs.declared.write.Kind.TheVariants as kinds
use Rattle.sw_timestamp.specs.declared.tag.Tag.{Tag}
use Rattle.sw_timestamp.specs.declared.tag.Tag.TheVariants as tags

abbrev pub base_time : Base → ℕ
base_time (bases.Put time content) = time
base_time (bases.Del time) = time

abbrev pub is_deletion : Base → Bool
is_deletion (bases.Put time content) = false
is_deletion (bases.Del time) = true

abbrev pub base_tag : Base → Tag
base_tag (bases.Put time content) = tags.Put
base_tag (bases.Del time) = tags.Del

-- the base that a write of this time and kind is, if it is one
abbrev pub base_at : ℕ → Kind → Option Base
base_at time (kinds.Put content) = Some (bases.Put time content)
base_at time kinds.Del = Some (bases.Del time)
base_at time (kinds.Meta heads) = None

-- whether one base is above another: the later one is, and where both have one time the deletion of a put
abbrev pub is_above : Base → Base → Bool
is_above b a = nat_lt (base_time a) (base_time b) || ((base_time a == base_time b) && (is_deletion b && not (is_deletion a)))

-- the one that is above the other, and else the first
abbrev pub higher : Option Base → Option Base → Option Base
higher a None = a
higher None (Some b) = Some b
higher (Some a) (Some b) = Some (if is_above b a then b else a)

-- whether a put or deletion of this time would be above a base, where there is one
abbrev pub is_new_base : Option Base → ℕ → Bool → Bool
is_new_base None time deletion = true
is_new_base (Some b) time deletion =
    nat_lt (base_time b) time || ((base_time b == time) && (deletion && not (is_deletion b)))
