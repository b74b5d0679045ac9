-- The row that tells a container of what stands under a name, for a record of it. (This project's own. A deletion's row is the one that a container node
-- makes where it is asked to delete a row.)
use Rattle.std.specs.Prelude.{◌≡◌, ℕ, true, false, List, [], length, codes, Option, None, Some}
use Rattle.md5.specs.Md5.{md5}
use Rattle.sw_object_steps.specs.Recorded.{is_gone}
use Rattle.sw_pending.specs.declared.filed.Filed.{Filed}
use Rattle.sw_rows.specs.declared.row.Row.{Row}
use Rattle.sw_state.specs.declared.base.Base.{Base}
use Rattle.sw_state.specs.declared.base.Base.TheVariants as bases
use Rattle.sw_state.specs.declared.content.Content.{Content}
use Rattle.sw_state.specs.declared.state.State.{State}

-- the row tells of this content, put at this time
pub record IsPutRow (object : List ℕ) (time : ℕ) (content : Content) (row : Row) : Type 0 where
  pub name_is : row.name ≡ object
  pub time_is : row.created_at ≡ time
  pub size_is : row.size ≡ length content.body
  pub type_is : row.content_type ≡ content.content_type
  pub etag_is : row.etag ≡ content.etag
  pub live : row.deleted ≡ false

-- the row tells of a deletion at this time
pub record IsDelRow (object : List ℕ) (time : ℕ) (row : Row) : Type 0 where
  pub name_is : row.name ≡ object
  pub time_is : row.created_at ≡ time
  pub size_is : row.size ≡ 0
  pub type_is : row.content_type ≡ codes "text/plain"
  pub etag_is : row.etag ≡ md5 []
  pub deleted : row.deleted ≡ true

-- the row tells that this base stands under the name
abbrev pub IsRowOf : List ℕ → Base → Row → Type 0
IsRowOf object (bases.Put time content) row = IsPutRow object time content row
IsRowOf object (bases.Del time) row = IsDelRow object time row

-- what has to be told for the record: none where nothing stands that is as late, and else what stands
abbrev pub IsBaseFor : Filed → State → Option Row → Type 0
IsBaseFor filed s None = is_gone s filed.time ≡ true
IsBaseFor filed s (Some row) = (base : Base) × (s.base ≡ Some base) × (is_gone s filed.time ≡ false) × IsRowOf filed.name.object base row
