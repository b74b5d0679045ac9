-- A walk over rows in the order of names, which stops at the limit and passes over what is rolled up. (This project's own.)
use Rattle.std.specs.Prelude.{◌≡◌, ℕ, Bool, true, false, List, [], ◌∷◌, ◌++◌, ⊤, Option, None, Some}
use Rattle.std.specs.Cmp.Lexicographic.{slice_cmp}
use Rattle.std.specs.Ordering.{is_le, is_lt, nat_cmp}
use Rattle.sw_listing.specs.Listing.{shows}
use Rattle.sw_listing.specs.declared.entry.Entry.{Entry}
use Rattle.sw_listing.specs.declared.query.Query.{Query}
use Rattle.sw_rows.specs.Names.{ListsBetween}
use Rattle.sw_rows.specs.declared.numbered.Numbered.{Numbered}
use Rattle.sw_rows.specs.declared.row.Row.{Row}

-- a row taken from the front, or from the back
abbrev pub Takes : Bool → List Row → Row → List Row → Type 0
Takes true old row new = old ≡ new ++ row ∷ []
Takes false old row new = old ≡ row ∷ new

-- rows passed over at the front, or at the back
abbrev pub Joins : Bool → List Row → List Row → List Row → Type 0
Joins true old passed new = old ≡ new ++ passed
Joins false old passed new = old ≡ passed ++ new

-- none of these rows is listed
abbrev pub AreHidden : Query → List Row → Type 0
AreHidden query [] = ⊤
AreHidden query (row ∷ rows) = (shows query row ≡ None) × AreHidden query rows

-- rows that aren't listed were passed over
pub record Skips (query : Query) (old new : List Row) : Type 0 where
  pub passed : List Row
  pub joined : Joins query.reverse old passed new
  pub hidden : AreHidden query passed

-- the next row that is listed was taken
pub record Finds (query : Query) (old : List Row) (entry : Entry) (new : List Row) : Type 0 where
  pub row : Row
  pub met : List Row
  pub skips : Skips query old met
  pub takes : Takes query.reverse met row new
  pub shown : shows query row ≡ Some entry

-- the next entry, or none where no row that is left is listed
abbrev pub IsNext : Query → List Row → Option Entry → List Row → Type 0
IsNext query old None new = (new ≡ []) × Skips query old new
IsNext query old (Some entry) new = Finds query old entry new

-- a text above the names that begin with this one, which are text themselves
abbrev pub above_all : List ℕ → List ℕ
above_all text = text ++ 255 ∷ []

-- no name that is listed lies below the bound
abbrev pub IsLower : Query → List ℕ → Type 0
IsLower query lower = (row : Row) (entry : Entry) → shows query row ≡ Some entry → is_le (slice_cmp nat_cmp lower row.name) ≡ true

-- each name that is listed lies below the bound
abbrev pub IsUpper : Query → List ℕ → Type 0
IsUpper query upper = (row : Row) (entry : Entry) → shows query row ≡ Some entry → is_lt (slice_cmp nat_cmp row.name upper) ≡ true

-- the rows behind those that are rolled up to a text, in the direction of the listing
abbrev pub AreBeyond : Bool → List ℕ → List ℕ → List ℕ → List Numbered → List Row → Type 0
AreBeyond true lower upper text list rows = ListsBetween lower text list rows
AreBeyond false lower upper text list rows = ListsBetween (above_all text) upper list rows
