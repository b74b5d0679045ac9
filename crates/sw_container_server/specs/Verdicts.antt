-- What a verb asks for at its container: its tests in their order, each with the status that refuses what fails it, and what is asked for where
-- all are passed. (OpenStack Swift's container server; the order of the tests is this project's own.)
use Rattle.std.specs.Prelude.{◌≡◌, ℕ, true, false, List, [], ◌∷◌, codes, None, Some, IsSome}
use Rattle.std.specs.Option.{option_map_or}
use Rattle.md5.specs.Md5.{md5}
use Rattle.sw_container_steps.specs.declared.cont_change.ContChange.TheVariants as changes
use Rattle.sw_fields.specs.Fields.{IsTimeOf}
use Rattle.sw_listing.specs.Queries.{ReadsAs, fault_of}
use Rattle.sw_listing.specs.declared.bad_query.BadQuery.{BadQuery}
use Rattle.sw_listing.specs.declared.bad_query.BadQuery.TheVariants as bad
use Rattle.sw_listing.specs.declared.query.Query.{Query}
use Rattle.sw_message.specs.declared.fields.Field.{Field}
use Rattle.sw_message.specs.declared.request.Request.{Request}
use Rattle.sw_object_server.specs.Tests.{IsDecided}
use Rattle.sw_ring.specs.declared.ring.Ring.{Ring}
use Rattle.sw_rows.specs.declared.row.Row.{Row}
use Rattle.sw_container_server.specs.RowFields.{AsksReplica, IsReplica, etag_of, size_of, type_of}
use Rattle.sw_container_server.specs.declared.verb.Verb.{Verb}
use Rattle.sw_container_server.specs.declared.verb.Verb.TheVariants as verbs
use Rattle.sw_container_server.specs.declared.verdict.Verdict.{Verdict}
use Rattle.sw_container_server.specs.declared.verdict.Verdict.TheVariants as verdicts

-- ---- the tests

-- its fields give the step a time
abbrev pub HasTime : Request → Type 0
HasTime r = (time : ℕ) × IsTimeOf r.fields time

-- its fields tell how many bytes the object of the row has, its media type and its ETag
abbrev pub HasSize : Request → Type 0
HasSize r = IsSome (size_of r.fields)

abbrev pub HasType : Request → Type 0
HasType r = IsSome (type_of r.fields)

abbrev pub HasEtag : Request → Type 0
HasEtag r = IsSome (etag_of r.fields)

-- nothing is wrong with its query
abbrev pub HasQuery : Request → Type 0
HasQuery r = fault_of r.query ≡ None

-- the status that refuses a query with this fault
abbrev pub bad_query_status : BadQuery → ℕ
bad_query_status bad.NotText = 400
bad_query_status bad.Limit = 412
bad_query_status bad.Delimiter = 412
bad_query_status bad.Format = 400
bad_query_status bad.NoMemory = 500

-- the status that refuses a query, by the first thing that is wrong with it
abbrev pub query_status : List ℕ → ℕ
query_status query = option_map_or bad_query_status (fault_of query) 400

-- what a step has to pass that is a creation, a deletion or a deleted row
abbrev pub time_tests : Request → List (ℕ × Type 0)
time_tests r = (400, HasTime r) ∷ []

-- what a live row has to pass
abbrev pub row_tests : Request → List (ℕ × Type 0)
row_tests r = (400, HasTime r) ∷ (400, HasSize r) ∷ (400, HasType r) ∷ (400, HasEtag r) ∷ []

-- what a read has to pass
abbrev pub read_tests : Ring → Request → List (ℕ × Type 0)
read_tests ring r = (400, IsReplica ring r.fields) ∷ []

-- what a listing has to pass
abbrev pub list_tests : Ring → Request → List (ℕ × Type 0)
list_tests ring r = (query_status r.query, HasQuery r) ∷ read_tests ring r

-- what a verb has to pass
abbrev pub verb_tests : Ring → Request → Verb → List (ℕ × Type 0)
verb_tests ring r verbs.Put = time_tests r
verb_tests ring r verbs.Delete = time_tests r
verb_tests ring r verbs.Get = list_tests ring r
verb_tests ring r verbs.Head = read_tests ring r
verb_tests ring r verbs.PutRow = row_tests r
verb_tests ring r verbs.DeleteRow = time_tests r

-- ---- rows

-- the live row of this name that the fields tell of
pub record IsRowOf (name : List ℕ) (fields : List Field) (row : Row) : Type 0 where
  pub name_is : row.name ≡ name
  pub time : IsTimeOf fields row.created_at
  pub size : size_of fields ≡ Some row.size
  pub type : type_of fields ≡ Some row.content_type
  pub etag : etag_of fields ≡ Some row.etag
  pub live : row.deleted ≡ false

-- the deleted row of this name at the time that the fields give: it has no bytes, and so the ETag of none
pub record IsDeletedRowOf (name : List ℕ) (fields : List Field) (row : Row) : Type 0 where
  pub name_is : row.name ≡ name
  pub time : IsTimeOf fields row.created_at
  pub size : row.size ≡ 0
  pub type : row.content_type ≡ codes "text/plain"
  pub etag : row.etag ≡ md5 []
  pub deleted : row.deleted ≡ true

-- ---- what is asked for

abbrev pub Creates : Request → Verdict → Type 0
Creates r verdict = (time : ℕ) × IsTimeOf r.fields time × (verdict ≡ verdicts.Change (changes.Create time))

abbrev pub Removes : Request → Verdict → Type 0
Removes r verdict = (time : ℕ) × IsTimeOf r.fields time × (verdict ≡ verdicts.Change (changes.Remove time))

abbrev pub PutsRow : List ℕ → Request → Verdict → Type 0
PutsRow name r verdict = (row : Row) × IsRowOf name r.fields row × (verdict ≡ verdicts.Change (changes.MergeRow row))

abbrev pub DeletesRow : List ℕ → Request → Verdict → Type 0
DeletesRow name r verdict = (row : Row) × IsDeletedRowOf name r.fields row × (verdict ≡ verdicts.Change (changes.MergeRow row))

abbrev pub Lists : Ring → Request → Verdict → Type 0
Lists ring r verdict =
    (query : Query) × (replica : ℕ) × ReadsAs r.query query × AsksReplica ring r.fields replica × (verdict ≡ verdicts.List query replica)

abbrev pub Informs : Ring → Request → Verdict → Type 0
Informs ring r verdict = (replica : ℕ) × AsksReplica ring r.fields replica × (verdict ≡ verdicts.Info replica)

-- what a verb asks for that passes its tests; the name is that of the row, where it is one of a row's
abbrev pub Yields : Ring → List ℕ → Request → Verb → Verdict → Type 0
Yields ring name r verbs.Put verdict = Creates r verdict
Yields ring name r verbs.Delete verdict = Removes r verdict
Yields ring name r verbs.Get verdict = Lists ring r verdict
Yields ring name r verbs.Head verdict = Informs ring r verdict
Yields ring name r verbs.PutRow verdict = PutsRow name r verdict
Yields ring name r verbs.DeleteRow verdict = DeletesRow name r verdict

-- ---- verdicts: the first test that fails decides

abbrev pub IsCreationRead : Request → Verdict → Type 0
IsCreationRead r = IsDecided (time_tests r) verdicts.Refused (Creates r)

abbrev pub IsRemovalRead : Request → Verdict → Type 0
IsRemovalRead r = IsDecided (time_tests r) verdicts.Refused (Removes r)

abbrev pub IsListRead : Ring → Request → Verdict → Type 0
IsListRead ring r = IsDecided (list_tests ring r) verdicts.Refused (Lists ring r)

abbrev pub IsInfoRead : Ring → Request → Verdict → Type 0
IsInfoRead ring r = IsDecided (read_tests ring r) verdicts.Refused (Informs ring r)

abbrev pub IsRowRead : List ℕ → Request → Verdict → Type 0
IsRowRead name r = IsDecided (row_tests r) verdicts.Refused (PutsRow name r)

abbrev pub IsDeletedRowRead : List ℕ → Request → Verdict → Type 0
IsDeletedRowRead name r = IsDecided (time_tests r) verdicts.Refused (DeletesRow name r)

abbrev pub IsVerdict : Ring → List ℕ → Request → Verb → Verdict → Type 0
IsVerdict ring name r verb = IsDecided (verb_tests ring r verb) verdicts.Refused (Yields ring name r verb)
