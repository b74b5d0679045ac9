-- All entries of a step are of its place.
use Rattle.std.proofs.Common.{◌≡◌, ◌≢◌, ℕ, Bool, true, false, cond, ◌&&◌, nat_lt, List, [], ◌∷◌, ◌++◌, Option, None, Some, refl, sym, ◌∙◌, ap, subst}
use Rattle.std.proofs.Common.{◌⊎◌, inl, inr}
use Rattle.std.specs.Str.{bytes_eq}
use Rattle.std.proofs.lemmas.Slice.Eq.{bytes_eq-Decides}
use Rattle.sw_hashpath.specs.declared.place.Place.{Place}
use Rattle.sw_rows.specs.Rows.{Listed, find_named, fits, merged}
use Rattle.sw_rows.specs.declared.row.Row.{Row}
use Rattle.sw_keeper.specs.declared.tables.Tables.{Tables}
use Rattle.sw_sync.specs.Points.{is_above, point_at}
use Rattle.sw_step.specs.Rules.{AllAt}
use Rattle.sw_container_steps.specs.Entries.{about, is_same_place, place_in, rows_of}
use Rattle.sw_container_steps.specs.Laws.{EntriesAreOfThePlace}
use Rattle.sw_container_steps.specs.Rules.{cont_rules}
use Rattle.sw_container_steps.specs.Steps.{created_by, creator, entries_for, merging_entries, rows_entries}
use Rattle.sw_container_steps.specs.declared.cont_change.ContChange.{ContChange}
use Rattle.sw_container_steps.specs.declared.cont_change.ContChange.TheVariants.{Create, Remove, MergeRow, MergeRows, SetRanges, Ack, CloseRange}
use Rattle.sw_container_steps.specs.declared.cont_change.ContChange.TheVariants.{EmptyOut, SetSync}
use Rattle.sw_container_steps.specs.declared.cont_entry.ContEntry.{ContEntry}
use Rattle.sw_container_steps.specs.declared.cont_entry.ContEntry.TheVariants.{Created, Merged, Acked, Closed, Emptied, Synced}

both : (p q : Bool) → (p && q) ≡ true → (p ≡ true) × (q ≡ true)
both true q is = (refl, is)
both false q is = cc

pub place-same : (a b : Place) → is_same_place a b ≡ true → a ≡ b
place-same a b is =
    let one = both (bytes_eq a.hash b.hash) (bytes_eq a.account b.account && bytes_eq a.container b.container) is in
    let two = both (bytes_eq a.account b.account) (bytes_eq a.container b.container) one.1 in
    let hash : a.hash ≡ b.hash = (bytes_eq-Decides a.hash b.hash).0 one.0 in
    let account : a.account ≡ b.account = (bytes_eq-Decides a.account b.account).0 two.0 in
    let container : a.container ≡ b.container = (bytes_eq-Decides a.container b.container).0 two.1 in
    λ i. record { account = account i; container = container i; hash = hash i }

bytes-self : (a : List ℕ) → bytes_eq a a ≡ true
bytes-self a = (bytes_eq-Decides a a).1 refl

pub place-self : (a : Place) → is_same_place a a ≡ true
place-self a = rw (bytes-self a.hash, bytes-self a.account, bytes-self a.container) refl

pub place-cases : (a b : Place) → (a ≡ b) ⊎ (a ≢ b)
place-cases a b = by (is_same_place a b) refl
  where
    clash : false ≡ true → ⊥
    clash same = cc

    by : (t : Bool) → is_same_place a b ≡ t → (a ≡ b) ⊎ (a ≢ b)
    by true is = inl (place-same a b is)
    by false is = inr (λ same. clash (sym is ∙ subst (λ (x : Place). is_same_place a x ≡ true) same (place-self a)))

place-other : (a b : Place) → a ≢ b → is_same_place a b ≡ false
place-other a b away = by (is_same_place a b) refl
  where
    by : (t : Bool) → is_same_place a b ≡ t → is_same_place a b ≡ false
    by true is = absurd (away (place-same a b is))
    by false is = is

about-own : (place : Place) (es : List ContEntry) → AllAt cont_rules place es → about place es ≡ es
about-own place [] all = refl
about-own place (e ∷ es) all =
    let here : is_same_place (place_in e) place ≡ true = subst (λ (x : Place). is_same_place x place ≡ true) (sym all.0) (place-self place) in
    rw here (ap (λ (xs : List ContEntry). e ∷ xs) (about-own place es all.1))

about-other : (place other : Place) (es : List ContEntry) → other ≢ place → AllAt cont_rules place es → about other es ≡ []
about-other place other [] away all = refl
about-other place other (e ∷ es) away all =
    let here : is_same_place (place_in e) other ≡ false = place-other (place_in e) other (λ same. away (sym same ∙ all.0)) in
    rw here (about-other place other es away all.1)

all-append : (place : Place) (xs ys : List ContEntry) → AllAt cont_rules place xs → AllAt cont_rules place ys → AllAt cont_rules place (xs ++ ys)
all-append place [] ys all more = more
all-append place (x ∷ xs) ys all more = (all.0, all-append place xs ys all.1 more)

merging-at : (l : Listed) (place : Place) (rows : List Row) → AllAt cont_rules place (merging_entries l place rows)
merging-at l place [] = tt
merging-at l place (row ∷ rows) = by (fits (find_named l.list row.name) row) (merging-at (merged l row) place rows)
  where
    by : (b : Bool) → AllAt cont_rules place (merging_entries (merged l row) place rows)
        → AllAt cont_rules place (cond b (Merged place row ∷ merging_entries (merged l row) place rows) (merging_entries (merged l row) place rows))
    by true rest = (refl, rest)
    by false rest = rest

created-at : (t : Option Tables) (place : Place) (row : Option Row) → AllAt cont_rules place (created_by t place row)
created-at t place None = tt
created-at t place (Some row) = (refl, tt)

rows-at : (t : Option Tables) (place : Place) (rows : List Row) → AllAt cont_rules place (rows_entries t place rows)
rows-at t place rows =
    all-append place (created_by t place (creator t place rows)) (merging_entries (rows_of t) place rows) (created-at t place (creator t place rows))
    (merging-at (rows_of t) place rows)

pub entries-at : (t : Option Tables) (place : Place) (change : ContChange) → AllAt cont_rules place (entries_for t place change)
entries-at None place (Create time) = (refl, tt)
entries-at (Some t) place (Create time) = by (nat_lt t.put_time time)
  where
    by : (b : Bool) → AllAt cont_rules place (cond b (Created place time ∷ []) [])
    by true = (refl, tt)
    by false = tt
entries-at t place (Remove time) = (refl, tt)
entries-at t place (MergeRow row) = rows-at t place (row ∷ [])
entries-at t place (MergeRows rows) = rows-at t place rows
entries-at t place (SetRanges ranges) = (refl, tt)
entries-at None place (Ack range device rowid) = tt
entries-at (Some t) place (Ack range device rowid) = by (is_above rowid (point_at t.points range device))
  where
    by : (b : Bool) → AllAt cont_rules place (cond b (Acked place range device rowid ∷ []) [])
    by true = (refl, tt)
    by false = tt
entries-at None place (CloseRange range devices) = tt
entries-at (Some t) place (CloseRange range devices) = by (nat_lt range t.cursor)
  where
    by : (b : Bool) → AllAt cont_rules place (cond b [] (Closed place range ∷ []))
    by true = tt
    by false = (refl, tt)
entries-at None place EmptyOut = tt
entries-at (Some t) place EmptyOut = by t.emptied
  where
    by : (b : Bool) → AllAt cont_rules place (cond b [] (Emptied place ∷ []))
    by true = tt
    by false = (refl, tt)
entries-at None place (SetSync device rowid) = tt
entries-at (Some t) place (SetSync device rowid) = by (is_above rowid (point_at t.syncs 0 device))
  where
    by : (b : Bool) → AllAt cont_rules place (cond b (Synced place device rowid ∷ []) [])
    by true = (refl, tt)
    by false = tt

pub entries-are-of-the-place : EntriesAreOfThePlace
entries-are-of-the-place t place change = (
  about-own place (entries_for t place change) (entries-at t place change),
  λ other away. about-other place other (entries_for t place change) away (entries-at t place change),
)
