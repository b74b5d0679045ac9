-- A replica's live rows are those of the live objects, so it lists what these do; and so does each listing that comes.
use Rattle.std.proofs.Common.{◌≡◌, ℕ, Bool, true, false, cond, not, ◌&&◌, List, [], ◌∷◌, length, Option, None, Some, Ok, Err, refl, sym, ◌∙◌, ap, subst}
use Rattle.std.specs.List.{Contains}
use Rattle.std.specs.Str.{IsUtf8}
use mathlib.Core.HLevel.{is_prop→PathP}
use mathlib.Core.Logic.{∥∥₁_prop}
use Rattle.sw_container_steps.specs.Entries.{rows_of}
use Rattle.sw_container_steps.specs.Presence.{deletion_after, is_no_time}
use Rattle.sw_container_steps.proofs.Unsplit.{unsplit-shows}
use Rattle.sw_container_steps.specs.Reads.{listing_of}
use Rattle.sw_container_steps.specs.Serving.{IsUnsplit, unserved}
use Rattle.sw_container_steps.specs.declared.cont_answer.ContAnswer.TheVariants as answers
use Rattle.sw_container_steps.specs.declared.cont_entry.ContEntry.{ContEntry}
use Rattle.sw_hashpath.specs.declared.place.Place.{Place}
use Rattle.sw_keeper.specs.declared.tables.Tables.{Tables}
use Rattle.sw_listing.proofs.Walks.{IsShown}
use Rattle.sw_listing.specs.Asking.{is_asked, rolled_text}
use Rattle.sw_listing.specs.Listing.{entry_of, listing, shows}
use Rattle.sw_listing.specs.declared.entry.Entry.{Entry}
use Rattle.sw_listing.specs.declared.query.Query.{Query}
use Rattle.sw_machine.proofs.Runs.{rows-are-merged}
use Rattle.sw_machine.specs.Machine.{Came, Comes, ContReads, ContSide, Machine, RunLine}
use Rattle.sw_machine.specs.Sides.{TellsAt}
use Rattle.sw_object_steps.specs.BaseRows.{IsRowOf}
use Rattle.sw_peer.specs.Sights.{Nodes, cont_lock}
use Rattle.sw_peer.specs.declared.line.Event.{Event}
use Rattle.sw_pending_laws.proofs.Rows.{counts-both-time}
use Rattle.sw_pending_laws.specs.Laws.{begun}
use Rattle.sw_pending_laws.specs.Ledger.{Ledger, covers}
use Rattle.sw_rows.specs.Rows.{IsNamedOnce, Listed}
use Rattle.sw_rows.specs.declared.numbered.Numbered.{Numbered}
use Rattle.sw_rows.specs.declared.row.Row.{Row}
use Rattle.sw_state.specs.Bases.{base_time, is_deletion}
use Rattle.sw_state.specs.declared.base.Base.{Base}
use Rattle.sw_state.specs.declared.base.Base.TheVariants as bases
use Rattle.sw_listing_laws.proofs.Accounts.{Accounts}
use Rattle.sw_listing_laws.proofs.Grounds.{ground-place, named-object, one-hash, one-name}
use Rattle.sw_listing_laws.proofs.Listing.{contained-in, in-contained, listing-one, row-found, row-itself}
use Rattle.sw_listing_laws.proofs.Running.{IsAtEnd, ends}
use Rattle.sw_listing_laws.proofs.Showing.{begins, kept-shows}
use Rattle.sw_listing_laws.proofs.Splitting.{IsKept, unsplit-kept, whole-kept}
use Rattle.sw_listing_laws.specs.Laws.{AreLiveRows, DoAgree, IsLive, IsNew, IsSettled, ListingsAreExact, SettledContainersListExactly, ShowsExactly}
use Rattle.sw_listing_laws.specs.Plain.{Cluster, IsNamed, RunsSoundly}

-- ---- rows of one live object are one

same-row : (a b : Row) → a.name ≡ b.name → a.created_at ≡ b.created_at → a.size ≡ b.size → a.content_type ≡ b.content_type → a.etag ≡ b.etag
    → a.deleted ≡ b.deleted → a ≡ b
same-row a b names times sizes types etags states =
    λ i. record {
      name = names i;
      created_at = times i;
      size = sizes i;
      content_type = types i;
      etag = etags i;
      deleted = states i;
      is_text = is_prop→PathP (λ j. ∥ IsUtf8 (names j) ∥₁) (λ j. ∥∥₁_prop) a.is_text b.is_text i;
      is_type_text = is_prop→PathP (λ j. ∥ IsUtf8 (types j) ∥₁) (λ j. ∥∥₁_prop) a.is_type_text b.is_type_text i;
    }

-- a base has one row
one-row : (object : List ℕ) (base : Base) (a b : Row) → IsRowOf object base a → IsRowOf object base b → a ≡ b
one-row object (bases.Put time content) a b p q =
    same-row a b (p.name_is ∙ sym q.name_is) (p.time_is ∙ sym q.time_is) (p.size_is ∙ sym q.size_is) (p.type_is ∙ sym q.type_is) (p.etag_is ∙ sym q.etag_is)
    (p.live ∙ sym q.live)
one-row object (bases.Del time) a b p q =
    same-row a b (p.name_is ∙ sym q.name_is) (p.time_is ∙ sym q.time_is) (p.size_is ∙ sym q.size_is) (p.type_is ∙ sym q.type_is) (p.etag_is ∙ sym q.etag_is)
    (p.deleted ∙ sym q.deleted)

-- bases of which each covers the other have one time
one-time : (b c : Base) → covers b c ≡ true → covers c b ≡ true → base_time b ≡ base_time c
one-time b c over back = counts-both-time (base_time b) (is_deletion b) (base_time c) (is_deletion c) over back

-- only what is live is shown
shown-live : (gone asked : Bool) (o : Option Entry) (e : Entry) → cond (not gone && asked) o None ≡ Some e → gone ≡ false
shown-live true asked o e is = cc
shown-live false asked o e is = refl

module _ (c : Cluster) (m : Machine) (l : Ledger) (accounts : Accounts c m l) (same : DoAgree m) (place : Place) where
  -- an object is live by one put alone
  one-live : (object : List ℕ) (a b : Base) → IsLive c m place object a → IsLive c m place object b → a ≡ b
  one-live object a b p q =
      same p.device q.device p.by q.by a b p.known q.known names p.base_is q.base_is
      (one-time a b (p.greatest q.device q.by b q.known (sym names) q.base_is) (q.greatest p.device p.by a p.known names p.base_is)) (p.is_put ∙ sym q.is_put)
    where
      named_p : IsNamed c (p.by).name
      named_p = accounts.objects.known.named p.device p.by p.known

      named_q : IsNamed c (q.by).name
      named_q = accounts.objects.known.named q.device q.by q.known

      names : (p.by).name ≡ (q.by).name
      names =
          one-name c (p.by).name (q.by).name named_p named_q
          (one-hash c (p.by).name (q.by).name named_p named_q
          (sym (ground-place c (p.by).name place named_p p.place_is) ∙ ground-place c (q.by).name place named_q q.place_is)
          (named-object c (p.by).name named_p ∙ (p.object_is ∙ (sym q.object_is ∙ sym (named-object c (q.by).name named_q)))))

  one-live-row : (object : List ℕ) (a b : Base) (row other : Row) → IsLive c m place object a → IsRowOf object a row → IsLive c m place object b
      → IsRowOf object b other → row ≡ other
  one-live-row object a b row other p is_row q is_other =
      one-row object b row other (subst (λ (x : Base). IsRowOf object x row) (one-live object a b p q) is_row) is_other

  -- ---- what a replica lists

  module _ (device : ℕ) (kept : IsKept (m.containers.half.holds device place)) (shown : (object : List ℕ) → ShowsExactly c m device place object)
      (rows : List Numbered) (are : AreLiveRows c m place rows) where
    abbrev held : List Numbered
    held = (rows_of (m.containers.half.holds device place)).list

    once : IsNamedOnce held
    once = subst (λ (t : Listed). IsNamedOnce t.list) (accounts.containers.rows device place kept) (accounts.containers.listed device place).once

    module _ (query : Query) where
      forth : (e : Entry) → IsShown query held e → IsShown query rows e
      forth e (n, there, is) =
          let live : n.row.deleted ≡ false =
          shown-live n.row.deleted (is_asked query n.row.name) (entry_of query n.row (rolled_text query.delimiter (length query.prefix) n.row.name)) e is in
          let s = (shown n.row.name).shown n.row (row-itself held n once there) live in
          let w = are.whole n.row.name s.0 s.1 in
          let t = are.sound w.0 w.1 in
          let same_row : n.row ≡ (w.0).row =
          one-live-row n.row.name s.0 t.0 n.row (w.0).row s.1 s.2 (subst (λ (o : List ℕ). IsLive c m place o t.0) w.2 t.1)
          (subst (λ (o : List ℕ). IsRowOf o t.0 (w.0).row) w.2 t.2) in
          (w.0, in-contained rows w.0 w.1, sym (ap (shows query) same_row) ∙ is)

      back : (e : Entry) → IsShown query rows e → IsShown query held e
      back e (n, there, is) =
          let t = are.sound n (contained-in rows n there) in
          let s = (shown n.row.name).live t.0 t.1 in
          let f = row-found held n.row.name s.0 s.1 in
          let same_row : (f.0).row ≡ n.row = f.2 ∙ one-row n.row.name t.0 s.0 n.row s.3 t.2 in
          (f.0, f.1, ap (shows query) same_row ∙ is)

      pub lists-exactly : listing query held ≡ listing query rows
      lists-exactly = listing-one query held rows once are.once forth back

kept-lists : (c : Cluster) (m : Machine) (lines : List RunLine) (after : Machine) → IsNew c m → RunsSoundly c [] m lines after → DoAgree after
    → (place : Place) → c.is_hidden place ≡ false → IsSettled c after place → (device : ℕ) → Contains (c.replicas place) device
    → IsKept (after.containers.half.holds device place) → (rows : List Numbered) → AreLiveRows c after place rows → (query : Query)
    → listing query (rows_of (after.containers.half.holds device place)).list ≡ listing query rows
kept-lists c m lines after new run same place shown all device ring kept rows are query =
    let e : IsAtEnd c after = ends c lines [] m begun after (begins c m new) run in
    lists-exactly c after e.ledger e.accounts same place device kept
    (λ object. kept-shows c m lines after new run same place shown all device ring kept object) rows are query

pub settled-lists : SettledContainersListExactly
settled-lists c m lines after new run same place shown all device ring whole rows are query =
    kept-lists c m lines after new run same place shown all device ring (whole-kept (after.containers.half.holds device place) whole) rows are query

-- ---- what comes in a run

-- a listing that is read is that of the rows of the device
read-listed : (nodes : Nodes) (m after : ContSide) (device : ℕ) (place : Place) (query : Query) (listed : List Entry) (entries : List ContEntry)
    → ContReads nodes m device place (listing_of query) (Ok listed) entries after → TellsAt (cont_lock nodes) after device place
    → IsUnsplit (m.half.holds device place) → listed ≡ listing query (rows_of (m.half.holds device place)).list
read-listed nodes m after device place query listed entries reads told whole =
    let stands : reads.step.read place ≡ m.half.holds device place =
    reads.step.held refl told refl place refl ∙ (reads.is_held place refl ∙ reads.holds device place) in
    at (m.half.holds device place) whole (reads.step.shown refl ∙ ap (λ (t : Option Tables). listing_of query t 0) stands)
  where
    present : (t : Tables) (b : Bool) → IsUnsplit (Some t) → Ok listed ≡ cond b (Ok (listing query (unserved t))) (Err answers.Absent)
        → listed ≡ listing query t.rows.list
    present t true whole is =
        let all : listed ≡ listing query (unserved t) = cc in
        all ∙ ap (λ (ns : List Numbered). listing query ns) (unsplit-shows t whole)
    present t false whole is = cc

    at : (o : Option Tables) → IsUnsplit o → Ok listed ≡ listing_of query o 0 → listed ≡ listing query (rows_of o).list
    at None whole is = cc
    at (Some t) whole is = present t (is_no_time (deletion_after t.put_time t.delete_time)) whole is

pub listings-exact : ListingsAreExact
listings-exact c m lines mid line after new run step same place query listed entries event shown all ring whole rows are =
    let e : IsAtEnd c mid = ends c lines [] m begun mid (begins c m new) run in
    let came = subst (λ (x : Event). Comes c.nodes mid line.device x line.added after) event step.1 in
    let told : TellsAt (cont_lock c.nodes) after.containers line.device place =
    ((rows-are-merged c.nodes mid (Came line ∷ []) after (after, step, refl)).place line.device place (e.accounts.containers.tell line.device place)).told in
    let kept = unsplit-kept (mid.containers.half.holds line.device place) (e.accounts.containers.split line.device place) whole in
    read-listed c.nodes mid.containers after.containers line.device place query listed entries came.1 told whole
    ∙ kept-lists c m lines mid new run same place shown all line.device ring kept rows are query
