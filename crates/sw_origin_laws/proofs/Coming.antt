-- A step that comes to a container, from the device itself or in a message, brings what is of its root.
use Rattle.std.proofs.Common.{◌≡◌, ℕ, List, [], refl, sym, ◌∙◌, subst}
use Rattle.std.proofs.lemmas.List.Elements.{All-cons, All-nil, All-weaker}
use Rattle.std.specs.List.{All, Contains}
use Rattle.sw_container_steps.specs.declared.cont_answer.ContAnswer.{ContAnswer}
use Rattle.sw_container_steps.specs.declared.cont_change.ContChange.{ContChange}
use Rattle.sw_container_steps.specs.declared.cont_change.ContChange.TheVariants.{Create, Remove, MergeRow, MergeRows, SetRanges, Ack, CloseRange}
use Rattle.sw_container_steps.specs.declared.cont_change.ContChange.TheVariants.{EmptyOut, SetSync}
use Rattle.sw_container_steps.specs.declared.cont_entry.ContEntry.{ContEntry}
use Rattle.sw_hashpath.specs.declared.place.Place.{Place}
use Rattle.sw_listing_laws.specs.Plain.{Cluster}
use Rattle.sw_machine.specs.Honest.{IsHonestChange}
use Rattle.sw_machine.specs.Machine.{Machine, RunLine}
use Rattle.sw_machine.specs.Messages.{Arrives, Creation_of, Message, Ranges_of, Row_of, Rows_of, Update_of, Write_of}
use Rattle.sw_peer.specs.declared.cont_event.ContEvent.TheVariants as cont_events
use Rattle.sw_peer.specs.declared.line.Event.TheVariants.{AtContainer}
use Rattle.sw_peer.specs.declared.link.Link.{Link}
use Rattle.sw_peer.specs.declared.link.Link.TheVariants.{Local, Sent}
use Rattle.sw_rows.specs.declared.row.Row.{Row}
use Rattle.sw_shard_range.specs.declared.range.Range.{Range}
use Rattle.sw_origin_laws.proofs.Lists.{AreShards}
use Rattle.sw_origin_laws.proofs.Origins.{AllBringOfRoot, BringsOfRoot, IsOfOne}
use Rattle.sw_origin_laws.proofs.Turning.{MayCome}
use Rattle.sw_origin_laws.specs.Roots.{AreRoots, IsRootedChange, IsRootedRow}

-- at the device itself, or in a message
either-link : {R : Type 0} (link : Link) → (link ≡ Local → R) → (link ≡ Sent → R) → R
either-link Local here there = here refl
either-link Sent here there = there refl

module _ (c : Cluster) (root : Place → Place) (m : Machine) (place : Place) where
  abbrev May : ContChange → Type 0
  May change = MayCome c root m place change

  abbrev Rooted : Row → Type 0
  Rooted row = IsRootedRow c root m place row

  no-ranges : AreShards (IsOfOne root place) []
  no-ranges = All-nil (λ (r : Range). IsOfOne root place r.shard)

  with-row : (row : Row) → Rooted row → May (MergeRow row)
  with-row row is = record { rows = All-cons Rooted row [] is (All-nil Rooted); ranges = no-ranges }

  with-rows : (rows : List Row) → All Rooted rows → May (MergeRows rows)
  with-rows rows are = record { rows = are; ranges = no-ranges }

  with-ranges : (ranges : List Range) → AreShards (IsOfOne root place) ranges → May (SetRanges ranges)
  with-ranges ranges are = record { rows = All-nil Rooted; ranges = are }

  -- ---- in a message

  arrives : (device : ℕ) (change : ContChange) (answer : ContAnswer) (entries : List ContEntry) (message : Message)
      → Arrives message device (AtContainer (cont_events.Changed place change answer) entries) → BringsOfRoot c root m message → May change
  arrives device change answer entries (Write_of to name write) comes is = absurd comes
  arrives device change answer entries (Row_of to p at row) comes is =
      subst May (sym comes.2) (with-row row (subst (λ (q : Place). IsRootedRow c root m q row) (sym comes.1) is))
  arrives device change answer entries (Rows_of to p at rows) comes is =
      subst May (sym comes.2) (with-rows rows (subst (λ (q : Place). All (IsRootedRow c root m q) rows) (sym comes.1) is))
  arrives device change answer entries (Update_of to filed p at row) comes is =
      subst May (sym comes.2) (with-row row (subst (λ (q : Place). IsRootedRow c root m q row) (sym comes.1) is))
  arrives device change answer entries (Creation_of to p time) comes is =
      subst May (sym comes.2) (record { rows = All-nil Rooted; ranges = no-ranges })
  arrives device change answer entries (Ranges_of to p ranges) comes is =
      subst May (sym comes.2) (with-ranges ranges (subst (λ (q : Place). AreShards (IsOfOne root q) ranges) (sym comes.1) is))

  -- ---- at the device itself

  module _ (roots : AreRoots root) (done : List RunLine) (device : ℕ) where
    -- a list is set of a container that is its own root
    own : (ranges : List Range) → IsHonestChange c.nodes.secrets c.replicas done device place (SetRanges ranges)
        → All (λ (r : Range). root r.shard ≡ place) ranges → AreShards (IsOfOne root place) ranges
    own ranges honest are =
        All-weaker (λ (r : Range). root r.shard ≡ place) (λ (r : Range). IsOfOne root place r.shard)
        (λ (r : Range). λ (is : root r.shard ≡ place). is ∙ sym (roots.own place honest.plain)) ranges are

    local-may : (change : ContChange) → IsRootedChange c root m place change → IsHonestChange c.nodes.secrets c.replicas done device place change
        → May change
    local-may (Create time) rooted honest = record { rows = All-nil Rooted; ranges = no-ranges }
    local-may (Remove time) rooted honest = record { rows = All-nil Rooted; ranges = no-ranges }
    local-may (MergeRow row) rooted honest = with-row row rooted
    local-may (MergeRows rows) rooted honest = with-rows rows rooted
    local-may (SetRanges ranges) rooted honest = with-ranges ranges (own ranges honest rooted)
    local-may (Ack range other rowid) rooted honest = record { rows = All-nil Rooted; ranges = no-ranges }
    local-may (CloseRange range devices) rooted honest = record { rows = All-nil Rooted; ranges = no-ranges }
    local-may EmptyOut rooted honest = record { rows = All-nil Rooted; ranges = no-ranges }
    local-may (SetSync other rowid) rooted honest = record { rows = All-nil Rooted; ranges = no-ranges }

    pub may-come : AllBringOfRoot c root m m.sent → (link : Link) (change : ContChange) (answer : ContAnswer) (entries : List ContEntry)
        → (link ≡ Sent
        → (message : Message) × Contains m.sent message
        × Arrives message device (AtContainer (cont_events.Changed place change answer) entries))
        → (link ≡ Local → IsRootedChange c root m place change)
        → (link ≡ Local → IsHonestChange c.nodes.secrets c.replicas done device place change) → May change
    may-come bring link change answer entries sent rooted honest =
        either-link link (λ is. local-may change (rooted is) (honest is))
        (λ is. let got = sent is in arrives device change answer entries got.0 got.2 (bring got.0 got.1))
