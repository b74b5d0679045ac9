-- A listing across is that of any rows of the live objects.
use Rattle.std.proofs.Common.{◌≡◌, ℕ, false, not, filter, List, sym, ◌∙◌, ap, subst}
use Rattle.std.specs.List.{Contains}
use Rattle.sw_hashpath.specs.declared.place.Place.{Place}
use Rattle.sw_listing_laws.specs.Laws.{AreLiveRows, DoAgree, IsLive}
use Rattle.sw_listing_laws.specs.Plain.{Cluster}
use Rattle.sw_machine.specs.Machine.{Machine}
use Rattle.sw_object_steps.specs.BaseRows.{IsRowOf}
use Rattle.sw_pending_laws.proofs.Rows.{counts-both-time}
use Rattle.sw_rows.specs.declared.numbered.Numbered.{Numbered}
use Rattle.sw_shard_listing.proofs.Members.{contains-in, in-contains}
use Rattle.sw_shard_listing.proofs.Showing.{of-its-rows}
use Rattle.sw_shard_listing.proofs.Splitting.{add-up, filter-in, in-filter}
use Rattle.sw_sharded_listing.specs.Parts.{Part}
use Rattle.sw_state.specs.Bases.{base_time, is_deletion}
use Rattle.sw_state.specs.declared.base.Base.{Base}
use Rattle.sw_across_laws.proofs.Bases.{one-row}
use Rattle.sw_across_laws.proofs.Live.{all, all-named-once, are-live, live, parts}
use Rattle.sw_across_laws.proofs.Names.{one-name}
use Rattle.sw_across_laws.proofs.Once.{once-is}
use Rattle.sw_across_laws.specs.Laws.{AcrossIsExact, AreLiveAcross}
use Rattle.sw_across_laws.specs.Picked.{held_segments}
use Rattle.sw_across_laws.specs.Showable.{AreNamed}

module _ (c : Cluster) (m : Machine) (named : AreNamed c m) (same : DoAgree m) (place : Place) where
  -- an object is live by one put alone
  one-live : (object : List ℕ) (a b : Base) → IsLive c m place object a → IsLive c m place object b → a ≡ b
  one-live object a b p q =
      same p.device q.device p.by q.by a b p.known q.known names p.base_is q.base_is
      (counts-both-time (base_time a) (is_deletion a) (base_time b) (is_deletion b) (p.greatest q.device q.by b q.known (sym names) q.base_is)
      (q.greatest p.device p.by a p.known names p.base_is))
      (p.is_put ∙ sym q.is_put)
    where
      names : (p.by).name ≡ (q.by).name
      names =
          one-name c place (p.by).name (q.by).name (named p.device p.by p.known).0 (named q.device q.by q.known).0 p.place_is q.place_is
          (p.object_is ∙ sym q.object_is)

  -- rows of the live objects are those of any others
  same-rows : (xs ys : List Numbered) → AreLiveRows c m place xs → AreLiveRows c m place ys → (n : Numbered) → Contains xs n
      → (k : Numbered) × Contains ys k × (k.row ≡ n.row)
  same-rows xs ys these those n i =
      let a = these.sound n i in
      let k = those.whole n.row.name a.0 a.1 in
      let b = those.sound k.0 k.1 in
      let base : b.0 ≡ a.0 = one-live n.row.name b.0 a.0 (subst (λ (x : List ℕ). IsLive c m place x b.0) k.2 b.1) a.1 in (
        k.0,
        k.1,
        one-row n.row.name a.0 (k.0).row n.row
            (subst (λ (x : Base). IsRowOf n.row.name x (k.0).row) base (subst (λ (x : List ℕ). IsRowOf x b.0 (k.0).row) k.2 b.2)) a.2,
      )

pub across-exact : AcrossIsExact
across-exact c root m place can named same device ring t there pick picked rows are query =
    add-up query (held_segments m ps) is.whole is.in_turn
    ∙ of-its-rows query ns rows (once-is ns (all-named-once c root m place can named device ring t there pick picked query.reverse))
    (once-is rows are.once) forth back
  where
    ps : List Part
    ps = parts c root m place can named device ring t there pick picked query.reverse

    ns : List Numbered
    ns = all c root m place can named device ring t there pick picked query.reverse

    is : AreLiveAcross c m place query.reverse (held_segments m ps)
    is = are-live c root m place can named device ring t there pick picked query.reverse

    forth : (n : Numbered) → Contains ns n → n.row.deleted ≡ false → (k : Numbered) × Contains rows k × (k.row ≡ n.row)
    forth n i shown =
        same-rows c m named same place (filter live ns) rows is.live are n
        (in-contains n (filter live ns) (in-filter live ns n (contains-in n ns i) (ap not shown)))

    back : (n : Numbered) → Contains rows n → n.row.deleted ≡ false → (k : Numbered) × Contains ns k × (k.row ≡ n.row)
    back n i shown =
        let k = same-rows c m named same place rows (filter live ns) are is.live n i in
        (k.0, in-contains k.0 ns (filter-in live ns k.0 (contains-in k.0 (filter live ns) k.1)).0, k.2)
