use Rattle.std.proofs.Common.{◌≡◌, ◌∙◌, Bool, Option, true, MatchOption, refl, sym, subst}
use Rattle.sw_container_store.specs.declared.open_list.OpenDatabase.{OpenDatabase}
use Rattle.sw_container_store.specs.Opening.{IsOpened}
use Rattle.sw_container_store.proofs.container_store.ContainerStore.find.Goals as goal

-- it was open
pub returns-in-Some-clause-found : goal.returns-in-Some-clause-found
returns-in-Some-clause-found g c =
    let is-open = sym c.in_ok-entry.ensures.found ∙ c.in-Some.is in
    let old = c.args.self.now.databases in
    let new = c.take.new.self.databases in
    let place = c.args.place.now in
    let entry = c.in-Some.entry in
    let finds : g.H.Databases.finds old place.hash true new =
    subst (λ (o : Option (OpenDatabase g.row.H-Open.Denot)). MatchOption o (new ≡ old) (λ _. g.H.Databases.finds old place.hash true new)) c.in-Some.is
    c.in_ok-entry.ensures.taken in
    record {
      mid = old;
      found = subst (λ (o : Option (OpenDatabase g.row.H-Open.Denot)). MatchOption o (g.H.Databases.finds old place.hash true old) (λ _. old ≡ old))
          (sym is-open) refl;
      reached = subst (λ (o : Option (OpenDatabase g.row.H-Open.Denot)). MatchOption o
          (IsOpened g.H.Databases.opens g.H.Open.Database.shows old new place entry)
          (λ (e : OpenDatabase g.row.H-Open.Denot). (entry ≡ e) × g.H.Databases.finds old place.hash true new)) (sym is-open) (refl, finds);
    }

-- it was opened
pub returns-clause-found : goal.returns-clause-found
returns-clause-found g c =
    let closed = sym c.in_ok-entry.ensures.found ∙ c.in_default.is in
    let old = c.args.self.now.databases in
    let mid = c.is_there.new.self in
    let new = c.open.new.self.databases in
    let place = c.args.place.now in
    let entry = c.in_ok-entry-2.entry in
    let same : c.take.new.self.databases ≡ old =
    subst (λ (o : Option (OpenDatabase g.row.H-Open.Denot)). MatchOption o (c.take.new.self.databases ≡ old)
    (λ _. g.H.Databases.finds old place.hash true c.take.new.self.databases)) c.in_default.is c.in_ok-entry.ensures.taken in
    record {
      mid = mid;
      found = subst (λ (o : Option (OpenDatabase g.row.H-Open.Denot)). MatchOption o (g.H.Databases.finds old place.hash true mid) (λ _. mid ≡ old))
          (sym closed)
          (subst (λ (h : g.row.H.Denot). g.H.Databases.finds h place.hash true mid) same
          (subst (λ (there : Bool). g.H.Databases.finds c.take.new.self.databases place.hash there mid) c.if-not-branch.false
          c.in_ok-is_there.ensures.finds));
      reached = subst (λ (o : Option (OpenDatabase g.row.H-Open.Denot)). MatchOption o
          (IsOpened g.H.Databases.opens g.H.Open.Database.shows mid new place entry)
          (λ (e : OpenDatabase g.row.H-Open.Denot). (entry ≡ e) × g.H.Databases.finds mid place.hash true new)) (sym closed) c.in_ok-entry-2.ensures.opened;
    }
