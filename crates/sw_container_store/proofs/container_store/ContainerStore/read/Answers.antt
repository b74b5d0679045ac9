use Rattle.std.proofs.Common.{◌≡◌, ◌∙◌, ◌∷◌, ◌++◌, [], Option, List, MatchOption, is_some, if◌then◌else◌, inr, ap, subst}
use Rattle.sw_container_store.specs.declared.open_list.OpenDatabase.{OpenDatabase}
use Rattle.sw_container_store.specs.OpenList.{beside}
use Rattle.sw_container_store.specs.Opening.{IsAbsent, IsFound}
use Rattle.sw_container_store.proofs.container_store.ContainerStore.read.Goals as goal

-- it was found, and told these tables
pub returns-clause-loaded : goal.returns-clause-loaded
returns-clause-loaded g c =
    let old = c.args.self.now.databases in
    let new = c.find.new.self.databases in
    let list = c.args.self.now.opened in
    let place = c.args.place.now in
    let entry = c.in-Some.entry in
    let rest : c.find.new.self.opened ≡ beside list place =
    subst (λ (o : Option (OpenDatabase g.row.H-Open.Denot)). c.find.new.self.opened ≡ (if is_some o then beside list place else list)) c.in-Some.is
    c.in_ok-entry.ensures.rest in
    inr record {
      entry = entry;
      found = subst (λ (o : Option (OpenDatabase g.row.H-Open.Denot)). MatchOption o (IsAbsent g.H.Databases.finds old new list place)
          (IsFound g.H.Databases.finds g.H.Databases.opens g.H.Open.Database.shows old new list place)) c.in-Some.is c.in_ok-entry.ensures.found;
      read = c.tables_in.new.database;
      told = c.in_ok-tables.ensures.told;
      list = c.put.ensures
          ∙ ap (λ (opened : List (OpenDatabase g.row.H-Open.Denot)). opened ++ record entry { database = c.tables_in.new.database } ∷ []) rest;
    }
