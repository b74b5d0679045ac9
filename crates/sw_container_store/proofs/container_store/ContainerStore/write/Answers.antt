use Rattle.std.proofs.Common.{◌∙◌, ◌∷◌, ◌++◌, [], ap}
use Rattle.sw_container_store.proofs.container_store.ContainerStore.write.Goals as goal

pub returns-clause-made : goal.returns-clause-made
returns-clause-made g c = record {
  entry = c.in_ok-entry.entry;
  reached = c.in_ok-entry.ensures.reached;
  made = c.make.new.database;
  asked = c.in_ok-make.ensures.runs;
  list = c.put.ensures ∙ ap (λ list. list ++ record c.in_ok-entry.entry { database = c.make.new.database } ∷ []) c.in_ok-entry.ensures.rest;
}
