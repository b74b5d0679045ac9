-- What is drafted are the changes before the index, and those that are left may be made.
use Rattle.std.proofs.Common.{◌≡◌, Some, drop}
use Rattle.sw_keeper.specs.Changes.{all_changed, IsBatch}
use Rattle.sw_keeper.specs.Drafts.{drafted, IsDraft}
use Rattle.sw_keeper.proofs.draft.draft_of.Given as goal

abbrev pub invariant-loop-change : goal.invariant-loop-change
invariant-loop-change l = record {
  is : IsDraft l.tables l.draft;
  fits : IsBatch (Some (drafted l.tables l.draft)) (drop l.change-index l.batch);
  made : all_changed (Some (drafted l.tables l.draft)) (drop l.change-index l.batch) ≡ all_changed (Some l.tables) l.batch;
}
