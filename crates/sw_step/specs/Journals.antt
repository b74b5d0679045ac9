-- Journals and histories whose doubts are changes: each doubt is one change whose call failed, by the entries that it would have entered. It was
-- made whole or not at all. (This project's own.)
use Rattle.std.specs.Prelude.{List, [], ◌∷◌, ◌++◌}
use Rattle.sw_history.specs.Halves.{HistoryOf, JournalOf}

abbrev pub StepJournal : Type 0 → Type 0
StepJournal E = JournalOf E (List E)

abbrev pub StepHistory : Type 0 → Type 0 → Type 0 → Type 0
StepHistory K V E = HistoryOf K V E (List E)

-- the entries of several changes, one after the other
abbrev pub flat : {E : Type 0} → List (List E) → List E
flat [] = []
flat (change ∷ changes) = change ++ flat changes
