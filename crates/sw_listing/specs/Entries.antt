-- Entries of a listing, and their plain text. (The OpenStack Swift documentation, "Show container details and list
-- objects": a name and a newline each.)
use Rattle.std.specs.Prelude.{ℕ, List, [], ◌∷◌, ◌++◌}
use Rattle.std.specs.List.{flat_map}
use Rattle.sw_listing.specs.declared.entry.Entry.{Entry}
use Rattle.sw_listing.specs.declared.entry.Entry.TheVariants.{Row, Subdir}

-- the text that an entry is ordered by and listed as
abbrev pub entry_text : Entry → List ℕ
entry_text (Row row) = row.name
entry_text (Subdir text) = text

-- each entry's text and a newline
abbrev pub lines : List Entry → List ℕ
lines entries = flat_map (λ entry. entry_text entry ++ 10 ∷ []) entries
