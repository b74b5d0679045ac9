-- Entries that aren't copied yet. (This project's own.)
use Rattle.sw_listing.specs.declared.entry.Entry.{Entry}
use Rattle.sw_listing.specs.declared.entry.Entry.TheVariants as entry
use Rattle.sw_listing.specs.declared.shown.Shown.{Shown}
use Rattle.sw_listing.specs.declared.shown.Shown.TheVariants.{Row, Subdir}

-- the entry that will be copied
abbrev pub shown_entry : Shown → Entry
shown_entry (Row row) = entry.Row row.now
shown_entry (Subdir rolled) = entry.Subdir rolled.text.now
