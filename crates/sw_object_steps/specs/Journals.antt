-- The journal of an object lock: what was made since it began, and what may have been; its limits; and what a read of an object
-- shows. (This project's own; what is shown is that of OpenStack Swift's object server.)
use Rattle.std.specs.Prelude.{◌≡◌, ⊤, ℕ, ◌+◌, Bool, true, false, ◌&&◌, nat_le, List, [], ◌∷◌, ◌++◌, length, if◌then◌else◌}
use Rattle.std.specs.Str.{bytes_eq}
use Rattle.sw_state.specs.declared.state.State.{State}
use Rattle.sw_state.specs.declared.write.Kind.{Kind}
use Rattle.sw_state.specs.declared.write.Kind.TheVariants as kinds
use Rattle.sw_state.specs.declared.write.Write.{Write}
use Rattle.sw_history.specs.Halves.{JournalOf}
use Rattle.sw_object_steps.specs.Steps.{got_of}
use Rattle.sw_object_steps.specs.declared.entry.ObjEntry.{ObjEntry}
use Rattle.sw_object_steps.specs.declared.entry.ObjEntry.TheVariants.{Dropped, Files, Marked, Wrote}
use Rattle.sw_object_steps.specs.declared.got.Got.{Got}
use Rattle.sw_object_steps.specs.declared.got.Got.TheVariants as gots

-- the hash of a name: the 16 bytes that name its directory
abbrev pub Hash : Type 0
Hash = List ℕ

abbrev pub Journal : Type 0
Journal = JournalOf ObjEntry ObjEntry

-- the writes of a hash among the entries, in order
abbrev pub written : Hash → List ObjEntry → List Write
written hash [] = []
written hash (Wrote name write records ∷ entries) = if bytes_eq name.hash hash then write ∷ written hash entries else written hash entries
written hash (Files by filed ∷ entries) = written hash entries
written hash (Marked by filed device ∷ entries) = written hash entries
written hash (Dropped by filed ∷ entries) = written hash entries

-- ---- limits

abbrev pub body_size : Kind → ℕ
body_size (kinds.Put content) = length content.body
body_size kinds.Del = 0
body_size (kinds.Meta heads) = 0

-- how large the body in an entry is
abbrev pub entry_size : ObjEntry → ℕ
entry_size (Wrote name write records) = body_size write.kind
entry_size (Files by filed) = 0
entry_size (Marked by filed device) = 0
entry_size (Dropped by filed) = 0

abbrev pub bodies : List ObjEntry → ℕ
bodies [] = 0
bodies (entry ∷ entries) = entry_size entry + bodies entries

-- whether there is room for this entry
abbrev pub has_room : Journal → ObjEntry → Bool
has_room j entry =
    nat_le (length j.entries + length j.doubts + 1) j.max_entries
    && nat_le (bodies j.entries + bodies j.doubts + entry_size entry) j.max_bytes

-- ---- one entry more

-- what it tells was made
abbrev pub with_entry : Journal → ObjEntry → Journal
with_entry j entry = record j { entries = j.entries ++ entry ∷ [] }

-- it may have been made
abbrev pub with_doubt : Journal → ObjEntry → Journal
with_doubt j entry = record j { doubts = j.doubts ++ entry ∷ [] }

-- ---- a read of what stands for s, with this front
abbrev pub Shows : Bool → State → ℕ → Got → Type 0
Shows told s front (gots.Found time content heads at) = (at ≡ front) × (told ≡ true → gots.Found time content heads at ≡ got_of s front)
Shows told s front (gots.NotFound time) = told ≡ true → gots.NotFound time ≡ got_of s front
Shows told s front (gots.Damaged bad) = told ≡ false
Shows told s front gots.Failed = ⊤
Shows told s front gots.NoMemory = ⊤
