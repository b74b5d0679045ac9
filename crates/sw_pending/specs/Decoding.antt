-- What bytes are read as, as a function of them. (This project's own; `specs/Outcomes` says what it means.)
use Rattle.std.specs.Prelude.{◌≡◌, ℕ, ⊤, Bool, true, false, refl, List, Option, None, Some, Result, Ok, Err}
use Rattle.sw_hashpath.specs.declared.decode_error.BadFile.{BadFile}
use Rattle.sw_hashpath.specs.declared.decode_error.BadFile.TheVariants.{Field}
use Rattle.sw_hashpath.specs.declared.decode_error.DecodeError.{DecodeError}
use Rattle.sw_hashpath.specs.declared.decode_error.DecodeError.TheVariants.{Bad, NoMemory}
use Rattle.sw_hashpath.specs.declared.secrets.Secrets.{Secrets}
use Rattle.sw_pending.specs.Reading.{Plain, record_at}
use Rattle.sw_pending.specs.Rules.{are_in_order, is_queue_right}
use Rattle.sw_pending.specs.declared.filed.Filed.{Filed}

-- records have rules; where one is broken there is none
abbrev pub record_if : (p : Plain) (a b : Bool) → is_queue_right p.queue p.name.account ≡ a → are_in_order p.done ≡ b → Option Filed
record_if p true true right order = Some (record { name = p.name; time = p.time; queue = p.queue; done = p.done; queue_right = right; in_order = order })
record_if p true false right order = None
record_if p false b right order = None

abbrev pub record_of_plain : Plain → Option Filed
record_of_plain p = record_if p (is_queue_right p.queue p.name.account) (are_in_order p.done) refl refl

abbrev pub or_field : Option Filed → Result Filed BadFile
or_field None = Err Field
or_field (Some filed) = Ok filed

abbrev pub decoded_from : Result Plain BadFile → Result Filed BadFile
decoded_from (Ok p) = or_field (record_of_plain p)
decoded_from (Err bad) = Err bad

-- the record that the bytes are, or their fault
unfoldable pub decoded : Secrets → List ℕ → Result Filed BadFile
decoded secrets bytes = decoded_from (record_at secrets bytes)

-- what an answer says of what the bytes are read as; want of memory says nothing
abbrev pub IsRead : Result Filed DecodeError → Result Filed BadFile → Type 0
IsRead (Ok filed) read = read ≡ Ok filed
IsRead (Err (Bad bad)) read = read ≡ Err bad
IsRead (Err NoMemory) read = ⊤
