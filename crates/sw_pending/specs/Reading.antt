-- How the text of a record is read, line by line. (This project's own. What is promised of the text doesn't rest on these
-- definitions: they are a step of its proof.)
use Rattle.std.specs.Prelude.{ℕ, Bool, true, false, ◌==◌, nat_eq, nat_lt, List, [], ◌∷◌, length, drop, codes, if◌then◌else◌}
use Rattle.std.specs.Prelude.{Option, None, Some, Result, Ok, Err}
use Rattle.std.specs.List.{slice_split, starts_with}
use Rattle.std.specs.Str.{bytes_eq}
use Rattle.sw_hashpath.specs.Paths.{hash_of}
use Rattle.sw_hashpath.specs.declared.decode_error.BadFile.{BadFile}
use Rattle.sw_hashpath.specs.declared.decode_error.BadFile.TheVariants.{Header, Field, Length}
use Rattle.sw_hashpath.specs.declared.name.Name.{Name}
use Rattle.sw_hashpath.specs.declared.secrets.Secrets.{Secrets}
use Rattle.sw_metafile.specs.Reading.{◌>>=◌, delete_time_of, end_at, path_at, time_at, value_at}
use Rattle.sw_metafile.specs.declared.names.Names.{Names}
use Rattle.sw_pending.specs.Rules.{are_in_order, is_queue_right}
use Rattle.sw_pending.specs.Texts.{first_line}
use Rattle.sw_pending.specs.declared.filed.Filed.{Filed}

-- what stands after the first line
unfoldable pub after_first_line : List ℕ → Option (List ℕ)
after_first_line bytes = if starts_with nat_eq bytes first_line then Some (drop (length first_line) bytes) else None

-- the name of these, with its hash
abbrev pub name_of : Secrets → Names → Name
name_of secrets names = record {
  account = names.account;
  container = names.container;
  object = names.object;
  hash = hash_of secrets names.account (Some names.container) (Some names.object);
}

-- ---- the queue

unfoldable pub flag_of : List ℕ → Option Bool
flag_of text = if bytes_eq text (codes "0") then Some false else if bytes_eq text (codes "1") then Some true else None

unfoldable pub queue_at : List ℕ → List ℕ → Option (Bool × List ℕ)
queue_at account bytes = do
  line ← value_at (codes "queue ") bytes
  queue ← flag_of line.0
  if is_queue_right queue account then Some (queue, line.1) else None

-- ---- the devices that are done

abbrev pub is_comma : ℕ → Bool
is_comma b = b == 44

unfoldable pub device_of : List ℕ → Option ℕ
device_of text = do
  number ← delete_time_of text
  if nat_lt number 256 then Some number else None

-- each text as the number of a device
abbrev pub each_device : List (List ℕ) → Option (List ℕ)
each_device [] = Some []
each_device (text ∷ texts) = do
  device ← device_of text
  devices ← each_device texts
  Some (device ∷ devices)

unfoldable pub devices_of : List ℕ → Option (List ℕ)
devices_of text =
    if bytes_eq text (codes "-") then Some []
    else (do
      devices ← each_device (slice_split is_comma text)
      if are_in_order devices then Some devices else None)

unfoldable pub done_at : List ℕ → Option (List ℕ × List ℕ)
done_at bytes = do
  line ← value_at (codes "done ") bytes
  done ← devices_of line.0
  Some (done, line.1)

-- ---- the record

-- a record without the proofs that its type has
pub record Plain : Type 0 where
  pub name : Name
  pub time : ℕ
  pub queue : Bool
  pub done : List ℕ

abbrev pub plain : Filed → Plain
plain filed = record { name = filed.name; time = filed.time; queue = filed.queue; done = filed.done }

-- the lines of a record and the empty one, and what stands after them
unfoldable pub lines_at : Secrets → List ℕ → Option (Plain × List ℕ)
lines_at secrets bytes = do
  names ← path_at bytes
  time ← time_at names.1
  queue ← queue_at names.0.account time.1
  done ← done_at queue.1
  rest ← end_at done.1
  Some (record { name = name_of secrets names.0; time = time.0; queue = queue.0; done = done.0 }, rest)

abbrev pub unless_more : Option (Plain × List ℕ) → Result Plain BadFile
unless_more None = Err Field
unless_more (Some (record_, rest)) = if length rest == 0 then Ok record_ else Err Length

abbrev pub with_lines : Secrets → Option (List ℕ) → Result Plain BadFile
with_lines secrets None = Err Header
with_lines secrets (Some rest) = unless_more (lines_at secrets rest)

unfoldable pub record_at : Secrets → List ℕ → Result Plain BadFile
record_at secrets bytes = with_lines secrets (after_first_line bytes)
