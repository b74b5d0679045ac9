-- The numbers of what is wrong with a file. (This project's own.)
use Rattle.std.specs.Prelude.{ℕ}
use Rattle.sw_hashpath.specs.declared.decode_error.BadFile.{BadFile}
use Rattle.sw_hashpath.specs.declared.decode_error.BadFile.TheVariants.{Header, Field, Length}

abbrev pub bad_file_number : BadFile → ℕ
bad_file_number Header = 1
bad_file_number Field = 2
bad_file_number Length = 3
