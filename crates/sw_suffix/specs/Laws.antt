-- What is promised of the text of a suffix. (This project's own.)
use Rattle.std.specs.Prelude.{◌≡◌, List}
use Rattle.sw_suffix.specs.SuffixLines.{AreSuffixLines}
use Rattle.sw_suffix.specs.SuffixTexts.{suffix_text}
use Rattle.sw_suffix.specs.declared.dir_line.DirLine.{DirLine}

-- two lists of lines with one text are one list
abbrev pub LinesFromText : Type 0
LinesFromText = (lines others : List DirLine) → AreSuffixLines lines → AreSuffixLines others → suffix_text lines ≡ suffix_text others → lines ≡ others
