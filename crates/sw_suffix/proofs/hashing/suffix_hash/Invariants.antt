use Rattle.std.proofs.Common.{take}
use Rattle.md5.specs.Md5.{Holds}
use Rattle.sw_suffix.specs.SuffixTexts.{suffix_text}
use Rattle.sw_suffix.proofs.hashing.suffix_hash.Given as goal

-- the hasher holds the text of the lines so far
abbrev pub invariant-loop-line : goal.invariant-loop-line
invariant-loop-line l = Holds l.hasher (suffix_text (take l.line-index l.lines))
