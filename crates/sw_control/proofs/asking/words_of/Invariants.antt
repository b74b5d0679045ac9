use Rattle.std.proofs.Common.{◌≡◌, map, take}
use Rattle.percent_encoding.specs.Percent.{percent_decode}
use Rattle.sw_control.proofs.asking.words_of.Given as goal

abbrev pub invariant-loop-segment : goal.invariant-loop-segment
invariant-loop-segment l = l.words.items ≡ map percent_decode (map (λ segment. segment.now) (take l.segment-index l.segment-items))
