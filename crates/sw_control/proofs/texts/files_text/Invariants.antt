use Rattle.std.proofs.Common.{◌≡◌, take}
use Rattle.sw_control.specs.Texts.{files_text}
use Rattle.sw_control.proofs.texts.files_text.Given as goal

abbrev pub invariant-loop-path : goal.invariant-loop-path
invariant-loop-path l = l.text.items ≡ files_text (take l.path-index l.paths)
