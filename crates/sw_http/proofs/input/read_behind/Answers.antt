use Rattle.std.proofs.Common.{◌≡◌, ℕ, ◌+◌, ◌≤◌, ◌<◌, length, take, ◌++◌, arith, ap, ◌∙◌, List}
use Rattle.std.proofs.lemmas.Grind.{common_steps}
use Rattle.std.proofs.lemmas.List.{length-take-le}
use Rattle.sw_http.proofs.ListLemmas.{read_in}
use Rattle.sw_http.proofs.ReadsLemmas.{reads_none, reads_once, reads_failed}
use Rattle.sw_http.proofs.input.read_behind.Goals as goal

pub returns-in-Ok-clause-read : goal.returns-in-Ok-clause-read
returns-in-Ok-clause-read g c =
    let given = c.in-Ok.given in
    let front : take c.len-had.result c.deref_mut.result.now ≡ c.args.bytes.now.items =
    grind (arith, common_steps, c.in_ok-extend_from_slice.ensures.items, c.deref_mut.ensures.value) in
    let room : length c.read.new.into ≡ c.args.room = grind (arith, common_steps) in
    let bound : given ≤ length c.read.new.into = c.in-Ok.ensures.count in
    let fits : c.len-had.result + given ≤ c.extend_from_slice.new.self.len = grind (arith, common_steps) in
    let size : length (take c.len-had.result c.deref_mut.result.now) ≡ c.len-had.result = grind (arith, common_steps) in
    let some : 0 < length c.read.new.into = omega arith in
    record {
      piece = take given c.read.new.into;
      behind = c.truncate.ensures.items ∙ read_in _ c.read.new.into _ _ _ given _ size bound fits ∙ ap (λ (l : List ℕ). l ++ take given c.read.new.into) front;
      size = length-take-le given c.read.new.into bound;
      read = c.in-Ok.ensures.bytes.0;
      at_end = λ none. c.in-Ok.ensures.bytes.1 none some;
    }

pub returns-in_err-extend_from_slice-clause-reads : goal.returns-in_err-extend_from_slice-clause-reads
returns-in_err-extend_from_slice-clause-reads g c = reads_none _ _ _

pub returns-in-Ok-clause-reads : goal.returns-in-Ok-clause-reads
returns-in-Ok-clause-reads g c = reads_once _ _ _ _ _ c.in-Ok.ensures.bytes.0 c.in-Ok.ensures.calls

pub returns-in-Err-clause-reads : goal.returns-in-Err-clause-reads
returns-in-Err-clause-reads g c = reads_failed _ _ _ _ c.in-Err.ensures.bytes c.in-Err.ensures.calls
