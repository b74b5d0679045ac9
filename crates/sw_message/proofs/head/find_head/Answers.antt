use Rattle.std.proofs.Common.{◌≡◌, ◌∙◌, ◌≤◌, arith, true, false, sym, subst}
use Rattle.httparse.proofs.HeadLemmas.{at_complete}
use Rattle.httparse.specs.Spans.{IsRequestOf, IsRequestWithin}
use Rattle.sw_message.specs.Head.{IsPath}
use Rattle.sw_message.proofs.HeadLemmas.{head_found, never_other}
use Rattle.sw_message.proofs.head.find_head.Goals as goal
use Rattle.sw_message.proofs.head.find_head.Goals.{else-is_taken-via-then-is_taken+else-is_path, else-is_taken-via-else-is_taken}

pub returns-then-is_path-clause-look : goal.returns-then-is_path-clause-look
returns-then-is_path-clause-look c =
    let found = at_complete (IsRequestOf c.args.bytes.now c.parse_request.new.headers) c.in-Ok-Complete.is c.in-Ok-Complete.field-0-is
    c.parse_request.ensures.complete in
    let within = at_complete (IsRequestWithin c.args.bytes.now c.parse_request.new.headers) c.in-Ok-Complete.is c.in-Ok-Complete.field-0-is
    c.parse_request.ensures.within in
    let taken = c.is_taken.ensures.0 c.if-is_taken.true in
    let path = subst IsPath (c.of.ensures ∙ found.1.path) (c.is_path.ensures.0 c.if-is_path.true) in
    head_found _ _ _ found.0 c.requires.begins found.1 within (omega arith) taken.0 taken.1 path

pub returns-else-is_taken-clause-look : goal.returns-else-is_taken-clause-look
returns-else-is_taken-clause-look c =
    let found = at_complete (IsRequestOf c.args.bytes.now c.parse_request.new.headers) c.in-Ok-Complete.is c.in-Ok-Complete.field-0-is
    c.parse_request.ensures.complete in
    never_other _ found.0 _ found.1.reads λ is.
    elim c.else-is_taken.branch [
      | else-is_taken-via-then-is_taken+else-is_path w ↦
          let holds : w.is_path.result ≡ true = w.is_path.ensures.1 (subst IsPath (sym (w.of.ensures ∙ found.1.path)) is.path) in
          let fails : w.is_path.result ≡ false = w.if-is_path.false in
          cc
      | else-is_taken-via-else-is_taken w ↦
          let size : c.in-Ok-Complete.spans.len ≤ 65536 = omega (arith, found.1.len, is.size) in
          let holds : c.is_taken.result ≡ true = c.is_taken.ensures.1 (size, found.1.version ∙ is.version) in
          let fails : c.is_taken.result ≡ false = w.if-is_taken.false in
          cc
    ]
