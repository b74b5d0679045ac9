use Rattle.sw_http.proofs.LineLemmas.{plain_size, plain_is_no_partial, plain_is_no_error}
use Rattle.sw_http.proofs.SizeLemmas.{laid_out}
use Rattle.sw_http.proofs.chunk_line.size_of.Goals as goal

pub unreachable-requires : goal.unreachable-requires
unreachable-requires c =
    let none = rw c.in-Ok-Partial.field-0-is at c.in-Ok-Partial.ensures.partial in
    plain_is_no_partial _ c.args.digits.now c.requires.some c.requires.few c.requires.digits
    (laid_out c.args.digits.now _ c.copy_from_slice.ensures.after c.requires.few) none

pub unreachable-requires-in-Err : goal.unreachable-requires-in-Err
unreachable-requires-in-Err c =
    plain_is_no_error _ c.args.digits.now c.requires.some c.requires.few c.requires.digits
    (laid_out c.args.digits.now _ c.copy_from_slice.ensures.after c.requires.few)
    c.in-Err.ensures.invalid

pub returns : goal.returns
returns c =
    let found = rw c.in-Ok-Complete.field-0-is at c.in-Ok-Complete.ensures.complete in
    plain_size _ c.args.digits.now _ _ found.0 c.requires.some c.requires.few c.requires.digits
    (laid_out c.args.digits.now _ c.copy_from_slice.ensures.after c.requires.few) found.1
