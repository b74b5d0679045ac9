use Rattle.std.proofs.Common.{◌∙◌, refl, sym}
use Rattle.sw_state.proofs.PutHead.{put_between, put_over}
use Rattle.sw_state.proofs.head_list.put_in_place.Goals as goal

pub returns-then-is_at-clause-ok : goal.returns-then-is_at-clause-ok
returns-then-is_at-clause-ok c =
    let place = rw (c.deref.ensures.value, c.as_slice.ensures) at c.place_of-at.ensures.place in
    let found = rw (c.deref-2.ensures.value, c.as_slice-2.ensures) at c.is_at.ensures.name in
    let inside = rw c.deref-2.ensures.value at (c.if-is_at.ensures.within refl) in
    put_over c.args.heads.now.items c.args.head c.place_of-at.result c.requires place inside (sym found ∙ c.if-is_at.true)

pub returns-clause-ok : goal.returns-clause-ok
returns-clause-ok c =
    let place = rw (c.deref.ensures.value, c.as_slice.ensures) at c.place_of-at.ensures.place in
    let found = rw (c.deref-2.ensures.value, c.as_slice-2.ensures) at c.is_at.ensures.name in
    c.in_ok-insert.ensures.items ∙ put_between c.args.heads.now.items c.args.head c.place_of-at.result c.requires place (sym found ∙ c.if-is_at.false)
