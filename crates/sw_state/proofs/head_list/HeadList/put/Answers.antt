use Rattle.sw_state.proofs.HeadsKept.{are_heads-put}
use Rattle.sw_state.proofs.head_list.HeadList.put.Goals as goal

pub invariant_of-self : goal.invariant_of-self
invariant_of-self c =
    are_heads-put c.put_in_place.result c.args.head c.self.inside.heads.items c.put_in_place.new.heads.items c.requires c.self.invariant
    c.put_in_place.ensures.ok c.put_in_place.ensures.err
