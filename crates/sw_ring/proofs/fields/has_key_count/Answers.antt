-- The map has as many entries as the object that it stands for has members.
use Rattle.std.proofs.Common.{sym, ap, ◌∙◌, false, nat_eq}
use Rattle.std.specs.Option.{option_map_or}
use Rattle.serde_json.specs.Events.{members_len}
use Rattle.serde_json.proofs.Views.{members_len-members_view}
use Rattle.sw_ring.proofs.fields.has_key_count.Goals as goal

pub returns-in-Some : goal.returns-in-Some
returns-in-Some c =
    ap (λ n. nat_eq n c.args.count) (c.len.ensures.len ∙ sym (members_len-members_view c.in-Some.members.now.entries))
    ∙ ap (λ members. option_map_or (λ ms. nat_eq (members_len ms) c.args.count) members false) c.in-Some.ensures
