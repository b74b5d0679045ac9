use Rattle.sw_replica_server.specs.ReplicaText.{files_member}
use Rattle.sw_replica_server.proofs.Members.{members-more}
use Rattle.sw_replica_server.proofs.texts.files_text.Goals as goal

-- one line more
pub loop-place-preserved : goal.loop-place-preserved
loop-place-preserved c = members-more files_member c.deref-line-items.result.now c.loop-place.place c.line-item.result c.line-item.result
    c.loop-place.text.items
    c.push_comma.new.text.items c.push_line.new.text.items c.loop-place-test.true c.line-item.is c.loop-place.invariant c.in_ok-push_comma.ensures.pushed
    c.in_ok-push_line.ensures
