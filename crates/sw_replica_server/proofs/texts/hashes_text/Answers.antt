use Rattle.std.proofs.Common.{[], refl}
use Rattle.sw_replica_server.specs.ReplicaText.{hash_member}
use Rattle.sw_replica_server.proofs.Members.{members-more}
use Rattle.sw_replica_server.proofs.texts.hashes_text.Goals as goal

-- one hash more
pub loop-place-preserved : goal.loop-place-preserved
loop-place-preserved c = members-more hash_member c.args.hashes.now c.loop-place.place _ (record { suffix = 0; md5 = [] }) c.loop-place.text.items
    c.push_comma.new.text.items c.push_hash.new.text.items c.loop-place-test.true refl c.loop-place.invariant c.in_ok-push_comma.ensures.pushed
    c.in_ok-push_hash.ensures
