use Rattle.std.proofs.Common.{refl, inl}
use Rattle.sw_container_server.proofs.verbs.read_list.Goals as goal

-- the query is good, and so is the replica
pub returns-in-Some : goal.returns-in-Some
returns-in-Some c =
    inl (
      rw c.as_slice.ensures at c.in-Ok.ensures.good,
      inl (
        (c.in-Some.replica, c.in-Some.ensures.some),
        (c.in-Ok.query, c.in-Some.replica, rw c.as_slice.ensures at c.in-Ok.ensures.reads, c.in-Some.ensures.some, refl),
      ),
    )
