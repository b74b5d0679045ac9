use Rattle.std.proofs.Common.{Some}
use Rattle.sw_object_server.proofs.putting.read_typed.Goals as goal

-- the metadata is that of the fields, and the content was made of it
pub returns-in_ok-content-in-Some-clause-puts : goal.returns-in_ok-content-in-Some-clause-puts
returns-in_ok-content-in-Some-clause-puts c = (
  Some c.in-Some.heads,
  rw c.in-Some.is at c.in_ok-heads.ensures.heads,
  (c.in_ok-content-in-Some.content, c.in_ok-content-in-Some.ensures, c.put_content.ensures),
)
