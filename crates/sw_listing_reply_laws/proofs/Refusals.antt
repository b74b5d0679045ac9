-- What refuses a read is told by no reply that shows a container.
use Rattle.std.proofs.Common.{◌≡◌, true}
use Rattle.sw_container_server.specs.Replies.{reply_to}
use Rattle.sw_container_steps.specs.declared.cont_answer.ContAnswer.{ContAnswer}
use Rattle.sw_container_steps.specs.declared.cont_answer.ContAnswer.TheVariants as answers
use Rattle.sw_sharded_listing.specs.Reads.{IsOfRead}
use Rattle.sw_listing_reply_laws.specs.Laws.{is_shown}

pub unshown : (answer : ContAnswer) → IsOfRead answer → is_shown (reply_to 204 answer) ≡ true → ⊥
unshown answers.Absent few shown = cc
unshown answers.Failed few shown = cc
unshown answers.NoMemory few shown = cc
unshown answer few shown = few
