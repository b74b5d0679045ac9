use Rattle.sw_pending.proofs.writing.encode.Goals as goal

pub returns-clause-record : goal.returns-clause-record
returns-clause-record c = λ secrets name. record {
  name = name;
  account = c.in_ok-push_path.ensures.account;
  container = c.in_ok-push_path.ensures.container;
  object = c.in_ok-push_path.ensures.object;
  time = c.push_time.ensures.bound;
  done = rw c.as_slice.ensures at c.push_done.ensures.bytes;
}
