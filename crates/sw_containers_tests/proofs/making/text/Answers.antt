use Rattle.sw_containers_tests.proofs.making.text.Goals as goal

pub returns : goal.returns
returns c = ∣ rw c.in_ok-bytes.ensures c.as_bytes.ensures.utf8 ∣₁
