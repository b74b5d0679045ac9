use Rattle.std.proofs.Common.{◌≡◌, ℕ, ◌+◌, ◌*◌, ◌%◌, ◌++◌, ◌∷◌, [], arith}
use Rattle.std.proofs.lemmas.List.FromFn.{map-range_with_len_more}
use Rattle.sw_jobs.specs.Requests.{body_of}
use Rattle.sw_jobs.proofs.contents.body_of.Goals as goal

-- one byte more
body_of-more : (i length : ℕ) → body_of i (length + 1) ≡ body_of i length ++ ((7 * i + length) % 256) ∷ []
unfolding body_of
body_of-more i length = map-range_with_len_more (λ j. (7 * i + j) % 256) 0 length length (omega arith)

pub loop-at-preserved : goal.loop-at-preserved
loop-at-preserved c = rw (body_of-more c.args.request c.loop-at.at, ← c.loop-at.invariant) c.in_ok-push.ensures.items
