use Rattle.std.proofs.Common.{◌≡◌, ℕ, ◌+◌, ◌*◌, List, [], ◌∷◌, ◌++◌, refl, sym, ◌∙◌, ap, append_assoc, arith, Vec, Global}
use Rattle.std.specs.List.{flat_map, range_with_len}
use Rattle.std.specs.Option.{option_to_list}
use Rattle.std.proofs.lemmas.List.{append-nil}
use Rattle.sw_jobs.specs.Draws.{state_after}
use Rattle.sw_jobs.specs.Generated.{numbered, turn}
use Rattle.sw_jobs.specs.Requests.{request}
use Rattle.sw_jobs.specs.declared.job.Job.{Job}
use Rattle.sw_jobs.specs.declared.job.Work.{Work}
use Rattle.sw_jobs.proofs.Numbering.{numbered-push, turns-more}
use Rattle.sw_jobs.proofs.generating.generate.Goals as goal
use Rattle.sw_jobs.proofs.generating.generate.Goals.{in-Some+in_ok-add-2, in_default}

state_after-none : (seed : ℕ) → state_after seed 0 ≡ seed
unfolding state_after
state_after-none seed = refl

pub loop-number-init : goal.loop-number-init
loop-number-init c = record { draws = sym (state_after-none c.args.seed); jobs = c.new-jobs.ensures.items }

-- the jobs of a turn behind those of the turns before it
turned : (f : ℕ → List Work) (n : ℕ) (w : Work) (passes : List Work) (jobs : List Job) → f n ≡ w ∷ passes
    → jobs ≡ numbered ((flat_map f (range_with_len 0 n) ++ w ∷ []) ++ passes) → jobs ≡ numbered (flat_map f (range_with_len 0 (n + 1)))
turned f n w passes jobs is stands =
    stands ∙ ap numbered (append_assoc (flat_map f (range_with_len 0 n)) (w ∷ []) passes ∙ rw (turns-more f n, is) refl)

pub loop-number-preserved : goal.loop-number-preserved
loop-number-preserved c =
    let n = c.loop-number.number in
    let before = flat_map (turn c.args.ring.now c.args.seed c.args.requests) (range_with_len 0 n) in
    let draws = c.next_draws-draws.ensures.draws c.args.seed (5 * n) c.loop-number.invariant.draws in
    let asked : c.in_ok-request.field-0 ≡ request c.args.ring.now c.args.seed c.args.requests n = c.in_ok-request.ensures ∙ rw draws refl in
    let added = numbered-push c.loop-number.jobs.items c.add.new.jobs.items before c.in_ok-request.field-0 c.loop-number.invariant.jobs c.in_ok-add.ensures in
    record {
      draws = c.next_draws-draws.ensures.state c.args.seed (5 * n) c.loop-number.invariant.draws ∙ ap (state_after c.args.seed) (omega arith);
      jobs = turned (turn c.args.ring.now c.args.seed c.args.requests) n c.in_ok-request.field-0 (option_to_list c.behind.result) c.match-behind.jobs.items
          (rw (asked, c.behind.ensures) refl)
          (elim c.match-behind.branch [
            | in-Some+in_ok-add-2 w ↦ ap (λ (v : Vec Job Global). v.items) w.jobs-is ∙ rw w.in-Some.is
                (numbered-push c.add.new.jobs.items w.add-in-Some.new.jobs.items (before ++ c.in_ok-request.field-0 ∷ []) w.in-Some.pass added
                w.in_ok-add-2.ensures)
            | in_default w ↦ ap (λ (v : Vec Job Global). v.items) w.jobs-is ∙ rw (w.in_default.is, append-nil) added
          ]);
    }
