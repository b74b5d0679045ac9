-- The lines of a record are read as what they say.
use Rattle.std.proofs.Common.{◌≡◌, ℕ, ◌≤◌, Bool, true, false, cond, List, ◌∷◌, ◌++◌, length, drop, All, refl, sym, ap, subst, ◌∙◌, inl, inr}
use Rattle.std.proofs.Common.{Some, None}
use Rattle.std.specs.List.{list_all, starts_with}
use Rattle.std.specs.Prelude.{codes, nat_eq}
use Rattle.std.specs.Str.{bytes_eq}
use Rattle.std.proofs.lemmas.Bool.{cases_Bool, cond-false, cond-true}
use Rattle.std.proofs.lemmas.Option.{cond_some}
use Rattle.std.proofs.lemmas.Slice.Eq.{bytes_eq-Decides}
use Rattle.sw_timestamp.specs.declared.timestamp.TheConstants.{GREATEST}
use Rattle.sw_hashpath.specs.declared.secrets.Secrets.{Secrets}
use Rattle.sw_metafile.specs.Files.{IsByte}
use Rattle.sw_metafile.specs.Reading.{◌>>=◌, end_at, path_at, time_at, value_at}
use Rattle.sw_metafile.specs.Texts.{line, path_line, time_line}
use Rattle.sw_metafile.specs.declared.names.Names.{Names}
use Rattle.sw_metafile.proofs.Escaping.{avoids}
use Rattle.sw_metafile.proofs.FileText.{AreNames, path_again, path_takes}
use Rattle.sw_metafile.proofs.HeadLines.{end_again, end_takes, time_again, time_takes}
use Rattle.sw_metafile.proofs.Lines.{begins_so, value_again, value_takes}
use Rattle.sw_metafile.proofs.Steps.{bind_some, some_is}
use Rattle.sw_pending.specs.Reading.{Plain, after_first_line, devices_of, done_at, flag_of, lines_at, name_of, queue_at}
use Rattle.sw_pending.specs.Rules.{are_in_order, is_queue_right}
use Rattle.sw_pending.specs.Texts.{devices_text, done_line, first_line, flag_text, queue_line}
use Rattle.sw_pending.proofs.DeviceTexts.{devices_again, devices_have_no_line_feed, devices_take}

-- ---- the first line

pub first_takes : (bytes rest : List ℕ) → after_first_line bytes ≡ Some rest → bytes ≡ first_line ++ rest
unfolding after_first_line
first_takes bytes rest is =
    let found = cond_some (starts_with nat_eq bytes first_line) (drop (length first_line) bytes) rest is in
    begins_so bytes first_line found.0 ∙ ap (λ (l : List ℕ). first_line ++ l) found.1

pub first_again : (rest : List ℕ) → after_first_line (first_line ++ rest) ≡ Some rest
unfolding after_first_line
first_again rest = refl

-- ---- the queue

flag_takes : (text : List ℕ) (queue : Bool) → flag_of text ≡ Some queue → text ≡ flag_text queue
unfolding flag_of
flag_takes text queue is =
    elim (cases_Bool (bytes_eq text (codes "0"))) [
      | inl zero ↦
          subst (λ (b : Bool). text ≡ flag_text b) (flag_is false queue (sym (cond-true (bytes_eq text (codes "0")) _ _ zero) ∙ is))
          ((bytes_eq-Decides text (codes "0")).0 zero)
      | inr other ↦
          let after = sym (cond-false (bytes_eq text (codes "0")) _ _ other) ∙ is in
          let one = cond_some (bytes_eq text (codes "1")) true queue after in
          subst (λ (b : Bool). text ≡ flag_text b) one.1 ((bytes_eq-Decides text (codes "1")).0 one.0)
    ]
  where
    flag_is : (a b : Bool) → Some a ≡ Some b → a ≡ b
    flag_is a b same = cc

flag_again : (queue : Bool) → flag_of (flag_text queue) ≡ Some queue
unfolding flag_of
flag_again true = refl
flag_again false = refl

flag_has_no_line_feed : (queue : Bool) → list_all (avoids 10) (flag_text queue) ≡ true
flag_has_no_line_feed true = refl
flag_has_no_line_feed false = refl

abbrev TakesQueue : List ℕ → List ℕ → Bool × List ℕ → Type 0
TakesQueue account bytes x = (bytes ≡ queue_line x.0 ++ x.1) × (is_queue_right x.0 account ≡ true)

queue_takes : (account bytes : List ℕ) (x : Bool × List ℕ) → queue_at account bytes ≡ Some x → TakesQueue account bytes x
unfolding queue_at
queue_takes account bytes x is =
    let a = bind_some (value_at (codes "queue ") bytes) (λ l. flag_of l.0 >>= λ q. cond (is_queue_right q account) (Some (q, l.1)) None) x is in
    let b = bind_some (flag_of a.0.0) (λ q. cond (is_queue_right q account) (Some (q, a.0.1)) None) x a.2 in
    let found = cond_some (is_queue_right b.0 account) (b.0, a.0.1) x b.2 in
    let whole : bytes ≡ queue_line b.0 ++ a.0.1 =
    value_takes (codes "queue ") bytes a.0.0 a.0.1 a.1 ∙ ap (λ (v : List ℕ). line (codes "queue ") v ++ a.0.1) (flag_takes a.0.0 b.0 b.1) in
    subst (TakesQueue account bytes) found.1 (whole, found.0)

queue_again : (account : List ℕ) (queue : Bool) (rest : List ℕ) → is_queue_right queue account ≡ true → queue_at account (queue_line queue ++ rest) ≡
    Some (queue, rest)
unfolding queue_at
queue_again account queue rest right =
    rw (value_again (codes "queue ") (flag_text queue) rest (flag_has_no_line_feed queue), flag_again queue, right) refl

-- ---- the devices that are done

abbrev TakesDone : List ℕ → List ℕ × List ℕ → Type 0
TakesDone bytes x = (bytes ≡ done_line x.0 ++ x.1) × All IsByte x.0 × (are_in_order x.0 ≡ true)

done_takes : (bytes : List ℕ) (x : List ℕ × List ℕ) → done_at bytes ≡ Some x → TakesDone bytes x
unfolding done_at
done_takes bytes x is =
    let a = bind_some (value_at (codes "done ") bytes) (λ l. devices_of l.0 >>= λ d. Some (d, l.1)) x is in
    let b = bind_some (devices_of a.0.0) (λ d. Some (d, a.0.1)) x a.2 in
    let devices = devices_take a.0.0 b.0 b.1 in
    let whole : bytes ≡ done_line b.0 ++ a.0.1 =
    value_takes (codes "done ") bytes a.0.0 a.0.1 a.1 ∙ ap (λ (v : List ℕ). line (codes "done ") v ++ a.0.1) devices.0 in
    subst (TakesDone bytes) (some_is (b.0, a.0.1) x b.2) (whole, devices.1, devices.2)

done_again : (done rest : List ℕ) → All IsByte done → are_in_order done ≡ true → done_at (done_line done ++ rest) ≡ Some (done, rest)
unfolding done_at
done_again done rest are order =
    rw (value_again (codes "done ") (devices_text done) rest (devices_have_no_line_feed done are), devices_again done are order) refl

-- ---- all lines

abbrev pub names_in : Plain → Names
names_in p = record { account = p.name.account; container = p.name.container; object = p.name.object }

pub record AreLines (secrets : Secrets) (p : Plain) : Type 0 where
  pub names : AreNames (names_in p)
  pub hashed : p.name ≡ name_of secrets (names_in p)
  pub time : p.time ≤ GREATEST
  pub right : is_queue_right p.queue p.name.account ≡ true
  pub done : All IsByte p.done
  pub order : are_in_order p.done ≡ true

abbrev pub lines_text : Plain → List ℕ → List ℕ
lines_text p rest =
    path_line p.name.account p.name.container p.name.object ++ (time_line p.time ++ (queue_line p.queue ++ (done_line p.done ++ 10 ∷ rest)))

abbrev TakesLines : Secrets → List ℕ → Plain × List ℕ → Type 0
TakesLines secrets bytes x = (bytes ≡ lines_text x.0 x.1) × AreLines secrets x.0

pub lines_take : (secrets : Secrets) (bytes : List ℕ) (x : Plain × List ℕ) → lines_at secrets bytes ≡ Some x → TakesLines secrets bytes x
unfolding lines_at
lines_take secrets bytes x is =
    let a = bind_some (path_at bytes) (λ n. time_at n.1 >>= λ t. queue_at n.0.account t.1 >>= λ q. done_at q.1 >>= λ d. end_at d.1 >>= λ r. Some
    (record { name = name_of secrets n.0; time = t.0; queue = q.0; done = d.0 }, r)) x is in
    let b = bind_some (time_at a.0.1) (λ t. queue_at a.0.0.account t.1 >>= λ q. done_at q.1 >>= λ d. end_at d.1 >>= λ r. Some
    (record { name = name_of secrets a.0.0; time = t.0; queue = q.0; done = d.0 }, r)) x a.2 in
    let c = bind_some (queue_at a.0.0.account b.0.1) (λ q. done_at q.1 >>= λ d. end_at d.1 >>= λ r. Some
    (record { name = name_of secrets a.0.0; time = b.0.0; queue = q.0; done = d.0 }, r)) x b.2 in
    let d = bind_some (done_at c.0.1) (λ d. end_at d.1 >>= λ r. Some
    (record { name = name_of secrets a.0.0; time = b.0.0; queue = c.0.0; done = d.0 }, r)) x c.2 in
    let e = bind_some (end_at d.0.1) (λ r. Some (record { name = name_of secrets a.0.0; time = b.0.0; queue = c.0.0; done = d.0.0 }, r)) x d.2 in
    let one = path_takes bytes a.0 a.1 in
    let two = time_takes a.0.1 b.0 b.1 in
    let three = queue_takes a.0.0.account b.0.1 c.0 c.1 in
    let four = done_takes c.0.1 d.0 d.1 in
    let whole : bytes ≡ lines_text (record { name = name_of secrets a.0.0; time = b.0.0; queue = c.0.0; done = d.0.0 }) e.0 =
    one.0
    ∙ ap (λ (l : List ℕ). path_line a.0.0.account a.0.0.container a.0.0.object ++ l) (two.0
    ∙ ap (λ (l : List ℕ). time_line b.0.0 ++ l) (three.0
    ∙ ap (λ (l : List ℕ). queue_line c.0.0 ++ l) (four.0
    ∙ ap (λ (l : List ℕ). done_line d.0.0 ++ l) (end_takes d.0.1 e.0 e.1)))) in
    subst (TakesLines secrets bytes) (some_is (record { name = name_of secrets a.0.0; time = b.0.0; queue = c.0.0; done = d.0.0 }, e.0) x e.2)
    (whole, record { names = one.1; hashed = refl; time = two.1; right = three.1; done = four.1; order = four.2 })

pub lines_again : (secrets : Secrets) (p : Plain) (rest : List ℕ) → AreLines secrets p → lines_at secrets (lines_text p rest) ≡ Some (p, rest)
unfolding lines_at
lines_again secrets p rest are =
    rw (
      path_again (names_in p) (time_line p.time ++ (queue_line p.queue ++ (done_line p.done ++ 10 ∷ rest))) are.names,
      time_again p.time (queue_line p.queue ++ (done_line p.done ++ 10 ∷ rest)) are.time,
      queue_again p.name.account p.queue (done_line p.done ++ 10 ∷ rest) are.right,
      done_again p.done (10 ∷ rest) are.done are.order,
      end_again rest,
    ) (ap (λ n. Some (record { name = n; time = p.time; queue = p.queue; done = p.done }, rest)) (sym are.hashed))
