-- Doors that go on with one run and then another, and calls of steps that do.
use Rattle.std.proofs.Common.{◌≡◌, Bool, true, List, [], ◌∷◌, ◌++◌, refl, sym, ◌∙◌, ap, subst, inl, inr, append_assoc, Option, None, Some, Result, Ok, Err}
use Rattle.std.proofs.lemmas.List.{append-nil}
use Rattle.std.specs.Option.{option_map}
use Rattle.sw_peer.specs.Sights.{Calls, Comes, IsSame, Nodes, Sight}
use Rattle.sw_peer.specs.declared.line.Line.{Line}
use Rattle.sw_peer.specs.declared.link.Link.{Link}
use Rattle.sw_peer.specs.declared.link.Link.TheVariants.{Local, Sent}
use Rattle.sw_peer.specs.declared.link.Lost.{Lost}
use Rattle.sw_machine.proofs.Runs.{joins, sends}
use Rattle.sw_machine.specs.Doors.{AreLinesOf, ChangesGoOn, EndsAsHeard, GoesOn, GoesOnBy, GoesOnByLines, GoingOnJoins, LeaveRecords, ReadsGoOn}
use Rattle.sw_machine.specs.Doors.{RunsOn, RunsOnJoin, RunsOnLeaving, SameGoesOn, SendingGoesOn, StandsFor, leaves_records}
use Rattle.sw_machine.specs.Machine.{Came, Machine, RunLine, Runs, Went, came_in, went_in}
use Rattle.sw_machine.specs.Messages.{Message, WasSent}

came-append : (xs ys : List RunLine) → came_in (xs ++ ys) ≡ came_in xs ++ came_in ys
came-append [] ys = refl
came-append (Came line ∷ xs) ys = ap (λ (ls : List Line). line ∷ ls) (came-append xs ys)
came-append (Went from message ∷ xs) ys = came-append xs ys

kept-both : (old : Option (List Line)) (xs ys : List RunLine)
    → option_map (λ ls. ls ++ came_in ys) (option_map (λ ls. ls ++ came_in xs) old) ≡ option_map (λ ls. ls ++ came_in (xs ++ ys)) old
kept-both None xs ys = refl
kept-both (Some ls) xs ys = ap Some (append_assoc ls (came_in xs) (came_in ys) ∙ ap (λ (zs : List Line). ls ++ zs) (sym (came-append xs ys)))

kept-none : (old : Option (List Line)) → old ≡ option_map (λ ls. ls ++ []) old
kept-none None = refl
kept-none (Some ls) = ap Some (sym (append-nil ls))

pub going-joins : GoingOnJoins
going-joins s m lines t more u first next = (
  record {
    nodes = next.nodes ∙ first.nodes;
    after = next.after;
    run = joins s.nodes m lines first.after more next.after first.run
        (subst (λ (n : Nodes). Runs n first.after more next.after) first.nodes next.run);
    stands = next.stands;
    kept = next.kept ∙ (ap (λ (o : Option (List Line)). option_map (λ ls. ls ++ came_in more) o) first.kept ∙ kept-both s.trail lines more);
  },
  refl,
)

pub runs-join : RunsOnJoin
runs-join s t u first next m stands =
    let one = first m stands in
    let two = next one.1.after one.1.stands in
    (one.0 ++ two.0, (going-joins s m one.0 t two.0 u one.1 two.1).0)

-- only counts of the door changed
still-stands : (s t : Sight) (m : Machine) → IsSame s t → StandsFor s m → StandsFor t m
still-stands s t m same stands = record {
  objects = ap (λ (x : Sight). x.objects) same.same ∙ stands.objects;
  containers = ap (λ (x : Sight). x.containers) same.same ∙ stands.containers;
}

pub same-goes : SameGoesOn
same-goes s m t stands same = (
  record {
    nodes = ap (λ (x : Sight). x.nodes) same.same;
    after = m;
    run = refl;
    stands = still-stands s t m same stands;
    kept = ap (λ (x : Sight). x.trail) same.same ∙ kept-none s.trail;
  },
  refl,
)

-- behind a run too
then-same : (s t u : Sight) (m : Machine) (lines : List RunLine) → GoesOn s m lines t → IsSame t u → GoesOn s m lines u
then-same s t u m lines goes same = record {
  nodes = ap (λ (x : Sight). x.nodes) same.same ∙ goes.nodes;
  after = goes.after;
  run = goes.run;
  stands = still-stands t u goes.after same goes.stands;
  kept = ap (λ (x : Sight). x.trail) same.same ∙ goes.kept;
}

pub sending-goes : SendingGoesOn
sending-goes s m from message stands carries = (
  record {
    nodes = refl;
    after = record m { sent = m.sent ++ message ∷ [] };
    run = (record m { sent = m.sent ++ message ∷ [] }, (carries, refl), refl);
    stands = record { objects = stands.objects; containers = stands.containers };
    kept = kept-none s.trail;
  },
  refl,
)

-- ---- calls

alone-before : (s t : Sight) → IsSame s t → t.alone ≡ true → s.alone ≡ true
alone-before s t same alone = sym (ap (λ (x : Sight). x.alone) same.same) ∙ alone

module _ {A E : Type 0} (line : A → List E → Line) (wanting : A → Bool) where
  -- lines of such steps send nothing
  none-sent : (lines : List RunLine) → AreLinesOf line wanting lines → went_in lines ≡ []
  none-sent [] are = refl
  none-sent (Came one ∷ lines) are = none-sent lines are.1
  none-sent (Went from message ∷ lines) are = absurd are

  lines-append : (xs ys : List RunLine) → AreLinesOf line wanting xs → AreLinesOf line wanting ys → AreLinesOf line wanting (xs ++ ys)
  lines-append [] ys are more = more
  lines-append (Came one ∷ xs) ys are more = (are.0, lines-append xs ys are.1 more)
  lines-append (Went from message ∷ xs) ys are more = absurd are

  -- a step goes on by its line, or by none
  one-line : (s t : Sight) (m : Machine) (x : A) → GoesOnBy s m (line x) (wanting x) t → GoesOnByLines line wanting s m (Ok x) t
  one-line s t m x (lines, inl is, goes) =
      (lines, subst (AreLinesOf line wanting) (sym is.1) ((x, is.0, refl), tt), inl ([], is.0, is.1), goes)
  one-line s t m x (lines, inr none, goes) = (lines, subst (AreLinesOf line wanting) (sym none.1) tt, inr none.0, goes)

  -- what was heard last was heard behind other lines too
  ends-behind : (xs ys : List RunLine) (x : A) → EndsAsHeard line wanting (Ok x) ys → EndsAsHeard line wanting (Ok x) (xs ++ ys)
  ends-behind xs ys x (inl is) = inl (
    xs ++ is.0,
    is.1,
    ap (λ (zs : List RunLine). xs ++ zs) is.2 ∙ sym (append_assoc xs is.0 (Came (line x is.1) ∷ [])),
  )
  ends-behind xs ys x (inr wants) = inr wants

-- each step goes on where what was sent lets it come
module _ {A E : Type 0} (step : Sight → A → Sight → Type 0) (line : A → List E → Line) (wanting : A → Bool) (Lets : List Message → Type 0)
    (back : (s : Sight) (x : A) (t : Sight) → step s x t → t.alone ≡ true → s.alone ≡ true)
    (goes : (s : Sight) (x : A) (t : Sight) (m : Machine) → StandsFor s m → t.alone ≡ true → Lets m.sent → step s x t → GoesOnBy s m (line x) (wanting x) t)
  where
    comes-back : (s : Sight) (xs : List A) (t : Sight) → Comes step s xs t → t.alone ≡ true → s.alone ≡ true
    comes-back s [] t same alone = alone-before s t same alone
    comes-back s (x ∷ xs) t comes alone = back s x comes.0 comes.1 (comes-back comes.0 xs t comes.2 alone)

    -- one step, and more of them behind it
    then-more : (s : Sight) (x : A) (mid t : Sight) (m : Machine) (result : Result A Lost) → (first : GoesOnByLines line wanting s m (Ok x) mid)
        → ((lets : first.3.after.sent ≡ m.sent) → GoesOnByLines line wanting mid first.3.after result t)
        → ((ys : List RunLine) → EndsAsHeard line wanting result ys → EndsAsHeard line wanting result (first.0 ++ ys))
        → GoesOnByLines line wanting s m result t
    then-more s x mid t m result first more ends =
        let sent : first.3.after.sent ≡ m.sent =
        sends s.nodes m first.0 first.3.after first.3.run
        ∙ (ap (λ (ms : List Message). m.sent ++ ms) (none-sent line wanting first.0 first.1) ∙ append-nil m.sent) in
        let rest = more sent in (
          first.0 ++ rest.0,
          lines-append line wanting first.0 rest.0 first.1 rest.1,
          ends rest.0 rest.2,
          (going-joins s m first.0 mid rest.0 t first.3 rest.3).0,
        )

    first-of : (s : Sight) (x : A) (xs : List A) (t : Sight) (m : Machine) → StandsFor s m → t.alone ≡ true → Lets m.sent → (comes : Comes step s (x ∷ xs) t)
        → GoesOnByLines line wanting s m (Ok x) comes.0
    first-of s x xs t m stands alone lets comes =
        one-line line wanting s comes.0 m x (goes s x comes.0 m stands (comes-back comes.0 xs t comes.2 alone) lets comes.1)

    comes-run : (s : Sight) (xs : List A) (t : Sight) (m : Machine) → StandsFor s m → t.alone ≡ true → Lets m.sent → Comes step s xs t → (lost : Lost)
        → GoesOnByLines line wanting s m (Err lost) t
    comes-run s [] t m stands alone lets same lost = ([], tt, tt, (same-goes s m t stands same).0)
    comes-run s (x ∷ xs) t m stands alone lets comes lost =
        let first = first-of s x xs t m stands alone lets comes in
        then-more s x comes.0 t m (Err lost) first
        (λ sent. comes-run comes.0 xs t first.3.after first.3.stands alone (subst Lets (sym sent) lets) comes.2 lost) (λ ys is. tt)

    -- the last of them was heard
    heard-run : (s : Sight) (xs : List A) (y : A) (t : Sight) (m : Machine) → StandsFor s m → t.alone ≡ true → Lets m.sent → Comes step s (xs ++ y ∷ []) t
        → GoesOnByLines line wanting s m (Ok y) t
    heard-run s [] y t m stands alone lets comes =
        let first = first-of s y [] t m stands alone lets comes in
        (first.0, first.1, first.2, then-same s comes.0 t m first.0 first.3 comes.2)
    heard-run s (x ∷ xs) y t m stands alone lets comes =
        let first = first-of s x (xs ++ y ∷ []) t m stands alone lets comes in
        then-more s x comes.0 t m (Ok y) first
        (λ sent. heard-run comes.0 xs y t first.3.after first.3.stands alone (subst Lets (sym sent) lets) comes.2)
        (λ ys is. ends-behind line wanting first.0 ys y is)

    calls-run : (link : Link) (s : Sight) (result : Result A Lost) (t : Sight) (m : Machine) → StandsFor s m → t.alone ≡ true → Lets m.sent
        → Calls step s link result t → GoesOnByLines line wanting s m result t
    calls-run link s (Ok answer) t m stands alone lets calls = heard-run s calls.0 answer t m stands alone lets calls.2
    calls-run link s (Err lost) t m stands alone lets calls = comes-run s calls.2.0 t m stands alone lets calls.2.1 lost

    -- one at the device itself is one step, and then only counts of the door change
    call-once : (s : Sight) (x : A) (t : Sight) (m : Machine) → StandsFor s m → t.alone ≡ true → Lets m.sent → Calls step s Local (Ok x) t
        → GoesOnBy s m (line x) (wanting x) t
    call-once s x t m stands alone lets calls =
        let comes : Comes step s (x ∷ []) t = subst (λ (earlier : List A). Comes step s (earlier ++ x ∷ []) t) (calls.1 refl) calls.2 in
        let one = goes s x comes.0 m stands (alone-before comes.0 t comes.2 alone) lets comes.1 in
        (one.0, one.1, then-same s comes.0 t m one.0 one.2 comes.2)

module _ {A E : Type 0} (step : Link → Sight → A → Sight → Type 0) (line : Link → A → List E → Line) (wanting : A → Bool)
    (back : (link : Link) (s : Sight) (x : A) (t : Sight) → step link s x t → t.alone ≡ true → s.alone ≡ true) where
  -- nothing is said in a message at the device itself
  pub changes-go-on : ((x : A) (added : List E) → (line Local x added).link ≡ Local)
      → ((link : Link) (s : Sight) (x : A) (t : Sight) (m : Machine) → StandsFor s m → t.alone ≡ true
      → ((added : List E) → WasSent m.sent (line link x added)) → step link s x t → GoesOnBy s m (line link x) (wanting x) t)
      → ChangesGoOn step line wanting
  changes-go-on at_device goes = record {
    one = goes;
    call = λ s x t alone calls m stands.
        call-once (step Local) (line Local) wanting (λ sent. Unit {0}) (back Local)
        (λ s x t m stands alone lets made. goes Local s x t m stands alone (at-device x m.sent) made) s x t m stands alone tt calls;
    calls = λ link s result t m stands alone sent calls.
        calls-run (step link) (line link) wanting (λ sent. (x : A) (added : List E) → WasSent sent (line link x added)) (back link)
        (λ s x t m stands alone lets made. goes link s x t m stands alone (lets x) made) link s result t m stands alone sent calls;
  }
    where
      at-device : (x : A) (sent : List Message) (added : List E) → WasSent sent (line Local x added)
      at-device x sent added is = let never : Local ≡ Sent = sym (at_device x added) ∙ is in cc

  pub reads-go-on : ((link : Link) (s : Sight) (x : A) (t : Sight) (m : Machine) → StandsFor s m → t.alone ≡ true → step link s x t
      → GoesOnBy s m (line link x) (wanting x) t) → ReadsGoOn step line wanting
  reads-go-on goes = record {
    one = goes;
    call = λ s x t alone calls m stands.
        call-once (step Local) (line Local) wanting (λ sent. Unit {0}) (back Local) (λ s x t m stands alone lets made. goes Local s x t m stands alone made)
        s x t m stands alone tt calls;
    calls = λ link s result t alone calls m stands.
        calls-run (step link) (line link) wanting (λ sent. Unit {0}) (back link)
        (λ s x t m stands alone lets made. goes link s x t m stands alone made) link s result t m stands alone tt calls;
  }

-- ---- lines that leave records as they are

pub leaving-append : (xs ys : List RunLine) → LeaveRecords xs → LeaveRecords ys → LeaveRecords (xs ++ ys)
leaving-append [] ys leave more = more
leaving-append (line ∷ xs) ys leave more = (leave.0, leaving-append xs ys leave.1 more)

-- steps that all leave them
pub lines-leaving : {A E : Type 0} (line : A → List E → Line) (wanting : A → Bool)
    → ((x : A) (added : List E) → leaves_records (line x added).event ≡ true) → (lines : List RunLine) → AreLinesOf line wanting lines → LeaveRecords lines
lines-leaving line wanting each [] are = tt
lines-leaving line wanting each (Came one ∷ lines) are =
    (ap (λ (l : Line). leaves_records l.event) are.0.2 ∙ each are.0.0 are.0.1, lines-leaving line wanting each lines are.1)
lines-leaving line wanting each (Went from message ∷ lines) are = absurd are

pub leaving-runs : (s t : Sight) → RunsOnLeaving s t → RunsOn s t
leaving-runs s t runs m stands = let one = runs m stands in (one.0, one.2)

pub leaving-join : (s t u : Sight) → RunsOnLeaving s t → RunsOnLeaving t u → RunsOnLeaving s u
leaving-join s t u first next m stands =
    let one = first m stands in
    let two = next one.2.after one.2.stands in
    (one.0 ++ two.0, leaving-append one.0 two.0 one.1 two.1, (going-joins s m one.0 t two.0 u one.2 two.2).0)

pub leaving-same : (s t : Sight) → IsSame s t → RunsOnLeaving s t
leaving-same s t same m stands = ([], tt, (same-goes s m t stands same).0)
