-- How connections that are served one after the other add up.
use Rattle.std.proofs.Common.{◌≡◌, ℕ, ◌+◌, ◌*◌, ◌^◌, ◌≤◌, Bool, List, [], ◌∷◌, ◌++◌, length, map, Option, Err, inl, inr}
use Rattle.std.proofs.Common.{refl, sym, ◌∙◌, ap, subst, arith, append_assoc, append-nil, length-append, lit<}
use Rattle.std.proofs.lemmas.List.{length-map, map-append}
use Rattle.std.proofs.lemmas.Nat.{rows}
use Rattle.sw_core.specs.Worlds.{KeeperSeen, AllNodes}
use Rattle.sw_outside.specs.Counts.{raised}
use Rattle.sw_outside.specs.Doors.{Accepted, Finished}
use Rattle.sw_outside.specs.Readings.{TicksEach}
use Rattle.sw_ring.specs.declared.ring.Ring.{Ring}
use Rattle.sw_volume.proofs.Counting.{raised_by-plus}
use Rattle.sw_volume.specs.Tree.{Folders}
use Rattle.sw_volume.specs.Volume.{raised_by}
use Rattle.sw_cluster.specs.Leaving.{StopsAmong}
use Rattle.sw_cluster.specs.Rounds.{AllServed, AreHeard, EndsConnections, RestartsFirst, Round, ServesAll, ServesOne, StopsRestarting, StopsWaiting}
use Rattle.sw_cluster.specs.Told.{Counts, DoorsTold}
use Rattle.sw_cluster.specs.declared.rounds.ServeFault.{ServeFault}
use Rattle.sw_cluster.specs.declared.rounds.ServeFault.TheVariants as serve_faults

-- ---- lists and counts

ticks-join : (a b c : Option (List ℕ)) (first next : List ℕ) → TicksEach a b first → TicksEach b c next → TicksEach a c (first ++ next)
ticks-join a b c [] next p q = subst (λ (o : Option (List ℕ)). TicksEach o c next) p q
ticks-join a b c (reading ∷ first) next p q = (p.0, p.1, ticks-join p.0 b c first next p.2 q)

added-join : {A B : Type 0} (f : A → B) (first next : List A) (a b c : List B) → b ≡ a ++ map f first → c ≡ b ++ map f next → c ≡ a ++ map f (first ++ next)
added-join f first next a b c p q =
    q ∙ (ap (λ l. l ++ map f next) p ∙ (append_assoc a (map f first) (map f next) ∙ ap (λ l. a ++ l) (sym (map-append f first next))))

calls-join : (a b c later first sum : ℕ) → b ≡ raised_by first a → c ≡ raised_by later b → later + first ≡ sum → c ≡ raised_by sum a
calls-join a b c later first sum p q is = q ∙ (ap (raised_by later) p ∙ (raised_by-plus later first a ∙ ap (λ k. raised_by k a) is))

calls-are : (a b m n : ℕ) → b ≡ raised_by m a → m ≡ n → b ≡ raised_by n a
calls-are a b m n p is = p ∙ ap (λ k. raised_by k a) is

rows-sum : (x y b : ℕ) → x * b + y * b ≡ (y + x) * b
rows-sum x y b = grind (arith, rows)

-- restarts of all devices after one list of connections and after another
sum-of-rows : (m n k d b : ℕ) → k ≡ n + m → m * d * b + n * d * b ≡ k * d * b
sum-of-rows m n k d b is =
    let e : m + n ≡ k = omega (arith, is) in
    rows-sum (m * d) (n * d) b ∙ ap (λ (x : ℕ). x * b) (rows-sum n m d ∙ ap (λ (x : ℕ). x * d) e)

sum-with-rest : (tried m n k d device b : ℕ) → k ≡ n + m → (tried + (m * d + device) * b) + n * d * b ≡ tried + (k * d + device) * b
sum-with-rest tried m n k d device b is =
    let e : m + n ≡ k = omega (arith, is) in
    let all : n * d + m * d ≡ k * d = rows-sum n m d ∙ ap (λ (x : ℕ). x * d) e in
    let inner : n * d + (m * d + device) ≡ k * d + device = omega (arith, all) in
    let sum : (m * d + device) * b + n * d * b ≡ (k * d + device) * b = rows-sum (m * d + device) (n * d) b ∙ ap (λ (x : ℕ). x * b) inner in
    omega (arith, sum)

no-rows : (d b : ℕ) → 0 ≡ 0 * d * b
no-rows d b = (let e : 0 ≡ 0 * b = omega arith in e) ∙ ap (λ (x : ℕ). x * b) (let f : 0 ≡ 0 * d = omega arith in f)

one-row : (d b : ℕ) → d * b ≡ 1 * d * b
one-row d b = ap (λ (x : ℕ). x * b) (let e : d ≡ 1 * d = omega arith in e)

only-rest : (tried d device b : ℕ) → tried + device * b ≡ tried + (0 * d + device) * b
only-rest tried d device b = ap (λ (x : ℕ). tried + x * b) (let e : device ≡ 0 * d + device = omega arith in e)

pub heard-join : (first next : List Round) (a b c : DoorsTold) (t u v : Option (List ℕ)) → AreHeard first a b t u → AreHeard next b c u v →
    AreHeard (first ++ next) a c t v
heard-join first next a b c t u v p q = record {
  accepted = added-join (λ (r : Round). r.accepted) first next a.accepted b.accepted c.accepted p.accepted q.accepted;
  finished = added-join (λ (r : Round). r.finished) first next a.finished b.finished c.finished p.finished q.finished;
  ticks = subst (TicksEach t v) (sym (map-append (λ (r : Round). r.moment) first next))
      (ticks-join t u v (map (λ (r : Round). r.moment) first) (map (λ (r : Round). r.moment) next) p.ticks q.ticks);
}

module _ {V K : Type 0} (tells : V → Bool) (files : V → Folders) (faults : V → ℕ) (keeps : KeeperSeen K) (ring : Ring) where
  serves-join : (w mid after : AllNodes V K) (first next : List Round) → ServesAll tells files faults keeps ring w first mid
      → ServesAll tells files faults keeps ring mid next after → ServesAll tells files faults keeps ring w (first ++ next) after
  serves-join w mid after [] next p q = subst (λ (x : AllNodes V K). ServesAll tells files faults keeps ring x next after) p q
  serves-join w mid after (round ∷ first) next p q = (p.0, p.1, p.2, p.3, serves-join p.1 mid after first next p.4 q)

  -- ---- some connections, and then more

  module _ (n : ℕ) (began mid after : AllNodes V K) (a b c : DoorsTold) (t u v : Option (List ℕ)) (s x y : Counts)
      (first : AllServed tells files faults keeps ring n began mid a b t u s x) where
    pub all-join : (m : ℕ) → AllServed tells files faults keeps ring m mid after b c u v x y → AllServed tells files faults keeps ring (n + m) began after a c t
        v s y
    all-join m next =
        let count : length (first.rounds ++ next.rounds) ≡ length first.rounds + length next.rounds = length-append first.rounds next.rounds in
        record {
          rounds = first.rounds ++ next.rounds;
          serves = serves-join began mid after first.rounds next.rounds first.serves next.serves;
          heard = heard-join first.rounds next.rounds a b c t u v first.heard next.heard;
          count = let p = first.count in let q = next.count in omega (arith, count, p, q);
          door_calls = calls-join a.calls b.calls c.calls (length next.rounds) (length first.rounds) _ first.door_calls next.door_calls (omega (arith, count));
          door_faults = next.door_faults ∙ first.door_faults;
          store_calls = calls-join s.calls x.calls y.calls _ _ _ first.store_calls next.store_calls
              (sum-of-rows (length next.rounds) (length first.rounds) _ (length ring.devices) (2 ^ ring.lock_bits) count);
          store_faults = next.store_faults ∙ first.store_faults;
        }

    waiting-join : (m : ℕ) → StopsWaiting tells files faults keeps ring m mid after b c u v x y → StopsWaiting tells files faults keeps ring (n + m) began after
        a c t v s y
    waiting-join m next =
        let count : length (first.rounds ++ next.rounds) ≡ length first.rounds + length next.rounds = length-append first.rounds next.rounds in
        record {
          rounds = first.rounds ++ next.rounds;
          serves = serves-join began mid after first.rounds next.rounds first.serves next.serves;
          heard = heard-join first.rounds next.rounds a b c t u v first.heard next.heard;
          few = let p = first.count in let q = next.few in omega (arith, count, p, q);
          door_calls = calls-join a.calls b.calls c.calls (length next.rounds + 1) (length first.rounds) _ first.door_calls next.door_calls
              (omega (arith, count));
          store_calls = calls-join s.calls x.calls y.calls _ _ _ first.store_calls next.store_calls
              (sum-of-rows (length next.rounds) (length first.rounds) _ (length ring.devices) (2 ^ ring.lock_bits) count);
        }

    restarting-join : (m : ℕ) → StopsRestarting tells files faults keeps ring m mid after b c u v x y
        → StopsRestarting tells files faults keeps ring (n + m) began after a c t v s y
    restarting-join m next =
        let count : length (first.rounds ++ next.rounds) ≡ length first.rounds + length next.rounds = length-append first.rounds next.rounds in
        record {
          rounds = first.rounds ++ next.rounds;
          then = next.then;
          serves = serves-join began mid next.then first.rounds next.rounds first.serves next.serves;
          last = next.last;
          served = next.served;
          one = next.one;
          device = next.device;
          is_device = next.is_device;
          restarted = next.restarted;
          heard = subst (λ (rounds : List Round). AreHeard rounds a c t v) (sym (append_assoc first.rounds next.rounds (next.last ∷ [])))
              (heard-join first.rounds (next.rounds ++ next.last ∷ []) a b c t u v first.heard next.heard);
          few = let p = first.count in let q = next.few in omega (arith, count, p, q);
          door_calls = calls-join a.calls b.calls c.calls (length next.rounds + 1) (length first.rounds) _ first.door_calls next.door_calls
              (omega (arith, count));
          tried = next.tried;
          most = next.most;
          store_calls = calls-join s.calls x.calls y.calls _ _ _ first.store_calls next.store_calls
              (sum-with-rest next.tried (length next.rounds) (length first.rounds) _ (length ring.devices) next.device (2 ^ ring.lock_bits) count);
        }

    pub stopped-join : (m : ℕ) (fault : ServeFault) → EndsConnections tells files faults keeps ring m mid after b c u v x y (Err fault)
        → EndsConnections tells files faults keeps ring (n + m) began after a c t v s y (Err fault)
    stopped-join m serve_faults.Door next = (waiting-join m next.0, next.1 ∙ ap raised first.door_faults, next.2 ∙ first.store_faults)
    stopped-join m serve_faults.Store next = (restarting-join m next.0, next.1 ∙ first.door_faults, next.2 ∙ ap raised first.store_faults)
    stopped-join m serve_faults.NoMemory (inl waits, d, e) = (inl (waiting-join m waits), d ∙ first.door_faults, e ∙ first.store_faults)
    stopped-join m serve_faults.NoMemory (inr stops, d, e) = (inr (restarting-join m stops), d ∙ first.door_faults, e ∙ first.store_faults)
    stopped-join m serve_faults.Write next = absurd next

  -- ---- none of them yet, and of more of them

  pub none-served : (began : AllNodes V K) (a : DoorsTold) (t : Option (List ℕ)) (s : Counts) → AllServed tells files faults keeps ring 0 began began a a t t s
      s
  none-served began a t s = record {
    rounds = [];
    serves = refl;
    heard = record { accepted = sym (append-nil a.accepted); finished = sym (append-nil a.finished); ticks = refl };
    count = refl;
    door_calls = refl;
    door_faults = refl;
    store_calls = calls-are s.calls s.calls 0 _ refl (no-rows (length ring.devices) (2 ^ ring.lock_bits));
    store_faults = refl;
  }

  module _ (n m : ℕ) (more : n ≤ m) (began after : AllNodes V K) (a b : DoorsTold) (t u : Option (List ℕ)) (s x : Counts) where
    waiting-of : StopsWaiting tells files faults keeps ring n began after a b t u s x → StopsWaiting tells files faults keeps ring m began after a b t u s x
    waiting-of w = record {
      rounds = w.rounds;
      serves = w.serves;
      heard = w.heard;
      few = let p = w.few in omega (arith, p, more);
      door_calls = w.door_calls;
      store_calls = w.store_calls;
    }

    restarting-of : StopsRestarting tells files faults keeps ring n began after a b t u s x → StopsRestarting tells files faults keeps ring m began after a b t
        u s x
    restarting-of w = record {
      rounds = w.rounds;
      then = w.then;
      serves = w.serves;
      last = w.last;
      served = w.served;
      one = w.one;
      device = w.device;
      is_device = w.is_device;
      restarted = w.restarted;
      heard = w.heard;
      few = let p = w.few in omega (arith, p, more);
      door_calls = w.door_calls;
      tried = w.tried;
      most = w.most;
      store_calls = w.store_calls;
    }

    pub served-of : (fault : ServeFault) → EndsConnections tells files faults keeps ring n began after a b t u s x (Err fault)
        → EndsConnections tells files faults keeps ring m began after a b t u s x (Err fault)
    served-of serve_faults.Door w = (waiting-of w.0, w.1, w.2)
    served-of serve_faults.Store w = (restarting-of w.0, w.1, w.2)
    served-of serve_faults.NoMemory (inl waits, d, e) = (inl (waiting-of waits), d, e)
    served-of serve_faults.NoMemory (inr stops, d, e) = (inr (restarting-of stops), d, e)
    served-of serve_faults.Write w = absurd w

  -- ---- the next one

  module _ (old new : AllNodes V K) (a b : DoorsTold) (t u : Option (List ℕ)) (s x : Counts) where
    -- it couldn't be accepted
    pub none-accepted : new ≡ old → AreHeard [] a b t u → b.calls ≡ raised a.calls → x.calls ≡ s.calls →
        StopsWaiting tells files faults keeps ring 1 old new a b t u s x
    none-accepted same heard doors stores = record {
      rounds = [];
      serves = same;
      heard = heard;
      few = lit< tt;
      door_calls = doors;
      store_calls = calls-are s.calls x.calls 0 _ stores (no-rows (length ring.devices) (2 ^ ring.lock_bits));
    }

  module _ (old served : AllNodes V K) (a b : DoorsTold) (t u : Option (List ℕ)) (round : Round)
      (one : ServesOne tells files faults keeps ring old round served)
      (heard : AreHeard (round ∷ []) a b t u) (doors : b.calls ≡ raised a.calls) where
    -- it was served, and all devices were restarted
    pub one-served : (new : AllNodes V K) (s x : Counts) → RestartsFirst tells files faults keeps ring (length ring.devices) served new
        → x.calls ≡ raised_by (length ring.devices * 2 ^ ring.lock_bits) s.calls → b.faults ≡ a.faults → x.faults ≡ s.faults
        → AllServed tells files faults keeps ring 1 old new a b t u s x
    one-served new s x restarted stores doors_same stores_same = record {
      rounds = round ∷ [];
      serves = (served, new, one, restarted, refl);
      heard = heard;
      count = refl;
      door_calls = doors;
      door_faults = doors_same;
      store_faults = stores_same;
      store_calls = calls-are s.calls x.calls _ _ stores
          (one-row (length ring.devices) (2 ^ ring.lock_bits));
    }

    -- or some first ones of them
    pub one-stopped : {S : Type 0} (store_calls : S → ℕ) (rests : S → ℕ → ℕ → Option (V × K)) (out : S → ℕ → ℕ → Bool) (whole now : AllNodes V K)
        (stores stores_now : S)
        (s x : Counts) → s.calls ≡ store_calls stores → x.calls ≡ store_calls stores_now
        → StopsAmong tells files faults keeps store_calls rests out ring served whole now stores stores_now
        → StopsRestarting tells files faults keeps ring 1 old whole a b t u s x
    one-stopped store_calls rests out whole now stores stores_now s x before after stops = record {
      rounds = [];
      then = old;
      serves = refl;
      last = round;
      served = served;
      one = one;
      device = stops.device;
      is_device = stops.is_device;
      restarted = stops.restarted;
      heard = heard;
      few = lit< tt;
      door_calls = doors;
      tried = stops.tried;
      most = stops.most;
      store_calls = after ∙ (stops.calls_are ∙ (ap (raised_by (stops.tried + stops.device * 2 ^ ring.lock_bits)) (sym before)
          ∙ ap (λ (k : ℕ). raised_by k s.calls) (only-rest stops.tried (length ring.devices) stops.device (2 ^ ring.lock_bits))));
    }

-- as many more were finished as were accepted
pub lengths-on : (rounds : List Round) (a b : DoorsTold) (t u : Option (List ℕ)) → AreHeard rounds a b t u → length a.finished ≤ length a.accepted
    → length b.finished ≤ length b.accepted
lengths-on rounds a b t u heard least =
    let finished : length b.finished ≡ length a.finished + length rounds =
    ap length heard.finished ∙ (length-append a.finished (map (λ (r : Round). r.finished) rounds) ∙ ap (λ (k : ℕ). length a.finished + k)
    (length-map rounds (λ (r : Round). r.finished))) in
    let accepted : length b.accepted ≡ length a.accepted + length rounds =
    ap length heard.accepted ∙ (length-append a.accepted (map (λ (r : Round). r.accepted) rounds) ∙ ap (λ (k : ℕ). length a.accepted + k)
    (length-map rounds (λ (r : Round). r.accepted))) in
    omega (arith, finished, accepted, least)

pub counts-same : (a b : Counts) → a.calls ≡ b.calls → a.faults ≡ b.faults → a ≡ b
counts-same a b calls faults =
    let with_calls : ℕ → Counts = λ k. record { calls = k; faults = a.faults } in
    let with_faults : ℕ → Counts = λ k. record { calls = b.calls; faults = k } in
    ap with_calls calls ∙ ap with_faults faults

pub told-same : (a b : DoorsTold) → a.accepted ≡ b.accepted → a.finished ≡ b.finished → a.calls ≡ b.calls → a.faults ≡ b.faults → a ≡ b
told-same a b accepted finished calls faults =
    let one : List Accepted → DoorsTold = λ x. record { accepted = x; finished = a.finished; calls = a.calls; faults = a.faults } in
    let two : List Finished → DoorsTold = λ x. record { accepted = b.accepted; finished = x; calls = a.calls; faults = a.faults } in
    let three : ℕ → DoorsTold = λ x. record { accepted = b.accepted; finished = b.finished; calls = x; faults = a.faults } in
    let four : ℕ → DoorsTold = λ x. record { accepted = b.accepted; finished = b.finished; calls = b.calls; faults = x } in
    ap one accepted ∙ (ap two finished ∙ (ap three calls ∙ ap four faults))

row-more : (d b : ℕ) → b + d * b ≡ (d + 1) * b
row-more d b = grind (arith, rows)

-- one device more was restarted
pub restarts-on : (d b n mid now : ℕ) → mid ≡ raised_by (d * b) n → now ≡ raised_by b mid → now ≡ raised_by ((d + 1) * b) n
restarts-on d b n mid now p q = calls-join n mid now b (d * b) ((d + 1) * b) p q (row-more d b)

-- or some of its volumes were tried
pub tried-on : (d b tried n mid now : ℕ) → mid ≡ raised_by (d * b) n → now ≡ raised_by tried mid → now ≡ raised_by (tried + d * b) n
tried-on d b tried n mid now p q = calls-join n mid now tried (d * b) (tried + d * b) p q refl
