-- What accounts contain: their writes, those that were asked for, and those that reached one device under one hash.
use Rattle.std.proofs.Common.{◌≡◌, ℕ, nat_eq, Bool, true, false, ◌&&◌, cond, true≢false, List, [], ◌∷◌, ◌++◌, ◌⊎◌, inl, inr, refl, sym, ◌∙◌, ap, subst}
use Rattle.std.proofs.Common.{if◌then◌else◌}
use Rattle.std.proofs.lemmas.Bool.{and_parts, cases_eq, eq-eqb, eqb-true}
use Rattle.std.proofs.lemmas.List.Elements.{All-head, All-tail}
use Rattle.std.specs.List.{All, Contains}
use Rattle.std.specs.Str.{bytes_eq}
use Rattle.sw_machine.specs.Machine.{KnownWrite, writes_among}
use Rattle.sw_object_steps.proofs.Hashes.{hash-same, hash-self}
use Rattle.sw_object_steps.specs.Journals.{Hash}
use Rattle.sw_pending_laws.proofs.Among.{behind, front-or-behind, in-front, none-among}
use Rattle.sw_state.specs.declared.write.Write.{Write}
use Rattle.sw_account_laws.specs.Accounts.{Account, Written, known_by, known_of}

-- ---- numbers

pub contains-or-not : (xs : List ℕ) (x : ℕ) → Contains xs x ⊎ (Contains xs x → ⊥)
contains-or-not [] x = inr (none-among x)
contains-or-not (y ∷ ys) x = by (cases_eq x y) (contains-or-not ys x)
  where
    by : (x ≡ y) ⊎ (x ≡ y → ⊥) → Contains ys x ⊎ (Contains ys x → ⊥) → Contains (y ∷ ys) x ⊎ (Contains (y ∷ ys) x → ⊥)
    by (inl same) rest = inl (subst (λ (z : ℕ). Contains (y ∷ ys) z) (sym same) (in-front y ys))
    by (inr differs) (inl there) = inl (behind y ys x there)
    by (inr differs) (inr none) = inr (λ there. elim (front-or-behind y ys x there) [ inl same ↦ differs same | inr old ↦ none old ])

-- ---- all writes

pub known-there : (account : Account) (w : Written) → Contains account w → Contains (known_by account) (known_of w)
known-there [] w there = absurd (none-among w there)
known-there (x ∷ xs) w there = by (front-or-behind x xs w there) (λ old. known-there xs w old)
  where
    by : (w ≡ x) ⊎ Contains xs w → (Contains xs w → Contains (known_by xs) (known_of w)) → Contains (known_by (x ∷ xs)) (known_of w)
    by (inl same) rest =
        subst (λ (y : Written). Contains (known_by (x ∷ xs)) (known_of y)) (sym same) (in-front (known_of x) (known_by xs))
    by (inr old) rest = behind (known_of x) (known_by xs) (known_of w) (rest old)

-- the write of an account that is this one
pub record IsWritten (account : Account) (d : ℕ) (n : KnownWrite) : Type 0 where
  pub w : Written
  pub there : Contains account w
  pub is : ◌≡◌ {A = ℕ × KnownWrite} (known_of w) (d, n)

written-behind : (x : Written) (xs : Account) (d : ℕ) (n : KnownWrite) → IsWritten xs d n → IsWritten (x ∷ xs) d n
written-behind x xs d n old = record { w = old.w; there = behind x xs old.w old.there; is = old.is }

pub known-written : (account : Account) (d : ℕ) (n : KnownWrite) → Contains (known_by account) (d, n) → IsWritten account d n
known-written [] d n there = absurd (none-among {X = ℕ × KnownWrite} (d, n) there)
known-written (x ∷ xs) d n there =
    by (front-or-behind {X = ℕ × KnownWrite} (known_of x) (known_by xs) (d, n) there) (λ old. known-written xs d n old)
  where
    by : ◌≡◌ {A = ℕ × KnownWrite} (d, n) (known_of x) ⊎ Contains (known_by xs) (d, n) → (Contains (known_by xs) (d, n) → IsWritten xs d n)
        → IsWritten (x ∷ xs) d n
    by (inl same) rest = record { w = x; there = in-front x xs; is = sym same }
    by (inr old) rest = written-behind x xs d n (rest old)

-- ---- those that clients asked for

abbrev pub asked_by : Account → List (ℕ × KnownWrite)
asked_by [] = []
asked_by (w ∷ ws) = if w.asked then known_of w ∷ asked_by ws else asked_by ws

pub asked-there : (account : Account) (w : Written) → Contains account w → w.asked ≡ true → Contains (asked_by account) (known_of w)
asked-there [] w there asked = absurd (none-among w there)
asked-there (x ∷ xs) w there asked = by (front-or-behind x xs w there) (λ old. asked-there xs w old asked)
  where
    new : (b : Bool) → b ≡ true → Contains (cond b (known_of x ∷ asked_by xs) (asked_by xs)) (known_of x)
    new true is = in-front (known_of x) (asked_by xs)
    new false is = absurd (true≢false (sym is))

    late : (b : Bool) → Contains (asked_by xs) (known_of w) → Contains (cond b (known_of x ∷ asked_by xs) (asked_by xs)) (known_of w)
    late true old = behind (known_of x) (asked_by xs) (known_of w) old
    late false old = old

    by : (w ≡ x) ⊎ Contains xs w → (Contains xs w → Contains (asked_by xs) (known_of w)) → Contains (asked_by (x ∷ xs)) (known_of w)
    by (inl same) rest =
        subst (λ (y : Written). Contains (asked_by (x ∷ xs)) (known_of y)) (sym same)
        (new x.asked (ap (λ (y : Written). y.asked) (sym same) ∙ asked))
    by (inr old) rest = late x.asked (rest old)

pub record IsAskedFor (account : Account) (d : ℕ) (n : KnownWrite) : Type 0 where
  pub w : Written
  pub there : Contains account w
  pub asked : w.asked ≡ true
  pub is : ◌≡◌ {A = ℕ × KnownWrite} (known_of w) (d, n)

pub asked-written : (account : Account) (d : ℕ) (n : KnownWrite) → Contains (asked_by account) (d, n) → IsAskedFor account d n
asked-written [] d n there = absurd (none-among {X = ℕ × KnownWrite} (d, n) there)
asked-written (x ∷ xs) d n there = at x.asked refl there (λ old. asked-written xs d n old)
  where
    later : IsAskedFor xs d n → IsAskedFor (x ∷ xs) d n
    later old = record { w = old.w; there = behind x xs old.w old.there; asked = old.asked; is = old.is }

    by : x.asked ≡ true → ◌≡◌ {A = ℕ × KnownWrite} (d, n) (known_of x) ⊎ Contains (asked_by xs) (d, n)
        → (Contains (asked_by xs) (d, n) → IsAskedFor xs d n) → IsAskedFor (x ∷ xs) d n
    by asked (inl same) rest = record { w = x; there = in-front x xs; asked = asked; is = sym same }
    by asked (inr old) rest = later (rest old)

    at : (b : Bool) → x.asked ≡ b → Contains (cond b (known_of x ∷ asked_by xs) (asked_by xs)) (d, n)
        → (Contains (asked_by xs) (d, n) → IsAskedFor xs d n) → IsAskedFor (x ∷ xs) d n
    at true asked there rest = by asked (front-or-behind {X = ℕ × KnownWrite} (known_of x) (asked_by xs) (d, n) there) rest
    at false asked there rest = later (rest there)

-- those of a step that a client asked for are all, and those of any other one are none
asked-all : (b : Bool) (news : Account) → All (λ (w : Written). w.asked ≡ b) news → asked_by news ≡ (if b then known_by news else [])
asked-all true [] all = refl
asked-all false [] all = refl
asked-all true (w ∷ ws) all =
    let is : w.asked ≡ true = All-head (λ (x : Written). x.asked ≡ true) w ws all in
    let rest : asked_by ws ≡ known_by ws = asked-all true ws (All-tail (λ (x : Written). x.asked ≡ true) w ws all) in
    rw is (ap (λ (xs : List (ℕ × KnownWrite)). known_of w ∷ xs) rest)
asked-all false (w ∷ ws) all =
    let is : w.asked ≡ false = All-head (λ (x : Written). x.asked ≡ false) w ws all in
    rw is (asked-all false ws (All-tail (λ (x : Written). x.asked ≡ false) w ws all))

asked-append : (account news : Account) → asked_by (account ++ news) ≡ asked_by account ++ asked_by news
asked-append [] news = refl
asked-append (w ∷ ws) news = by w.asked (asked-append ws news)
  where
    by : (b : Bool) → asked_by (ws ++ news) ≡ asked_by ws ++ asked_by news
        → cond b (known_of w ∷ asked_by (ws ++ news)) (asked_by (ws ++ news)) ≡ cond b (known_of w ∷ asked_by ws) (asked_by ws) ++ asked_by news
    by true rest = ap (λ (xs : List (ℕ × KnownWrite)). known_of w ∷ xs) rest
    by false rest = rest

pub asked-more : (b : Bool) (account news : Account) → All (λ (w : Written). w.asked ≡ b) news
    → asked_by (account ++ news) ≡ asked_by account ++ (if b then known_by news else [])
asked-more b account news all =
    asked-append account news ∙ ap (λ (xs : List (ℕ × KnownWrite)). asked_by account ++ xs) (asked-all b news all)

-- ---- those of one device and hash

pub among-append : (xs ys : List (ℕ × KnownWrite)) (d : ℕ) (hash : Hash)
    → writes_among (xs ++ ys) d hash ≡ writes_among xs d hash ++ writes_among ys d hash
among-append [] ys d hash = refl
among-append (x ∷ xs) ys d hash = by (nat_eq x.0 d && bytes_eq x.1.name.hash hash) (among-append xs ys d hash)
  where
    by : (b : Bool) → writes_among (xs ++ ys) d hash ≡ writes_among xs d hash ++ writes_among ys d hash
        → cond b (x.1.write ∷ writes_among (xs ++ ys) d hash) (writes_among (xs ++ ys) d hash)
        ≡ cond b (x.1.write ∷ writes_among xs d hash) (writes_among xs d hash) ++ writes_among ys d hash
    by true rest = ap (λ (ws : List Write). x.1.write ∷ ws) rest
    by false rest = rest

pub record IsAmong (xs : List (ℕ × KnownWrite)) (d : ℕ) (hash : Hash) (w : Write) : Type 0 where
  pub n : KnownWrite
  pub there : Contains xs (d, n)
  pub hash_is : n.name.hash ≡ hash
  pub write_is : n.write ≡ w

pub among-known : (xs : List (ℕ × KnownWrite)) (d : ℕ) (hash : Hash) (w : Write) → Contains (writes_among xs d hash) w → IsAmong xs d hash w
among-known [] d hash w there = absurd (none-among w there)
among-known (x ∷ xs) d hash w there = at (nat_eq x.0 d && bytes_eq x.1.name.hash hash) refl there (λ old. among-known xs d hash w old)
  where
    later : IsAmong xs d hash w → IsAmong (x ∷ xs) d hash w
    later old = record { n = old.n; there = behind {X = ℕ × KnownWrite} x xs (d, old.n) old.there; hash_is = old.hash_is; write_is = old.write_is }

    by : (nat_eq x.0 d && bytes_eq x.1.name.hash hash) ≡ true → (w ≡ x.1.write) ⊎ Contains (writes_among xs d hash) w
        → (Contains (writes_among xs d hash) w → IsAmong xs d hash w) → IsAmong (x ∷ xs) d hash w
    by is (inl same) rest =
        let parts = and_parts (nat_eq x.0 d) (bytes_eq x.1.name.hash hash) is in
        record {
          n = x.1;
          there = subst (λ (e : ℕ). Contains (x ∷ xs) (e, x.1)) (eqb-true x.0 d parts.0) (in-front {X = ℕ × KnownWrite} x xs);
          hash_is = hash-same x.1.name.hash hash parts.1;
          write_is = sym same;
        }
    by is (inr old) rest = later (rest old)

    at : (b : Bool) → (nat_eq x.0 d && bytes_eq x.1.name.hash hash) ≡ b
        → Contains (cond b (x.1.write ∷ writes_among xs d hash) (writes_among xs d hash)) w
        → (Contains (writes_among xs d hash) w → IsAmong xs d hash w) → IsAmong (x ∷ xs) d hash w
    at true is there rest = by is (front-or-behind x.1.write (writes_among xs d hash) w there) rest
    at false is there rest = later (rest there)

pub known-among : (xs : List (ℕ × KnownWrite)) (d : ℕ) (n : KnownWrite) → Contains xs (d, n) → Contains (writes_among xs d n.name.hash) n.write
known-among [] d n there = absurd (none-among {X = ℕ × KnownWrite} (d, n) there)
known-among (x ∷ xs) d n there = by (front-or-behind {X = ℕ × KnownWrite} x xs (d, n) there) (λ old. known-among xs d n old)
  where
    own : Contains (writes_among ((d, n) ∷ xs) d n.name.hash) n.write
    own =
        let one : nat_eq d d ≡ true = eq-eqb d d refl in
        let two : bytes_eq n.name.hash n.name.hash ≡ true = hash-self n.name.hash in
        rw (one, two) (in-front n.write (writes_among xs d n.name.hash))

    late : (b : Bool) → Contains (writes_among xs d n.name.hash) n.write
        → Contains (cond b (x.1.write ∷ writes_among xs d n.name.hash) (writes_among xs d n.name.hash)) n.write
    late true old = behind x.1.write (writes_among xs d n.name.hash) n.write old
    late false old = old

    by : ◌≡◌ {A = ℕ × KnownWrite} (d, n) x ⊎ Contains xs (d, n) → (Contains xs (d, n) → Contains (writes_among xs d n.name.hash) n.write)
        → Contains (writes_among (x ∷ xs) d n.name.hash) n.write
    by (inl same) rest = subst (λ (y : ℕ × KnownWrite). Contains (writes_among (y ∷ xs) d n.name.hash) n.write) same own
    by (inr old) rest = late (nat_eq x.0 d && bytes_eq x.1.name.hash n.name.hash) (rest old)
