-- The connections that doors in memory have accepted: how many, and one more.
use Rattle.std.proofs.Common.{◌≡◌, ◌∙◌, ℕ, zero, suc, ◌+◌, ◌<◌, ◌≤◌, List, [], ◌∷◌, ◌++◌, Option, None, Some, length, map, take, refl, sym, ap, arith, add-one}
use Rattle.std.specs.List.{slice_get}
use Rattle.std.specs.Option.{option_and_then}
use Rattle.std.proofs.lemmas.List.{length-map, length-take-le, map-append}
use Rattle.sw_outside.specs.Doors.{Accepted, MemDoorsState, accepted_as, accepted_from, accepts_of, finished_as, finished_of}
use Rattle.sw_outside.specs.Doors.{giving, next_of, store_of, supply_of, taking}
use Rattle.sw_outside.specs.Store.{Store}
use Rattle.sw_outside.specs.Supply.{Supply}
use Rattle.sw_outside.specs.declared.mem_doors.MemConnection.{MemConnection}
use Rattle.sw_outside.specs.declared.mem_doors.MemFinished.{MemFinished}

take-next : {X : Type 0} (xs : List X) (i : ℕ) (x : X) → slice_get xs i ≡ Some x → take (suc i) xs ≡ take i xs ++ x ∷ []
take-next [] i x at = absurd cc
take-next (y ∷ xs) zero x at = let same : y ≡ x = cc in ap (λ z. z ∷ []) same
take-next (y ∷ xs) (suc i) x at = ap (λ zs. y ∷ zs) (take-next xs i x at)

-- where a connection comes next, it is listened
stands : {A X : Type 0} (o : Option A) (next : Option X) (x : X) → option_and_then (λ _. next) o ≡ Some x → next ≡ Some x
stands None next x at = absurd cc
stands (Some _) next x at = at

-- as many as were accepted
accepted-count : (n : ℕ) (cs : List MemConnection) → length (accepted_from n cs) ≡ length cs
accepted-count n [] = refl
accepted-count n (c ∷ cs) = ap (λ (k : ℕ). suc k) (accepted-count (n + 1) cs)

pub accepts-count : (d : MemDoorsState) → d.accepted ≤ length d.connections → length (accepts_of d) ≡ d.accepted
accepts-count d within = accepted-count 0 (take d.accepted d.connections) ∙ length-take-le d.accepted d.connections within

accepted-append : (n m : ℕ) (cs : List MemConnection) (c : MemConnection) → m ≡ n + length cs
    → accepted_from n (cs ++ c ∷ []) ≡ accepted_from n cs ++ accepted_as (m + 1) c ∷ []
accepted-append n m [] c at = let same : n ≡ m = omega (arith, at) in ap (λ (k : ℕ). accepted_as (k + 1) c ∷ []) same
accepted-append n m (x ∷ cs) c at =
    let rest : m ≡ (n + 1) + length cs = omega (arith, at) in
    ap (λ (rest_of : List Accepted). accepted_as (n + 1) x ∷ rest_of) (accepted-append (n + 1) m cs c rest)

pub accepts-more : (d : MemDoorsState) (c : MemConnection) (ends : Supply × Store) → d.accepted ≤ length d.connections → next_of d ≡ Some c
    → ends.0 ≡ supply_of (d.accepted + 1) c → ends.1 ≡ store_of (d.accepted + 1) c
    → accepts_of (record d { accepted = d.accepted + 1 }) ≡ accepts_of d
    ++ record { number = length (accepts_of d) + 1; source = giving ends.0; sink = taking ends.1 } ∷ []
accepts-more d c ends within next source sink =
    let front = take d.accepted d.connections in
    let count : d.accepted ≡ 0 + length front = omega (arith, length-take-le d.accepted d.connections within) in
    let as_it_is = λ (k : ℕ) (e : Supply) (s : Store). (
    let a : Accepted = record { number = k + 1; source = giving e; sink = taking s } in accepts_of d ++ a ∷ []) in
    rw add-one (ap (λ (ms : List MemConnection). accepted_from 0 ms) (take-next d.connections d.accepted c (stands d.port _ c next))
    ∙ accepted-append 0 d.accepted front c count
    ∙ ap (λ (e : Supply). as_it_is d.accepted e (store_of (d.accepted + 1) c)) (sym source)
    ∙ ap (λ (s : Store). as_it_is d.accepted ends.0 s) (sym sink)
    ∙ ap (λ (k : ℕ). as_it_is k ends.0 ends.1) (sym (accepts-count d within)))

-- ---- those that were finished

-- where not all are finished there is room for one more
pub has-room : (d : MemDoorsState) → d.accepted ≤ length d.connections → length (finished_of d) < length (accepts_of d) → length d.finished < d.accepted
has-room d within fewer = grind (arith, fewer, accepts-count d within, length-map d.finished (λ (f : MemFinished). finished_as f.among f))

pub finishes-more : (d : MemDoorsState) (all : List MemFinished) (f : MemFinished) → d.accepted ≤ length d.connections → all ≡ d.finished ++ f ∷ []
    → f.among ≡ d.accepted → map (λ g. finished_as g.among g) all ≡ finished_of d ++ finished_as (length (accepts_of d)) f ∷ []
finishes-more d all f within more among =
    let shown = λ (g : MemFinished). finished_as g.among g in
    ap (λ (fs : List MemFinished). map shown fs) more ∙ map-append shown d.finished (f ∷ [])
    ∙ ap (λ (n : ℕ). finished_of d ++ finished_as n f ∷ []) (among ∙ sym (accepts-count d within))
