-- When a source is read.
use Rattle.std.proofs.Common.{◌≡◌, ℕ, ◌≤◌, Bool, List, [], ◌++◌, length, Option, None, Some, refl, sym, ap, ◌∙◌, subst}
use Rattle.std.proofs.Common.{◌⊎◌, inl, inr, arith, append-nil, length-append}
use Rattle.std.specs.Io.KnownBytes.{Consumes, Keeps, prepend_known}
use Rattle.std.proofs.KnownBytes.{Consumes-trans, Consumes-nil, Consumes-kept}
use Rattle.sw_outside.specs.Counts.{raised}
use Rattle.httparse.specs.Grammar.{AllPass}
use Rattle.sw_http.specs.Input.{IfSeen, IsAllRun, TakesRun}
use Rattle.sw_http.specs.Reads.{IsReadLast, ReadsWhile}
use Rattle.sw_http.proofs.InputLemmas.{seen_behind, seen_kept, seen_map}

-- nothing was read
pub reads_none : {A : Type 0} {left : A → Option (List ℕ)} {calls : A → ℕ} (source : A) (a : Option (List ℕ)) (P : List ℕ → Type 0)
    → ReadsWhile left calls source source a P
reads_none {left = left} source a P = record { bytes = []; given = Consumes-nil (left source); last = inl refl }

-- no call was made, and what is left is what was
pub reads_no_call : {A : Type 0} (left : A → Option (List ℕ)) (calls : A → ℕ) (old new : A) (a : Option (List ℕ)) (P : List ℕ → Type 0)
    → Keeps (left old) (left new) → calls new ≡ calls old → ReadsWhile left calls old new a P
reads_no_call left calls old new a P kept same =
    record { bytes = []; given = Consumes-kept (left old) (left old) (left new) [] (Consumes-nil (left old)) kept; last = inl same }

-- one call was made
pub reads_once : {A : Type 0} (left : A → Option (List ℕ)) (calls : A → ℕ) (old new : A) (bytes : List ℕ) → Consumes (left old) (left new) bytes
    → calls new ≡ raised (calls old) → ReadsWhile left calls old new (left old) (λ seen. seen ≡ [])
reads_once left calls old new bytes given called = record {
  bytes = bytes;
  given = given;
  last = inr (record { source = old; called = called; bytes = []; given = Consumes-nil (left old); needed = nothing_seen (left old) });
}
  where
    nothing_seen : (a : Option (List ℕ)) → IfSeen a a (λ (seen : List ℕ). seen ≡ [])
    nothing_seen None = tt
    nothing_seen (Some xs) = ([], refl, refl)

-- one call was made, and it failed
pub reads_failed : {A : Type 0} (left : A → Option (List ℕ)) (calls : A → ℕ) (old new : A) → Keeps (left old) (left new)
    → calls new ≡ raised (calls old) → ReadsWhile left calls old new (left old) (λ seen. seen ≡ [])
reads_failed left calls old new kept called =
    reads_once left calls old new [] (Consumes-kept (left old) (left old) (left new) [] (Consumes-nil (left old)) kept) called

-- from what was needed to what is weaker
pub reads_map : {A : Type 0} {left : A → Option (List ℕ)} {calls : A → ℕ} {old new : A} (a b : Option (List ℕ)) (P Q : List ℕ → Type 0)
    → ReadsWhile left calls old new a P → ((now : Option (List ℕ)) → IfSeen a now P → IfSeen b now Q) → ReadsWhile left calls old new b Q
reads_map {left = left} {calls = calls} {old = old} {new = new} a b P Q reads step =
    record { bytes = reads.bytes; given = reads.given; last = go reads.last }
  where
    go : (calls new ≡ calls old) ⊎ IsReadLast left calls old new a P → (calls new ≡ calls old) ⊎ IsReadLast left calls old new b Q
    go (inl same) = inl same
    go (inr last) = inr (record {
      source = last.source;
      called = last.called;
      bytes = last.bytes;
      given = last.given;
      needed = step (left last.source) last.needed;
    })

-- reads, and then further ones
pub reads_then : {A : Type 0} {left : A → Option (List ℕ)} {calls : A → ℕ} {old mid new : A} (a : Option (List ℕ)) (P : List ℕ → Type 0)
    → ReadsWhile left calls old mid a P → ReadsWhile left calls mid new a P → ReadsWhile left calls old new a P
reads_then {left = left} {calls = calls} {old = old} {mid = mid} {new = new} a P first second = record {
  bytes = first.bytes ++ second.bytes;
  given = Consumes-trans (left old) (left mid) (left new) first.bytes second.bytes first.given second.given;
  last = go second.last first.last;
}
  where
    go : (calls new ≡ calls mid) ⊎ IsReadLast left calls mid new a P → (calls mid ≡ calls old) ⊎ IsReadLast left calls old mid a P
        → (calls new ≡ calls old) ⊎ IsReadLast left calls old new a P
    go (inl same) (inl still) = inl (same ∙ still)
    go (inl same) (inr last) = inr (record {
      source = last.source;
      called = same ∙ last.called;
      bytes = last.bytes;
      given = last.given;
      needed = last.needed;
    })
    go (inr last) earlier = inr (record {
      source = last.source;
      called = last.called;
      bytes = first.bytes ++ last.bytes;
      given = Consumes-trans (left old) (left mid) (left last.source) first.bytes last.bytes first.given last.given;
      needed = last.needed;
    })

-- what is held was seen too
pub seen_before : (held : List ℕ) (left now : Option (List ℕ)) → IfSeen left now (λ (seen : List ℕ). seen ≡ [])
    → IfSeen (prepend_known held left) now (λ (seen : List ℕ). seen ≡ held)
seen_before held None now holds = tt
seen_before held (Some xs) None holds = tt
seen_before held (Some xs) (Some ys) holds =
    (held, ap (λ (l : List ℕ). held ++ l) (holds.1 ∙ ap (λ (l : List ℕ). l ++ ys) holds.2), refl)

-- a piece more was read behind what is held, of which P holds
pub reads_piece : {A : Type 0} {left : A → Option (List ℕ)} {calls : A → ℕ} {old new : A} (a : Option (List ℕ)) (held : List ℕ) (P : List ℕ → Type 0)
    → Keeps a (prepend_known held (left old)) → P held → ReadsWhile left calls old new (prepend_known held (left old)) (λ seen. seen ≡ held)
    → ReadsWhile left calls old new a P
reads_piece {left = left} {old = old} a held P kept holds reads =
    reads_map (prepend_known held (left old)) a (λ (seen : List ℕ). seen ≡ held) P reads
    (λ now seen. seen_kept a (prepend_known held (left old)) now P kept
    (seen_map (prepend_known held (left old)) now (λ (s : List ℕ). s ≡ held) P (λ bytes e. subst P (sym e) holds) seen))

-- reads, and then a piece more
pub reads_more : {A : Type 0} {left : A → Option (List ℕ)} {calls : A → ℕ} {old mid new : A} (a : Option (List ℕ)) (held : List ℕ) (P : List ℕ → Type 0)
    → ReadsWhile left calls old mid a P → Keeps a (prepend_known held (left mid)) → P held
    → ReadsWhile left calls mid new (prepend_known held (left mid)) (λ seen. seen ≡ held) → ReadsWhile left calls old new a P
reads_more a held P before kept holds reads = reads_then a P before (reads_piece a held P kept holds reads)

-- a run was passed over, and then a piece more was read where nothing was held
pub reads_run : {A : Type 0} {left : A → Option (List ℕ)} {calls : A → ℕ} {old new : A} (test : ℕ → Bool) (limit : ℕ) (a : Option (List ℕ)) (held : List ℕ)
    (count : ℕ) → TakesRun test a (prepend_known held (left old)) count → count ≤ limit → held ≡ []
    → ReadsWhile left calls old new (prepend_known held (left old)) (λ seen. seen ≡ held) → ReadsWhile left calls old new a (IsAllRun test limit)
reads_run {left = left} {old = old} test limit a held count run few none reads =
    reads_map (prepend_known held (left old)) a (λ (seen : List ℕ). seen ≡ held) (IsAllRun test limit) reads
    (λ now seen. seen_behind a (prepend_known held (left old)) now run.run (IsAllRun test limit) (λ (s : List ℕ). s ≡ held) run.taken
    (λ rest same. record {
      passes = subst (AllPass test) (sym (ap (λ (l : List ℕ). run.run ++ l) (same ∙ none) ∙ append-nil run.run)) run.passes;
      few = omega (arith, few, run.size, ap length (same ∙ none), length-append run.run rest);
    }) seen)
