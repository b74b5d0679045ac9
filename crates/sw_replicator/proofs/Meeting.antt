-- A push that is done over a door that is alone leaves the receiver with exactly the join of both, and the sender with what it held.
use Rattle.std.proofs.Common.{◌≡◌, ◌≢◌, ℕ, Bool, true, false, List, [], ◌∷◌, ◌++◌, refl, sym, ◌∙◌, ap, subst, ◌⊎◌, inl, inr, Some, Ok}
use Rattle.std.proofs.lemmas.List.Elements.{All-append, All-cons, All-nil}
use Rattle.std.specs.Prelude.{Contains}
use Rattle.std.specs.Str.{bytes_eq}
use Rattle.sw_diskfile.specs.declared.file_name.FileName.{FileName}
use Rattle.sw_hashpath.specs.HashParts.{suffix_of}
use Rattle.sw_pass.specs.declared.outcome.Outcome.{Outcome}
use Rattle.sw_peer.proofs.Calls.{moves-refl}
use Rattle.sw_object_steps.proofs.Hashes.{hash-apart, hash-same}
use Rattle.sw_object_steps.specs.Journals.{Hash}
use Rattle.sw_object_steps.specs.Parts.{Counts, IsOfPart}
use Rattle.sw_object_steps.specs.Values.{ObjValue}
use Rattle.sw_peer.specs.Sights.{HoldsAll, IsAt, Sight}
use Rattle.sw_replicator.proofs.Covering.{Watches, run-covers}
use Rattle.sw_replicator.proofs.Going.{Passes}
use Rattle.sw_replicator.proofs.Joining.{AreOf, joined-exactly}
use Rattle.sw_replicator.proofs.Making.{made-holds, made-joins, made-kept}
use Rattle.sw_replicator.proofs.Passing.{pass-made, pass-moves, pass-part, pass-stored}
use Rattle.sw_replicator.proofs.Reaching.{Told, done-goes, told-of}
use Rattle.sw_replicator.proofs.Reading.{IsOne, later, pair-trans, told-before, write-held, write-holds}
use Rattle.sw_replicator.proofs.Taking.{Covers, file-alike, keeps-all}
use Rattle.sw_replicator.specs.Meeting.{Collides, IsOfPair, Meets, PairMoves, known, state_at, state_by}
use Rattle.sw_replicator.specs.Pushing.{IsPush}
use Rattle.sw_state.proofs.JoinLaws.{join_is_at_least, joined-together}
use Rattle.sw_state.proofs.StateLaws.{associates, idempotent, joins_lists}
use Rattle.sw_state.specs.States.{IsAtLeast, joined, state_of, together, writes_of}
use Rattle.sw_state.specs.declared.state.State.{State}
use Rattle.sw_state.specs.declared.write.Write.{Write}

module _ (from to part : ℕ) (hash : Hash) where
  -- both tell their contents, and nobody else changes the nodes
  abbrev Alone : Sight → Type 0
  Alone s = Told from to part hash s × (s.alone ≡ true)

  abbrev Holds : ℕ → Sight → State
  Holds d s = state_at s d hash

  abbrev Value : ℕ → Sight → ObjValue
  Value d s = s.objects.holds d hash

  same_state : (v u : ObjValue) → v ≡ u → v.state ≡ u.state
  same_state v u same = ap (λ (x : ObjValue). x.state) same

  -- the sender holds what it held, and only writes of it came to the receiver
  pub record IsSent (a b : Sight) : Type 0 where
    pub kept : Value from b ≡ Value from a
    pub writes : List Write
    pub are : AreOf (Holds from a) writes
    pub joins : Holds to b ≡ together (Holds to a) (state_of writes)

  abbrev Follows : Sight → Sight → Type 0
  Follows a b = PairMoves from to part a b × (Alone b → IsSent a b)

  nothing-sent : (a b : Sight) → Value from b ≡ Value from a → Holds to b ≡ Holds to a → IsSent a b
  nothing-sent a b from_same to_same = record {
    kept = from_same;
    writes = [];
    are = All-nil (Contains (writes_of (Holds from a)));
    joins = to_same ∙ sym (keeps-all (Holds to a) [] tt);
  }

  alone-before : (a b : Sight) → PairMoves from to part a b → Alone b → Alone a
  alone-before a b p sure = ((told-before from to part from a b p sure.0.0, told-before from to part to a b p sure.0.1), p.alone sure.1)

  sent-trans : (a b c : Sight) → IsSent a b → IsSent b c → IsSent a c
  sent-trans a b c p q = record {
    kept = q.kept ∙ p.kept;
    writes = p.writes ++ q.writes;
    are = All-append (Contains (writes_of (Holds from a))) p.writes q.writes p.are (subst (λ (v : ObjValue). AreOf v.state q.writes) p.kept q.are);
    joins =
        q.joins
        ∙ (ap (λ (s : State). together s (state_of q.writes)) p.joins
        ∙ (associates (Holds to a) (state_of p.writes) (state_of q.writes) ∙ ap (together (Holds to a)) (joins_lists p.writes q.writes)));
  }

  follows-join : (a b c : Sight) → Follows a b → Follows b c → Follows a c
  follows-join a b c p q = (pair-trans from to part a b c p.0 q.0, λ sure. sent-trans a b c (p.1 (alone-before b c q.0 sure)) (q.1 sure))

  holds-up : (a b : Sight) (d : ℕ) → IsOne from to d → Follows a b → Alone b → IsAtLeast (Holds d b) (Holds d a)
  holds-up a b d (inl is) r sure =
      let same : Holds d b ≡ Holds d a =
      subst (λ (k : ℕ). Holds k b ≡ Holds k a) (sym is) (same_state (Value from b) (Value from a) (r.1 sure).kept) in
      subst (λ (s : State). IsAtLeast s (Holds d a)) (sym same) (idempotent (Holds d a))
  holds-up a b d (inr is) r sure =
      subst (λ (k : ℕ). IsAtLeast (Holds k b) (Holds k a)) (sym is)
      (subst (λ (s : State). IsAtLeast s (Holds to a)) (sym (r.1 sure).joins) (join_is_at_least (Holds to a) (state_of (r.1 sure).writes)).0)

  -- ---- a file that was read, sent and acknowledged

  module _ (apart : from ≢ to) (n a c : Sight) (h : Hash) (file : FileName) (r : Follows n a) (is : IsOfPart a.nodes.power part h)
      (counts : h ≡ hash → Alone n → Counts (Holds from n) file) (p : Passes from to part h file a c) where
    moves : PairMoves from to part a c
    moves = pass-moves from to part h file a c p is

    read-keeps : HoldsAll a p.mid
    read-keeps = write-holds from part h file a (Some p.stored) p.mid p.read

    sends : PairMoves from to part p.mid c
    sends = pass-made from to part h file a c p is

    alone-mid : Alone c → Alone p.mid
    alone-mid sure = alone-before p.mid c sends sure

    alone-a : Alone c → Alone a
    alone-a sure = alone-before a c moves sure

    name-is : p.stored.name.hash ≡ h
    name-is = (pass-stored from to part h file a c p is).hash_is

    -- what the sender holds stays, and what the receiver holds under another hash
    others-same : Alone c → (d : ℕ) → (d ≢ to) ⊎ (h ≢ hash) → Value d c ≡ Value d a
    others-same sure d away =
        made-kept to p.stored.name p.stored.write p.mid p.answer c p.made sure.1 d hash (other away) ∙ read-keeps (alone-mid sure).1 d hash
      where
        other : (d ≢ to) ⊎ (h ≢ hash) → IsAt to p.stored.name.hash d hash → ⊥
        other (inl far) at = far at.0
        other (inr far) at = far (sym (at.1 ∙ name-is))

    -- what was read of the sender is one of its writes
    is-own : Alone c → h ≡ hash → Contains (writes_of (Holds from a)) p.stored.write
    is-own sure same =
        subst (λ (s : State). Contains (writes_of s) p.stored.write) stood
        ((pass-stored from to part h file a c p is).counts (alone-mid sure).0.0 (subst (λ (s : State). Counts s file) (sym stood) still))
      where
        stood : state_by (known p.mid from part) h ≡ Holds from a
        stood =
            write-held from part h file a (Some p.stored) p.mid p.read (alone-mid sure).1 (alone-mid sure).0.0
            ∙ (ap (state_at p.mid from) same ∙ same_state (Value from p.mid) (Value from a) (read-keeps (alone-mid sure).1 from hash))

        still : Counts (Holds from a) file
        still =
            subst (λ (v : ObjValue). Counts v.state file) (sym (r.1 (alone-a sure)).kept)
            (counts same (alone-before n a r.0 (alone-a sure)))

    sent-here : Alone c → h ≡ hash → IsSent a c
    sent-here sure same = by (made-joins to p.stored.name p.stored.write part p.mid p.answer c (pass-part from to part h file a c p is) p.made sure.1 sure.0.1)
      where
        w : Write
        w = p.stored.write

        named : p.stored.name.hash ≡ hash
        named = name-is ∙ same

        read-same : Holds to p.mid ≡ Holds to a
        read-same = same_state (Value to p.mid) (Value to a) (read-keeps (alone-mid sure).1 to hash)

        by : (state_at c to p.stored.name.hash ≡ state_at p.mid to p.stored.name.hash)
            ⊎ (state_at c to p.stored.name.hash ≡ joined (state_at p.mid to p.stored.name.hash) w) → IsSent a c
        by (inl stays) =
            nothing-sent a c (others-same sure from (inl apart))
            (subst (λ (x : Hash). state_at c to x ≡ state_at p.mid to x) named stays ∙ read-same)
        by (inr joins) = record {
          kept = others-same sure from (inl apart);
          writes = w ∷ [];
          are = All-cons (Contains (writes_of (Holds from a))) w [] (is-own sure same) (All-nil (Contains (writes_of (Holds from a))));
          joins =
              subst (λ (x : Hash). state_at c to x ≡ joined (state_at p.mid to x) w) named joins
              ∙ (ap (λ (s : State). joined s w) read-same ∙ joined-together (Holds to a) w);
        }

    passed-sent : Alone c → IsSent a c
    passed-sent sure = by (bytes_eq h hash) refl
      where
        by : (b : Bool) → bytes_eq h hash ≡ b → IsSent a c
        by true here = sent-here sure (hash-same h hash here)
        by false away =
            nothing-sent a c (others-same sure from (inl apart)) (same_state (Value to c) (Value to a) (others-same sure to (inr (hash-apart h hash away))))

    passed-covers : h ≡ hash → Alone c → Covers (Holds to c) file
    passed-covers same sure v named =
        file-alike (Holds to c) p.stored.write v ((pass-stored from to part h file a c p is).named ∙ sym named)
        (subst (λ (x : Hash). joined (state_at c to x) p.stored.write ≡ state_at c to x) (name-is ∙ same)
        (made-holds to p.stored.name p.stored.write part p.mid p.answer c (pass-part from to part h file a c p is) p.made p.held sure.1 sure.0.1))

  holds-watched : from ≢ to → Watches from to part hash Alone Holds Follows
  holds-watched apart = record {
    moves = λ a b r. r.0;
    stays = λ a. (moves-refl (IsOfPair a.nodes.power from to part) a, λ sure. nothing-sent a a refl refl);
    join = follows-join;
    sure = λ a b r sure. alone-before a b r.0 sure;
    told = λ a d one sure. told-of from to part hash a d one sure.0;
    up = holds-up;
    reads = λ a b r holds. (r, λ sure. nothing-sent a b (holds sure.1 from hash) (same_state (Value to b) (Value to a) (holds sure.1 to hash)));
    tells = λ a d one sure held. held sure.1 (told-of from to part hash a d one sure.0);
    passes = λ n a c h file r is counts p. (
      (moves apart n a c h file r is counts p, passed-sent apart n a c h file r is counts p),
      passed-covers apart n a c h file r is counts p,
    );
  }

pub push-meets : (from to part : ℕ) (s t : Sight) (outcome : Outcome) → from ≢ to → IsPush from to part s (Ok outcome) t → outcome.done ≡ true
    → Meets from to part s t
push-meets from to part s t outcome apart push done alone told told' hash is = (sent.kept, by (r.1 sure is))
  where
    r : Follows from to part hash s t × (Alone from to part hash t → IsOfPart s.nodes.power part hash
        → IsAtLeast (state_at t to hash) (state_at s from hash) ⊎ Collides from to part (suffix_of hash) s t)
    r =
        run-covers from to part hash (Alone from to part hash) (Holds from to part hash) (Follows from to part hash) (holds-watched from to part hash apart) s t
        (done-goes from to part s t outcome push done)

    sure : Alone from to part hash t
    sure = (((later from to part from s t r.0.0).told ∙ told, (later from to part to s t r.0.0).told ∙ told'), alone)

    sent : IsSent from to part hash s t
    sent = r.0.1 sure

    by : IsAtLeast (state_at t to hash) (state_at s from hash) ⊎ Collides from to part (suffix_of hash) s t
        → (state_at t to hash ≡ together (state_at s to hash) (state_at s from hash)) ⊎ Collides from to part (suffix_of hash) s t
    by (inl least) = inl (joined-exactly (state_at s to hash) (state_at t to hash) (state_at s from hash) sent.writes sent.are sent.joins least)
    by (inr collides) = inr collides
