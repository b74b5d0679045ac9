-- What is known of rows goes on with each line, and so with a run.
use Rattle.std.proofs.Common.{◌≡◌, ℕ, List, [], ◌∷◌, ◌++◌, Option, ◌⊎◌, inl, inr, refl, sym, ◌∙◌, subst, true≢false, append_assoc}
use Rattle.std.proofs.lemmas.List.{append-nil}
use Rattle.std.proofs.lemmas.List.Elements.{All-contains, All-nil, Contains-append_left, Contains-push_cases}
use Rattle.std.specs.List.{Contains}
use Rattle.sw_container_steps.specs.Entries.{rows_of}
use Rattle.sw_hashpath.specs.declared.place.Place.{Place}
use Rattle.sw_keeper.specs.declared.tables.Tables.{Tables}
use Rattle.sw_listing_laws.proofs.Accounts.{IsSound}
use Rattle.sw_listing_laws.proofs.Bringing.{HasOnly}
use Rattle.sw_listing_laws.proofs.Running.{goes-on-with}
use Rattle.sw_listing_laws.proofs.Showing.{begins}
use Rattle.sw_listing_laws.specs.Plain.{Cluster, IsNamedLine, IsOfWrite, RunsSoundly}
use Rattle.sw_machine.proofs.Runs.{hashes-stand}
use Rattle.sw_machine.specs.Honest.{IsHonest}
use Rattle.sw_machine.specs.Machine.{KnownWrite, Machine, RunLine, Steps}
use Rattle.sw_machine.specs.Messages.{Message}
use Rattle.sw_pending_laws.proofs.Among.{none-among}
use Rattle.sw_pending_laws.specs.Laws as ledgers
use Rattle.sw_pending_laws.specs.Ledger.{Ledger}
use Rattle.sw_rows.specs.declared.numbered.Numbered.{Numbered}
use Rattle.sw_origin_laws.proofs.Lines.{LineNext, one}
use Rattle.sw_origin_laws.proofs.Lists.{AreListed, list_of}
use Rattle.sw_origin_laws.proofs.Origins.{AllBringOfRoot, HasOrigins, IsOfOne, Says, brings-still, have-still}
use Rattle.sw_origin_laws.specs.Laws.{IsBare, RowsComeFromWrites}
use Rattle.sw_origin_laws.specs.Roots.{AreRooted, AreRoots, IsRootedLine, IsRootedRow, runs_of}

-- ---- the beginning

module _ (c : Cluster) (root : Place → Place) (m : Machine) (bare : IsBare c m) where
  pub begun : HasOrigins c root [] m
  begun = record {
    have = record {
      rows = λ d p.
          subst (λ (t : Option Tables). HasOnly (IsRootedRow c root m p) (rows_of t)) (sym (bare.none d p))
          (All-nil (λ (n : Numbered). IsRootedRow c root m p n.row));
      lists = λ d p. subst (λ (t : Option Tables). AreListed (IsOfOne root p) (list_of t)) (sym (bare.none d p)) tt;
    };
    sent = subst (λ (xs : List Message). AllBringOfRoot c root m xs) (sym bare.new.no_messages) (λ message there. absurd (none-among message there));
    say = λ line there. absurd (none-among line there);
  }

-- ---- one line

module _ (c : Cluster) (root : Place → Place) (roots : AreRoots root) (done : List RunLine) (m : Machine) (l : Ledger) (sound : IsSound c done m l)
    (origins : HasOrigins c root done m) (after : Machine) where
  -- what became known stays so
  known-still : (line : RunLine) → Steps c.nodes m line after → (d : ℕ) (n : KnownWrite) → Contains m.objects.known (d, n)
      → Contains after.objects.known (d, n)
  known-still line step d n there =
      let more = hashes-stand c.nodes m (line ∷ []) after (after, step, refl) in
      subst (λ (xs : List (ℕ × KnownWrite)). Contains xs (d, n)) (sym more.known) (Contains-append_left m.objects.known more.more (d, n) there)

  pub origins-go-on : (line : RunLine) → Steps c.nodes m line after → IsHonest c.nodes.secrets c.replicas done line → IsNamedLine c line
      → IsRootedLine c root m line → HasOrigins c root (done ++ line ∷ []) after
  origins-go-on line step honest named rooted = record {
    have = have-still c root m after (known-still line step) after.containers next.have;
    sent = λ message there. brings-still c root m after (known-still line step) message (next.sent message there);
    say = λ x there. by x (Contains-push_cases done line x there);
  }
    where
      next : LineNext c root m after line
      next = one c root roots done m l sound.accounts origins after line step honest named rooted

      by : (x : RunLine) → Contains done x ⊎ (line ≡ x) → Says root x
      by x (inl old) = origins.say x old
      by x (inr new) = subst (Says root) new next.says

-- ---- a run

pub ends : (c : Cluster) (root : Place → Place) → AreRoots root → (lines done : List RunLine) (m : Machine) (l : Ledger) (after : Machine)
    → IsSound c done m l → HasOrigins c root done m → (run : RunsSoundly c done m lines after)
    → AreRooted c root m lines after (runs_of c done m lines after run) → HasOrigins c root (done ++ lines) after
ends c root roots [] done m l after sound origins same rooted =
    subst (λ (x : Machine). HasOrigins c root (done ++ []) x) (sym same)
    (subst (λ (lines : List RunLine). HasOrigins c root lines m) (sym (append-nil done)) origins)
ends c root roots (line ∷ lines) done m l after sound origins run rooted =
    let next = goes-on-with c done m l sound run.0 line run.1 run.2 run.3 run.4 in
    subst (λ (xs : List RunLine). HasOrigins c root xs after) (append_assoc done (line ∷ []) lines)
    (ends c root roots lines (done ++ line ∷ []) run.0 next.0 after next.1
    (origins-go-on c root roots done m l sound origins run.0 line run.1 run.2 run.4 rooted.0) run.5 rooted.1)

pub rows-come-from-writes : RowsComeFromWrites
rows-come-from-writes c root m lines after roots bare run rooted device place plain n there =
    by (All-contains (λ (x : Numbered). IsRootedRow c root after place x.row) (rows_of (after.containers.half.holds device place)).list n
    ((origins.have).rows device place) there)
  where
    origins : HasOrigins c root lines after
    origins = ends c root roots lines [] m ledgers.begun after (begins c m bare.new) (begun c root m bare) run rooted

    by : IsRootedRow c root after place n.row → IsOfWrite c after (root place) n.row
    by (inl hidden) = absurd (true≢false (sym hidden ∙ plain))
    by (inr is) = is
