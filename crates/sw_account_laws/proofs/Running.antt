-- The ledger of acknowledgements goes on along a run, beside the account: what clients asked for is the same by both.
use Rattle.std.proofs.Common.{◌≡◌, ℕ, List, [], ◌∷◌, ◌++◌, sym, ◌∙◌, ap, subst, append_assoc, if◌then◌else◌}
use Rattle.std.proofs.lemmas.List.{append-nil, append_cancel_left}
use Rattle.sw_hashpath.specs.declared.place.Place.{Place}
use Rattle.sw_held_laws.proofs.Accounts.{IsAccount}
use Rattle.sw_held_laws.proofs.Running.{AccountNext, account-goes-on}
use Rattle.sw_listing_laws.proofs.Accounts.{IsKnown, IsSound}
use Rattle.sw_listing_laws.proofs.Running.{goes-on-with}
use Rattle.sw_listing_laws.specs.Asking.{is_asked_line}
use Rattle.sw_listing_laws.specs.Plain.{Cluster, RunsSoundly}
use Rattle.sw_machine.specs.Machine.{KnownWrite, Machine, RunLine}
use Rattle.sw_origin_laws.specs.Roots.{runs_of}
use Rattle.sw_pending_laws.specs.Ledger.{Ledger}
use Rattle.sw_rows.specs.declared.row.Row.{Row}
use Rattle.sw_account_laws.proofs.Among.{asked-more, asked_by}
use Rattle.sw_account_laws.specs.Accounts.{Account, Adds, GoesOnFrom, known_by}

-- a ledger of the machine by which clients asked for what they did by the account
pub record IsAtEnd (c : Cluster) (kept : ℕ → Place → Row → Type 0) (done : List RunLine) (m : Machine) (account : Account) : Type 0 where
  pub ledger : Ledger
  pub accounts : IsAccount c kept done m ledger
  pub asked : IsKnown c (asked_by account) ledger.asked

module _ (c : Cluster) (kept : ℕ → Place → Row → Type 0) where
  -- one line
  asked-on : (done : List RunLine) (m : Machine) (l : Ledger) (after : Machine) (line : RunLine) (next : AccountNext c kept done m l after line)
      (account news : Account) → Adds m line after news → IsKnown c (asked_by account) l.asked
      → IsKnown c (asked_by (account ++ news)) next.next.asked
  asked-on done m l after line next account news adds asked =
      subst (λ (xs : List (ℕ × KnownWrite)). IsKnown c xs next.next.asked)
      (ap (λ (ns : List (ℕ × KnownWrite)). asked_by account ++ (if is_asked_line line then ns else [])) same
      ∙ sym (asked-more (is_asked_line line) account news adds.asked))
      (next.tells.asked (asked_by account) asked)
    where
      same : next.tells.news ≡ known_by news
      same = append_cancel_left m.objects.known next.tells.news (known_by news) (sym next.tells.known ∙ adds.known)

  pub ends : (lines done : List RunLine) (m : Machine) (k : Ledger) → IsSound c done m k → (l : Ledger) → IsAccount c kept done m l
      → (account : Account) → IsKnown c (asked_by account) l.asked → (after : Machine) (run : RunsSoundly c done m lines after) (later : Account)
      → GoesOnFrom c.nodes m lines after (runs_of c done m lines after run) account later → IsAtEnd c kept (done ++ lines) after later
  ends [] done m k sound l accounts account asked after same later goes =
      subst (λ (x : Machine). IsAtEnd c kept (done ++ []) x later) (sym same)
      (subst (λ (a : Account). IsAtEnd c kept (done ++ []) m a) (sym goes)
      (subst (λ (xs : List RunLine). IsAtEnd c kept xs m account) (sym (append-nil done))
      (record { ledger = l; accounts = accounts; asked = asked })))
  ends (line ∷ lines) done m k sound l accounts account asked after run later goes =
      let other = goes-on-with c done m k sound run.0 line run.1 run.2 run.3 run.4 in
      let n = account-goes-on c kept done m k sound l accounts run.0 line run.1 run.2 run.3 run.4 other.1.accounts.objects.tell in
      subst (λ (xs : List RunLine). IsAtEnd c kept xs after later) (append_assoc done (line ∷ []) lines)
      (ends lines (done ++ line ∷ []) run.0 other.0 other.1 n.next n.account (account ++ goes.0)
      (asked-on done m l run.0 line n account goes.0 goes.1 asked) after run.5 later goes.2)
