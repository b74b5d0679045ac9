-- The ledger goes on with each line of a run, beside the one that accounts for the containers too, and so with the run.
use Rattle.std.proofs.Common.{◌≡◌, ℕ, List, [], ◌∷◌, ◌++◌, ◌⊎◌, inl, inr, sym, ◌∙◌, subst, append_assoc}
use Rattle.std.specs.List.{Contains}
use Rattle.std.proofs.lemmas.List.{append-nil}
use Rattle.std.proofs.lemmas.List.Elements.{Contains-append_left, Contains-push_cases}
use Rattle.sw_listing_laws.proofs.Accounts.{HasReached, IsKnown, IsSound}
use Rattle.sw_listing_laws.proofs.Messages.{write-fair}
use Rattle.sw_listing_laws.proofs.Running.{goes-on-with}
use Rattle.sw_listing_laws.proofs.Standing.{reach}
use Rattle.sw_listing_laws.specs.Plain.{Cluster, IsNamedLine, IsPlain, IsPlainEvent, RunsSoundly}
use Rattle.sw_machine.specs.Honest.{IsHonest}
use Rattle.sw_machine.specs.Machine.{Came, KnownWrite, Machine, RunLine, Steps, Went}
use Rattle.sw_machine.specs.Messages.{WasSent}
use Rattle.sw_machine.specs.Sides.{TellsAt}
use Rattle.sw_hashpath.specs.declared.place.Place.{Place}
use Rattle.sw_object_steps.specs.Journals.{Hash}
use Rattle.sw_rows.specs.declared.row.Row.{Row}
use Rattle.sw_object_steps.specs.declared.change.Change.TheVariants.{Put, Post, Delete, Receive, MarkRecord, DropRecord}
use Rattle.sw_object_steps.specs.declared.entry.ObjEntry.{ObjEntry}
use Rattle.sw_peer.specs.declared.line.Event.{Event}
use Rattle.sw_peer.specs.declared.line.Event.TheVariants.{AtContainer, Changed, Listed, Read, ReadPart, Restarted}
use Rattle.sw_peer.specs.declared.link.Link.{Link}
use Rattle.sw_peer.specs.declared.link.Link.TheVariants.{Local}
use Rattle.sw_pending_laws.specs.Ledger.{Ledger}
use Rattle.sw_point_laws.proofs.Told.{acknowledged-within}
use Rattle.sw_state.specs.declared.base.Base.{Base}
use Rattle.sw_held_laws.proofs.Accounts.{IsAccount, IsTaken, LineNext, Says, Tells, all-say-still}
use Rattle.sw_held_laws.proofs.Coming.{IsReceived, came}
use Rattle.sw_held_laws.proofs.Sending.{sends}

-- what has reached by one ledger of what became known has by another one
reached-too : (c : Cluster) (known : List (ℕ × KnownWrite)) (k l : Ledger) → IsKnown c known k.reached → IsKnown c known l.reached → (hash : Hash) (b : Base)
    → HasReached k hash b → HasReached l hash b
reached-too c known k l first second hash b (a, there, hash_is, base_is) =
    let n = first.comes a there in
    (reach a.device n.0.name.hash a.base, second.reaches a.device n.0 a.base n.1 n.3, n.2 ∙ hash_is, base_is)

-- the ledger of the machine behind a line more
pub record AccountNext (c : Cluster) (kept : ℕ → Place → Row → Type 0) (done : List RunLine) (m : Machine) (l : Ledger) (after : Machine) (line : RunLine)
    : Type 0 where
  pub next : Ledger
  pub account : IsAccount c kept (done ++ line ∷ []) after next
  pub tells : Tells c m l after next line

module _ (c : Cluster) (kept : ℕ → Place → Row → Type 0) (done : List RunLine) (m : Machine) (k : Ledger) (sound : IsSound c done m k) (l : Ledger)
    (account : IsAccount c kept done m l) (after : Machine) where
  received : (device : ℕ) (link : Link) (added : List ObjEntry) (event : Event)
      → WasSent m.sent (record { device = device; link = link; event = event; added = added }) → (link ≡ Local → IsPlainEvent c m event) → IsReceived l event
  received device link added (Changed name (Receive write) answer) sent plain = λ b is.
      reached-too c m.objects.known k l sound.accounts.objects.known account.objects.known name.hash b
      (write-fair c m k sound.accounts device link name write answer (λ at. sent at tt) plain b is)
  received device link added (Changed name (Put time content none_match) answer) sent plain = tt
  received device link added (Changed name (Post time heads) answer) sent plain = tt
  received device link added (Changed name (Delete time if_delete_at) answer) sent plain = tt
  received device link added (Changed name (MarkRecord filed to) answer) sent plain = tt
  received device link added (Changed name (DropRecord filed all) answer) sent plain = tt
  received device link added (Read name got) sent plain = tt
  received device link added (ReadPart read) sent plain = tt
  received device link added (Listed failed) sent plain = tt
  received device link added (AtContainer event entries) sent plain = tt
  received device link added Restarted sent plain = tt

  -- ---- one line

  one : (line : RunLine) → Steps c.nodes m line after → IsHonest c.nodes.secrets c.replicas done line → IsPlain c m line → IsNamedLine c line
      → ((d : ℕ) (h : Hash) → TellsAt c.nodes.lock after.objects d h) → LineNext c kept done m after l line
  one (Came line) step honest plain named tell =
      came c kept done m l account after tell line.device line.link line.added line.event step.1 honest named
      (received line.device line.link line.added line.event step.0 plain)
  one (Went from message) step honest plain named tell =
      subst (λ (x : Machine). LineNext c kept done m x l (Went from message)) (sym step.1) (sends c kept done m l account from message step.0 named)

  pub account-goes-on : (line : RunLine) → Steps c.nodes m line after → IsHonest c.nodes.secrets c.replicas done line → IsPlain c m line
      → IsNamedLine c line → ((d : ℕ) (h : Hash) → TellsAt c.nodes.lock after.objects d h) → AccountNext c kept done m l after line
  account-goes-on line step honest plain named tell = record {
    next = n.next;
    account = record {
      objects = n.objects;
      rows = λ d p name row found. let is = n.rows d p name row found in (is.0, taken-still d p row is.1);
      says = λ x there. by x (Contains-push_cases done line x there);
      steady = n.goes.steady account.steady;
      clients = n.goes.clients account.clients;
    };
    tells = n.tells;
  }
    where
      n : LineNext c kept done m after l line
      n = one line step honest plain named tell

      taken-still : (d : ℕ) (p : Place) (row : Row) → IsTaken c kept done d p row → IsTaken c kept (done ++ line ∷ []) d p row
      taken-still d p row (inl is) =
          inl (acknowledged-within done (done ++ line ∷ []) (Contains-append_left done (line ∷ [])) c.nodes.secrets c.replicas d p row is)
      taken-still d p row (inr is) = inr is

      by : (x : RunLine) → Contains done x ⊎ (line ≡ x) → Says c n.next x
      by x (inl old) = all-say-still c l n.next n.goes done account.says x old
      by x (inr new) = subst (λ (y : RunLine). Says c n.next y) new n.says

-- ---- a run

pub account-ends : (c : Cluster) (kept : ℕ → Place → Row → Type 0) (lines done : List RunLine) (m : Machine) (k : Ledger) → IsSound c done m k
    → (l : Ledger) → IsAccount c kept done m l → (after : Machine) → RunsSoundly c done m lines after
    → (next : Ledger) × IsAccount c kept (done ++ lines) after next
account-ends c kept [] done m k sound l account after same =
    subst (λ (x : Machine). (next : Ledger) × IsAccount c kept (done ++ []) x next) (sym same)
    (l, subst (λ (xs : List RunLine). IsAccount c kept xs m l) (sym (append-nil done)) account)
account-ends c kept (line ∷ lines) done m k sound l account after run =
    let other = goes-on-with c done m k sound run.0 line run.1 run.2 run.3 run.4 in
    let n = account-goes-on c kept done m k sound l account run.0 line run.1 run.2 run.3 run.4 other.1.accounts.objects.tell in
    subst (λ (xs : List RunLine). (end : Ledger) × IsAccount c kept xs after end) (append_assoc done (line ∷ []) lines)
    (account-ends c kept lines (done ++ line ∷ []) run.0 other.0 other.1 n.next n.account after run.5)
