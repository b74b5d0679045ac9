-- An account goes on along a run in one way, by what each step makes known.
use Rattle.std.proofs.Common.{◌≡◌, ℕ, Bool, List, [], ◌∷◌, ◌++◌, refl, sym, ◌∙◌, ap, subst}
use Rattle.std.proofs.lemmas.List.{append_cancel_left, map-append}
use Rattle.std.proofs.lemmas.List.Elements.{All-cons, All-head, All-nil, All-tail}
use Rattle.std.specs.List.{All}
use Rattle.sw_listing_laws.specs.Asking.{is_asked_line}
use Rattle.sw_machine.proofs.Runs.{hashes-stand}
use Rattle.sw_machine.specs.Machine.{KnownWrite, Machine, RunLine, Runs, Steps}
use Rattle.sw_peer.specs.Sights.{Nodes}
use Rattle.sw_account_laws.specs.Accounts.{Account, Adds, GoesOnFrom, IsAccount, Written, known_by, known_of}
use Rattle.sw_account_laws.specs.Laws.{AccountsJoin, KeepsAccounts}

-- ---- what one step makes known

-- each of these was asked for, or none
abbrev flagged : Bool → List (ℕ × KnownWrite) → Account
flagged asked [] = []
flagged asked (x ∷ xs) = record { device = x.0; name = x.1.name; write = x.1.write; asked = asked } ∷ flagged asked xs

known-flagged : (asked : Bool) (xs : List (ℕ × KnownWrite)) → known_by (flagged asked xs) ≡ xs
known-flagged asked [] = refl
known-flagged asked (x ∷ xs) = ap (λ (ys : List (ℕ × KnownWrite)). x ∷ ys) (known-flagged asked xs)

all-flagged : (asked : Bool) (xs : List (ℕ × KnownWrite)) → All (λ (w : Written). w.asked ≡ asked) (flagged asked xs)
all-flagged asked [] = All-nil (λ (w : Written). w.asked ≡ asked)
all-flagged asked (x ∷ xs) =
    All-cons (λ (w : Written). w.asked ≡ asked) (record { device = x.0; name = x.1.name; write = x.1.write; asked = asked }) (flagged asked xs) refl
    (all-flagged asked xs)

-- what is known tells which they are
one-account : (asked : Bool) (a b : Account) → All (λ (w : Written). w.asked ≡ asked) a → All (λ (w : Written). w.asked ≡ asked) b
    → known_by a ≡ known_by b → a ≡ b
one-account asked [] [] all also same = refl
one-account asked [] (y ∷ b) all also same = cc
one-account asked (x ∷ a) [] all also same = cc
one-account asked (x ∷ a) (y ∷ b) all also same =
    let first : ◌≡◌ {A = ℕ × KnownWrite} (known_of x) (known_of y) = cc in
    let rest : known_by a ≡ known_by b = cc in
    let flag : x.asked ≡ y.asked =
    All-head (λ (w : Written). w.asked ≡ asked) x a all ∙ sym (All-head (λ (w : Written). w.asked ≡ asked) y b also) in
    let same_rest : a ≡ b =
    one-account asked a b (All-tail (λ (w : Written). w.asked ≡ asked) x a all) (All-tail (λ (w : Written). w.asked ≡ asked) y b also) rest in
    λ i. record { device = (first i).0; name = (first i).1.name; write = (first i).1.write; asked = flag i } ∷ same_rest i

module _ (nodes : Nodes) where
  adds : (m : Machine) (line : RunLine) (after : Machine) → Steps nodes m line after → (news : Account) × Adds m line after news
  adds m line after step =
      let more = hashes-stand nodes m (line ∷ []) after (after, step, refl) in (
        flagged (is_asked_line line) more.more,
        record {
          known = more.known ∙ ap (λ (xs : List (ℕ × KnownWrite)). m.objects.known ++ xs) (sym (known-flagged (is_asked_line line) more.more));
          asked = all-flagged (is_asked_line line) more.more;
        },
      )

  adds-one : (m : Machine) (line : RunLine) (after : Machine) (a b : Account) → Adds m line after a → Adds m line after b → a ≡ b
  adds-one m line after a b one other =
      one-account (is_asked_line line) a b one.asked other.asked
      (append_cancel_left m.objects.known (known_by a) (known_by b) (sym one.known ∙ other.known))

  -- ---- a run

  goes-on : (lines : List RunLine) (m after : Machine) (run : Runs nodes m lines after) (account : Account)
      → (later : Account) × GoesOnFrom nodes m lines after run account later
  goes-on [] m after run account = (account, refl)
  goes-on (line ∷ lines) m after run account =
      let a = adds m line run.0 run.1 in
      let rest = goes-on lines run.0 after run.2 (account ++ a.0) in
      (rest.0, (a.0, a.1, rest.1))

  only-one : (lines : List RunLine) (m after : Machine) (run : Runs nodes m lines after) (account later other : Account)
      → GoesOnFrom nodes m lines after run account later → GoesOnFrom nodes m lines after run account other → other ≡ later
  only-one [] m after run account later other one also = also ∙ sym one
  only-one (line ∷ lines) m after run account later other one also =
      let same : also.0 ≡ one.0 = adds-one m line run.0 also.0 one.0 also.1 one.1 in
      only-one lines run.0 after run.2 (account ++ one.0) later other one.2
      (subst (λ (news : Account). GoesOnFrom nodes run.0 lines after run.2 (account ++ news) other) same also.2)

  account-more : (m : Machine) (line : RunLine) (after : Machine) (account news : Account) → IsAccount m account → Adds m line after news
      → IsAccount after (account ++ news)
  account-more m line after account news is adds =
      adds.known ∙ (ap (λ (xs : List (ℕ × KnownWrite)). xs ++ known_by news) is ∙ sym (map-append known_of account news))

  pub account-after : (lines : List RunLine) (m after : Machine) (run : Runs nodes m lines after) (account later : Account) → IsAccount m account
      → GoesOnFrom nodes m lines after run account later → IsAccount after later
  account-after [] m after run account later is goes = ap (λ (x : Machine). x.objects.known) run ∙ (is ∙ ap known_by (sym goes))
  account-after (line ∷ lines) m after run account later is goes =
      account-after lines run.0 after run.2 (account ++ goes.0) later (account-more m line run.0 account goes.0 is goes.1) goes.2

-- ---- the laws

pub keeps-accounts : KeepsAccounts
keeps-accounts nodes m lines after run account is =
    let g = goes-on nodes lines m after run account in
    (g.0, account-after nodes lines m after run account g.0 is g.1, g.1, λ other also. only-one nodes lines m after run account g.0 other g.1 also)

pub accounts-join : AccountsJoin
accounts-join nodes m [] mid more after run next account then later first second =
    subst (λ (x : Machine). (whole : Runs nodes x more after) × GoesOnFrom nodes x more after whole account later) run
    (next, subst (λ (a : Account). GoesOnFrom nodes mid more after next a later) first second)
accounts-join nodes m (line ∷ lines) mid more after run next account then later first second =
    let rest = accounts-join nodes run.0 lines mid more after run.2 next (account ++ first.0) then later first.2 second in
    ((run.0, run.1, rest.0), (first.0, first.1, rest.1))
