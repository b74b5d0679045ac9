-- The rule of the lock's table. (This project's own.)
use Rattle.std.specs.Prelude.{◌≡◌, ◌≢◌, ◌⊎◌, ℕ, ◌+◌, ◌%◌, ◌^◌, ◌<◌, ◌≤◌, true, false, List, [], ◌∷◌, ◌++◌, length, Option, Some, None}
use mathlib.Core.Option.{some}
use mathlib.Core.Option as maybe
use lib.ListN.{get_elem?}
use Rattle.atomic_table.specs.Table.{State, Me}
use Rattle.sw_turn.specs.declared.booked.Book.{Book}
use Rattle.sw_turn.specs.declared.booked.Known.{Known}
use Rattle.sw_turn.specs.declared.booked.Part.{Part}
use Rattle.sw_turn.specs.declared.booked.View.{View}
use Rattle.sw_turn.specs.Known.{total, below, first_of, rest_of, Grows, Tells, taken_in, nothing, later, AreParts}

abbrev pub tickets : Option ℕ → ℕ
tickets None = 0
tickets (Some t) = 1

module _ {B E O : Type 0} where
  -- a pass that waits for nothing
  abbrev pub idle : Known B E O → ℕ → List ℕ → View B E O
  idle k seats numbers = record { known = k; seats = seats; numbers = numbers; ticket = None; turn = false; parts = [] }

  -- a pass that has drawn this ticket
  abbrev pub waiting : Known B E O → ℕ → List ℕ → ℕ → View B E O
  waiting k seats numbers t = record { known = k; seats = seats; numbers = numbers; ticket = Some t; turn = false; parts = [] }

  -- a pass whose turn it is, with this ticket
  abbrev pub busy : Known B E O → ℕ → List ℕ → ℕ → View B E O
  busy k seats numbers t = record { known = k; seats = seats; numbers = numbers; ticket = Some t; turn = true; parts = [] }

  -- the first pass owns all numbers, and each entry that the value has is made by 0
  abbrev pub opened : ℕ → B → Book E O → View B E O
  opened seats value b = idle (taken_in nothing 0 value b) seats (below seats)

  abbrev pub giver : View B E O → View B E O
  giver v = record v { numbers = rest_of v.numbers }

  abbrev pub taker : View B E O → View B E O
  taker v = record v { numbers = first_of v.numbers ∷ [] }

  abbrev pub part : View B E O → Part B E O
  part v = record { known = v.known; numbers = v.numbers }

  abbrev pub united : View B E O → View B E O → View B E O
  united v w = record v { known = later v.known w.known; numbers = v.numbers ++ w.numbers; parts = part v ∷ part w ∷ [] }

  -- it owns all numbers of the lock
  abbrev pub OwnsAll : View B E O → Type 0
  OwnsAll v = length v.numbers ≡ v.seats

  -- the seat is of a pass that waits for nothing, and has no value in hand
  abbrev pub IsIdle : Me (Option B) (View B E O) → Type 0
  IsIdle me = me ≡ (idle me.0.known me.0.seats me.0.numbers, [])

  -- its turn has come, and its value is out
  abbrev pub IsBusy : Me (Option B) (View B E O) → Type 0
  IsBusy me = (t : ℕ) × (me ≡ (busy me.0.known me.0.seats me.0.numbers t, (0, None) ∷ []))

  -- b is the value, and k is its whole history, into which grew what the pass v knew: the same where v owns all numbers
  pub record Finds (book : B → Book E O) (v : View B E O) (k : Known B E O) (b : B) : Type 0 where
    pub tells : Tells (book b) k
    pub last : k.last ≡ Some b
    pub grows : Grows v.seats v.numbers v.known k
    pub alone : OwnsAll v → k ≡ v.known

  -- the pass v came in turn, and has the value in hand
  abbrev pub Holds : (B → Book E O) → View B E O → Me (Option B) (View B E O) → Type 0
  Holds book v w = (k : Known B E O) × (b : B) × (t : ℕ) × Finds book v k b × (w ≡ (busy k v.seats v.numbers t, (0, Some b) ∷ []))

  abbrev pub spent : View B E O
  spent = idle nothing 0 []

  -- what holds of a pass that owns a number: what it knows is what was known at its stamp, and has grown into the log since
  pub record Lives (past : ℕ → Known B E O) (log : Known B E O) (seats own : ℕ) (numbers : List ℕ) (k : Known B E O) : Type 0 where
    pub seats_are : own ≡ seats
    pub known : Grows seats numbers k log
    pub stage : k ≡ past k.stamp

  -- what holds of each pass, where the whole history is the log
  pub record Fits (past : ℕ → Known B E O) (log : Known B E O) (seats ticket serving : ℕ) (v : View B E O) : Type 0 where
    pub live : v.numbers ≢ [] → Lives past log seats v.seats v.numbers v.known
    pub gone : v.numbers ≡ [] → (v.ticket ≡ None) × (v.turn ≡ false)
    pub drawn : (t : ℕ) → v.ticket ≡ Some t → (serving ≤ t) × (t < ticket)
    pub parts : AreParts seats v.known v.parts
    pub turn : v.turn ≡ true → (v.ticket ≡ Some serving) × (v.known ≡ log)

  -- no two passes have one ticket
  abbrev pub Apart : List (View B E O) → Type 0
  Apart views = (i j : ℕ) (v w : View B E O) (t : ℕ) → get_elem? views i ≡ some v → get_elem? views j ≡ some w → v.ticket ≡ Some t → w.ticket ≡ Some t → i ≡ j

  abbrev pub NoneInTurn : List (View B E O) → Type 0
  NoneInTurn views = (i : ℕ) (v : View B E O) → get_elem? views i ≡ some v → v.turn ≡ false

  abbrev pub SomeInTurn : List (View B E O) → Type 0
  SomeInTurn views = (i : ℕ) × (v : View B E O) × (get_elem? views i ≡ some v) × (v.turn ≡ true)

  -- some pass knows all
  abbrev pub Heard : Known B E O → List (View B E O) → Type 0
  Heard log views = (i : ℕ) × (v : View B E O) × (get_elem? views i ≡ some v) × (v.numbers ≢ []) × (v.known ≡ log)

  -- no pass is in turn, and the value lies in the slot, with the history that the log tells
  abbrev pub AtHome : (B → Book E O) → Known B E O → List (maybe.Option (Option B)) → List (View B E O) → Type 0
  AtHome book log homes views = NoneInTurn views × ((b : B) × (homes ≡ some (Some b) ∷ []) × Tells (book b) log × (log.last ≡ Some b))

  -- Tickets count up without end here; the words have them modulo 2 ^ 64
  pub record Kept (book : B → Book E O) (seats : ℕ) (s : State (Option B) (View B E O)) : Type 0 where
    pub past : ℕ → Known B E O  -- what was known each time that the value was given back
    pub log : Known B E O
    pub ticket : ℕ
    pub serving : ℕ
    pub words : s.words ≡ length log.entries ∷ ticket % 2 ^ 64 ∷ serving % 2 ^ 64 ∷ []
    pub newest : past log.stamp ≡ log
    pub order : (a b : ℕ) → a ≤ b → b ≤ log.stamp → Grows seats [] (past a) (past b)
    pub few : seats < 2 ^ 32
    pub fits : (i : ℕ) (v : View B E O) → get_elem? s.views i ≡ some v → Fits past log seats ticket serving v
    pub heard : Heard log s.views
    pub apart : Apart s.views
    pub queue : serving + total (λ v. tickets v.ticket) s.views ≡ ticket
    -- each number below seats has one owner, however the numbers are weighed
    pub whole : (f : ℕ → ℕ) → total (λ v. total f v.numbers) s.views ≡ total f (below seats)
    pub slot : SomeInTurn s.views ⊎ AtHome book log s.homes s.views
