-- What is known of a lock's history, and of who made which entry. (This project's own.)
use Rattle.std.specs.Prelude.{◌≡◌, ℕ, zero, suc, ◌+◌, ◌-◌, ◌<◌, ◌≤◌, eqb, leb, cond, Bool, true, false, List, [], ◌∷◌, ◌++◌, length, replicate, Some, None}
use Rattle.sw_turn.specs.declared.booked.Book.{Book}
use Rattle.sw_turn.specs.declared.booked.Known.{Known}
use Rattle.sw_turn.specs.declared.booked.Part.{Part}

-- f of each, added up
abbrev pub total : {A : Type 0} → (A → ℕ) → List A → ℕ
total f [] = 0
total f (x ∷ xs) = f x + total f xs

abbrev pub hit : Bool → ℕ
hit true = 1
hit false = 0

-- how often x stands in the list
abbrev pub times : ℕ → List ℕ → ℕ
times x xs = total (λ y. hit (eqb y x)) xs

-- the numbers below n
abbrev pub below : ℕ → List ℕ
below zero = []
below (suc n) = n ∷ below n

abbrev pub first_of : List ℕ → ℕ
first_of [] = 0
first_of (x ∷ xs) = x

abbrev pub rest_of : List ℕ → List ℕ
rest_of [] = []
rest_of (x ∷ xs) = xs

-- none of these makers is one of the numbers
abbrev pub ByOthers : List ℕ → List ℕ → Type 0
ByOthers numbers makers = (x : ℕ) → 0 < times x makers → times x numbers ≡ 0

-- each is a number of the lock, and none stands twice
abbrev pub AreApart : ℕ → List ℕ → Type 0
AreApart seats numbers = (x : ℕ) → (times x numbers ≤ 1) × (0 < times x numbers → x < seats)

module _ {B E O : Type 0} where
  -- l is known no earlier than k, by who owns these numbers and made nothing in between
  pub record Grows (seats : ℕ) (numbers : List ℕ) (k l : Known B E O) : Type 0 where
    pub entries : (more : List E) × (l.entries ≡ k.entries ++ more)
    pub makers : (more : List ℕ) × (l.makers ≡ k.makers ++ more) × ByOthers numbers more
    pub even : length l.makers ≡ length l.entries  -- each entry has one maker
    pub small : (x : ℕ) → 0 < times x l.makers → x < seats  -- which is a number of the lock
    pub opening : l.opening ≡ k.opening
    pub faults : k.faults ≤ l.faults
    pub stamp : k.stamp ≤ l.stamp

  -- what is known is the whole history of the value
  pub record Tells (b : Book E O) (k : Known B E O) : Type 0 where
    pub entries : k.entries ≡ b.entries
    pub opening : k.opening ≡ Some b.opening
    pub faults : k.faults ≡ b.faults

  -- the value's history begins with what is known
  pub record GoesOn (k : Known B E O) (b : Book E O) : Type 0 where
    pub entries : (more : List E) × (b.entries ≡ k.entries ++ more)
    pub opening : k.opening ≡ Some b.opening
    pub faults : k.faults ≤ b.faults

  -- what is known after the value's history was seen, where x made what is new in it
  abbrev pub taken_in : Known B E O → ℕ → B → Book E O → Known B E O
  taken_in k x value b = record {
    entries = b.entries;
    makers = k.makers ++ replicate (length b.entries - length k.entries) x;
    opening = Some b.opening;
    faults = b.faults;
    stamp = k.stamp + 1;
    last = Some value;
  }

  abbrev pub nothing : Known B E O
  nothing = record { entries = []; makers = []; opening = None; faults = 0; stamp = 0; last = None }

  -- what two passes of one lock know together: what the later of them knows
  abbrev pub later : Known B E O → Known B E O → Known B E O
  later k l = cond (leb k.stamp l.stamp) l k

  -- what each of the parts knew grew into k
  abbrev pub AreParts : ℕ → Known B E O → List (Part B E O) → Type 0
  AreParts seats k [] = Unit {0}
  AreParts seats k (p ∷ ps) = Grows seats p.numbers p.known k × AreParts seats k ps
