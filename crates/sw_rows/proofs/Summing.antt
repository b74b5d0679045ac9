-- Sums of rows, where one is put behind the others and the one of its name is gone.
use Rattle.std.proofs.Common.{◌≡◌, ℕ, ◌+◌, ◌-◌, ◌*◌, ◌<◌, ◌≤◌, ◌^◌, Bool, cond, not, List, [], ◌∷◌, ◌++◌, length, Option, None, Some, All, refl, sym, ◌∙◌, ap}
use Rattle.std.proofs.Common.{arith}
use Rattle.std.specs.Int.Bits.{xor_assoc}
use Rattle.std.specs.List.{find, fold, sum_by}
use Rattle.std.specs.Option.{option_map}
use Rattle.std.specs.Prelude.{bit_xor}
use Rattle.std.proofs.lemmas.List.Elements.{All-filter, All-push, All-weaker}
use Rattle.std.proofs.lemmas.List.Sums.{fold-append, sum_by-append, sum_by-cons, sum_by-le}
use Rattle.std.proofs.lemmas.Nat.{xor_comm}
use lib.Bits.{xor_self, xor_zero_l, xor_zero_r}
use Rattle.sw_rows.specs.Rows.{find_named, is_named, IsListed, IsNamedOnce, Listed, without}
use Rattle.sw_rows.specs.Running.{AreSums}
use Rattle.sw_rows.specs.Sums.{count_of, hash_of, live_count, live_size, row_hash}
use Rattle.sw_rows.specs.declared.numbered.Numbered.{Numbered}
use Rattle.sw_rows.specs.declared.row.Row.{Row}
use Rattle.sw_rows.specs.declared.sums.Sums.{Sums}
use Rattle.sw_rows.proofs.Merging.{rising-filter, rising-push}
use Rattle.sw_rows.proofs.Named.{find-without, once-push, once-without, Parted, parted, without-none}

abbrev size_of : Numbered → ℕ
size_of n = live_size n.row

abbrev sizes : List Numbered → ℕ
sizes list = sum_by (λ n. live_size n.row) list

abbrev hashed : ℕ → Numbered → ℕ
hashed hash n = bit_xor hash (row_hash n.row)

-- a hash that goes on from another
hash-from : (from : ℕ) (list : List Numbered) → fold hashed from list ≡ bit_xor from (hash_of list)
hash-from from [] = sym (xor_zero_r from)
hash-from from (n ∷ ns) =
    hash-from (hashed from n) ns ∙ xor_assoc from (row_hash n.row) (hash_of ns)
    ∙ ap (λ (x : ℕ). bit_xor from x) (sym (hash-from (hashed 0 n) ns ∙ rw (xor_zero_l (row_hash n.row)) refl))

pub hash-append : (xs ys : List Numbered) → hash_of (xs ++ ys) ≡ bit_xor (hash_of xs) (hash_of ys)
hash-append xs ys = fold-append hashed 0 xs ys ∙ hash-from (hash_of xs) ys

hash-one : (n : Numbered) → hash_of (n ∷ []) ≡ row_hash n.row
hash-one n = xor_zero_l (row_hash n.row)

pub hash-push : (xs : List Numbered) (n : Numbered) → hash_of (xs ++ n ∷ []) ≡ bit_xor (hash_of xs) (row_hash n.row)
hash-push xs n = hash-append xs (n ∷ []) ∙ ap (λ (x : ℕ). bit_xor (hash_of xs) x) (hash-one n)

hash-cons : (n : Numbered) (xs : List Numbered) → hash_of (n ∷ xs) ≡ bit_xor (row_hash n.row) (hash_of xs)
hash-cons n xs = hash-append (n ∷ []) xs ∙ ap (λ (x : ℕ). bit_xor x (hash_of xs)) (hash-one n)

xor-swap : (a b c : ℕ) → bit_xor (bit_xor a b) c ≡ bit_xor (bit_xor a c) b
xor-swap a b c = xor_assoc a b c ∙ ap (λ (x : ℕ). bit_xor a x) (xor_comm b c) ∙ sym (xor_assoc a c b)

xor-twice : (a b : ℕ) → bit_xor (bit_xor a b) b ≡ a
xor-twice a b = xor_assoc a b b ∙ ap (λ (x : ℕ). bit_xor a x) (xor_self b) ∙ xor_zero_r a

-- the rows without one of them
record Taken (list rest : List Numbered) (gone : Row) : Type 0 where
  count : count_of list ≡ count_of rest + live_count gone
  bytes : sizes list ≡ sizes rest + live_size gone
  hash : hash_of list ≡ bit_xor (hash_of rest) (row_hash gone)

count-append : (xs ys : List Numbered) → count_of (xs ++ ys) ≡ count_of xs + count_of ys
count-append xs ys = sum_by-append (λ m. cond (not m.row.deleted) 1 0) xs ys

count-cons : (n : Numbered) (ns : List Numbered) → count_of (n ∷ ns) ≡ live_count n.row + count_of ns
count-cons n ns = sum_by-cons (λ m. cond (not m.row.deleted) 1 0) n ns

sizes-append : (xs ys : List Numbered) → sizes (xs ++ ys) ≡ sizes xs + sizes ys
sizes-append xs ys = sum_by-append size_of xs ys

sizes-cons : (n : Numbered) (ns : List Numbered) → sizes (n ∷ ns) ≡ live_size n.row + sizes ns
sizes-cons n ns = sum_by-cons size_of n ns

taken_at : (before after : List Numbered) (n : Numbered) → Taken (before ++ n ∷ after) (before ++ after) n.row
taken_at before after n =
    record {
      count = omega (arith, count-append before (n ∷ after), count-append before after, count-cons n after);
      bytes = omega (arith, sizes-append before (n ∷ after), sizes-append before after, sizes-cons n after);
      hash = hash-append before (n ∷ after) ∙ ap (λ (x : ℕ). bit_xor (hash_of before) x) (hash-cons n after ∙ xor_comm (row_hash n.row) (hash_of after))
          ∙ sym (xor_assoc (hash_of before) (hash_of after) (row_hash n.row)) ∙ ap (λ (x : ℕ). bit_xor x (row_hash n.row)) (sym (hash-append before after));
    }

taken_from : (list rest before after : List Numbered) (n : Numbered) (gone : Row) → list ≡ before ++ n ∷ after → rest ≡ before ++ after → n.row ≡ gone →
    Taken list rest gone
taken_from list rest before after n gone whole left is = rw (whole, left, ← is) (taken_at before after n)

found_row : (o : Option Numbered) (row : Row) → option_map (λ n. n.row) o ≡ Some row → (n : Numbered) × (o ≡ Some n) × (n.row ≡ row)
found_row None row found = cc
found_row (Some n) row found = (n, refl, cc)

taken : (list : List Numbered) (name : List ℕ) (gone : Row) → IsNamedOnce list → find_named list name ≡ Some gone → Taken list (without name list) gone
taken list name gone once found =
    let some = found_row (find (is_named name) list) gone found in
    let p : Parted name list some.0 = parted name list some.0 once some.1 in
    taken_from list (without name list) p.before p.after some.0 gone p.whole p.rest some.2

pub bytes-fit : (sums : Sums) (list : List Numbered) → AreSums sums list → length list < 2 ^ 63 → sums.bytes < 2 ^ 127
bytes-fit sums list are short =
    let P : Numbered → Type 0 = λ n. live_size n.row < 2 ^ 64 in
    let Q : Numbered → Type 0 = λ n. live_size n.row ≤ 18446744073709551615 in
    let le : sizes list ≤ length list * 18446744073709551615 =
    sum_by-le size_of 18446744073709551615 list (All-weaker P Q (λ n h. let b : live_size n.row < 18446744073709551616 = h in omega arith) list are.small) in
    omega (arith, are.bytes)

-- the row that goes was in the sums
pub count-gone : (sums : Sums) (list : List Numbered) (name : List ℕ) (gone : Row) → AreSums sums list → IsNamedOnce list → find_named list name ≡ Some gone →
    live_count gone ≤ sums.count
count-gone sums list name gone are once found = let t = taken list name gone once found in omega (arith, are.count, t.count)

pub bytes-gone : (sums : Sums) (list : List Numbered) (name : List ℕ) (gone : Row) → AreSums sums list → IsNamedOnce list → find_named list name ≡ Some gone →
    live_size gone ≤ sums.bytes
bytes-gone sums list name gone are once found = let t = taken list name gone once found in omega (arith, are.bytes, t.bytes)

-- the sums with a row more, and without the one of its name
pub record IsWith (old new : Sums) (row : Row) : Type 0 where
  pub count : new.count ≡ old.count + live_count row
  pub bytes : new.bytes ≡ old.bytes + live_size row
  pub hash : new.hash ≡ bit_xor old.hash (row_hash row)

pub record IsWithout (old new : Sums) (row : Row) : Type 0 where
  pub count : new.count ≡ old.count - live_count row
  pub bytes : new.bytes ≡ old.bytes - live_size row
  pub hash : new.hash ≡ bit_xor old.hash (row_hash row)

small-put : (list : List Numbered) (n : Numbered) → All (λ m. live_size m.row < 2 ^ 64) list → live_size n.row < 2 ^ 64 →
    All (λ m. live_size m.row < 2 ^ 64) (without n.row.name list ++ n ∷ [])
small-put list n small one =
    let P : Numbered → Type 0 = λ m. live_size m.row < 2 ^ 64 in
    All-push P (without n.row.name list) n (All-filter (λ m. not (is_named n.row.name m)) P list small) one

count-push : (list : List Numbered) (n : Numbered) → count_of (list ++ n ∷ []) ≡ count_of list + live_count n.row
count-push list n = omega (arith, count-append list (n ∷ []), count-cons n [])

bytes-push : (list : List Numbered) (n : Numbered) → sizes (list ++ n ∷ []) ≡ sizes list + live_size n.row
bytes-push list n = omega (arith, sizes-append list (n ∷ []), sizes-cons n [])

pub sums-put_over : (old with new : Sums) (list : List Numbered) (n : Numbered) (gone : Row) → AreSums old list → IsNamedOnce list →
    find_named list n.row.name ≡ Some gone → IsWith old with n.row → IsWithout with new gone → live_size n.row < 2 ^ 64 →
    AreSums new (without n.row.name list ++ n ∷ [])
sums-put_over old with new list n gone are once found more less one =
    let t = taken list n.row.name gone once found in
    let hash : bit_xor (hash_of list) (row_hash gone) ≡ hash_of (without n.row.name list) =
    ap (λ (x : ℕ). bit_xor x (row_hash gone)) t.hash ∙ xor-twice (hash_of (without n.row.name list)) (row_hash gone) in
    record {
      count = omega (arith, are.count, more.count, less.count, t.count, count-push (without n.row.name list) n);
      bytes = omega (arith, are.bytes, more.bytes, less.bytes, t.bytes, bytes-push (without n.row.name list) n);
      hash = less.hash ∙ ap (λ (x : ℕ). bit_xor x (row_hash gone)) (more.hash ∙ ap (λ (x : ℕ). bit_xor x (row_hash n.row)) are.hash)
          ∙ xor-swap (hash_of list) (row_hash n.row) (row_hash gone) ∙ ap (λ (x : ℕ). bit_xor x (row_hash n.row)) hash
          ∙ sym (hash-push (without n.row.name list) n);
      small = small-put list n are.small one;
    }

not_found : (o : Option Numbered) → option_map (λ n. n.row) o ≡ None → o ≡ None
not_found None none = refl
not_found (Some n) none = cc

pub sums-put_new : (old with : Sums) (list : List Numbered) (n : Numbered) → AreSums old list → find_named list n.row.name ≡ None → IsWith old with n.row →
    live_size n.row < 2 ^ 64 → AreSums with (without n.row.name list ++ n ∷ [])
sums-put_new old with list n are none more one =
    let gone : without n.row.name list ≡ list = without-none n.row.name list (not_found (find (is_named n.row.name) list) none) in
    record {
      count = rw gone (omega (arith, are.count, more.count, count-push list n));
      bytes = rw gone (omega (arith, are.bytes, more.bytes, bytes-push list n));
      hash = rw gone (more.hash ∙ ap (λ (x : ℕ). bit_xor x (row_hash n.row)) are.hash ∙ sym (hash-push list n));
      small = small-put list n are.small one;
    }

-- the rows with one more, and the greatest number given out then
pub listed-put : (l : Listed) (n : Numbered) (top : ℕ) → IsListed l → 0 < n.rowid → All (λ m. m.rowid < n.rowid) l.list → l.top ≤ top → n.rowid ≤ top →
    IsListed (record { list = without n.row.name l.list ++ n ∷ []; top = top })
listed-put l n top is positive above le given =
    let kept : Numbered → Bool = λ m. not (is_named n.row.name m) in
    let P : Numbered → Type 0 = λ x. x.rowid ≤ l.top in
    let Q : Numbered → Type 0 = λ x. x.rowid ≤ top in
    let B : Numbered → Type 0 = λ m. m.rowid < n.rowid in
    let W : Numbered → Type 0 = λ m. m.rowid ≤ n.rowid - 1 in
    let low : All W (without n.row.name l.list) =
    All-filter kept W l.list (All-weaker B W (λ m below. let b : m.rowid < n.rowid = below in omega arith) l.list above) in
    record {
      rising = rising-push 0 (n.rowid - 1) (without n.row.name l.list) n (omega arith) (omega arith) (rising-filter kept 0 l.list is.rising) low;
      within = All-push Q (without n.row.name l.list) n
          (All-filter kept Q l.list (All-weaker P Q (λ x h. let b : x.rowid ≤ l.top = h in omega arith) l.list is.within)) given;
      once = once-push (without n.row.name l.list) n (once-without n.row.name l.list is.once) (find-without n.row.name l.list);
    }
