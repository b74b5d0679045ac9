-- The records of all folders, as they are read folder by folder.
use Rattle.std.proofs.Common.{◌≡◌, ℕ, suc, ◌+◌, inl, inr, ◌⊎◌, ◌↔◌, refl, sym, ◌∙◌, ap, subst, Bool, true, false, List, [], ◌∷◌, ◌++◌, length, drop, map, codes}
use Rattle.std.proofs.Common.{length-append, if◌then◌else◌, Option, None, Some, IsSome, arith}
use Rattle.std.proofs.lemmas.Cmp.{nat_list_cmp_total}
use Rattle.std.proofs.lemmas.List.{append-nil}
use Rattle.std.proofs.lemmas.List.Elements.{All-append, All-contains, All-head, All-map, All-nil, All-tail, All-weaker, Contains-append_left}
use Rattle.std.proofs.lemmas.List.Elements.{Contains-push_cases, filter-append}
use Rattle.std.proofs.lemmas.Option.{cond_some}
use Rattle.std.proofs.lemmas.List.Kept.{IsStrictlySortedBy-filter}
use Rattle.std.specs.Cmp.Lexicographic.{slice_cmp}
use Rattle.std.specs.List.{All, AllByRecursion, Contains, filter}
use Rattle.std.specs.List.Sorted.{IsStrictlySortedBy}
use Rattle.std.specs.Ordering.{nat_cmp}
use Rattle.std.specs.declared.cmp.Ordering.TheVariants.{Less}
use Rattle.sw_hashpath.specs.declared.decode_error.BadFile.{BadFile}
use Rattle.sw_hashpath.specs.declared.secrets.Secrets.{Secrets}
use Rattle.sw_pending.specs.Decoding.{decoded}
use Rattle.sw_pending.specs.Names.{IsKey, folder_text}
use Rattle.sw_pending.specs.Outcomes.{IsRecord}
use Rattle.sw_pending.specs.Records.{key_of}
use Rattle.sw_pending.specs.declared.filed.Filed.{Filed}
use Rattle.sw_pending.specs.declared.key.RecordKey.{RecordKey}
use Rattle.sw_outside.specs.Counts.{raised}
use Rattle.sw_volume.proofs.Counting.{raised_by-plus}
use Rattle.sw_volume.specs.Tree.{Folders, contents}
use Rattle.sw_volume.specs.Volume.{Contents, IsFolderIn, ListsAll, raised_by}
use Rattle.sw_pending_dir.specs.Places.{AllRecordsInOrder, bytes_at}
use Rattle.sw_pending_dir.specs.Walks.{AddsRecords, AreAllIn, AreRecords, IsFirstDamage, IsFolderDamage, IsStanding, IsSuffixIn}
use Rattle.sw_pending_dir.specs.Walks.{ListsEach, ListsSome, ReadsSome, is_suffix, suffix_folder}
use Rattle.sw_pending.specs.Orders.{AreAscending, key_cmp}
use Rattle.sw_pending_dir.proofs.FolderReading.{name_of}
use Rattle.sw_pending_dir.proofs.Lists.{after-one, from_filter, in_filter, sorted-both, sorted-nil, stands-before}
use Rattle.sw_pending_dir.proofs.Standing.{at-record, damaged-disorder, key-at, ok_is, record-at}
use Rattle.sw_pending_dir.proofs.Suffixes.{below-root-cmp, below_root, digits-suffix, digits_of, in-suffix, less-by-folder, less-by-name, less-cases}

-- ---- order

module _ (dir : List ℕ) where
  abbrev Within : Filed → Type 0
  Within filed = folder_text filed.name.hash ≡ dir

  after-in-folder : (f : Filed) (more : List Filed) → Within f → All Within more
      → AllByRecursion (λ n. slice_cmp nat_cmp (name_of f) n ≡ Less) (map name_of more) → AllByRecursion (λ k. key_cmp (key_of f) k ≡ Less) (map key_of more)
  after-in-folder f [] here within less = tt
  after-in-folder f (g ∷ more) here within less = (
    less-by-name (key_of f) (key_of g) (here ∙ sym (All-head Within g more within)) less.0,
    after-in-folder f more here (All-tail Within g more within) less.1,
  )

  -- in one folder records are in order where their names are
  folder-ascending : (more : List Filed) → All Within more → IsStrictlySortedBy (slice_cmp nat_cmp) (map name_of more) → AreAscending more
  unfolding IsStrictlySortedBy
  folder-ascending [] within sorted = tt
  folder-ascending (f ∷ more) within sorted = (
    after-in-folder f more (All-head Within f more within) (All-tail Within f more within) sorted.0,
    folder-ascending more (All-tail Within f more within) sorted.1,
  )

map-append : (xs ys : List Filed) → map key_of (xs ++ ys) ≡ map key_of xs ++ map key_of ys
map-append [] ys = refl
map-append (x ∷ xs) ys = ap (λ (l : List RecordKey). key_of x ∷ l) (map-append xs ys)

-- a record is in a folder before that of this name
abbrev pub IsBefore : List ℕ → Filed → Type 0
IsBefore name filed = slice_cmp nat_cmp (folder_text filed.name.hash) (below_root name) ≡ Less

abbrev pub AreBefore : List (List ℕ) → Filed → Type 0
AreBefore names filed = All (λ name. IsBefore name filed) names

-- ---- the folders so far

-- what was read of the folders so far, and the folders that are left. T: that the volume tells what it holds
pub record WalkedSoFar (T : Type 0) (secrets : Secrets) (stood : Contents) (front rest : List (List ℕ)) (found : List Filed) (folders reads : ℕ) : Type 0 where
  pub ascending : AreAscending found
  pub before : All (AreBefore rest) found
  pub sound : All (IsRecord secrets) found
  pub stand : T → All (IsStanding secrets stood) found
  pub whole : T → (name : List ℕ) → Contains front name → AreAllIn secrets stood (below_root name) found
  pub count : T → reads ≡ length found
  pub listed : folders ≡ length (filter is_suffix front)

-- the same, and the calls by which it was read
pub record Walked (T : Type 0) (secrets : Secrets) (stood : Contents) (front rest : List (List ℕ)) (found : List Filed)
    (calls lists calls_now lists_now : ℕ) : Type 0
  where
    pub folders : ℕ
    pub reads : ℕ
    pub far : WalkedSoFar T secrets stood front rest found folders reads
    pub calls_are : calls_now ≡ raised_by (suc (folders + reads)) calls
    pub lists_are : lists_now ≡ raised_by (suc folders) lists

filter-none : (front : List (List ℕ)) (name : List ℕ) → is_suffix name ≡ false → filter is_suffix (front ++ name ∷ []) ≡ filter is_suffix front
filter-none front name e = filter-append is_suffix front (name ∷ []) ∙ rw e (append-nil (filter is_suffix front))

filter-some : (front : List (List ℕ)) (name : List ℕ) → is_suffix name ≡ true → filter is_suffix (front ++ name ∷ []) ≡ filter is_suffix front ++ name ∷ []
filter-some front name e = filter-append is_suffix front (name ∷ []) ∙ rw e refl

-- no key has a folder of another form
no-key : (key : RecordKey) (name : List ℕ) → IsKey key → folder_text key.hash ≡ below_root name → is_suffix name ≡ true
no-key key name is here =
    let same : digits_of key.hash ≡ name = ap (drop 14) here in
    ap is_suffix (sym same) ∙ digits-suffix key.hash is.hash

module _ (T : Type 0) (secrets : Secrets) (stood : Contents) where
  pub walk-start : (names : List (List ℕ)) → WalkedSoFar T secrets stood [] names [] 0 0
  walk-start names = record {
    ascending = sorted-nil key_cmp;
    before = All-nil (AreBefore names);
    sound = All-nil (IsRecord secrets);
    stand = λ t. All-nil (IsStanding secrets stood);
    whole = λ t name is. absurd (let lt = is.1 in omega arith);
    count = λ t. refl;
    listed = refl;
  }

  module _ (front rest : List (List ℕ)) (name : List ℕ) (found : List Filed) (folders reads : ℕ)
      (far : WalkedSoFar T secrets stood front (name ∷ rest) found folders reads) where
    -- a folder of another form
    pub walk-passed : is_suffix name ≡ false → WalkedSoFar T secrets stood (front ++ name ∷ []) rest found folders reads
    walk-passed e = record {
      ascending = far.ascending;
      before = All-weaker (AreBefore (name ∷ rest)) (AreBefore rest) (λ f all. All-tail (λ n. IsBefore n f) name rest all) found far.before;
      sound = far.sound;
      stand = far.stand;
      whole = λ t other among. elim (Contains-push_cases front name other among) [
        | inl before ↦ far.whole t other before
        | inr here ↦ λ key is in_folder stands.
            let clash : is_suffix other ≡ true = no-key key other is in_folder in
            let same : is_suffix other ≡ false = ap is_suffix (sym here) ∙ e in cc
      ];
      count = far.count;
      listed = far.listed ∙ ap length (sym (filter-none front name e));
    }

    module _ (new : List Filed) (adds : AddsRecords T secrets stood (below_root name) found new) where
      moved : (P : List Filed → Type 0) → P (found ++ adds.more) → P new
      moved P is = subst P (sym adds.adds) is

      -- the records of a folder were added, all or not
      pub walk-ascending : AreAscending new
      walk-ascending = moved AreAscending
          (subst (λ (ks : List RecordKey). IsStrictlySortedBy key_cmp ks) (sym (map-append found adds.more))
          (sorted-both key_cmp (map key_of found) (map key_of adds.more) far.ascending
          (folder-ascending (below_root name) adds.more adds.within adds.ascending)
          (All-map (λ k. All (λ q. key_cmp k q ≡ Less) (map key_of adds.more)) key_of found
          (All-weaker (AreBefore (name ∷ rest)) (λ f. All (λ q. key_cmp (key_of f) q ≡ Less) (map key_of adds.more)) one found far.before))))
        where
          one : (f : Filed) → AreBefore (name ∷ rest) f → All (λ q. key_cmp (key_of f) q ≡ Less) (map key_of adds.more)
          one f all =
              let less : IsBefore name f = All-head (λ n. IsBefore n f) name rest all in
              All-map (λ q. key_cmp (key_of f) q ≡ Less) key_of adds.more
              (All-weaker (λ g. folder_text g.name.hash ≡ below_root name) (λ g. key_cmp (key_of f) (key_of g) ≡ Less)
              (λ g here. less-by-folder (key_of f) (key_of g) (ap (λ (d : List ℕ). slice_cmp nat_cmp (folder_text f.name.hash) d) here ∙ less))
              adds.more adds.within)

      pub walk-sound : All (IsRecord secrets) new
      walk-sound = moved (λ l. All (IsRecord secrets) l) (All-append (IsRecord secrets) found adds.more far.sound adds.sound)

      pub walk-stand : T → All (IsStanding secrets stood) new
      walk-stand t = moved (λ l. All (IsStanding secrets stood) l) (All-append (IsStanding secrets stood) found adds.more (far.stand t) (adds.stand t))

      -- all of them were
      pub walk-more : (more : ℕ) → is_suffix name ≡ true → IsStrictlySortedBy (slice_cmp nat_cmp) (front ++ name ∷ rest)
          → (T → AreAllIn secrets stood (below_root name) new) → (T → length found + more ≡ length new)
          → WalkedSoFar T secrets stood (front ++ name ∷ []) rest new (suc folders) (reads + more)
      walk-more more e sorted all count = record {
        ascending = walk-ascending;
        before = moved (λ l. All (AreBefore rest) l) (All-append (AreBefore rest) found adds.more
            (All-weaker (AreBefore (name ∷ rest)) (AreBefore rest) (λ f before. All-tail (λ n. IsBefore n f) name rest before) found far.before)
            (All-weaker (λ f. folder_text f.name.hash ≡ below_root name) (AreBefore rest) (λ f here. later f here) adds.more adds.within));
        sound = walk-sound;
        stand = walk-stand;
        whole = λ t other among. elim (Contains-push_cases front name other among) [
          | inl before ↦ λ key is in_folder stands.
              let x = far.whole t other before key is in_folder stands in
              (x.0, moved (λ l. Contains l x.0) (Contains-append_left found adds.more x.0 x.1), x.2, x.3)
          | inr here ↦ subst (λ (n : List ℕ). AreAllIn secrets stood (below_root n) new) here (all t)
        ];
        count = λ t. let before = far.count t in let now = count t in omega (arith, before, now);
        listed = ap suc far.listed ∙ sym (ap length (filter-some front name e) ∙ length-append (filter is_suffix front) (name ∷ []) ∙ one-more (length
            (filter is_suffix front)));
      }
        where
          one-more : (n : ℕ) → n + 1 ≡ suc n
          one-more n = omega arith

          later : (f : Filed) → folder_text f.name.hash ≡ below_root name → AreBefore rest f
          later f here =
              All-weaker (λ n. slice_cmp nat_cmp name n ≡ Less) (λ n. IsBefore n f)
              (λ n less. ap (λ (d : List ℕ). slice_cmp nat_cmp d (below_root n)) here ∙ (below-root-cmp name n ∙ less))
              rest (after-one (slice_cmp nat_cmp) front name rest sorted)

  -- ---- the folders that are listed

  module _ (names : List (List ℕ)) (sorted : IsStrictlySortedBy (slice_cmp nat_cmp) names)
      (exact : (name : List ℕ) → Contains names name ↔ IsFolderIn stood (codes "async_pending") name) where
    suffixes-all : ListsAll (filter is_suffix names) (IsSuffixIn stood)
    suffixes-all = record {
      ascending = IsStrictlySortedBy-filter (slice_cmp nat_cmp) is_suffix names sorted;
      exact = λ name. (
        λ is. let x = from_filter is_suffix names name is in record { digits = x.1; stands = (exact name).0 x.0 },
        λ is. in_filter is_suffix names name ((exact name).1 is.stands) is.digits,
      );
    }

    pub lists-each : (front rest : List (List ℕ)) (folders : ℕ) → names ≡ front ++ rest → rest ≡ [] → folders ≡ length (filter is_suffix front)
        → ListsEach stood folders
    lists-each front rest folders parts none count =
        let whole : front ≡ names = sym (append-nil front) ∙ ap (λ (r : List (List ℕ)). front ++ r) (sym none) ∙ sym parts in
        (filter is_suffix names, suffixes-all, count ∙ ap (λ (l : List (List ℕ)). length (filter is_suffix l)) whole)

    pub lists-some : (front rest : List (List ℕ)) (folders : ℕ) → names ≡ front ++ rest → folders ≡ length (filter is_suffix front)
        → ListsSome stood folders
    lists-some front rest folders parts count =
        let both : length (filter is_suffix names) ≡ length (filter is_suffix front) + length (filter is_suffix rest) =
        ap (λ (l : List (List ℕ)). length (filter is_suffix l)) parts ∙ ap length (filter-append is_suffix front rest)
        ∙ length-append (filter is_suffix front) (filter is_suffix rest) in
        (filter is_suffix names, suffixes-all, omega (arith, both, count))

    pub lists-one-more : (front rest : List (List ℕ)) (name : List ℕ) (folders : ℕ) → names ≡ front ++ name ∷ rest → is_suffix name ≡ true
        → folders ≡ length (filter is_suffix front) → ListsSome stood (suc folders)
    lists-one-more front rest name folders parts e count =
        lists-some (front ++ name ∷ []) rest (suc folders) (parts ∙ again)
        (ap suc count ∙ sym (ap length (filter-some front name e) ∙ length-append (filter is_suffix front) (name ∷ []) ∙ one-more (length
        (filter is_suffix front))))
      where
        again : front ++ name ∷ rest ≡ (front ++ name ∷ []) ++ rest
        again = split front
          where
            split : (xs : List (List ℕ)) → xs ++ name ∷ rest ≡ (xs ++ name ∷ []) ++ rest
            split [] = refl
            split (x ∷ xs) = ap (λ (l : List (List ℕ)). x ∷ l) (split xs)

        one-more : (n : ℕ) → n + 1 ≡ suc n
        one-more n = omega arith

    -- ---- at the end

    -- the folder of a key at whose place a file stands is listed
    among : (key : RecordKey) → IsKey key → IsSome (bytes_at stood key) → Contains names (digits_of key.hash)
    among key is stands = (exact (digits_of key.hash)).1 (in-suffix stood key is stands).stands

    -- a fault in the folder of this name is the first
    pub walk-damage : (front rest : List (List ℕ)) (name : List ℕ) (found : List Filed) (folders reads : ℕ)
        → WalkedSoFar T secrets stood front (name ∷ rest) found folders reads → names ≡ front ++ name ∷ rest → (bad : BadFile) → T
        → IsFolderDamage secrets stood (below_root name) bad → IsFirstDamage secrets stood bad
    walk-damage front rest name found folders reads far parts bad t damage = record {
      key = damage.key;
      is_key = damage.is_key;
      damaged = damage.damaged;
      first = λ other is less stands. elim (less-cases other damage.key less) [
        | inl apart ↦
            let before : slice_cmp nat_cmp (digits_of other.hash) name ≡ Less =
            sym (below-root-cmp (digits_of other.hash) name) ∙ ap (λ (d : List ℕ). slice_cmp nat_cmp (folder_text other.hash) d) (sym damage.in_folder) ∙ apart
            in
            let inside : Contains front (digits_of other.hash) =
            stands-before (slice_cmp nat_cmp) nat_list_cmp_total front rest (digits_of other.hash) name
            (subst (λ (l : List (List ℕ)). IsStrictlySortedBy (slice_cmp nat_cmp) l) parts sorted)
            (subst (λ (l : List (List ℕ)). Contains l (digits_of other.hash)) parts (among other is stands)) before in
            let x = far.whole t (digits_of other.hash) inside other is refl stands in
            (x.0, x.2, x.3)
        | inr same ↦ damage.first other is (same.0 ∙ damage.in_folder) same.1 stands
      ];
    }

    module _ (found : List Filed) (folders reads : ℕ) (front rest : List (List ℕ)) (far : WalkedSoFar T secrets stood front rest found folders reads)
        (parts : names ≡ front ++ rest) (none : rest ≡ []) (t : T) where
      read-of : (key : RecordKey) → IsKey key → IsSome (bytes_at stood key)
          → (filed : Filed) × Contains found filed × IsStanding secrets stood filed × (key_of filed ≡ key)
      read-of key is stands =
          let whole : names ≡ front = parts ∙ ap (λ (r : List (List ℕ)). front ++ r) none ∙ append-nil front in
          far.whole t (digits_of key.hash) (subst (λ (l : List (List ℕ)). Contains l (digits_of key.hash)) whole (among key is stands)) key is refl stands

      -- one record stands at a place
      one-record : (f g : Filed) → IsStanding secrets stood f → IsStanding secrets stood g → key_of f ≡ key_of g → f ≡ g
      one-record f g x y same =
          let bytes : x.bytes ≡ y.bytes =
          some_is x.bytes y.bytes (sym x.is_there ∙ ap (λ (k : RecordKey). bytes_at stood k) same ∙ y.is_there) in
          ok_is f g (sym x.is_record.decodes ∙ ap (decoded secrets) bytes ∙ y.is_record.decodes)
        where
          some_is : (a b : List ℕ) → let p : Option (List ℕ) = Some a in let q : Option (List ℕ) = Some b in p ≡ q → a ≡ b
          some_is a b e = cc

      pub walk-all : (folders : Folders) → stood ≡ contents folders → AreRecords secrets folders found
      walk-all folders same = record {
        exact = λ filed. (
          λ is.
              let x = All-contains (IsStanding secrets stood) found filed (far.stand t) is in
              at-record secrets (key_of filed) folders x.bytes filed (ap (λ (c : Contents). bytes_at c (key_of filed)) (sym same) ∙ x.is_there) x.is_record,
          λ is.
              let x = record-at secrets (key_of filed) folders filed is in
              let there : bytes_at stood (key_of filed) ≡ Some x.0 = ap (λ (c : Contents). bytes_at c (key_of filed)) same ∙ x.1 in
              let y = read-of (key_of filed) (key-at secrets (key_of filed) folders filed is) (subst (λ (o : Option (List ℕ)). IsSome o) (sym there) refl) in
              let standing : IsStanding secrets stood filed = record { bytes = x.0; is_there = there; is_record = x.2 } in
              subst (λ (f : Filed). Contains found f) (one-record y.0 filed y.2 standing y.3) y.1,
        );
        order = λ key is stands.
            let y = read-of key is (subst (λ (c : Contents). IsSome (bytes_at c key)) (sym same) stands) in
            (y.0, subst (λ (c : Contents). IsStanding secrets c y.0) same y.2, y.3);
      }

-- ---- with the calls

-- the folder of this name, where it is that of a suffix
pub folder-is : (name dir : List ℕ) → suffix_folder name ≡ Some dir → (is_suffix name ≡ true) × (below_root name ≡ dir)
folder-is name dir e = cond_some (is_suffix name) (below_root name) dir e

pub folder-none : (name : List ℕ) → suffix_folder name ≡ None → is_suffix name ≡ false
folder-none name = by (is_suffix name) refl
  where
    by : (b : Bool) → is_suffix name ≡ b → (if b then Some (below_root name) else None) ≡ None → is_suffix name ≡ false
    by true e none = cc
    by false e none = e

module _ (T : Type 0) (secrets : Secrets) (stood : Contents) (calls lists : ℕ) where
  pub walked-start : (names : List (List ℕ)) (calls_now lists_now : ℕ) → calls_now ≡ raised calls → lists_now ≡ raised lists
      → Walked T secrets stood [] names [] calls lists calls_now lists_now
  walked-start names calls_now lists_now c l =
      record { folders = 0; reads = 0; far = walk-start T secrets stood names; calls_are = c; lists_are = l }

  module _ (front rest : List (List ℕ)) (name : List ℕ) (found : List Filed) (calls_now lists_now : ℕ)
      (walked : Walked T secrets stood front (name ∷ rest) found calls lists calls_now lists_now) where
    pub walked-passed : suffix_folder name ≡ None → Walked T secrets stood (front ++ name ∷ []) rest found calls lists calls_now lists_now
    walked-passed e = record {
      folders = walked.folders;
      reads = walked.reads;
      far = walk-passed T secrets stood front rest name found walked.folders walked.reads walked.far (folder-none name e);
      calls_are = walked.calls_are;
      lists_are = walked.lists_are;
    }

    -- a folder more: its listing, and the reads of its files
    pub calls-more : (reads calls_then : ℕ) → calls_then ≡ raised_by reads (raised calls_now)
        → calls_then ≡ raised_by (suc (suc walked.folders + (walked.reads + reads))) calls
    calls-more reads calls_then so =
        so ∙ ap (λ (n : ℕ). raised_by reads (raised n)) walked.calls_are ∙ raised_by-plus reads (suc (suc (walked.folders + walked.reads))) calls
        ∙ ap (λ (k : ℕ). raised_by k calls) (same walked.folders walked.reads)
      where
        same : (f r : ℕ) → reads + suc (suc (f + r)) ≡ suc (suc f + (r + reads))
        same f r = omega arith

    pub lists-more : (lists_then : ℕ) → lists_then ≡ raised lists_now → lists_then ≡ raised_by (suc (suc walked.folders)) lists
    lists-more lists_then so = so ∙ ap raised walked.lists_are

    module _ (dir : List ℕ) (e : suffix_folder name ≡ Some dir) (new : List Filed) (adds : AddsRecords T secrets stood dir found new) where
      abbrev adds_here : AddsRecords T secrets stood (below_root name) found new
      adds_here = subst (λ (d : List ℕ). AddsRecords T secrets stood d found new) (sym (folder-is name dir e).1) adds

      pub walked-more : (reads calls_then lists_then : ℕ) → IsStrictlySortedBy (slice_cmp nat_cmp) (front ++ name ∷ rest)
          → (T → AreAllIn secrets stood dir new) → (T → length found + reads ≡ length new)
          → calls_then ≡ raised_by reads (raised calls_now) → lists_then ≡ raised lists_now
          → Walked T secrets stood (front ++ name ∷ []) rest new calls lists calls_then lists_then
      walked-more reads calls_then lists_then sorted all count c l = record {
        folders = suc walked.folders;
        reads = walked.reads + reads;
        far = walk-more T secrets stood front rest name found walked.folders walked.reads walked.far new adds_here reads (folder-is name dir e).0 sorted
            (λ t. subst (λ (d : List ℕ). AreAllIn secrets stood d new) (sym (folder-is name dir e).1) (all t)) count;
        calls_are = calls-more reads calls_then c;
        lists_are = lists-more lists_then l;
      }

      -- where it didn't come to the end of the folder
      pub reads-some : (reads : ℕ) → T → (length found + reads ≡ length new) ⊎ (length found + reads ≡ suc (length new))
          → ReadsSome secrets stood (walked.reads + reads)
      reads-some reads t either = record {
        records = new;
        ascending = walk-ascending T secrets stood front rest name found walked.folders walked.reads walked.far new adds_here;
        stand = walk-stand T secrets stood front rest name found walked.folders walked.reads walked.far new adds_here t;
        count = elim either [
          | inl exact ↦ inl (let before = walked.far.count t in omega (arith, before, exact))
          | inr more ↦ inr (let before = walked.far.count t in omega (arith, before, more))
        ];
      }

pub reads-none : (secrets : Secrets) (stood : Contents) → ReadsSome secrets stood 0
reads-none secrets stood = record {
  records = [];
  ascending = sorted-nil key_cmp;
  stand = All-nil (IsStanding secrets stood);
  count = inl refl;
}

-- where a file is damaged, not all are in order
pub first-disorder : (secrets : Secrets) (folders : Folders) (bad : BadFile) → IsFirstDamage secrets (contents folders) bad
    → ¬ (AllRecordsInOrder secrets folders)
first-disorder secrets folders bad is = damaged-disorder secrets is.key folders bad is.is_key is.damaged
