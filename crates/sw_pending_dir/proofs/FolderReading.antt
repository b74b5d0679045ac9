-- The records of one folder, as they are read name by name.
use Rattle.std.proofs.Common.{◌≡◌, ℕ, suc, ◌+◌, ◌↔◌, refl, sym, ◌∙◌, ap, subst, List, [], ◌∷◌, ◌++◌, length, map, append_assoc, length-append}
use Rattle.std.proofs.Common.{Option, None, Some, IsSome, arith}
use Rattle.std.proofs.lemmas.Bool.{cond-true}
use Rattle.std.proofs.lemmas.Cmp.{nat_list_cmp_total}
use Rattle.std.proofs.lemmas.List.{append-nil}
use Rattle.std.proofs.lemmas.List.Elements.{All-contains, All-nil, All-push, All-weaker, Contains-append_right, filter_map-append}
use Rattle.std.proofs.lemmas.Option.{cond_some}
use Rattle.std.proofs.lemmas.Slice.Eq.{bytes_eq-Decides}
use Rattle.std.specs.Cmp.Lexicographic.{slice_cmp}
use Rattle.std.specs.List.{All, Contains, cons_option}
use Rattle.std.specs.List.Sorted.{IsStrictlySortedBy}
use Rattle.std.specs.Option.{IfSome, option_to_list}
use Rattle.std.specs.Ordering.{nat_cmp}
use Rattle.std.specs.Str.{bytes_eq}
use Rattle.std.specs.declared.cmp.Ordering.TheVariants.{Less}
use Rattle.sw_hashpath.specs.declared.decode_error.BadFile.{BadFile}
use Rattle.sw_hashpath.specs.declared.secrets.Secrets.{Secrets}
use Rattle.sw_pending.proofs.Naming.{named_again, named_takes}
use Rattle.sw_pending.specs.Names.{IsKey, folder_text, name_text, named}
use Rattle.sw_pending.specs.Outcomes.{IsRecord}
use Rattle.sw_pending.specs.Records.{key_of}
use Rattle.sw_pending.specs.declared.filed.Filed.{Filed}
use Rattle.sw_pending.specs.declared.key.RecordKey.{RecordKey}
use Rattle.sw_outside.specs.Counts.{raised}
use Rattle.sw_volume.proofs.Counting.{one_more_call}
use Rattle.sw_volume.specs.Volume.{Contents, IsFileIn, IsSame, ListsAll, raised_by}
use Rattle.sw_pending_dir.specs.Laws.{PlaceIsOfKey}
use Rattle.sw_pending_dir.specs.Places.{bytes_at, key_at, placed_in}
use Rattle.sw_pending_dir.specs.Readings.{IsDamaged, IsFound}
use Rattle.sw_pending_dir.specs.Walks.{AddsRead, AddsRecords, AreAllIn, IsFolderDamage, IsRightAt, IsStanding, keys_among}
use Rattle.sw_pending_dir.proofs.Lists.{at_front, from_map, in_filter_map, sorted-without, stands-before}

-- ---- places

pub key-at-is : (dir name : List ℕ) (key : RecordKey) → key_at dir name ≡ Some key → IsKey key × (name ≡ name_text key) × (folder_text key.hash ≡ dir)
key-at-is dir name key = by (named name) refl
  where
    by : (o : Option RecordKey) → named name ≡ o → placed_in dir o ≡ Some key → IsKey key × (name ≡ name_text key) × (folder_text key.hash ≡ dir)
    by None e is = cc
    by (Some k) e is =
        let found = cond_some (bytes_eq (folder_text k.hash) dir) k key is in
        let same : k ≡ key = found.1 in
        let takes = named_takes name k e in (
          subst IsKey same takes.0,
          takes.1 ∙ ap name_text same,
          ap (λ (x : RecordKey). folder_text x.hash) (sym same) ∙ (bytes_eq-Decides (folder_text k.hash) dir).0 found.0,
        )

pub key-at-own : (dir : List ℕ) (key : RecordKey) → IsKey key → folder_text key.hash ≡ dir → key_at dir (name_text key) ≡ Some key
key-at-own dir key is here =
    ap (placed_in dir) (named_again key is)
    ∙ cond-true (bytes_eq (folder_text key.hash) dir) (Some key) None ((bytes_eq-Decides (folder_text key.hash) dir).1 here)

pub place_is_of_key : PlaceIsOfKey
place_is_of_key dir name key = (
  key-at-is dir name key,
  λ is. ap (key_at dir) is.1 ∙ key-at-own dir key is.0 is.2,
)

module _ (dir : List ℕ) (front : List (List ℕ)) (name : List ℕ) where
  pub keys-none : key_at dir name ≡ None → keys_among dir (front ++ name ∷ []) ≡ keys_among dir front
  keys-none e =
      filter_map-append (key_at dir) front (name ∷ [])
      ∙ ap (λ (o : Option RecordKey). keys_among dir front ++ cons_option o []) e
      ∙ append-nil (keys_among dir front)

  pub keys-some : (key : RecordKey) → key_at dir name ≡ Some key → keys_among dir (front ++ name ∷ []) ≡ keys_among dir front ++ key ∷ []
  keys-some key e =
      filter_map-append (key_at dir) front (name ∷ []) ∙ ap (λ (o : Option RecordKey). keys_among dir front ++ cons_option o []) e

-- ---- what stands

pub standing-moved : (secrets : Secrets) (old new : Contents) (filed : Filed) → IsSame old new → IsStanding secrets new filed → IsStanding secrets old filed
standing-moved secrets old new filed same is = record {
  bytes = is.bytes;
  is_there = sym (same (folder_text filed.name.hash) (name_text (key_of filed))) ∙ is.is_there;
  is_record = is.is_record;
}

pub found-stands : (secrets : Secrets) (stood : Contents) (key : RecordKey) (filed : Filed) → IsFound secrets key (bytes_at stood key) (Some filed)
    → IsStanding secrets stood filed
found-stands secrets stood key filed = by (bytes_at stood key) refl
  where
    by : (o : Option (List ℕ)) → bytes_at stood key ≡ o → IsFound secrets key o (Some filed) → IsStanding secrets stood filed
    by None e is = absurd is
    by (Some bytes) e is = record {
      bytes = bytes;
      is_there = ap (λ (k : RecordKey). bytes_at stood k) is.keyed ∙ e;
      is_record = record { decodes = is.decodes; keyed = refl };
    }

-- ---- names

abbrev pub name_of : Filed → List ℕ
name_of filed = name_text (key_of filed)

map-pushed : {Y : Type 0} (f : Filed → Y) (xs : List Filed) (x : Filed) (rest : List Y) → map f (xs ++ x ∷ []) ++ rest ≡ map f xs ++ f x ∷ rest
map-pushed f [] x rest = refl
map-pushed f (y ∷ xs) x rest = ap (λ l. f y ∷ l) (map-pushed f xs x rest)

map-length : {Y : Type 0} (f : Filed → Y) (xs : List Filed) → length (map f xs) ≡ length xs
map-length f [] = refl
map-length f (x ∷ xs) = ap suc (map-length f xs)

-- what was read of the names so far, and the names that are left. T: that the volume tells what it holds
pub record ReadSoFar (T : Type 0) (secrets : Secrets) (stood : Contents) (dir : List ℕ) (front rest : List (List ℕ)) (old now : List Filed) : Type 0 where
  pub more : List Filed
  pub adds : now ≡ old ++ more
  pub sorted : IsStrictlySortedBy (slice_cmp nat_cmp) (map name_of more ++ rest)
  pub within : All (λ filed. folder_text filed.name.hash ≡ dir) more
  pub sound : All (IsRecord secrets) more
  pub stand : T → All (IsStanding secrets stood) more
  pub keys : T → map key_of more ≡ keys_among dir front

module _ (T : Type 0) (secrets : Secrets) (stood : Contents) (dir : List ℕ) where
  pub read-start : (names : List (List ℕ)) (old : List Filed) → IsStrictlySortedBy (slice_cmp nat_cmp) names
      → ReadSoFar T secrets stood dir [] names old old
  read-start names old sorted = record {
    more = [];
    adds = sym (append-nil old);
    sorted = sorted;
    within = All-nil (λ filed. folder_text filed.name.hash ≡ dir);
    sound = All-nil (IsRecord secrets);
    stand = λ t. All-nil (IsStanding secrets stood);
    keys = λ t. refl;
  }

  module _ (front rest : List (List ℕ)) (name : List ℕ) (old now : List Filed) (far : ReadSoFar T secrets stood dir front (name ∷ rest) old now) where
    passed : (T → keys_among dir (front ++ name ∷ []) ≡ keys_among dir front) → ReadSoFar T secrets stood dir (front ++ name ∷ []) rest old now
    passed same = record {
      more = far.more;
      adds = far.adds;
      sorted = sorted-without (slice_cmp nat_cmp) name (map name_of far.more) rest far.sorted;
      within = far.within;
      sound = far.sound;
      stand = far.stand;
      keys = λ t. far.keys t ∙ sym (same t);
    }

    -- a name of no record
    pub read-passed : key_at dir name ≡ None → ReadSoFar T secrets stood dir (front ++ name ∷ []) rest old now
    read-passed e = passed (λ t. keys-none dir front name e)

    -- a file that is gone, which is so of no volume that tells what it holds
    pub read-gone : (T → ⊥) → ReadSoFar T secrets stood dir (front ++ name ∷ []) rest old now
    read-gone untold = passed (λ t. absurd (untold t))

    -- a record
    pub read-more : (key : RecordKey) (filed : Filed) → key_at dir name ≡ Some key → key_of filed ≡ key → IsRecord secrets filed
        → (T → IsStanding secrets stood filed) → ReadSoFar T secrets stood dir (front ++ name ∷ []) rest old (now ++ filed ∷ [])
    read-more key filed e keyed is stands =
        let at = key-at-is dir name key e in
        let named : name ≡ name_of filed = at.1 ∙ ap name_text (sym keyed) in
        record {
          more = far.more ++ filed ∷ [];
          adds = ap (λ (l : List Filed). l ++ filed ∷ []) far.adds ∙ append_assoc old far.more (filed ∷ []);
          sorted = subst (λ (l : List (List ℕ)). IsStrictlySortedBy (slice_cmp nat_cmp) l)
              (ap (λ (n : List ℕ). map name_of far.more ++ n ∷ rest) named ∙ sym (map-pushed name_of far.more filed rest)) far.sorted;
          within = All-push (λ f. folder_text f.name.hash ≡ dir) far.more filed far.within (ap (λ (k : RecordKey). folder_text k.hash) keyed ∙ at.2);
          sound = All-push (IsRecord secrets) far.more filed far.sound is;
          stand = λ t. All-push (IsStanding secrets stood) far.more filed (far.stand t) (stands t);
          keys = λ t.
              let before : map key_of (far.more ++ filed ∷ []) ≡ map key_of far.more ++ key_of filed ∷ [] =
              sym (append-nil (map key_of (far.more ++ filed ∷ []))) ∙ map-pushed key_of far.more filed [] in
              before ∙ ap (λ (l : List RecordKey). l ++ key_of filed ∷ []) (far.keys t) ∙ ap (λ (k : RecordKey). keys_among dir front ++ k ∷ []) keyed
              ∙ sym (keys-some dir front name key e);
        }

  -- a name of a record, whose file was read
  pub read-next : (front rest : List (List ℕ)) (name : List ℕ) (old now : List Filed) → ReadSoFar T secrets stood dir front (name ∷ rest) old now
      → (T → ListsAll (front ++ name ∷ rest) (IsFileIn stood dir)) → (key : RecordKey) (new : List Filed) → key_at dir name ≡ Some key
      → AddsRead T secrets stood key now new → ReadSoFar T secrets stood dir (front ++ name ∷ []) rest old new
  read-next front rest name old now far listed key new e adds = by adds.found adds.adds adds.keyed adds.sound adds.stand
    where
      there : T → IsSome (bytes_at stood key)
      there t =
          let at = key-at-is dir name key e in
          let stands : IsSome (stood dir name) = ((listed t).exact name).0 (Contains-append_right front (name ∷ rest) name (at_front name rest)) in
          subst (λ (d : List ℕ). IsSome (stood d (name_text key))) (sym at.2) (subst (λ (n : List ℕ). IsSome (stood dir n)) at.1 stands)

      none-there : (o : Option (List ℕ)) → IsSome o → IsFound secrets key o None → ⊥
      none-there None is found = cc
      none-there (Some bytes) is found = found

      by : (found : Option Filed) → new ≡ now ++ option_to_list found → IfSome found (λ filed. key_of filed ≡ key) → IfSome found
          (λ filed. IsRecord secrets filed)
          → (T → IsFound secrets key (bytes_at stood key) found) → ReadSoFar T secrets stood dir (front ++ name ∷ []) rest old new
      by None adds keyed sound stand =
          subst (λ (l : List Filed). ReadSoFar T secrets stood dir (front ++ name ∷ []) rest old l) (sym (adds ∙ append-nil now))
          (read-gone front rest name old now far (λ t. none-there (bytes_at stood key) (there t) (stand t)))
      by (Some filed) adds keyed sound stand =
          subst (λ (l : List Filed). ReadSoFar T secrets stood dir (front ++ name ∷ []) rest old l) (sym adds)
          (read-more front rest name old now far key filed e keyed sound (λ t. found-stands secrets stood key filed (stand t)))

  module _ (front rest : List (List ℕ)) (old now : List Filed) (far : ReadSoFar T secrets stood dir front rest old now) where
    sorted-front : (xs ys : List (List ℕ)) → IsStrictlySortedBy (slice_cmp nat_cmp) (xs ++ ys) → IsStrictlySortedBy (slice_cmp nat_cmp) xs
    sorted-front xs [] sorted = subst (λ (l : List (List ℕ)). IsStrictlySortedBy (slice_cmp nat_cmp) l) (append-nil xs) sorted
    sorted-front xs (y ∷ ys) sorted = sorted-front xs ys (sorted-without (slice_cmp nat_cmp) y xs ys sorted)

    -- what was added so far
    pub read-adds : AddsRecords T secrets stood dir old now
    read-adds = record {
      more = far.more;
      adds = far.adds;
      ascending = sorted-front (map name_of far.more) rest far.sorted;
      within = far.within;
      sound = far.sound;
      stand = far.stand;
    }

    pub read-count : T → length old + length (keys_among dir front) ≡ length now
    read-count t =
        let keys : length (keys_among dir front) ≡ length far.more = ap length (sym (far.keys t)) ∙ map-length key_of far.more in
        let all : length now ≡ length old + length far.more = ap length far.adds ∙ length-append old far.more in
        omega (arith, keys, all)

    -- the record of a name that was read
    was-read : T → (key : RecordKey) → IsKey key → folder_text key.hash ≡ dir → Contains front (name_text key)
        → (filed : Filed) × Contains far.more filed × IsStanding secrets stood filed × (key_of filed ≡ key)
    was-read t key is here among =
        let inside : Contains (keys_among dir front) key = in_filter_map (key_at dir) front (name_text key) key among (key-at-own dir key is here) in
        let x = from_map key_of far.more key (subst (λ (l : List RecordKey). Contains l key) (sym (far.keys t)) inside) in
        (x.0, x.1, All-contains (IsStanding secrets stood) far.more x.0 (far.stand t) x.1, x.2)

    pub read-right : T → (key : RecordKey) → IsKey key → folder_text key.hash ≡ dir → Contains front (name_text key) → IsRightAt secrets stood key
    read-right t key is here among = let x = was-read t key is here among in (x.0, x.2, x.3)

    -- all were read
    pub read-all : rest ≡ [] → (T → ListsAll (front ++ rest) (IsFileIn stood dir)) → T → AreAllIn secrets stood dir now
    read-all none listed t key is here stands =
        let among : Contains (front ++ rest) (name_text key) = ((listed t).exact (name_text key)).1 (subst (λ (d : List ℕ). IsSome (stood d
        (name_text key))) here stands) in
        let first : Contains front (name_text key) = subst (λ (l : List (List ℕ)). Contains l (name_text key))
        (ap (λ (r : List (List ℕ)). front ++ r) none ∙ append-nil front) among in
        let x = was-read t key is here first in
        (x.0, subst (λ (l : List Filed). Contains l x.0) (sym far.adds) (Contains-append_right old far.more x.0 x.1), x.2, x.3)

  -- a file is damaged, and it is the first that is
  pub read-damage : (front rest : List (List ℕ)) (name : List ℕ) (old now : List Filed) (far : ReadSoFar T secrets stood dir front (name ∷ rest) old now)
      (key : RecordKey) (bad : BadFile) → key_at dir name ≡ Some key → IsStrictlySortedBy (slice_cmp nat_cmp) (front ++ name ∷ rest)
      → ListsAll (front ++ name ∷ rest) (IsFileIn stood dir) → T → IsDamaged secrets key (bytes_at stood key) bad → IsFolderDamage secrets stood dir bad
  read-damage front rest name old now far key bad e sorted listed t damaged =
      let at = key-at-is dir name key e in
      record {
        key = key;
        is_key = at.0;
        in_folder = at.2;
        damaged = damaged;
        first = λ other is here less stands.
            let among : Contains (front ++ name ∷ rest) (name_text other) =
            (listed.exact (name_text other)).1 (subst (λ (d : List ℕ). IsSome (stood d (name_text other))) here stands) in
            let before : slice_cmp nat_cmp (name_text other) name ≡ Less = ap (λ (n : List ℕ). slice_cmp nat_cmp (name_text other) n) at.1 ∙ less in
            read-right front (name ∷ rest) old now far t other is here
            (stands-before (slice_cmp nat_cmp) nat_list_cmp_total front rest (name_text other) name sorted among before);
      }

-- ---- calls

module _ (dir : List ℕ) (front : List (List ℕ)) (name : List ℕ) (before calls : ℕ) where
  pub calls-none : key_at dir name ≡ None → calls ≡ raised_by (length (keys_among dir front)) before
      → calls ≡ raised_by (length (keys_among dir (front ++ name ∷ []))) before
  calls-none e so = so ∙ ap (λ (l : List RecordKey). raised_by (length l) before) (sym (keys-none dir front name e))

  pub calls-some : (key : RecordKey) (now : ℕ) → key_at dir name ≡ Some key → calls ≡ raised_by (length (keys_among dir front)) before → now ≡ raised calls
      → now ≡ raised_by (length (keys_among dir (front ++ name ∷ []))) before
  calls-some key now e so next =
      next ∙ (one_more_call (length (keys_among dir front)) calls before so
      ∙ ap (λ (k : ℕ). raised_by k before)
      (sym (ap length (keys-some dir front name key e) ∙ length-append (keys_among dir front) (key ∷ []))))

-- a read more than there are records
pub count-more : (dir : List ℕ) (front : List (List ℕ)) (name : List ℕ) (key : RecordKey) (old now : List Filed) → key_at dir name ≡ Some key
    → length old + length (keys_among dir front) ≡ length now → length old + length (keys_among dir (front ++ name ∷ [])) ≡ suc (length now)
count-more dir front name key old now e so =
    let more : length (keys_among dir (front ++ name ∷ [])) ≡ length (keys_among dir front) + 1 =
    ap length (keys-some dir front name key e) ∙ length-append (keys_among dir front) (key ∷ []) in
    omega (arith, more, so)

-- ---- the same contents

pub adds-none : (T : Type 0) (secrets : Secrets) (stood : Contents) (dir : List ℕ) (old : List Filed) → AddsRecords T secrets stood dir old old
unfolding IsStrictlySortedBy
adds-none T secrets stood dir old = record {
  more = [];
  adds = sym (append-nil old);
  ascending = tt;
  within = All-nil (λ filed. folder_text filed.name.hash ≡ dir);
  sound = All-nil (IsRecord secrets);
  stand = λ t. All-nil (IsStanding secrets stood);
}

module _ (secrets : Secrets) (old now : Contents) (dir : List ℕ) where
  pub adds-moved : (S T : Type 0) → (T → S) → (T → IsSame old now) → (xs ys : List Filed) → AddsRecords S secrets now dir xs ys
      → AddsRecords T secrets old dir xs ys
  adds-moved S T told same xs ys adds = record {
    more = adds.more;
    adds = adds.adds;
    ascending = adds.ascending;
    within = adds.within;
    sound = adds.sound;
    stand = λ t. All-weaker (IsStanding secrets now) (IsStanding secrets old) (λ f is. standing-moved secrets old now f (same t) is) adds.more (adds.stand
        (told t));
  }

  module _ (same : IsSame old now) where
    stands-still : (key : RecordKey) → IsSome (bytes_at old key) → IsSome (bytes_at now key)
    stands-still key is = subst (λ (o : Option (List ℕ)). IsSome o) (sym (same (folder_text key.hash) (name_text key))) is

    pub all-moved : (records : List Filed) → AreAllIn secrets now dir records → AreAllIn secrets old dir records
    all-moved records all key is here stands =
        let x = all key is here (stands-still key stands) in (x.0, x.1, standing-moved secrets old now x.0 same x.2, x.3)

    pub damaged-moved : (key : RecordKey) (bad : BadFile) → IsDamaged secrets key (bytes_at now key) bad → IsDamaged secrets key (bytes_at old key) bad
    damaged-moved key bad is = record {
      bytes = is.bytes;
      is_there = sym (same (folder_text key.hash) (name_text key)) ∙ is.is_there;
      damage = is.damage;
    }

    pub folder-damage-moved : (bad : BadFile) → IsFolderDamage secrets now dir bad → IsFolderDamage secrets old dir bad
    folder-damage-moved bad is = record {
      key = is.key;
      is_key = is.is_key;
      in_folder = is.in_folder;
      damaged = damaged-moved is.key bad is.damaged;
      first = λ other key here less stands.
          let x = is.first other key here less (stands-still other stands) in (x.0, standing-moved secrets old now x.0 same x.1, x.2);
    }

pub adds-read-moved : (secrets : Secrets) (old now : Contents) (key : RecordKey) (S T : Type 0) → (T → S) → (T → IsSame old now) → (xs ys : List Filed)
    → AddsRead S secrets now key xs ys → AddsRead T secrets old key xs ys
adds-read-moved secrets old now key S T told same xs ys adds = record {
  found = adds.found;
  adds = adds.adds;
  keyed = adds.keyed;
  sound = adds.sound;
  stand = λ t. subst (λ (o : Option (List ℕ)). IsFound secrets key o adds.found) (same t (folder_text key.hash) (name_text key)) (adds.stand (told t));
}

-- what is listed, once it is in order
pub listed-sorted : (P : List ℕ → Type 0) (files slice list names : List (List ℕ)) → slice ≡ files → names ≡ list → ListsAll files P
    → IsStrictlySortedBy (slice_cmp nat_cmp) list → ((q : List ℕ) → Contains list q ↔ Contains slice q) → ListsAll names P
listed-sorted P files slice list names at same listed sorted all = record {
  ascending = subst (λ (l : List (List ℕ)). IsStrictlySortedBy (slice_cmp nat_cmp) l) (sym same) sorted;
  exact = λ q. (
    λ is. (listed.exact q).0
        (subst (λ (l : List (List ℕ)). Contains l q) at ((all q).0 (subst (λ (l : List (List ℕ)). Contains l q) same is))),
    λ is. subst (λ (l : List (List ℕ)). Contains l q) (sym same)
        ((all q).1 (subst (λ (l : List (List ℕ)). Contains l q) (sym at) ((listed.exact q).1 is))),
  );
}
