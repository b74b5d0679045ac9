-- What a directory in order stands for is what its relation says, and it stays where its files stay.
use Rattle.std.proofs.Common.{◌≡◌, ◌≢◌, ℕ, ◌≤◌, ◌⊎◌, inl, inr, refl, sym, ◌∙◌, ap, subst, zero, suc, true, nat_le, List, [], ◌∷◌, map}
use Rattle.std.proofs.Common.{Option, None, Some, ◌↔◌, arith}
use Rattle.std.proofs.lemmas.Bool.{and_parts, and_from, cases_Bool, cond-true, cond-false, leb-true, le-leb}
use Rattle.std.proofs.lemmas.Option.{cond_some}
use Rattle.std.proofs.lemmas.Map.Views.{Contains-keys_from_lookup}
use Rattle.std.proofs.lemmas.Slice.Eq.{bytes_eq-Decides}
use Rattle.std.specs.List.{Contains, cons_option, filter_map}
use Rattle.std.specs.Option.{unwrap_or}
use Rattle.std.specs.Str.{bytes_eq}
use Rattle.sw_cleanup.specs.Directories.{IsInOrder, IsWriteIn, StandsFor}
use Rattle.sw_diskfile.specs.StateFiles.{name_of}
use Rattle.sw_cleanup.proofs.Directory.{own_name, stands_for_one}
use Rattle.sw_diskfile.specs.FileNames.{is_name_of, name_text}
use Rattle.sw_diskfile.specs.declared.file_name.FileName.{FileName}
use Rattle.sw_hashpath.specs.declared.secrets.Secrets.{Secrets}
use Rattle.sw_state.specs.States.{state_of}
use Rattle.sw_state.specs.declared.state.State.{State}
use Rattle.sw_state.specs.declared.write.Write.{Write}
use Rattle.sw_state.proofs.StateOf.{behind, front_or_behind, in_front}
use Rattle.sw_timestamp.specs.declared.timestamp.TheConstants.{GREATEST}
use Rattle.sw_volume.specs.Tree.{Files, Folders, at, contents}
use Rattle.sw_volume.specs.Volume.{Contents}
use Rattle.sw_object_steps.specs.Journals.{Hash}
use Rattle.sw_hashdir.specs.Places.{AllInOrder, dir_text, file_names, hash_in, holds, is_place, is_that, own_write, read_from, state_in, write_in}

-- ---- the writes of some names
module _ {X : Type 0} (h : X → Option Write) where
  front_option : (o : Option Write) (ws : List Write) (w : Write) → o ≡ Some w → Contains (cons_option o ws) w
  front_option o ws w e = rw e (in_front w ws)

  later_option : (o : Option Write) (ws : List Write) (w : Write) → Contains ws w → Contains (cons_option o ws) w
  later_option None ws w is = is
  later_option (Some x) ws w is = behind x ws w is

  split_option : (o : Option Write) (ws : List Write) (w : Write) → Contains (cons_option o ws) w → (o ≡ Some w) ⊎ Contains ws w
  split_option None ws w is = inr is
  split_option (Some x) ws w is = elim (front_or_behind x ws w is) [ inl e ↦ inl (ap (λ (y : Write). Some y) (sym e)) | inr later ↦ inr later ]

  pub into_filter_map : (xs : List X) (x : X) (w : Write) → Contains xs x → h x ≡ Some w → Contains (filter_map h xs) w
  into_filter_map [] x w is e = absurd (let lt = is.1 in omega arith)
  into_filter_map (y ∷ ys) x w (zero, inside, here) e = front_option (h y) (filter_map h ys) w (ap h here ∙ e)
  into_filter_map (y ∷ ys) x w (suc k, inside, here) e = later_option (h y) (filter_map h ys) w (into_filter_map ys x w (k, omega arith, here) e)

  pub from_filter_map : (xs : List X) (w : Write) → Contains (filter_map h xs) w → (x : X) × Contains xs x × (h x ≡ Some w)
  from_filter_map [] w is = absurd (let lt = is.1 in omega arith)
  from_filter_map (x ∷ xs) w is = elim (split_option (h x) (filter_map h xs) w is) [
    | inl e ↦ (x, (0, omega arith, refl), e)
    | inr later ↦ let rest = from_filter_map xs w later in let lt = rest.1.1 in (rest.0, (suc rest.1.0, omega arith, rest.1.2), rest.2)
  ]

-- what stands under a name is among the names
stands_among : (o : Option Files) (name bytes : List ℕ) → at (unwrap_or o []) name ≡ Some bytes
    → Contains (map (λ (e : List ℕ × List ℕ). e.0) (unwrap_or o [])) name
stands_among o name bytes e =
    Contains-keys_from_lookup (λ x y same. (bytes_eq-Decides x y).0 same) name (unwrap_or o []) (rw e refl)

module _ (decode : List ℕ → Option Write) where
  own_parts : (name : List ℕ) (o : Option Write) (w : Write) → own_write decode name o ≡ Some w → (o ≡ Some w) × (is_name_of name (name_of w) ≡ true)
  own_parts name None w e = cc
  own_parts name (Some v) w e =
      let found = cond_some (is_name_of name (name_of v)) v w e in
      (ap Some found.1, subst (λ (x : Write). is_name_of name (name_of x) ≡ true) found.1 found.0)

  own_again : (name : List ℕ) (w : Write) → name_text (name_of w) ≡ name → w.time ≤ GREATEST → own_write decode name (Some w) ≡ Some w
  own_again name w e le = cond-true (is_name_of name (name_of w)) (Some w) None
      (and_from _ _ ((bytes_eq-Decides (name_text (name_of w)) name).1 e) (le-leb w.time GREATEST le))

  read_parts : (o : Option (List ℕ)) (w : Write) → read_from decode o ≡ Some w → (bytes : List ℕ) × (o ≡ Some bytes) × (decode bytes ≡ Some w)
  read_parts None w e = cc
  read_parts (Some bytes) w e = (bytes, refl, e)

  -- the function and the relation agree, where the directory is in order
  pub stands_for : (folders : Folders) (dir : List ℕ) → IsInOrder decode (contents folders) dir
      → StandsFor decode (contents folders) dir (state_in decode folders dir)
  unfolding state_in
  stands_for folders dir order = record {
    writes = filter_map (λ name. own_write decode name (read_from decode (contents folders dir name))) (file_names decode folders dir);
    are_all = λ w. (
      λ is.
          let from = from_filter_map (λ name. own_write decode name (read_from decode (contents folders dir name))) (file_names decode folders dir) w is in
          let own = own_parts from.0 (read_from decode (contents folders dir from.0)) w from.2 in
          let parts = read_parts (contents folders dir from.0) w own.0 in
          let named = and_parts (bytes_eq (name_text (name_of w)) from.0) (nat_le w.time GREATEST) own.1 in
          let text : name_text (name_of w) ≡ from.0 = (bytes_eq-Decides (name_text (name_of w)) from.0).0 named.0 in
          record {
            file = name_of w;
            is_time = leb-true w.time GREATEST named.1;
            bytes = parts.0;
            stands = ap (contents folders dir) text
                ∙ parts.1;
            reads = parts.2;
          },
      λ x.
          let own : name_of w ≡ x.file = own_name decode (contents folders) dir order w x in
          let le : w.time ≤ GREATEST = subst (λ (f : FileName). f.time ≤ GREATEST) (sym own) x.is_time in
          into_filter_map (λ name. own_write decode name (read_from decode (contents folders dir name))) (file_names decode folders dir) (name_text x.file) w
          (stands_among (at folders dir) (name_text x.file) x.bytes x.stands)
          (ap (own_write decode (name_text x.file)) (ap (read_from decode) x.stands ∙ x.reads) ∙ own_again (name_text x.file) w (ap name_text own) le),
    );
    is_state = refl;
  }

  -- what stands for the relation is what the function gives
  pub is_state_in : (folders : Folders) (dir : List ℕ) (s : State) → IsInOrder decode (contents folders) dir → StandsFor decode (contents folders) dir s
      → state_in decode folders dir ≡ s
  is_state_in folders dir s order stands = stands_for_one decode (contents folders) dir order (state_in decode folders dir) s
      (stands_for folders dir order) stands

  -- a directory whose files stay is in order still, and stands for the same
  module _ (old new : Contents) (dir : List ℕ) (same : (name : List ℕ) → new dir name ≡ old dir name) where
    moved : (w : Write) → IsWriteIn decode old dir w ↔ IsWriteIn decode new dir w
    moved w = (
      λ x. record { file = x.file; is_time = x.is_time; bytes = x.bytes; stands = same (name_text x.file) ∙ x.stands; reads = x.reads },
      λ x. record { file = x.file; is_time = x.is_time; bytes = x.bytes; stands = sym (same (name_text x.file)) ∙ x.stands; reads = x.reads },
    )

    pub order_moved : IsInOrder decode old dir → IsInOrder decode new dir
    order_moved order = λ file bytes le e. order file bytes le (sym (same (name_text file)) ∙ e)

    pub stands_moved : (s : State) → StandsFor decode old dir s → StandsFor decode new dir s
    stands_moved s x = record {
      writes = x.writes;
      are_all = λ w.
          (λ is. (moved w).0 ((x.are_all w).0 is), λ y. (x.are_all w).1 ((moved w).1 y));
      is_state = x.is_state;
    }

  pub state_moved : (old new : Folders) (dir : List ℕ) → ((name : List ℕ) → contents new dir name ≡ contents old dir name) → IsInOrder decode (contents old) dir
      → state_in decode new dir ≡ state_in decode old dir
  state_moved old new dir same order =
      is_state_in new dir (state_in decode old dir) (order_moved (contents old) (contents new) dir same order)
      (stands_moved (contents old) (contents new) dir same (state_in decode old dir) (stands_for old dir order))

-- ---- two hashes have two directories

some_is : (h k : Hash) → let a : Option Hash = Some h in let b : Option Hash = Some k in a ≡ b → h ≡ k
some_is h k e = cc

that_is : (hash : Hash) (o : Option Hash) → is_that hash o ≡ true → o ≡ Some hash
that_is hash None is = cc
that_is hash (Some h) is = ap Some ((bytes_eq-Decides h hash).0 is)

pub place_is : (power : ℕ) (hash : Hash) → is_place power hash ≡ true → hash_in power (dir_text power hash) ≡ Some hash
unfolding is_place
place_is power hash is = that_is hash (hash_in power (dir_text power hash)) is

pub one_place : (power : ℕ) (h k : Hash) → is_place power h ≡ true → is_place power k ≡ true → dir_text power h ≡ dir_text power k → h ≡ k
one_place power h k is also same = some_is h k (sym (place_is power h is) ∙ (ap (hash_in power) same ∙ place_is power k also))

-- ---- all hashes

module _ (secrets : Secrets) (power : ℕ) where
  holds_at : (folders : Folders) (hash : Hash) → is_place power hash ≡ true → holds secrets power folders hash
      ≡ state_in (write_in secrets hash) folders (dir_text power hash)
  holds_at folders hash is = cond-true (is_place power hash) (state_in (write_in secrets hash) folders (dir_text power hash)) (state_of []) is

  pub holds_is : (folders : Folders) (hash : Hash) (s : State) → is_place power hash ≡ true
      → IsInOrder (write_in secrets hash) (contents folders) (dir_text power hash)
      → StandsFor (write_in secrets hash) (contents folders) (dir_text power hash) s → holds secrets power folders hash ≡ s
  holds_is folders hash s is order stands = holds_at folders hash is ∙ is_state_in (write_in secrets hash) folders (dir_text power hash) s order stands

  pub holds_stands : (folders : Folders) (hash : Hash) → is_place power hash ≡ true → IsInOrder (write_in secrets hash) (contents folders) (dir_text power hash)
      → StandsFor (write_in secrets hash) (contents folders) (dir_text power hash) (holds secrets power folders hash)
  holds_stands folders hash is order = subst (λ (s : State). StandsFor (write_in secrets hash) (contents folders) (dir_text power hash) s)
      (sym (holds_at folders hash is)) (stands_for (write_in secrets hash) folders (dir_text power hash) order)

  -- where only the files of one hash changed, all others stand for what they did
  module _ (old new : Folders) (hash : Hash) (place : is_place power hash ≡ true)
      (same : (d name : List ℕ) → d ≢ dir_text power hash → contents new d name ≡ contents old d name) (order : AllInOrder secrets power old) where
    away : (k : Hash) → is_place power k ≡ true → k ≢ hash → dir_text power k ≢ dir_text power hash
    away k is other e = other (one_place power k hash is place e)

    pub others_stand : (k : Hash) → k ≢ hash → holds secrets power new k ≡ holds secrets power old k
    others_stand k other = elim (cases_Bool (is_place power k)) [
      | inl is ↦ holds_at new k is
          ∙ (state_moved (write_in secrets k) old new (dir_text power k) (λ name. same (dir_text power k) name (away k is other)) (order k is)
          ∙ sym (holds_at old k is))
      | inr none ↦ cond-false (is_place power k) _ _ none ∙ sym (cond-false (is_place power k) _ _ none)
    ]

    pub all_still : IsInOrder (write_in secrets hash) (contents new) (dir_text power hash) → AllInOrder secrets power new
    all_still here k is = elim (cases_Bool (bytes_eq k hash)) [
      | inl e ↦ subst (λ (x : Hash). IsInOrder (write_in secrets x) (contents new) (dir_text power x)) (sym ((bytes_eq-Decides k hash).0 e)) here
      | inr apart ↦ order_moved (write_in secrets k) (contents old) (contents new) (dir_text power k)
          (λ name. same (dir_text power k) name (away k is (λ e. let yes = (bytes_eq-Decides k hash).1 e in cc))) (order k is)
    ]
