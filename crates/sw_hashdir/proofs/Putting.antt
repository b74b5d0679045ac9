-- A file that is put, and what is unlinked after it: the directory stands for one write more, and all others for what they did.
use Rattle.std.proofs.Common.{◌≡◌, ◌≢◌, ℕ, ◌≤◌, inl, inr, refl, sym, ◌∙◌, ap, subst, zero, suc, true, false, List, [], ◌∷◌, ◌++◌, filter}
use Rattle.std.proofs.Common.{Option, None, Some, IsSome, arith}
use Rattle.std.proofs.lemmas.Bool.{cases_Bool, cond-true}
use Rattle.std.proofs.lemmas.List.Elements.{Contains-append_cases, Contains-append_left, Contains-append_right}
use Rattle.std.proofs.lemmas.Slice.Eq.{bytes_eq-Decides}
use Rattle.std.specs.List.{Contains}
use Rattle.std.specs.Str.{bytes_eq}
use Rattle.sw_cleanup.specs.Cleaning.{Unlinks}
use Rattle.sw_cleanup.specs.Directories.{AreNamesIn, IsInOrder, IsWriteIn, StandsFor, StandsIn}
use Rattle.sw_diskfile.specs.StateFiles.{name_of}
use Rattle.sw_cleanup.specs.Obsolete.{is_obsolete}
use Rattle.sw_cleanup.proofs.Directory.{agree, is_some}
use Rattle.sw_cleanup.proofs.Joining.{put_joins}
use Rattle.sw_cleanup.proofs.Keeping.{unlinking_keeps}
use Rattle.sw_diskfile.specs.FileNames.{name_text}
use Rattle.sw_diskfile.proofs.Names.{names_differ}
use Rattle.sw_diskfile.specs.declared.file_name.FileName.{FileName}
use Rattle.sw_hashpath.specs.Paths.{hash_of}
use Rattle.sw_hashpath.specs.declared.name.Name.{Name}
use Rattle.sw_hashpath.specs.declared.secrets.Secrets.{Secrets}
use Rattle.sw_metafile.specs.Files.{IsFile, file_of}
use Rattle.sw_metafile.specs.Texts.{file_text}
use Rattle.sw_metafile.proofs.Decoding.{decoded_text}
use Rattle.sw_state.specs.States.{is_new, joined, state_of}
use Rattle.sw_state.specs.Writes.{tag_of}
use Rattle.sw_state.specs.declared.state.State.{State}
use Rattle.sw_state.specs.declared.write.Write.{Write}
use Rattle.sw_state.proofs.OneState.{state_of_set}
use Rattle.sw_state.proofs.StateLaws.{joins_one_more}
use Rattle.sw_state.proofs.StateTests.{new_changes}
use Rattle.sw_timestamp.specs.declared.tag.Tag.TheVariants as tags
use Rattle.sw_timestamp.specs.declared.timestamp.TheConstants.{GREATEST}
use Rattle.sw_volume.specs.Tree.{Folders, contents}
use Rattle.sw_volume.specs.Volume.{Contents, IsSame, MaySet, Sets}
use Rattle.sw_object_steps.specs.Journals.{Hash}
use Rattle.sw_hashdir.specs.Places.{AllInOrder, dir_text, holds, is_place, write_in, write_with}
use Rattle.sw_diskfile.specs.StateFiles.{picked_of}
use Rattle.sw_cleanup.proofs.Directory.{picks_state}
use Rattle.sw_diskfile.specs.Picking.{IsPicked}
use Rattle.sw_diskfile.specs.declared.picking.Picked.{Picked}
use Rattle.sw_object_steps.specs.Outlines.{mark_of, outline_of}
use Rattle.std.specs.Option.{option_map}
use Rattle.sw_state.specs.Metas.{Meta}
use Rattle.sw_state.specs.declared.base.Base.{Base}
use Rattle.sw_state.specs.Bases.{base_tag, base_time}
use Rattle.sw_state.specs.declared.base.Base.TheVariants as bases
use Rattle.sw_hashdir.specs.Steps.{IsOutlineIn}
use Rattle.sw_object_steps.specs.Outlines.{file_mark, picked_outline}
use Rattle.sw_hashdir.specs.Steps.{Joins, JoinsAll, Keeps, MayJoin, Writes}
use Rattle.sw_hashpath.specs.BadNames.{bad_name}
use Rattle.sw_hashdir.proofs.Standing.{all_still, holds_is, holds_stands, others_stand}

only-one : (x y : FileName) → Contains (x ∷ []) y → y ≡ x
only-one x y (zero, inside, at) = sym at
only-one x y (suc k, inside, at) = absurd (omega arith)

-- a write that is there already changes nothing
pub there-joins : (decode : List ℕ → Option Write) (holds : Contents) (dir : List ℕ) (s : State) (v : Write) → IsInOrder decode holds dir
    → StandsFor decode holds dir s → IsWriteIn decode holds dir v
    → joined s v ≡ s
there-joins decode holds dir s v order stands there =
    let inside : Contains stands.writes v = (stands.are_all v).1 there in
    let same : state_of (stands.writes ++ v ∷ []) ≡ state_of stands.writes =
    state_of_set (stands.writes ++ v ∷ []) stands.writes (agree decode holds dir order (stands.writes ++ v ∷ [])
    (λ w is. (stands.are_all w).0 (back w inside is)))
    (λ w. (λ is. back w inside is, λ is. Contains-append_left stands.writes (v ∷ []) w is)) in
    ap (λ (t : State). joined t v) stands.is_state ∙ (joins_one_more stands.writes v ∙ (same ∙ sym stands.is_state))
  where
    last : (w : Write) → Contains (v ∷ []) w → w ≡ v
    last w (zero, inside, at) = sym at
    last w (suc k, inside, at) = absurd (omega arith)

    back : (w : Write) → Contains stands.writes v → Contains (stands.writes ++ v ∷ []) w → Contains stands.writes w
    back w inside is = elim (Contains-append_cases stands.writes (v ∷ []) w is) [
      | inl early ↦ early
      | inr late ↦ subst (λ (x : Write). Contains stands.writes x) (sym (last w late)) inside
    ]

-- and is not new
there-not-new : (decode : List ℕ → Option Write) (holds : Contents) (dir : List ℕ) (s : State) (v : Write) → IsInOrder decode holds dir
    → StandsFor decode holds dir s → IsWriteIn decode holds dir v
    → is_new s v.time (tag_of v.kind) ≡ false
there-not-new decode holds dir s v order stands there = (new_changes s v).1 (there-joins decode holds dir s v order stands there)

-- so no file of a new write's name stands
absent-new : (decode : List ℕ → Option Write) (holds : Contents) (dir : List ℕ) (s : State) (w : Write) → w.time ≤ GREATEST → IsInOrder decode holds dir
    → StandsFor decode holds dir s
    → is_new s w.time (tag_of w.kind) ≡ true → holds dir (name_text (name_of w)) ≡ None
absent-new decode holds dir s w le order stands new = by (holds dir (name_text (name_of w))) refl
  where
    by : (o : Option (List ℕ)) → holds dir (name_text (name_of w)) ≡ o → o ≡ None
    by None e = refl
    by (Some bytes) e =
        let r = order (name_of w) bytes le e in
        let old : is_new s r.write.time (tag_of r.write.kind) ≡ false =
        there-not-new decode holds dir s r.write order stands (record { file = name_of w; is_time = le; bytes = bytes; stands = e; reads = r.reads }) in
        let here : is_new s w.time (tag_of w.kind) ≡ false = subst (λ (f : FileName). is_new s f.time f.tag ≡ false) r.named old in
        absurd (let clash = sym new ∙ here in cc)

-- the names with the one that was put
names-put : (old new : Contents) (dir bytes : List ℕ) (names : List FileName) (file : FileName) → file.time ≤ GREATEST → AreNamesIn old dir names
    → Sets old new dir (name_text file) (Some bytes)
    → AreNamesIn new dir (names ++ file ∷ [])
names-put old new dir bytes names file le are sets f = (
  λ is. elim (Contains-append_cases names (file ∷ []) f is) [
    | inl early ↦ stood f ((are f).0 early)
    | inr late ↦ subst (λ (g : FileName). StandsIn new dir g) (sym (only-one file f late))
        (record { is_time = le; stands = is_some (new dir (name_text file)) bytes sets.there })
  ],
  λ s. elim (cases_Bool (bytes_eq (name_text f) (name_text file))) [
    | inl same ↦ let e : f ≡ file = names_differ f file s.is_time le ((bytes_eq-Decides (name_text f) (name_text file)).0 same) in
        Contains-append_right names (file ∷ []) f (zero, omega arith, sym e)
    | inr other ↦ Contains-append_left names (file ∷ []) f ((are f).1
        (record { is_time = s.is_time; stands = subst (λ (o : Option (List ℕ)). IsSome o) (beside f other) s.stands }))
  ],
)
  where
    beside : (g : FileName) → bytes_eq (name_text g) (name_text file) ≡ false → new dir (name_text g) ≡ old dir (name_text g)
    beside g other = sets.elsewhere dir (name_text g) (λ e. let lie = (bytes_eq-Decides (name_text g) (name_text file)).1 e.1 in cc)

    stood : (g : FileName) → StandsIn old dir g → StandsIn new dir g
    stood g s = elim (cases_Bool (bytes_eq (name_text g) (name_text file))) [
      | inl same ↦ record {
        is_time = s.is_time;
        stands = is_some (new dir (name_text g)) bytes
            (ap (new dir) ((bytes_eq-Decides (name_text g) (name_text file)).0 same) ∙ sets.there);
      }
      | inr other ↦ record { is_time = s.is_time; stands = subst (λ (o : Option (List ℕ)). IsSome o) (sym (beside g other)) s.stands }
    ]

module _ (secrets : Secrets) (power : ℕ) (hash : Hash) (place : is_place power hash ≡ true) where
  module _ (old new : Folders) (order : AllInOrder secrets power old) where
    -- nothing changed
    pub keeps-same : IsSame (contents old) (contents new) → Keeps secrets power hash old new
    keeps-same same = record {
      order = all_still secrets power old new hash place (λ d n apart. same d n) order
          (λ file bytes le e. order hash place file bytes le (sym (same (dir_text power hash) (name_text file)) ∙ e));
      here = holds_is secrets power new hash (holds secrets power old hash) place
          (λ file bytes le e. order hash place file bytes le (sym (same (dir_text power hash) (name_text file)) ∙ e))
          (moves (holds secrets power old hash) (holds_stands secrets power old hash place (order hash place)));
      others = others_stand secrets power old new hash place (λ d n apart. same d n) order;
    }
      where
        moves : (s : State) → StandsFor (write_in secrets hash) (contents old) (dir_text power hash) s
            → StandsFor (write_in secrets hash) (contents new) (dir_text power hash) s
        moves s x = record {
          writes = x.writes;
          are_all = λ w. (
            λ is. let y = (x.are_all w).0 is in record {
              file = y.file;
              is_time = y.is_time;
              bytes = y.bytes;
              stands = same (dir_text power hash)
                  (name_text y.file) ∙ y.stands;
              reads = y.reads;
            },
            λ y. (x.are_all w).1 (record {
              file = y.file;
              is_time = y.is_time;
              bytes = y.bytes;
              stands = sym (same (dir_text power hash) (name_text y.file))
                  ∙ y.stands;
              reads = y.reads;
            }),
          );
          is_state = x.is_state;
        }

    -- obsolete files were unlinked
    pub keeps-cleaned : (names : List FileName) (before now : ℕ) → AreNamesIn (contents old) (dir_text power hash) names
        → Unlinks (contents old) (contents new) (dir_text power hash) (filter (is_obsolete names) names) before now → Keeps secrets power hash old new
    keeps-cleaned names before now are unlinks =
        let keeps = unlinking_keeps (contents old) (contents new) (dir_text power hash) before now names are unlinks (write_in secrets hash)
        (order hash place) in
        record {
          order = all_still secrets power old new hash place elsewhere order keeps.in_order;
          here = holds_is secrets power new hash (holds secrets power old hash) place keeps.in_order
              ((keeps.same (holds secrets power old hash)).0 (holds_stands secrets power old hash place (order hash place)));
          others = others_stand secrets power old new hash place elsewhere order;
        }
      where
        elsewhere : (d n : List ℕ) → d ≢ dir_text power hash → contents new d n ≡ contents old d n
        elsewhere d n apart = elim (unlinks.same_or_gone d n) [ inl same ↦ same | inr gone ↦ absurd (apart gone.0) ]

    -- the file of a new write was put
    pub joins-put : (w : Write) (bytes : List ℕ) → w.time ≤ GREATEST → write_in secrets hash bytes ≡ Some w
        → is_new (holds secrets power old hash) w.time (tag_of w.kind) ≡ true
        → Sets (contents old) (contents new) (dir_text power hash) (name_text (name_of w)) (Some bytes) → Joins secrets power hash w old new
    joins-put w bytes le reads new_to sets =
        let stands = holds_stands secrets power old hash place (order hash place) in
        let absent = absent-new (write_in secrets hash) (contents old) (dir_text power hash) (holds secrets power old hash) w le
        (order hash place) stands new_to in
        let put = put_joins (write_in secrets hash) (contents old) (contents new) (dir_text power hash) w bytes (order hash place) le reads absent sets in
        record {
          order = all_still secrets power old new hash place elsewhere order put.0;
          here = holds_is secrets power new hash (joined (holds secrets power old hash) w) place put.0 (put.1 (holds secrets power old hash) stands);
          others = others_stand secrets power old new hash place elsewhere order;
        }
      where
        elsewhere : (d n : List ℕ) → d ≢ dir_text power hash → contents new d n ≡ contents old d n
        elsewhere d n apart = sets.elsewhere d n (λ e. apart e.0)

  pub keeps-both : (a b c : Folders) → Keeps secrets power hash a b → Keeps secrets power hash b c → Keeps secrets power hash a c
  keeps-both a b c one two = record { order = two.order; here = two.here ∙ one.here; others = λ k other. two.others k other ∙ one.others k other }

  pub joins-kept : (w : Write) (a b c : Folders) → Joins secrets power hash w a b → Keeps secrets power hash b c → Joins secrets power hash w a c
  joins-kept w a b c one two = record { order = two.order; here = two.here ∙ one.here; others = λ k other. two.others k other ∙ one.others k other }

  pub kept-joins : (w : Write) (a b c : Folders) → Keeps secrets power hash a b → Joins secrets power hash w b c → Joins secrets power hash w a c
  kept-joins w a b c one two = record {
    order = two.order;
    here = two.here ∙ ap (λ (s : State). joined s w) one.here;
    others = λ k other. two.others k other
        ∙ one.others k other;
  }

-- the text of a write's file is read as the write, in its place
pub reads-own : (secrets : Secrets) (name : Name) (w : Write) → hash_of secrets name.account (Some name.container) (Some name.object) ≡ name.hash
    → IsFile (file_of name w)
    → write_in secrets name.hash (file_text name.account name.container name.object w) ≡ Some w
reads-own secrets name w hashed is =
    ap (write_with secrets name.hash) (decoded_text (file_of name w) is)
    ∙ cond-true (bytes_eq (hash_of secrets name.account (Some name.container) (Some name.object)) name.hash) (Some w) None
    ((bytes_eq-Decides (hash_of secrets name.account (Some name.container) (Some name.object)) name.hash).1 hashed)

-- ---- a put, and the unlinks after it

module _ (old mid : Folders) (dir bytes : List ℕ) (names : List FileName) (name : Name) (w : Write)
    (text : bytes ≡ file_text name.account name.container name.object w)
    (is_file : bad_name name.account (Some name.container) (Some name.object) ≡ None → IsFile (file_of name w)) where
  pub put-joins : Sets (contents old) (contents mid) dir (name_text (name_of w)) (Some bytes) → JoinsAll old mid dir names name w
  put-joins sets secrets power is =
      let file = is_file is.ours.good in
      joins-put secrets power name.hash is.ours.place old mid is.order w bytes file.time
      (ap (write_in secrets name.hash) text ∙ reads-own secrets name w is.ours.hashed file) is.new_to
      (subst (λ (d : List ℕ). Sets (contents old) (contents mid) d (name_text (name_of w)) (Some bytes)) is.dir_is sets)

  pub put-may-join : MaySet (contents old) (contents mid) dir (name_text (name_of w)) (Some bytes) → MayJoin old mid dir names name w
  put-may-join (inl same) secrets power is = inl (keeps-same secrets power name.hash is.ours.place old mid is.order same)
  put-may-join (inr sets) secrets power is = inr (put-joins sets secrets power is)

  pub put-then-cleaned : (new : Folders) (before now : ℕ) → Sets (contents old) (contents mid) dir (name_text (name_of w)) (Some bytes)
      → Unlinks (contents mid) (contents new) dir (filter (is_obsolete (names ++ name_of w ∷ [])) (names ++ name_of w ∷ [])) before now
      → JoinsAll old new dir names name w
  put-then-cleaned new before now sets unlinks secrets power is =
      let file = is_file is.ours.good in
      let put = put-joins sets secrets power is in
      joins-kept secrets power name.hash is.ours.place w old mid new put
      (keeps-cleaned secrets power name.hash is.ours.place mid new put.order (names ++ name_of w ∷ []) before now
      (subst (λ (d : List ℕ). AreNamesIn (contents mid) d (names ++ name_of w ∷ [])) is.dir_is
      (names-put (contents old) (contents mid) dir bytes names (name_of w) file.time is.are sets))
      (subst (λ (d : List ℕ). Unlinks (contents mid) (contents new) d (filter (is_obsolete (names ++ name_of w ∷ [])) (names ++ name_of w ∷ [])) before now)
      is.dir_is unlinks))

pub writes-join : (old new : Folders) (dir : List ℕ) (names : List FileName) (name : Name) (w : Write) (before now : ℕ)
    → (bad_name name.account (Some name.container) (Some name.object) ≡ None → IsFile (file_of name w)) → Writes old new dir names name w before now
    → JoinsAll old new dir names name w
writes-join old new dir names name w before now is_file wrote =
    put-then-cleaned old wrote.between dir (file_text name.account name.container name.object w) names name w refl is_file new before now wrote.puts
    wrote.unlinks

-- ---- what a listing tells

picked-outline : (s : State) → picked_outline (picked_of s) ≡ outline_of s
picked-outline s = rw (base-mark s.base, meta-time s.meta) refl
  where
    base-mark : (b : Option Base)
        → option_map file_mark (option_map (λ (x : Base). let f : FileName = record { time = base_time x; tag = base_tag x } in f) b) ≡ option_map mark_of b
    base-mark None = refl
    base-mark (Some (bases.Put time content)) = refl
    base-mark (Some (bases.Del time)) = refl

    meta-time : (m : Option Meta) → option_map (λ (f : FileName). f.time)
        (option_map (λ (x : Meta). let f : FileName = record { time = x.0; tag = tags.Meta } in f) m) ≡ option_map (λ (x : Meta). x.0) m
    meta-time None = refl
    meta-time (Some m) = refl

pub outline-in : (folders : Folders) (dir : List ℕ) (names : List FileName) (picked : Picked) → AreNamesIn (contents folders) dir names
    → IsPicked names picked → IsOutlineIn folders dir (picked_outline picked)
outline-in folders dir names picked are picks secrets power hash place dir_is order =
    ap picked_outline (picks_state (contents folders) (dir_text power hash) names picked
    (subst (λ (d : List ℕ). AreNamesIn (contents folders) d names) dir_is are) picks (write_in secrets hash) (order hash place)
    (holds secrets power folders hash) (holds_stands secrets power folders hash place (order hash place)))
    ∙ picked-outline (holds secrets power folders hash)
