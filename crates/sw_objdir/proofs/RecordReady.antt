-- The directory once a step at a record has looked at all that it needs, and how its calls are counted.
use Rattle.std.proofs.Common.{◌≡◌, ℕ, zero, suc, ◌+◌, Bool, true, false, List, [], Option, None, Some, refl, sym, ◌∙◌, ap, subst}
use Rattle.std.proofs.Common.{arith, IfSome, IsSome}
use Rattle.std.specs.Str.{bytes_eq}
use Rattle.sw_cleanup.specs.Cleaning.{AreListedIn}
use Rattle.sw_cleanup.specs.Directories.{StandsIn}
use Rattle.sw_diskfile.specs.FileNames.{name_text}
use Rattle.sw_diskfile.specs.declared.file_name.FileName.{FileName}
use Rattle.sw_hashdir.specs.Places.{dir_text}
use Rattle.sw_hashpath.specs.declared.name.Name.{Name}
use Rattle.sw_journal.specs.Entries.{about_record}
use Rattle.sw_object_steps.specs.Journals.{Journal, written}
use Rattle.sw_object_steps.specs.Recorded.{found, is_gone}
use Rattle.sw_object_steps.specs.Values.{ObjValue}
use Rattle.sw_objdir.proofs.Looking.{looks-trans, still-values, told-same}
use Rattle.sw_objdir.proofs.RecordReading.{IsOwn, Kind}
use Rattle.sw_objdir.proofs.RecordReading.{step_at}
use Rattle.sw_objdir.specs.Calling.{NoListing}
use Rattle.sw_objdir.specs.Directories.{IsDir, Kept, is_told, values_of}
use Rattle.sw_objdir.specs.Recording.{CallsMade, FindsAs, Lists, ListsAs, LooksGone, Reads}
use Rattle.sw_objdir.specs.Recording.{Reads, asks_listing, once_if, reads_for}
use Rattle.sw_objdir.specs.Recording.{with_journal}
use Rattle.sw_objdir.specs.Stepping.{LooksAt}
use Rattle.sw_outside.specs.Counts.{raised}
use Rattle.sw_pending.specs.Records.{key_of}
use Rattle.sw_pending.specs.declared.filed.Filed.{Filed}
use Rattle.sw_volume.specs.Tree.{Folders, contents}
use Rattle.sw_volume.specs.Volume.{Contents, IsSame, raised_by}

-- ---- numbers of calls

raised-sum : (a b n : ℕ) → raised_by (a + b) n ≡ raised_by a (raised_by b n)
raised-sum zero b n = let e : 0 + b ≡ b = omega arith in ap (λ (c : ℕ). raised_by c n) e
raised-sum (suc a) b n = let e : suc a + b ≡ suc (a + b) = omega arith in ap (λ (c : ℕ). raised_by c n) e ∙ ap raised (raised-sum a b n)

-- where files are the same, a listing tells the same
listed-same : (old new : Contents) (dir : List ℕ) (names : List FileName) → IsSame old new → AreListedIn old dir names → AreListedIn new dir names
listed-same old new dir names same are = record {
  are_names = λ f. (λ is. moved f ((are.are_names f).0 is), λ stands. (are.are_names f).1 (back f stands));
  ascending = are.ascending;
}
  where
    moved : (f : FileName) → StandsIn old dir f → StandsIn new dir f
    moved f stands = record {
      is_time = stands.is_time;
      stands = subst (λ (o : Option (List ℕ)). IsSome o) (sym (same dir (name_text f))) stands.stands;
    }

    back : (f : FileName) → StandsIn new dir f → StandsIn old dir f
    back f stands = record { is_time = stands.is_time; stands = subst (λ (o : Option (List ℕ)). IsSome o) (same dir (name_text f)) stands.stands }

module _ {V : Type 0} (tells : V → Bool) (files : V → Folders) (faults calls lists : V → ℕ) where
  abbrev pub Counted : ℕ → ℕ → ℕ → Kept V → Kept V → Type 0
  Counted = CallsMade tells files faults calls lists

  -- calls behind others that were looks, and didn't fail
  pub counts-more : (a la b lb f : ℕ) (k m n : Kept V) → Counted b lb 0 k m → Counted a la f m n → Counted (a + b) (la + lb) f k n
  counts-more a la b lb f k m n first next = record {
    called = next.called ∙ (ap (raised_by a) first.called ∙ sym (raised-sum a b (calls k.volume)));
    listed = next.listed ∙ (ap (raised_by la) first.listed ∙ sym (raised-sum la lb (lists k.volume)));
    failed = next.failed ∙ ap (raised_by f) first.failed;
  }

  pub counts-as : (a la b lb f : ℕ) (k n : Kept V) → a ≡ b → la ≡ lb → Counted a la f k n → Counted b lb f k n
  counts-as a la b lb f k n same also counts = record {
    called = counts.called ∙ ap (λ (c : ℕ). raised_by c (calls k.volume)) same;
    listed = counts.listed ∙ ap (λ (c : ℕ). raised_by c (lists k.volume)) also;
    failed = counts.failed;
  }

  pub no-listing : (a f : ℕ) (m n : Kept V) → NoListing tells files faults calls lists a f m n → Counted a 0 f m n
  no-listing a f m n counts = record { called = counts.called; listed = counts.listed; failed = counts.failed }

  -- ---- a directory, once the step looked at all that it needs

  module _ (k : Kept V) (name : Name) (filed : Filed) (kind : Kind) where
    pub record IsReady (stood : Option Filed) (gone : Bool) (m : Kept V) : Type 0 where
      pub dir : IsDir tells files faults m
      pub looks : LooksAt tells files faults (λ key. bytes_eq key name.hash) k m
      pub found_is : is_told tells files faults m ≡ true → stood ≡ found (values_of tells files faults m name.hash) name.hash filed
      pub gone_is : is_told tells files faults m ≡ true → asks_listing (step_at filed kind) stood ≡ true
          → gone ≡ is_gone (values_of tells files faults m name.hash).state filed.time
      pub about : bytes_eq filed.name.hash name.hash ≡ true → about_record (key_of filed) m.journal.doubts ≡ []
      pub writes : asks_listing (step_at filed kind) stood ≡ true → written name.hash m.journal.doubts ≡ []
      pub own : (s : Filed) → stood ≡ Some s → IsOwn name filed s
      pub between : Journal
      pub read : Reads tells files faults calls lists (bytes_eq filed.name.hash name.hash) k filed stood between
      pub listed : Lists tells files faults calls lists (asks_listing (step_at filed kind) stood) (with_journal tells files faults calls lists k between)
          name filed.time gone m.journal
      pub counts : CallsMade tells files faults calls lists (reads_for name filed + once_if (asks_listing (step_at filed kind) stood))
          (once_if (asks_listing (step_at filed kind) stood)) 0 k m

    -- a record that was found is one of the name's hash, and of the key
    own-found : (b : Bool) (stood : Option Filed) (j : Journal) → bytes_eq filed.name.hash name.hash ≡ b
        → Reads tells files faults calls lists b k filed stood j → (s : Filed) → stood ≡ Some s → IsOwn name filed s
    own-found true stood j is read s so = record {
      own = is;
      keyed = subst (λ (o : Option Filed). IfSome o (λ other. key_of other ≡ key_of filed)) so read.keyed;
    }
    own-found false stood j is read s so = let none : stood ≡ None = read.none in cc

    pub found-own : (stood : Option Filed) (m : Kept V) → FindsAs tells files faults calls lists k name filed stood m → (s : Filed) → stood ≡ Some s
        → IsOwn name filed s
    found-own stood m finds = own-found (bytes_eq filed.name.hash name.hash) stood m.journal refl finds.read

    found-now : (stood : Option Filed) (m n : Kept V) → FindsAs tells files faults calls lists k name filed stood m
        → LooksAt tells files faults (λ key. bytes_eq key name.hash) k n → IsDir tells files faults n
        → is_told tells files faults n ≡ true → stood ≡ found (values_of tells files faults n name.hash) name.hash filed
    found-now stood m n finds looks dir told =
        finds.value (sym (told-same tells files faults k n looks.same) ∙ told)
        ∙ ap (λ (v : ObjValue). found v name.hash filed) (sym (still-values tells files faults _ k n looks dir name.hash))

    -- no listing is asked for
    pub ready-found : (stood : Option Filed) (m : Kept V) → FindsAs tells files faults calls lists k name filed stood m
        → asks_listing (step_at filed kind) stood ≡ false → IsReady stood true m
    ready-found stood m finds asks = record {
      dir = finds.dir;
      looks = finds.looks;
      found_is = found-now stood m m finds finds.looks finds.dir;
      gone_is = λ told is. cc;
      about = finds.settled;
      writes = λ is. cc;
      own = found-own stood m finds;
      between = m.journal;
      read = finds.read;
      listed = subst (λ (b : Bool). Lists tells files faults calls lists b (with_journal tells files faults calls lists k m.journal) name filed.time true
          m.journal) (sym asks) refl;
      counts = counts-as (reads_for name filed) 0 (reads_for name filed + once_if (asks_listing (step_at filed kind) stood))
          (once_if (asks_listing (step_at filed kind) stood)) 0 k m
          (let none : once_if (asks_listing (step_at filed kind) stood) ≡ 0 = ap once_if asks in omega (arith, none))
          (sym (ap once_if asks)) finds.counts;
    }

    -- what was listed behind the read was listed of the same files
    listed-back : (m : Kept V) (gone : Bool) (after : Journal) → LooksAt tells files faults (λ key. bytes_eq key name.hash) k m
        → ListsAs tells files faults calls lists m name filed.time gone after
        → ListsAs tells files faults calls lists (with_journal tells files faults calls lists k m.journal) name filed.time gone after
    listed-back m gone after looks listed = record {
      seen = record {
        names = listed.seen.names;
        picked = listed.seen.picked;
        are = λ told. back told (listed.seen.are (looks.same.told ∙ told));
        picks = listed.seen.picks;
        journal = listed.seen.journal;
        settles = listed.seen.settles;
      };
      gone_is = listed.gone_is;
      kept = listed.kept;
    }
      where
        back : tells k.volume ≡ true → AreListedIn (contents (files m.volume)) (dir_text m.power name.hash) listed.seen.names
            → AreListedIn (contents (files k.volume)) (dir_text k.power name.hash) listed.seen.names
        back told are = subst (λ (p : ℕ). AreListedIn (contents (files k.volume)) (dir_text p name.hash) listed.seen.names) looks.same.power
            (listed-same (contents (files m.volume)) (contents (files k.volume)) (dir_text m.power name.hash) listed.seen.names
            (λ d f. sym (looks.still told d f)) are)

    -- it was listed
    pub ready-listed : (stood : Option Filed) (m : Kept V) → FindsAs tells files faults calls lists k name filed stood m
        → asks_listing (step_at filed kind) stood ≡ true → (gone : Bool) (n : Kept V)
        → LooksGone tells files faults calls lists m name filed.time gone n → IsReady stood gone n
    ready-listed stood m finds asks gone n lists_so =
        let both = looks-trans tells files faults k m n finds.looks lists_so.looks in
        record {
          dir = lists_so.dir;
          looks = both;
          found_is = found-now stood m n finds both lists_so.dir;
          gone_is = λ told is.
              lists_so.value (sym (told-same tells files faults m n lists_so.looks.same) ∙ told)
              ∙ ap (λ (v : ObjValue). is_gone v.state filed.time) (sym (still-values tells files faults _ m n lists_so.looks lists_so.dir name.hash));
          about = λ is. lists_so.records (key_of filed) (finds.settled is);
          writes = λ is. lists_so.settled;
          own = found-own stood m finds;
          between = m.journal;
          read = finds.read;
          listed = subst (λ (b : Bool). Lists tells files faults calls lists b (with_journal tells files faults calls lists k m.journal) name filed.time gone
              n.journal) (sym asks) (listed-back m gone n.journal finds.looks lists_so.listed);
          counts = counts-as (1 + reads_for name filed) (1 + 0) (reads_for name filed + once_if (asks_listing (step_at filed kind) stood))
              (once_if (asks_listing (step_at filed kind) stood)) 0 k n
              (let one : once_if (asks_listing (step_at filed kind) stood) ≡ 1 = ap once_if asks in omega (arith, one))
              (sym (ap once_if asks))
              (counts-more 1 1 (reads_for name filed) 0 0 k m n finds.counts lists_so.counts);
        }
