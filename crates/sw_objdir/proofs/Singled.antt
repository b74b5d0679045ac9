-- Lists of doubts, of which each hash has one of a write at most, and each record one.
use Rattle.std.proofs.Common.{◌≡◌, ◌+◌, ◌≤◌, Bool, true, false, List, [], ◌∷◌, ◌++◌, length, length-append, refl, sym, ◌∙◌, ap, subst, arith}
use Rattle.std.proofs.Common.{if◌then◌else◌}
use Rattle.std.specs.List.{All, filter}
use Rattle.std.specs.Str.{bytes_eq}
use Rattle.std.proofs.lemmas.List.{append-nil}
use Rattle.std.proofs.lemmas.List.Elements.{All-append, All-cons, All-head, All-nil, All-tail, filter-append}
use Rattle.sw_hashpath.specs.declared.name.Name.{Name}
use Rattle.sw_journal.specs.Entries.{about_record, is_record_of}
use Rattle.sw_object_steps.proofs.Hashes.{hash-apart, hash-same, written-append, written-other, written-own}
use Rattle.sw_object_steps.specs.Journals.{Hash, written}
use Rattle.sw_object_steps.specs.Singles.{History}
use Rattle.sw_object_steps.specs.Values.{ObjValue}
use Rattle.sw_object_steps.specs.declared.entry.ObjEntry.{ObjEntry}
use Rattle.sw_object_steps.specs.declared.entry.ObjEntry.TheVariants.{Dropped, Files, Marked, Wrote}
use Rattle.sw_objdir.specs.Directories.{IsKept, IsPlain}
use Rattle.sw_pending.specs.declared.filed.Filed.{Filed}
use Rattle.sw_pending.specs.declared.key.RecordKey.{RecordKey}
use Rattle.sw_state.specs.declared.write.Write.{Write}

pub record AreSingle (ds : List ObjEntry) : Type 0 where
  pub single : (hash : Hash) → length (written hash ds) ≤ 1
  pub single_record : (key : RecordKey) → length (about_record key ds) ≤ 1
  pub plain : All IsPlain ds

pub kept-single : (h : History) (now : Hash → ObjValue) → IsKept h now → AreSingle h.journal.doubts
kept-single h now kept = record { single = kept.single; single_record = kept.single_record; plain = kept.plain }

-- ---- lists

module _ {X : Type 0} (P : X → Type 0) (x : X) (ys : List X) where
  pub all-at : (xs : List X) → All P (xs ++ x ∷ ys) → P x
  all-at [] all = All-head P x ys all
  all-at (z ∷ xs) all = all-at xs (All-tail P z (xs ++ x ∷ ys) all)

  pub all-without : (xs : List X) → All P (xs ++ x ∷ ys) → All P (xs ++ ys)
  all-without [] all = All-tail P x ys all
  all-without (z ∷ xs) all =
      All-cons P z (xs ++ ys) (All-head P z (xs ++ x ∷ ys) all) (all-without xs (All-tail P z (xs ++ x ∷ ys) all))

filter-without : {X : Type 0} (p : X → Bool) (xs : List X) (x : X) (ys : List X) → length (filter p (xs ++ ys)) ≤ length (filter p (xs ++ x ∷ ys))
filter-without p [] x ys = by (p x)
  where
    by : (b : Bool) → length (filter p ys) ≤ length (if b then x ∷ filter p ys else filter p ys)
    by true = omega arith
    by false = omega arith
filter-without p (z ∷ xs) x ys = by (p z) (filter-without p xs x ys)
  where
    by : (b : Bool) → length (filter p (xs ++ ys)) ≤ length (filter p (xs ++ x ∷ ys))
        → length (if b then z ∷ filter p (xs ++ ys) else filter p (xs ++ ys))
        ≤ length (if b then z ∷ filter p (xs ++ x ∷ ys) else filter p (xs ++ x ∷ ys))
    by true again = omega (arith, again)
    by false again = again

-- ---- one doubt fewer

written-cons : (hash : Hash) (e : ObjEntry) (ys : List ObjEntry) → length (written hash ys) ≤ length (written hash (e ∷ ys))
written-cons hash (Wrote name w records) ys = by (bytes_eq name.hash hash)
  where
    by : (b : Bool) → length (written hash ys) ≤ length (if b then w ∷ written hash ys else written hash ys)
    by true = omega arith
    by false = omega arith
written-cons hash (Files by filed) ys = omega arith
written-cons hash (Marked by filed device) ys = omega arith
written-cons hash (Dropped by filed) ys = omega arith

written-without : (hash : Hash) (xs : List ObjEntry) (e : ObjEntry) (ys : List ObjEntry)
    → length (written hash (xs ++ ys)) ≤ length (written hash (xs ++ e ∷ ys))
written-without hash xs e ys =
    let short = ap length (written-append hash xs ys) ∙ length-append (written hash xs) (written hash ys) in
    let long = ap length (written-append hash xs (e ∷ ys)) ∙ length-append (written hash xs) (written hash (e ∷ ys)) in
    let more = written-cons hash e ys in
    omega (arith, short, long, more)

pub single-without : (xs ys : List ObjEntry) (e : ObjEntry) → AreSingle (xs ++ e ∷ ys) → AreSingle (xs ++ ys)
single-without xs ys e are = record {
  single = λ hash. let few = are.single hash in let less = written-without hash xs e ys in omega (arith, few, less);
  single_record = λ key. let few = are.single_record key in let less = filter-without (is_record_of key) xs e ys in omega (arith, few, less);
  plain = all-without IsPlain e ys xs are.plain;
}

-- ---- one of a write more

pub write-more : (name : Name) (w : Write) (ds : List ObjEntry) → written name.hash ds ≡ [] → AreSingle ds → AreSingle (ds ++ Wrote name w [] ∷ [])
write-more name w ds none are = record {
  single = λ hash. by hash (bytes_eq name.hash hash) refl;
  single_record = λ key. subst (λ (es : List ObjEntry). length es ≤ 1)
      (sym (filter-append (is_record_of key) ds (Wrote name w [] ∷ []) ∙ append-nil (about_record key ds))) (are.single_record key);
  plain = All-append IsPlain ds (Wrote name w [] ∷ []) are.plain (All-cons IsPlain (Wrote name w []) [] refl (All-nil IsPlain));
}
  where
    by : (hash : Hash) (b : Bool) → bytes_eq name.hash hash ≡ b → length (written hash (ds ++ Wrote name w [] ∷ [])) ≤ 1
    by hash true is = subst (λ (x : Hash). length (written x (ds ++ Wrote name w [] ∷ [])) ≤ 1) (hash-same name.hash hash is)
        (let own : written name.hash (ds ++ Wrote name w [] ∷ []) ≡ w ∷ [] =
        written-append name.hash ds (Wrote name w [] ∷ [])
        ∙ (ap (λ (ws : List Write). ws ++ written name.hash (Wrote name w [] ∷ [])) none ∙ written-own name w []) in
        let one = ap length own in omega (arith, one))
    by hash false is = subst (λ (l : List Write). length l ≤ 1)
        (sym (written-append hash ds (Wrote name w [] ∷ [])
        ∙ (ap (λ (l : List Write). written hash ds ++ l) (written-other hash name w [] (hash-apart name.hash hash is)) ∙ append-nil (written hash ds))))
        (are.single hash)

-- ---- the doubt of a write among others

module _ (xs ys : List ObjEntry) (name : Name) (w : Write) (records : List Filed) (few : length (written name.hash (xs ++ Wrote name w records ∷ ys)) ≤ 1) where
  empty : (ws : List Write) → length ws ≤ 0 → ws ≡ []
  empty [] none = refl
  empty (v ∷ ws) none = absurd (omega (arith, none))

  lengths : length (written name.hash xs) + length (written name.hash ys) ≤ 0
  lengths =
      let all = ap length (written-append name.hash xs (Wrote name w records ∷ ys))
      ∙ length-append (written name.hash xs) (written name.hash (Wrote name w records ∷ ys)) in
      let behind = ap length (written-append name.hash (Wrote name w records ∷ []) ys)
      ∙ length-append (written name.hash (Wrote name w records ∷ [])) (written name.hash ys) in
      let one = ap length (written-own name w records) in
      omega (arith, few, all, behind, one)

  -- it was the only one of its hash
  none-before : written name.hash xs ≡ []
  none-before = empty (written name.hash xs) (let none = lengths in omega (arith, none))

  none-behind : written name.hash ys ≡ []
  none-behind = empty (written name.hash ys) (let none = lengths in omega (arith, none))

  pub own-gone : written name.hash (xs ++ ys) ≡ []
  own-gone = written-append name.hash xs ys ∙ (ap (λ (ws : List Write). ws ++ written name.hash ys) none-before ∙ none-behind)
