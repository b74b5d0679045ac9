-- The count of bodies and the places for entries, through each change of the lists.
use Rattle.std.proofs.Common.{◌≡◌, ℕ, ◌+◌, ◌-◌, ◌≤◌, List, [], ◌∷◌, ◌++◌, length, length-append, take, ap, arith, refl}
use Rattle.std.proofs.Math.Seq.{take-append_seam}
use Rattle.std.proofs.lemmas.List.{length-map}
use Rattle.std.specs.declared.alloc.Global.{Global}
use Rattle.std.specs.declared.vec.Vec.{Vec}
use Rattle.sw_hashpath.specs.declared.name.Name.{Name}
use Rattle.sw_object_steps.proofs.Hashes.{bodies-append}
use Rattle.sw_object_steps.specs.Journals.{Hash, bodies, entry_size}
use Rattle.sw_object_steps.specs.Recorded.{filed_entries}
use Rattle.sw_object_steps.specs.declared.entry.ObjEntry.{ObjEntry}
use Rattle.sw_object_steps.specs.declared.entry.ObjEntry.TheVariants.{Files, Wrote}
use Rattle.sw_pending.specs.declared.filed.Filed.{Filed}
use Rattle.sw_state.specs.declared.write.Write.{Write}
use Rattle.sw_journal.specs.Entries.{IsCounted}

bodies-one : (e : ObjEntry) → bodies (e ∷ []) ≡ entry_size e
bodies-one e = omega arith

-- one list has an entry more than the other
pub bodies-mid : (xs ys : List ObjEntry) (e : ObjEntry) → bodies (xs ++ e ∷ ys) ≡ bodies (xs ++ ys) + entry_size e
bodies-mid xs ys e = let a = bodies-append xs (e ∷ ys) in let b = bodies-append xs ys in omega (arith, a, b)

pub length-mid : (xs ys : List ObjEntry) (e : ObjEntry) → length (xs ++ e ∷ ys) ≡ length (xs ++ ys) + 1
length-mid xs ys e = let a = length-append xs (e ∷ ys) in let b = length-append xs ys in omega (arith, a, b)

module _ (entries doubts fewer : Vec ObjEntry Global) (used max_bytes : ℕ) (counted : IsCounted entries doubts used max_bytes) (xs ys : List ObjEntry)
    (e : ObjEntry)
    (among : doubts.items ≡ xs ++ e ∷ ys) (rest : fewer.items ≡ xs ++ ys) where
  pub sized : entry_size e ≤ used
  sized = let c = counted.counted in let b = ap bodies among in let m = bodies-mid xs ys e in omega (arith, c, b, m)

  -- a doubt went
  pub counted-gone : (size : ℕ) → size ≡ entry_size e → IsCounted entries fewer (used - size) max_bytes
  counted-gone size is = record {
    counted = let c = counted.counted in let b = ap bodies among in let r = ap bodies rest in let m = bodies-mid xs ys e in omega (arith, c, b, r, m, is);
    within = let w = counted.within in omega (arith, w);
    places = let p = counted.places in let b = ap length among in let r = ap length rest in let m = length-mid xs ys e in omega (arith, p, b, r, m);
  }

  -- a doubt became an entry
  pub counted-entered : (more : Vec ObjEntry Global) → more.items ≡ entries.items ++ e ∷ [] → more.cap ≡ entries.cap → IsCounted more fewer used max_bytes
  counted-entered more is same = record {
    counted = let c = counted.counted in let b = ap bodies among in let r = ap bodies rest in let m = bodies-mid xs ys e in let n = ap bodies is in let a =
        bodies-append entries.items (e ∷ []) in let o = bodies-one e in
        omega (arith, c, b, r, m, n, a, o);
    within = counted.within;
    places = let p = counted.places in let b = ap length among in let r = ap length rest in let m = length-mid xs ys e in let n = ap length is in let a =
        length-append entries.items (e ∷ []) in
        omega (arith, p, b, r, m, n, a, same);
  }

-- a doubt came
pub counted-doubted : (entries wider doubts more : Vec ObjEntry Global) (used max_bytes size : ℕ) (e : ObjEntry) → IsCounted entries doubts used max_bytes
    → wider.items ≡ entries.items → more.items ≡ doubts.items ++ e ∷ []
    → length entries.items + (length doubts.items + 1) ≤ wider.cap → size ≡ entry_size e
    → bodies entries.items + bodies doubts.items + entry_size e ≤ max_bytes → IsCounted wider more (used + size) max_bytes
counted-doubted entries wider doubts more used max_bytes size e counted same is room sizes fits = record {
  counted = let c = counted.counted in let s = ap bodies same in let n = ap bodies is in let a = bodies-append doubts.items
      (e ∷ []) in let o = bodies-one e in omega (arith, c, s, n, a, o, sizes);
  within = let c = counted.counted in omega (arith, c, sizes, fits);
  places = let s = ap length same in let n = ap length is in let a = length-append doubts.items (e ∷ []) in omega (arith, s, n, a, room);
}

-- ---- a write with the records that were filed for it

bodies-filed : (hash : Hash) (records : List Filed) → bodies (filed_entries hash records) ≡ 0
bodies-filed hash [] = refl
bodies-filed hash (filed ∷ records) = let again = bodies-filed hash records in omega (arith, again)

length-filed : (hash : Hash) (records : List Filed) → length (filed_entries hash records) ≡ length records
length-filed hash records = length-map records (λ (filed : Filed). Files hash filed)

-- what stands before the entries that filed them
pub before-filed : (entries before : List ObjEntry) (hash : Hash) (records : List Filed) (n : ℕ) → entries ≡ before ++ filed_entries hash records
    → n ≡ length entries - length records → take n entries ≡ before
before-filed entries before hash records n is count =
    let l = ap length is in let a = length-append before (filed_entries hash records) in let f = length-filed hash records in
    let at : n ≡ length before = omega (arith, l, a, f, count) in
    rw (at, is) (take-append_seam before (filed_entries hash records))

-- the doubt of the write became an entry with them, in the place of those that filed them
pub counted-filed : (entries doubts fewer more : Vec ObjEntry Global) (used max_bytes : ℕ) (before : List ObjEntry) (hash : Hash) (name : Name)
    (write : Write) (was records : List Filed) → IsCounted entries doubts used max_bytes → entries.items ≡ before ++ filed_entries hash records
    → doubts.items ≡ fewer.items ++ Wrote name write was ∷ [] → more.items ≡ before ++ Wrote name write records ∷ [] → more.cap ≡ entries.cap
    → IsCounted more fewer used max_bytes
counted-filed entries doubts fewer more used max_bytes before hash name write was records counted filed among is same = record {
  counted = let c = counted.counted in let e = ap bodies filed in let a = bodies-append before (filed_entries hash records) in
      let f = bodies-filed hash records in let d = ap bodies among in let g = bodies-append fewer.items (Wrote name write was ∷ []) in
      let m = ap bodies is in let n = bodies-append before (Wrote name write records ∷ []) in omega (arith, c, e, a, f, d, g, m, n);
  within = counted.within;
  places = let p = counted.places in let e = ap length filed in let a = length-append before (filed_entries hash records) in
      let d = ap length among in let g = length-append fewer.items (Wrote name write was ∷ []) in let m = ap length is in
      let n = length-append before (Wrote name write records ∷ []) in omega (arith, p, e, a, d, g, m, n, same);
}

-- a doubt tells its name and write
pub wrote-same : (n o : Name) (v w : Write) (was other records : List Filed) → Wrote n v was ≡ Wrote o w other → Wrote n v records ≡ Wrote o w records
wrote-same n o v w was other records same = cc
