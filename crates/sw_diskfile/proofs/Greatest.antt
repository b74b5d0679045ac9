-- The greatest of a list, one name more at a time, and that there is one at most.
use Rattle.std.proofs.Common.{◌≡◌, ℕ, refl, sym, ◌∙◌, ap, subst, Bool, true, false, cond, ◌&&◌, ◌||◌, not, eqb, ltb, List, [], ◌∷◌, ◌++◌, Option, None, Some}
use Rattle.std.proofs.Common.{arith, ⊎_elim}
use Rattle.std.proofs.lemmas.Bool.{cases_Bool}
use Rattle.std.proofs.lemmas.Bool.Decides.{nat_tests}
use Rattle.std.proofs.lemmas.List.Elements.{Contains-append_left, Contains-push, Contains-push_cases}
use Rattle.std.specs.List.{Contains}
use Rattle.std.specs.Option.{option_map_or}
use Rattle.sw_diskfile.specs.Picking.{IsGreatest, IsGreatestOf, IsPicked, is_above, is_base, is_del, is_later_meta, is_meta}
use Rattle.sw_diskfile.specs.declared.file_name.FileName.{FileName}
use Rattle.sw_diskfile.specs.declared.picking.Picked.{Picked}
use Rattle.sw_timestamp.specs.declared.tag.Tag.{Tag}
use Rattle.sw_timestamp.specs.declared.tag.Tag.TheVariants.{Put, Del, Meta}

above_itself : (t : ℕ) (d : Bool) → (ltb t t || (eqb t t && (d && not d))) ≡ false
above_itself t true = grind (arith, nat_tests)
above_itself t false = grind (arith, nat_tests)

pub is_above-itself : (file : FileName) → is_above file file ≡ false
is_above-itself file = above_itself file.time (is_del file.tag)

above_trans : (t u v : ℕ) (d e f : Bool) → (ltb u t || (eqb u t && (d && not e))) ≡ true → (ltb v u || (eqb v u && (e && not f))) ≡ true →
    (ltb v t || (eqb v t && (d && not f))) ≡ true
above_trans t u v true true true a b = grind (arith, nat_tests)
above_trans t u v true true false a b = grind (arith, nat_tests)
above_trans t u v true false true a b = grind (arith, nat_tests)
above_trans t u v true false false a b = grind (arith, nat_tests)
above_trans t u v false true true a b = grind (arith, nat_tests)
above_trans t u v false true false a b = grind (arith, nat_tests)
above_trans t u v false false true a b = grind (arith, nat_tests)
above_trans t u v false false false a b = grind (arith, nat_tests)

pub is_above-trans : (a b c : FileName) → is_above a b ≡ true → is_above b c ≡ true → is_above a c ≡ true
is_above-trans a b c = above_trans a.time b.time c.time (is_del a.tag) (is_del b.tag) (is_del c.tag)

-- what isn't above one isn't above a greater one
below_greater : (a b c : FileName) → is_above a c ≡ false → is_above b c ≡ true → is_above a b ≡ false
below_greater a b c below above = ⊎_elim (λ y. let lie = is_above-trans a b c y above in absurd cc) (λ n. n) (cases_Bool (is_above a b))

not_counted : (b : Bool) → (b && true) ≡ false → b ≡ false
not_counted true h = h
not_counted false h = refl

not_above : (b c : Bool) → (b && c) ≡ false → b ≡ true → c ≡ false
not_above true c h e = h
not_above false c h e = absurd cc

module _ (xs : List FileName) (test : FileName → Bool) (x : FileName) where
  before : (found : Option FileName) → IsGreatestOf xs test found → option_map_or (is_above x) found true ≡ true → (other : FileName) → Contains xs other →
      test other ≡ true → is_above other x ≡ false
  before None g above other c t = let lie = g other c in absurd cc
  before (Some f) g above other c t = below_greater other x f (g.none_above other c t) above

  -- a name more, that counts and is above
  takes : (found : Option FileName) → IsGreatestOf xs test found → test x ≡ true → option_map_or (is_above x) found true ≡ true →
      IsGreatest (xs ++ x ∷ []) test x
  takes found g counts above = record {
    among = Contains-push xs x;
    passes = counts;
    none_above = λ other c t. ⊎_elim (λ old. before found g above other old t) (λ e. subst (λ (y : FileName). is_above y x ≡ false) e (is_above-itself x))
        (Contains-push_cases xs x other c);
  }

  -- or that doesn't, or isn't
  keeps : (found : Option FileName) → IsGreatestOf xs test found → (test x && option_map_or (is_above x) found true) ≡ false →
      IsGreatestOf (xs ++ x ∷ []) test found
  keeps None g off = λ other c. ⊎_elim (λ old. g other old) (λ e. subst (λ (y : FileName). test y ≡ false) e (not_counted (test x) off))
      (Contains-push_cases xs x other c)
  keeps (Some f) g off = record {
    among = Contains-append_left xs (x ∷ []) f g.among;
    passes = g.passes;
    none_above = λ other c t. ⊎_elim (λ old. g.none_above other old t)
        (λ e. subst (λ (y : FileName). is_above y f ≡ false) e (not_above (test x) (is_above x f) off (subst (λ (y : FileName). test y ≡ true) (sym e) t)))
        (Contains-push_cases xs x other c);
  }

  both : (a b : Bool) → (a && b) ≡ true → (a ≡ true) × (b ≡ true)
  both true b h = (refl, h)
  both false b h = absurd cc

  pub IsGreatestOf-push : (found r : Option FileName) (counts : Bool) → counts ≡ test x →
      r ≡ cond (counts && option_map_or (is_above x) found true) (Some x) found → IsGreatestOf xs test found → IsGreatestOf (xs ++ x ∷ []) test r
  IsGreatestOf-push found r counts c e g =
      let better = counts && option_map_or (is_above x) found true in
      ⊎_elim
      (λ y. let parts = both counts (option_map_or (is_above x) found true) y in
      let is : r ≡ Some x = e ∙ ap (λ b. cond b (Some x) found) y in
      subst (λ (o : Option FileName). IsGreatestOf (xs ++ x ∷ []) test o) (sym is) (takes found g (sym c ∙ parts.0) parts.1))
      (λ n. let is : r ≡ found = e ∙ ap (λ b. cond b (Some x) found) n in
      subst (λ (o : Option FileName). IsGreatestOf (xs ++ x ∷ []) test o) (sym is)
      (keeps found g (ap (λ b. b && option_map_or (is_above x) found true) (sym c) ∙ n)))
      (cases_Bool better)

-- ---- one at most
same_time : (t u : ℕ) (d : Bool) → (ltb u t || (eqb u t && (d && not d))) ≡ false → (ltb t u || (eqb t u && (d && not d))) ≡ false → t ≡ u
same_time t u true a b = grind (arith, nat_tests)
same_time t u false a b = grind (arith, nat_tests)

tie : (t u : ℕ) → (ltb u t || (eqb u t && true)) ≡ false → (ltb t u || (eqb t u && false)) ≡ false → ⊥
tie t u a b = grind (arith, nat_tests)

at_one_time : (t u : ℕ) (a b : Tag) → is_above (record { time = t; tag = a }) (record { time = u; tag = b }) ≡ false →
    is_above (record { time = u; tag = b }) (record { time = t; tag = a }) ≡ false
    → is_meta a ≡ is_meta b → (t ≡ u) × (a ≡ b)
at_one_time t u Put Put x y m = (same_time t u false x y, refl)
at_one_time t u Del Del x y m = (same_time t u true x y, refl)
at_one_time t u Meta Meta x y m = (same_time t u false x y, refl)
at_one_time t u Put Del x y m = absurd (tie u t y x)
at_one_time t u Del Put x y m = absurd (tie t u x y)
at_one_time t u Put Meta x y m = absurd cc
at_one_time t u Del Meta x y m = absurd cc
at_one_time t u Meta Put x y m = absurd cc
at_one_time t u Meta Del x y m = absurd cc

module _ (names : List FileName) (test : FileName → Bool) (one_kind : (f g : FileName) → test f ≡ true → test g ≡ true → is_meta f.tag ≡ is_meta g.tag) where
  one : (f g : FileName) → IsGreatest names test f → IsGreatest names test g → f ≡ g
  one f g p q =
      let same = at_one_time f.time g.time f.tag g.tag (q.none_above f p.among p.passes) (p.none_above g q.among q.passes) (one_kind f g p.passes q.passes) in
      ap (λ t. record { time = t; tag = f.tag }) same.0 ∙ ap (λ a. record { time = g.time; tag = a }) same.1

  pub one_greatest : (o p : Option FileName) → IsGreatestOf names test o → IsGreatestOf names test p → o ≡ p
  one_greatest None None a b = refl
  one_greatest None (Some g) a b = let lie = a g b.among in let yes = b.passes in absurd cc
  one_greatest (Some f) None a b = let lie = b f a.among in let yes = a.passes in absurd cc
  one_greatest (Some f) (Some g) a b = ap (λ (x : FileName). Some x) (one f g a b)

base_kind : (f : FileName) → is_base f ≡ true → is_meta f.tag ≡ false
base_kind f h = ⊎_elim (λ y. let lie : is_base f ≡ false = ap (λ b. not b) y in absurd cc) (λ n. n) (cases_Bool (is_meta f.tag))

and_left : (a b : Bool) → (a && b) ≡ true → a ≡ true
and_left true b h = refl
and_left false b h = absurd cc

meta_kind : (base : Option FileName) (f : FileName) → is_later_meta base f ≡ true → is_meta f.tag ≡ true
meta_kind None f h = h
meta_kind (Some b) f h = and_left (is_meta f.tag) (ltb b.time f.time) h

pub one_pick : (names : List FileName) (picked other : Picked) → IsPicked names picked → IsPicked names other → picked ≡ other
one_pick names picked other p q =
    let bases : picked.base ≡ other.base = one_greatest names is_base (λ f g a b. base_kind f a ∙ sym (base_kind g b)) picked.base other.base p.base q.base in
    let metas : picked.meta ≡ other.meta =
    one_greatest names (is_later_meta other.base) (λ f g a b. meta_kind other.base f a ∙ sym (meta_kind other.base g b)) picked.meta other.meta
    (subst (λ (b : Option FileName). IsGreatestOf names (is_later_meta b) picked.meta) bases p.meta) q.meta in
    ap (λ (b : Option FileName). record { base = b; meta = picked.meta }) bases ∙ ap (λ (m : Option FileName). record { base = other.base; meta = m }) metas
