-- The file that a name names.
use Rattle.std.proofs.Common.{◌≡◌, ◌≢◌, ℕ, ◌/◌, ◌%◌, ◌≤◌, ◌⊎◌, inl, inr, refl, sym, ◌∙◌, ap, subst, Bool, true, false, nat_le, List, [], ◌∷◌, ◌++◌, take, drop}
use Rattle.std.proofs.Common.{length, length-append, append_assoc, Option, None, Some, arith, if◌then◌else◌}
use Rattle.std.proofs.lemmas.Bool.{and_parts, and_from, cases_Bool, cond-true, cond-false, leb-true, le-leb}
use Rattle.std.proofs.lemmas.List.{drop_at, take_at}
use Rattle.std.proofs.lemmas.Slice.Eq.{bytes_eq-Decides}
use Rattle.std.specs.Str.{bytes_eq}
use Rattle.std.specs.Str.Parse.{digits_value}
use Rattle.sw_diskfile.specs.FileNames.{ending, file_with_tag, is_name_of, name_text, named}
use Rattle.sw_diskfile.specs.Laws.{NamedIs}
use Rattle.sw_diskfile.specs.declared.file_name.FileName.{FileName}
use Rattle.sw_diskfile.proofs.Names.{names_differ}
use Rattle.sw_timestamp.specs.TimeText.{last_digits, text_of, units_of_digits}
use Rattle.sw_timestamp.specs.declared.tag.Tag.{Tag}
use Rattle.sw_timestamp.specs.declared.tag.Tag.TheVariants.{Put, Del, Meta}
use Rattle.sw_timestamp.specs.declared.timestamp.TheConstants.{GREATEST}
use Rattle.sw_timestamp.proofs.NormalText.{digits_value-last_digits, length-last_digits}

-- ---- the time of a name
units_again : (whole part rest : List ℕ) (t : ℕ) → length whole ≡ 10 → length part ≡ 5 → digits_value 10 whole ≡ t / 100000 → digits_value 10 part ≡ t % 100000
    → units_of_digits (take 10 (whole ++ 46 ∷ part ++ rest)) (take 5 (drop 11 (whole ++ 46 ∷ part ++ rest))) ≡ t
units_again whole part rest t ten five is_whole is_part =
    let grouped : whole ++ 46 ∷ part ++ rest ≡ whole ++ (46 ∷ part ++ rest) = append_assoc whole (46 ∷ part) rest in
    let front : take 10 (whole ++ 46 ∷ part ++ rest) ≡ whole = ap (take 10) grouped ∙ take_at whole (46 ∷ part ++ rest) 10 ten in
    let regrouped : whole ++ 46 ∷ part ++ rest ≡ (whole ++ 46 ∷ []) ++ (part ++ rest) = grouped ∙ sym (append_assoc whole (46 ∷ []) (part ++ rest)) in
    let back : drop 11 (whole ++ 46 ∷ part ++ rest) ≡ part ++ rest =
    ap (drop 11) regrouped ∙ drop_at (whole ++ 46 ∷ []) (part ++ rest) 11 (let l = length-append whole (46 ∷ []) in omega (arith, l, ten)) in
    let middle : take 5 (drop 11 (whole ++ 46 ∷ part ++ rest)) ≡ part = ap (take 5) back ∙ take_at part rest 5 five in
    rw (front, middle, five, is_whole, is_part) (omega arith)

units_at : (t : ℕ) (rest : List ℕ) → t ≤ GREATEST → units_of_digits (take 10 (text_of t ++ rest)) (take 5 (drop 11 (text_of t ++ rest))) ≡ t
units_at t rest le =
    units_again (last_digits 10 (t / 100000)) (last_digits 5 (t % 100000)) rest t (length-last_digits 10 (t / 100000)) (length-last_digits 5 (t % 100000))
    (digits_value-last_digits 10 (t / 100000) (omega arith)) (digits_value-last_digits 5 (t % 100000) (omega arith))

tagged : (f : FileName) (tag : Tag) → f.time ≤ GREATEST → file_with_tag (name_text f) tag ≡ record { time = f.time; tag = tag }
tagged f tag le = ap (λ (t : ℕ). record { time = t; tag = tag }) (units_at f.time (ending f.tag) le)

-- ---- the test of another ending fails, and that of its own passes
named_test : (f : FileName) (tag : Tag) → f.time ≤ GREATEST → is_name_of (name_text f) (file_with_tag (name_text f) tag) ≡ true → tag ≡ f.tag
named_test f tag le is =
    let test = subst (λ (g : FileName). is_name_of (name_text f) g ≡ true) (tagged f tag le) is in
    let parts = and_parts (bytes_eq (name_text (record { time = f.time; tag = tag })) (name_text f)) (nat_le f.time GREATEST) test in
    ap (λ (g : FileName). g.tag) (names_differ (record { time = f.time; tag = tag }) f le le
    ((bytes_eq-Decides (name_text (record { time = f.time; tag = tag })) (name_text f)).0 parts.0))

named_own : (f : FileName) → f.time ≤ GREATEST → is_name_of (name_text f) (file_with_tag (name_text f) f.tag) ≡ true
named_own f le = subst (λ (g : FileName). is_name_of (name_text f) g ≡ true) (sym (tagged f f.tag le))
    (and_from _ _ ((bytes_eq-Decides (name_text f) (name_text f)).1 refl) (le-leb f.time GREATEST le))

another : (f : FileName) (tag : Tag) → f.time ≤ GREATEST → tag ≢ f.tag → is_name_of (name_text f) (file_with_tag (name_text f) tag) ≡ false
another f tag le other = elim (cases_Bool (is_name_of (name_text f) (file_with_tag (name_text f) tag)))
    [ inl is ↦ absurd (other (named_test f tag le is)) | inr is ↦ is ]

named_by : (f : FileName) (tag : Tag) → f.tag ≡ tag → f.time ≤ GREATEST → named (name_text f) ≡ Some (file_with_tag (name_text f) tag)
unfolding named
named_by f Put e le = cond-true _ _ _ (subst (λ (g : Tag). is_name_of (name_text f) (file_with_tag (name_text f) g) ≡ true) e (named_own f le))
named_by f Del e le =
    cond-false _ _ _ (another f Put le (λ same. let lie : Put ≡ Del = same ∙ e in cc))
    ∙ cond-true _ _ _ (subst (λ (g : Tag). is_name_of (name_text f) (file_with_tag (name_text f) g) ≡ true) e (named_own f le))
named_by f Meta e le =
    cond-false _ _ _ (another f Put le (λ same. let lie : Put ≡ Meta = same ∙ e in cc))
    ∙ (cond-false _ _ _ (another f Del le (λ same. let lie : Del ≡ Meta = same ∙ e in cc))
    ∙ cond-true _ _ _ (subst (λ (g : Tag). is_name_of (name_text f) (file_with_tag (name_text f) g) ≡ true) e (named_own f le)))

-- ---- both ways
pub named_again : (f : FileName) → f.time ≤ GREATEST → named (name_text f) ≡ Some f
named_again f le = named_by f f.tag refl le ∙ ap (λ (g : FileName). Some g) (tagged f f.tag le)

some_file : (x f : FileName) → Some x ≡ Some f → x ≡ f
some_file x f e = cc

first_of : (a b c : Bool) (x y z f : FileName) → (if a then Some x else if b then Some y else if c then Some z else None) ≡ Some f
    → ((a ≡ true) × (x ≡ f)) ⊎ (((b ≡ true) × (y ≡ f)) ⊎ ((c ≡ true) × (z ≡ f)))
first_of true b c x y z f e = inl (refl, some_file x f e)
first_of false true c x y z f e = inr (inl (refl, some_file y f e))
first_of false false true x y z f e = inr (inr (refl, some_file z f e))
first_of false false false x y z f e = cc

name_is : (text : List ℕ) (g f : FileName) → is_name_of text g ≡ true → g ≡ f → (f.time ≤ GREATEST) × (text ≡ name_text f)
name_is text g f is e =
    let test = subst (λ (h : FileName). is_name_of text h ≡ true) e is in
    let parts = and_parts (bytes_eq (name_text f) text) (nat_le f.time GREATEST) test in
    (leb-true f.time GREATEST parts.1, sym ((bytes_eq-Decides (name_text f) text).0 parts.0))

pub named_takes : (text : List ℕ) (f : FileName) → named text ≡ Some f → (f.time ≤ GREATEST) × (text ≡ name_text f)
unfolding named
named_takes text f e =
    let of : Tag → FileName = λ tag. file_with_tag text tag in
    elim (first_of (is_name_of text (of Put)) (is_name_of text (of Del)) (is_name_of text (of Meta)) (of Put) (of Del) (of Meta) f e) [
      | inl first ↦ name_is text (of Put) f first.0 first.1
      | inr later ↦ elim later [
        | inl second ↦ name_is text (of Del) f second.0 second.1
        | inr third ↦ name_is text (of Meta) f third.0 third.1
      ]
    ]

pub named_is : NamedIs
named_is text f = (named_takes text f, λ is. ap named is.1 ∙ named_again f is.0)

-- ---- what reading a name says
pub read_named : (text : List ℕ) (f : FileName) → f.time ≤ GREATEST → text ≡ name_text f → named text ≡ Some f
read_named text f le e = (named_is text f).1 (le, e)

pub refused_unnamed : (text : List ℕ) → ((time : ℕ) → time ≤ GREATEST → text ≢ text_of time ++ ending Put) →
    ((time : ℕ) → time ≤ GREATEST → text ≢ text_of time ++ ending Del)
    → ((time : ℕ) → time ≤ GREATEST → text ≢ text_of time ++ ending Meta) → named text ≡ None
refused_unnamed text put del meta = by (named text) refl
  where
    never : (time : ℕ) (tag : Tag) → time ≤ GREATEST → text ≢ text_of time ++ ending tag
    never time Put le = put time le
    never time Del le = del time le
    never time Meta le = meta time le

    by : (o : Option FileName) → named text ≡ o → o ≡ None
    by None e = refl
    by (Some f) e = let is = named_takes text f e in absurd (never f.time f.tag is.0 is.1)
