-- Queries that leave out no rolled-up entry, and what such a query shows where it is moved.
use Rattle.std.proofs.Common.{◌≡◌, ℕ, Bool, true, false, cond, List, [], ◌∷◌, ◌++◌, length, Some, refl, sym, ◌∙◌, ap, subst, arith, ◌⊎◌, inl, inr}
use Rattle.std.specs.List.{starts_with}
use Rattle.std.specs.Prelude.{◌&&◌, nat_eq}
use Rattle.std.specs.Str.{bytes_eq}
use Rattle.std.proofs.lemmas.Bool.{false_from_ne_true}
use Rattle.std.proofs.lemmas.List.{append-nil}
use Rattle.sw_listing.specs.Asking.{is_above, is_asked, is_before, is_below}
use Rattle.sw_listing.specs.declared.entry.Entry.{Entry}
use Rattle.sw_listing.specs.declared.query.Query.{Query}
use Rattle.sw_rows.proofs.Named.{name_itself, same_name}
use Rattle.sw_rows.specs.declared.row.Row.{Row}
use Rattle.sw_shard_listing.specs.Laws.{IsPlain, is_ahead}
use Rattle.sw_shard_listing.specs.Ranges.{behind, higher, is_between, leaves_out, moved, nearer, next_text}
use Rattle.sw_shard_listing.proofs.Bounds.{above-is, asked-moved, below-is, over, under}
use Rattle.sw_shard_listing.proofs.Order.{Begins, Lt, begins-before-end, begins-not-before, begins-or, lt-asym, lt-total, lt-trans, plain-front}
use Rattle.sw_shard_listing.proofs.Rolling.{rolled-again, rolled-begins, rolled-some}
use Rattle.sw_shard_listing.proofs.Showing.{IsRolled, IsShown, IsWhole, rolled_of}

-- no name that is asked for is rolled up to the marker
abbrev pub IsClear : Query → Type 0
IsClear q = (x : List ℕ) → IsPlain x → is_asked q x ≡ true → (t : List ℕ) → rolled_of q x ≡ Some t → bytes_eq t q.marker ≡ false

-- ---- tests

both : (a b : Bool) → (a && b) ≡ true → (a ≡ true) × (b ≡ true)
both true true h = (refl, refl)
both true false h = cc
both false b h = cc

ands : (a b : Bool) → a ≡ true → b ≡ true → (a && b) ≡ true
ands a b p q = rw (p, q) refl

-- ---- plain texts

plain-zero : (l : List ℕ) → IsPlain (l ++ 0 ∷ []) → ⊥
plain-zero [] p = omega (arith, p.0)
plain-zero (b ∷ bs) p = plain-zero bs p.2

pub plain-end : (l : List ℕ) → IsPlain (l ++ 255 ∷ []) → ⊥
plain-end [] p = omega (arith, p.1)
plain-end (b ∷ bs) p = plain-end bs p.2

pub plain-rolled : (q : Query) (x t : List ℕ) → IsPlain x → rolled_of q x ≡ Some t → IsPlain t
plain-rolled q x t plain is =
    let b = rolled-begins q.delimiter (length q.prefix) x t is in
    plain-front t b.0 (subst IsPlain b.1 plain)

-- texts that differ
pub apart : (s t : List ℕ) → (s ≡ t → ⊥) → bytes_eq s t ≡ false
apart s t h = false_from_ne_true (bytes_eq s t) (λ same. h (same_name s t same))

rolled-not-next : (q : Query) (x t l : List ℕ) → IsPlain x → rolled_of q x ≡ Some t → bytes_eq t q.marker ≡ false ⊎ (t ≡ [] → ⊥)
    → bytes_eq t (next_text l) ≡ false
rolled-not-next q x t [] plain is some = apart t [] (λ same. rolled-some q.delimiter (length q.prefix) x (is ∙ ap (λ (u : List ℕ). Some u) same))
rolled-not-next q x t (b ∷ bs) plain is some =
    apart t (next_text (b ∷ bs)) (λ same. plain-zero (b ∷ bs) (subst IsPlain same (plain-rolled q x t plain is)))

higher-one : (P : List ℕ → Type 0) (a b : List ℕ) → P a → P b → P (higher a b)
higher-one P a b p q = by (is_before a b)
  where
    by : (t : Bool) → P (cond t b a)
    by true = q
    by false = p

nearer-one : (P : List ℕ → Type 0) (a b : List ℕ) → P a → P b → P (nearer a b)
nearer-one P [] b p q = q
nearer-one P (a ∷ ls) [] p q = p
nearer-one P (a ∷ ls) (b ∷ bs) p q = by (is_before (a ∷ ls) (b ∷ bs))
  where
    by : (t : Bool) → P (cond t (a ∷ ls) (b ∷ bs))
    by true = p
    by false = q

-- ---- a query that is moved

asked-before : (q : Query) (lower upper x : List ℕ) → IsPlain x → is_asked (moved q lower upper) x ≡ true
    → (is_asked q x ≡ true) × (is_between lower upper x ≡ true)
asked-before q lower upper x plain h = both (is_asked q x) (is_between lower upper x) (sym (asked-moved q lower upper x plain) ∙ h)

not-marker : (q : Query) (lower upper x t : List ℕ) → IsPlain x → rolled_of q x ≡ Some t → bytes_eq t q.marker ≡ false
    → bytes_eq t (moved q lower upper).marker ≡ false
not-marker q lower upper x t plain is old = by q.reverse
  where
    P : List ℕ → Type 0
    P m = bytes_eq t m ≡ false

    by : (b : Bool) → bytes_eq t (cond b (nearer q.marker (next_text upper)) (higher q.marker (next_text lower))) ≡ false
    by true = nearer-one (λ (m : List ℕ). bytes_eq t m ≡ false) q.marker (next_text upper) old (rolled-not-next q x t upper plain is (inl old))
    by false = higher-one (λ (m : List ℕ). bytes_eq t m ≡ false) q.marker (next_text lower) old (rolled-not-next q x t lower plain is (inl old))

pub clear-moved : (q : Query) (lower upper : List ℕ) → IsClear q → IsClear (moved q lower upper)
clear-moved q lower upper clear x plain h t is =
    not-marker q lower upper x t plain is (clear x plain (asked-before q lower upper x plain h).0 t is)

-- what a moved query shows is what the query shows in the range
pub moved-shown : (q : Query) (lower upper : List ℕ) (row : Row) (e : Entry) → IsClear q → IsPlain row.name → IsShown (moved q lower upper) row e
    → IsShown q row e × (is_between lower upper row.name ≡ true)
moved-shown q lower upper row e clear plain s =
    let asked = asked-before q lower upper row.name plain s.asked in
    (record { live = s.live; asked = asked.0; how = by asked.0 s.how }, asked.1)
  where
    by : is_asked q row.name ≡ true → IsWhole (moved q lower upper) row e ⊎ IsRolled (moved q lower upper) row e → IsWhole q row e ⊎ IsRolled q row e
    by a (inl w) = inl w
    by a (inr r) = inr (r.0, r.1, clear row.name plain a r.0 r.1, r.3)

pub shown-moved : (q : Query) (lower upper : List ℕ) (row : Row) (e : Entry) → IsPlain row.name → IsShown q row e → is_between lower upper row.name ≡ true
    → IsShown (moved q lower upper) row e
shown-moved q lower upper row e plain s between =
    record {
      live = s.live;
      asked = asked-moved q lower upper row.name plain ∙ ands (is_asked q row.name) (is_between lower upper row.name) s.asked between;
      how = by s.how;
    }
  where
    by : IsWhole q row e ⊎ IsRolled q row e → IsWhole (moved q lower upper) row e ⊎ IsRolled (moved q lower upper) row e
    by (inl w) = inl w
    by (inr r) = inr (r.0, r.1, not-marker q lower upper row.name r.0 plain r.1 r.2, r.3)

-- ---- the two bounds that a marker is

-- a query whose marker is this
abbrev pub from : Query → List ℕ → Query
from q m = record q { marker = m }

-- whether a name is on the right side of this marker
abbrev pub is_onward : Bool → List ℕ → List ℕ → Bool
is_onward back m x = cond back (under m x) (over m x)

-- what else is asked for
abbrev is_else : Query → List ℕ → Bool
is_else q x = cond q.reverse (is_above q.end_marker x) (is_below q.end_marker x) && starts_with nat_eq x q.prefix

asked-is : (q : Query) (x : List ℕ) → is_asked q x ≡ (is_onward q.reverse q.marker x && is_else q x)
asked-is q x = by q.reverse
  where
    group : (a b c : Bool) → ((a && b) && c) ≡ (a && (b && c))
    group true b c = refl
    group false b c = refl

    by : (b : Bool)
        → (cond b (is_below q.marker x && is_above q.end_marker x) (is_above q.marker x && is_below q.end_marker x) && starts_with nat_eq x q.prefix)
        ≡ (cond b (under q.marker x) (over q.marker x) && (cond b (is_above q.end_marker x) (is_below q.end_marker x) && starts_with nat_eq x q.prefix))
    by true =
        ap (λ (t : Bool). (t && is_above q.end_marker x) && starts_with nat_eq x q.prefix) (below-is q.marker x)
        ∙ group (under q.marker x) (is_above q.end_marker x) (starts_with nat_eq x q.prefix)
    by false =
        ap (λ (t : Bool). (t && is_below q.end_marker x) && starts_with nat_eq x q.prefix) (above-is q.marker x)
        ∙ group (over q.marker x) (is_below q.end_marker x) (starts_with nat_eq x q.prefix)

-- a name that is asked for is on the right side of the marker
pub asked-onward : (q : Query) (x : List ℕ) → is_asked q x ≡ true → is_onward q.reverse q.marker x ≡ true
asked-onward q x h = (both (is_onward q.reverse q.marker x) (is_else q x) (sym (asked-is q x) ∙ h)).0

-- and it is asked for from any other marker too that it is on the right side of
pub asked-from : (q : Query) (m x : List ℕ) → is_asked q x ≡ true → is_onward q.reverse m x ≡ true → is_asked (from q m) x ≡ true
asked-from q m x h onward =
    asked-is (from q m) x ∙ ands (is_onward q.reverse m x) (is_else q x) onward
    (both (is_onward q.reverse q.marker x) (is_else q x) (sym (asked-is q x) ∙ h)).1

-- what is shown from another marker
pub shown-from : (q : Query) (m : List ℕ) (row : Row) (e : Entry) → IsShown q row e → is_onward q.reverse m row.name ≡ true
    → ((t : List ℕ) → rolled_of q row.name ≡ Some t → bytes_eq t m ≡ false) → IsShown (from q m) row e
shown-from q m row e s onward other =
    record { live = s.live; asked = asked-from q m row.name s.asked onward; how = by s.how }
  where
    by : IsWhole q row e ⊎ IsRolled q row e → IsWhole (from q m) row e ⊎ IsRolled (from q m) row e
    by (inl w) = inl w
    by (inr r) = inr (r.0, r.1, other r.0 r.1, r.3)

-- ---- texts and their ends

pub over-lt : (m x : List ℕ) → (m ≡ [] → ⊥) → over m x ≡ true → Lt m x
over-lt [] x some h = absurd (some refl)
over-lt (b ∷ bs) x some h = h

pub lt-over : (m x : List ℕ) → Lt m x → over m x ≡ true
lt-over [] x h = refl
lt-over (b ∷ bs) x h = h

under-lt : (m x : List ℕ) → (m ≡ [] → ⊥) → under m x ≡ true → Lt x m
under-lt [] x some h = absurd (some refl)
under-lt (b ∷ bs) x some h = h

lt-under : (m x : List ℕ) → Lt x m → under m x ≡ true
lt-under [] x h = refl
lt-under (b ∷ bs) x h = h

pub rolled-is-some : (q : Query) (x t : List ℕ) → rolled_of q x ≡ Some t → t ≡ [] → ⊥
rolled-is-some q x t is none = rolled-some q.delimiter (length q.prefix) x (is ∙ ap (λ (u : List ℕ). Some u) none)

-- what comes before a text comes before what begins with it; and what begins with a text that comes before another comes before that or begins with ..
pub lt-begins : (a x s : List ℕ) → Begins x s → Lt a s → Lt a x
lt-begins a x s b less = by (lt-total a x)
  where
    by : Lt a x ⊎ (a ≡ x) ⊎ Lt x a → Lt a x
    by (inl p) = p
    by (inr (inl same)) = let never = begins-not-before x s b in let other : Lt x s = subst (λ (t : List ℕ). Lt t s) same less in cc
    by (inr (inr p)) = let never = begins-not-before x s b in let other : Lt x s = lt-trans x a s p less in cc

pub front-lt : (x s y : List ℕ) → Begins x s → Lt x y → Lt s y
front-lt x s y b less = by (lt-total s y)
  where
    by : Lt s y ⊎ (s ≡ y) ⊎ Lt y s → Lt s y
    by (inl p) = p
    by (inr (inl same)) = let never = begins-not-before x s b in let other : Lt x s = subst (λ (t : List ℕ). Lt x t) (sym same) less in cc
    by (inr (inr p)) = let never = begins-not-before x s b in let other : Lt x s = lt-trans x y s less p in cc

-- a name that begins with what another is rolled up to is rolled up to it too
pub rolled-alike : (q : Query) (a b s : List ℕ) → rolled_of q a ≡ Some s → Begins b s → rolled_of q b ≡ Some s
rolled-alike q a b s is begins = ap (rolled_of q) begins.1 ∙ rolled-again q.delimiter (length q.prefix) a s begins.0 is

-- ---- what is behind all that is rolled up to a text

-- a name behind them is on the right side of that text, and doesn't begin with it
pub behind-apart : (back : Bool) (s x : List ℕ) → (s ≡ [] → ⊥) → IsPlain x → is_onward back (behind back s) x ≡ true → Begins x s → ⊥
behind-apart true s x some plain h b = let never = begins-not-before x s b in let less = under-lt s x some h in cc
behind-apart false s x some plain h b = lt-asym x (s ++ 255 ∷ []) (begins-before-end x s plain b) (over-lt (s ++ 255 ∷ []) x (not-nil s) h)
  where
    not-nil : (s : List ℕ) → s ++ 255 ∷ [] ≡ [] → ⊥
    not-nil [] h = cc
    not-nil (b ∷ bs) h = cc

-- a name that comes after one which begins with the text is behind them, or begins with the text too
pub behind-or : (back : Bool) (s a b : List ℕ) → Begins a s → is_ahead back a b ≡ true → is_onward back (behind back s) b ≡ true ⊎ Begins b s
behind-or back s a b begins less = by back less (begins-or b s)
  where
    by : (back : Bool) → is_ahead back a b ≡ true → Begins b s ⊎ (Lt b s ⊎ ((z : List ℕ) → Lt (s ++ z) b))
        → is_onward back (behind back s) b ≡ true ⊎ Begins b s
    by back less (inl c) = inr c
    by true less (inr (inl p)) = inl (lt-under s b p)
    by true less (inr (inr more)) = absurd (lt-asym b a less (subst (λ (t : List ℕ). Lt t b) (sym begins.1) (more begins.0)))
    by false less (inr (inl p)) = let never = begins-not-before a s begins in let other : Lt a s = lt-trans a b s less p in cc
    by false less (inr (inr more)) = inl (lt-over (s ++ 255 ∷ []) b (more (255 ∷ [])))

-- it is no text that a plain name is rolled up to, where it is behind that
pub behind-other : (q : Query) (s x t : List ℕ) → (s ≡ [] → ⊥) → IsPlain x → is_onward q.reverse (behind q.reverse s) x ≡ true → rolled_of q x ≡ Some t
    → bytes_eq t (behind q.reverse s) ≡ false
behind-other q s x t some plain h is = apart t (behind q.reverse s) (by q.reverse h)
  where
    begins : Begins x t
    begins = rolled-begins q.delimiter (length q.prefix) x t is

    by : (back : Bool) → is_onward back (behind back s) x ≡ true → t ≡ behind back s → ⊥
    by true h same = behind-apart true s x some plain h (subst (Begins x) same begins)
    by false h same = plain-end s (subst IsPlain same (plain-rolled q x t plain is))

-- a name behind them is behind the marker, where a name that begins with the text is
pub behind-marker : (q : Query) (s a x : List ℕ) → (s ≡ [] → ⊥) → IsPlain a → Begins a s → is_onward q.reverse q.marker a ≡ true
    → is_onward q.reverse (behind q.reverse s) x ≡ true → is_onward q.reverse q.marker x ≡ true
behind-marker q s a x some plain begins asked h = by q.reverse asked h
  where
    not-nil : (s : List ℕ) → s ++ 255 ∷ [] ≡ [] → ⊥
    not-nil [] h = cc
    not-nil (b ∷ bs) h = cc

    forth : (m : List ℕ) → over m a ≡ true → Lt (s ++ 255 ∷ []) x → over m x ≡ true
    forth [] p less = refl
    forth (b ∷ bs) p less = lt-trans (b ∷ bs) a x p (lt-trans a (s ++ 255 ∷ []) x (begins-before-end a s plain begins) less)

    backwards : (m : List ℕ) → under m a ≡ true → Lt x s → under m x ≡ true
    backwards [] p less = refl
    backwards (b ∷ bs) p less = lt-trans x a (b ∷ bs) (lt-begins x a s begins less) p

    by : (back : Bool) → is_onward back q.marker a ≡ true → is_onward back (behind back s) x ≡ true → is_onward back q.marker x ≡ true
    by true p h = backwards q.marker p (under-lt s x some h)
    by false p h = forth q.marker p (over-lt (s ++ 255 ∷ []) x (not-nil s) h)

-- ---- the query as it begins

pub clear-of-other : (q : Query) → leaves_out q ≡ false → IsClear q
clear-of-other q other x plain asked t is = apart t q.marker (λ same. by q.reverse refl same)
  where
    begins : Begins x t
    begins = rolled-begins q.delimiter (length q.prefix) x t is

    again : rolled_of q t ≡ Some t
    again = ap (rolled_of q) (sym (append-nil t)) ∙ rolled-again q.delimiter (length q.prefix) x t [] is

    by : (back : Bool) → q.reverse ≡ back → t ≡ q.marker → ⊥
    by true rev same =
        let onward : is_onward q.reverse q.marker x ≡ true = asked-onward q x asked in
        let here : under q.marker x ≡ true = subst (λ (b : Bool). is_onward b q.marker x ≡ true) rev onward in
        let less : Lt x t = subst (λ (m : List ℕ). Lt x m) (sym same) (under-lt q.marker x (λ none. rolled-is-some q x t is (same ∙ none)) here) in
        let never = begins-not-before x t begins in
        cc
    by false rev same =
        let out : leaves_out q ≡ true = rw (rev, sym same) (rw again (name_itself t)) in
        cc
