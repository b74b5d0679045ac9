-- A state that is at least another one is as late, and bears out what that one does.
use Rattle.std.proofs.Common.{◌≡◌, ℕ, ◌≤◌, ◌||◌, Bool, true, false, nat_lt, if◌then◌else◌, [], ◌∷◌, Option, None, Some, option_map, ◌⊎◌, inl, inr}
use Rattle.std.proofs.Common.{refl, sym, ◌∙◌, ap, subst, arith}
use Rattle.std.proofs.lemmas.Bool.Decides.{nat_tests}
use Rattle.sw_message.specs.declared.response.Response.{Response}
use Rattle.sw_state.proofs.JoinLaws.{at_least_transitive}
use Rattle.sw_state.proofs.StateLaws.{together-base, together-meta}
use Rattle.sw_state.specs.Bases.{base_time, higher, is_above}
use Rattle.sw_state.specs.Metas.{Meta, above_base, later}
use Rattle.sw_state.specs.States.{IsAtLeast, state_of}
use Rattle.sw_state.specs.declared.base.Base.{Base}
use Rattle.sw_state.specs.declared.state.State.{State}
use Rattle.sw_state.specs.declared.write.Write.{Write}
use Rattle.sw_timestamp.specs.declared.tag.Tag.{Tag}
use Rattle.sw_timestamp.specs.declared.tag.Tag.TheVariants as tags
use Rattle.sw_reply_laws.specs.Objects.{BearsOut, HasBaseSince, HasMetaSince, IsAsLate, IsSince}

-- what isn't below a number is at least that
pub not-below : (m n : ℕ) → nat_lt m n ≡ false → n ≤ m
not-below m n is = grind (arith, nat_tests)

pub neither : (p q : Bool) → (p || q) ≡ false → p ≡ false
neither true q is = cc
neither false q is = refl

-- ---- bases

higher-since : (o : Option Base) (b : Base) (time : ℕ) → time ≤ base_time b → IsSince (option_map base_time (higher o (Some b))) time
higher-since None b time since = since
higher-since (Some a) b time since = by (is_above b a) refl
  where
    by : (p : Bool) → is_above b a ≡ p → time ≤ base_time (if p then b else a)
    by true is = since
    by false is =
        let less = not-below (base_time a) (base_time b) (neither (nat_lt (base_time a) (base_time b)) _ is) in
        omega (arith, since, less)

base-in : (t s : State) → IsAtLeast t s → higher t.base s.base ≡ t.base
base-in t s least = sym (together-base t s) ∙ ap (λ (x : State). x.base) least

pub base-still : (t s : State) → IsAtLeast t s → (time : ℕ) → HasBaseSince s time → HasBaseSince t time
base-still t s least time since =
    subst (λ (o : Option Base). IsSince (option_map base_time o) time) (base-in t s least) (by s.base since)
  where
    by : (o : Option Base) → IsSince (option_map base_time o) time → IsSince (option_map base_time (higher t.base o)) time
    by None none = absurd none
    by (Some b) since = higher-since t.base b time since

-- ---- metadata

abbrev time_of : Option Meta → Option ℕ
time_of m = option_map (λ (x : Meta). x.0) m

later-since : (o : Option Meta) (m : Meta) (time : ℕ) → time ≤ m.0 → (n : Meta) × (later o (Some m) ≡ Some n) × (time ≤ n.0)
later-since None m time since = (m, refl, since)
later-since (Some x) m time since = by (nat_lt x.0 m.0) refl
  where
    by : (p : Bool) → nat_lt x.0 m.0 ≡ p → (n : Meta) × (Some (if p then m else x) ≡ Some n) × (time ≤ n.0)
    by true is = (m, refl, since)
    by false is = (x, refl, let less = not-below x.0 m.0 is in omega (arith, since, less))

cut-since : (b : Option Base) (n : Meta) (time : ℕ) → time ≤ n.0 → IsSince (option_map base_time b) time ⊎ IsSince (time_of (above_base b (Some n))) time
cut-since None n time since = inr since
cut-since (Some b) n time since = by (nat_lt (base_time b) n.0) refl
  where
    by : (p : Bool) → nat_lt (base_time b) n.0 ≡ p → (time ≤ base_time b) ⊎ IsSince (time_of (if p then Some n else None)) time
    by true is = inr since
    by false is = inl (let less = not-below (base_time b) n.0 is in omega (arith, since, less))

meta-in : (t s : State) → IsAtLeast t s → above_base (higher t.base s.base) (later t.meta s.meta) ≡ t.meta
meta-in t s least = sym (together-meta t s) ∙ ap (λ (x : State). x.meta) least

pub meta-still : (t s : State) → IsAtLeast t s → (time : ℕ) → HasMetaSince s time → HasBaseSince t time ⊎ HasMetaSince t time
meta-still t s least time since = by s.meta refl since
  where
    over : (n : Meta) → later t.meta s.meta ≡ Some n → time ≤ n.0 → HasBaseSince t time ⊎ HasMetaSince t time
    over n is much = in_state (cut-since (higher t.base s.base) n time much)
      where
        in_state : IsSince (option_map base_time (higher t.base s.base)) time ⊎ IsSince (time_of (above_base (higher t.base s.base) (Some n))) time
            → HasBaseSince t time ⊎ HasMetaSince t time
        in_state (inl base) = inl (subst (λ (o : Option Base). IsSince (option_map base_time o) time) (base-in t s least) base)
        in_state (inr meta) = inr (subst (λ (o : Option Meta). IsSince (time_of o) time)
            (ap (above_base (higher t.base s.base)) (sym is) ∙ meta-in t s least) meta)

    by : (o : Option Meta) → s.meta ≡ o → IsSince (time_of o) time → HasBaseSince t time ⊎ HasMetaSince t time
    by None is none = absurd none
    by (Some m) is much =
        let l = later-since t.meta m time much in
        over l.0 (ap (later t.meta) is ∙ l.1) l.2

-- ---- all of it

pub late-still : (t s : State) → IsAtLeast t s → (tag : Tag) (time : ℕ) → IsAsLate s tag time → IsAsLate t tag time
late-still t s least tags.Put time late = base-still t s least time late
late-still t s least tags.Del time late = base-still t s least time late
late-still t s least tags.Meta time (inl base) = inl (base-still t s least time base)
late-still t s least tags.Meta time (inr meta) = meta-still t s least time meta

pub bears-still : (t s : State) → IsAtLeast t s → (response : Response) (w : Write) → BearsOut response w s → BearsOut response w t
bears-still t s least response w bears = record {
  made = λ is. at_least_transitive t s (state_of (w ∷ [])) least (bears.made is);
  late = λ is. let l = bears.late is in (l.0, l.1, l.2, late-still t s least _ l.0 l.3);
}
