-- The record that a name names.
use Rattle.std.proofs.Common.{◌≡◌, ◌≢◌, ℕ, List, ◌∷◌, ◌++◌, refl, sym, ap, subst, ◌∙◌, Option, Some, None}
use Rattle.std.specs.Prelude.{IfSome, IsNone}
use Rattle.hex.specs.Hex.{encode_lower, lower_digits}
use Rattle.sw_timestamp.specs.TimeText.{text_of}
use Rattle.sw_metafile.specs.Reading.{◌>>=◌, cut, digest_of, time_of}
use Rattle.sw_metafile.proofs.HeadLines.{digest_again, digest_takes, table_avoids}
use Rattle.sw_metafile.proofs.Lines.{cut_again, cut_takes}
use Rattle.sw_metafile.proofs.Steps.{bind_some, some_is}
use Rattle.sw_metafile.proofs.Times.{time_of_again, time_of_takes}
use Rattle.sw_pending.specs.Laws.{NamedIs, NamesDiffer}
use Rattle.sw_pending.specs.Names.{IsKey, name_text, named}
use Rattle.sw_pending.specs.declared.key.RecordKey.{RecordKey}

pub named_takes : (text : List ℕ) (key : RecordKey) → named text ≡ Some key → IsKey key × (text ≡ name_text key)
unfolding named
named_takes text key is =
    let parts = bind_some (cut 45 text) (λ p. digest_of p.0 >>= λ h. time_of p.1 >>= λ t. Some (record { hash = h; time = t })) key is in
    let hash = bind_some (digest_of parts.0.0) (λ h. time_of parts.0.1 >>= λ t. Some (record { hash = h; time = t })) key parts.2 in
    let time = bind_some (time_of parts.0.1) (λ t. Some (record { hash = hash.0; time = t })) key hash.2 in
    let digits = digest_takes parts.0.0 hash.0 hash.1 in
    let rest = time_of_takes parts.0.1 time.0 time.1 in
    let whole : text ≡ encode_lower hash.0 ++ 45 ∷ text_of time.0 =
    cut_takes 45 text parts.0.0 parts.0.1 parts.1
    ∙ ap (λ (l : List ℕ). l ++ 45 ∷ parts.0.1) digits.0
    ∙ ap (λ (l : List ℕ). encode_lower hash.0 ++ 45 ∷ l) rest.0 in
    subst (λ (k : RecordKey). IsKey k × (text ≡ name_text k)) (some_is (record { hash = hash.0; time = time.0 }) key time.2)
    (record { hash = digits.1; time = rest.1 }, whole)

pub named_again : (key : RecordKey) → IsKey key → named (name_text key) ≡ Some key
unfolding named
named_again key is =
    rw (
      cut_again 45 (encode_lower key.hash) (text_of key.time) (table_avoids 45 lower_digits key.hash refl refl),
      digest_again key.hash is.hash,
      time_of_again key.time is.time,
    ) refl

pub named_is : NamedIs
named_is text key = (named_takes text key, λ is. ap named is.1 ∙ named_again key is.0)

pub names_differ : NamesDiffer
names_differ key other is also same = some_is key other (sym (named_again key is) ∙ ap named same ∙ named_again other also)

-- ---- what a reading says

pub read_key : (text : List ℕ) (read : Option RecordKey) → read ≡ named text → IfSome read IsKey
read_key text None is = tt
read_key text (Some key) is = (named_takes text key (sym is)).0

pub read_text : (text : List ℕ) (read : Option RecordKey) → read ≡ named text → IfSome read (λ key. text ≡ name_text key)
read_text text None is = tt
read_text text (Some key) is = (named_takes text key (sym is)).1

pub read_none : (text : List ℕ) (read : Option RecordKey) → read ≡ named text → IsNone read → (key : RecordKey) → IsKey key → text ≢ name_text key
read_none text None is none key own same = let again = is ∙ ap named same ∙ named_again key own in cc
read_none text (Some other) is none key own same = absurd cc
