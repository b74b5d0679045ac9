-- Times that a request doesn't give.
use Rattle.std.proofs.Common.{◌≡◌, ℕ, List, Some, subst}
use Rattle.std.specs.Prelude.{codes}
use Rattle.sw_timestamp.specs.TimeText.{IsTimeText}
use Rattle.sw_message.specs.Fields.{field_value_of}
use Rattle.sw_message.specs.declared.fields.Field.{Field}
use Rattle.sw_fields.specs.Fields.{IsTimeOf}

-- a value that is no time gives none
pub no_time : (fields : List Field) (text : List ℕ) → field_value_of (codes "x-timestamp") fields ≡ Some text
    → ((time : ℕ) → ¬ (IsTimeText text time)) → (time : ℕ) → ¬ (IsTimeOf fields time)
no_time fields text given refused time is =
    let same : is.0 ≡ text = cc (is.1, given) in refused time (subst (λ (t : List ℕ). IsTimeText t time) same is.2)
