-- Times before an ending.
use Rattle.std.proofs.Common.{◌≡◌, ◌≢◌, ℕ, ◌-◌, ◌≤◌, ◌++◌, sym, ◌∙◌, ap, subst, true, false, List, take, drop, length, arith, length-append}
use Rattle.std.proofs.Common.{Option, Some, None}
use Rattle.std.proofs.lemmas.List.{take_at, drop_at, take-append-drop}
use Rattle.std.proofs.lemmas.Slice.Eq.{bytes_eq-Decides}
use Rattle.std.specs.Prelude.{IfSome}
use Rattle.std.specs.Str.{bytes_eq}
use Rattle.sw_timestamp.specs.TimeText.{IsTimeText, text_of}
use Rattle.sw_timestamp.specs.declared.timestamp.TheConstants.{GREATEST}
use Rattle.sw_timestamp.proofs.TextLaws.{normal_text_reads_back, reads_as_one_time}

front_length : (text front end : List ℕ) → text ≡ front ++ end → length front ≡ length text - length end
front_length text front end e = let l : length text ≡ length (front ++ end) = ap length e in omega (arith, l, length-append front end)

-- what stands before an ending
pub stem_is : (text front end : List ℕ) → text ≡ front ++ end → take (length text - length end) text ≡ front
stem_is text front end e = ap (λ t. take (length text - length end) t) e ∙ take_at front end (length text - length end) (front_length text front end e)

pub ending_is : (text front end : List ℕ) → text ≡ front ++ end → drop (length text - length end) text ≡ end
ending_is text front end e = ap (λ t. drop (length text - length end) t) e ∙ drop_at front end (length text - length end) (front_length text front end e)

pub ends_so : (text stem end : List ℕ) → bytes_eq (drop (length text - length end) text) end ≡ true → stem ≡ take (length text - length end) text →
    text ≡ stem ++ end
ends_so text stem end y s =
    let n = length text - length end in
    sym (take-append-drop n text) ∙ ap (λ l. take n text ++ l) ((bytes_eq-Decides (drop n text) end).0 y) ∙ ap (λ l. l ++ end) (sym s)

-- a text that doesn't end so is no name
pub other_ending : (text front end : List ℕ) → bytes_eq (drop (length text - length end) text) end ≡ false → text ≡ front ++ end → ⊥
other_ending text front end off e =
    let same = (bytes_eq-Decides (drop (length text - length end) text) end).1 (ending_is text front end e) in cc

-- nor is one whose stem is written as no time
pub no_stem : (text stem end : List ℕ) → stem ≡ take (length text - length end) text → ((time : ℕ) → time ≤ GREATEST → stem ≢ text_of time)
    → (time : ℕ) → time ≤ GREATEST → text ≡ text_of time ++ end → ⊥
no_stem text stem end s none time le e = none time le (s ∙ stem_is text (text_of time) end e)

-- what is written before an ending
pub before_ending : (found : Option ℕ) (text stem end : List ℕ) → text ≡ stem ++ end → IfSome found (λ time. stem ≡ text_of time)
    → IfSome found (λ time. text ≡ text_of time ++ end)
before_ending None text stem end is written = tt
before_ending (Some time) text stem end is written = is ∙ ap (λ l. l ++ end) written

-- a text that reads as no time is written as none, and so is one that is another spelling
pub no_time : (text : List ℕ) → ((t : ℕ) → ¬ IsTimeText text t) → (time : ℕ) → time ≤ GREATEST → text ≡ text_of time → ⊥
no_time text none time le is = none time (subst (λ (l : List ℕ). IsTimeText l time) (sym is) (normal_text_reads_back time le).0)

pub other_spelling : (text : List ℕ) (read : ℕ) → IsTimeText text read → ¬ (text ≡ text_of read) → (time : ℕ) → time ≤ GREATEST → text ≡ text_of time → ⊥
other_spelling text read reads other time le is =
    let again : IsTimeText text time = subst (λ (l : List ℕ). IsTimeText l time) (sym is) (normal_text_reads_back time le).0 in
    other (is ∙ ap text_of (reads_as_one_time text time read again reads))
