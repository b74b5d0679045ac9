-- What is pushed to make a reply's text.
use Rattle.std.proofs.Common.{◌≡◌, ℕ, Bool, true, false, [], length, ap, ◌<◌, ◌≤◌, ◌⊎◌, inl, inr, List, ◌++◌, Option, None, Some, refl, ◌∙◌, arith}
use Rattle.std.proofs.Common.{append_assoc, lit≤}
use Rattle.std.proofs.Common.{lit<, length-append}
use Rattle.std.specs.Prelude.{if◌then◌else◌, ◌==◌, codes, decimal, unwrap_or, MatchBool}
use Rattle.std.proofs.lemmas.Fmt.{length-decimal-le}
use Rattle.std.proofs.lemmas.Bool.{cond-true, cond-false, ne_eqb}
use Rattle.httparse.specs.Ascii.{crlf_bytes}
use Rattle.sw_message.specs.Reply.{CarriesItsLength, FitsItsRoom, has_no_body, body_length, carried, length_line, body_bytes, reply_text}
use Rattle.sw_message.specs.declared.response.ReplyBody.{ReplyBody}
use Rattle.sw_message.specs.declared.response.ReplyBody.TheVariants.{Whole, LeftOut}
use Rattle.http.specs.StatusCode.{reason_phrase}

-- five texts, one behind the other
pub five_pushed : (old one two three four five a b c d e : List ℕ) → one ≡ old ++ a → two ≡ one ++ b → three ≡ two ++ c → four ≡ three ++ d → five ≡ four ++ e
    → five ≡ old ++ (a ++ (b ++ (c ++ (d ++ e))))
five_pushed old one two three four five a b c d e p q r s t = simp (t, s, r, q, p, append_assoc)

skip : (n k : ℕ) (phrase : List ℕ) (rest : Option (List ℕ)) → (n < 100) ⊎ (999 < n) → 100 ≤ k → k ≤ 999 → rest ≡ None →
    (if n == k then Some phrase else rest) ≡ None
skip n k phrase rest out low high none =
    let other : n ≡ k → ⊥ = λ e. elim out [ inl below ↦ omega arith | inr above ↦ omega arith ] in
    cond-false _ _ _ (ne_eqb n k other) ∙ none

-- only numbers of three digits have a reason
pub no_reason : (n : ℕ) → (n < 100) ⊎ (999 < n) → reason_phrase n ≡ None
no_reason n out =
    (skip n 100 _ _ out (lit≤ tt) (lit≤ tt) (skip n 101 _ _ out (lit≤ tt) (lit≤ tt) (skip n 102 _ _ out (lit≤ tt) (lit≤ tt)
    (skip n 103 _ _ out (lit≤ tt) (lit≤ tt) (skip n 200 _ _ out (lit≤ tt) (lit≤ tt) (skip n 201 _ _ out (lit≤ tt) (lit≤ tt)
    (skip n 202 _ _ out (lit≤ tt) (lit≤ tt) (skip n 203 _ _ out (lit≤ tt) (lit≤ tt) (skip n 204 _ _ out (lit≤ tt) (lit≤ tt)
    (skip n 205 _ _ out (lit≤ tt) (lit≤ tt) (skip n 206 _ _ out (lit≤ tt) (lit≤ tt) (skip n 207 _ _ out (lit≤ tt) (lit≤ tt)
    (skip n 208 _ _ out (lit≤ tt) (lit≤ tt) (skip n 226 _ _ out (lit≤ tt) (lit≤ tt) (skip n 300 _ _ out (lit≤ tt) (lit≤ tt)
    (skip n 301 _ _ out (lit≤ tt) (lit≤ tt) (skip n 302 _ _ out (lit≤ tt) (lit≤ tt) (skip n 303 _ _ out (lit≤ tt) (lit≤ tt)
    (skip n 304 _ _ out (lit≤ tt) (lit≤ tt) (skip n 305 _ _ out (lit≤ tt) (lit≤ tt) (skip n 307 _ _ out (lit≤ tt) (lit≤ tt)
    (skip n 308 _ _ out (lit≤ tt) (lit≤ tt) (skip n 400 _ _ out (lit≤ tt) (lit≤ tt) (skip n 401 _ _ out (lit≤ tt) (lit≤ tt)
    (skip n 402 _ _ out (lit≤ tt) (lit≤ tt) (skip n 403 _ _ out (lit≤ tt) (lit≤ tt) (skip n 404 _ _ out (lit≤ tt) (lit≤ tt)
    (skip n 405 _ _ out (lit≤ tt) (lit≤ tt) (skip n 406 _ _ out (lit≤ tt) (lit≤ tt) (skip n 407 _ _ out (lit≤ tt) (lit≤ tt)
    (skip n 408 _ _ out (lit≤ tt) (lit≤ tt) (skip n 409 _ _ out (lit≤ tt) (lit≤ tt) (skip n 410 _ _ out (lit≤ tt) (lit≤ tt)
    (skip n 411 _ _ out (lit≤ tt) (lit≤ tt) (skip n 412 _ _ out (lit≤ tt) (lit≤ tt) (skip n 413 _ _ out (lit≤ tt) (lit≤ tt)
    (skip n 414 _ _ out (lit≤ tt) (lit≤ tt) (skip n 415 _ _ out (lit≤ tt) (lit≤ tt) (skip n 416 _ _ out (lit≤ tt) (lit≤ tt)
    (skip n 417 _ _ out (lit≤ tt) (lit≤ tt) (skip n 418 _ _ out (lit≤ tt) (lit≤ tt) (skip n 421 _ _ out (lit≤ tt) (lit≤ tt)
    (skip n 422 _ _ out (lit≤ tt) (lit≤ tt) (skip n 423 _ _ out (lit≤ tt) (lit≤ tt) (skip n 424 _ _ out (lit≤ tt) (lit≤ tt)
    (skip n 425 _ _ out (lit≤ tt) (lit≤ tt) (skip n 426 _ _ out (lit≤ tt) (lit≤ tt) (skip n 428 _ _ out (lit≤ tt) (lit≤ tt)
    (skip n 429 _ _ out (lit≤ tt) (lit≤ tt) (skip n 431 _ _ out (lit≤ tt) (lit≤ tt) (skip n 451 _ _ out (lit≤ tt) (lit≤ tt)
    (skip n 500 _ _ out (lit≤ tt) (lit≤ tt) (skip n 501 _ _ out (lit≤ tt) (lit≤ tt) (skip n 502 _ _ out (lit≤ tt) (lit≤ tt)
    (skip n 503 _ _ out (lit≤ tt) (lit≤ tt) (skip n 504 _ _ out (lit≤ tt) (lit≤ tt) (skip n 505 _ _ out (lit≤ tt) (lit≤ tt)
    (skip n 506 _ _ out (lit≤ tt) (lit≤ tt) (skip n 507 _ _ out (lit≤ tt) (lit≤ tt) (skip n 508 _ _ out (lit≤ tt) (lit≤ tt)
    (skip n 510 _ _ out (lit≤ tt) (lit≤ tt) (skip n 511 _ _ out (lit≤ tt) (lit≤ tt) refl))))))))))))))))))))))))))))))))))))))))))))))))))))))))))))))

-- ---- lengths

pub carries_its_length : CarriesItsLength
carries_its_length r = go (has_no_body r.status) refl
  where
    bytes_of : (body : ReplyBody) → (carried body ≡ []) ⊎ (length (carried body) ≡ body_length body)
    bytes_of (Whole bytes) = inr refl
    bytes_of (LeftOut count) = inl refl

    go : (none : Bool) → has_no_body r.status ≡ none → MatchBool none
        ((length_line r ≡ []) × (body_bytes r ≡ []))
        ((length_line r ≡ codes "Content-Length: " ++ (decimal (body_length r.body) ++ crlf_bytes)) ×
        ((body_bytes r ≡ []) ⊎ (length (body_bytes r) ≡ body_length r.body)))
    go true none = (cond-true _ _ _ none, cond-true _ _ _ none)
    go false none =
        let bytes : body_bytes r ≡ carried r.body = cond-false _ _ _ none in
        (cond-false _ _ _ none, elim (bytes_of r.body) [ inl nothing ↦ inl (bytes ∙ nothing) | inr size ↦ inr (ap length bytes ∙ size) ])

-- ---- room

-- one reason more
one_reason : (phrase : List ℕ) (rest : Option (List ℕ)) (b : Bool) → length phrase ≤ 40 → length (unwrap_or rest []) ≤ 40
    → length (unwrap_or (if b then Some phrase else rest) []) ≤ 40
one_reason phrase rest true short others = short
one_reason phrase rest false short others = others

-- no reason is long
pub short_reason : (n : ℕ) → length (unwrap_or (reason_phrase n) []) ≤ 40
short_reason n =
    (one_reason _ _ (n == 100) (lit≤ tt) (one_reason _ _ (n == 101) (lit≤ tt) (one_reason _ _ (n == 102) (lit≤ tt)
    (one_reason _ _ (n == 103) (lit≤ tt) (one_reason _ _ (n == 200) (lit≤ tt) (one_reason _ _ (n == 201) (lit≤ tt)
    (one_reason _ _ (n == 202) (lit≤ tt) (one_reason _ _ (n == 203) (lit≤ tt) (one_reason _ _ (n == 204) (lit≤ tt)
    (one_reason _ _ (n == 205) (lit≤ tt) (one_reason _ _ (n == 206) (lit≤ tt) (one_reason _ _ (n == 207) (lit≤ tt)
    (one_reason _ _ (n == 208) (lit≤ tt) (one_reason _ _ (n == 226) (lit≤ tt) (one_reason _ _ (n == 300) (lit≤ tt)
    (one_reason _ _ (n == 301) (lit≤ tt) (one_reason _ _ (n == 302) (lit≤ tt) (one_reason _ _ (n == 303) (lit≤ tt)
    (one_reason _ _ (n == 304) (lit≤ tt) (one_reason _ _ (n == 305) (lit≤ tt) (one_reason _ _ (n == 307) (lit≤ tt)
    (one_reason _ _ (n == 308) (lit≤ tt) (one_reason _ _ (n == 400) (lit≤ tt) (one_reason _ _ (n == 401) (lit≤ tt)
    (one_reason _ _ (n == 402) (lit≤ tt) (one_reason _ _ (n == 403) (lit≤ tt) (one_reason _ _ (n == 404) (lit≤ tt)
    (one_reason _ _ (n == 405) (lit≤ tt) (one_reason _ _ (n == 406) (lit≤ tt) (one_reason _ _ (n == 407) (lit≤ tt)
    (one_reason _ _ (n == 408) (lit≤ tt) (one_reason _ _ (n == 409) (lit≤ tt) (one_reason _ _ (n == 410) (lit≤ tt)
    (one_reason _ _ (n == 411) (lit≤ tt) (one_reason _ _ (n == 412) (lit≤ tt) (one_reason _ _ (n == 413) (lit≤ tt)
    (one_reason _ _ (n == 414) (lit≤ tt) (one_reason _ _ (n == 415) (lit≤ tt) (one_reason _ _ (n == 416) (lit≤ tt)
    (one_reason _ _ (n == 417) (lit≤ tt) (one_reason _ _ (n == 418) (lit≤ tt) (one_reason _ _ (n == 421) (lit≤ tt)
    (one_reason _ _ (n == 422) (lit≤ tt) (one_reason _ _ (n == 423) (lit≤ tt) (one_reason _ _ (n == 424) (lit≤ tt)
    (one_reason _ _ (n == 425) (lit≤ tt) (one_reason _ _ (n == 426) (lit≤ tt) (one_reason _ _ (n == 428) (lit≤ tt)
    (one_reason _ _ (n == 429) (lit≤ tt) (one_reason _ _ (n == 431) (lit≤ tt) (one_reason _ _ (n == 451) (lit≤ tt)
    (one_reason _ _ (n == 500) (lit≤ tt) (one_reason _ _ (n == 501) (lit≤ tt) (one_reason _ _ (n == 502) (lit≤ tt)
    (one_reason _ _ (n == 503) (lit≤ tt) (one_reason _ _ (n == 504) (lit≤ tt) (one_reason _ _ (n == 505) (lit≤ tt)
    (one_reason _ _ (n == 506) (lit≤ tt) (one_reason _ _ (n == 507) (lit≤ tt) (one_reason _ _ (n == 508) (lit≤ tt)
    (one_reason _ _ (n == 510) (lit≤ tt) (one_reason _ _ (n == 511) (lit≤ tt) (lit≤ tt)))))))))))))))))))))))))))))))))))))))))))))))))))))))))))))))

no_longer : (none : Bool) (text : List ℕ) (k : ℕ) → length text ≤ k → length (if none then [] else text) ≤ k
no_longer true text k fits = omega (arith, fits)
no_longer false text k fits = fits

-- the text of a reply fits the room that is made for it
pub fits_room : FitsItsRoom
unfolding reply_text
fits_room r status size =
    let number = length-decimal-le 20 r.status (lit< tt) (omega (arith, status)) status in
    let count = length-decimal-le 20 (body_length r.body) (lit< tt) (omega (arith, size)) size in
    let reason = short_reason r.status in
    let line : length (length_line r) ≤ 38 = no_longer (has_no_body r.status) _ 38 (grind (arith, length-append, count)) in
    let body : length (body_bytes r) ≤ length (carried r.body) = no_longer (has_no_body r.status) _ _ (omega arith) in
    grind (arith, length-append, number, reason, line, body)
