-- What was told of a container has one reply: its listing has one text.
use Rattle.std.proofs.Common.{◌≡◌, ℕ, List, Bool, true, false, sym, ap, ◌∙◌, Ok, Err}
use Rattle.sw_listing.specs.declared.entry.Entry.{Entry}
use Rattle.sw_listing_json.proofs.Unique.{has-one-json}
use Rattle.sw_container_server.specs.Laws.{HasOneReply}
use Rattle.sw_container_server.specs.Replies.{IsListingText, shown_listing}

one-text : (json : Bool) (entries : List Entry) (a b : List ℕ) → IsListingText json entries a → IsListingText json entries b → a ≡ b
one-text true entries a b p q = has-one-json entries a b p q
one-text false entries a b p q = p ∙ sym q

pub has_one_reply : HasOneReply
has_one_reply json info (Ok entries) a b p q =
    p.2 ∙ (ap (λ (text : List ℕ). shown_listing json info text) (one-text json entries p.0 q.0 p.1 q.1) ∙ sym q.2)
has_one_reply json info (Err answer) a b p q = p ∙ sym q
