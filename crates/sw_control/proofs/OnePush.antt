-- Names, a number and fields ask for one push of a partition, names and fields for one push of rows, and a name and fields for one update.
use Rattle.std.proofs.Common.{◌≡◌, ℕ, ◌≤◌, ◌<◌, ◌^◌, List, Option, None, Some, codes, refl, sym, ap, ◌∙◌, arith}
use Rattle.std.proofs.Math.Pow.{pow_mono}
use Rattle.std.proofs.lemmas.Fmt.{decimal_injective}
use Rattle.sw_hashpath.specs.declared.place.Place.{Place}
use Rattle.sw_lossy.specs.declared.acts.Acts.{Acts}
use Rattle.sw_message.specs.declared.fields.Field.{Field}
use Rattle.sw_object_server.specs.Places.{IsDevice, IsPartition}
use Rattle.sw_ring.proofs.Repeats.{one_place}
use Rattle.sw_ring.specs.declared.ring.Ring.{Ring}
use Rattle.sw_control.specs.Passes.{AreActs, IsContainer, IsMessage, IsNumber, IsReplication, IsRowPush, IsUpdate}
use Rattle.sw_control.specs.declared.replication.Replication.{Replication}
use Rattle.sw_control.specs.declared.row_push.RowPush.{RowPush}
use Rattle.sw_control.specs.declared.update.Update.{Update}

pub one_device : (ring : Ring) (name other : List ℕ) (i j : ℕ) → name ≡ other → IsDevice ring name (Some i) → IsDevice ring other (Some j) → i ≡ j
one_device ring name other i j same p q = one_place name ring.devices i j ring.distinct_names p (rw (← same) at q)

pub one_number : (text other : List ℕ) (m n : ℕ) → text ≡ other → IsNumber text m → IsNumber other n → m ≡ n
one_number text other m n same p q = rw same at p.value ∙ sym q.value

one_message : (fields : List Field) (name : List ℕ) (a b : Option ℕ) → IsMessage fields name a → IsMessage fields name b → a ≡ b
one_message fields name None None p q = refl
one_message fields name None (Some n) p (other, known, q) = cc
one_message fields name (Some m) None (text, here, p) q = cc
one_message fields name (Some m) (Some n) (text, here, p) (other, known, q) =
    let same : text ≡ other = cc in
    ap Some (one_number text other m n same p q)

same_acts : (a b : Acts) → a.lose ≡ b.lose → a.lose_reply ≡ b.lose_reply → a.repeat ≡ b.repeat → a ≡ b
same_acts a b lose lose_reply repeat =
    let with_lose : Option ℕ → Acts = λ x. record a { lose = x } in
    let with_reply : Option ℕ → Acts = λ x. record b { lose_reply = x; repeat = a.repeat } in
    let with_repeat : Option ℕ → Acts = λ x. record b { repeat = x } in
    ap with_lose lose ∙ (ap with_reply lose_reply ∙ ap with_repeat repeat)

pub one_acts : (fields : List Field) (a b : Acts) → AreActs fields a → AreActs fields b → a ≡ b
one_acts fields a b p q =
    let lose = one_message fields (codes "x-swc-lose") a.lose b.lose p.lose q.lose in
    let lose_reply = one_message fields (codes "x-swc-lose-reply") a.lose_reply b.lose_reply p.lose_reply q.lose_reply in
    let repeat = one_message fields (codes "x-swc-repeat") a.repeat b.repeat p.repeat q.repeat in
    same_acts a b lose lose_reply repeat

-- a number below 2 to a ring's power is small
few : (n power : ℕ) → power ≤ 16 → n < 2 ^ power → n < 2 ^ 64
few n power small below = omega (arith, pow_mono {i = power} {j = 16} small)

one_partition : (ring : Ring) (text other : List ℕ) (i j : ℕ) → text ≡ other → IsPartition ring text (Some i) → IsPartition ring other (Some j) → i ≡ j
one_partition ring text other i j same p q =
    decimal_injective i j (few i ring.power ring.greatest_power p.0) (few j ring.power ring.greatest_power q.0) (sym p.1 ∙ (same ∙ q.1))

same_replications : (a b : Replication) → a.from ≡ b.from → a.to ≡ b.to → a.part ≡ b.part → a.acts ≡ b.acts → a ≡ b
same_replications a b from to part acts =
    let with_from : ℕ → Replication = λ x. record a { from = x } in
    let with_to : ℕ → Replication = λ x. record a { from = b.from; to = x } in
    let with_part : ℕ → Replication = λ x. record b { part = x; acts = a.acts } in
    let with_acts : Acts → Replication = λ x. record b { acts = x } in
    ap with_from from ∙ (ap with_to to ∙ (ap with_part part ∙ ap with_acts acts))

pub one_replication : (ring : Ring) (from to part from' to' part' : List ℕ) (fields : List Field) (a b : Replication)
    → from ≡ from' → to ≡ to' → part ≡ part' → IsReplication ring from to part fields a → IsReplication ring from' to' part' fields b → a ≡ b
one_replication ring from to part from' to' part' fields a b same_from same_to same_part p q =
    let sender = one_device ring from from' a.from b.from same_from p.devices.sender q.devices.sender in
    let receiver = one_device ring to to' a.to b.to same_to p.devices.receiver q.devices.receiver in
    let partition = one_partition ring part part' a.part b.part same_part p.partition q.partition in
    let acts = one_acts fields a.acts b.acts p.acts q.acts in
    same_replications a b sender receiver partition acts

same_places : (a b : Place) → a.account ≡ b.account → a.container ≡ b.container → a.hash ≡ b.hash → a ≡ b
same_places a b account container hash =
    let with_account : List ℕ → Place = λ x. record a { account = x } in
    let with_container : List ℕ → Place = λ x. record a { account = b.account; container = x } in
    let with_hash : List ℕ → Place = λ x. record b { hash = x } in
    ap with_account account ∙ (ap with_container container ∙ ap with_hash hash)

pub one_container : (ring : Ring) (account container account' container' : List ℕ) (a b : Place) → account ≡ account' → container ≡ container'
    → IsContainer ring account container (Some a) → IsContainer ring account' container' (Some b) → a ≡ b
one_container ring account container account' container' a b same_account same_container p q =
    let accounts : a.account ≡ b.account = p.0 ∙ (same_account ∙ sym q.0) in
    let containers : a.container ≡ b.container = p.1 ∙ (same_container ∙ sym q.1) in
    let here = p.2.0 in
    let known = q.2.0 in
    let hashes : a.hash ≡ b.hash = cc in
    same_places a b accounts containers hashes

same_row_pushes : (a b : RowPush) → a.from ≡ b.from → a.to ≡ b.to → a.place ≡ b.place → a.acts ≡ b.acts → a ≡ b
same_row_pushes a b from to place acts =
    let with_from : ℕ → RowPush = λ x. record a { from = x } in
    let with_to : ℕ → RowPush = λ x. record a { from = b.from; to = x } in
    let with_place : Place → RowPush = λ x. record b { place = x; acts = a.acts } in
    let with_acts : Acts → RowPush = λ x. record b { acts = x } in
    ap with_from from ∙ (ap with_to to ∙ (ap with_place place ∙ ap with_acts acts))

pub one_row_push : (ring : Ring) (from to account container from' to' account' container' : List ℕ) (fields : List Field) (a b : RowPush)
    → from ≡ from' → to ≡ to' → account ≡ account' → container ≡ container'
    → IsRowPush ring from to account container fields a → IsRowPush ring from' to' account' container' fields b → a ≡ b
one_row_push ring from to account container from' to' account' container' fields a b same_from same_to same_account same_container p q =
    let sender = one_device ring from from' a.from b.from same_from p.devices.sender q.devices.sender in
    let receiver = one_device ring to to' a.to b.to same_to p.devices.receiver q.devices.receiver in
    let place = one_container ring account container account' container' a.place b.place same_account same_container p.place q.place in
    let acts = one_acts fields a.acts b.acts p.acts q.acts in
    same_row_pushes a b sender receiver place acts

same_updates : (a b : Update) → a.device ≡ b.device → a.acts ≡ b.acts → a ≡ b
same_updates a b device acts =
    let with_device : ℕ → Update = λ x. record a { device = x } in
    let with_acts : Acts → Update = λ x. record b { acts = x } in
    ap with_device device ∙ ap with_acts acts

pub one_update : (ring : Ring) (name other : List ℕ) (fields : List Field) (a b : Update)
    → name ≡ other → IsUpdate ring name fields a → IsUpdate ring other fields b → a ≡ b
one_update ring name other fields a b same p q =
    let device = one_device ring name other a.device b.device same p.device q.device in
    let acts = one_acts fields a.acts b.acts p.acts q.acts in
    same_updates a b device acts
