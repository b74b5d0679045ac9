-- Names, a number and fields ask for one creation of shards, names and fields for one cleaving, and names for one read of ranges.
use Rattle.std.proofs.Common.{◌≡◌, ℕ, List, sym, ap, ◌∙◌, subst}
use Rattle.std.proofs.lemmas.Option.{same_Some}
use Rattle.sw_fields.specs.Fields.{IsTimeOf}
use Rattle.sw_hashpath.specs.declared.place.Place.{Place}
use Rattle.sw_lossy.specs.declared.acts.Acts.{Acts}
use Rattle.sw_message.specs.declared.fields.Field.{Field}
use Rattle.sw_ring.specs.declared.ring.Ring.{Ring}
use Rattle.sw_timestamp.proofs.TimeTextLemmas.{reads_as_one}
use Rattle.sw_timestamp.specs.TimeText.{IsTimeText}
use Rattle.sw_control.proofs.OnePush.{one_acts, one_container, one_device, one_number}
use Rattle.sw_control.specs.ShardRequests.{IsCleaving, IsShardCreation, IsShardsRead}
use Rattle.sw_control.specs.declared.cleaving.Cleaving.{Cleaving}
use Rattle.sw_control.specs.declared.shard_creation.ShardCreation.{ShardCreation}
use Rattle.sw_control.specs.declared.shards_read.ShardsRead.{ShardsRead}

one_time : (fields : List Field) (a b : ℕ) → IsTimeOf fields a → IsTimeOf fields b → a ≡ b
one_time fields a b p q =
    let texts : p.0 ≡ q.0 = same_Some p.0 q.0 (sym p.1 ∙ q.1) in
    reads_as_one q.0 a b (subst (λ (text : List ℕ). IsTimeText text a) texts p.2) q.2

same_creations : (a b : ShardCreation) → a.device ≡ b.device → a.place ≡ b.place → a.per_shard ≡ b.per_shard → a.time ≡ b.time → a.acts ≡ b.acts → a ≡ b
same_creations a b device place per_shard time acts =
    let with_device : ℕ → ShardCreation = λ x. record a { device = x } in
    let with_place : Place → ShardCreation = λ x. record a { device = b.device; place = x } in
    let with_per_shard : ℕ → ShardCreation = λ x. record b { per_shard = x; time = a.time; acts = a.acts } in
    let with_time : ℕ → ShardCreation = λ x. record b { time = x; acts = a.acts } in
    let with_acts : Acts → ShardCreation = λ x. record b { acts = x } in
    ap with_device device ∙ (ap with_place place ∙ (ap with_per_shard per_shard ∙ (ap with_time time ∙ ap with_acts acts)))

pub one_shard_creation : (ring : Ring) (name account container per_shard other account' container' per_shard' : List ℕ) (fields : List Field)
    (a b : ShardCreation) → name ≡ other → account ≡ account' → container ≡ container' → per_shard ≡ per_shard'
    → IsShardCreation ring name account container per_shard fields a → IsShardCreation ring other account' container' per_shard' fields b → a ≡ b
one_shard_creation ring name account container per_shard other account' container' per_shard' fields a b same same_account same_container same_per_shard p q =
    let device = one_device ring name other a.device b.device same p.device q.device in
    let place = one_container ring account container account' container' a.place b.place same_account same_container p.place.place_is q.place.place_is in
    let per_shards = one_number per_shard per_shard' a.per_shard b.per_shard same_per_shard p.per_shard_is q.per_shard_is in
    let time = one_time fields a.time b.time p.time q.time in
    let acts = one_acts fields a.acts b.acts p.acts q.acts in
    same_creations a b device place per_shards time acts

same_cleavings : (a b : Cleaving) → a.device ≡ b.device → a.place ≡ b.place → a.acts ≡ b.acts → a ≡ b
same_cleavings a b device place acts =
    let with_device : ℕ → Cleaving = λ x. record a { device = x } in
    let with_place : Place → Cleaving = λ x. record b { place = x; acts = a.acts } in
    let with_acts : Acts → Cleaving = λ x. record b { acts = x } in
    ap with_device device ∙ (ap with_place place ∙ ap with_acts acts)

pub one_cleaving : (ring : Ring) (name account container other account' container' : List ℕ) (fields : List Field) (a b : Cleaving)
    → name ≡ other → account ≡ account' → container ≡ container'
    → IsCleaving ring name account container fields a → IsCleaving ring other account' container' fields b → a ≡ b
one_cleaving ring name account container other account' container' fields a b same same_account same_container p q =
    let device = one_device ring name other a.device b.device same p.device q.device in
    let place = one_container ring account container account' container' a.place b.place same_account same_container p.place.place_is q.place.place_is in
    let acts = one_acts fields a.acts b.acts p.acts q.acts in
    same_cleavings a b device place acts

same_reads : (a b : ShardsRead) → a.device ≡ b.device → a.place ≡ b.place → a ≡ b
same_reads a b device place =
    let with_device : ℕ → ShardsRead = λ x. record a { device = x } in
    let with_place : Place → ShardsRead = λ x. record b { place = x } in
    ap with_device device ∙ ap with_place place

pub one_shards_read : (ring : Ring) (name account container other account' container' : List ℕ) (a b : ShardsRead)
    → name ≡ other → account ≡ account' → container ≡ container'
    → IsShardsRead ring name account container a → IsShardsRead ring other account' container' b → a ≡ b
one_shards_read ring name account container other account' container' a b same same_account same_container p q =
    let device = one_device ring name other a.device b.device same p.device q.device in
    let place = one_container ring account container account' container' a.place b.place same_account same_container p.place q.place in
    same_reads a b device place
