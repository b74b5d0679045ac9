-- The replica of shards that the fields of a request ask for: it is one, and it is one of the ring's.
use Rattle.std.proofs.Common.{◌≡◌, ℕ, ◌<◌, List, Option, Some, None, arith, sym, ◌∙◌}
use Rattle.std.proofs.lemmas.Fmt.{decimal_injective}
use Rattle.std.specs.Prelude.{codes}
use Rattle.sw_message.specs.Fields.{field_value_of}
use Rattle.sw_message.specs.declared.fields.Field.{Field}
use Rattle.sw_ring.specs.declared.ring.Ring.{Ring}
use Rattle.sw_container_server.specs.RowFields.{AsksReplica, AsksReplicaBy}

module _ (ring : Ring) where
  one-by : (text : Option (List ℕ)) (a b : ℕ) → AsksReplicaBy ring text a → AsksReplicaBy ring text b → a ≡ b
  one-by None a b p q = p ∙ sym q
  one-by (Some text) a b p q =
      decimal_injective a b (omega (arith, p.0, ring.greatest_replicas)) (omega (arith, q.0, ring.greatest_replicas)) (sym p.1 ∙ q.1)

  below-by : (text : Option (List ℕ)) (replica : ℕ) → AsksReplicaBy ring text replica → replica < ring.replicas
  below-by None replica is = omega (arith, is, ring.least_replicas)
  below-by (Some text) replica is = is.0

  pub one-replica : (fields : List Field) (a b : ℕ) → AsksReplica ring fields a → AsksReplica ring fields b → a ≡ b
  one-replica fields = one-by (field_value_of (codes "x-swc-shard-replica") fields)

  pub asked-below : (fields : List Field) (replica : ℕ) → AsksReplica ring fields replica → replica < ring.replicas
  asked-below fields = below-by (field_value_of (codes "x-swc-shard-replica") fields)
