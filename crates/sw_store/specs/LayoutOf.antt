-- Which layout is that of a ring, and what is known of one from a text. (This project's own.)
use Rattle.std.specs.Prelude.{◌≡◌, ◌^◌, ℕ, List, length, Option, None, IsSomeAnd, MatchResult}
use Rattle.sw_ring.specs.RingData.{RingData}
use Rattle.sw_ring.specs.Texts.{ring_text}
use Rattle.sw_store.specs.Layouts.{layout_text}
use Rattle.sw_store.specs.declared.layout.Layout.{Layout}

-- a layout is that of this ring
pub record IsLayout (layout : Layout) (ring : RingData) : Type 0 where
  pub text : layout.text.items ≡ layout_text ring
  pub devices : layout.devices ≡ length ring.devices
  pub stripes : layout.stripes ≡ 2 ^ ring.lock_bits
  pub power : layout.power ≡ ring.power

-- that of the ring that a text is, and none where it is no ring
abbrev pub IsLayoutIn : Option Layout → List ℕ → Type 0
IsLayoutIn found text = MatchResult (ring_text text) (λ ring. IsSomeAnd found (λ layout. IsLayout layout ring)) (λ bad. found ≡ None)
