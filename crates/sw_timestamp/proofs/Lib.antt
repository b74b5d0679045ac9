pub mod DigitsAtFront
pub mod NormalText
pub mod TextLaws
pub mod TimeTextLemmas
pub mod UnitsBound
