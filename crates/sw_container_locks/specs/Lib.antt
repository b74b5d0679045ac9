pub mod Halves
pub mod Laws
pub mod Limits
pub mod Making
pub mod Restarting
pub mod Slots
