pub mod Lifting
pub mod Limits
pub mod Lines
pub mod Listing
pub mod Making
pub mod Sound
pub mod Stopping
pub mod Worlds
