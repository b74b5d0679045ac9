mod InRange
mod Places
mod Slots
pub mod AtPlaces
pub mod Pairs
