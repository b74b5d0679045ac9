pub mod Picked
pub mod Showable
pub mod Laws
