pub mod Places
pub mod Rings
pub mod Shelf
pub mod Telling
pub mod Starting
