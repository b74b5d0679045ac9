pub mod Laws
pub mod Places
pub mod Readings
pub mod Steps
pub mod Walks
