pub mod Laws
pub mod Partitions
pub mod Places
pub mod Readings
pub mod Steps
pub mod Walks
