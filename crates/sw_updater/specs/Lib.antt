pub mod Causes
pub mod Laws
pub mod Reading
pub mod Tasks
pub mod Updating
