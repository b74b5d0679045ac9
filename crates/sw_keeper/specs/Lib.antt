pub mod Changes
pub mod Drafts
pub mod Keeping
pub mod MemState
pub mod Places
