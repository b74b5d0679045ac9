pub mod Asking
pub mod Laws
pub mod Replies
pub mod ReplicaText
pub mod Serving
pub mod Suffixes
pub mod Targets
