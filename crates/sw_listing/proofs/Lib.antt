pub mod Bounds
pub mod Members
pub mod Numerals
pub mod Orders
pub mod Rolling
pub mod Rolls
pub mod Walks
