pub mod Names
pub mod Ranges
pub mod Bounds
pub mod ShardNames
pub mod States
pub mod Laws
