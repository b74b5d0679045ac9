pub mod Causes
pub mod Cleaving
pub mod Counting
pub mod Creating
pub mod Cutting
pub mod Laws
pub mod Shards
