pub mod Across
pub mod Counts
pub mod Laws
pub mod Nodes
pub mod Parts
pub mod Reads
