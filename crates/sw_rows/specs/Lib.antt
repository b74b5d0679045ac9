pub mod Exchanging
pub mod Index
pub mod Laws
pub mod Left
pub mod Names
pub mod Rows
pub mod Running
pub mod Sums
