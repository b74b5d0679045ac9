pub mod Exchanging
pub mod Laws
pub mod Passing
pub mod Stepping
