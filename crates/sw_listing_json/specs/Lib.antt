pub mod Dates
pub mod Json
pub mod Laws
pub mod Writing
