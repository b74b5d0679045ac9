pub mod Bases
pub mod DeleteTimes
pub mod HeadNames
pub mod Laws
pub mod Metas
pub mod States
pub mod Writes
