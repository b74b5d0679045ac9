pub mod Outcomes
pub mod Rings
pub mod Turns
