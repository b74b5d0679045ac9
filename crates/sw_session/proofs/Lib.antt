mod Ends
pub mod Mapping
mod Turns
