mod Entries
pub mod Lines
