pub mod Greatest
pub mod Suffixes
pub mod Names
pub mod Naming
