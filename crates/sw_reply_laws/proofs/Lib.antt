pub mod Changing
pub mod Greatest
pub mod Lateness
pub mod Lines
pub mod Making
pub mod Refusing
pub mod Running
