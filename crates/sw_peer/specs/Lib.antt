pub mod Carriage
pub mod ContSights
pub mod Lines
pub mod Sights
