pub mod Among
pub mod Begun
pub mod Plain
pub mod Rows
pub mod Showing
pub mod Steady
