pub mod Asking
pub mod Plain
pub mod Laws
