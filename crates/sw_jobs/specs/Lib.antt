pub mod Draws
pub mod Requests
pub mod Passes
pub mod Generated
pub mod Disagreements
pub mod Firsts
pub mod Laws
