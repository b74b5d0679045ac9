pub mod Fields
pub mod Framing
pub mod Head
pub mod Look
pub mod Reply
