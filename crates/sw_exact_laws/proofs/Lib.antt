pub mod Tiling
pub mod Standing
pub mod Lines
pub mod Running
pub mod Showing
