mod Calling
mod Causing
mod Coming
mod CreateCausing
mod CreateKeeping
mod Going
mod Keeping
pub mod Leaving
mod Making
mod Moving
mod Ranging
mod Tiling
