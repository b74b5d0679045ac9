mod Numerals
mod Pairs
pub mod Serving
