mod Accepted
mod JsonTexts
pub mod Repeats
mod Stripes
