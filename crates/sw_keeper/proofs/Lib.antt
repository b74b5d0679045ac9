pub mod Drafting
pub mod Keeping
pub mod Placing
pub mod Searching
