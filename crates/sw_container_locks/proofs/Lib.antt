pub mod Anew
pub mod Keeping
pub mod Lists
pub mod Placed
pub mod Ranges
