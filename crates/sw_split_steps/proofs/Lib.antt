pub mod Closing
pub mod Ordering
pub mod Passing
pub mod Refusing
pub mod Ways
