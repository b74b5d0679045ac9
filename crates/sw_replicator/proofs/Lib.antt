mod Asking
pub mod Compared
mod Covering
pub mod Exchanging
mod Going
mod Joining
pub mod Keeping
mod Making
pub mod Meeting
mod Passing
pub mod Reaching
pub mod Reading
mod Searching
mod Taking
