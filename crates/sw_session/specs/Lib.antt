pub mod Closing
pub mod Fault
pub mod Passages
pub mod Replies
pub mod Session
pub mod Turn
