pub mod Calls
pub mod ContCalls
pub mod Heard
