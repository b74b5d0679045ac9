mod Acknowledging
pub mod Along
mod Behind
pub mod CleaveRunning
pub mod CreationRunning
pub mod Evidence
pub mod Exchanging
pub mod Going
pub mod GoingBy
mod Holding
mod Honestly
mod Leaving
mod Marking
mod Redirecting
pub mod RowRunning
pub mod Running
mod Sending
mod Staying
pub mod Stepping
mod Telling
pub mod UpdateRunning
mod Within
