pub mod Accounts
pub mod Hearing
pub mod Coming
pub mod Sending
pub mod Running
pub mod Ending
