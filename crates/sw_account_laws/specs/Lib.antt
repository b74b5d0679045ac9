pub mod Accounts
pub mod Sound
pub mod Laws
