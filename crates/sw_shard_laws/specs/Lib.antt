pub mod Changes
pub mod Laws
pub mod Ledger
pub mod Sound
