pub mod Laws
pub mod Ledger
pub mod Sound
