pub mod Answering
pub mod Apart
pub mod Hashes
pub mod Keyed
pub mod Lists
pub mod Parts
pub mod RecordSteps
pub mod Recording
mod Refusals
pub mod Ruling
pub mod SettledSingles
pub mod Settlings
pub mod Singles
pub mod Telling
pub mod Undoubted
