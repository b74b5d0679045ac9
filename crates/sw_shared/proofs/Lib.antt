pub mod PartReads
pub mod Placing
pub mod Seeing
pub mod Sharing
pub mod Turning
