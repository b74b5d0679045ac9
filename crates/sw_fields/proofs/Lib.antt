pub mod KeptItems
pub mod Seconds
pub mod Times
